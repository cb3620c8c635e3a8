-- The rounds of a reader.
use Rattle.std.proofs.Common.{◌≡◌, ◌≤◌, ◌+◌, ℕ, List, [], ◌∷◌, ◌++◌, length, All, Option, refl, sym, ap, subst, ◌∙◌, arith}
use Rattle.std.proofs.lemmas.List.{length-map, map_push}
use Rattle.std.proofs.lemmas.List.Elements.{All-nil, All-push, All-weaker}
use Rattle.tab_spec.specs.Frame.{Frames, frames, is_bad}
use Rattle.connection_core.specs.declared.between.Between.{Between}
use Rattle.connection_core.specs.declared.between.Side.{Side}
use Rattle.connection_core.specs.declared.message.Ended.{Ended}
use Rattle.connection_core.specs.declared.message.Ended.TheVariants as ends
use Rattle.connection_core.specs.declared.message.Message.TheVariants as messages
use Rattle.connection_core.specs.declared.intake.Round.TheVariants as rounds
use Rattle.connection_core.specs.Line.{LineView, messages_of, sending, with_sent}
use Rattle.connection_core.specs.Rounds.{HasSent, IsEnd, IsRound, IsTakenFrom, ReadsTo}
use Rattle.connection_core.specs.Sides.{IsFreshReaders, IsReaders}
use Rattle.connection_core.proofs.Cutting.{IsCut, cut_all, cut_cancel, cut_command, cut_fed, cut_none, one_longer, raised_all, same_ending, taken_all, taken_more, taken_none, taken_same}

-- so many commands were sent so far, and the word was raised at each cancel
pub record ReadSoFar (count : ℕ) (given left : Option (List ℕ)) (line : LineView) (raised kept : List ℕ) : Type 0 where
  pub taken : List ℕ
  pub list : List (List ℕ)
  pub took : IsTakenFrom given left taken
  pub cut : IsCut taken list raised kept
  pub count_is : length list ≡ count
  pub line_is : line ≡ sending (messages_of list)
  pub low : All (λ (n : ℕ). n ≤ count) raised

pub read_first : (given : Option (List ℕ)) (line : LineView) (raised kept : List ℕ) → line ≡ sending [] → raised ≡ [] → kept ≡ [] → ReadSoFar 0 given given line raised kept
read_first given line raised kept unsent unraised empty =
    subst (ReadSoFar 0 given given line raised) (sym empty) (subst (λ (r : List ℕ). ReadSoFar 0 given given line r []) (sym unraised) (record {
      taken = [];
      list = [];
      took = taken_none given;
      cut = cut_none;
      count_is = refl;
      line_is = unsent;
      low = All-nil (λ (n : ℕ). n ≤ 0);
    }))

pub read_command : (count : ℕ) (given left left_new : Option (List ℕ)) (line line_new : LineView) (raised raised_new kept kept_new frame : List ℕ) → ReadSoFar count given left line raised kept
    → IsRound rounds.Command left left_new kept kept_new frame → line_new ≡ with_sent line (messages.Command frame) → raised_new ≡ raised → ReadSoFar (count + 1) given left_new line_new raised_new kept_new
read_command count given left left_new line line_new raised raised_new kept kept_new frame so round sent same =
    subst (λ (r : List ℕ). ReadSoFar (count + 1) given left_new line_new r kept_new) (sym same) (record {
      taken = so.taken;
      list = so.list ++ frame ∷ [];
      took = taken_same given left left_new so.taken round.1 so.took;
      cut = cut_command so.taken so.list raised kept kept_new frame so.cut round.0;
      count_is = one_longer so.list frame ∙ ap (λ (n : ℕ). n + 1) so.count_is;
      line_is = sent ∙ ap (λ (v : LineView). with_sent v (messages.Command frame)) so.line_is ∙ ap sending (sym (map_push messages.Command so.list frame));
      low = All-weaker (λ (n : ℕ). n ≤ count) (λ (n : ℕ). n ≤ count + 1) (λ n le. omega (arith, le)) raised so.low;
    })

pub read_cancel : (count : ℕ) (given left left_new : Option (List ℕ)) (line : LineView) (raised raised_new kept kept_new frame : List ℕ) → ReadSoFar count given left line raised kept
    → IsRound rounds.Cancel left left_new kept kept_new frame → raised_new ≡ raised ++ count ∷ [] → ReadSoFar count given left_new line raised_new kept_new
read_cancel count given left left_new line raised raised_new kept kept_new frame so round is =
    subst (λ (r : List ℕ). ReadSoFar count given left_new line r kept_new) (sym is) (record {
      taken = so.taken;
      list = so.list;
      took = taken_same given left left_new so.taken round.1 so.took;
      cut = subst (λ (n : ℕ). IsCut so.taken so.list (raised ++ n ∷ []) kept_new) so.count_is (cut_cancel so.taken so.list raised kept kept_new frame so.cut round.0);
      count_is = so.count_is;
      line_is = so.line_is;
      low = All-push (λ (n : ℕ). n ≤ count) raised count so.low (omega arith);
    })

pub read_pulled : (count : ℕ) (given left left_new : Option (List ℕ)) (line : LineView) (raised kept kept_new frame : List ℕ) → ReadSoFar count given left line raised kept
    → IsRound rounds.Pulled left left_new kept kept_new frame → ReadSoFar count given left_new line raised kept_new
read_pulled count given left left_new line raised kept kept_new frame so round = record {
  taken = so.taken ++ round.1.piece;
  list = so.list;
  took = taken_more given left left_new so.taken round.1.piece so.took round.1.took;
  cut = cut_fed so.taken so.list raised kept kept_new round.1.piece so.cut round.1.kept_is;
  count_is = so.count_is;
  line_is = so.line_is;
  low = so.low;
}

-- no byte had come
pub read_nothing : (count : ℕ) (given left left_new : Option (List ℕ)) (line : LineView) (raised kept kept_new frame : List ℕ) → ReadSoFar count given left line raised kept
    → IsRound rounds.Nothing left left_new kept kept_new frame → ReadSoFar count given left_new line raised kept_new
read_nothing count given left left_new line raised kept kept_new frame so round =
    subst (ReadSoFar count given left_new line raised) (sym round.1.0) (subst (λ (l : Option (List ℕ)). ReadSoFar count given l line raised kept) (sym round.1.1) so)

-- the same is sent, or held
pub read_sent : (count : ℕ) (given left : Option (List ℕ)) (line line_new : LineView) (raised raised_new kept : List ℕ) → line_new ≡ line → raised_new ≡ raised → ReadSoFar count given left line raised kept
    → ReadSoFar count given left line_new raised_new kept
read_sent count given left line line_new raised raised_new kept same stays so =
    subst (λ (v : LineView). ReadSoFar count given left v raised_new kept) (sym same) (subst (λ (r : List ℕ). ReadSoFar count given left line r kept) (sym stays) so)

-- how many messages were sent
pub sent_count : (count : ℕ) (given left : Option (List ℕ)) (line : LineView) (raised kept : List ℕ) → ReadSoFar count given left line raised kept → length line.sent ≡ count
sent_count count given left line raised kept so = ap (λ (v : LineView). length v.sent) so.line_is ∙ length-map so.list messages.Command ∙ so.count_is

-- ---- the end

-- no frame is left, whatever the end is
no_frame : (ended : Ended) (left left_new : Option (List ℕ)) (kept : List ℕ) → IsEnd ended left left_new kept → (frames kept).items ≡ []
no_frame ends.NoMore left left_new kept end = end.0.none
no_frame (ends.BadSize size) left left_new kept end = ap (λ (f : Frames). f.items) end.0
no_frame ends.Fault left left_new kept end = end.0.none

reads_to : (ended : Ended) (given left left_new : Option (List ℕ)) (taken : List ℕ) (list : List (List ℕ)) (raised kept : List ℕ) → IsTakenFrom given left taken → IsCut taken list raised kept → IsEnd ended left left_new kept
    → IsTakenFrom given left_new taken × ReadsTo ended given taken
reads_to ends.NoMore given left left_new taken list raised kept took cut end =
    let all = taken_all given left left_new taken took end.1 in
    (all.0, (ap is_bad (same_ending taken list raised kept cut) ∙ end.0.sound, all.1))
reads_to (ends.BadSize size) given left left_new taken list raised kept took cut end =
    (taken_same given left left_new taken end.1 took, same_ending taken list raised kept cut ∙ ap (λ (f : Frames). f.ending) end.0)
reads_to ends.Fault given left left_new taken list raised kept took cut end =
    (taken_same given left left_new taken end.1 took, ap is_bad (same_ending taken list raised kept cut) ∙ end.0.sound)

pub read_end : (ended : Ended) (count : ℕ) (given left left_new : Option (List ℕ)) (line : LineView) (raised kept kept_new frame : List ℕ) → ReadSoFar count given left line raised kept
    → IsRound (rounds.End ended) left left_new kept kept_new frame → HasSent ended given left_new line.sent raised
read_end ended count given left left_new line raised kept kept_new frame so round =
    let none = no_frame ended left left_new kept round in
    let both = reads_to ended given left left_new so.taken so.list raised kept so.took so.cut round in
    record {
      taken = so.taken;
      took = both.0;
      sent_is = ap (λ (v : LineView). v.sent) so.line_is ∙ ap messages_of (sym (cut_all so.taken so.list raised kept so.cut none));
      raised_is = sym (raised_all so.taken so.list raised kept so.cut none);
      ends = both.1;
    }

-- the same, once all that was held is sent
pub read_end_sent : (ended : Ended) (count : ℕ) (given left left_new : Option (List ℕ)) (line line_new : LineView) (raised raised_new kept kept_new frame : List ℕ) → ReadSoFar count given left line raised kept
    → IsRound (rounds.End ended) left left_new kept kept_new frame → line_new ≡ line → raised_new ≡ raised → HasSent ended given left_new line_new.sent raised_new
read_end_sent ended count given left left_new line line_new raised raised_new kept kept_new frame so round same stays =
    read_end ended count given left left_new line_new raised_new kept kept_new frame (read_sent count given left line line_new raised raised_new kept same stays so) round

-- ---- its side

pub readers_at_first : (between : Between) (side : Side) → IsFreshReaders between side → IsReaders between side
readers_at_first between side fresh = record { of = fresh.of; sends = ap (λ (v : LineView). v.sends) fresh.unsent }

-- the word was raised
pub readers_raised : (between : Between) (side side_new : Side) → IsReaders between side → side_new.pass ≡ side.pass → side_new.spare_pass ≡ side.spare_pass
    → side_new.seat.word ≡ side.seat.word → side_new.seat.role ≡ side.seat.role → IsReaders between side_new
readers_raised between side side_new is pass spare_pass word role = record {
  of = record {
    line = rw pass is.of.line;
    spares = rw spare_pass is.of.spares;
    word = word ∙ is.of.word;
    role_is = role ∙ is.of.role_is;
  };
  sends = rw pass is.sends;
}
