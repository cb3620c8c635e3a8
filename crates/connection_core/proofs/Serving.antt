-- A worker from one command to the next, and the end of a connection.
use Rattle.std.proofs.Common.{◌≡◌, ◌≤◌, ◌+◌, ℕ, zero, suc, Bool, true, List, [], ◌∷◌, ◌++◌, length, take, All, Option, Some, None, refl, sym, ap, subst, ◌∙◌, append_assoc, arith, length-append, inl, inr}
use Rattle.std.proofs.lemmas.List.{append-nil, map_push, take_all}
use Rattle.std.proofs.Math.Seq.{take-append_seam}
use Rattle.crossbeam_channel.specs.Claims.{Pass, view}
use Rattle.link_port.specs.Port.{with_more}
use Rattle.tab_spec.specs.declared.TheConstants.{RC_COMMAND_SIZE}
use Rattle.tab_spec.specs.Frame.{commands, is_bad}
use Rattle.tab_spec.specs.Reply.{error_reply}
use Rattle.history_spec.specs.Entry.{Entry}
use Rattle.broker_lock.specs.declared.calls.Job.TheVariants as jobs
use Rattle.broker_lock.specs.Known.{Fixed, Origin}
use Rattle.broker_lock.specs.Pass.{PassView}
use Rattle.cancel_words.specs.View.{IsZeroOrRaised, WordView, of_both}
use Rattle.connection_core.specs.declared.ends.Ending.{Ending}
use Rattle.connection_core.specs.declared.ends.Ending.TheVariants as endings
use Rattle.connection_core.specs.declared.message.Ended.{Ended}
use Rattle.connection_core.specs.declared.message.Ended.TheVariants as ends
use Rattle.connection_core.specs.declared.message.Message.{Message}
use Rattle.connection_core.specs.declared.message.Message.TheVariants as messages
use Rattle.connection_core.specs.declared.between.Between.{Between}
use Rattle.connection_core.specs.declared.between.Side.{Side}
use Rattle.connection_core.specs.Keeps.{AreDropped}
use Rattle.connection_core.specs.Line.{LineView, messages_of, with_taken}
use Rattle.connection_core.specs.Links.{AnswersAll, AreEntriesFrom, AreRepliesFrom, CutsReply, DecideFrom, EndsAs, HasEndingCause, IsClosedLink, IsSeatOf, IsStopped, IsTold, KnowsClient, StaysOrRose}
use Rattle.connection_core.specs.Rounds.{EndCounts, HasRead, ReadsTo}
use Rattle.connection_core.specs.Sides.{IsFreshWorkers, IsWorkers}
use Rattle.connection_core.specs.Turns.{AsksInTurn, AsksNext, WroteFront}
use Rattle.connection_core.specs.Works.{CutsShort, HasWorked, IsDrained, SoFar, WorkCounts, WorksTo}
use Rattle.connection_core.proofs.Covering.{canceled_by}
use Rattle.connection_core.proofs.Entering.{answered, closed_as, entries_on, goes_on_act}
use Rattle.connection_core.proofs.Telling.{AddsNone, answers_of, decide_stay, replies_push, replies_stay, told_on}

with_nothing : (written : Option (List ℕ)) → written ≡ with_more written []
with_nothing None = refl
with_nothing (Some bytes) = ap (λ (l : List ℕ). Some l) (sym (append-nil bytes))

with_more-append : (written : Option (List ℕ)) (xs ys : List ℕ) → with_more (with_more written xs) ys ≡ with_more written (xs ++ ys)
with_more-append None xs ys = refl
with_more-append (Some bytes) xs ys = ap (λ (l : List ℕ). Some l) (append_assoc bytes xs ys)

written_more : (written between written_new : Option (List ℕ)) (output more : List ℕ) → between ≡ with_more written output → written_new ≡ with_more between more → written_new ≡ with_more written (output ++ more)
written_more written between written_new output more first second =
    second ∙ ap (λ (w : Option (List ℕ)). with_more w more) first ∙ with_more-append written output more

-- ---- what a pass of the line took

pub taken_by : (p q : Pass Message LineView) (v : LineView) (message : Message) → p ≡ q → view q ≡ with_taken v message → (view p).taken ≡ v.taken ++ message ∷ []
taken_by p q v message same is = ap (λ (x : Pass Message LineView). (view x).taken) same ∙ ap (λ (x : LineView). x.taken) is

pub workers_at_first : (between : Between) (side : Side) → IsFreshWorkers between side → IsWorkers between side
workers_at_first between side fresh = record { of = fresh.of; takes = ap (λ (v : LineView). v.takes) fresh.untaken }

-- ---- from one command to the next

-- nothing came yet
pub so_far_first : (pass : PassView) (client done : ℕ) (taken : List Message) (loaded : List ℕ) (written : Option (List ℕ)) → KnowsClient pass client 0 [] → done ≡ 0 → taken ≡ [] → loaded ≡ []
    → SoFar pass client done taken [] loaded written written
so_far_first pass client done taken loaded written serves is untaken unloaded =
    subst (λ (t : List Message). SoFar pass client done t [] loaded written written) (sym untaken)
    (subst (λ (l : List ℕ). SoFar pass client done [] [] l written written) (sym unloaded)
    (subst (λ (n : ℕ). SoFar pass client n [] [] [] written written) (sym is) (record {
      list = [];
      output = [];
      entries = [];
      taken_is = refl;
      count = refl;
      serves = serves;
      entries_are = refl;
      replies = refl;
      loads = refl;
      decide = tt;
      written_is = with_nothing written;
    })))

one_more : {X : Type 0} (done : ℕ) (list : List X) (out : X) → length list ≡ done → length (list ++ out ∷ []) ≡ done + 1
one_more done list out count = omega (arith, count, length-append list (out ∷ []))

taken_command : (taken taken_new : List Message) (list : List (List ℕ)) (command : List ℕ) → taken ≡ messages_of list ++ [] → taken_new ≡ taken ++ messages.Command command ∷ []
    → taken_new ≡ messages_of (list ++ command ∷ [])
taken_command taken taken_new list command is more =
    more ∙ ap (λ (l : List Message). l ++ messages.Command command ∷ []) (is ∙ append-nil (messages_of list)) ∙ sym (map_push messages.Command list command)

-- a command was taken, and its reply was written
pub so_far_run : {legal : Origin → List Entry → Type 0} (old new : PassView) (client done : ℕ) (taken taken_new : List Message) (seat seat_new : WordView) (written between written_new : Option (List ℕ)) (command reply : List ℕ)
    → SoFar old client done taken [] seat.loaded written between → taken_new ≡ taken ++ messages.Command command ∷ [] → AsksNext legal old client (done + 1) seat seat_new command reply new
    → written_new ≡ with_more between reply → SoFar new client (done + 1) taken_new [] seat_new.loaded written written_new
so_far_run old new client done taken taken_new seat seat_new written between written_new command reply so more asks wrote =
    let run = answered old new client done asks.word so.list seat.loaded so.output so.entries command reply so.serves so.count so.loads so.entries_are so.replies so.decide asks.asks in
    let same : new.fixed ≡ old.fixed = (goes_on_act old new _ command reply asks.asks.0 asks.asks.1).fixed in
    let all = replies_push old.fixed new.wrong new.front client 1 so.list so.output command reply run.replies
    (subst (λ (n : ℕ). IsTold old.fixed new.wrong new.front client n command reply) (let e : done + 1 ≡ 1 + length so.list = omega (arith, so.count) in e) run.told) in
    let loads : seat_new.loaded ≡ seat.loaded ++ asks.word ∷ [] = ap (λ (v : WordView). v.loaded) asks.seat_is in
    record {
      list = so.list ++ command ∷ [];
      output = so.output ++ reply;
      entries = so.entries ++ run.added;
      taken_is = taken_command taken taken_new so.list command so.taken_is more ∙ sym (append-nil (messages_of (so.list ++ command ∷ [])));
      count = one_more done so.list command so.count;
      serves = run.serves;
      entries_are = subst (λ (f : Fixed). AreEntriesFrom f new.front client 1 (so.list ++ command ∷ []) (so.entries ++ run.added)) (sym same) run.entries_are;
      replies = subst (λ (f : Fixed). AreRepliesFrom f new.wrong new.front client 1 (so.list ++ command ∷ []) (so.output ++ reply)) (sym same) all;
      loads = ap length loads ∙ one_more done seat.loaded asks.word so.loads;
      decide = subst (DecideFrom new.front client 1) (sym loads) run.decide;
      written_is = written_more written between written_new so.output reply so.written_is wrote;
    }

-- a command was taken, and its reply wasn't written to its end
pub so_far_cut : {legal : Origin → List Entry → Type 0} (old new : PassView) (client done : ℕ) (taken taken_new : List Message) (seat seat_new : WordView) (written between written_new : Option (List ℕ)) (command reply : List ℕ)
    → SoFar old client done taken [] seat.loaded written between → taken_new ≡ taken ++ messages.Command command ∷ [] → AsksNext legal old client (done + 1) seat seat_new command reply new
    → WroteFront reply between written_new → CutsShort new client (done + 1) taken_new seat_new.loaded written written_new
so_far_cut old new client done taken taken_new seat seat_new written between written_new command reply so more asks front =
    let run = answered old new client done asks.word so.list seat.loaded so.output so.entries command reply so.serves so.count so.loads so.entries_are so.replies so.decide asks.asks in
    let same : new.fixed ≡ old.fixed = (goes_on_act old new _ command reply asks.asks.0 asks.asks.1).fixed in
    let loads : seat_new.loaded ≡ seat.loaded ++ asks.word ∷ [] = ap (λ (v : WordView). v.loaded) asks.seat_is in
    let count = one_more done so.list command so.count in
    let whole : take (done + 1) (so.list ++ command ∷ []) ≡ so.list ++ command ∷ [] = take_all (done + 1) (so.list ++ command ∷ []) (omega (arith, count)) in
    let first : take done (so.list ++ command ∷ []) ≡ so.list = ap (λ (n : ℕ). take n (so.list ++ command ∷ [])) (sym so.count) ∙ take-append_seam so.list (command ∷ []) in
    record {
      list = so.list ++ command ∷ [];
      output = so.output ++ take front.0 reply;
      entries = so.entries ++ run.added;
      taken_is = taken_command taken taken_new so.list command so.taken_is more;
      count = count;
      serves = run.serves;
      entries_are = subst (λ (f : Fixed). AreEntriesFrom f new.front client 1 (so.list ++ command ∷ []) (so.entries ++ run.added)) (sym same) run.entries_are;
      cuts = record {
        earlier = done;
        command = command;
        before = so.output;
        reply = reply;
        k = front.0;
        done_is = refl;
        next = whole ∙ ap (λ (l : List (List ℕ)). l ++ command ∷ []) (sym first);
        replies = subst (λ (f : Fixed). AreRepliesFrom f new.wrong new.front client 1 (take done (so.list ++ command ∷ [])) so.output) (sym same)
            (subst (λ (l : List (List ℕ)). AreRepliesFrom old.fixed new.wrong new.front client 1 l so.output) (sym first) run.replies);
        told = subst (λ (f : Fixed). IsTold f new.wrong new.front client (done + 1) command reply) (sym same) run.told;
        short = front.1;
        output_is = refl;
      };
      loads = ap length loads ∙ one_more done seat.loaded asks.word so.loads;
      decide = subst (DecideFrom new.front client 1) (sym loads) run.decide;
      written_is = written_more written between written_new so.output (take front.0 reply) so.written_is front.2;
    }

-- the last message was taken
pub so_far_end : (pass : PassView) (client done : ℕ) (taken taken_new : List Message) (loaded : List ℕ) (written written_new : Option (List ℕ)) (ended : Ended) → SoFar pass client done taken [] loaded written written_new
    → taken_new ≡ taken ++ messages.End ended ∷ [] → SoFar pass client done taken_new (messages.End ended ∷ []) loaded written written_new
so_far_end pass client done taken taken_new loaded written written_new ended so more = record {
  list = so.list;
  output = so.output;
  entries = so.entries;
  taken_is = more ∙ ap (λ (l : List Message). l ++ messages.End ended ∷ []) (so.taken_is ∙ append-nil (messages_of so.list));
  count = so.count;
  serves = so.serves;
  entries_are = so.entries_are;
  replies = so.replies;
  loads = so.loads;
  decide = so.decide;
  written_is = so.written_is;
}

-- ---- what is dropped

pub dropped_none : (taken : List Message) → AreDropped taken taken
dropped_none taken = ([], sym (append-nil taken))

pub dropped_one : (taken between taken_new : List Message) (command : List ℕ) → AreDropped taken between → taken_new ≡ between ++ messages.Command command ∷ [] → AreDropped taken taken_new
dropped_one taken between taken_new command so more = (
  so.0 ++ command ∷ [],
  more ∙ ap (λ (l : List Message). l ++ messages.Command command ∷ []) so.1 ∙ append_assoc taken (messages_of so.0) (messages.Command command ∷ [])
      ∙ ap (λ (l : List Message). taken ++ l) (sym (map_push messages.Command so.0 command)),
)

pub drained : (taken between taken_new : List Message) (ended : Ended) → AreDropped taken between → taken_new ≡ between ++ messages.End ended ∷ [] → IsDrained taken taken_new
drained taken between taken_new ended so more = record {
  list = so.0;
  ended = ended;
  taken_is = more ∙ ap (λ (l : List Message). l ++ messages.End ended ∷ []) so.1 ∙ append_assoc taken (messages_of so.0) (messages.End ended ∷ []);
}

-- ---- what the worker leaves

answers_all : (fixed : Fixed) (wrong : Bool) (history : List Entry) (client done : ℕ) (list : List (List ℕ)) (output : List ℕ) → length list ≡ done → AreRepliesFrom fixed wrong history client 1 list output
    → AnswersAll fixed wrong history client done list output
answers_all fixed wrong history client done list output count replies = record {
  all = sym count;
  replies = replies;
  answers = λ base is. answers_of fixed wrong base history client 1 list output is replies;
}

-- all commands were taken up, and this was written
worked_all : (ending : Ending) (pass : PassView) (client done : ℕ) (taken : List Message) (ended : Ended) (loaded : List ℕ) (written between written_new : Option (List ℕ)) (output : List ℕ)
    → (so : SoFar pass client done taken (messages.End ended ∷ []) loaded written between) → written_new ≡ with_more written output
    → WorksTo ending ended pass.fixed pass.wrong pass.front client done so.list output → HasWorked ending pass client done taken loaded written written_new
worked_all ending pass client done taken ended loaded written between written_new output so wrote works = record {
  list = so.list;
  ended = ended;
  output = output;
  entries = so.entries;
  taken_is = so.taken_is;
  within = omega (arith, so.count);
  serves = so.serves;
  entries_are = subst (λ (l : List (List ℕ)). AreEntriesFrom pass.fixed pass.front client 1 l so.entries) (sym (take_all done so.list (omega (arith, so.count)))) so.entries_are;
  loads = so.loads;
  decide = so.decide;
  written_is = wrote;
  works = works;
}

pub worked_no_more : (pass : PassView) (client done : ℕ) (taken : List Message) (ended : Ended) (loaded : List ℕ) (written written_new : Option (List ℕ)) → SoFar pass client done taken (messages.End ended ∷ []) loaded written written_new
    → ended ≡ ends.NoMore → HasWorked endings.EndOfInput pass client done taken loaded written written_new
worked_no_more pass client done taken ended loaded written written_new so is =
    worked_all endings.EndOfInput pass client done taken ended loaded written written_new written_new so.output so so.written_is
    (is, answers_all pass.fixed pass.wrong pass.front client done so.list so.output so.count so.replies)

pub worked_fault : (pass : PassView) (client done : ℕ) (taken : List Message) (ended : Ended) (loaded : List ℕ) (written written_new : Option (List ℕ)) → SoFar pass client done taken (messages.End ended ∷ []) loaded written written_new
    → ended ≡ ends.Fault → HasWorked endings.ReadFault pass client done taken loaded written written_new
worked_fault pass client done taken ended loaded written written_new so is =
    worked_all endings.ReadFault pass client done taken ended loaded written written_new written_new so.output so so.written_is
    (is, answers_all pass.fixed pass.wrong pass.front client done so.list so.output so.count so.replies)

-- a bad size was told
pub worked_bad : (pass : PassView) (client done size : ℕ) (taken : List Message) (ended : Ended) (loaded : List ℕ) (written between written_new : Option (List ℕ))
    → SoFar pass client done taken (messages.End ended ∷ []) loaded written between → ended ≡ ends.BadSize size → written_new ≡ with_more between (error_reply RC_COMMAND_SIZE)
    → HasWorked (endings.BadFrame size) pass client done taken loaded written written_new
worked_bad pass client done size taken ended loaded written between written_new so is wrote =
    worked_all (endings.BadFrame size) pass client done taken ended loaded written between written_new (so.output ++ error_reply RC_COMMAND_SIZE) so
    (written_more written between written_new so.output (error_reply RC_COMMAND_SIZE) so.written_is wrote)
    (is, record { replies = so.output; answered = answers_all pass.fixed pass.wrong pass.front client done so.list so.output so.count so.replies; output_is = refl })

-- or wasn't, to its end
pub worked_bad_cut : (pass : PassView) (client done size : ℕ) (taken : List Message) (ended : Ended) (loaded : List ℕ) (written between written_new : Option (List ℕ))
    → SoFar pass client done taken (messages.End ended ∷ []) loaded written between → ended ≡ ends.BadSize size → WroteFront (error_reply RC_COMMAND_SIZE) between written_new
    → HasWorked endings.WriteFault pass client done taken loaded written written_new
worked_bad_cut pass client done size taken ended loaded written between written_new so is front =
    worked_all endings.WriteFault pass client done taken ended loaded written between written_new (so.output ++ take front.0 (error_reply RC_COMMAND_SIZE)) so
    (written_more written between written_new so.output (take front.0 (error_reply RC_COMMAND_SIZE)) so.written_is front.2)
    (inr (
      size,
      is,
      record {
        replies = so.output;
        k = front.0;
        answered = answers_all pass.fixed pass.wrong pass.front client done so.list so.output so.count so.replies;
        short = front.1;
        output_is = refl;
      },
    ))

-- the first commands of a longer list are the same
take_more : {X : Type 0} (n : ℕ) (xs ys : List X) → n ≤ length xs → take n (xs ++ ys) ≡ take n xs
take_more zero xs ys few = refl
take_more (suc n) [] ys few = absurd (omega (arith, few))
take_more (suc n) (x ∷ xs) ys few = ap (λ l. x ∷ l) (take_more n xs ys (omega arith))

cuts_more : (fixed : Fixed) (wrong : Bool) (history : List Entry) (client done : ℕ) (list more : List (List ℕ)) (output : List ℕ) → length list ≡ done → CutsReply fixed wrong history client done list output → CutsReply fixed wrong history client done (list ++ more) output
cuts_more fixed wrong history client done list more output count cuts =
    let first = take_more cuts.earlier list more (omega (arith, count, cuts.done_is)) in
    record {
      earlier = cuts.earlier;
      command = cuts.command;
      before = cuts.before;
      reply = cuts.reply;
      k = cuts.k;
      done_is = cuts.done_is;
      next = take_more done list more (omega (arith, count)) ∙ cuts.next ∙ ap (λ (l : List (List ℕ)). l ++ cuts.command ∷ []) (sym first);
      replies = subst (λ (l : List (List ℕ)). AreRepliesFrom fixed wrong history client 1 l cuts.before) (sym first) cuts.replies;
      told = cuts.told;
      short = cuts.short;
      output_is = cuts.output_is;
    }

-- a reply was cut short, and the commands behind it were dropped
pub worked_cut : (pass : PassView) (client done : ℕ) (taken taken_new : List Message) (loaded : List ℕ) (written written_new : Option (List ℕ)) → CutsShort pass client done taken loaded written written_new → IsDrained taken taken_new
    → HasWorked endings.WriteFault pass client done taken_new loaded written written_new
worked_cut pass client done taken taken_new loaded written written_new cut rest = record {
  list = cut.list ++ rest.list;
  ended = rest.ended;
  output = cut.output;
  entries = cut.entries;
  taken_is = rest.taken_is ∙ ap (λ (l : List Message). l ++ (messages_of rest.list ++ messages.End rest.ended ∷ [])) cut.taken_is
      ∙ sym (append_assoc (messages_of cut.list) (messages_of rest.list) (messages.End rest.ended ∷ []))
      ∙ ap (λ (l : List Message). l ++ messages.End rest.ended ∷ []) (sym (messages_of-append cut.list rest.list));
  within = omega (arith, cut.count, length-append cut.list rest.list);
  serves = cut.serves;
  entries_are = subst (λ (l : List (List ℕ)). AreEntriesFrom pass.fixed pass.front client 1 l cut.entries)
      (sym (take_more done cut.list rest.list (omega (arith, cut.count)) ∙ take_all done cut.list (omega (arith, cut.count)))) cut.entries_are;
  loads = cut.loads;
  decide = cut.decide;
  written_is = cut.written_is;
  works = inl (cuts_more pass.fixed pass.wrong pass.front client done cut.list rest.list cut.output cut.count cut.cuts);
}
  where
    messages_of-append : (xs ys : List (List ℕ)) → messages_of (xs ++ ys) ≡ messages_of xs ++ messages_of ys
    messages_of-append [] ys = refl
    messages_of-append (x ∷ xs) ys = ap (λ (l : List Message). messages.Command x ∷ l) (messages_of-append xs ys)

-- ---- both threads

-- what was taken, with what is left in the line, is what was sent: since the last message was taken, nothing is left
same_messages : (sent list : List (List ℕ)) (ended other : Ended) (items : List Message) → messages_of sent ++ messages.End ended ∷ [] ≡ (messages_of list ++ messages.End other ∷ []) ++ items
    → (sent ≡ list) × (ended ≡ other)
same_messages [] [] ended other items is = (refl, cc)
same_messages [] (command ∷ list) ended other items is = absurd cc
same_messages (command ∷ sent) [] ended other items is = absurd cc
same_messages (command ∷ sent) (asked ∷ list) ended other items is =
    let rest = same_messages sent list ended other items (tails _ _ _ _ is) in
    let first : command ≡ asked = heads _ _ _ _ is in
    ((λ i. first i ∷ rest.0 i), rest.1)
  where
    tails : (x y : Message) (xs ys : List Message) → x ∷ xs ≡ y ∷ ys → xs ≡ ys
    tails x y xs ys e = cc

    heads : (x y : List ℕ) (xs ys : List Message) → messages.Command x ∷ xs ≡ messages.Command y ∷ ys → x ≡ y
    heads x y xs ys e = cc

ends_as : (ending : Ending) (ended : Ended) (fixed : Fixed) (wrong : Bool) (history : List Entry) (client done : ℕ) (given : Option (List ℕ)) (taken output : List ℕ)
    → WorksTo ending ended fixed wrong history client done (commands taken) output → ReadsTo ended given taken → EndsAs ending fixed wrong history client done given taken output
ends_as endings.EndOfInput ended fixed wrong history client done given taken output works reads =
    let all = subst (λ (e : Ended). ReadsTo e given taken) works.0 reads in (works.1, all.0, all.1)
ends_as (endings.BadFrame size) ended fixed wrong history client done given taken output works reads = (works.1, subst (λ (e : Ended). ReadsTo e given taken) works.0 reads)
ends_as endings.ReadFault ended fixed wrong history client done given taken output works reads = (works.1, subst (λ (e : Ended). ReadsTo e given taken) works.0 reads)
ends_as endings.WriteFault ended fixed wrong history client done given taken output (inl cut) reads = inl cut
ends_as endings.WriteFault ended fixed wrong history client done given taken output (inr cut) reads = inr (cut.2, ap is_bad (subst (λ (e : Ended). ReadsTo e given taken) cut.1 reads))
ends_as endings.Memory ended fixed wrong history client done given taken output works reads = absurd works
ends_as (endings.JournalFull count limit) ended fixed wrong history client done given taken output works reads = absurd works
ends_as endings.Answer ended fixed wrong history client done given taken output works reads = absurd works

pub stopped_both : (ending : Ending) (pass : PassView) (client done : ℕ) (ended : Ended) (given left written written_new : Option (List ℕ)) (sent taken items : List Message) (raised loaded : List ℕ) (seat : WordView)
    → HasRead ended given left sent raised → HasWorked ending pass client done taken loaded written written_new → sent ≡ taken ++ items
    → seat.role ≡ of_both → seat.raised ≡ raised → seat.loaded ≡ loaded → All (IsZeroOrRaised seat.raised) seat.loaded
    → IsStopped ending pass client done given left written written_new seat
stopped_both ending pass client done ended given left written written_new sent taken items raised loaded seat read worked whole both raises loads each =
    let from = read.commands_sent in
    let word : IsSeatOf pass.front client done from.taken seat = record {
      both = both;
      raised_is = raises ∙ from.raised_is;
      count = ap length loads ∙ worked.loads;
      each = each;
      decide = subst (DecideFrom pass.front client 1) (sym loads) worked.decide;
    } in
    let same = same_messages (commands from.taken) worked.list ended worked.ended items
    (ap (λ (l : List Message). l ++ messages.End ended ∷ []) (sym from.sent_is) ∙ sym read.sent_is ∙ whole ∙ ap (λ (l : List Message). l ++ items) worked.taken_is) in
    record {
      entries = worked.entries;
      serves = worked.serves;
      ran = record {
        taken = from.taken;
        output = worked.output;
        took = from.took;
        within = subst (λ (l : List (List ℕ)). done ≤ length l) (sym same.0) worked.within;
        entries_are = subst (λ (l : List (List ℕ)). AreEntriesFrom pass.fixed pass.front client 1 (take done l) worked.entries) (sym same.0) worked.entries_are;
        written_is = worked.written_is;
        ends = ends_as ending ended pass.fixed pass.wrong pass.front client done given from.taken worked.output
            (subst (λ (e : Ended). WorksTo ending e pass.fixed pass.wrong pass.front client done (commands from.taken) worked.output) (sym same.1)
            (subst (λ (l : List (List ℕ)). WorksTo ending worked.ended pass.fixed pass.wrong pass.front client done l worked.output) (sym same.0) worked.works))
            from.ends;
        word = word;
        canceled = canceled_by pass.front client done from.taken seat word;
      };
    }

-- the source's count, whatever ended the reading
stays_or_rose : (ended : Ended) (faults faults_new : ℕ) → EndCounts ended faults faults_new → StaysOrRose faults faults_new
stays_or_rose ends.NoMore faults faults_new counts = inl counts
stays_or_rose (ends.BadSize size) faults faults_new counts = inl counts
stays_or_rose ends.Fault faults faults_new counts = inr counts

cause_as : (ending : Ending) (ended : Ended) (fixed : Fixed) (wrong : Bool) (history : List Entry) (client done : ℕ) (list : List (List ℕ)) (output : List ℕ) (faults faults_new sink_faults sink_faults_new : ℕ)
    → WorksTo ending ended fixed wrong history client done list output → EndCounts ended faults faults_new → WorkCounts ending sink_faults sink_faults_new → HasEndingCause ending faults faults_new sink_faults sink_faults_new
cause_as endings.EndOfInput ended fixed wrong history client done list output faults faults_new sink_faults sink_faults_new works read wrote = (subst (λ (e : Ended). EndCounts e faults faults_new) works.0 read, wrote)
cause_as (endings.BadFrame size) ended fixed wrong history client done list output faults faults_new sink_faults sink_faults_new works read wrote = (subst (λ (e : Ended). EndCounts e faults faults_new) works.0 read, wrote)
cause_as endings.ReadFault ended fixed wrong history client done list output faults faults_new sink_faults sink_faults_new works read wrote = (subst (λ (e : Ended). EndCounts e faults faults_new) works.0 read, wrote)
cause_as endings.WriteFault ended fixed wrong history client done list output faults faults_new sink_faults sink_faults_new works read wrote = (stays_or_rose ended faults faults_new read, wrote)
cause_as endings.Memory ended fixed wrong history client done list output faults faults_new sink_faults sink_faults_new works read wrote = absurd works
cause_as (endings.JournalFull count limit) ended fixed wrong history client done list output faults faults_new sink_faults sink_faults_new works read wrote = absurd works
cause_as endings.Answer ended fixed wrong history client done list output faults faults_new sink_faults sink_faults_new works read wrote = absurd works

pub cause_both : (ending : Ending) (pass : PassView) (client done : ℕ) (ended : Ended) (given left written written_new : Option (List ℕ)) (sent taken items : List Message) (raised loaded : List ℕ) (faults faults_new sink_faults sink_faults_new : ℕ)
    → HasRead ended given left sent raised → HasWorked ending pass client done taken loaded written written_new → sent ≡ taken ++ items
    → EndCounts ended faults faults_new → WorkCounts ending sink_faults sink_faults_new → HasEndingCause ending faults faults_new sink_faults sink_faults_new
cause_both ending pass client done ended given left written written_new sent taken items raised loaded faults faults_new sink_faults sink_faults_new read worked whole counts wrote =
    let from = read.commands_sent in
    let same = same_messages (commands from.taken) worked.list ended worked.ended items
    (ap (λ (l : List Message). l ++ messages.End ended ∷ []) (sym from.sent_is) ∙ sym read.sent_is ∙ whole ∙ ap (λ (l : List Message). l ++ items) worked.taken_is) in
    cause_as ending worked.ended pass.fixed pass.wrong pass.front client done worked.list worked.output faults faults_new sink_faults sink_faults_new worked.works
    (subst (λ (e : Ended). EndCounts e faults faults_new) same.1 counts) wrote

-- ---- the close

answers_stay : (fixed : Fixed) (wrong new_wrong : Bool) (history more : List Entry) (client done : ℕ) (list : List (List ℕ)) (output : List ℕ) → (wrong ≡ true → new_wrong ≡ true) → ((upto : ℕ) → AddsNone more client upto) → AnswersAll fixed wrong history client done list output
    → AnswersAll fixed new_wrong (history ++ more) client done list output
answers_stay fixed wrong new_wrong history more client done list output rises none all =
    let replies = replies_stay fixed wrong new_wrong history more client list output rises (none (length list)) all.replies in
    record {
      all = all.all;
      replies = replies;
      answers = λ base is. answers_of fixed new_wrong base (history ++ more) client 1 list output is replies;
    }

pub ends_stay : (ending : Ending) (fixed : Fixed) (wrong new_wrong : Bool) (history more : List Entry) (client done : ℕ) (given : Option (List ℕ)) (taken output : List ℕ) → (wrong ≡ true → new_wrong ≡ true) → ((upto : ℕ) → AddsNone more client upto)
    → EndsAs ending fixed wrong history client done given taken output → EndsAs ending fixed new_wrong (history ++ more) client done given taken output
ends_stay endings.EndOfInput fixed wrong new_wrong history more client done given taken output rises none ends =
    (answers_stay fixed wrong new_wrong history more client done (commands taken) output rises none ends.0, ends.1, ends.2)
ends_stay (endings.BadFrame size) fixed wrong new_wrong history more client done given taken output rises none ends =
    (record { replies = ends.0.replies; answered = answers_stay fixed wrong new_wrong history more client done (commands taken) ends.0.replies rises none ends.0.answered; output_is = ends.0.output_is }, ends.1)
ends_stay endings.ReadFault fixed wrong new_wrong history more client done given taken output rises none ends = (answers_stay fixed wrong new_wrong history more client done (commands taken) output rises none ends.0, ends.1)
ends_stay endings.WriteFault fixed wrong new_wrong history more client done given taken output rises none (inl cut) = inl (record {
  earlier = cut.earlier;
  command = cut.command;
  before = cut.before;
  reply = cut.reply;
  k = cut.k;
  done_is = cut.done_is;
  next = cut.next;
  replies = replies_stay fixed wrong new_wrong history more client (take cut.earlier (commands taken)) cut.before rises (none (length (take cut.earlier (commands taken)))) cut.replies;
  told = told_on fixed wrong new_wrong history more client done cut.command cut.reply rises (none done) (omega (arith, cut.done_is)) cut.told;
  short = cut.short;
  output_is = cut.output_is;
})
ends_stay endings.WriteFault fixed wrong new_wrong history more client done given taken output rises none (inr cut) = inr (
  record {
    replies = cut.0.replies;
    k = cut.0.k;
    answered = answers_stay fixed wrong new_wrong history more client done (commands taken) cut.0.replies rises none cut.0.answered;
    short = cut.0.short;
    output_is = cut.0.output_is;
  },
  cut.1,
)
ends_stay endings.Memory fixed wrong new_wrong history more client done given taken output rises none ends = absurd ends
ends_stay (endings.JournalFull count limit) fixed wrong new_wrong history more client done given taken output rises none ends = absurd ends
ends_stay endings.Answer fixed wrong new_wrong history more client done given taken output rises none ends = absurd ends

-- the client is closed at the end of its connection
pub closed_link : {legal : Origin → List Entry → Type 0} (ending : Ending) (old new : PassView) (client done : ℕ) (given left written written_new : Option (List ℕ)) (seat : WordView) (bytes reply : List ℕ) → IsStopped ending old client done given left written written_new seat
    → AsksInTurn legal old (jobs.Close client) bytes reply new → IsClosedLink legal ending new client done given left written written_new (Some seat)
closed_link {legal = legal} ending old new client done given left written written_new seat bytes reply stopped asks =
    let closed = closed_as old new client done stopped.entries bytes reply stopped.serves asks in
    let same : new.fixed ≡ old.fixed = (goes_on_act old new (jobs.Close client) bytes reply asks.0 asks.1).fixed in
    let ran = stopped.ran in
    let word : IsSeatOf new.front client done ran.taken seat = record {
      both = ran.word.both;
      raised_is = ran.word.raised_is;
      count = ran.word.count;
      each = ran.word.each;
      decide = subst (λ (h : List Entry). DecideFrom h client 1 seat.loaded) (sym closed.front)
          (decide_stay old.front closed.more client seat.loaded (closed.none (length seat.loaded)) ran.word.decide);
    } in
    record {
      entries = stopped.entries;
      seat = seat;
      known = closed.known;
      opened = closed.opened;
      own_is = closed.own_is;
      is_legal = closed.is_legal;
      word_is = refl;
      ran = record {
        taken = ran.taken;
        output = ran.output;
        took = ran.took;
        within = ran.within;
        entries_are = subst (λ (h : List Entry). AreEntriesFrom new.fixed h client 1 (take done (commands ran.taken)) stopped.entries) (sym closed.front)
            (subst (λ (f : Fixed). AreEntriesFrom f (old.front ++ closed.more) client 1 (take done (commands ran.taken)) stopped.entries) (sym same)
            (entries_on old.fixed old.front closed.more client 1 (take done (commands ran.taken)) stopped.entries ran.entries_are));
        written_is = ran.written_is;
        ends = subst (λ (h : List Entry). EndsAs ending new.fixed new.wrong h client done given ran.taken ran.output) (sym closed.front)
            (subst (λ (f : Fixed). EndsAs ending f new.wrong (old.front ++ closed.more) client done given ran.taken ran.output) (sym same)
            (ends_stay ending old.fixed old.wrong new.wrong old.front closed.more client done given ran.taken ran.output asks.1.still closed.none ran.ends));
        word = word;
        canceled = canceled_by new.front client done ran.taken seat word;
      };
    }
