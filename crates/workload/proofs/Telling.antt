-- The output of calls is lines of replies.
use Rattle.std.proofs.Common.{◌≡◌, ◌+◌, ◌++◌, ℕ, Bool, true, false, cond, eqb, List, [], ◌∷◌, refl, sym, ap, subst, ◌∙◌, arith, append_assoc, Some, None, inl, inr}
use Rattle.std.specs.Prelude.{Option, IfSome}
use Rattle.std.specs.List.{AllByRecursion, filter, find}
use Rattle.std.proofs.lemmas.List.{append-nil}
use Rattle.std.proofs.lemmas.List.Sums.{sum_by-cons}
use Rattle.tab_spec.specs.declared.TheConstants.{RC_COMMAND_SIZE, RC_JOURNAL_FULL, RC_MEMORY}
use Rattle.tab_spec.specs.Reply.{error_reply}
use Rattle.tab_spec.specs.Values.{AreBytes}
use Rattle.history_spec.specs.Entry.{Entry, own, part_before}
use Rattle.history_spec.specs.Told.{MayBeTold, ToldBy, entry_of, Limits}
use Rattle.script_spec.specs.Calls.{Call, bad_size, closing, command, opening}
use Rattle.script_spec.specs.Plays.{MayAddEntry, Plays1, PlaysTo, Stage, reply_line}
use Rattle.script_spec.specs.Summary.{AreTold, is_answered, replies_to, reply_lines}
use Rattle.workload.proofs.CommandBytes.{listed_bytes}

-- ---- entries whose replies are of bytes

abbrev HaveBytes : List Entry → Type 0
HaveBytes history = AllByRecursion (λ e. AreBytes e.reply) history

bytes_before : (old more : List Entry) → HaveBytes (old ++ more) → HaveBytes old
bytes_before [] more bytes = tt
bytes_before (e ∷ old) more bytes = (bytes.0, bytes_before old more bytes.1)

bytes_filtered : (p : Entry → Bool) (history : List Entry) → HaveBytes history → HaveBytes (filter p history)
bytes_filtered p [] bytes = tt
bytes_filtered p (e ∷ history) bytes =
    elim (p e) as (λ b. HaveBytes (cond b (e ∷ filter p history) (filter p history))) [
      | true ↦ (bytes.0, bytes_filtered p history bytes.1)
      | false ↦ bytes_filtered p history bytes.1
    ]

bytes_found : (p : Entry → Bool) (history : List Entry) → HaveBytes history → IfSome (find p history) (λ e. AreBytes e.reply)
bytes_found p [] bytes = tt
bytes_found p (e ∷ history) bytes =
    elim (p e) as (λ b. IfSome (cond b (Some e) (find p history)) (λ x. AreBytes x.reply)) [
      | true ↦ bytes.0
      | false ↦ bytes_found p history bytes.1
    ]

-- what is told is of bytes
bytes_by : (entry : Option Entry) (limit : Limits) (before : List Entry) (bytes reply : List ℕ) → IfSome entry (λ e. AreBytes e.reply)
    → ToldBy entry limit before bytes reply → AreBytes reply
bytes_by (Some e) limit before bytes reply known told = subst AreBytes told.reply_is known
bytes_by None limit before bytes reply known (inl memory) = subst AreBytes (sym memory.reply_is) (listed_bytes (error_reply RC_MEMORY) refl)
bytes_by None limit before bytes reply known (inr full) = subst AreBytes (sym full.reply_is) (listed_bytes (error_reply RC_JOURNAL_FULL) refl)

bytes_told : (history : List Entry) (limit : Limits) (client number : ℕ) (bytes reply : List ℕ) → HaveBytes history → MayBeTold history limit client number bytes reply → AreBytes reply
bytes_told history limit client number bytes reply all told =
    bytes_by (entry_of history client number) limit (part_before client number history) bytes reply
    (bytes_found (λ e. eqb e.number number) (own history client) (bytes_filtered (λ e. eqb e.client client) history all)) told

-- ---- a call

bytes_added : (limit : ℕ) (old new : List Entry) (client number : ℕ) (bytes : List ℕ) (covered : Option ℕ) → MayAddEntry limit old client number bytes covered new → HaveBytes new → HaveBytes old
bytes_added limit old new client number bytes covered (inl same) all = subst HaveBytes same all
bytes_added limit old new client number bytes covered (inr added) all = bytes_before old (added.0 ∷ []) (subst HaveBytes added.1 all)

bytes_then : (limit : Limits) (before after : Stage) (call : Call) → Plays1 limit before call after → HaveBytes after.history → HaveBytes before.history
bytes_then limit before after (opening label) opened all = bytes_before before.history _ (subst (λ (s : Stage). HaveBytes s.history) opened.1 all)
bytes_then limit before after (command label number bytes covered) answered all = bytes_added limit.bytes before.history after.history answered.client number bytes covered answered.entry all
bytes_then limit before after (bad_size label) told all = subst (λ (s : Stage). HaveBytes s.history) told.2 all
bytes_then limit before after (closing label) closed all = bytes_before before.history _ (subst (λ (s : Stage). HaveBytes s.history) closed.2 all)

bytes_from : (limit : Limits) (calls : List Call) (before after : Stage) → PlaysTo limit before calls after → HaveBytes after.history → HaveBytes before.history
bytes_from limit [] before after plays all = subst (λ (s : Stage). HaveBytes s.history) plays all
bytes_from limit (call ∷ calls) before after plays all =
    bytes_then limit before plays.0 call plays.1 (bytes_from limit calls plays.0 after plays.2 all)

-- ---- calls

silent : (call : Call) (calls : List Call) (old between new : List ℕ) → is_answered call ≡ false → between ≡ old → AreTold calls between new → AreTold (call ∷ calls) old new
silent call calls old between new none same told =
    let one : ℕ = cond (is_answered call) 1 0 in
    let no : one ≡ 0 = ap (λ (b : Bool). cond b 1 0) none in
    let all : replies_to (call ∷ calls) ≡ one + replies_to calls = sum_by-cons (λ (x : Call). cond (is_answered x) 1 0) call calls in
    record {
      replies = told.replies;
      written = told.written ∙ ap (λ (o : List ℕ). o ++ reply_lines told.replies) same;
      count = omega (arith, all, no, told.count);
      have = told.have;
    }

answered : (call : Call) (calls : List Call) (label : ℕ) (reply old between new : List ℕ) → is_answered call ≡ true → between ≡ old ++ reply_line label reply → AreBytes reply
    → AreTold calls between new → AreTold (call ∷ calls) old new
answered call calls label reply old between new has more bytes told =
    let one : ℕ = cond (is_answered call) 1 0 in
    let yes : one ≡ 1 = ap (λ (b : Bool). cond b 1 0) has in
    let all : replies_to (call ∷ calls) ≡ one + replies_to calls = sum_by-cons (λ (x : Call). cond (is_answered x) 1 0) call calls in
    record {
      replies = record { label = label; bytes = reply } ∷ told.replies;
      written = told.written ∙ ap (λ (o : List ℕ). o ++ reply_lines told.replies) more ∙ append_assoc old (reply_line label reply) (reply_lines told.replies);
      count = omega (arith, all, yes, told.count);
      have = (bytes, told.have);
    }

told_by : (limit : Limits) (before between : Stage) (new : List ℕ) (call : Call) (calls : List Call) → Plays1 limit before call between → HaveBytes between.history
    → AreTold calls between.output new → AreTold (call ∷ calls) before.output new
told_by limit before between new (opening label) calls opened all told = silent (opening label) calls _ _ _ refl (ap (λ (s : Stage). s.output) opened.1) told
told_by limit before between new (command label number bytes covered) calls a all told =
    answered (command label number bytes covered) calls label a.reply _ _ _ refl a.output (bytes_told between.history limit a.client number bytes a.reply all a.told) told
told_by limit before between new (bad_size label) calls b all told =
    answered (bad_size label) calls label (error_reply RC_COMMAND_SIZE) _ _ _ refl (ap (λ (s : Stage). s.output) b.2) (listed_bytes (error_reply RC_COMMAND_SIZE) refl) told
told_by limit before between new (closing label) calls closed all told = silent (closing label) calls _ _ _ refl (ap (λ (s : Stage). s.output) closed.2) told

pub calls_are_told : (limit : Limits) (calls : List Call) (before after : Stage) → PlaysTo limit before calls after → HaveBytes after.history
    → AreTold calls before.output after.output
calls_are_told limit [] before after plays all = record {
  replies = [];
  written = ap (λ (s : Stage). s.output) plays ∙ sym (append-nil before.output);
  count = refl;
  have = tt;
}
calls_are_told limit (call ∷ calls) before after plays all =
    told_by limit before plays.0 after.output call calls plays.1 (bytes_from limit calls plays.0 after plays.2 all)
    (calls_are_told limit calls plays.0 after plays.2 all)
