use Rattle.std.proofs.Common.{◌≡◌, ◌+◌, ◌++◌, ℕ, cond, eqb, List, [], ◌∷◌, take, Option, Some, None, refl, ap, ◌∙◌, arith, inl, inr}
use Rattle.std.specs.Fmt.{digits}
use Rattle.hex.proofs.OnLiterals.{hex_on_literals}
use Rattle.script_spec.specs.Plays.{LabelHolder, Stage, IsLabelAnswered, IsCommandKind, IsKindOf, MayAddEntry, reply_line}
use Rattle.history_spec.specs.declared.EntryKind.{EntryKind}
use Rattle.history_spec.specs.declared.EntryKind.TheVariants.{Open, Command, Canceled, Fault, Close}
use Rattle.history_spec.specs.Entry.{Entry, close_entry}
use Rattle.history_spec.specs.Examples.{canceled_before, canceled_first, canceled_reply, four_reply, get_random, plain_entry, limit_of}
use Rattle.script_spec.proofs.examples.a_history_has_canceled_commands.Goals as goal

abbrev history : List Entry
history = canceled_first ++ close_entry 0 ∷ []

abbrev holders_0 : List LabelHolder
holders_0 = record { label = 0; client = 0 } ∷ []

-- the first entries, and the lines of as many of the replies
abbrev stage : ℕ → List LabelHolder → List ℕ → Stage
stage entries holders output = record { history = take entries history; holders = holders; output = output }

pub returns-clause-whole : goal.returns-clause-whole
unfolding hex_on_literals digits
returns-clause-whole c =
    let line_1 : List ℕ = reply_line 0 canceled_reply in
    let line_2 : List ℕ = line_1 ++ reply_line 0 four_reply in
    let first : IsLabelAnswered (limit_of 8192) (stage 1 holders_0 []) 0 1 (get_random 8) (Some 1) (stage 2 holders_0 line_1) = record {
      client = 0;
      reply = canceled_reply;
      known = refl;
      entry = inr (canceled_before 1 1, refl, record { client_is = refl; number_is = refl; kind_is = refl; command_is = refl }, omega arith);
      told = record { command_is = refl; reply_is = refl };
      output = refl;
      holders = refl;
    } in
    let second : IsLabelAnswered (limit_of 8192) (stage 2 holders_0 line_1) 0 2 (get_random 4) None (stage 3 holders_0 line_2) = record {
      client = 0;
      reply = four_reply;
      known = refl;
      entry = inr (plain_entry 0 2 (get_random 4) four_reply, refl, record { client_is = refl; number_is = refl; kind_is = tt; command_is = refl }, omega arith);
      told = record { command_is = refl; reply_is = refl };
      output = refl;
      holders = refl;
    } in (
      [],
      (
        stage 1 holders_0 [],
        (omega arith, refl),
        (stage 2 holders_0 line_1, first, (stage 3 holders_0 line_2, second, (stage 4 [] line_2, (0, refl, refl), refl))),
      ),
    )

-- whether an entry says that commands up to the first were canceled
abbrev is_first : EntryKind → ℕ
is_first Open = 0
is_first Command = 0
is_first (Canceled upto) = cond (eqb upto 1) 1 0
is_first Fault = 0
is_first Close = 0

abbrev firsts : List Entry → ℕ
firsts [] = 0
firsts (e ∷ entries) = is_first e.kind + firsts entries

firsts-append : (a b : List Entry) → firsts (a ++ b) ≡ firsts a + firsts b
firsts-append [] b = omega arith
firsts-append (e ∷ a) b = omega (arith, firsts-append a b)

not_by_command : (kind : EntryKind) → IsCommandKind kind → is_first kind ≡ 0
not_by_command Open is = absurd is
not_by_command Command is = refl
not_by_command (Canceled upto) is = absurd is
not_by_command Fault is = refl
not_by_command Close is = absurd is

-- a command adds none, where no entry of it can be one
adds_none : (limit : ℕ) (old : List Entry) (client number : ℕ) (bytes : List ℕ) (covered : Option ℕ) (new : List Entry)
    → ((kind : EntryKind) → IsKindOf covered kind → is_first kind ≡ 0) → MayAddEntry limit old client number bytes covered new
    → firsts new ≡ firsts old
adds_none limit old client number bytes covered new none (inl same) = ap firsts same
adds_none limit old client number bytes covered new none (inr added) =
    let no = none added.0.kind added.2.kind_is in
    let all : firsts new ≡ firsts old + firsts (added.0 ∷ []) = ap firsts added.1 ∙ firsts-append old (added.0 ∷ []) in
    omega (arith, no, all)

pub returns-clause-not_covered : goal.returns-clause-not_covered
returns-clause-not_covered c = λ plays.
    let from_1 = plays.1 in
    let from_2 = from_1.2 in
    let from_3 = from_2.2 in
    let from_4 = from_3.2 in
    let opens : firsts from_1.0.history ≡ 0 = ap (λ (s : Stage). firsts s.history) from_1.1.1 in
    let one = adds_none 8192 from_1.0.history from_2.1.client 1 (get_random 8) None from_2.0.history not_by_command from_2.1.entry in
    let two = adds_none 8192 from_2.0.history from_3.1.client 2 (get_random 4) None from_3.0.history not_by_command from_3.1.entry in
    let closes : firsts from_4.0.history ≡ firsts from_3.0.history + 0 =
    ap (λ (s : Stage). firsts s.history) from_4.1.2 ∙ firsts-append from_3.0.history (close_entry from_4.1.0 ∷ []) in
    let ends : 1 ≡ firsts from_4.0.history = ap (λ (s : Stage). firsts s.history) from_4.2 in
    absurd (omega (arith, opens, one, two, closes, ends))

pub returns-clause-other_number : goal.returns-clause-other_number
returns-clause-other_number c = λ plays.
    let from_1 = plays.1 in
    let from_2 = from_1.2 in
    let from_3 = from_2.2 in
    let from_4 = from_3.2 in
    let opens : firsts from_1.0.history ≡ 0 = ap (λ (s : Stage). firsts s.history) from_1.1.1 in
    let one = adds_none 8192 from_1.0.history from_2.1.client 1 (get_random 8) (Some 2) from_2.0.history (λ kind is. ap is_first is) from_2.1.entry in
    let two = adds_none 8192 from_2.0.history from_3.1.client 2 (get_random 4) None from_3.0.history not_by_command from_3.1.entry in
    let closes : firsts from_4.0.history ≡ firsts from_3.0.history + 0 =
    ap (λ (s : Stage). firsts s.history) from_4.1.2 ∙ firsts-append from_3.0.history (close_entry from_4.1.0 ∷ []) in
    let ends : 1 ≡ firsts from_4.0.history = ap (λ (s : Stage). firsts s.history) from_4.2 in
    absurd (omega (arith, opens, one, two, closes, ends))
