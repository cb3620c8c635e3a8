use Rattle.std.proofs.Common.{◌≡◌, ◌+◌, ◌≤◌, ◌++◌, ℕ, cond, eqb, List, [], ◌∷◌, take, None, refl, ap, ◌∙◌, arith, inr}
use Rattle.std.specs.Fmt.{digits, decimal}
use Rattle.hex.specs.Hex.{encode_lower}
use Rattle.hex.proofs.OnLiterals.{hex_on_literals}
use Rattle.script_spec.specs.Plays.{LabelHolder, Stage, IsLabelAnswered, reply_line}
use Rattle.history_spec.specs.Examples.{two_clients, eight_reply, six_reply, four_reply, get_random, plain_entry, limit_of}
use Rattle.script_spec.proofs.examples.a_history_and_lines_play_calls.Goals as goal

abbrev holders_0 : List LabelHolder
holders_0 = record { label = 0; client = 0 } ∷ []

abbrev holders_7 : List LabelHolder
holders_7 = record { label = 7; client = 1 } ∷ []

-- the first entries, and the lines of as many of the replies
abbrev stage : ℕ → List LabelHolder → List ℕ → Stage
stage entries holders output = record { history = take entries two_clients; holders = holders; output = output }

pub returns-clause-whole : goal.returns-clause-whole
unfolding hex_on_literals digits
returns-clause-whole c =
    let line_1 : List ℕ = reply_line 0 eight_reply in
    let line_2 : List ℕ = line_1 ++ reply_line 7 six_reply in
    let line_3 : List ℕ = line_2 ++ reply_line 0 four_reply in
    let both : List LabelHolder = holders_0 ++ holders_7 in
    let first : IsLabelAnswered (limit_of 4618) (stage 1 holders_0 []) 0 1 (get_random 8) None (stage 2 holders_0 line_1) = record {
      client = 0;
      reply = eight_reply;
      known = refl;
      entry = inr (plain_entry 0 1 (get_random 8) eight_reply, refl, record { client_is = refl; number_is = refl; kind_is = tt; command_is = refl }, omega arith);
      told = record { command_is = refl; reply_is = refl };
      output = refl;
      holders = refl;
    } in
    let second : IsLabelAnswered (limit_of 4618) (stage 3 both line_1) 7 1 (get_random 6) None (stage 4 both line_2) = record {
      client = 1;
      reply = six_reply;
      known = refl;
      entry = inr (plain_entry 1 1 (get_random 6) six_reply, refl, record { client_is = refl; number_is = refl; kind_is = tt; command_is = refl }, omega arith);
      told = record { command_is = refl; reply_is = refl };
      output = refl;
      holders = refl;
    } in
    let third : IsLabelAnswered (limit_of 4618) (stage 4 both line_2) 0 2 (get_random 4) None (stage 5 both line_3) = record {
      client = 0;
      reply = four_reply;
      known = refl;
      entry = inr (plain_entry 0 2 (get_random 4) four_reply, refl, record { client_is = refl; number_is = refl; kind_is = tt; command_is = refl }, omega arith);
      told = record { command_is = refl; reply_is = refl };
      output = refl;
      holders = refl;
    } in (
      [],
      (
        stage 1 holders_0 [],
        (omega arith, refl),
        (
          stage 2 holders_0 line_1,
          first,
          (
            stage 3 both line_1,
            (omega arith, refl),
            (
              stage 4 both line_2,
              second,
              (
                stage 5 both line_3,
                third,
                (
                  stage 6 holders_7 line_3,
                  (0, refl, refl),
                  (stage 7 [] line_3, (1, refl, refl), refl),
                ),
              ),
            ),
          ),
        ),
      ),
    )

abbrev newlines : List ℕ → ℕ
newlines [] = 0
newlines (byte ∷ bytes) = cond (eqb byte 10) 1 0 + newlines bytes

newlines-append : (a b : List ℕ) → newlines (a ++ b) ≡ newlines a + newlines b
newlines-append [] b = omega arith
newlines-append (byte ∷ a) b = omega (arith, newlines-append a b)

-- a reply's line adds a newline
one_line : (label : ℕ) (before reply after : List ℕ) → after ≡ before ++ reply_line label reply → newlines before + 1 ≤ newlines after
one_line label before reply after is =
    let text : List ℕ = decimal label ++ 32 ∷ encode_lower reply in
    let all : newlines after ≡ newlines before + newlines (reply_line label reply) = ap newlines is ∙ newlines-append before (reply_line label reply) in
    let line : newlines (reply_line label reply) ≡ newlines text + 1 = newlines-append text (10 ∷ []) in
    omega (arith, all, line)

-- three replies make three lines
pub returns-clause-short : goal.returns-clause-short
returns-clause-short c = λ plays.
    let lines : Stage → ℕ = λ s. newlines s.output in
    let from_1 = plays.1 in
    let from_2 = from_1.2 in
    let from_3 = from_2.2 in
    let from_4 = from_3.2 in
    let from_5 = from_4.2 in
    let from_6 = from_5.2 in
    let from_7 = from_6.2 in
    let first = one_line 0 from_1.0.output from_2.1.reply from_2.0.output from_2.1.output in
    let opens : lines from_3.0 ≡ lines from_2.0 = ap lines from_3.1.1 in
    let second = one_line 7 from_3.0.output from_4.1.reply from_4.0.output from_4.1.output in
    let third = one_line 0 from_4.0.output from_5.1.reply from_5.0.output from_5.1.output in
    let closes : lines from_6.0 ≡ lines from_5.0 = ap lines from_6.1.2 in
    let closes_too : lines from_7.0 ≡ lines from_6.0 = ap lines from_7.1.2 in
    let ends : 2 ≡ lines from_7.0 = ap lines from_7.2 in
    absurd (omega (arith, first, opens, second, third, closes, closes_too, ends))
