-- The lines of a workload are good lines.
use Rattle.std.proofs.Common.{◌≡◌, ◌<◌, ◌≤◌, ◌+◌, ◌-◌, ◌*◌, ◌/◌, ◌%◌, ◌++◌, ℕ, zero, suc, Bool, true, false, cond, eqb, ltb, List, [], ◌∷◌, length, take, refl, sym, ap, subst, ◌∙◌, arith, length-append, Ok, Some, None}
use Rattle.std.specs.Prelude.{◌&&◌, not, Option, codes}
use Rattle.std.specs.Fmt.{decimal}
use Rattle.std.specs.List.{AllByRecursion, prefix_len}
use Rattle.std.proofs.lemmas.Bool.{le-ltb, ne_eqb}
use Rattle.std.proofs.lemmas.Fmt.{decimal_digit}
use Rattle.hex.specs.Hex.{decode_of, encode_lower, encode_with, lower_digits}
use Rattle.hex.proofs.HexLemmas.{decode_of-encode_lower, length-encode_with}
use Rattle.tab_spec.specs.Values.{AreBytes}
use Rattle.script_spec.specs.declared.TheConstants.{LINE_BYTES}
use Rattle.script_spec.specs.Script.{Script, ScriptItem, after_item, bad_line, close, end, is_newline, item_in, item_of, lines_of, onto_first, piece, piece_in, script_from, text_of, with_item}
use Rattle.script_spec.specs.Workload.{line_at, line_of_words, lines_from, word_of, workload_command, workload_action}
use Rattle.workload.proofs.CommandBytes.{is_command}
use Rattle.workload.proofs.Few.{bytes_in, size_of_item}
use Rattle.workload.proofs.Lines.{are_bytes, digit_no_newline}

-- ---- newlines

abbrev NoNewline : List ℕ → Type 0
NoNewline text = AllByRecursion (λ c. eqb c 10 ≡ false) text

digits_no_newline : (bytes : List ℕ) → AreBytes bytes → NoNewline (encode_lower bytes)
unfolding encode_with
digits_no_newline [] are = tt
digits_no_newline (b ∷ bytes) are =
    let below : b < 256 = are.0 in
    (digit_no_newline (b / 16) (omega arith), (digit_no_newline (b % 16) (omega arith), digits_no_newline bytes are.1))

-- a line without a newline within is the first of the lines
line_splits : (text rest : List ℕ) → NoNewline text → lines_of ((text ++ 10 ∷ []) ++ rest) ≡ (text ++ 10 ∷ []) ∷ lines_of rest
line_splits [] rest none = refl
line_splits (c ∷ text) rest none =
    let more : List ℕ = (text ++ 10 ∷ []) ++ rest in
    ap (λ (b : Bool). cond b ((c ∷ []) ∷ lines_of more) (onto_first c (lines_of more))) none.0 ∙ ap (onto_first c) (line_splits text rest none.1)

text_back : (text : List ℕ) → NoNewline text → text_of (text ++ 10 ∷ []) ≡ text
text_back [] none = refl
text_back (c ∷ text) none =
    let more : List ℕ = text ++ 10 ∷ [] in
    let size : ℕ = prefix_len (λ x. not (is_newline x)) more in
    let one : 1 + size ≡ suc size = omega arith in
    ap (λ (b : Bool). take (cond (not b) (1 + size) 0) (c ∷ more)) none.0
    ∙ ap (λ (n : ℕ). take n (c ∷ more)) one ∙ ap (λ (t : List ℕ). c ∷ t) (text_back text none.1)

-- ---- what stands behind the label

record IsAction (label : ℕ) (word : List ℕ) : Type 0 where
  pub item : ScriptItem
  pub is : item_in (Some label) word ≡ Some item
  pub small : size_of_item item ≤ 65
  pub none : NoNewline word
  pub few : length word ≤ 130

closes : (label : ℕ) → IsAction label (codes "close")
closes label = record { item = close label; is = refl; small = omega arith; none = (refl, (refl, (refl, (refl, (refl, tt))))); few = omega arith }

sends : (label : ℕ) (more : List ℕ) → AreBytes (0x80 ∷ more) → length (0x80 ∷ more) ≤ 65 → IsAction label (encode_lower (0x80 ∷ more))
unfolding encode_with
sends label more are few =
    let bytes : List ℕ = 0x80 ∷ more in
    let decoded : decode_of (encode_lower bytes) ≡ Ok bytes = decode_of-encode_lower bytes (are_bytes bytes are) in
    record {
      item = piece label bytes;
      is = ap (piece_in label) decoded ∙ ap (λ (b : Bool). cond b None (Some (piece label bytes))) (ne_eqb (suc (length more)) 0 (λ e. omega arith));
      small = few;
      none = digits_no_newline bytes are;
      few = omega (arith, few, length-encode_with lower_digits bytes);
    }

one_of : (label : ℕ) (b : Bool) (x y : List ℕ) → IsAction label x → IsAction label y → IsAction label (cond b x y)
one_of label true x y first second = first
one_of label false x y first second = second

is_action : (label choice number : ℕ) → IsAction label (workload_action choice number)
is_action label choice number =
    let command = is_command choice number in
    let sent : IsAction label (encode_lower (workload_command choice number)) =
    subst (λ (bytes : List ℕ). IsAction label (encode_lower bytes)) (sym command.begins) (sends label command.more (subst AreBytes command.begins command.are) (omega (arith, command.few, ap length command.begins))) in
    one_of label (eqb choice 7 && eqb (number % 8) 0) _ _ (closes label) sent

-- ---- a line

-- a label of one digit
labelled : (label : ℕ) (word : List ℕ) → label < 8 → ltb LINE_BYTES (suc (suc (length word))) ≡ false → item_of ((48 + label) ∷ 32 ∷ word) ≡ item_in (Some label) word
labelled zero word below short = ap (λ (b : Bool). cond b None (item_in (Some 0) word)) short
labelled (suc zero) word below short = ap (λ (b : Bool). cond b None (item_in (Some 1) word)) short
labelled (suc (suc zero)) word below short = ap (λ (b : Bool). cond b None (item_in (Some 2) word)) short
labelled (suc (suc (suc zero))) word below short = ap (λ (b : Bool). cond b None (item_in (Some 3) word)) short
labelled (suc (suc (suc (suc zero)))) word below short = ap (λ (b : Bool). cond b None (item_in (Some 4) word)) short
labelled (suc (suc (suc (suc (suc zero))))) word below short = ap (λ (b : Bool). cond b None (item_in (Some 5) word)) short
labelled (suc (suc (suc (suc (suc (suc zero)))))) word below short = ap (λ (b : Bool). cond b None (item_in (Some 6) word)) short
labelled (suc (suc (suc (suc (suc (suc (suc zero))))))) word below short = ap (λ (b : Bool). cond b None (item_in (Some 7) word)) short
labelled (suc (suc (suc (suc (suc (suc (suc (suc label)))))))) word below short = absurd (omega arith)

record IsGood (line : List ℕ) : Type 0 where
  pub text : List ℕ
  pub is : line ≡ text ++ 10 ∷ []
  pub none : NoNewline text
  pub item : ScriptItem
  pub item_is : item_of text ≡ Some item
  pub small : size_of_item item ≤ 65
  pub few : length text ≤ 132

line_is_good : (a b c : ℕ) → IsGood (line_of_words a b c)
unfolding line_of_words
line_is_good a b c =
    let label : ℕ = a % 8 in
    let below : label < 8 = omega arith in
    let word : List ℕ = workload_action (b % 8) c in
    let action : IsAction label word = is_action label (b % 8) c in
    let digit : decimal label ≡ (48 + label) ∷ [] = decimal_digit label (omega arith) in
    record {
      text = (48 + label) ∷ 32 ∷ word;
      is = rw digit refl;
      none = (ne_eqb (48 + label) 10 (λ e. omega arith), (refl, action.none));
      item = action.item;
      item_is = labelled label word below (le-ltb _ _ (omega (arith, action.few))) ∙ action.is;
      small = action.small;
      few = omega (arith, action.few);
    }

-- ---- a script

-- the script of so many lines, none of them bad
pub record IsWhole (count : ℕ) (script : Script) : Type 0 where
  pub ending : script.ending ≡ end
  pub items : length script.items ≡ count
  pub bytes : bytes_in script.items ≤ 65 * count

with_one : (count : ℕ) (item : ScriptItem) (script : Script) → size_of_item item ≤ 65 → IsWhole count script → IsWhole (suc count) (with_item item script)
with_one count item script small whole = record {
  ending = whole.ending;
  items = ap suc whole.items;
  bytes = omega (arith, small, whole.bytes);
}

pub lines_are_good : (count : ℕ) (key : List ℕ) (place number room : ℕ) → 133 * count ≤ room → IsWhole count (script_from number room (lines_of (lines_from key place count)))
unfolding lines_from script_from
lines_are_good zero key place number room fits = record { ending = refl; items = refl; bytes = omega arith }
lines_are_good (suc count) key place number room fits =
    let good : IsGood (line_at key place) = line_is_good (word_of key place) (word_of key (place + 1)) (word_of key (place + 2)) in
    let line : List ℕ = good.text ++ 10 ∷ [] in
    let rest : List ℕ = lines_from key (place + 3) count in
    let lines = lines_of rest in
    let size : length line ≤ 133 = omega (arith, length-append good.text (10 ∷ []), good.few) in
    let split : lines_of (line_at key place ++ rest) ≡ line ∷ lines = ap (λ (l : List ℕ). lines_of (l ++ rest)) good.is ∙ line_splits good.text rest good.none in
    let fit : ltb room (length line) ≡ false = le-ltb room (length line) (omega (arith, fits, size)) in
    let item : item_of (text_of line) ≡ Some good.item = ap item_of (text_back good.text good.none) ∙ good.item_is in
    let next : Script = script_from (number + 1) (room - length line) lines in
    let bad : Script = record { items = []; ending = bad_line number } in
    let same : script_from number room (lines_of (line_at key place ++ rest)) ≡ with_item good.item next =
    ap (λ (ls : List (List ℕ)). script_from number room ls) split
    ∙ ap (λ (b : Bool). cond b bad (after_item number (item_of (text_of line)) next)) fit
    ∙ ap (λ (o : Option ScriptItem). after_item number o next) item in
    subst (IsWhole (suc count)) (sym same) (with_one count good.item next good.small (lines_are_good count key (place + 3) (number + 1) (room - length line) (omega (arith, fits, size))))

pub lines_are_short : (count : ℕ) (key : List ℕ) (place : ℕ) → length (lines_from key place count) ≤ 133 * count
unfolding lines_from
lines_are_short zero key place = omega arith
lines_are_short (suc count) key place =
    let good : IsGood (line_at key place) = line_is_good (word_of key place) (word_of key (place + 1)) (word_of key (place + 2)) in
    let rest : List ℕ = lines_from key (place + 3) count in
    omega (arith, lines_are_short count key (place + 3), length-append (line_at key place) rest, ap length good.is, length-append good.text (10 ∷ []), good.few)
