-- Facts on the words of a line: the number that digits spell, and what hexadecimal digits decode to.
use Rattle.std.proofs.Common.{◌≡◌, ℕ, ◌==◌, ◌+◌, ◌-◌, ◌*◌, ◌/◌, ◌%◌, ◌<◌, ◌≤◌, List, [], ◌∷◌, ◌++◌, length, slice_index, take, drop, Bool, true, false, ◌&&◌, if◌then◌else◌, Option, Some, None, Result, Ok, Err, refl, ap, sym, ◌∙◌, arith, append_assoc, nat_lt}
use Rattle.std.proofs.lemmas.Bool.{eq-eqb}
use Rattle.std.specs.List.{fold, position, position_or_len}
use Rattle.std.proofs.lemmas.List.{take_all, append-nil, length-drop, nil_from_length, take-append-drop}
use Rattle.std.proofs.lemmas.List.Folds.{list_any_at}
use Rattle.std.proofs.lemmas.List.Sums.{passes_at_first}
use Rattle.hex.specs.Hex.{encode_with, encode_lower, lower_digits, decode_of}
use Rattle.hex.specs.declared.error.FromHexError.{FromHexError}
use Rattle.hex.proofs.HexLemmas.{decode_of-ok}
use Rattle.script_lines.proofs.Places.{not_found, place_found}
use Rattle.script_spec.specs.Script.{is_space, number_of, label_of, item_in, piece_in, item_of, ScriptItem}

-- a number with one more decimal digit
abbrev pub next_number : ℕ → ℕ → ℕ
next_number number digit = 10 * number + (digit - 48)

-- more digits never make a number smaller
pub fold-next_number-le : (number : ℕ) (digits : List ℕ) → number ≤ fold next_number number digits
fold-next_number-le number [] = omega arith
fold-next_number-le number (digit ∷ digits) =
    let rest = fold-next_number-le (next_number number digit) digits in
    omega arith

encode_lower-append : (xs ys : List ℕ) → encode_lower (xs ++ ys) ≡ encode_lower xs ++ encode_lower ys
unfolding encode_with
encode_lower-append [] ys = refl
encode_lower-append (x ∷ xs) ys = let rest = encode_lower-append xs ys in cc

-- the digits of a front of the bytes are pushed, and those of the others stand out
pub push_digits-step : (bytes front behind : List ℕ) (n : ℕ) (before after whole : List ℕ) → front ≡ take n bytes → behind ≡ drop n bytes
    → after ≡ before ++ encode_lower front → before ++ encode_lower bytes ≡ whole → after ++ encode_lower behind ≡ whole
push_digits-step bytes front behind n before after whole front_is behind_is after_is so_far =
    let cut = ap encode_lower (sym (take-append-drop n bytes)) ∙ encode_lower-append (take n bytes) (drop n bytes)
    ∙ (λ i. encode_lower (sym front_is i) ++ encode_lower (sym behind_is i)) in
    ap (λ (l : List ℕ). l ++ encode_lower behind) after_is ∙ append_assoc before (encode_lower front) (encode_lower behind)
    ∙ ap (λ (l : List ℕ). before ++ l) (sym cut) ∙ so_far

pub push_digits-end : (bytes out whole : List ℕ) → length bytes ≡ 0 → out ++ encode_lower bytes ≡ whole → out ≡ whole
unfolding encode_with
push_digits-end bytes out whole none so_far =
    sym (append-nil out) ∙ ap (λ (l : List ℕ). out ++ encode_lower l) (sym (nil_from_length bytes none)) ∙ so_far

-- a number that is too large stays so
pub number_of-too_large : (digits rest : List ℕ) (number : ℕ) → number_of digits ≡ fold next_number number rest
    → 4294967296 ≤ number → nat_lt (number_of digits) 4294967296 ≡ false
number_of-too_large digits rest number is large =
    let grows = fold-next_number-le number rest in
    let above : 4294967296 ≤ number_of digits = omega arith in
    grind arith

-- a number that does not fit is none
pub number_of-none : (all fits : Bool) (number : ℕ) → fits ≡ false → None ≡ (if all && fits then Some number else None)
number_of-none true fits number is = rw is refl
number_of-none false fits number is = refl

-- either way nothing
no_item : (b : Bool) (item : Option ScriptItem)
    → (if b then None else if true then None else item) ≡ None
no_item true item = refl
no_item false item = refl

-- a line without a space says nothing
pub item_of-no_space : (text : List ℕ) → position is_space text ≡ None → item_of text ≡ None
item_of-no_space text is =
    let none = not_found is_space text is in
    rw none (no_item (nat_lt 16384 (length text)) None)

-- a line says what its words in front of the first space and behind it do
pub item_of-words : (text : List ℕ) (i label : ℕ) (item : Option ScriptItem) → length text ≤ 16384 → position is_space text ≡ Some i
    → Some label ≡ label_of (take i text)
    → item_in (Some label) (take (length text - (i + 1)) (drop (i + 1) text)) ≡ item
    → item_of text ≡ item
item_of-words text i label item short is label_is says =
    let at = place_found (position_or_len is_space text) (length text) i is in
    let within : position_or_len is_space text < length text = omega arith in
    let some = list_any_at is_space text (position_or_len is_space text) 0 within (passes_at_first is_space text 0 within) in
    let small : nat_lt 16384 (length text) ≡ false = grind arith in
    let all : take (length text - (i + 1)) (drop (i + 1) text) ≡ drop (i + 1) text = take_all (length text - (i + 1)) (drop (i + 1) text) (omega (arith, length-drop (i + 1) text)) in
    let said = rw all at says in
    rw (small, some, at.0, ← label_is) said

-- digits of no byte are no piece
pub piece_in-none : (label : ℕ) (digits : List ℕ) (r : Result (List ℕ) FromHexError) → decode_of digits ≡ r → length digits / 2 ≡ 0 → piece_in label r ≡ None
piece_in-none label digits (Err e) is short = refl
piece_in-none label digits (Ok bytes) is short =
    let len = (decode_of-ok digits bytes is).2 in
    let none : length bytes ≡ 0 = omega (arith, len) in
    let e : (length bytes == 0) ≡ true = eq-eqb (length bytes) 0 none in
    rw e refl
