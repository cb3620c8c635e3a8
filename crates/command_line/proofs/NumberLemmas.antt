-- Decimal digits that spell a number past the largest u64.
use Rattle.std.proofs.Common.{◌≡◌, ◌≤◌, ◌+◌, ◌-◌, ◌*◌, ℕ, Bool, true, false, ◌&&◌, if◌then◌else◌, nat_lt, List, [], ◌∷◌, Some, None, refl, arith}
use Rattle.std.proofs.lemmas.Bool.{le-ltb}
use Rattle.std.specs.List.{fold}
use Rattle.script_spec.specs.Script.{number_of}

-- a number with one more decimal digit
abbrev pub next_number : ℕ → ℕ → ℕ
next_number number digit = 10 * number + (digit - 48)

fold-next_number-le : (number : ℕ) (digits : List ℕ) → number ≤ fold next_number number digits
fold-next_number-le number [] = omega arith
fold-next_number-le number (digit ∷ digits) = let rest = fold-next_number-le (next_number number digit) digits in omega arith

no_number : (all fits : Bool) (number : ℕ) → fits ≡ false → None ≡ (if all && fits then Some number else None)
no_number true fits number is = rw is refl
no_number false fits number is = refl

-- more digits never make a number smaller
pub number_past : (all : Bool) (digits rest : List ℕ) (number : ℕ) → number_of digits ≡ fold next_number number rest → 18446744073709551616 ≤ number
    → None ≡ (if all && nat_lt (number_of digits) 18446744073709551616 then Some (number_of digits) else None)
number_past all digits rest number is past =
    let above : 18446744073709551616 ≤ number_of digits = omega (arith, fold-next_number-le number rest, is, past) in
    no_number all (nat_lt (number_of digits) 18446744073709551616) (number_of digits) (le-ltb (number_of digits) 18446744073709551616 above)
