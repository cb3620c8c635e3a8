-- A seed read by its size, as `from_hex` reads it, is the seed of the words' grammar.
use Rattle.std.proofs.Common.{inl, inr, ◌≡◌, ℕ, List, length, None, Result, Ok, Err, refl, sym, ◌∙◌, arith}
use Rattle.std.proofs.lemmas.Bool.{cases_eq, eq-eqb, ne_eqb}
use Rattle.std.specs.Result.{result_ok}
use Rattle.hex.specs.declared.error.FromHexError.{FromHexError}
use Rattle.hex.specs.Hex.{decode_of, decode_sized}
use Rattle.hex.proofs.HexLemmas.{decode_of-ok, decode_sized-ok, decode_sized-twice}
use Rattle.command_line.specs.Words.{seed_in}

-- 64 digits are a seed where they decode
seed_same : (digits : List ℕ) (d : Result (List ℕ) FromHexError) → decode_of digits ≡ d → length digits ≡ 64 → result_ok d ≡ seed_in d
seed_same digits (Err e) h same = refl
seed_same digits (Ok bytes) h same =
    let long : length bytes ≡ 32 = omega (arith, (decode_of-ok digits bytes h).2) in
    rw (eq-eqb (length bytes) 32 long) refl

-- other texts are none
seed_other : (digits : List ℕ) (d : Result (List ℕ) FromHexError) → decode_of digits ≡ d → (length digits ≡ 64 → ⊥) → seed_in d ≡ None
seed_other digits (Err e) h other = refl
seed_other digits (Ok bytes) h other =
    let long : length bytes ≡ 32 → ⊥ = λ e. other (omega (arith, (decode_of-ok digits bytes h).2)) in
    rw (ne_eqb (length bytes) 32 long) refl

sized_other : (digits : List ℕ) (d : Result (List ℕ) FromHexError) → decode_sized digits 32 ≡ d → (length digits ≡ 64 → ⊥) → result_ok d ≡ None
sized_other digits (Err e) h other = refl
sized_other digits (Ok bytes) h other = absurd (other (decode_sized-ok digits 32 bytes h))

pub result_ok-decode_sized : (digits : List ℕ) → result_ok (decode_sized digits 32) ≡ seed_in (decode_of digits)
result_ok-decode_sized digits = elim (cases_eq (length digits) 64) [
  | inl same ↦ rw (decode_sized-twice digits 32 same) (seed_same digits (decode_of digits) refl same)
  | inr other ↦ sized_other digits (decode_sized digits 32) refl other ∙ sym (seed_other digits (decode_of digits) refl other)
]
