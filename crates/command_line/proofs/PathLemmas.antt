-- A path over the front of zeros, as it is kept.
use Rattle.std.proofs.Common.{◌≡◌, ◌∙◌, ◌≤◌, ◌+◌, ◌-◌, ◌++◌, ℕ, List, length, take, drop, refl, sym, ap, subst, arith, IsUtf8, length-append}
use Rattle.std.specs.Prelude.{replicate}
use Rattle.std.proofs.lemmas.List.{drop-replicate, length-replicate, take_at}

pub over_zeros : (n : ℕ) (path front zeros : List ℕ) → front ≡ path → zeros ≡ replicate n 0 → length path ≤ n → IsUtf8 path
    → (length path ≤ n) × (length (front ++ drop (length path) zeros) ≡ n) × ∥ IsUtf8 (take (length path) (front ++ drop (length path) zeros)) ∥₁
    × (front ++ drop (length path) zeros ≡ take (length path) (front ++ drop (length path) zeros) ++ replicate (n - length path) 0)
over_zeros n path front zeros same are long utf8 =
    let rest = replicate (n - length path) 0 in
    let tail : drop (length path) zeros ≡ rest = ap (drop (length path)) are ∙ drop-replicate (length path) n 0 in
    let all : front ++ drop (length path) zeros ≡ path ++ rest = ap (λ (bytes : List ℕ). bytes ++ drop (length path) zeros) same ∙ ap (λ (bytes : List ℕ). path ++ bytes) tail in
    let begins : take (length path) (front ++ drop (length path) zeros) ≡ path = ap (take (length path)) all ∙ take_at path rest (length path) refl in
    let whole : length path + length rest ≡ n = omega (arith, length-replicate {A = ℕ} (n - length path) 0) in (
      long,
      ap length all ∙ length-append path rest ∙ whole,
      ∣ subst IsUtf8 (sym begins) utf8 ∣₁,
      all ∙ ap (λ (bytes : List ℕ). bytes ++ rest) (sym begins),
    )
