-- The handles of a list, gone over one by one.
use Rattle.std.proofs.Common.{◌≡◌, ◌<◌, ◌≤◌, ◌+◌, ◌*◌, ◌-◌, ℕ, suc, Bool, List, ◌∷◌, length, take, drop, arith, refl, ap, sym, ◌∙◌, drop-drop}
use Rattle.std.specs.Prelude.{◌&&◌, Some}
use Rattle.std.specs.List.{list_all}
use Rattle.std.specs.Int.{w32, from_be_bytes}
use Rattle.std.proofs.lemmas.Bool.{le-ltb}
use Rattle.device_spec.specs.Answers.{handles_from, word_at}

-- those of a response from a place on
abbrev pub rest_of : ℕ → ℕ → List ℕ → List ℕ
rest_of count place last = handles_from (count - place) (drop (19 + 4 * place) last)

-- a word within the bytes is there
pub word_there : (at : ℕ) (bytes : List ℕ) → at + 4 ≤ length bytes → word_at at bytes ≡ Some (from_be_bytes w32 (take 4 (drop at bytes)))
word_there at bytes long = rw (le-ltb (length bytes) (at + 4) long) refl

-- the next one, and those behind it
pub next_of : (count place : ℕ) (last : List ℕ) (handle : ℕ) → place < count → length last ≡ 19 + 4 * count
    → word_at (19 + 4 * place) last ≡ Some handle → rest_of count place last ≡ handle ∷ rest_of count (place + 1) last
next_of count place last handle more whole is =
    let one : count - place ≡ suc (count - (place + 1)) = omega (arith, more) in
    let at = 19 + 4 * place in
    let first = from_be_bytes w32 (take 4 (drop at last)) in
    let there : Some first ≡ Some handle = sym (word_there at last (omega (arith, more, whole))) ∙ is in
    let same : first ≡ handle = cc in
    let behind : drop 4 (drop at last) ≡ drop (19 + 4 * (place + 1)) last =
    drop-drop 4 at last ∙ ap (λ (n : ℕ). drop n last) (omega arith) in
    ap (λ (n : ℕ). handles_from n (drop at last)) one
    ∙ ap (λ (rest : List ℕ). first ∷ handles_from (count - (place + 1)) rest) behind
    ∙ ap (λ (h : ℕ). h ∷ rest_of count (place + 1) last) same

-- whether all from a place on pass
abbrev pub all_from : (ℕ → Bool) → ℕ → ℕ → List ℕ → Bool
all_from fits count place last = list_all fits (rest_of count place last)

-- the next one passes, and those behind it
pub next_listed : (fits : ℕ → Bool) (count place : ℕ) (last : List ℕ) (handle : ℕ) → place < count → length last ≡ 19 + 4 * count
    → word_at (19 + 4 * place) last ≡ Some handle → all_from fits count place last ≡ (fits handle && all_from fits count (place + 1) last)
next_listed fits count place last handle more whole is = ap (list_all fits) (next_of count place last handle more whole is)
