-- Items that are put one after the other.
use Rattle.std.proofs.Common.{◌≡◌, ◌+◌, ◌-◌, ◌<◌, ℕ, suc, List, [], ◌∷◌, ◌++◌, take, ap, sym, ◌∙◌, arith, append_assoc, append-nil}
use Rattle.std.proofs.Math.Seq.{take-nil}
use Rattle.effect_spec.specs.Capabilities.{joined_items}

-- one more item
pub put_more : (reply bytes whole : List ℕ) (count i : ℕ) (items rest : List (List ℕ)) → i < count → items ≡ bytes ∷ rest
    → reply ++ joined_items (take (count - i) items) ≡ whole → (reply ++ bytes) ++ joined_items (take (count - (i + 1)) rest) ≡ whole
put_more reply bytes whole count i items rest below is put =
    let left : count - i ≡ suc (count - (i + 1)) = omega (arith, below) in
    append_assoc reply bytes (joined_items (take (count - (i + 1)) rest))
    ∙ sym (ap (λ (n : ℕ). reply ++ joined_items (take n (bytes ∷ rest))) left)
    ∙ sym (ap (λ (xs : List (List ℕ)). reply ++ joined_items (take (count - i) xs)) is)
    ∙ put

-- no item is left
pub put_last : (reply whole : List ℕ) (n : ℕ) (items : List (List ℕ)) → items ≡ [] → reply ++ joined_items (take n items) ≡ whole → reply ≡ whole
put_last reply whole n items is put =
    sym (append-nil reply)
    ∙ sym (ap (λ (xs : List (List ℕ)). reply ++ joined_items xs) (ap (take n) is ∙ take-nil n))
    ∙ put

-- no more is asked for
pub put_enough : (reply whole : List ℕ) (count i : ℕ) (items : List (List ℕ)) → i ≡ count → reply ++ joined_items (take (count - i) items) ≡ whole → reply ≡ whole
put_enough reply whole count i items is put =
    let none : count - i ≡ 0 = omega (arith, is) in
    sym (append-nil reply) ∙ sym (ap (λ (n : ℕ). reply ++ joined_items (take n items)) none) ∙ put
