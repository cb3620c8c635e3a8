-- What was written, and then more.
use Rattle.std.proofs.Common.{◌≡◌, ℕ, List, ◌++◌, refl, append_assoc}
use Rattle.std.specs.Prelude.{Option, None, Some}
use Rattle.link_port.specs.Port.{with_more}

-- some bytes more, and then some more
pub with_more-append : (written : Option (List ℕ)) (xs ys : List ℕ)
    → with_more (with_more written xs) ys ≡ with_more written (xs ++ ys)
with_more-append None xs ys = refl
with_more-append (Some zs) xs ys = rw append_assoc
