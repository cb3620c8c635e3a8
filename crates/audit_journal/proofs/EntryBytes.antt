-- What a slice has are bytes.
use Rattle.std.proofs.Common.{◌<◌, ℕ, suc, List, [], ◌∷◌, get_or}
use Rattle.tab_spec.specs.Values.{AreBytes}

pub listed : (bytes : List ℕ) → ((i : ℕ) → get_or bytes i 0 < 256) → AreBytes bytes
listed [] each = tt
listed (b ∷ bytes) each = (each 0, listed bytes (λ i. each (suc i)))
