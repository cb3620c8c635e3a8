use Rattle.std.proofs.Common.{◌<◌, ℕ, suc, List, [], ◌∷◌, get_or, arith}
use Rattle.tab_spec.specs.Values.{AreBytes}
use Rattle.session_swap.proofs.items.bytes_of.Goals as goal

bytes_fit : (bytes : List ℕ) → ((i : ℕ) → get_or bytes i 0 < 256) → AreBytes bytes
bytes_fit [] all = tt
bytes_fit (byte ∷ bytes) all = (all 0, bytes_fit bytes (λ i. all (suc i)))

pub returns-clause-bytes : goal.returns-clause-bytes
returns-clause-bytes c = bytes_fit c.args.context.now (λ i. omega (arith, c.type_inv.context i))
