-- A response that is begun with its header, and whose size is set after its body.
use Rattle.std.proofs.Common.{◌≡◌, ℕ, List, [], ◌++◌, length, take, drop, arith}
use Rattle.std.proofs.lemmas.Grind.{common_steps}
use Rattle.std.specs.Int.{w32, to_be_bytes}
use Rattle.tab_spec.specs.Reply.{response}

-- a header with the size of the whole, and the body
pub response_ended : (tag code : ℕ) (begun body whole reply : List ℕ) → begun ≡ response tag code [] → whole ≡ begun ++ body
    → reply ≡ take 2 whole ++ to_be_bytes w32 (length whole) ++ drop 6 whole → reply ≡ response tag code body
response_ended tag code begun body whole reply header appended ended = rw (ended, appended, header) (grind (arith, common_steps))
