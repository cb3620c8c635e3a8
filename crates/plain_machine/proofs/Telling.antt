-- What GetCapability leaves.
use Rattle.std.proofs.Common.{◌≡◌, ℕ, List, refl, true}
use Rattle.std.specs.Prelude.{Some, Result, Ok}
use Rattle.history_spec.specs.declared.Pick.{Pick}
use Rattle.history_spec.specs.declared.Pick.TheVariants as picks
use Rattle.tab_spec.specs.declared.TheConstants.{RC_SUCCESS, ST_NO_SESSIONS}
use Rattle.tab_spec.specs.Reply.{response}
use Rattle.world_spec.specs.World.{ClientState, capability_step, choosing_nothing}
use Rattle.plain_machine.specs.Picks.{is_nothing}

pub capability_told : (state : ClientState) (row : Result (List ℕ) ℕ) (pick : Pick)
    (params reply : List ℕ) → is_nothing pick ≡ true → row ≡ Ok params
    → reply ≡ response ST_NO_SESSIONS RC_SUCCESS params
    → choosing_nothing (capability_step state row) pick ≡ Some (state, reply)
capability_told state row picks.Nothing params reply nothing is whole = rw (is, whole) refl
capability_told state row (picks.Session number) params reply nothing is whole = absurd cc
capability_told state row (picks.Sequence number) params reply nothing is whole = absurd cc
