-- Which commands leave a choice, and which pick is one that they may have.
use Rattle.std.specs.Prelude.{ℕ, ◌==◌, ◌&&◌, not, nat_le, Bool, true, false, List, drop, Option, is_ok}
use Rattle.tab_spec.specs.declared.TheConstants.{CC_START_AUTH_SESSION}
use Rattle.tab_spec.specs.declared.Auths.{Auths}
use Rattle.tab_spec.specs.declared.Shape.{Shape}
use Rattle.tab_spec.specs.Persist.{Persist}
use Rattle.effect_spec.specs.Effect.{effect_of}
use Rattle.effect_spec.specs.Operands.{Created, nothing, new_object, new_session}
use Rattle.effect_spec.specs.Sessions.{start_check, start_session_row}
use Rattle.history_spec.specs.declared.Pick.{Pick}
use Rattle.history_spec.specs.declared.Pick.TheVariants as picks
use Rattle.world_spec.specs.World.{ClientState, ClientStep, Owned, active, client_operands, effect_step, is_unused, room_for, unless_full}

-- whether there is no pick
abbrev pub is_nothing : Pick → Bool
is_nothing picks.Nothing = true
is_nothing (picks.Session number) = false
is_nothing (picks.Sequence sequence) = false

-- whether a command would start a session, and as many as there may be are active
abbrev pub lacks_number : ℕ → List (Option Owned) → ℕ → List ℕ → Bool
lacks_number most sessions code params =
    code == CC_START_AUTH_SESSION && is_ok (start_check params) && nat_le most (active sessions)

-- the step of a command that has an effect alone
abbrev pub effect_run : ℕ → ClientState → Shape → Auths → List ℕ → Pick → Option ClientStep
effect_run client state shape auths command =
    unless_full state (room_for state shape.row.code (drop auths.params command))
    (effect_step client state (effect_of state.persist (client_operands client state shape auths) shape auths command))

-- whether a command starts a session, where one more may be active
abbrev pub starts_session : Persist → ℕ → List ℕ → Bool
starts_session persist code params = code == CC_START_AUTH_SESSION && is_ok (start_session_row persist params)

-- a pick that a command may have, which starts a session or does not
abbrev pub may_have : Bool → List (Option Owned) → Pick → Bool
may_have starts sessions picks.Nothing = not starts
may_have starts sessions (picks.Session number) = starts && is_unused sessions number
may_have starts sessions (picks.Sequence number) = false

abbrev pub is_session : Created → Bool
is_session nothing = false
is_session (new_object o) = false
is_session (new_session s) = true
