-- A session starts only where the parameters that are given for it are right, and clients have fewer than may be active.
use Rattle.std.proofs.Common.{◌≡◌, ◌<◌, ℕ, Bool, true, false, List, [], drop, refl, ap, arith}
use Rattle.std.specs.Prelude.{◌==◌, Some, None, Result, Ok, Err, nat_le, if◌then◌else◌}
use Rattle.std.specs.List.{count_by}
use Rattle.std.proofs.lemmas.Bool.{and_parts, leb-false}
use Rattle.tab_spec.specs.declared.TheConstants.{CC_START_AUTH_SESSION, RC_SESSION_HANDLES, RC_SUCCESS}
use Rattle.tab_spec.specs.declared.Admitted.{Admitted}
use Rattle.tab_spec.specs.declared.Auths.{Auths}
use Rattle.tab_spec.specs.declared.Shape.{Shape}
use Rattle.tab_spec.specs.Frame.{code_of}
use Rattle.tab_spec.specs.Persist.{Persist}
use Rattle.effect_spec.specs.Effect.{RowOutcome, effect_authorized, effect_in, effect_of, outcome_of, response_auth_of}
use Rattle.effect_spec.specs.Operands.{Created, Operands, new_object, new_session, nothing}
use Rattle.effect_spec.specs.SessionAuths.{ResponseAuth}
use Rattle.effect_spec.specs.Sessions.{StartParameters, start_check}
use Rattle.device_spec.specs.Slots.{SlotState}
use Rattle.client_laws.specs.Ready.{TellsMade, client_effect, starts_session}
use Rattle.client_laws.proofs.Starts.{IsStarted, StartsIn, outcome_starts}
use Rattle.session_swap.specs.Items.{SessionsStand, SessionsView, is_held, is_orphan}
use Rattle.world_spec.specs.World as world
use Rattle.world_spec.specs.World.{ClientState, client_operands}
use Rattle.client_machine.specs.Settled.{sessions_in}
use Rattle.client_machine.proofs.Loading.{held_and_orphans}
use Rattle.client_machine.proofs.Ready.{active_seen}

-- ---- the parameters are right

abbrev IsRightly : List ℕ → Created → Type 0
IsRightly params nothing = Unit {0}
IsRightly params (new_object o) = Unit {0}
IsRightly params (new_session s) = (b : StartParameters) × (start_check params ≡ Ok b)

rightly : (params : List ℕ) (created : Created) → IsStarted params created → IsRightly params created
rightly params nothing is = tt
rightly params (new_object o) is = tt
rightly params (new_session s) is = (is.0, is.1.0)

authorized : (persist : Persist) (operands : Operands) (shape : Shape) (auths : Auths) (params : List ℕ) (done : RowOutcome) (closed : Result ResponseAuth ℕ)
    → StartsIn params (Ok done) → IsRightly params (effect_authorized persist operands shape auths done closed).outcome.created
authorized persist operands shape auths params done (Err code) starts = tt
authorized persist operands shape auths params done (Ok given) starts = rightly params done.created starts.1

in_row : (persist : Persist) (operands : Operands) (shape : Shape) (auths : Auths) (bytes params : List ℕ) (row : Result RowOutcome ℕ) → StartsIn params row
    → IsRightly params (effect_in persist operands shape auths bytes row).outcome.created
in_row persist operands shape auths bytes params (Err code) starts = tt
in_row persist operands shape auths bytes params (Ok done) starts =
    authorized persist operands shape auths params done (response_auth_of persist operands shape auths bytes done) starts

starts_rightly : (persist : Persist) (operands : Operands) (shape : Shape) (auths : Auths) (bytes : List ℕ) → (shape.row.code == CC_START_AUTH_SESSION) ≡ true
    → IsRightly (drop auths.params bytes) (effect_of persist operands shape auths bytes).outcome.created
unfolding effect_of
starts_rightly persist operands shape auths bytes is =
    in_row persist operands shape auths bytes (drop auths.params bytes) (outcome_of persist operands shape auths bytes)
    (outcome_starts persist operands shape auths bytes is)

-- ---- there is room

full_by : (full : Bool) (code : ℕ) → (if full then Some code else None) ≡ None → full ≡ false
full_by true code is = absurd cc
full_by false code is = refl

room_by : (start : Bool) (check : Result StartParameters ℕ) (b : StartParameters) (state : ClientState) → check ≡ Ok b
    → (if start then world.session_too_many state check else None) ≡ None → start ≡ true → world.active state.sessions < state.most
room_by true (Ok other) b state is room start =
    leb-false state.most (world.active state.sessions) (full_by (nat_le state.most (world.active state.sessions)) RC_SESSION_HANDLES room)
room_by true (Err code) b state is room start = absurd cc
room_by false check b state is room start = absurd cc

-- where it made one
abbrev pub HasFew : SessionsView → Created → Type 0
HasFew view nothing = Unit {0}
HasFew view (new_object o) = Unit {0}
HasFew view (new_session s) = count_by is_held view.items < view.numbers.active

few_by : (view : SessionsView) (params : List ℕ) (created : Created)
    → ((b : StartParameters) → start_check params ≡ Ok b → count_by is_held view.items < view.numbers.active)
    → IsRightly params created → HasFew view created
few_by view params nothing few is = tt
few_by view params (new_object o) few is = tt
few_by view params (new_session s) few is = few is.0 is.1

-- the clients have fewer than may be active
pub has_few : (slots : SlotState) (view : SessionsView) (client : ℕ) (state : ClientState) (a : Admitted) (bytes : List ℕ)
    → SessionsStand slots view [] → count_by is_orphan view.items ≡ 0 → state.most ≡ view.numbers.active → state.sessions ≡ sessions_in slots view.items
    → world.room_for state a.shape.row.code (drop a.auths.params bytes) ≡ None → (a.shape.row.code == CC_START_AUTH_SESSION) ≡ true
    → HasFew view (client_effect client state a bytes).outcome.created
has_few slots view client state a bytes stand nobodys most sessions room start =
    let params = drop a.auths.params bytes in
    few_by view params (client_effect client state a bytes).outcome.created
    (λ b right. omega (
      arith,
      room_by (a.shape.row.code == CC_START_AUTH_SESSION) (start_check params) b state right room start,
      most,
      ap world.active sessions,
      active_seen slots view stand nobodys,
      nobodys,
      held_and_orphans view.items,
    ))
    (starts_rightly state.persist (client_operands client state a.shape a.auths) a.shape a.auths bytes start)

-- whatever it made
pub few_made : (view : SessionsView) (a : Admitted) (bytes : List ℕ) (created : Created) (reply : List ℕ) → TellsMade a bytes created reply
    → (starts_session a ≡ true → HasFew view created) → HasFew view created
few_made view a bytes nothing reply tells few = tt
few_made view a bytes (new_object o) reply tells few = tt
few_made view a bytes (new_session s) reply tells few = few (and_parts (starts_session a) (code_of reply == RC_SUCCESS) tells.0).0
