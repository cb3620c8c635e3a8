-- The list of left sessions, after a client's command.
use Rattle.std.proofs.Common.{◌≡◌, ◌≤◌, ℕ, Bool, true, false, List, length, refl, arith}
use Rattle.std.specs.Prelude.{◌==◌, ◌&&◌, ◌+◌, ◌*◌, ◌^◌, not, nat_lt, drop, get_or, Option, Some, None, is_some, IfSome, Result, Ok, Err, if◌then◌else◌}
use Rattle.std.proofs.lemmas.Bool.{cond_both}
use Rattle.tab_spec.specs.declared.Admitted.{Admitted}
use Rattle.tab_spec.specs.declared.Auths.{Auths}
use Rattle.tab_spec.specs.declared.Shape.{Shape}
use Rattle.tab_spec.specs.declared.TheConstants.{CC_CONTEXT_LOAD, CC_CONTEXT_SAVE, CC_FLUSH_CONTEXT, CC_GET_CAPABILITY, HT_TRANSIENT, RC_1, RC_HANDLE, RC_P, RC_VALUE, SESSION_NUMBERS, TRANSIENT_FIRST}
use Rattle.tab_spec.specs.Admission.{client_admitted, is_session_handle}
use Rattle.tab_spec.specs.Object.{Object}
use Rattle.tab_spec.specs.Session.{Session, kind_octet}
use Rattle.tab_spec.specs.Shape.{number_of_session, octet_of}
use Rattle.effect_spec.specs.Contexts.{Context, opened_object, session_context}
use Rattle.effect_spec.specs.Effect.{effect_of}
use Rattle.effect_spec.specs.Operands.{Created, nothing, new_object, new_session}
use Rattle.history_spec.specs.declared.Pick.{Pick}
use Rattle.history_spec.specs.declared.Pick.TheVariants as picks
use Rattle.history_spec.specs.Table.{held_under}
use Rattle.world_spec.specs.World.{ClientState, ClientStep, Owned, admitted_step, capability_step, choosing_nothing, client_capability, client_operands, client_step, effect_step, flush_fault, flush_handle, flush_step, flushed_step, handed_step, has_object, is_handed, is_unused, left_by, load_parameters, load_step, loadable_under, made_step, may_hand_out, numbered_step, object_handed, object_opened, own_place, owns_session, room_for, run_step, save_parameters, save_step, saved_place, session_handed, session_of, session_taken, tables_of, unless_full, without_named}
use Rattle.world_laws.specs.Left.{LeftStands, is_left}
use Rattle.world_laws.proofs.Listed.{place_at, shorter, stands_put, stands_taken}
use Rattle.world_laws.proofs.Named.{after_stands, effect_apart, own_held, used_held}

-- the list stands after a step, and isn't longer
abbrev Follows : ClientState → ClientState → Type 0
Follows state after = LeftStands after.sessions after.left × (length after.left ≤ length state.left)

abbrev Keeps : ClientState → Option ClientStep → Type 0
Keeps state step = IfSome step (λ s. Follows state s.0)

same : (state : ClientState) → LeftStands state.sessions state.left → Follows state state
same state stands = (stands, omega arith)

chosen : (state : ClientState) (step : ClientStep) (pick : Pick) → Follows state step.0 → Keeps state (choosing_nothing step pick)
chosen state step picks.Nothing follows = follows
chosen state step (picks.Session number) follows = tt
chosen state step (picks.Sequence sequence) follows = tt

-- ---- what is made

unused_held : (low : Bool) (place : Option Owned) → (low && not (is_some place)) ≡ true → is_left place ≡ false
unused_held low None is = refl
unused_held true (Some place) is = absurd cc
unused_held false (Some place) is = absurd cc

numbered : (client : ℕ) (state : ClientState) (s : Session) (reply : List ℕ) (number : ℕ) → LeftStands state.sessions state.left
    → Keeps state (numbered_step client state s reply number)
numbered client state s reply number stands =
    cond_both (is_unused state.sessions number) _ None (Keeps state) (λ unused. (
      stands_put state.sessions state.left number (own_place client (kind_octet s.kind * 2 ^ 24 + number) s) stands
          (unused_held (nat_lt number SESSION_NUMBERS) (place_at state.sessions number) unused) refl,
      omega arith,
    )) (λ taken. tt)

made : (client : ℕ) (state : ClientState) (created : Created) (reply : List ℕ) (pick : Pick) → LeftStands state.sessions state.left
    → Keeps state (made_step client state created reply pick)
made client state nothing reply pick stands = chosen state _ pick (same state stands)
made client state (new_object o) reply pick stands = chosen state _ pick (same state stands)
made client state (new_session s) reply picks.Nothing stands = tt
made client state (new_session s) reply (picks.Session number) stands = numbered client state s reply number stands
made client state (new_session s) reply (picks.Sequence sequence) stands = tt

-- ---- FlushContext

without : (client : ℕ) (state : ClientState) (handle : ℕ) → LeftStands state.sessions state.left
    → flush_fault (has_object state) (owns_session client state) handle ≡ None → Follows state (without_named state handle)
without client state handle stands none =
    cond_both (octet_of handle == HT_TRANSIENT) _ _ (λ (left : ClientState). Follows state left) (λ object. same state stands) (λ other. (
      stands_put state.sessions state.left (number_of_session handle) None stands
          (own_held client (octet_of handle) (place_at state.sessions (number_of_session handle))
          (owned_by_fault (octet_of handle == HT_TRANSIENT) (is_session_handle handle) (has_object state handle) (owns_session client state handle)
          other none)) refl,
      omega arith,
    ))
  where
    owned_by_fault : (transient session object owned : Bool) → transient ≡ false
        → (if transient then (if object then None else Some (RC_HANDLE + RC_P + RC_1))
        else if session then (if owned then None else Some (RC_HANDLE + RC_P + RC_1)) else Some (RC_VALUE + RC_P + RC_1)) ≡ None
        → owned ≡ true
    owned_by_fault true session object owned other none = absurd cc
    owned_by_fault false true object true other none = refl
    owned_by_fault false true object false other none = absurd cc
    owned_by_fault false false object owned other none = absurd cc

flushed : (client : ℕ) (state : ClientState) (handle : ℕ) (fault : Option ℕ) → LeftStands state.sessions state.left
    → flush_fault (has_object state) (owns_session client state) handle ≡ fault → Follows state (flushed_step state handle fault).0
flushed client state handle (Some code) stands is = same state stands
flushed client state handle None stands is = without client state handle stands is

flushes : (client : ℕ) (state : ClientState) (handle : Result ℕ ℕ) → LeftStands state.sessions state.left → Follows state (flush_step client state handle).0
flushes client state (Err code) stands = same state stands
flushes client state (Ok handle) stands =
    flushed client state handle (flush_fault (has_object state) (owns_session client state) handle) stands refl

-- ---- ContextSave

object_hands : (state : ClientState) (found : Option Object) (sequence : ℕ) → LeftStands state.sessions state.left
    → Keeps state (object_handed state found sequence)
object_hands state None sequence stands = tt
object_hands state (Some o) sequence stands =
    cond_both (may_hand_out state.object_sequence sequence) _ None (Keeps state) (λ may. same state stands) (λ late. tt)

session_hands : (client : ℕ) (state : ClientState) (handle : ℕ) (found : Option Session) (sequence : ℕ) → LeftStands state.sessions state.left
    → session_of state.sessions client handle ≡ found → Keeps state (session_handed client state handle found sequence)
session_hands client state handle None sequence stands is = tt
session_hands client state handle (Some s) sequence stands is =
    cond_both (may_hand_out state.session_sequence sequence) _ None (Keeps state) (λ may. (
      stands_put state.sessions state.left (number_of_session handle)
          (saved_place client handle s (session_context state.persist.seed handle sequence s)) stands
          (used_held state.sessions client handle s is) refl,
      omega arith,
    )) (λ late. tt)

hands : (client : ℕ) (state : ClientState) (handle sequence : ℕ) → LeftStands state.sessions state.left
    → Keeps state (handed_step client state handle sequence)
hands client state handle sequence stands =
    cond_both (octet_of handle == HT_TRANSIENT) (object_handed state (held_under state.objects handle) sequence)
    (session_handed client state handle (session_of state.sessions client handle) sequence) (Keeps state)
    (λ object. object_hands state (held_under state.objects handle) sequence stands)
    (λ session. session_hands client state handle (session_of state.sessions client handle) sequence stands refl)

saves : (client : ℕ) (state : ClientState) (handle : ℕ) (params : Result ℕ ℕ) (pick : Pick) → LeftStands state.sessions state.left
    → Keeps state (save_step client state handle params pick)
saves client state handle (Err code) pick stands = chosen state _ pick (same state stands)
saves client state handle (Ok none) picks.Nothing stands = tt
saves client state handle (Ok none) (picks.Session number) stands = tt
saves client state handle (Ok none) (picks.Sequence sequence) stands = hands client state handle sequence stands

-- ---- ContextLoad

opened : (state : ClientState) (found : Option Object) → LeftStands state.sessions state.left → Follows state (object_opened state found).0
opened state None stands = same state stands
opened state (Some o) stands = same state stands

taken : (client : ℕ) (state : ClientState) (handle : ℕ) (bytes : List ℕ) (found : Option Owned) → LeftStands state.sessions state.left
    → Follows state (session_taken client state handle bytes found).0
taken client state handle bytes None stands = same state stands
taken client state handle bytes (Some place) stands =
    cond_both (is_handed bytes place.handed) _ _ (λ (step : ClientStep). Follows state step.0) (λ so. (
      stands_taken state.sessions state.left (number_of_session handle) (own_place client handle place.session) stands refl,
      shorter (number_of_session handle) state.left,
    )) (λ other. same state stands)

loads : (client : ℕ) (state : ClientState) (bytes : List ℕ) (read : Result Context ℕ) → LeftStands state.sessions state.left
    → Follows state (load_step client state bytes read).0
loads client state bytes (Err code) stands = same state stands
loads client state bytes (Ok context) stands =
    let handle = context.saved_handle in
    let IsKept : ClientStep → Type 0 = λ step. Follows state step.0 in
    cond_both (handle == TRANSIENT_FIRST) (object_opened state (opened_object state.persist.seed bytes)) _ IsKept
    (λ object. opened state (opened_object state.persist.seed bytes) stands) (λ other.
    cond_both (is_session_handle handle) (session_taken client state handle bytes (loadable_under state.sessions client handle)) _ IsKept
    (λ session. taken client state handle bytes (loadable_under state.sessions client handle) stands) (λ none. same state stands))

-- ---- all commands

tells : (state : ClientState) (row : Result (List ℕ) ℕ) → LeftStands state.sessions state.left → Follows state (capability_step state row).0
tells state (Err code) stands = same state stands
tells state (Ok params) stands = same state stands

bounded : (state : ClientState) (room : Option ℕ) (next : Pick → Option ClientStep) (pick : Pick) → LeftStands state.sessions state.left
    → Keeps state (next pick) → Keeps state (unless_full state room next pick)
bounded state (Some code) next pick stands keeps = chosen state _ pick (same state stands)
bounded state None next pick stands keeps = keeps

runs : (client : ℕ) (state : ClientState) (shape : Shape) (auths : Auths) (command : List ℕ) (pick : Pick) → LeftStands state.sessions state.left
    → Keeps state (run_step client state shape auths command pick)
runs client state shape auths command pick stands =
    let params = drop auths.params command in
    let code = shape.row.code in
    let effect = effect_of state.persist (client_operands client state shape auths) shape auths command in
    let flush = choosing_nothing (flush_step client state (flush_handle params)) pick in
    let save = save_step client state (get_or shape.handles 0 0) (save_parameters params) pick in
    let load = choosing_nothing (load_step client state params (load_parameters params)) pick in
    let list = choosing_nothing (capability_step state (client_capability client state params)) pick in
    let after : LeftStands (left_by client state effect).sessions state.left =
    after_stands client state.sessions state.left effect.operands effect.outcome.auth_ended (effect_apart client state shape auths command) stands in
    cond_both (code == CC_FLUSH_CONTEXT) flush _ (Keeps state) (λ so. chosen state _ pick (flushes client state (flush_handle params) stands)) (λ not.
    cond_both (code == CC_CONTEXT_SAVE) save _ (Keeps state) (λ so. saves client state (get_or shape.handles 0 0) (save_parameters params) pick stands) (λ not.
    cond_both (code == CC_CONTEXT_LOAD) load _ (Keeps state) (λ so. chosen state _ pick (loads client state params (load_parameters params) stands)) (λ not.
    cond_both (code == CC_GET_CAPABILITY) list (unless_full state (room_for state code params) (effect_step client state effect) pick) (Keeps state)
    (λ so. chosen state _ pick (tells state (client_capability client state params) stands)) (λ not.
    bounded state (room_for state code params) (effect_step client state effect) pick stands
    (made client (left_by client state effect) effect.outcome.created effect.reply pick after)))))

admits : (client : ℕ) (state : ClientState) (admitted : Result Admitted ℕ) (command : List ℕ) (pick : Pick) → LeftStands state.sessions state.left
    → Keeps state (admitted_step client state admitted command pick)
admits client state (Err code) command pick stands = chosen state _ pick (same state stands)
admits client state (Ok a) command pick stands = runs client state a.shape a.auths command pick stands

pub client_stands : (client : ℕ) (state : ClientState) (command : List ℕ) (pick : Pick) → LeftStands state.sessions state.left
    → IfSome (client_step client state command pick) (λ step. LeftStands step.0.sessions step.0.left × (length step.0.left ≤ length state.left))
unfolding client_step
client_stands client state command pick stands = admits client state (client_admitted (tables_of client state) command) command pick stands
