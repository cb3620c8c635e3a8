-- No step of a client changes how many sessions there may be.
use Rattle.std.proofs.Common.{◌≡◌, ℕ, List, refl}
use Rattle.std.proofs.lemmas.Bool.{cond_both}
use Rattle.std.specs.Prelude.{◌==◌, Option, Some, None, IfSome, Result, Ok, Err, drop, get_or}
use Rattle.tab_spec.specs.declared.Admitted.{Admitted}
use Rattle.tab_spec.specs.declared.Auths.{Auths}
use Rattle.tab_spec.specs.declared.Shape.{Shape}
use Rattle.tab_spec.specs.declared.TheConstants.{CC_CONTEXT_LOAD, CC_CONTEXT_SAVE, CC_FLUSH_CONTEXT, CC_GET_CAPABILITY, HT_TRANSIENT, TRANSIENT_FIRST}
use Rattle.tab_spec.specs.Admission.{client_admitted, is_session_handle}
use Rattle.tab_spec.specs.Object.{Object}
use Rattle.tab_spec.specs.Session.{Session}
use Rattle.tab_spec.specs.Shape.{octet_of}
use Rattle.effect_spec.specs.Contexts.{Context, opened_object}
use Rattle.effect_spec.specs.Effect.{effect_of}
use Rattle.effect_spec.specs.Operands.{Created, nothing, new_object, new_session}
use Rattle.history_spec.specs.declared.Pick.{Pick}
use Rattle.history_spec.specs.declared.Pick.TheVariants as picks
use Rattle.history_spec.specs.Table.{held_under}
use Rattle.world_spec.specs.World.{ClientState, ClientStep, Owned, admitted_step, capability_step, choosing_nothing, client_capability, client_operands, client_step, effect_step, flush_fault, flush_handle, flush_step, flushed_step, handed_step, has_object, is_handed, is_unused, left_by, load_parameters, load_step, loadable_under, made_step, may_hand_out, numbered_step, object_handed, object_opened, owns_session, room_for, run_step, save_parameters, save_step, session_handed, session_of, session_taken, tables_of, unless_full, without_named}

abbrev Keeps : ℕ → Option ClientStep → Type 0
Keeps most step = IfSome step (λ s. s.0.most ≡ most)

chosen : (most : ℕ) (step : ClientStep) (pick : Pick) → step.0.most ≡ most → Keeps most (choosing_nothing step pick)
chosen most step picks.Nothing is = is
chosen most step (picks.Session number) is = tt
chosen most step (picks.Sequence sequence) is = tt

numbered : (client : ℕ) (state : ClientState) (s : Session) (reply : List ℕ) (number : ℕ) → Keeps state.most (numbered_step client state s reply number)
numbered client state s reply number = cond_both (is_unused state.sessions number) _ None (Keeps state.most) (λ unused. refl) (λ taken. tt)

made : (client : ℕ) (state : ClientState) (created : Created) (reply : List ℕ) (pick : Pick) → Keeps state.most (made_step client state created reply pick)
made client state nothing reply pick = chosen state.most _ pick refl
made client state (new_object o) reply pick = chosen state.most _ pick refl
made client state (new_session s) reply picks.Nothing = tt
made client state (new_session s) reply (picks.Session number) = numbered client state s reply number
made client state (new_session s) reply (picks.Sequence sequence) = tt

without : (state : ClientState) (handle : ℕ) → (without_named state handle).most ≡ state.most
without state handle =
    cond_both (octet_of handle == HT_TRANSIENT) _ _ (λ (left : ClientState). left.most ≡ state.most) (λ object. refl) (λ session. refl)

flushed : (state : ClientState) (handle : ℕ) (fault : Option ℕ) → (flushed_step state handle fault).0.most ≡ state.most
flushed state handle (Some code) = refl
flushed state handle None = without state handle

flushes : (client : ℕ) (state : ClientState) (handle : Result ℕ ℕ) → (flush_step client state handle).0.most ≡ state.most
flushes client state (Err code) = refl
flushes client state (Ok handle) = flushed state handle (flush_fault (has_object state) (owns_session client state) handle)

object_hands : (state : ClientState) (found : Option Object) (sequence : ℕ) → Keeps state.most (object_handed state found sequence)
object_hands state None sequence = tt
object_hands state (Some o) sequence = cond_both (may_hand_out state.object_sequence sequence) _ None (Keeps state.most) (λ may. refl) (λ late. tt)

session_hands : (client : ℕ) (state : ClientState) (handle : ℕ) (found : Option Session) (sequence : ℕ)
    → Keeps state.most (session_handed client state handle found sequence)
session_hands client state handle None sequence = tt
session_hands client state handle (Some s) sequence =
    cond_both (may_hand_out state.session_sequence sequence) _ None (Keeps state.most) (λ may. refl) (λ late. tt)

hands : (client : ℕ) (state : ClientState) (handle sequence : ℕ) → Keeps state.most (handed_step client state handle sequence)
hands client state handle sequence =
    cond_both (octet_of handle == HT_TRANSIENT) (object_handed state (held_under state.objects handle) sequence)
    (session_handed client state handle (session_of state.sessions client handle) sequence) (Keeps state.most)
    (λ object. object_hands state (held_under state.objects handle) sequence)
    (λ session. session_hands client state handle (session_of state.sessions client handle) sequence)

saves : (client : ℕ) (state : ClientState) (handle : ℕ) (params : Result ℕ ℕ) (pick : Pick) → Keeps state.most (save_step client state handle params pick)
saves client state handle (Err code) pick = chosen state.most _ pick refl
saves client state handle (Ok none) picks.Nothing = tt
saves client state handle (Ok none) (picks.Session number) = tt
saves client state handle (Ok none) (picks.Sequence sequence) = hands client state handle sequence

opened : (state : ClientState) (found : Option Object) → (object_opened state found).0.most ≡ state.most
opened state None = refl
opened state (Some o) = refl

taken : (client : ℕ) (state : ClientState) (handle : ℕ) (bytes : List ℕ) (found : Option Owned)
    → (session_taken client state handle bytes found).0.most ≡ state.most
taken client state handle bytes None = refl
taken client state handle bytes (Some place) =
    cond_both (is_handed bytes place.handed) _ _ (λ (step : ClientStep). step.0.most ≡ state.most) (λ same. refl) (λ other. refl)

loads : (client : ℕ) (state : ClientState) (bytes : List ℕ) (read : Result Context ℕ) → (load_step client state bytes read).0.most ≡ state.most
loads client state bytes (Err code) = refl
loads client state bytes (Ok context) =
    let handle = context.saved_handle in
    let IsKept : ClientStep → Type 0 = λ step. step.0.most ≡ state.most in
    cond_both (handle == TRANSIENT_FIRST) (object_opened state (opened_object state.persist.seed bytes)) _ IsKept
    (λ object. opened state (opened_object state.persist.seed bytes)) (λ other.
    cond_both (is_session_handle handle) (session_taken client state handle bytes (loadable_under state.sessions client handle)) _ IsKept
    (λ session. taken client state handle bytes (loadable_under state.sessions client handle)) (λ none. refl))

tells : (state : ClientState) (row : Result (List ℕ) ℕ) → (capability_step state row).0.most ≡ state.most
tells state (Err code) = refl
tells state (Ok params) = refl

bounded : (state : ClientState) (room : Option ℕ) (next : Pick → Option ClientStep) (pick : Pick) → Keeps state.most (next pick)
    → Keeps state.most (unless_full state room next pick)
bounded state (Some code) next pick keeps = chosen state.most _ pick refl
bounded state None next pick keeps = keeps

runs : (client : ℕ) (state : ClientState) (shape : Shape) (auths : Auths) (command : List ℕ) (pick : Pick)
    → Keeps state.most (run_step client state shape auths command pick)
runs client state shape auths command pick =
    let params = drop auths.params command in
    let code = shape.row.code in
    let most = state.most in
    let effect = effect_of state.persist (client_operands client state shape auths) shape auths command in
    let flush = choosing_nothing (flush_step client state (flush_handle params)) pick in
    let save = save_step client state (get_or shape.handles 0 0) (save_parameters params) pick in
    let load = choosing_nothing (load_step client state params (load_parameters params)) pick in
    let list = choosing_nothing (capability_step state (client_capability client state params)) pick in
    cond_both (code == CC_FLUSH_CONTEXT) flush _ (Keeps most) (λ so. chosen most _ pick (flushes client state (flush_handle params))) (λ not.
    cond_both (code == CC_CONTEXT_SAVE) save _ (Keeps most) (λ so. saves client state (get_or shape.handles 0 0) (save_parameters params) pick) (λ not.
    cond_both (code == CC_CONTEXT_LOAD) load _ (Keeps most) (λ so. chosen most _ pick (loads client state params (load_parameters params))) (λ not.
    cond_both (code == CC_GET_CAPABILITY) list (unless_full state (room_for state code params) (effect_step client state effect) pick) (Keeps most)
    (λ so. chosen most _ pick (tells state (client_capability client state params))) (λ not.
    bounded state (room_for state code params) (effect_step client state effect) pick
    (made client (left_by client state effect) effect.outcome.created effect.reply pick)))))

admits : (client : ℕ) (state : ClientState) (admitted : Result Admitted ℕ) (command : List ℕ) (pick : Pick)
    → Keeps state.most (admitted_step client state admitted command pick)
admits client state (Err code) command pick = chosen state.most _ pick refl
admits client state (Ok a) command pick = runs client state a.shape a.auths command pick

pub client_most : (client : ℕ) (state : ClientState) (command : List ℕ) (pick : Pick)
    → IfSome (client_step client state command pick) (λ step. step.0.most ≡ state.most)
unfolding client_step
client_most client state command pick = admits client state (client_admitted (tables_of client state) command) command pick
