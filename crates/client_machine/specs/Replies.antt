-- What the broker answers by itself, over what a client has (Part 3, "TPM2_ContextSave", "TPM2_ContextLoad", "TPM2_GetCapability").
use Rattle.std.specs.Prelude.{◌≡◌, ℕ, ◌+◌, ◌==◌, List, [], map, set, drop, Option, Result, Ok, Err, if◌then◌else◌}
use Rattle.std.specs.Int.{w32, to_be_bytes}
use Rattle.std.specs.List.{count_by}
use Rattle.tab_spec.specs.declared.TheConstants.{CC_CONTEXT_LOAD, CC_CONTEXT_SAVE, RC_1, RC_HANDLE, RC_P, RC_SUCCESS, RC_VALUE, ST_NO_SESSIONS, TRANSIENT_FIRST}
use Rattle.tab_spec.specs.declared.Admitted.{Admitted}
use Rattle.tab_spec.specs.Admission.{is_session_handle}
use Rattle.tab_spec.specs.Commands.{all_commands}
use Rattle.tab_spec.specs.Persist.{Persist}
use Rattle.tab_spec.specs.Reply.{error_reply, response}
use Rattle.tab_spec.specs.Shape.{number_of_session}
use Rattle.device_spec.specs.Slots.{SlotState}
use Rattle.effect_spec.specs.Capabilities.{capability_of, client_limits, transient_from}
use Rattle.effect_spec.specs.Contexts.{Context}
use Rattle.device_port.specs.Use.{without_one}
use Rattle.session_swap.specs.Items.{Item, SessionsStand, SessionsView, is_handed_to, is_held, item_at, item_of, item_session, taken_back}
use Rattle.world_spec.specs.World.{load_parameters, save_parameters}
use Rattle.client_machine.specs.Listing.{sessions_had}

-- every session stands on
pub record StandsOn (view new_view : SessionsView) : Type 0 where
  pub stand : (slots : SlotState) → SessionsStand slots view [] → SessionsStand slots new_view []
  pub same : (slots : SlotState) → map (item_session slots) new_view.items ≡ map (item_session slots) view.items

-- ---- GetCapability

-- the client's objects and sessions, and the count of the sessions of all clients and of those that were left
abbrev pub own_capability : Persist → ℕ → List (Option ℕ) → SessionsView → List ℕ → Result (List ℕ) ℕ
own_capability persist client table view params =
    capability_of (client_limits view.numbers.active) all_commands persist (transient_from TRANSIENT_FIRST table) (sessions_had client view.items)
    (count_by is_held view.items) params

-- ---- ContextLoad

-- the handle of the session that is in use again: the client saved it, or it was left, and these bytes are the context that was handed
-- out for it
abbrev pub given_back : ℕ → List (Option Item) → List ℕ → Result Context ℕ → Result ℕ ℕ
given_back client items bytes (Err code) = Err code
given_back client items bytes (Ok context) =
    let handle = context.saved_handle in
    if is_session_handle handle
    then (if is_handed_to client bytes (item_of items handle) then Ok handle else Err (RC_HANDLE + RC_P + RC_1))
    else Err (RC_VALUE + RC_P + RC_1)

abbrev pub handle_told : Result ℕ ℕ → Result (List ℕ) ℕ
handle_told (Err code) = Err code
handle_told (Ok handle) = Ok (to_be_bytes w32 handle)

-- it is this client's then
abbrev pub with_given : ℕ → List (Option Item) → Result ℕ ℕ → List (Option Item)
with_given client items (Err code) = items
with_given client items (Ok handle) = set items (number_of_session handle) (taken_back client (item_at items (number_of_session handle)))

-- and isn't left any more
abbrev pub without_given : List ℕ → Result ℕ ℕ → List ℕ
without_given left (Err code) = left
without_given left (Ok handle) = without_one (number_of_session handle) left

-- what is seen of the sessions then
abbrev pub after_given : ℕ → SessionsView → Result ℕ ℕ → SessionsView
after_given client view given = record view { items = with_given client view.items given; left = without_given view.left given }

-- ---- ContextSave

-- what follows its handle is refused
abbrev pub nothing_told : Result ℕ ℕ → Result (List ℕ) ℕ
nothing_told (Err code) = Err code
nothing_told (Ok none) = Ok []

-- ---- all three

-- the parameters of the response, or the code of the first fault
abbrev pub own_answer : Persist → ℕ → List (Option ℕ) → SessionsView → Admitted → List ℕ → Result (List ℕ) ℕ
own_answer persist client table view a bytes =
    let params = drop a.auths.params bytes in
    if a.shape.row.code == CC_CONTEXT_SAVE then nothing_told (save_parameters params)
    else if a.shape.row.code == CC_CONTEXT_LOAD then handle_told (given_back client view.items params (load_parameters params))
    else own_capability persist client table view params

abbrev pub reply_of : Result (List ℕ) ℕ → List ℕ
reply_of (Err code) = error_reply code
reply_of (Ok params) = response ST_NO_SESSIONS RC_SUCCESS params

-- the sessions afterwards
abbrev pub sessions_given : ℕ → Admitted → List ℕ → List (Option Item) → List (Option Item)
sessions_given client a bytes items =
    let params = drop a.auths.params bytes in
    if a.shape.row.code == CC_CONTEXT_LOAD then with_given client items (given_back client items params (load_parameters params)) else items

-- and those that are left then
abbrev pub left_given : ℕ → Admitted → List ℕ → List (Option Item) → List ℕ → List ℕ
left_given client a bytes items left =
    let params = drop a.auths.params bytes in
    if a.shape.row.code == CC_CONTEXT_LOAD then without_given left (given_back client items params (load_parameters params)) else left

-- what is seen of the sessions afterwards
abbrev pub view_given : ℕ → Admitted → List ℕ → SessionsView → SessionsView
view_given client a bytes view =
    record view { items = sessions_given client a bytes view.items; left = left_given client a bytes view.items view.left }
