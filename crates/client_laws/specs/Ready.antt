-- A client's command that a device with slots runs in place of the plain machine: when the device is ready for it, what is
-- sent, and what the response tells.
use Rattle.std.specs.Prelude.{◌≡◌, ◌⊎◌, ◌<◌, ◌≤◌, ◌^◌, ◌==◌, ◌&&◌, not, ℕ, Bool, true, false, List, [], ◌∷◌, length, get_or, drop, Option, Ok, IfSome, if◌then◌else◌}
use Rattle.std.specs.List.{AllByRecursion, filter, list_any}
use Rattle.tab_spec.specs.declared.TheConstants.{CC_CONTEXT_LOAD, CC_CONTEXT_SAVE, CC_FLUSH_CONTEXT, CC_GET_CAPABILITY, CC_START_AUTH_SESSION, HT_TRANSIENT, RC_SUCCESS, ST_SESSIONS}
use Rattle.tab_spec.specs.declared.Admitted.{Admitted}
use Rattle.tab_spec.specs.Admission.{is_session_handle}
use Rattle.tab_spec.specs.Frame.{code_of}
use Rattle.tab_spec.specs.Object.{Object}
use Rattle.tab_spec.specs.Shape.{loads_object, makes_object_by, octet_of, with_handles}
use Rattle.tab_spec.specs.declared.contexts.TheConstants.{PROFILE_CONTEXTS}
use Rattle.tab_spec.specs.declared.contexts.ContextLimits.{ContextLimits}
use Rattle.effect_spec.specs.Capabilities.{is_of_device}
use Rattle.effect_spec.specs.Operands.{Created, Operand, Operands, a_session, absent, an_object, command_auth, new_object, new_session, nothing, operand_at, plain}
use Rattle.effect_spec.specs.SessionAuths.{continues}
use Rattle.effect_spec.specs.Effect.{Effect, effect_of}
use Rattle.history_spec.specs.Table.{held_under}
use Rattle.world_spec.specs.World.{ClientState, active, client_operands, session_of}
use Rattle.device_spec.specs.Slots.{SlotState, IsSlots, active_count, in_slot, is_free, loaded_count, loaded_session}

-- what the handle on the device stands for the client's handle: the slot of its object, and else the same handle
abbrev pub StandsBy : Bool → SlotState → List (Option Object) → ℕ → ℕ → Type 0
StandsBy true slots objects handle first = ((octet_of first == HT_TRANSIENT) ≡ true) × (in_slot slots first ≡ held_under objects handle)
StandsBy false slots objects handle first = first ≡ handle

abbrev pub StandsFor : SlotState → List (Option Object) → ℕ → ℕ → Type 0
StandsFor slots objects handle first = StandsBy (octet_of handle == HT_TRANSIENT) slots objects handle first

-- the sessions that a command names: those of its handles, and that of its authorization
abbrev pub named_sessions : Admitted → List ℕ
named_sessions a =
    filter is_session_handle (get_or a.shape.handles 0 0 ∷ get_or a.shape.handles 1 0 ∷ (command_auth a.auths).session ∷ [])

-- the device has a session for each number that a client has, and either a place for another one or as many as may be
pub record HasSessionRoom (slots : SlotState) (state : ClientState) : Type 0 where
  pub same : active_count slots.sessions ≡ active state.sessions
  pub place : (loaded_count slots.sessions < slots.numbers.loaded) ⊎ (state.most ≤ active state.sessions)

-- a device is ready for a client's command over this first handle: it is started and keeps what is kept, the client's object
-- is in that slot, the sessions that the command names are loaded, and there is room for what it may make, and as many sessions
-- may be active in the world as on the device
pub record IsReady (slots : SlotState) (client : ℕ) (state : ClientState) (a : Admitted) (bytes : List ℕ) (first : ℕ) : Type 0 where
  pub started : slots.started ≡ true
  pub sound : IsSlots slots
  pub persist : slots.persist ≡ state.persist
  pub most : state.most ≡ slots.numbers.active
  pub fits : first < 2 ^ 32
  pub stands : StandsFor slots state.objects (get_or a.shape.handles 0 0) first
  pub sessions : AllByRecursion (λ handle. loaded_session slots handle ≡ session_of state.sessions client handle) (named_sessions a)
  pub room : makes_object_by PROFILE_CONTEXTS (Ok a.shape) bytes ≡ true → list_any is_free slots.slots ≡ true
  pub place : (a.shape.row.code == CC_START_AUTH_SESSION) ≡ true → HasSessionRoom slots state

-- whether an admitted command is sent to a device with these contexts: FlushContext isn't, ContextSave only where nothing follows its handle, ContextLoad
-- only of an object's context, and GetCapability only of a list that is the device's
abbrev pub is_sent : ContextLimits → Admitted → List ℕ → Bool
is_sent contexts a bytes =
    let code = a.shape.row.code in
    let params = drop a.auths.params bytes in
    if code == CC_FLUSH_CONTEXT then false
    else if code == CC_CONTEXT_SAVE then length params == 0
    else if code == CC_CONTEXT_LOAD then loads_object contexts bytes
    else if code == CC_GET_CAPABILITY then is_of_device params
    else true

-- what is sent for a command: with this handle in place of the first
abbrev pub sent_for : List ℕ → Admitted → ℕ → List ℕ
sent_for bytes a first = with_handles bytes a.shape (first ∷ get_or a.shape.handles 1 0 ∷ [])

-- the effect of a client's command over its objects and sessions
abbrev pub client_effect : ℕ → ClientState → Admitted → List ℕ → Effect
client_effect client state a bytes =
    effect_of state.persist (client_operands client state a.shape a.auths) a.shape a.auths bytes

-- whether a command starts a session, where it succeeds; and whether a response tells the handle of one, or of an object
abbrev pub starts_session : Admitted → Bool
starts_session a = a.shape.row.code == CC_START_AUTH_SESSION

abbrev pub tells_session : Admitted → List ℕ → Bool
tells_session a reply = starts_session a && code_of reply == RC_SUCCESS

abbrev pub tells_object : Admitted → List ℕ → Bool
tells_object a reply = not (starts_session a) && a.shape.row.response_handle && code_of reply == RC_SUCCESS

-- a response tells the handle of what the effect made, and has the place for it
abbrev pub TellsMade : Admitted → List ℕ → Created → List ℕ → Type 0
TellsMade a bytes nothing reply = (tells_object a reply ≡ false) × (tells_session a reply ≡ false)
TellsMade a bytes (new_object o) reply =
    (tells_object a reply ≡ true) × (14 ≤ length reply) × (makes_object_by PROFILE_CONTEXTS (Ok a.shape) bytes ≡ true)
TellsMade a bytes (new_session s) reply = (tells_session a reply ≡ true) × (14 ≤ length reply)

-- ---- the sessions that a command leaves

-- whether the session of the authorization ended: the command succeeded, and continueSession was clear
abbrev pub ends_session : Admitted → List ℕ → Bool
ends_session a reply =
    code_of reply == RC_SUCCESS && a.shape.tag == ST_SESSIONS && is_session_handle (command_auth a.auths).session
    && not (continues (command_auth a.auths))

-- a session that an operand stands for is one of these
abbrev pub IsAmong : List ℕ → Operand → Type 0
IsAmong named absent = Unit {0}
IsAmong named (plain handle) = Unit {0}
IsAmong named (an_object o) = Unit {0}
IsAmong named (a_session handle s) = list_any (λ other. other == handle) named ≡ true

-- the sessions of an effect are among these
pub record SessionsAreAmong (named : List ℕ) (operands : Operands) : Type 0 where
  pub first : IsAmong named (operand_at operands.handles 0)
  pub second : IsAmong named (operand_at operands.handles 1)
  pub authorization : IfSome operands.session (λ held. list_any (λ other. other == held.0) named ≡ true)
