-- Contexts of objects and lists of the device, which a device makes, opens and tells in place of the plain machine.
use Rattle.std.proofs.Common.{◌≡◌, ◌+◌, ◌≤◌, ℕ, Bool, true, false, List, [], ◌∷◌, drop, refl, ap, sym, ◌∙◌, subst, arith}
use Rattle.std.specs.Prelude.{◌==◌, ◌&&◌, ◌||◌, not, Option, Some, None, Result, Ok, Err}
use Rattle.std.proofs.lemmas.Bool.{and_from, eqb-true}
use Rattle.tab_spec.specs.declared.TheConstants.{CC_CONTEXT_LOAD, CC_CONTEXT_SAVE, CC_GET_CAPABILITY, CC_START_AUTH_SESSION, RC_1, RC_INTEGRITY, RC_P, RC_SUCCESS, ST_NO_SESSIONS, ST_SESSIONS}
use Rattle.tab_spec.specs.declared.Admitted.{Admitted}
use Rattle.tab_spec.specs.declared.CommandRow.{CommandRow}
use Rattle.tab_spec.specs.declared.Shape.{Shape}
use Rattle.tab_spec.specs.Admission.{Tables, client_admitted, is_session_handle}
use Rattle.tab_spec.specs.Commands.{all_commands}
use Rattle.tab_spec.specs.Frame.{code_of}
use Rattle.tab_spec.specs.Object.{Object}
use Rattle.tab_spec.specs.Reply.{error_reply, response}
use Rattle.tab_spec.specs.declared.contexts.TheConstants.{PROFILE_CONTEXTS}
use Rattle.effect_spec.specs.Contexts.{Context, opened_object}
use Rattle.effect_spec.specs.Operands.{command_auth, new_object, nothing}
use Rattle.effect_spec.specs.SessionAuths.{continues}
use Rattle.device_spec.specs.Answers.{profile_takes as takes}
use Rattle.device_spec.specs.Slots.{IsSlots, SlotState, Step, object_loaded, placed, slot_step, step_by}
use Rattle.device_laws.specs.Effects.{is_managed}
use Rattle.device_laws.proofs.Answering.{found_has}
use Rattle.device_laws.proofs.Replies.{step_keeps}
use Rattle.tab_laws.proofs.Handled.{client_is, passed}
use Rattle.client_laws.specs.Ready.{ends_session, starts_session, tells_object, tells_session}
use Rattle.client_laws.proofs.Commands.{another_code, clients_command, command_object, sent_load}
use Rattle.client_laws.proofs.Listing.{list_told}
use Rattle.client_laws.proofs.Loading.{load_opened, load_opened_plain, load_refused, load_taken}
use Rattle.client_laws.proofs.NoAuths.{bare}
use Rattle.client_laws.proofs.Steps.{step_listed, step_loaded}
use Rattle.history_spec.specs.declared.Pick.{Pick}
use Rattle.history_spec.specs.declared.Pick.TheVariants as picks
use Rattle.world_spec.specs.World.{ClientStep, capability_step, choosing_nothing, client_capability, client_step, load_parameters, load_step, object_opened, refused_step}
use Rattle.client_machine.specs.declared.held.Held.{Held}
use Rattle.client_machine.specs.Moves.{client_state, first_handle}
use Rattle.client_machine.specs.Settled.{Sequences}
use Rattle.client_machine.specs.Tables.{device_handle, tables_seen}
use Rattle.client_machine.proofs.Handing.{sent_bytes}
use Rattle.client_machine.proofs.Ready.{MayRun, admitted_here, ready_here, sent_over}
use Rattle.client_machine.proofs.Running.{DidSo, Left, no_operands, no_sequences, state_here}

-- ---- commands without authorizations, which start no session

implied : (premise fact : Bool) → premise ≡ true → (not premise || fact) ≡ true → fact ≡ true
implied true fact is so = so
implied false fact is so = absurd cc

abbrev is_unauthorized : CommandRow → Bool
is_unauthorized row = not (is_managed row.code) || row.authorized == 0

-- the response to ContextLoad alone has a handle
abbrev is_handled : CommandRow → Bool
is_handled row = not (row.code == CC_CONTEXT_LOAD) || row.response_handle

abbrev is_unhandled : CommandRow → Bool
is_unhandled row = not (row.code == CC_GET_CAPABILITY) || not row.response_handle

no_end : (success tag session more : Bool) → tag ≡ false → (success && tag && session && more) ≡ false
no_end true true session more is = absurd cc
no_end true false session more is = refl
no_end false tag session more is = refl

-- what is known of a command that the broker may carry out by itself
pub record IsManaged (a : Admitted) : Type 0 where
  pub ends : (reply : List ℕ) → ends_session a reply ≡ false
  pub handled : (a.shape.row.code == CC_CONTEXT_LOAD) ≡ true → a.shape.row.response_handle ≡ true
  pub unhandled : (a.shape.row.code == CC_GET_CAPABILITY) ≡ true → not a.shape.row.response_handle ≡ true

pub managed : (tables : Tables) (bytes : List ℕ) (a : Admitted) → client_admitted tables bytes ≡ Ok a → is_managed a.shape.row.code ≡ true → IsManaged a
managed tables bytes a e is =
    let row = a.shape.row in
    let whole = (client_is tables bytes a e).whole in
    let known = (clients_command tables bytes a e).row in
    let none : row.authorized ≡ 0 =
    eqb-true row.authorized 0 (implied (is_managed row.code) (row.authorized == 0) is (found_has is_unauthorized row.code all_commands row refl known)) in
    let tag : a.shape.tag ≡ ST_NO_SESSIONS =
    ap (λ (shape : Shape). shape.tag) (passed tables bytes a whole).shape ∙ (bare tables bytes a row whole refl none).tag in
    record {
      ends = λ reply.
          no_end (code_of reply == RC_SUCCESS) (a.shape.tag == ST_SESSIONS) (is_session_handle (command_auth a.auths).session) (not (continues (command_auth a.auths)))
          (ap (λ (t : ℕ). t == ST_SESSIONS) tag);
      handled = λ loads. implied (row.code == CC_CONTEXT_LOAD) row.response_handle loads (found_has is_handled row.code all_commands row refl known);
      unhandled = λ lists. implied (row.code == CC_GET_CAPABILITY) (not row.response_handle) lists (found_has is_unhandled row.code all_commands row refl known);
    }

pub managed_by : (code known : ℕ) → (code == known) ≡ true → is_managed known ≡ true → is_managed code ≡ true
managed_by code known is so = ap is_managed (eqb-true code known is) ∙ so

no_object : (start has success : Bool) → not has ≡ true → start ≡ false → ((not start && has && success) ≡ false) × ((start && success) ≡ false)
no_object true has success is none = absurd cc
no_object false true success is none = absurd cc
no_object false false success is none = (refl, refl)

not_told : (object start : Bool) (success : Bool) → (object ≡ true → ⊥) → start ≡ false → (object ≡ false) × ((start && success) ≡ false)
not_told true start success never none = absurd (never refl)
not_told false true success never none = absurd cc
not_told false false success never none = (refl, refl)

made_one : (start has success : Bool) → start ≡ false → has ≡ true → success ≡ true → (not start && has && success) ≡ true
made_one start has success none is also = rw (none, is, also) refl

-- ---- nothing changes but for the reply

left_still : (slots : SlotState) (held : Held) (client : ℕ) (table : List (Option ℕ)) (a : Admitted) (bytes reply : List ℕ) → slots.started ≡ true → IsSlots slots
    → ((tells_object a reply ≡ false) × (tells_session a reply ≡ false)) → ends_session a reply ≡ false → starts_session a ≡ false
    → (a.shape.row.code == CC_CONTEXT_SAVE) ≡ false
    → ((least : Sequences) (pick : Pick) → client_step client (client_state slots held table least) bytes pick
    ≡ choosing_nothing (client_state slots held table least, reply) pick)
    → Left slots slots held client table a bytes nothing reply reply
unfolding no_operands
left_still slots held client table a bytes reply started sound untold unended unstarted unsaved steps = record {
  operands = no_operands;
  ended = false;
  started = started;
  sound = sound;
  seed = refl;
  numbers = refl;
  object_counter = refl;
  counter = refl;
  slots_are = refl;
  sessions_are = refl;
  answer_is = refl;
  tells = untold;
  few = tt;
  ended_is = sym unended;
  own = record {
    named = [];
    own = tt;
    among = record { first = tt; second = tt; authorization = tt };
    authorized = record { handle_is = tt; there = λ ended. absurd cc };
  };
  none = λ start. record { first = tt; second = tt; authorization = tt };
  unsaved = unsaved;
  step = steps;
}

did_still : (slots : SlotState) (held : Held) (client : ℕ) (table : List (Option ℕ)) (a : Admitted) (bytes reply : List ℕ) → MayRun slots held client table a bytes
    → slot_step slots (sent_over bytes a table held.objects.items) ≡ (slots, reply)
    → ((tells_object a reply ≡ false) × (tells_session a reply ≡ false)) → ends_session a reply ≡ false → starts_session a ≡ false
    → (a.shape.row.code == CC_CONTEXT_SAVE) ≡ false
    → ((least : Sequences) (pick : Pick) → client_step client (client_state slots held table least) bytes pick
    ≡ choosing_nothing (client_state slots held table least, reply) pick)
    → DidSo slots held client table a bytes
did_still slots held client table a bytes reply may step_is untold unended unstarted unsaved steps =
    let is = ready_here slots held client table no_sequences a bytes may in
    record {
      created = nothing;
      effect_reply = reply;
      left = subst (λ (step : Step). Left slots step.0 held client table a bytes nothing reply step.1) (sym step_is)
          (left_still slots held client table a bytes reply is.started is.sound untold unended unstarted unsaved steps);
    }

-- ---- a list of the device

same_some : {X : Type 0} {x y : X} → Some x ≡ Some y → x ≡ y
same_some e = cc

same_step : (step other : ClientStep) (pick : Pick) → step ≡ other → choosing_nothing step pick ≡ choosing_nothing other pick
same_step step other pick e = ap (λ (s : ClientStep). choosing_nothing s pick) e

pub did_list : (slots : SlotState) (held : Held) (client : ℕ) (table : List (Option ℕ)) (a : Admitted) (bytes : List ℕ) → MayRun slots held client table a bytes
    → (a.shape.row.code == CC_GET_CAPABILITY) ≡ true → DidSo slots held client table a bytes
did_list slots held client table a bytes may is =
    let first = device_handle table held.objects.items (first_handle a) in
    let here = admitted_here slots held client table no_sequences a bytes may in
    let ready = ready_here slots held client table no_sequences a bytes may in
    let told = list_told slots client (state_here slots held table) bytes a first here is may.sort ready.started ready.persist in
    let one = managed (tables_seen PROFILE_CONTEXTS client table held.sessions.items) bytes a may.admitted (managed_by a.shape.row.code CC_GET_CAPABILITY is refl) in
    let unstarted = another_code a.shape.row.code CC_GET_CAPABILITY CC_START_AUTH_SESSION is refl in
    did_still slots held client table a bytes told.0 may told.1.0
    (no_object (starts_session a) a.shape.row.response_handle (code_of told.0 == RC_SUCCESS) (one.unhandled is) unstarted)
    (one.ends told.0) unstarted (another_code a.shape.row.code CC_GET_CAPABILITY CC_CONTEXT_SAVE is refl)
    (λ least pick.
    let state = client_state slots held table least in
    let params = drop a.auths.params bytes in
    let e = admitted_here slots held client table least a bytes may in
    let other = list_told slots client state bytes a first e is may.sort ready.started refl in
    let reply_is : other.0 ≡ told.0 = ap (λ (step : Step). step.1) (sym other.1.0 ∙ told.1.0) in
    step_listed client state bytes pick a e is
    ∙ same_step (capability_step state (client_capability client state params)) (state, told.0) pick
    (same_some (sym (step_listed client state bytes picks.Nothing a e is) ∙ other.1.1 ∙ ap (λ (reply : List ℕ). Some (state, reply)) reply_is)))

-- ---- a context of an object that is loaded

did_refused : (slots : SlotState) (held : Held) (client : ℕ) (table : List (Option ℕ)) (a : Admitted) (bytes : List ℕ) (code : ℕ) → MayRun slots held client table a bytes
    → (a.shape.row.code == CC_CONTEXT_LOAD) ≡ true
    → slot_step slots (sent_over bytes a table held.objects.items) ≡ (slots, error_reply code)
    → ((least : Sequences) → load_step client (client_state slots held table least) (drop a.auths.params bytes) (load_parameters (drop a.auths.params bytes))
    ≡ refused_step (client_state slots held table least) code)
    → DidSo slots held client table a bytes
did_refused slots held client table a bytes code may is step_is steps =
    let tables = tables_seen PROFILE_CONTEXTS client table held.sessions.items in
    let first = device_handle table held.objects.items (first_handle a) in
    let sent = sent_over bytes a table held.objects.items in
    let one = managed tables bytes a may.admitted (managed_by a.shape.row.code CC_CONTEXT_LOAD is refl) in
    let unstarted = another_code a.shape.row.code CC_CONTEXT_LOAD CC_START_AUTH_SESSION is refl in
    let taken : takes false false sent (error_reply code) ≡ true =
    ap (λ (step : Step). takes false false sent step.1) (sym step_is)
    ∙ load_taken false slots client (state_here slots held table) bytes a first (admitted_here slots held client table no_sequences a bytes may) is may.sort may.all
    (ready_here slots held client table no_sequences a bytes may) in
    did_still slots held client table a bytes (error_reply code) may step_is
    (not_told (tells_object a (error_reply code)) (starts_session a) (code_of (error_reply code) == RC_SUCCESS)
    (λ tells. let long : 14 ≤ 10 = (command_object PROFILE_CONTEXTS false tables bytes a first (error_reply code) may.admitted may.sort taken tells).0 in omega (arith, long)) unstarted)
    (one.ends (error_reply code)) unstarted (another_code a.shape.row.code CC_CONTEXT_LOAD CC_CONTEXT_SAVE is refl)
    (λ least pick.
    let state = client_state slots held table least in
    step_loaded client state bytes pick a (admitted_here slots held client table least a bytes may) is
    ∙ same_step (load_step client state (drop a.auths.params bytes) (load_parameters (drop a.auths.params bytes))) (refused_step state code) pick (steps least))

-- the response of a device before the handle is written into it
abbrev pub loaded_reply : List ℕ
loaded_reply = response ST_NO_SESSIONS RC_SUCCESS (0 ∷ 0 ∷ 0 ∷ 0 ∷ [])

loads_one : (other load object : Bool) → load ≡ true → object ≡ true → (other || (load && object)) ≡ true
loads_one true load object is also = refl
loads_one false load object is also = and_from load object is also

left_loaded : (slots : SlotState) (held : Held) (client : ℕ) (table : List (Option ℕ)) (a : Admitted) (bytes : List ℕ) (o : Object) → MayRun slots held client table a bytes
    → (a.shape.row.code == CC_CONTEXT_LOAD) ≡ true → IsSlots (placed slots o loaded_reply).0
    → ((least : Sequences) → load_step client (client_state slots held table least) (drop a.auths.params bytes) (load_parameters (drop a.auths.params bytes))
    ≡ object_opened (client_state slots held table least) (Some o))
    → let step = placed slots o loaded_reply in Left slots step.0 held client table a bytes (new_object o) loaded_reply step.1
unfolding no_operands
left_loaded slots held client table a bytes o may is sound steps =
    let one = managed (tables_seen PROFILE_CONTEXTS client table held.sessions.items) bytes a may.admitted (managed_by a.shape.row.code CC_CONTEXT_LOAD is refl) in
    let unstarted = another_code a.shape.row.code CC_CONTEXT_LOAD CC_START_AUTH_SESSION is refl in
    record {
      operands = no_operands;
      ended = false;
      started = may.settled.objects.started;
      sound = sound;
      seed = refl;
      numbers = refl;
      object_counter = refl;
      counter = refl;
      slots_are = refl;
      sessions_are = refl;
      answer_is = refl;
      tells = (
        made_one (starts_session a) a.shape.row.response_handle (code_of loaded_reply == RC_SUCCESS) unstarted (one.handled is) refl,
        omega arith,
        loads_one _ (a.shape.row.code == CC_CONTEXT_LOAD) _ is (sent_load PROFILE_CONTEXTS a bytes may.sort is),
      );
      few = tt;
      ended_is = sym (one.ends loaded_reply);
      own = record {
        named = [];
        own = tt;
        among = record { first = tt; second = tt; authorization = tt };
        authorized = record { handle_is = tt; there = λ ended. absurd cc };
      };
      none = λ start. record { first = tt; second = tt; authorization = tt };
      unsaved = another_code a.shape.row.code CC_CONTEXT_LOAD CC_CONTEXT_SAVE is refl;
      step = λ least pick.
          let state = client_state slots held table least in
          step_loaded client state bytes pick a (admitted_here slots held client table least a bytes may) is
          ∙ same_step (load_step client state (drop a.auths.params bytes) (load_parameters (drop a.auths.params bytes))) (object_opened state (Some o)) pick (steps least);
    }

did_opened : (slots : SlotState) (held : Held) (client : ℕ) (table : List (Option ℕ)) (a : Admitted) (bytes : List ℕ) (opened : Option Object)
    → MayRun slots held client table a bytes → (a.shape.row.code == CC_CONTEXT_LOAD) ≡ true
    → slot_step slots (sent_over bytes a table held.objects.items) ≡ step_by slots (object_loaded slots opened)
    → ((least : Sequences) → load_step client (client_state slots held table least) (drop a.auths.params bytes) (load_parameters (drop a.auths.params bytes))
    ≡ object_opened (client_state slots held table least) opened)
    → DidSo slots held client table a bytes
did_opened slots held client table a bytes None may is step_is steps =
    did_refused slots held client table a bytes (RC_INTEGRITY + RC_P + RC_1) may is step_is steps
did_opened slots held client table a bytes (Some o) may is step_is steps =
    let sent = sent_over bytes a table held.objects.items in
    let first = device_handle table held.objects.items (first_handle a) in
    let sound : IsSlots (slot_step slots sent).0 = step_keeps slots sent may.settled.objects.sound (sent_bytes bytes a first may.all) in
    record {
      created = new_object o;
      effect_reply = loaded_reply;
      left = subst (λ (step : Step). Left slots step.0 held client table a bytes (new_object o) loaded_reply step.1) (sym step_is)
          (left_loaded slots held client table a bytes o may is (subst (λ (step : Step). IsSlots step.0) step_is sound) steps);
    }

did_read : (slots : SlotState) (held : Held) (client : ℕ) (table : List (Option ℕ)) (a : Admitted) (bytes : List ℕ) (read : Result Context ℕ)
    → MayRun slots held client table a bytes → (a.shape.row.code == CC_CONTEXT_LOAD) ≡ true → load_parameters (drop a.auths.params bytes) ≡ read
    → DidSo slots held client table a bytes
did_read slots held client table a bytes (Err code) may is found =
    let first = device_handle table held.objects.items (first_handle a) in
    let here = admitted_here slots held client table no_sequences a bytes may in
    let ready = ready_here slots held client table no_sequences a bytes may in
    did_refused slots held client table a bytes code may is
    (load_refused slots client (state_here slots held table) bytes a first code here is may.all ready found)
    (λ least. ap (load_step client (client_state slots held table least) (drop a.auths.params bytes)) found)
did_read slots held client table a bytes (Ok c) may is found =
    let first = device_handle table held.objects.items (first_handle a) in
    let here = admitted_here slots held client table no_sequences a bytes may in
    let ready = ready_here slots held client table no_sequences a bytes may in
    did_opened slots held client table a bytes (opened_object slots.persist.seed (drop a.auths.params bytes)) may is
    (load_opened slots client (state_here slots held table) bytes a first c here is may.sort may.all ready found)
    (λ least.
    let state = client_state slots held table least in
    let e = admitted_here slots held client table least a bytes may in
    same_some (sym (step_loaded client state bytes picks.Nothing a e is) ∙ load_opened_plain client state bytes a c e is may.sort found))

pub did_load : (slots : SlotState) (held : Held) (client : ℕ) (table : List (Option ℕ)) (a : Admitted) (bytes : List ℕ) → MayRun slots held client table a bytes
    → (a.shape.row.code == CC_CONTEXT_LOAD) ≡ true → DidSo slots held client table a bytes
did_load slots held client table a bytes may is = did_read slots held client table a bytes (load_parameters (drop a.auths.params bytes)) may is refl
