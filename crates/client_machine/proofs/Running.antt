-- A client's command that has an effect, or makes what it tells of, which a device runs in place of the plain machine.
use Rattle.std.proofs.Common.{◌≡◌, ◌+◌, ◌*◌, ◌^◌, ◌≤◌, ℕ, Bool, true, false, true≢false, List, [], length, drop, set, refl, ap, sym, ◌∙◌, subst, arith}
use Rattle.std.specs.Prelude.{◌==◌, ◌&&◌, not, nat_le, Option, Some, None, is_some, IfSome, Result, Ok, Err, if◌then◌else◌}
use Rattle.std.specs.List.{list_any}
use Rattle.std.proofs.lemmas.Bool.{and_parts}
use Rattle.tab_spec.specs.declared.TheConstants.{CC_CONTEXT_SAVE, CC_START_AUTH_SESSION, HEADER_BYTES, RC_SESSION_HANDLES, RC_SUCCESS, ST_SESSIONS, TRANSIENT_FIRST}
use Rattle.tab_spec.specs.declared.Admitted.{Admitted}
use Rattle.tab_spec.specs.Admission.{is_session_handle}
use Rattle.tab_spec.specs.Frame.{code_of}
use Rattle.tab_spec.specs.Object.{Object}
use Rattle.tab_spec.specs.Persist.{Persist}
use Rattle.tab_spec.specs.Reply.{error_reply, with_response_handle}
use Rattle.tab_spec.specs.Session.{Session, kind_octet}
use Rattle.tab_spec.specs.Shape.{number_of_session, octet_of}
use Rattle.tab_spec.specs.declared.contexts.TheConstants.{PROFILE_CONTEXTS}
use Rattle.effect_spec.specs.Operands.{Created, Operands, command_auth, new_object, new_session, nothing, sessions_after}
use Rattle.effect_spec.specs.SessionAuths.{continues}
use Rattle.effect_spec.specs.Sessions.{StartParameters, start_check}
use Rattle.device_spec.specs.Answers.{profile_takes as takes}
use Rattle.device_spec.specs.Slots.{IsSlots, SessionPlace, SlotState, Step, free_number, free_slot, inactive, loaded, loaded_under, made_by, sessions_left, slot_step}
use Rattle.device_laws.specs.Effects.{is_managed}
use Rattle.device_laws.specs.OtherHandles.{slots_with}
use Rattle.device_laws.proofs.Replies.{step_keeps}
use Rattle.device_laws.proofs.Seeds.{step_numbers, step_seed}
use Rattle.client_laws.specs.Ready.{SessionsAreAmong, TellsMade, client_effect, ends_session, named_sessions, starts_session, tells_object, tells_session}
use Rattle.client_laws.proofs.Commands.{command_session, unmanaged}
use Rattle.client_laws.proofs.Made.{command_made}
use Rattle.client_laws.proofs.OverSlots.{command_full, command_run}
use Rattle.client_laws.proofs.Steps.{step_full, step_run}
use Rattle.object_swap.specs.Items.{Item, Names, item_at, item_object}
use Rattle.session_swap.specs.Items as sessions
use Rattle.session_swap.specs.Items.{SessionsStand}
use Rattle.history_spec.specs.declared.Pick.{Pick}
use Rattle.history_spec.specs.declared.Pick.TheVariants as picks
use Rattle.history_spec.specs.Table.{next_handle}
use Rattle.world_spec.specs.World as world
use Rattle.world_spec.specs.World.{ClientState, Owned, choosing_nothing, client_step, made_step, own_place, tables_of}
use Rattle.history_laws.proofs.Tables as tables
use Rattle.client_machine.specs.declared.held.Held.{Held}
use Rattle.client_machine.specs.Moves as moves
use Rattle.client_machine.specs.Moves.{Adopts, CountsOnBy, client_state, first_handle, number_taken, pick_of, saves_session, sessions_saved, tells_context, told_handle, told_sequence}
use Rattle.client_machine.specs.Settled.{AreBelow, IsSettled, Sequences, sessions_in}
use Rattle.client_machine.specs.Tables.{device_handle, objects_in, place_object, tables_seen}
use Rattle.client_machine.proofs.Adopting.{Adopted, Filled, adopted, filled, item_same, same_objects, stand_same}
use Rattle.client_machine.proofs.Handing.{handed, handed_ends, handed_tells, handed_tells_session, handed_told, handed_twice, sent_bytes}
use Rattle.client_laws.proofs.NameSessions.{authorization_ends, left_among, named_none}
use Rattle.client_machine.proofs.NamedSessions.{left_authorized}
use Rattle.client_machine.proofs.NewSessions.{HasFew, few_made, has_few}
use Rattle.client_machine.proofs.Ready.{MayRun, admitted_here, own_here, ready_here, sent_over}
use Rattle.client_machine.proofs.Seeing.{seen_places}
use Rattle.client_machine.proofs.SessionsAfter.{AreOwn, IsOwn, items_ended, left_in, numbered, one_among}
use Rattle.client_machine.proofs.SessionsStanding.{left_stand, room_ended}
use Rattle.client_machine.proofs.Started.{Started, free_is, free_told, new_handle, none_after, started, unused_item}

-- ---- what a command makes, over the slots and the numbers of a device

-- the sessions with one that was made
abbrev pub places_with : List SessionPlace → Created → List SessionPlace
places_with places nothing = places
places_with places (new_object o) = places
places_with places (new_session s) = set places (free_number places) (loaded (kind_octet s.kind) s)

-- the response, with the handle of what was made
abbrev pub answer_with : List (Option Object) → List SessionPlace → Created → List ℕ → List ℕ
answer_with slots places nothing reply = reply
answer_with slots places (new_object o) reply = with_response_handle reply (TRANSIENT_FIRST + free_slot slots)
answer_with slots places (new_session s) reply = with_response_handle reply (kind_octet s.kind * 2 ^ 24 + free_number places)

record MadeBy (slots : SlotState) (persist : Persist) (places : List SessionPlace) (created : Created) (reply : List ℕ) (step : Step) : Type 0 where
  started : step.0.started ≡ slots.started
  persist_is : step.0.persist ≡ persist
  object_counter : step.0.object_counter ≡ slots.object_counter
  counter : step.0.counter ≡ slots.counter
  slots_are : slots_with slots.slots created ≡ step.0.slots
  sessions_are : step.0.sessions ≡ places_with places created
  answer_is : step.1 ≡ answer_with slots.slots places created reply

made_so : (slots : SlotState) (persist : Persist) (places : List SessionPlace) (created : Created) (reply : List ℕ)
    → MadeBy slots persist places created reply (made_by (record slots { persist = persist; sessions = places }) created reply)
made_so slots persist places nothing reply =
    record { started = refl; persist_is = refl; object_counter = refl; counter = refl; slots_are = refl; sessions_are = refl; answer_is = refl }
made_so slots persist places (new_object o) reply =
    record { started = refl; persist_is = refl; object_counter = refl; counter = refl; slots_are = refl; sessions_are = refl; answer_is = refl }
made_so slots persist places (new_session s) reply =
    record { started = refl; persist_is = refl; object_counter = refl; counter = refl; slots_are = refl; sessions_are = refl; answer_is = refl }

-- ---- what the device did

-- the client's state as an effect leaves it, but for what it made
abbrev pub state_left : SlotState → SlotState → Held → ℕ → List (Option ℕ) → Sequences → Operands → Bool → ClientState
state_left slots after held client table least operands ended = record {
  persist = after.persist;
  most = held.sessions.numbers.active;
  objects = objects_in slots held.objects.items table;
  sessions = sessions_after (own_place client) None (sessions_in slots held.sessions.items) operands ended;
  left = held.sessions.left;
  object_sequence = least.object;
  session_sequence = least.session;
}

pub record Left (slots after : SlotState) (held : Held) (client : ℕ) (table : List (Option ℕ)) (a : Admitted) (bytes : List ℕ) (created : Created) (effect_reply answer : List ℕ) : Type 0 where
  pub operands : Operands
  pub ended : Bool
  pub started : after.started ≡ true
  pub sound : IsSlots after
  pub seed : after.persist.seed ≡ slots.persist.seed
  pub numbers : after.numbers ≡ slots.numbers
  pub object_counter : after.object_counter ≡ slots.object_counter
  pub counter : after.counter ≡ slots.counter
  pub slots_are : slots_with slots.slots created ≡ after.slots
  pub sessions_are : after.sessions ≡ places_with (sessions_left slots.sessions operands ended) created
  pub answer_is : answer ≡ answer_with slots.slots (sessions_left slots.sessions operands ended) created effect_reply
  pub tells : TellsMade a bytes created effect_reply
  pub few : HasFew held.sessions created
  pub ended_is : ended ≡ ends_session a effect_reply
  pub own : AreOwn held.sessions.items client (command_auth a.auths).session ended operands
  pub none : starts_session a ≡ true → SessionsAreAmong [] operands
  pub unsaved : (a.shape.row.code == CC_CONTEXT_SAVE) ≡ false
  pub step : (least : Sequences) (pick : Pick) → client_step client (client_state slots held table least) bytes pick
      ≡ made_step client (state_left slots after held client table least operands ended) created effect_reply pick

-- the plain machine's state from the first sequences on; what a command does but for contexts doesn't depend on these
pub no_sequences : Sequences
no_sequences = record { object = 0; session = 0 }

abbrev pub state_here : SlotState → Held → List (Option ℕ) → ClientState
state_here slots held table = client_state slots held table no_sequences

-- it did its effect
left_run : (slots : SlotState) (held : Held) (client : ℕ) (table : List (Option ℕ)) (a : Admitted) (bytes : List ℕ) → MayRun slots held client table a bytes
    → is_managed a.shape.row.code ≡ false
    → world.room_for (state_here slots held table) a.shape.row.code (drop a.auths.params bytes) ≡ None
    → let effect = client_effect client (state_here slots held table) a bytes in
    let step = slot_step slots (sent_over bytes a table held.objects.items) in
    Left slots step.0 held client table a bytes effect.outcome.created effect.reply step.1
left_run slots held client table a bytes may managed room =
    let state = state_here slots held table in
    let first = device_handle table held.objects.items (first_handle a) in
    let sent = sent_over bytes a table held.objects.items in
    let effect = client_effect client state a bytes in
    let e = admitted_here slots held client table no_sequences a bytes may in
    let is = ready_here slots held client table no_sequences a bytes may in
    let places = sessions_left slots.sessions effect.operands effect.outcome.auth_ended in
    let made : MadeBy slots effect.persist places effect.outcome.created effect.reply (slot_step slots sent) =
    subst (λ (step : Step). MadeBy slots effect.persist places effect.outcome.created effect.reply step)
    (sym (command_run slots client state bytes a first e managed may.all is room)) (made_so slots effect.persist places effect.outcome.created effect.reply) in
    record {
      operands = effect.operands;
      ended = effect.outcome.auth_ended;
      started = made.started ∙ is.started;
      sound = step_keeps slots sent is.sound (sent_bytes bytes a first may.all);
      seed = step_seed slots sent;
      numbers = step_numbers slots sent;
      object_counter = made.object_counter;
      counter = made.counter;
      slots_are = made.slots_are;
      sessions_are = made.sessions_are;
      answer_is = made.answer_is;
      tells = command_made client state bytes a e managed;
      few = few_made held.sessions a bytes effect.outcome.created effect.reply (command_made client state bytes a e managed)
          (has_few slots held.sessions client state a bytes may.settled.sessions may.nobodys refl refl room);
      ended_is = authorization_ends client state bytes a e;
      own = record {
        named = named_sessions a;
        own = own_here slots held client table a bytes may;
        among = left_among client state bytes a;
        authorized = left_authorized client state bytes a;
      };
      none = λ start.
          subst (λ (named : List ℕ). SessionsAreAmong named effect.operands) (named_none (tables_of client state) bytes a e start) (left_among client state bytes a);
      unsaved = (unmanaged a.shape.row.code managed).save;
      step = λ least pick.
          step_run client (client_state slots held table least) bytes pick a (admitted_here slots held client table least a bytes may) managed room
          ∙ ap (λ (persist : Persist). made_step client (record {
            persist = persist;
            most = held.sessions.numbers.active;
            objects = state.objects;
            sessions = sessions_after (own_place client) None state.sessions effect.operands effect.outcome.auth_ended;
            left = held.sessions.left;
            object_sequence = least.object;
            session_sequence = least.session;
          }) effect.outcome.created effect.reply pick) (sym made.persist_is);
    }

-- or it had no number for a session
number_by : (full : Bool) (code : ℕ) → (if full then Some RC_SESSION_HANDLES else None) ≡ Some code → code ≡ RC_SESSION_HANDLES
number_by true code is = cc
number_by false code is = absurd cc

no_number : (start : Bool) (b : Result StartParameters ℕ) (state : ClientState) (code : ℕ)
    → (if start then world.session_too_many state b else None) ≡ Some code → code ≡ RC_SESSION_HANDLES
no_number false b state code is = absurd cc
no_number true (Err fault) state code is = absurd cc
no_number true (Ok b) state code is = number_by (nat_le state.most (world.active state.sessions)) code is

unended : (success tag session more : Bool) → success ≡ false → false ≡ (success && tag && session && more)
unended success tag session more is = rw is refl

untold : (start has success : Bool) → success ≡ false → ((not start && has && success) ≡ false) × ((start && success) ≡ false)
untold true true true is = absurd cc
untold true true false is = (refl, refl)
untold true false true is = absurd cc
untold true false false is = (refl, refl)
untold false true true is = absurd cc
untold false true false is = (refl, refl)
untold false false true is = absurd cc
untold false false false is = (refl, refl)

unfoldable pub no_operands : Operands
no_operands = record { handles = []; session = None }

left_full : (slots : SlotState) (held : Held) (client : ℕ) (table : List (Option ℕ)) (a : Admitted) (bytes : List ℕ) (code : ℕ) → MayRun slots held client table a bytes
    → is_managed a.shape.row.code ≡ false
    → world.room_for (state_here slots held table) a.shape.row.code (drop a.auths.params bytes) ≡ Some code
    → let step = slot_step slots (sent_over bytes a table held.objects.items) in
    Left slots step.0 held client table a bytes nothing (error_reply code) step.1
unfolding no_operands
left_full slots held client table a bytes code may managed room =
    let state = state_here slots held table in
    let first = device_handle table held.objects.items (first_handle a) in
    let sent = sent_over bytes a table held.objects.items in
    let e = admitted_here slots held client table no_sequences a bytes may in
    let is = ready_here slots held client table no_sequences a bytes may in
    let step_is : slot_step slots sent ≡ (slots, error_reply code) = command_full slots client state bytes a first code e managed may.all is room in
    let after = (slot_step slots sent).0 in
    let same : after ≡ slots = ap (λ (step : Step). step.0) step_is in
    let code_is = no_number (a.shape.row.code == CC_START_AUTH_SESSION) (start_check (drop a.auths.params bytes)) state code room in
    let failed : (code_of (error_reply code) == RC_SUCCESS) ≡ false = ap (λ (code : ℕ). code_of (error_reply code) == RC_SUCCESS) code_is in
    record {
      operands = no_operands;
      ended = false;
      started = ap (λ (slots : SlotState). slots.started) same ∙ is.started;
      sound = step_keeps slots sent is.sound (sent_bytes bytes a first may.all);
      seed = step_seed slots sent;
      numbers = step_numbers slots sent;
      object_counter = ap (λ (slots : SlotState). slots.object_counter) same;
      counter = ap (λ (slots : SlotState). slots.counter) same;
      slots_are = ap (λ (slots : SlotState). slots.slots) (sym same);
      sessions_are = ap (λ (slots : SlotState). slots.sessions) same;
      answer_is = ap (λ (step : Step). step.1) step_is;
      tells = untold (starts_session a) a.shape.row.response_handle (code_of (error_reply code) == RC_SUCCESS) failed;
      few = tt;
      ended_is = unended (code_of (error_reply code) == RC_SUCCESS) (a.shape.tag == ST_SESSIONS) (is_session_handle (command_auth a.auths).session)
          (not (continues (command_auth a.auths))) failed;
      own = record {
        named = [];
        own = tt;
        among = record { first = tt; second = tt; authorization = tt };
        authorized = record { handle_is = tt; there = λ ended. absurd cc };
      };
      none = λ start. record { first = tt; second = tt; authorization = tt };
      unsaved = (unmanaged a.shape.row.code managed).save;
      step = λ least pick.
          step_full client (client_state slots held table least) bytes pick a code (admitted_here slots held client table least a bytes may) managed room
          ∙ ap (λ (persist : Persist). choosing_nothing (record (client_state slots held table least) { persist = persist }, error_reply code) pick)
          (ap (λ (slots : SlotState). slots.persist) (sym same));
    }

-- ---- what the broker holds afterwards

-- with these objects, and the sessions as an answered command leaves them
abbrev pub held_after : Held → List Item → ℕ → Admitted → List ℕ → Held
held_after held items client a answer = record {
  objects = record held.objects { items = items };
  sessions = record held.sessions { items = moves.sessions_held_after client a answer held.sessions.items };
}

-- over the items and the table as they are in the end
pub record Runs (slots after : SlotState) (held new_held : Held) (client : ℕ) (table new_table : List (Option ℕ)) (a : Admitted) (bytes reply : List ℕ) : Type 0 where
  pub settled : IsSettled after new_held
  pub counts : CountsOnBy 1 (Some slots) (Some after)
  pub kept : (index : ℕ) → Names held.objects.items index → item_object after (item_at new_held.objects.items index) ≡ item_object slots (item_at held.objects.items index)
  pub step : (least : Sequences) → AreBelow least slots
      → (handed : Sequences) × AreBelow handed after
      × (client_step client (client_state slots held table least) bytes (pick_of a reply) ≡ Some (client_state after new_held new_table handed, reply))

-- the numbers of contexts stayed
stayed : (slots after : SlotState) → after.object_counter ≡ slots.object_counter → after.counter ≡ slots.counter → CountsOnBy 1 (Some slots) (Some after)
stayed slots after of_objects of_sessions = record {
  objects_rise = omega (arith, of_objects);
  sessions_rise = omega (arith, of_sessions);
  objects_on = omega (arith, of_objects);
  sessions_on = omega (arith, of_sessions);
}

below_still : (slots after : SlotState) (least : Sequences) → after.object_counter ≡ slots.object_counter → after.counter ≡ slots.counter → AreBelow least slots
    → AreBelow least after
below_still slots after least of_objects of_sessions below = record {
  of_objects = omega (arith, below.of_objects, of_objects);
  of_sessions = omega (arith, below.of_sessions, of_sessions);
}

-- the items of a command that started none, and saved none
pub ended_by : (starts ends saves : Bool) (items started ended saved : List (Option sessions.Item)) → starts ≡ false → saves ≡ false
    → (if starts then started else if ends then ended else if saves then saved else items) ≡ (if ends then ended else items)
ended_by true ends saves items started ended saved is also = absurd cc
ended_by false true saves items started ended saved is also = refl
ended_by false false true items started ended saved is also = absurd cc
ended_by false false false items started ended saved is also = refl

pub pick_none : (tells saves : Bool) (number sequence : ℕ) → tells ≡ false → saves ≡ false
    → (if tells then picks.Session number else if saves then picks.Sequence sequence else picks.Nothing) ≡ picks.Nothing
pick_none true saves number sequence is also = absurd cc
pick_none false true number sequence is also = absurd cc
pick_none false false number sequence is also = refl

-- a command that isn't ContextSave chooses no sequence, and saves no session
no_save : (save success : Bool) → save ≡ false → (save && success) ≡ false
no_save true success is = absurd cc
no_save false success is = refl

no_session_save : (save session success : Bool) → save ≡ false → ((save && session) && success) ≡ false
no_session_save true session success is = absurd cc
no_session_save false session success is = refl

pub picks_none : (a : Admitted) (reply : List ℕ) → (a.shape.row.code == CC_CONTEXT_SAVE) ≡ false → tells_session a reply ≡ false → pick_of a reply ≡ picks.Nothing
picks_none a reply unsaved none =
    pick_none (tells_session a reply) (tells_context a reply) (number_of_session (told_handle reply)) (told_sequence reply) none
    (no_save (a.shape.row.code == CC_CONTEXT_SAVE) (code_of reply == RC_SUCCESS) unsaved)

-- the sessions, where none was started
record Sessions (slots after : SlotState) (held : Held) (client : ℕ) (a : Admitted) (answer : List ℕ) (operands : Operands) (ended : Bool) : Type 0 where
  stand : SessionsStand after (record held.sessions { items = moves.sessions_held_after client a answer held.sessions.items }) []
  gap : sessions.HasGapRoom (Some after)
  in_world : sessions_in after (moves.sessions_held_after client a answer held.sessions.items)
      ≡ sessions_after (own_place client) None (sessions_in slots held.sessions.items) operands ended

own_ended : (items : List (Option sessions.Item)) (client handle : ℕ) (ended : Bool) (operands : Operands) (session : Option (ℕ × Session))
    → operands.session ≡ session → AreOwn items client handle ended operands → ended ≡ true → IsOwn items client handle
own_ended items client handle ended operands None is are so =
    absurd (true≢false (sym (are.authorized.there so) ∙ ap (λ (s : Option (ℕ × Session)). is_some s) is))
own_ended items client handle ended operands (Some held) is are so =
    let among = subst (λ (s : Option (ℕ × Session)). IfSome s (λ held. list_any (λ other. other == held.0) are.named ≡ true)) is are.among.authorization in
    let handle_is = subst (λ (s : Option (ℕ × Session)). IfSome s (λ held. held.0 ≡ handle)) is are.authorized.handle_is in
    subst (λ (handle : ℕ). IsOwn items client handle) handle_is (one_among (λ handle. IsOwn items client handle) are.named held.0 are.own among)

sessions_left_by : (slots after : SlotState) (held : Held) (client : ℕ) (a : Admitted) (answer : List ℕ) (operands : Operands) (ended : Bool)
    → IsSettled slots held → after.started ≡ true → IsSlots after → after.counter ≡ slots.counter → after.persist.seed ≡ slots.persist.seed
    → after.numbers ≡ slots.numbers
    → AreOwn held.sessions.items client (command_auth a.auths).session ended operands → after.sessions ≡ sessions_left slots.sessions operands ended
    → tells_session a answer ≡ false → (a.shape.row.code == CC_CONTEXT_SAVE) ≡ false → ended ≡ ends_session a answer
    → Sessions slots after held client a answer operands ended
sessions_left_by slots after held client a answer operands ended settled started sound counter seed numbers own sessions_are none unsaved ended_is =
    let items = held.sessions.items in
    let handle = (command_auth a.auths).session in
    let items_are : moves.sessions_held_after client a answer items ≡ items_ended items handle ended =
    ended_by (tells_session a answer) (ends_session a answer) (saves_session a answer) items
    (set items (number_of_session (told_handle answer)) (Some (sessions.new_item client (told_handle answer)))) (set items (number_of_session handle) None)
    (sessions_saved (first_handle a) (drop HEADER_BYTES answer) items) none
    (no_session_save (a.shape.row.code == CC_CONTEXT_SAVE) (is_session_handle (first_handle a)) (code_of answer == RC_SUCCESS) unsaved)
    ∙ ap (items_ended items handle) (sym ended_is) in
    let stand = left_stand slots after held.sessions [] client handle ended operands settled.sessions started sound counter seed numbers own sessions_are in
    record {
      stand = subst (λ (items : List (Option sessions.Item)). SessionsStand after (record held.sessions { items = items }) []) (sym items_are) stand;
      gap = room_ended slots after held.sessions client handle ended settled.sessions stand
          (own_ended items client handle ended operands operands.session refl own) settled.gap;
      in_world = ap (sessions_in after) items_are
          ∙ left_in slots after items client handle ended operands (numbered slots held.sessions [] settled.sessions)
          (settled.sessions.count ∙ sym settled.sessions.sound.numbers) own seed sessions_are;
    }

-- ---- it made nothing

plain_by : (slots after : SlotState) (held : Held) (client : ℕ) (table : List (Option ℕ)) (a : Admitted) (bytes effect_reply answer : List ℕ)
    → MayRun slots held client table a bytes → Left slots after held client table a bytes nothing effect_reply answer
    → Runs slots after held (held_after held held.objects.items client a answer) client table table a bytes answer
plain_by slots after held client table a bytes effect_reply answer may left =
    let items = held.objects.items in
    let none : tells_session a answer ≡ false = ap (tells_session a) left.answer_is ∙ left.tells.1 in
    let sessions = sessions_left_by slots after held client a answer left.operands left.ended may.settled left.started left.sound left.counter left.seed left.numbers left.own left.sessions_are
    none left.unsaved (left.ended_is ∙ ap (ends_session a) (sym left.answer_is)) in
    record {
      settled = record {
        objects = stand_same slots after items held.objects.left may.settled.objects left.slots_are (sym left.seed) left.started left.sound;
        sessions = sessions.stand;
        gap = sessions.gap;
      };
      counts = stayed slots after left.object_counter left.counter;
      kept = λ index names. item_same slots after (item_at items index) left.slots_are (sym left.seed);
      step = λ least below. (
        least,
        below_still slots after least left.object_counter left.counter below,
        left.step least (pick_of a answer)
            ∙ ap (λ (pick : Pick). choosing_nothing (state_left slots after held client table least left.operands left.ended, effect_reply) pick)
            (picks_none a answer left.unsaved none)
            ∙ (λ i. Some (
              record {
                persist = after.persist;
                most = held.sessions.numbers.active;
                objects = sym (same_objects slots after items table left.slots_are (sym left.seed)) i;
                sessions = sym sessions.in_world i;
                left = held.sessions.left;
                object_sequence = least.object;
                session_sequence = least.session;
              },
              sym left.answer_is i,
            )),
      );
    }

-- ---- it made an object, which the client has now

starts_none : (start has success : Bool) → (not start && has && success) ≡ true → (start && success) ≡ false
starts_none true has success is = absurd cc
starts_none false has success is = refl

object_by : {new_items : List Item} {new_table : List (Option ℕ)} (slots after : SlotState) (held : Held) (client : ℕ) (table : List (Option ℕ)) (a : Admitted)
    (bytes : List ℕ) (o : Object) (effect_reply answer new_reply : List ℕ) → MayRun slots held client table a bytes
    → Left slots after held client table a bytes (new_object o) effect_reply answer
    → Adopts client (told_handle answer) held.objects.items new_items table new_table → new_reply ≡ with_response_handle answer (next_handle table)
    → Runs slots after held (held_after held new_items client a answer) client table new_table a bytes new_reply
object_by {new_items = new_items} {new_table = new_table} slots after held client table a bytes o effect_reply answer new_reply may left adopts new_is =
    let items = held.objects.items in
    let slot = free_slot slots.slots in
    let handle = TRANSIENT_FIRST + slot in
    let objects = objects_in slots items table in
    let stand = may.settled.objects in
    let long = left.tells.1 in
    let none : tells_session a effect_reply ≡ false = starts_none (starts_session a) a.shape.row.response_handle (code_of effect_reply == RC_SUCCESS) left.tells.0 in
    let none_told : tells_session a answer ≡ false = ap (tells_session a) left.answer_is ∙ handed_tells_session a effect_reply handle long ∙ none in
    let answer_long : 14 ≤ length answer =
    omega (arith, long, (handed effect_reply handle long).long, ap (λ (reply : List ℕ). length reply) left.answer_is) in
    let none_new : tells_session a new_reply ≡ false = ap (tells_session a) new_is ∙ handed_tells_session a answer (next_handle table) answer_long ∙ none_told in
    let sessions = sessions_left_by slots after held client a answer left.operands left.ended may.settled left.started left.sound left.counter left.seed left.numbers left.own left.sessions_are
    none_told left.unsaved (left.ended_is ∙ sym (handed_ends a effect_reply handle long) ∙ ap (ends_session a) (sym left.answer_is)) in
    let fill : Filled slots after items held.objects.left o =
    filled slots after items held.objects.left o stand (may.room left.tells.2) left.slots_are (sym left.seed) left.started left.sound in
    let count : length slots.slots ≤ 254 = omega (arith, stand.sound.count, stand.sound.range.slots_most) in
    let told_is : told_handle answer ≡ handle =
    ap told_handle left.answer_is ∙ handed_told effect_reply handle long (omega (arith, fill.fits, count)) in
    let new : Adopted slots after items new_items held.objects.left table new_table o =
    adopted slots after o fill left.slots_are stand may.is adopts (omega (arith, told_is)) in
    let own : next_handle objects ≡ next_handle table =
    tables.next (λ place. place_object slots items place) table (seen_places slots items client table stand may.is) in
    let same : with_response_handle effect_reply (next_handle objects) ≡ new_reply =
    ap (λ (handle : ℕ). with_response_handle effect_reply handle) own
    ∙ sym (handed_twice effect_reply handle (next_handle table) long)
    ∙ ap (λ (reply : List ℕ). with_response_handle reply (next_handle table)) (sym left.answer_is)
    ∙ sym new_is in
    record {
      settled = record { objects = new.stand; sessions = sessions.stand; gap = sessions.gap };
      counts = stayed slots after left.object_counter left.counter;
      kept = new.others;
      step = λ least below. (
        least,
        below_still slots after least left.object_counter left.counter below,
        left.step least (pick_of a new_reply)
            ∙ ap (λ (pick : Pick). made_step client (state_left slots after held client table least left.operands left.ended) (new_object o) effect_reply pick)
            (picks_none a new_reply left.unsaved none_new)
            ∙ (λ i. Some (
              record {
                persist = after.persist;
                most = held.sessions.numbers.active;
                objects = sym new.objects i;
                sessions = sym sessions.in_world i;
                left = held.sessions.left;
                object_sequence = least.object;
                session_sequence = least.session;
              },
              same i,
            )),
      );
    }

-- ---- it started a session, which the client has now

record IsNew (slots after : SlotState) (held : Held) (client : ℕ) (a : Admitted) (s : Session) (effect_reply answer : List ℕ) : Type 0 where
  long : 14 ≤ length answer
  tells : tells_session a answer ≡ true
  new : Started slots after held.sessions client (told_handle answer) s
  none : sessions.item_at held.sessions.items (number_of_session (told_handle answer)) ≡ None
  handle_is : kind_octet s.kind * 2 ^ 24 + number_of_session (told_handle answer) ≡ told_handle answer
  answer_is : answer ≡ with_response_handle effect_reply (told_handle answer)

is_new : (slots after : SlotState) (held : Held) (client : ℕ) (table : List (Option ℕ)) (a : Admitted) (bytes : List ℕ) (s : Session) (effect_reply answer : List ℕ)
    → MayRun slots held client table a bytes → Left slots after held client table a bytes (new_session s) effect_reply answer
    → takes false false (sent_over bytes a table held.objects.items) answer ≡ true → IsNew slots after held client a s effect_reply answer
is_new slots after held client table a bytes s effect_reply answer may left taken =
    let settled = may.settled.sessions in
    let octet = kind_octet s.kind in
    let number = free_number slots.sessions in
    let handle = octet * 2 ^ 24 + number in
    let told = told_handle answer in
    let start : starts_session a ≡ true = (and_parts (starts_session a) (code_of effect_reply == RC_SUCCESS) left.tells.0).0 in
    let places_are : sessions_left slots.sessions left.operands left.ended ≡ slots.sessions =
    none_after loaded_under inactive slots.sessions left.operands left.ended (left.none start) in
    let made = new_handle s.kind slots.sessions settled.sound.numbers in
    let answer_is : answer ≡ with_response_handle effect_reply handle =
    left.answer_is ∙ ap (λ (places : List SessionPlace). with_response_handle effect_reply (octet * 2 ^ 24 + free_number places)) places_are in
    let told_is : told ≡ handle = ap told_handle answer_is ∙ handed_told effect_reply handle left.tells.1 made.fits in
    let tells : tells_session a answer ≡ true = ap (tells_session a) answer_is ∙ handed_tells_session a effect_reply handle left.tells.1 ∙ left.tells.0 in
    let fits = command_session PROFILE_CONTEXTS false (tables_seen PROFILE_CONTEXTS client table held.sessions.items) bytes a (device_handle table held.objects.items (first_handle a)) answer may.admitted taken tells in
    let number_is : number_of_session told ≡ number = ap number_of_session told_is ∙ made.number_is in
    let octet_is : octet_of told ≡ octet = ap octet_of told_is ∙ made.octet_is in
    let free : sessions.place_at slots (number_of_session told) ≡ inactive = ap (sessions.place_at slots) number_is ∙ free_is slots.sessions in
    let sessions_are : after.sessions ≡ set slots.sessions (number_of_session told) (loaded (octet_of told) s) =
    left.sessions_are ∙ ap (λ (places : List SessionPlace). set places (free_number places) (loaded octet s)) places_are
    ∙ (λ i. set slots.sessions (sym number_is i) (loaded (sym octet_is i) s)) in
    record {
      long = fits.1;
      tells = tells;
      new = started slots after held.sessions client told s settled left.started left.sound left.counter left.seed left.numbers fits.2 fits.3 free sessions_are may.gap;
      none = unused_item slots held.sessions (number_of_session told) settled free;
      handle_is = ap (λ (n : ℕ). octet * 2 ^ 24 + n) number_is ∙ sym told_is;
      answer_is = answer_is ∙ ap (with_response_handle effect_reply) (sym told_is);
    }

pub begun_by : {X : Type 0} (test : Bool) (x y : X) → test ≡ true → (if test then x else y) ≡ x
begun_by true x y is = refl
begun_by false x y is = absurd cc

session_by : (slots after : SlotState) (held : Held) (client : ℕ) (table : List (Option ℕ)) (a : Admitted) (bytes : List ℕ) (s : Session) (effect_reply answer : List ℕ)
    → MayRun slots held client table a bytes → Left slots after held client table a bytes (new_session s) effect_reply answer
    → takes false false (sent_over bytes a table held.objects.items) answer ≡ true
    → Runs slots after held (held_after held held.objects.items client a answer) client table table a bytes answer
session_by slots after held client table a bytes s effect_reply answer may left taken =
    let items = held.objects.items in
    let old = held.sessions.items in
    let is = is_new slots after held client table a bytes s effect_reply answer may left taken in
    let told = told_handle answer in
    let number = number_of_session told in
    let start : starts_session a ≡ true = (and_parts (starts_session a) (code_of effect_reply == RC_SUCCESS) left.tells.0).0 in
    let new_items = set old number (Some (sessions.new_item client told)) in
    let items_are : moves.sessions_held_after client a answer old ≡ new_items =
    begun_by (tells_session a answer) new_items _ is.tells in
    let state : Sequences → ClientState = λ least. state_left slots after held client table least left.operands left.ended in
    let world_is : sessions_after (own_place client) None (sessions_in slots old) left.operands left.ended ≡ sessions_in slots old = none_after (own_place client) None (sessions_in slots old) left.operands left.ended (left.none start) in
    record {
      settled = record {
        objects = stand_same slots after items held.objects.left may.settled.objects left.slots_are (sym left.seed) left.started left.sound;
        sessions = subst (λ (items : List (Option sessions.Item)). SessionsStand after (record held.sessions { items = items }) []) (sym items_are) is.new.stand;
        gap = is.new.gap;
      };
      counts = stayed slots after left.object_counter left.counter;
      kept = λ index names. item_same slots after (item_at items index) left.slots_are (sym left.seed);
      step = λ least below. (
        least,
        below_still slots after least left.object_counter left.counter below,
        left.step least (pick_of a answer)
            ∙ ap (made_step client (state least) (new_session s) effect_reply) (begun_by (tells_session a answer) (picks.Session number) _ is.tells)
            ∙ ap (λ (all : List (Option Owned)). world.numbered_step client (record (state least) { sessions = all }) s effect_reply number) world_is
            ∙ begun_by (world.is_unused (sessions_in slots old) number)
            (Some (
              record (state least) { sessions = set (sessions_in slots old) number (own_place client (kind_octet s.kind * 2 ^ 24 + number) s) },
              with_response_handle effect_reply (kind_octet s.kind * 2 ^ 24 + number),
            )) None is.new.unused
            ∙ (λ i. Some (
              record (state least) { sessions = set (sessions_in slots old) number (own_place client (is.handle_is i) s) },
              with_response_handle effect_reply (is.handle_is i),
            ))
            ∙ (λ i. Some (
              record {
                persist = after.persist;
                most = held.sessions.numbers.active;
                objects = sym (same_objects slots after items table left.slots_are (sym left.seed)) i;
                sessions = (sym is.new.sessions ∙ ap (sessions_in after) (sym items_are)) i;
                left = held.sessions.left;
                object_sequence = least.object;
                session_sequence = least.session;
              },
              sym is.answer_is i,
            )),
      );
    }

-- ---- whatever it made

pub runs_else_by : (slots after : SlotState) (held : Held) (client : ℕ) (table : List (Option ℕ)) (a : Admitted) (bytes : List ℕ) (created : Created) (effect_reply answer : List ℕ)
    → MayRun slots held client table a bytes → Left slots after held client table a bytes created effect_reply answer
    → takes false false (sent_over bytes a table held.objects.items) answer ≡ true → tells_object a answer ≡ false
    → Runs slots after held (held_after held held.objects.items client a answer) client table table a bytes answer
runs_else_by slots after held client table a bytes nothing effect_reply answer may left taken plain =
    plain_by slots after held client table a bytes effect_reply answer may left
runs_else_by slots after held client table a bytes (new_object o) effect_reply answer may left taken plain =
    let handle = TRANSIENT_FIRST + free_slot slots.slots in
    absurd (true≢false (sym (ap (tells_object a) left.answer_is ∙ handed_tells a effect_reply handle left.tells.1 ∙ left.tells.0) ∙ plain))
runs_else_by slots after held client table a bytes (new_session s) effect_reply answer may left taken plain =
    session_by slots after held client table a bytes s effect_reply answer may left taken

starts_no_object : (start has success : Bool) → (start && success) ≡ true → (not start && has && success) ≡ false
starts_no_object true has success is = refl
starts_no_object false has success is = absurd cc

pub runs_then_by : {new_items : List Item} {new_table : List (Option ℕ)} (slots after : SlotState) (held : Held) (client : ℕ) (table : List (Option ℕ)) (a : Admitted)
    (bytes : List ℕ) (created : Created) (effect_reply answer new_reply : List ℕ) → MayRun slots held client table a bytes
    → Left slots after held client table a bytes created effect_reply answer
    → takes false false (sent_over bytes a table held.objects.items) answer ≡ true → tells_object a answer ≡ true
    → Adopts client (told_handle answer) held.objects.items new_items table new_table → new_reply ≡ with_response_handle answer (next_handle table)
    → Runs slots after held (held_after held new_items client a answer) client table new_table a bytes new_reply
runs_then_by slots after held client table a bytes nothing effect_reply answer new_reply may left taken told adopts new_is =
    absurd (true≢false (sym told ∙ ap (tells_object a) left.answer_is ∙ left.tells.0))
runs_then_by slots after held client table a bytes (new_object o) effect_reply answer new_reply may left taken told adopts new_is =
    object_by slots after held client table a bytes o effect_reply answer new_reply may left adopts new_is
runs_then_by slots after held client table a bytes (new_session s) effect_reply answer new_reply may left taken told adopts new_is =
    let is = is_new slots after held client table a bytes s effect_reply answer may left taken in
    absurd (true≢false (sym told ∙ starts_no_object (starts_session a) a.shape.row.response_handle (code_of answer == RC_SUCCESS) is.tells))

-- a response that tells a session's handle tells a number that no client has
pub free_by : (slots after : SlotState) (held : Held) (client : ℕ) (table : List (Option ℕ)) (a : Admitted) (bytes : List ℕ) (created : Created) (effect_reply answer : List ℕ)
    → MayRun slots held client table a bytes → Left slots after held client table a bytes created effect_reply answer
    → takes false false (sent_over bytes a table held.objects.items) answer ≡ true → tells_session a answer ≡ true
    → number_taken held.sessions answer ≡ false
free_by slots after held client table a bytes nothing effect_reply answer may left taken told =
    absurd (true≢false (sym told ∙ ap (tells_session a) left.answer_is ∙ left.tells.1))
free_by slots after held client table a bytes (new_object o) effect_reply answer may left taken told =
    let handle = TRANSIENT_FIRST + free_slot slots.slots in
    absurd (true≢false (sym told ∙ ap (tells_session a) left.answer_is ∙ handed_tells_session a effect_reply handle left.tells.1
    ∙ starts_none (starts_session a) a.shape.row.response_handle (code_of effect_reply == RC_SUCCESS) left.tells.0))
free_by slots after held client table a bytes (new_session s) effect_reply answer may left taken told =
    let is = is_new slots after held client table a bytes s effect_reply answer may left taken in
    free_told held.sessions answer is.long left.few is.none

-- what the device did, by what it made
pub record DidSo (slots : SlotState) (held : Held) (client : ℕ) (table : List (Option ℕ)) (a : Admitted) (bytes : List ℕ) : Type 0 where
  pub created : Created
  pub effect_reply : List ℕ
  pub left : let step = slot_step slots (sent_over bytes a table held.objects.items) in Left slots step.0 held client table a bytes created effect_reply step.1

did_by : (slots : SlotState) (held : Held) (client : ℕ) (table : List (Option ℕ)) (a : Admitted) (bytes : List ℕ) (full : Option ℕ) → MayRun slots held client table a bytes
    → is_managed a.shape.row.code ≡ false
    → world.room_for (state_here slots held table) a.shape.row.code (drop a.auths.params bytes) ≡ full → DidSo slots held client table a bytes
did_by slots held client table a bytes None may managed room =
    let effect = client_effect client (state_here slots held table) a bytes in
    record { created = effect.outcome.created; effect_reply = effect.reply; left = left_run slots held client table a bytes may managed room }
did_by slots held client table a bytes (Some code) may managed room =
    record { created = nothing; effect_reply = error_reply code; left = left_full slots held client table a bytes code may managed room }

pub did_effect : (slots : SlotState) (held : Held) (client : ℕ) (table : List (Option ℕ)) (a : Admitted) (bytes : List ℕ) → MayRun slots held client table a bytes
    → is_managed a.shape.row.code ≡ false → DidSo slots held client table a bytes
did_effect slots held client table a bytes may managed =
    did_by slots held client table a bytes (world.room_for (state_here slots held table) a.shape.row.code (drop a.auths.params bytes)) may managed refl
