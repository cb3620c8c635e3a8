-- A session that its client saves: what the device does, the plain machine in its place, and what is held then.
use Rattle.std.proofs.Common.{◌≡◌, ◌+◌, ℕ, Bool, true, false, List, [], ◌∷◌, drop, get_or, map, set, refl, ap, sym, ◌∙◌, subst, arith, inr}
use Rattle.std.specs.Prelude.{◌==◌, ◌&&◌, ◌||◌, Option, Some, None, is_some, IfSome, Ok, if◌then◌else◌}
use Rattle.std.specs.List.{AllByRecursion, count_by, filter}
use Rattle.std.proofs.lemmas.Bool.{and_parts, eq-eqb, eqb-true, true≢false}
use Rattle.std.proofs.lemmas.List.{map-set, set-get_or}
use Rattle.tab_spec.specs.declared.TheConstants.{CC_CONTEXT_SAVE, CC_START_AUTH_SESSION, HEADER_BYTES, HT_HMAC_SESSION, HT_POLICY_SESSION, HT_TRANSIENT, RC_SUCCESS, ST_NO_SESSIONS}
use Rattle.tab_spec.specs.declared.Admitted.{Admitted}
use Rattle.tab_spec.specs.declared.numbers.Numbers.{Numbers}
use Rattle.tab_spec.specs.declared.CommandRow.{CommandRow}
use Rattle.tab_spec.specs.Admission.{client_admitted, is_session_handle}
use Rattle.tab_spec.specs.Frame.{code_of, is_frame}
use Rattle.tab_spec.specs.Reply.{response}
use Rattle.tab_spec.specs.Session.{Session}
use Rattle.tab_spec.specs.Shape.{number_of_session, octet_of}
use Rattle.tab_spec.specs.Values.{AreBytes}
use Rattle.tab_spec.specs.declared.contexts.ContextLimits.{ContextLimits}
use Rattle.effect_spec.specs.Contexts.{session_context}
use Rattle.effect_spec.specs.Operands.{command_auth}
use Rattle.device_port.specs.Device.{Seen, asked_of, last_of}
use Rattle.device_port.specs.Own.{Asks, Succeeds}
use Rattle.device_port.specs.Use.{without_one}
use Rattle.device_spec.specs.ContextCommands.{context_save_command}
use Rattle.device_spec.specs.Answers.{is_success_form, takes}
use Rattle.device_spec.specs.Slots.{SlotState}
use Rattle.device_laws.proofs.AnswerForms.{takes_same}
use Rattle.device_laws.proofs.ContextSteps.{save_row}
use Rattle.client_laws.specs.Ready.{ends_session, named_sessions, sent_for, starts_session, tells_object, tells_session}
use Rattle.client_laws.proofs.Commands.{another_code, clients_command, row_as}
use Rattle.client_laws.proofs.NameSessions.{named_own}
use Rattle.client_laws.proofs.Saving.{save_sent, save_session_plain}
use Rattle.object_swap.specs.Items.{item_at}
use Rattle.session_swap.specs.Items as sessions
use Rattle.session_swap.specs.Items.{HasGapRoom, HandsOut, KeepsRest, SavesForClient, SavesTold, SessionsStand, SessionsView, Stand, context_number, holder_of, holders, is_user, item_of, item_session, new_item, owner_in, saved_by_client, with_handle, without_sessions}
use Rattle.session_swap.proofs.Moved as moved
use Rattle.session_swap.proofs.Moved.{some_of}
use Rattle.history_laws.proofs.Tables.{get_or_mapped}
use Rattle.history_spec.specs.declared.Pick.TheVariants as picks
use Rattle.world_spec.specs.World.{Owned, client_step, in_use, own_place, owned_by, saved_place, session_of}
use Rattle.client_machine.specs.declared.held.Held.{Held}
use Rattle.client_machine.specs.Costs.{places_of}
use Rattle.client_machine.specs.Moves.{IsAtHand, Ran, client_state, first_handle, loads_kept, number_taken, order_after, pick_of, saved_number, saves_one, saves_session, sessions_held_after, sessions_saved, tells_context, told_sequence, SentBefore}
use Rattle.client_machine.specs.Settled.{Sequences, orphan_count, owned_by_client, owned_in, sessions_in}
use Rattle.client_machine.specs.Tables.{device_handle, tables_seen}
use Rattle.client_machine.proofs.Doing.{both_so, no_handle, no_start, pick_saved}
use Rattle.client_machine.proofs.Managing.{managed, managed_by}
use Rattle.client_machine.proofs.Ran.{Done, Outcome, Prepared, client_plain, done_none, done_some, none_after, order_plain, place_free, ran_moves, ran_steps, spare_else, table_plain}
use Rattle.client_machine.proofs.Ready.{MayRun, admitted_here, own_here}
use Rattle.client_machine.proofs.Running.{Runs}
use Rattle.client_machine.proofs.Sending.{taken_right}
use Rattle.client_machine.proofs.SessionsAfter.{IsOwn}
use Rattle.client_machine.proofs.Staying.{KeepsLoaded, loaded_saved, residents_same, stays_over}
use Rattle.client_machine.proofs.Settling.{object_over_sessions, sessions_same, some_same, stand_over_sessions, table_over_sessions, tells_over_sessions}

-- ---- the session that a command saves

first_by : (P : ℕ → Type 0) (is : Bool) (handle : ℕ) (more : List ℕ) → is ≡ true → AllByRecursion P (if is then handle ∷ more else more) → P handle
first_by P true handle more is all = all.0
first_by P false handle more is all = absurd cc

-- what holds of each session that a command names holds of the one that it saves
pub saved_named : (P : ℕ → Type 0) (a : Admitted) → saves_one a ≡ true → AllByRecursion P (named_sessions a) → P (first_handle a)
saved_named P a saves all =
    first_by P (is_session_handle (first_handle a)) (first_handle a) (filter is_session_handle (get_or a.shape.handles 1 0 ∷ (command_auth a.auths).session ∷ []))
    (and_parts (a.shape.row.code == CC_CONTEXT_SAVE) (is_session_handle (first_handle a)) saves).1 all

owned_by_user : (client : ℕ) (owner : Option (ℕ × Bool)) → is_user client owner ≡ true → is_some owner ≡ true
owned_by_user client None is = absurd cc
owned_by_user client (Some owner) is = refl

-- a client owns it
pub saved_owned : {contexts : ContextLimits} {D : Type 0} {seen : D → Seen} {old between : D} {held mid : Held}
    {client : ℕ} {table : List (Option ℕ)} {a : Admitted} {bytes command : List ℕ}
    → Prepared contexts seen old between held mid client table a bytes command → saves_one a ≡ true
    → sessions.has_owner (item_of mid.sessions.items (first_handle a)) ≡ true
saved_owned {contexts = contexts} {mid = mid} {client = client} {table = table} {a = a} {bytes = bytes} p alone =
    owned_by_user client (owner_in mid.sessions.items (first_handle a))
    (saved_named (λ handle. is_user client (owner_in mid.sessions.items handle) ≡ true) a alone
    (named_own (tables_seen contexts client table mid.sessions.items) bytes a p.admitted))

-- the handle of a session isn't that of an object
no_object : (transient hmac policy : Bool) (octet : ℕ) → (octet == HT_TRANSIENT) ≡ transient → (octet == HT_HMAC_SESSION) ≡ hmac → (octet == HT_POLICY_SESSION) ≡ policy
    → (hmac || policy) ≡ true → transient ≡ false
no_object false hmac policy octet is one other session = refl
no_object true true policy octet is one other session = absurd (omega (arith, eqb-true octet HT_TRANSIENT is, eqb-true octet HT_HMAC_SESSION one))
no_object true false true octet is one other session = absurd (omega (arith, eqb-true octet HT_TRANSIENT is, eqb-true octet HT_POLICY_SESSION other))
no_object true false false octet is one other session = absurd cc

session_apart : (handle : ℕ) → is_session_handle handle ≡ true → (octet_of handle == HT_TRANSIENT) ≡ false
session_apart handle is =
    no_object (octet_of handle == HT_TRANSIENT) (octet_of handle == HT_HMAC_SESSION) (octet_of handle == HT_POLICY_SESSION) (octet_of handle) refl refl refl is

same_else : (test : Bool) (one other : ℕ) → test ≡ false → (if test then one else other) ≡ other
same_else test one other is = rw is refl

-- ---- the session in the world

both_by : (own same : Bool) (place : Owned) → own ≡ true → same ≡ true → (if own && same then Some place else None) ≡ Some place
both_by own same place is also = rw (is, also) refl

session_there : (client handle : ℕ) (s : Session) → in_use (owned_by client (octet_of handle) (own_place client handle s)) ≡ Some s
session_there client handle s =
    let place : Owned = record { client = Some client; octet = octet_of handle; session = s; handed = None } in
    ap in_use (both_by (client == client) (octet_of handle == octet_of handle) place (eq-eqb client client refl) (eq-eqb (octet_of handle) (octet_of handle) refl))

own_item : (client handle : ℕ) (test : Bool) → test ≡ true → (if test then Some (new_item client handle) else None) ≡ Some (new_item client handle)
own_item client handle test is = rw is refl

kept_by : {X Y : Type 0} (f : Option X → Option Y) (xs : List (Option X)) (i : ℕ) (y : Option X) → f None ≡ None → f y ≡ f (get_or xs i None)
    → map f (set xs i y) ≡ map f xs
kept_by f xs i y none same =
    map-set f xs i y ∙ ap (set (map f xs) i) (same ∙ sym (get_or_mapped f xs i none)) ∙ set-get_or (map f xs) i None

-- a session of the client's that is loaded and in use
record IsSaved (slots : SlotState) (items : List (Option sessions.Item)) (client handle : ℕ) (reply : List ℕ) : Type 0 where
  session : Session
  own : IsOwn items client handle
  there : item_session slots (Some (new_item client handle)) ≡ Some session
  reply_is : reply ≡ response ST_NO_SESSIONS RC_SUCCESS (session_context slots.persist.seed handle slots.counter session)

is_saved : (slots : SlotState) (view : SessionsView) (client handle : ℕ) (reply : List ℕ) → SessionsStand slots view [] → IsOwn view.items client handle
    → HandsOut slots handle (item_session slots (item_of view.items handle)) reply → IsSaved slots view.items client handle reply
is_saved slots view client handle reply stand own made =
    let found = some_of (item_session slots (Some (new_item client handle))) (moved.item_stands slots view [] (number_of_session handle) (new_item client handle) stand own).there in
    let item_is : item_of view.items handle ≡ Some (new_item client handle) =
    ap (with_handle handle) own ∙ own_item client handle (handle == handle) (eq-eqb handle handle refl) in
    record {
      session = found.0;
      own = own;
      there = found.1;
      reply_is = subst (λ (s : Option Session). HandsOut slots handle s reply) found.1
          (subst (λ (item : Option sessions.Item). HandsOut slots handle (item_session slots item) reply) item_is made);
    }

saved_session : (slots : SlotState) (items : List (Option sessions.Item)) (client handle : ℕ) (reply : List ℕ)
    → (is : IsSaved slots items client handle reply) → session_of (sessions_in slots items) client handle ≡ Some is.session
saved_session slots items client handle reply is =
    let n = number_of_session handle in
    ap (λ (place : Option Owned). in_use (owned_by client (octet_of handle) place))
    (get_or_mapped (owned_in slots) items n refl ∙ ap (owned_in slots) is.own
    ∙ ap (λ (found : Option Session). owned_by_client (Some client) handle None found) is.there)
    ∙ session_there client handle is.session

-- the sessions of the world with that one saved
saved_world : (slots after : SlotState) (items new_items : List (Option sessions.Item)) (client handle : ℕ) (reply : List ℕ)
    → (is : IsSaved slots items client handle reply) → new_items ≡ sessions_saved handle (drop HEADER_BYTES reply) items
    → map (λ item. item_session after item) new_items ≡ map (λ item. item_session slots item) items
    → sessions_in after new_items
    ≡ set (sessions_in slots items) (number_of_session handle)
    (saved_place client handle is.session (session_context slots.persist.seed handle slots.counter is.session))
saved_world slots after items new_items client handle reply is items_are same =
    let n = number_of_session handle in
    let context = drop HEADER_BYTES reply in
    let item : Option sessions.Item = Some (record (new_item client handle) { handed = Some context }) in
    let last : Option sessions.Item = saved_by_client context (Some (new_item client handle)) in
    let middle : List (Option sessions.Item) = set items n item in
    let last_is : new_items ≡ set items n last = items_are ∙ ap (λ (found : Option sessions.Item). set items n (saved_by_client context found)) is.own in
    let held : holders new_items ≡ holders middle =
    ap holders last_is ∙ map-set holder_of items n last ∙ sym (map-set holder_of items n item) in
    let sessions_are : map (λ item. item_session slots item) middle ≡ map (λ item. item_session slots item) items =
    kept_by (item_session slots) items n item refl (ap (item_session slots) (sym is.own)) in
    sessions_same slots after middle new_items held (same ∙ sym sessions_are)
    ∙ map-set (owned_in slots) items n item
    ∙ ap (λ (found : Option Session). set (sessions_in slots items) n (owned_by_client (Some client) handle (Some context) found)) is.there
    ∙ ap (λ (context : List ℕ). set (sessions_in slots items) n (saved_place client handle is.session context)) (ap (drop HEADER_BYTES) is.reply_is)

-- ---- what a device did that tells its state

saved_by : {X : Type 0} (starts ends saves : Bool) (items started ended saved : X) → starts ≡ false → ends ≡ false → saves ≡ true
    → (if starts then started else if ends then ended else if saves then saved else items) ≡ saved
saved_by starts ends saves items started ended saved is also so = rw (is, also, so) refl

-- the call on the device and the sessions, where the device tells its state
pub record SavedOver (old new : Option SlotState) (view new_view : SessionsView) (handle : ℕ) (reply : List ℕ) : Type 0 where
  pub rest : sessions.rest_of new ≡ sessions.rest_of old
  pub stand : Stand new new_view []
  pub room : HasGapRoom new
  pub exact : IfSome new (λ slots. slots.counter ≡ sessions.counter_of old + 1)
  pub number : IfSome old (λ slots. context_number (drop HEADER_BYTES reply) ≡ slots.counter)
  pub context : IfSome old (λ slots. HandsOut slots handle (item_session slots (item_of view.items handle)) reply)
  pub sessions : sessions.sessions_of new new_view.items ≡ sessions.sessions_of old view.items

-- what holds of the response on every device
pub record SavedReply (contexts : ContextLimits) (view new_view : SessionsView) (handle : ℕ) (reply : List ℕ) : Type 0 where
  pub numbers : new_view.numbers ≡ view.numbers
  pub items_are : new_view.items ≡ sessions_saved handle (drop HEADER_BYTES reply) view.items
  pub left_is : new_view.left ≡ view.left
  pub order_is : new_view.order ≡ without_one (number_of_session handle) view.order
  pub success : Succeeds contexts (context_save_command handle) reply
  pub frame : is_frame reply ≡ true
  pub made_for : new_view.contexts ≡ view.contexts

-- which of its tests a reply meets
record Tells (a : Admitted) (reply : List ℕ) : Type 0 where
  object : tells_object a reply ≡ false
  starts : tells_session a reply ≡ false
  ends : ends_session a reply ≡ false
  saves : saves_session a reply ≡ true
  context : tells_context a reply ≡ true

tells_by : (contexts : ContextLimits) (client : ℕ) (table : List (Option ℕ)) (items : List (Option sessions.Item)) (a : Admitted) (bytes reply : List ℕ)
    → client_admitted (tables_seen contexts client table items) bytes ≡ Ok a → saves_one a ≡ true → code_of reply ≡ RC_SUCCESS → Tells a reply
tells_by contexts client table items a bytes reply e alone success =
    let tables = tables_seen contexts client table items in
    let save = (and_parts (a.shape.row.code == CC_CONTEXT_SAVE) (is_session_handle (first_handle a)) alone).0 in
    let row = row_as a.shape.row save_row CC_CONTEXT_SAVE (clients_command tables bytes a e).row refl save in
    let so : (code_of reply == RC_SUCCESS) ≡ true = eq-eqb (code_of reply) RC_SUCCESS success in
    record {
      object = no_handle (starts_session a) a.shape.row.response_handle (code_of reply == RC_SUCCESS) (ap (λ (r : CommandRow). r.response_handle) row);
      starts = no_start (starts_session a) (code_of reply == RC_SUCCESS) (another_code a.shape.row.code CC_CONTEXT_SAVE CC_START_AUTH_SESSION save refl);
      ends = (managed tables bytes a e (managed_by a.shape.row.code CC_CONTEXT_SAVE save refl)).ends reply;
      saves = both_so (saves_one a) (code_of reply == RC_SUCCESS) alone so;
      context = both_so (a.shape.row.code == CC_CONTEXT_SAVE) (code_of reply == RC_SUCCESS) save so;
    }

-- what is held afterwards
abbrev pub held_with : Held → SessionsView → Held
held_with held new_view = record { objects = held.objects; sessions = new_view }

one_saved : {contexts : ContextLimits} (slots after : SlotState) (held : Held) (new_view : SessionsView) (client : ℕ) (table : List (Option ℕ)) (a : Admitted) (bytes reply : List ℕ)
    → MayRun slots held client table a bytes → saves_one a ≡ true → SavedOver (Some slots) (Some after) held.sessions new_view (first_handle a) reply
    → SavedReply contexts held.sessions new_view (first_handle a) reply → Runs slots after held (held_with held new_view) client table table a bytes reply
one_saved slots after held new_view client table a bytes reply may alone over given =
    let handle = first_handle a in
    let n = number_of_session handle in
    let items = held.objects.items in
    let old = held.sessions.items in
    let both = and_parts (a.shape.row.code == CC_CONTEXT_SAVE) (is_session_handle handle) alone in
    let tells = tells_by _ client table old a bytes reply may.admitted alone given.success.code in
    let same : without_sessions after ≡ without_sessions slots = some_same over.rest in
    let sessions_are : map (λ item. item_session after item) new_view.items ≡ map (λ item. item_session slots item) old = some_same over.sessions in
    let is = is_saved slots held.sessions client handle reply may.settled.sessions
    (saved_named (λ handle. IsOwn old client handle) a alone (own_here slots held client table a bytes may)) over.context in
    let object_counter : after.object_counter ≡ slots.object_counter = ap (λ (s : SlotState). s.object_counter) same in
    let counter : after.counter ≡ slots.counter + 1 = over.exact in
    let pick_is : pick_of a reply ≡ picks.Sequence slots.counter =
    pick_saved (tells_session a reply) (tells_context a reply) _ (told_sequence reply) tells.starts tells.context
    ∙ ap (λ (n : ℕ). picks.Sequence n) over.number in
    record {
      settled = record {
        objects = stand_over_sessions slots after items held.objects.left same over.stand.sound may.settled.objects;
        sessions = over.stand;
        gap = over.room;
      };
      counts = record {
        objects_rise = omega (arith, object_counter);
        sessions_rise = omega (arith, counter);
        objects_on = omega (arith, object_counter);
        sessions_on = omega (arith, counter);
      };
      kept = λ index names. object_over_sessions slots after (item_at items index) same;
      step = λ least below.
          let handed : Sequences = record { object = least.object; session = slots.counter + 1 } in (
            handed,
            record { of_objects = omega (arith, below.of_objects, object_counter); of_sessions = omega (arith, counter) },
            ap (client_step client (client_state slots held table least) bytes) pick_is
                ∙ save_session_plain client (client_state slots held table least) bytes a slots.counter is.session
                (admitted_here slots held client table least a bytes may) both.0 may.sort both.1 (saved_session slots old client handle reply is)
                below.of_sessions may.session_numbers
                ∙ (λ i. Some (
                  record {
                    persist = ap (λ (s : SlotState). s.persist) (sym same) i;
                    most = sym (ap (λ (n : Numbers). n.active) given.numbers) i;
                    objects = sym (table_over_sessions slots after items table same) i;
                    sessions = sym (saved_world slots after old new_view.items client handle reply is given.items_are sessions_are) i;
                    left = sym given.left_is i;
                    object_sequence = least.object;
                    session_sequence = slots.counter + 1;
                  },
                  sym is.reply_is i,
                )),
          );
    }

-- ---- in every state

none_after_none : (new : Option SlotState) → is_some new ≡ false → new ≡ None
none_after_none None is = refl
none_after_none (Some slots) is = absurd cc

done_saved : {contexts : ContextLimits} (old new : Option SlotState) (held : Held) (new_view : SessionsView) (client : ℕ) (table : List (Option ℕ)) (a : Admitted) (bytes reply : List ℕ)
    → IfSome old (λ slots. MayRun slots held client table a bytes) → saves_one a ≡ true → SavedOver old new held.sessions new_view (first_handle a) reply
    → SavedReply contexts held.sessions new_view (first_handle a) reply → Done old new held (held_with held new_view) client table table a bytes reply
done_saved None new held new_view client table a bytes reply may alone over given =
    done_none new held (held_with held new_view) client table table a bytes reply (none_after_none new (tells_over_sessions None new over.rest))
done_saved (Some slots) None held new_view client table a bytes reply may alone over given = absurd (let none = over.rest in cc)
done_saved (Some slots) (Some after) held new_view client table a bytes reply may alone over given =
    done_some slots after (Some after) held (held_with held new_view) client table table a bytes reply refl
    (one_saved slots after held new_view client table a bytes reply may alone over given)

-- the call that saved it
pub record SavedOne (contexts : ContextLimits) {D : Type 0} (seen : D → Seen) (between new : D) (mid : Held) (new_view : SessionsView)
    (handle : ℕ) (reply : List ℕ) : Type 0 where
  pub over : SavedOver (seen between).state (seen new).state mid.sessions new_view handle reply
  pub given : SavedReply contexts mid.sessions new_view handle reply
  pub keeps : KeepsRest seen between new

-- what the call leaves, clause by clause
pub saved_now : {contexts : ContextLimits} {D : Type 0} {seen : D → Seen} {last : Option (List ℕ)} {between new : D}
    {mid : Held} {new_view : SessionsView} {handle : ℕ} {reply : List ℕ} → KeepsRest seen between new
    → sessions.sessions_of (seen new).state new_view.items ≡ sessions.sessions_of (seen between).state mid.sessions.items
    → Stand (seen between).state mid.sessions [] → ((others : List ℕ) → Stand (seen between).state mid.sessions others → Stand (seen new).state new_view others)
    → HasGapRoom (seen new).state → SavesForClient contexts last reply handle mid.sessions new_view
    → SavesTold (seen between).state (seen new).state reply handle mid.sessions.items
    → SavedOne contexts seen between new mid new_view handle reply
saved_now keeps same stood stands room saves told = record {
  over = record {
    rest = keeps.rest;
    stand = stands [] stood;
    room = room;
    exact = told.exact;
    number = told.number;
    context = told.context;
    sessions = same;
  };
  given = record {
    numbers = ap (λ (v : SessionsView). v.numbers) saves.view_is;
    items_are = ap (λ (v : SessionsView). v.items) saves.view_is;
    left_is = ap (λ (v : SessionsView). v.left) saves.view_is;
    order_is = ap (λ (v : SessionsView). v.order) saves.view_is;
    success = saves.success;
    frame = saves.frame;
    made_for = ap (λ (v : SessionsView). v.contexts) saves.view_is;
  };
  keeps = keeps;
}

-- whose sessions they are afterwards, by what the reply tells
pub saved_after : {contexts : ContextLimits} {D : Type 0} {seen : D → Seen} {old between : D} {held mid : Held}
    {client : ℕ} {table : List (Option ℕ)} {a : Admitted} {bytes command : List ℕ} (new_view : SessionsView) (reply : List ℕ)
    → Prepared contexts seen old between held mid client table a bytes command → saves_one a ≡ true
    → SavedReply contexts mid.sessions new_view (first_handle a) reply → new_view.items ≡ sessions_held_after client a reply mid.sessions.items
saved_after {mid = mid} {client = client} {table = table} {a = a} {bytes = bytes} new_view reply p alone given =
    let tells = tells_by _ client table mid.sessions.items a bytes reply p.admitted alone given.success.code in
    given.items_are
    ∙ sym (saved_by (tells_session a reply) (ends_session a reply) (saves_session a reply) mid.sessions.items _ _ _ tells.starts tells.ends tells.saves)

-- and in which order they were used
order_saved : {contexts : ContextLimits} {D : Type 0} {seen : D → Seen} {old between : D} {held mid : Held}
    {client : ℕ} {table : List (Option ℕ)} {a : Admitted} {bytes command : List ℕ} (new_view : SessionsView) (reply : List ℕ)
    → Prepared contexts seen old between held mid client table a bytes command → saves_one a ≡ true
    → SavedReply contexts mid.sessions new_view (first_handle a) reply → new_view.order ≡ order_after a reply mid.sessions.order
order_saved {mid = mid} {client = client} {table = table} {a = a} {bytes = bytes} new_view reply p alone given =
    let tells = tells_by _ client table mid.sessions.items a bytes reply p.admitted alone given.success.code in
    given.order_is
    ∙ sym (saved_by (tells_session a reply) (ends_session a reply) (saves_session a reply) mid.sessions.order _ _ _ tells.starts tells.ends tells.saves)

taken_by : (frame success form other : Bool) → frame ≡ true → success ≡ true → form ≡ true → (frame && (if success then form else other)) ≡ true
taken_by frame success form other whole is so = rw (whole, is, so) refl

-- a context that was made is taken, whatever the broker holds
pub save_taken : {contexts : ContextLimits} (is_kept is_taken : Bool) (handle : ℕ) (reply : List ℕ) → Succeeds contexts (context_save_command handle) reply → is_frame reply ≡ true
    → takes contexts is_kept is_taken (context_save_command handle) reply ≡ true
save_taken {contexts = contexts} is_kept is_taken handle reply success frame =
    let command = context_save_command handle in
    takes_same contexts is_kept is_taken command reply refl refl
    ∙ taken_by (is_frame reply) (code_of reply == RC_SUCCESS) (is_success_form contexts true command reply) _ frame
    (eq-eqb (code_of reply) RC_SUCCESS success.code) success.form

-- what became of the command
pub ran_saved : {contexts : ContextLimits} {D : Type 0} {old between new : D} {held mid : Held}
    {client : ℕ} {table : List (Option ℕ)} {a : Admitted} {bytes command reply : List ℕ}
    (seen : D → Seen) (new_view : SessionsView)
    → Prepared contexts seen old between held mid client table a bytes command → saves_one a ≡ true → AreBytes bytes
    → SavedOne contexts seen between new mid new_view (first_handle a) reply
    → SentBefore contexts seen (orphan_count held) old between
    → Asks {A = Unit {0}} contexts seen between new (context_save_command (first_handle a)) (Ok tt)
    → last_of (seen new) ≡ Some reply → (IsAtHand contexts held table a bytes → between ≡ old)
    → Ran contexts seen client old new held (held_with mid new_view) table table a bytes reply
ran_saved {contexts = contexts} {between = between} {new = new} {held = held} {mid = mid} {client = client} {table = table} {a = a} {bytes = bytes} {reply = reply} seen new_view p alone all saved own asks last_is still =
    let handle = first_handle a in
    let both = and_parts (a.shape.row.code == CC_CONTEXT_SAVE) (is_session_handle handle) alone in
    let tells = tells_by _ client table mid.sessions.items a bytes reply p.admitted alone saved.given.success.code in
    let device_is : device_handle table mid.objects.items handle ≡ handle = same_else (octet_of handle == HT_TRANSIENT) _ handle (session_apart handle both.1) in
    let items_are = saved_after new_view reply p alone saved.given in
    let command_is = sym (save_sent contexts (tables_seen contexts client table mid.sessions.items) bytes a handle p.admitted both.0 p.sort all) ∙ ap (sent_for bytes a) (sym device_is) in
    record {
      sort = p.sort;
      before = between;
      own_before = own;
      unmoved = still;
      placed = p.ready.placed;
      mid = mid.sessions.items;
      loaded = p.ready.sessions.loaded;
      owners = p.prepares.session_owners;
      sent_is = record {
        once = asks.once;
        one = asks.one ∙ ap (λ (bytes : List ℕ). record { command = bytes; response = last_of (seen new) } ∷ (seen between).trace) command_is;
        asked_is = asks.asked ∙ command_is;
        failed = λ none. absurd (let some = sym last_is ∙ none in cc);
      };
      answer = reply;
      last_is = last_is;
      reply_is = client_plain table a reply tells.object;
      item = 0;
      table_is = table_plain table 0 a reply tells.object;
      object_is = λ told. absurd (true≢false (sym told ∙ tells.object));
      spare = λ needs. spare_else reply p needs;
      place = λ starts few. place_free p starts few;
      taken = subst
          (λ (command : List ℕ).
          takes contexts (loads_kept mid.objects.items command) (number_taken (record held.sessions { items = mid.sessions.items }) reply) command reply ≡ true)
          (sym asks.asked)
          (save_taken (loads_kept mid.objects.items (context_save_command handle)) (number_taken (record held.sessions { items = mid.sessions.items }) reply)
          handle reply saved.given.success saved.given.frame);
      sessions_are = items_are;
      left = saved.given.left_is ∙ p.prepares.left;
      nobodys = omega (arith, p.ready.nobodys, ap (count_by sessions.is_orphan) items_are, none_after client a reply mid.sessions.items (omega (arith, p.ready.nobodys)));
      used = λ calm. record {
        ready = mid;
        named = p.used calm;
        objects = sym (order_plain (tells_object a reply) 0 mid.objects.order tells.object);
        sessions = order_saved new_view reply p alone saved.given;
      };
    }

saves_by : (saves : Bool) (number : ℕ) → saves ≡ true → (if saves then Some number else None) ≡ Some number
saves_by true number is = refl
saves_by false number is = absurd (let no = is in cc)

-- it starts no session
saves_loaded : (items new_items : List (Option sessions.Item)) (a : Admitted) (reply : List ℕ) → saves_one a ≡ true
    → new_items ≡ sessions_saved (first_handle a) (drop HEADER_BYTES reply) items → KeepsLoaded (places_of a) (saved_number a) items new_items
saves_loaded items new_items a reply alone are =
    let n = number_of_session (first_handle a) in
    let save = (and_parts (a.shape.row.code == CC_CONTEXT_SAVE) (is_session_handle (first_handle a)) alone).0 in
    let starts : starts_session a ≡ false = another_code a.shape.row.code CC_CONTEXT_SAVE CC_START_AUTH_SESSION save refl in
    subst (λ (saves : Option ℕ). KeepsLoaded (places_of a) saves items new_items) (sym (saves_by (saves_one a) n alone))
    (loaded_saved (places_of a) items new_items n (drop HEADER_BYTES reply) (ap {B = ℕ} (λ (test : Bool). if test then 1 else 0) starts) are)

pub outcome_saved : {contexts : ContextLimits} {D : Type 0} {seen : D → Seen} {old between new : D} {held mid : Held}
    {client : ℕ} {table : List (Option ℕ)} {a : Admitted} {bytes command reply : List ℕ} (new_view : SessionsView)
    → Prepared contexts seen old between held mid client table a bytes command → saves_one a ≡ true → AreBytes bytes
    → SavedOne contexts seen between new mid new_view (first_handle a) reply
    → SentBefore contexts seen (orphan_count held) old between → (IsAtHand contexts held table a bytes → between ≡ old)
    → Asks {A = Unit {0}} contexts seen between new (context_save_command (first_handle a)) (Ok tt) → last_of (seen new) ≡ Some reply
    → Outcome contexts seen old new client held (held_with mid new_view) table table a bytes reply
outcome_saved {contexts = contexts} {seen = seen} {between = between} {new = new} {held = held} {mid = mid} {client = client} {table = table} {a = a} {bytes = bytes} {reply = reply} new_view p alone all saved own still asks last_is =
    let handle = first_handle a in
    let done : Done (seen between).state (seen new).state mid (held_with mid new_view) client table table a bytes reply =
    done_saved (seen between).state (seen new).state mid new_view client table a bytes reply p.may alone saved.over saved.given in
    record {
      serves = record {
        moves = ran_moves new mid.objects.items new_view table mid.objects.order reply reply p saved.keeps.base_is saved.keeps.count
            (saved_after new_view reply p alone saved.given) saved.given.numbers saved.given.made_for saved.given.left_is done
            (λ index owner names own mine. (names, own)) (λ index owner own mine. own) p.here refl;
        right = inr (taken_right contexts false false (context_save_command handle) (asked_of (seen new)) reply (last_of (seen new))
            (save_taken false false handle reply saved.given.success saved.given.frame) asks.asked last_is);
        stays = tt;
        costs = omega (arith, p.costs, asks.once);
        cause = tt;
        fails = tt;
      };
      carries = record {
        did = inr (inr (ran_saved seen new_view p alone all saved own asks last_is still));
        steps = ran_steps new (held_with mid new_view) table reply p done;
        whole = saved.given.frame;
        stays = λ narrow.
            stays_over held mid (held_with mid new_view) (places_of a) (saved_number a) (p.stays narrow) (residents_same mid.objects.items) refl
            saved.given.numbers (saves_loaded mid.sessions.items new_view.items a reply alone saved.given.items_are);
      };
    }
