-- FlushContext of a client's session, after orphans were flushed. And what a client may flush over its table and the sessions
-- in the broker is what it may flush over what it has.
use Rattle.std.proofs.Common.{◌≡◌, ◌+◌, ℕ, Bool, true, false, List, [], set, map, refl, ap, sym, ◌∙◌, subst, arith}
use Rattle.std.specs.Prelude.{◌==◌, ◌&&◌, Option, Some, None, is_some, Result, Ok, Err, if◌then◌else◌}
use Rattle.std.proofs.lemmas.Bool.{eq-eqb}
use Rattle.std.proofs.lemmas.List.{map-set}
use Rattle.tab_spec.specs.declared.TheConstants.{CC_CONTEXT_SAVE, CC_FLUSH_CONTEXT, CC_START_AUTH_SESSION, HT_TRANSIENT, RC_1, RC_HANDLE, RC_P, RC_SUCCESS, RC_VALUE, ST_NO_SESSIONS}
use Rattle.tab_spec.specs.declared.Admitted.{Admitted}
use Rattle.tab_spec.specs.declared.numbers.Numbers.{Numbers}
use Rattle.tab_spec.specs.Admission.{Tables, client_admitted, is_session_handle}
use Rattle.tab_spec.specs.Frame.{code_of, is_frame}
use Rattle.tab_spec.specs.Object.{Object}
use Rattle.tab_spec.specs.Reply.{error_reply, response}
use Rattle.tab_spec.specs.Shape.{number_of_session, octet_of}
use Rattle.tab_spec.specs.declared.contexts.ContextLimits.{ContextLimits}
use Rattle.device_spec.specs.Slots.{SlotState}
use Rattle.device_port.specs.Device.{Seen}
use Rattle.device_laws.proofs.Frames.{error_is_frame, response_is_frame}
use Rattle.client_laws.specs.Ready.{tells_session}
use Rattle.client_laws.proofs.Steps.{step_flushed}
use Rattle.object_swap.specs.Items as objects
use Rattle.object_swap.specs.Items.{ObjectsStand}
use Rattle.device_port.specs.Use.{without_one}
use Rattle.session_swap.specs.Items.{Item, KeepsRest, ListsThose, Names, SessionsView, is_left, is_orphan, is_owned, is_owner, item_at, item_session, owner_in, sessions_of, with_handle, without_session}
use Rattle.history_spec.specs.declared.Pick.{Pick}
use Rattle.history_spec.specs.declared.Pick.TheVariants.{Nothing}
use Rattle.history_spec.specs.Table.{held_under, without_handle}
use Rattle.world_spec.specs.World.{ClientState, ClientStep, choosing_nothing, client_step, flush_fault, flush_step, flushed_step, has_object, owns_session, refused_step, without_named}
use Rattle.history_laws.proofs.Tables as tables
use Rattle.history_laws.proofs.Tables.{held_all}
use Rattle.client_machine.specs.declared.held.Held.{Held}
use Rattle.client_machine.specs.Moves.{CountsOn, Flushed, FlushesNamed, IsFlushSent, IsUnflushed, LeavesState, MayFlush, StepsAs, client_state, flush_of, flush_reply, pick_of, reply_unless}
use Rattle.client_machine.specs.Settled.{AreBelow, IsSettled, Sequences, Settled, orphan_count, sessions_in}
use Rattle.client_machine.specs.Tables.{IsTable, IsTablePlace, OwnedHandle, flush_fault_of, flush_sent_unless, objects_in, owned_handle, owned_handles, place_object, sessions_unless, sessions_without, table_unless, tables_had, tables_seen}
use Rattle.client_machine.proofs.Flushing.{other_chosen, state_is}
use Rattle.client_machine.proofs.Leaving.{owned_held, owned_unleft, unleft}
use Rattle.client_machine.proofs.Orphans.{sessions_told, sessions_without_one}
use Rattle.client_machine.proofs.Ran.{below_on}
use Rattle.client_machine.proofs.Running.{picks_none}
use Rattle.client_machine.proofs.Seeing.{place_there, admitted_seen, session_had}
use Rattle.client_machine.proofs.Settling.{persist_over_sessions, rest_over_sessions, settled_at, table_over_sessions}
use Rattle.client_machine.proofs.Keeping.{IsProfile, profile_at}

-- ---- what a client may flush

session_by : (transient session there own : Bool) (a b c : ℕ)
    → (if transient then (if there then None else Some a) else if session then (if own then None else Some b) else Some c) ≡ None
    → transient ≡ false → own ≡ true
session_by true session there own a b c none is = absurd cc
session_by false true there true a b c none is = refl
session_by false true there false a b c none is = absurd cc
session_by false false there own a b c none is = absurd cc

pub may_flush_session : (client handle : ℕ) (table : List (Option ℕ)) (items : List (Option Item))
    → flush_fault_of (tables_had client table items) handle ≡ None → (octet_of handle == HT_TRANSIENT) ≡ false
    → is_owner client (owner_in items handle) ≡ true
may_flush_session client handle table items none is =
    session_by (octet_of handle == HT_TRANSIENT) (is_session_handle handle) (is_some (held_under table handle))
    (is_owner client (owner_in items handle)) _ _ _ none is

owned_by : (client handle : ℕ) (item : Item) (test : Bool) → is_owned client (if test then Some item else None) ≡ true
    → is_owned client (Some item) ≡ true
owned_by client handle item true own = own
owned_by client handle item false own = absurd cc

owned_at : (client handle : ℕ) (item : Option Item) → is_owned client (with_handle handle item) ≡ true → is_owned client item ≡ true
owned_at client handle None own = own
owned_at client handle (Some item) own = owned_by client handle item (item.handle == handle) own

-- a client's session is no orphan
pub owned_stays : (client handle : ℕ) (items : List (Option Item)) → is_owner client (owner_in items handle) ≡ true
    → is_orphan (item_at items (number_of_session handle)) ≡ false
owned_stays client handle items own =
    let item = item_at items (number_of_session handle) in owned_held client item (owned_at client handle item own)

pub owner_again : (client handle : ℕ) (items between : List (Option Item)) → is_owner client (owner_in items handle) ≡ true
    → item_at between (number_of_session handle) ≡ item_at items (number_of_session handle) → is_owner client (owner_in between handle) ≡ true
owner_again client handle items between own same = ap (λ (i : Option Item). is_owned client (with_handle handle i)) same ∙ own

-- and wasn't left, so the list of those that were is the same without it
pub owner_unleft : (client handle : ℕ) (items : List (Option Item)) (left : List ℕ) → ListsThose is_left left items
    → is_owner client (owner_in items handle) ≡ true → without_one (number_of_session handle) left ≡ left
owner_unleft client handle items left listed own =
    let n = number_of_session handle in
    unleft items left n listed (owned_unleft client (item_at items n) (owned_at client handle (item_at items n) own))

there_by : (client : ℕ) (item : Option Item) → is_owned client item ≡ true → is_some item ≡ true
there_by client None own = absurd cc
there_by client (Some item) own = refl

pub owner_named : (client handle : ℕ) (items : List (Option Item)) → is_owner client (owner_in items handle) ≡ true → Names items handle
owner_named client handle items own = there_by client (with_handle handle (item_at items (number_of_session handle))) own

-- ---- the session goes

pub session_leaves : {D : Type 0} (seen : D → Seen) (old new : D)
    (held : Held) (new_view : SessionsView) (table : List (Option ℕ)) (handle : ℕ)
    → sessions_of (seen new).state new_view.items ≡ without_session (number_of_session handle) (sessions_of (seen old).state held.sessions.items)
    → new_view.numbers ≡ held.sessions.numbers → new_view.items ≡ set held.sessions.items (number_of_session handle) None
    → new_view.left ≡ held.sessions.left → KeepsRest seen old new
    → (octet_of handle == HT_TRANSIENT) ≡ false
    → LeavesState (λ client_state. without_named client_state handle) (seen old).state (seen new).state held
    (record { objects = held.objects; sessions = new_view }) table table
session_leaves seen old new held new_view table handle same numbers are left keeps plain =
    λ slots after least is_old is_new.
    let now = client_state slots held table least in
    let n = number_of_session handle in
    let items = held.sessions.items in
    state_is new_view.numbers.active held.sessions.numbers.active after.persist slots.persist (objects_in after held.objects.items table)
    (objects_in slots held.objects.items table)
    (sessions_in after new_view.items) (set (sessions_in slots items) n None) new_view.left held.sessions.left least (ap (λ (n : Numbers). n.active) numbers)
    (persist_over_sessions (seen old).state (seen new).state keeps.rest slots after is_old is_new)
    (table_over_sessions slots after held.objects.items table
    (rest_over_sessions (seen old).state (seen new).state slots after keeps.rest is_old is_new))
    (ap (λ (l : List (Option Item)). sessions_in after l) are
    ∙ sessions_without_one slots after items n
    (ap (λ (l : List (Option Item)). map (λ item. item_session after item) l) (sym are)
    ∙ sessions_told (seen old).state (seen new).state items new_view.items n slots after same is_old is_new))
    left
    ∙ sym (other_chosen (octet_of handle == HT_TRANSIENT) (record now { objects = without_handle now.objects handle })
    (record now { sessions = set now.sessions n None }) plain)

pub session_owners : (items between new_items : List (Option Item)) (handle : ℕ) → owned_handles between ≡ owned_handles items
    → new_items ≡ set between (number_of_session handle) None → (octet_of handle == HT_TRANSIENT) ≡ false
    → owned_handles new_items ≡ owned_handles (sessions_without items handle)
session_owners items between new_items handle same are plain =
    let n = number_of_session handle in
    ap owned_handles are ∙ map-set owned_handle between n None ∙ ap (λ (l : List (Option OwnedHandle)). set l n None) same
    ∙ sym (map-set owned_handle items n None)
    ∙ sym (ap owned_handles (other_chosen (octet_of handle == HT_TRANSIENT) items (set items n None) plain))

-- ---- FlushContext over what the client has

abbrev fault_by : Bool → Bool → Bool → Bool → Option ℕ
fault_by transient session there own =
    if transient then (if there then None else Some (RC_HANDLE + RC_P + RC_1))
    else if session then (if own then None else Some (RC_HANDLE + RC_P + RC_1))
    else Some (RC_VALUE + RC_P + RC_1)

object_seen : {others : List ℕ} (slots : SlotState) (items : List objects.Item) (client : ℕ) (table : List (Option ℕ)) (handle : ℕ)
    → ObjectsStand slots items others → IsTable items client table
    → is_some (held_under (objects_in slots items table) handle) ≡ is_some (held_under table handle)
object_seen slots items client table handle stand is =
    ap (λ (o : Option Object). is_some o) (tables.held (λ (place : Option ℕ). place_object slots items place) table handle refl)
    ∙ place_there slots items client stand (held_under table handle)
    (held_all (λ (place : Option ℕ). IsTablePlace client items place) table handle is.named tt)

fault_seen : (slots : SlotState) (held : Held) (client : ℕ) (table : List (Option ℕ)) (least : Sequences) (handle : ℕ) → IsSettled slots held
    → IsTable held.objects.items client table
    → (let state = client_state slots held table least in flush_fault (has_object state) (owns_session client state) handle)
    ≡ flush_fault_of (tables_had client table held.sessions.items) handle
fault_seen slots held client table least handle settled is =
    let transient = octet_of handle == HT_TRANSIENT in
    let session = is_session_handle handle in
    let there = is_some (held_under table handle) in
    let own = owns_session client (client_state slots held table least) handle in
    ap (λ (b : Bool). fault_by transient session b own) (object_seen slots held.objects.items client table handle settled.objects is)
    ∙ ap (λ (b : Bool). fault_by transient session there b) (sym (session_had slots held.sessions [] client handle settled.sessions))

step_is : (state other : ClientState) (reply others : List ℕ) → other ≡ state → others ≡ reply
    → ◌≡◌ {A = Option ClientStep} (Some (state, reply)) (Some (other, others))
step_is state other reply others s r =
    let step : Option ClientStep = Some (state, reply) in
    ap (λ (x : ClientState). let step : Option ClientStep = Some (x, reply) in step) (sym s)
    ∙ ap (λ (x : List ℕ). let step : Option ClientStep = Some (other, x) in step) (sym r)

-- it names an object or a session of the client's, which goes
pub flushes : (old new : Option SlotState) (held new_held : Held) (client : ℕ) (table new_table : List (Option ℕ)) (handle : ℕ)
    (named : Result ℕ ℕ) (reply : List ℕ) → named ≡ Ok handle → MayFlush client handle held table
    → LeavesState (λ client_state. without_named client_state handle) old new held new_held table new_table → CountsOn old new → Settled old held
    → reply ≡ response ST_NO_SESSIONS RC_SUCCESS []
    → StepsAs (λ client_state. Some (flush_step client client_state named)) old new held new_held table new_table reply
flushes old new held new_held client table new_table handle named reply is may leaves counts settled reply_is = λ slots after least is_old is_new below.
    let now = client_state slots held table least in (
      least,
      below_on old new slots after least counts is_old is_new below,
      ap (λ (n : Result ℕ ℕ). Some (flush_step client now n)) is
          ∙ ap (λ (f : Option ℕ). Some (flushed_step now handle f))
          (fault_seen slots held client table least handle (settled_at old slots held settled is_old) may.own_table ∙ may.there)
          ∙ step_is (without_named now handle) (client_state after new_held new_table least) (response ST_NO_SESSIONS RC_SUCCESS []) reply
          (leaves slots after least is_old is_new) reply_is,
    )

unflushed_by : (slots : SlotState) (held : Held) (client : ℕ) (table : List (Option ℕ)) (least : Sequences) (named : Result ℕ ℕ) (code : ℕ)
    → IsSettled slots held → IsTable held.objects.items client table
    → IsUnflushed (tables_had client table held.sessions.items) named code
    → flush_step client (client_state slots held table least) named ≡ refused_step (client_state slots held table least) code
unflushed_by slots held client table least (Err other) code settled is unflushed =
    ap (λ (n : ℕ). refused_step (client_state slots held table least) n) unflushed
unflushed_by slots held client table least (Ok handle) code settled is unflushed =
    ap (λ (f : Option ℕ). flushed_step (client_state slots held table least) handle f)
    (fault_seen slots held client table least handle settled is ∙ unflushed)

-- it is refused
pub unflushed : (state : Option SlotState) (held : Held) (client : ℕ) (table : List (Option ℕ)) (named : Result ℕ ℕ) (code : ℕ)
    (reply : List ℕ) → IsUnflushed (tables_had client table held.sessions.items) named code → Settled state held
    → IsTable held.objects.items client table → reply ≡ error_reply code
    → StepsAs (λ client_state. Some (flush_step client client_state named)) state state held held table table reply
unflushed state held client table named code reply refused settled is reply_is = λ slots new least is_old is_new below.
    let same : new ≡ slots = cc in
    let now = client_state slots held table least in (
      least,
      subst (AreBelow least) (sym same) below,
      ap (λ (s : ClientStep). Some s) (unflushed_by slots held client table least named code (settled_at state slots held settled is_old) is refused)
          ∙ step_is now (client_state new held table least) (error_reply code) reply (ap (λ (s : SlotState). client_state s held table least) same) reply_is,
    )

-- ---- FlushContext as a client's command

no_pick : (a : Admitted) (reply : List ℕ) → a.shape.row.code ≡ CC_FLUSH_CONTEXT → pick_of a reply ≡ Nothing
no_pick a reply code =
    let none : tells_session a reply ≡ false = ap (λ (c : ℕ). (c == CC_START_AUTH_SESSION) && (code_of reply == RC_SUCCESS)) code in
    picks_none a reply (ap (λ (c : ℕ). c == CC_CONTEXT_SAVE) code) none

pub flush_steps : (contexts : ContextLimits) (old new : Option SlotState) (held new_held : Held) (client : ℕ) (table new_table : List (Option ℕ)) (a : Admitted)
    (bytes reply : List ℕ) → Settled old held → IsTable held.objects.items client table
    → client_admitted (tables_seen contexts client table held.sessions.items) bytes ≡ Ok a → a.shape.row.code ≡ CC_FLUSH_CONTEXT → IsProfile contexts old
    → StepsAs (λ client_state. Some (flush_step client client_state (flush_of a bytes))) old new held new_held table new_table reply
    → StepsAs (λ client_state. client_step client client_state bytes (pick_of a reply)) old new held new_held table new_table reply
flush_steps contexts old new held new_held client table new_table a bytes reply settled is e code profile steps =
    λ slots after least was now below.
    let before = client_state slots held table least in
    let here = settled_at old slots held settled was in
    let steps = steps slots after least was now below in (
      steps.0,
      steps.1,
      step_flushed client before bytes (pick_of a reply) a
          (sym (admitted_seen slots client table held least bytes here.objects here.sessions is)
          ∙ subst (λ (c : ContextLimits). client_admitted (tables_seen c client table held.sessions.items) bytes ≡ Ok a) (profile_at contexts old slots profile was) e)
          (eq-eqb a.shape.row.code CC_FLUSH_CONTEXT code)
          ∙ ap (λ (p : Pick). choosing_nothing (flush_step client before (flush_of a bytes)) p) (no_pick a reply code)
          ∙ steps.2,
    )

unless_is_frame : (refusal : Option ℕ) → is_frame (reply_unless refusal) ≡ true
unless_is_frame None = response_is_frame ST_NO_SESSIONS RC_SUCCESS [] (omega arith)
unless_is_frame (Some code) = error_is_frame code

flush_is_frame : (tables : Tables) (named : Result ℕ ℕ) → is_frame (flush_reply tables named) ≡ true
flush_is_frame tables (Err code) = error_is_frame code
flush_is_frame tables (Ok handle) = unless_is_frame (flush_fault_of tables handle)

pub flushed_frame : (tables : Tables) (named : Result ℕ ℕ) (reply : List ℕ) → reply ≡ flush_reply tables named → is_frame reply ≡ true
flushed_frame tables named reply is = ap (λ (reply : List ℕ). is_frame reply) is ∙ flush_is_frame tables named

-- ---- what FlushContext of a client does

-- what it names goes
pub flushed_so : {contexts : ContextLimits} {D : Type 0} (seen : D → Seen) (client handle : ℕ) (old new : D) (held new_held : Held) (table new_table : List (Option ℕ))
    (named : Result ℕ ℕ) (reply : List ℕ) → named ≡ Ok handle → MayFlush client handle held table
    → FlushesNamed contexts seen handle old new held new_held table new_table → reply ≡ response ST_NO_SESSIONS RC_SUCCESS []
    → Flushed contexts seen (tables_had client table held.sessions.items) old new held new_held table new_table named reply
flushed_so {contexts = contexts} seen client handle old new held new_held table new_table named reply is may done reply_is =
    let tables = tables_had client table held.sessions.items in
    let none = sym may.there in
    subst (λ (n : Result ℕ ℕ). Flushed contexts seen tables old new held new_held table new_table n reply) (sym is) (record {
      reply_is = reply_is ∙ ap reply_unless none;
      sent_is = subst (λ (f : Option ℕ). IsFlushSent contexts seen (orphan_count held) (flush_sent_unless table held.objects.items handle f) old new) none done.sent_is;
      nobodys = λ some. done.nobodys (ap (λ (f : Option ℕ). is_some (flush_sent_unless table held.objects.items handle f)) none ∙ some);
      table_is = done.table_is ∙ ap (table_unless table handle) none;
      owners = done.owners ∙ ap (λ (f : Option ℕ). owned_handles (sessions_unless held.sessions.items handle f)) none;
      left = done.left;
    })

-- it is refused
pub refused_so : {contexts : ContextLimits} {D : Type 0} (seen : D → Seen) (tables : Tables) (device : D) (held : Held) (table : List (Option ℕ)) (named : Result ℕ ℕ) (code : ℕ) (reply : List ℕ)
    → IsUnflushed tables named code → reply ≡ error_reply code → Flushed contexts seen tables device device held held table table named reply
refused_so seen tables device held table (Err other) code reply refused reply_is = record {
  reply_is = reply_is ∙ ap error_reply (sym refused);
  sent_is = refl;
  nobodys = λ some. absurd (cc some);
  table_is = refl;
  owners = refl;
  left = refl;
}
refused_so {contexts = contexts} seen tables device held table (Ok handle) code reply refused reply_is =
    let fault = sym refused in
    record {
      reply_is = reply_is ∙ ap reply_unless fault;
      sent_is = subst (λ (f : Option ℕ). IsFlushSent contexts seen (orphan_count held) (flush_sent_unless table held.objects.items handle f) device device) fault refl;
      nobodys = λ some.
          let none : false ≡ true = ap (λ (f : Option ℕ). is_some (flush_sent_unless table held.objects.items handle f)) fault ∙ some in absurd cc;
      table_is = ap (table_unless table handle) fault;
      owners = ap (λ (f : Option ℕ). owned_handles (sessions_unless held.sessions.items handle f)) fault;
      left = refl;
    }
