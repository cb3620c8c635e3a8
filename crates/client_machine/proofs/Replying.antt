-- What the broker answers by itself, over what a client has, is what the plain machine does.
use Rattle.std.proofs.Common.{◌≡◌, ◌⊎◌, inl, inr, ◌+◌, ◌<◌, ◌≤◌, ℕ, zero, suc, Bool, true, false, List, [], ◌∷◌, length, drop, take, get_or, set, refl, ap, sym, ◌∙◌, subst, drop-drop, length-drop, arith}
use Rattle.std.specs.Prelude.{◌==◌, ◌&&◌, ◌||◌, not, nat_lt, bytes_eq, Option, Some, None, is_some, IfSome, Result, Ok, Err, OnOk, if◌then◌else◌}
use Rattle.std.specs.Int.{w32, from_be_bytes, to_be_bytes}
use Rattle.std.specs.List.{count_by}
use Rattle.std.proofs.lemmas.Bool.{cond_both, eqb-true, ltb-true}
use Rattle.std.proofs.lemmas.List.{map-set}
use Rattle.tab_spec.specs.declared.TheConstants.{CC_CONTEXT_LOAD, CC_CONTEXT_SAVE, CC_FLUSH_CONTEXT, CC_GET_CAPABILITY, RC_1, RC_HANDLE, RC_P, RC_SIZE, RC_SUCCESS, RC_VALUE, ST_NO_SESSIONS, TRANSIENT_FIRST}
use Rattle.tab_spec.specs.declared.Admitted.{Admitted}
use Rattle.tab_spec.specs.Admission.{Tables, client_admitted, is_session_handle}
use Rattle.tab_spec.specs.Frame.{code_of, is_frame}
use Rattle.tab_spec.specs.Parameters.{in_parameter, when_read}
use Rattle.tab_spec.specs.Persist.{Persist}
use Rattle.tab_spec.specs.Reply.{error_reply, response}
use Rattle.tab_spec.specs.Session.{Session}
use Rattle.tab_spec.specs.Shape.{loads_object, number_of_session, octet_of}
use Rattle.tab_spec.specs.Values.{Reading, require}
use Rattle.tab_spec.specs.declared.contexts.ContextLimits.{ContextLimits}
use Rattle.tab_spec.specs.declared.contexts.TheConstants.{PROFILE_CONTEXTS}
use Rattle.device_port.specs.Device.{Seen}
use Rattle.device_port.specs.declared.own.SwapError.{SwapError}
use Rattle.tab_laws.proofs.Handled.{client_is}
use Rattle.tab_laws.proofs.ReadBack.{Gives}
use Rattle.effect_spec.specs.Contexts.{Context, blob_fits, context_of, context_parameter, opened_object}
use Rattle.device_laws.proofs.ContextSteps.{load_row}
use Rattle.device_laws.proofs.Moves.{HasHandle, handle_read}
use Rattle.device_spec.specs.Slots.{SlotState}
use Rattle.client_laws.specs.Ready.{is_sent, starts_session, tells_session}
use Rattle.client_laws.proofs.Commands.{clients_command, row_as}
use Rattle.client_laws.proofs.NoAuths.{bare}
use Rattle.client_laws.proofs.Steps.{step_listed, step_loaded, step_saved}
use Rattle.session_swap.specs.Items as sessions
use Rattle.device_port.specs.Use.{without_one}
use Rattle.session_swap.specs.Items.{Item, ItemStands, SessionsStand, SessionsView, is_handed_to, is_loaded_item, is_orphan, is_owner, item_at, item_of, item_session, owner_by, taken_back, with_handle}
use Rattle.session_swap.proofs.Counts.{count_cons}
use Rattle.session_swap.proofs.Moved.{some_of}
use Rattle.history_laws.proofs.Tables.{get_or_mapped}
use Rattle.history_spec.specs.Entry.{without}
use Rattle.history_spec.specs.declared.Pick.{Pick}
use Rattle.history_spec.specs.declared.Pick.TheVariants as picks
use Rattle.world_spec.specs.World as world
use Rattle.world_spec.specs.World.{ClientState, ClientStep, Owned, capability_step, choosing_nothing, client_capability, client_step, is_of, load_parameters, load_step, loadable_by, loadable_under, own_place, refused_step, save_parameters, save_step, session_taken, tables_of}
use Rattle.client_machine.specs.declared.held.Held.{Held}
use Rattle.client_machine.specs.Moves.{CarriesOut, Moves, Serves, StepsAs, client_state, other_than, pick_of, tells_context, told_handle, told_sequence}
use Rattle.client_machine.specs.Replies.{given_back, handle_told, nothing_told, own_answer, own_capability, reply_of, sessions_given, view_given, with_given, without_given}
use Rattle.client_machine.specs.Settled.{AreBelow, IsSettled, Sequences, Settled, owned_by_client, owned_in, sessions_in}
use Rattle.client_machine.specs.Tables.{AreOpenOwners, IsOpenOwner, IsTable, is_open, tables_seen}
use Rattle.client_machine.proofs.Keeping.{objects_same, owners_same, IsProfile, profile_at}
use Rattle.client_machine.proofs.Leaving.{shorter}
use Rattle.client_machine.proofs.Listed.{capability_had}
use Rattle.client_machine.proofs.Orphans.{keeps_same}
use Rattle.client_machine.proofs.Ran.{each_set}
use Rattle.client_machine.proofs.Running.{pick_none, picks_none}
use Rattle.client_machine.proofs.Saving.{held_with}
use Rattle.client_machine.proofs.Seeing.{other_by, same_handle, admitted_seen}
use Rattle.client_machine.proofs.Staying.{set_at}
use Rattle.client_machine.proofs.Settling.{settled_at}
use Rattle.client_machine.proofs.Telling.{load_kept, nothing_read, own_save, save_refused, something_follows, unsent_loads, unsent_starts}

-- ---- which command it is

which_unsent : (flush save load list : Bool) (empty object own : Bool)
    → (if flush then false else if save then empty else if load then object else if list then own else true) ≡ false → flush ≡ false
    → (save ≡ true) ⊎ ((load ≡ true) ⊎ (list ≡ true))
which_unsent true save load list empty object own unsent other = absurd cc
which_unsent false true load list empty object own unsent other = inl refl
which_unsent false false true list empty object own unsent other = inr (inl refl)
which_unsent false false false true empty object own unsent other = inr (inr refl)
which_unsent false false false false empty object own unsent other = absurd cc

-- ---- a session that its client takes back

abbrev not_there : ℕ
not_there = RC_HANDLE + RC_P + RC_1

none_by : (own same : Bool) (place : Owned) → own ≡ false → (if own && same then Some place else None) ≡ None
none_by true same place is = absurd cc
none_by false same place is = refl

both_by : (own same : Bool) (place : Owned) → own ≡ true → same ≡ true → (if own && same then Some place else None) ≡ Some place
both_by own same place is also = rw (is, also) refl

same_handed : (bytes : List ℕ) (handed : Option (List ℕ)) → world.is_handed bytes handed ≡ sessions.equals_handed bytes handed
same_handed bytes None = refl
same_handed bytes (Some context) = refl

-- the list of those that are left is the same in the world
without_same : (n : ℕ) (left : List ℕ) → without n left ≡ without_one n left
without_same n [] = refl
without_same n (one ∷ left) = ap (λ (rest : List ℕ). if one == n then left else one ∷ rest) (without_same n left)

-- a session that isn't the client's own saved one, and wasn't left
record IsOther (given : Bool) (taken : ClientState → ClientStep) : Type 0 where
  isnt : given ≡ false
  refused : (state : ClientState) → taken state ≡ refused_step state not_there

-- what a client's step leaves that takes this session
abbrev back_step : ℕ → ℕ → Session → ClientState → ClientStep
back_step client handle s state = (
  record state {
    sessions = set state.sessions (number_of_session handle) (own_place client handle s);
    left = without (number_of_session handle) state.left;
  },
  response ST_NO_SESSIONS RC_SUCCESS (to_be_bytes w32 handle),
)

-- and one that is
record IsBack (given : Bool) (taken : ClientState → ClientStep) (client handle : ℕ) (s : Session) : Type 0 where
  is : given ≡ true
  done : (state : ClientState) → taken state ≡ back_step client handle s state

abbrev taken_by : ℕ → ℕ → List ℕ → Option Owned → ClientState → ClientStep
taken_by client handle bytes place state = session_taken client state handle bytes (loadable_by client (octet_of handle) place)

-- by whether it may be taken, and whether these bytes were handed out
back_by : (client handle : ℕ) (bytes : List ℕ) (place : Owned) (given may fits : Bool) → given ≡ (may && fits)
    → (is_of client place.client || not (is_some place.client)) ≡ may → sessions.equals_handed bytes place.handed ≡ fits
    → (place.octet == octet_of handle) ≡ true
    → IsOther given (taken_by client handle bytes (Some place)) ⊎ IsBack given (taken_by client handle bytes (Some place)) client handle place.session
back_by client handle bytes place given false fits is own handed octets = inl (record {
  isnt = is;
  refused = λ state.
      ap (session_taken client state handle bytes)
      (none_by (is_of client place.client || not (is_some place.client)) (place.octet == octet_of handle) place own);
})
back_by client handle bytes place given true false is own handed octets = inl (record {
  isnt = is;
  refused = λ state.
      ap (session_taken client state handle bytes)
      (both_by (is_of client place.client || not (is_some place.client)) (place.octet == octet_of handle) place own octets)
      ∙ ap (λ (fits : Bool). if fits then back_step client handle place.session state else refused_step state not_there)
      (same_handed bytes place.handed ∙ handed);
})
back_by client handle bytes place given true true is own handed octets = inr (record {
  is = is;
  done = λ state.
      ap (session_taken client state handle bytes)
      (both_by (is_of client place.client || not (is_some place.client)) (place.octet == octet_of handle) place own octets)
      ∙ ap (λ (fits : Bool). if fits then back_step client handle place.session state else refused_step state not_there)
      (same_handed bytes place.handed ∙ handed);
})

-- whether the client may have it back, by whose it is and what was handed out for it
abbrev given_to : ℕ → List ℕ → Option ℕ → Option (List ℕ) → Bool
given_to client bytes owner handed =
    (is_owner client (owner_by (not (is_some handed)) owner) || (not (is_some owner) && is_some handed)) && sessions.equals_handed bytes handed

owner_back : (client handle own : ℕ) (bytes : List ℕ) (s : Session) (owner : Option ℕ) (handed : Option (List ℕ)) (test : Bool)
    → (octet_of own == octet_of handle) ≡ test
    → let place = owned_by_client owner own handed (Some s) in
    let given = if test then given_to client bytes owner handed else false in
    IsOther given (taken_by client handle bytes place) ⊎ IsBack given (taken_by client handle bytes place) client handle s
owner_back client handle own bytes s None None true octets = inl (record { isnt = refl; refused = λ state. refl })
owner_back client handle own bytes s None None false octets = inl (record { isnt = refl; refused = λ state. refl })
owner_back client handle own bytes s None (Some context) true octets =
    let place : Owned = record { client = None; octet = octet_of own; session = s; handed = Some context } in
    back_by client handle bytes place (bytes_eq bytes context) true (bytes_eq bytes context) refl refl refl octets
owner_back client handle own bytes s None (Some context) false octets =
    let place : Owned = record { client = None; octet = octet_of own; session = s; handed = Some context } in
    inl (record {
      isnt = refl;
      refused = λ state. ap (session_taken client state handle bytes) (other_by true (octet_of own == octet_of handle) place octets);
    })
owner_back client handle own bytes s (Some c) handed true octets =
    let place : Owned = record { client = Some c; octet = octet_of own; session = s; handed = handed } in
    back_by client handle bytes place (given_to client bytes (Some c) handed) (c == client || false) (sessions.equals_handed bytes handed) refl refl refl octets
owner_back client handle own bytes s (Some c) handed false octets =
    let place : Owned = record { client = Some c; octet = octet_of own; session = s; handed = handed } in
    inl (record {
      isnt = refl;
      refused = λ state. ap (session_taken client state handle bytes) (other_by (c == client || false) (octet_of own == octet_of handle) place octets);
    })

given_item : (client : ℕ) (bytes : List ℕ) (item : Item) (test : Bool)
    → (if test then given_to client bytes item.client item.handed else false) ≡ is_handed_to client bytes (if test then Some item else None)
given_item client bytes item true = refl
given_item client bytes item false = refl

if_so : (test given : Bool) → (if test then given else false) ≡ true → test ≡ true
if_so true given is = refl
if_so false given is = absurd cc

-- what a session of this number is for a client that gives these bytes
record IsTaken (slots : SlotState) (client handle : ℕ) (bytes : List ℕ) (found : Option Item) : Type 0 where
  session : Session
  is : is_handed_to client bytes (with_handle handle found) ≡ true
  after : owned_in slots (taken_back client found) ≡ own_place client handle session
  done : (state : ClientState) → taken_by client handle bytes (owned_in slots found) state ≡ back_step client handle session state

back_after : (slots : SlotState) (client handle : ℕ) (item : Item) (s : Session) → item.handle ≡ handle → item_session slots (Some item) ≡ Some s
    → owned_in slots (taken_back client (Some item)) ≡ own_place client handle s
back_after slots client handle item s own there = λ i. owned_by_client (Some client) (own i) None (there i)

found_back : (slots : SlotState) (client handle : ℕ) (bytes : List ℕ) (found : Option Item) → IfSome found (λ item. ItemStands slots (number_of_session handle) item)
    → IsOther (is_handed_to client bytes (with_handle handle found)) (taken_by client handle bytes (owned_in slots found)) ⊎ IsTaken slots client handle bytes found
found_back slots client handle bytes None stands = inl (record { isnt = refl; refused = λ state. refl })
found_back slots client handle bytes (Some item) stands =
    let found = some_of (item_session slots (Some item)) stands.there in
    let s = found.0 in
    let test = item.handle == handle in
    let same : owned_in slots (Some item) ≡ owned_by_client item.client item.handle item.handed (Some s) =
    ap (owned_by_client item.client item.handle item.handed) found.1 in
    let given = given_item client bytes item test in
    elim (owner_back client handle item.handle bytes s item.client item.handed test (sym (same_handle item.handle handle stands.number_is))) [
      | inl other ↦ inl (record {
        isnt = sym given ∙ other.isnt;
        refused = λ state. ap (λ (place : Option Owned). taken_by client handle bytes place state) same ∙ other.refused state;
      })
      | inr back ↦ inr (record {
        session = s;
        is = sym given ∙ back.is;
        after = back_after slots client handle item s (eqb-true item.handle handle (if_so test (given_to client bytes item.client item.handed) back.is)) found.1;
        done = λ state. ap (λ (place : Option Owned). taken_by client handle bytes place state) same ∙ back.done state;
      })
    ]

-- ---- ContextLoad

-- what the broker leaves and answers
abbrev given_step : ℕ → ClientState → SlotState → List (Option Item) → Result ℕ ℕ → ClientStep
given_step client state slots items given = (
  record state { sessions = sessions_in slots (with_given client items given); left = without_given state.left given },
  reply_of (handle_told given),
)

session_back : (slots : SlotState) (held : Held) (client : ℕ) (table : List (Option ℕ)) (least : Sequences) (bytes : List ℕ) (handle : ℕ) → IsSettled slots held
    → let items = held.sessions.items in
    let state = client_state slots held table least in
    session_taken client state handle bytes (loadable_under state.sessions client handle)
    ≡ given_step client state slots items (if is_handed_to client bytes (item_of items handle) then Ok handle else Err not_there)
session_back slots held client table least bytes handle settled =
    let items = held.sessions.items in
    let state = client_state slots held table least in
    let n = number_of_session handle in
    let found = item_at items n in
    let at : get_or state.sessions n None ≡ owned_in slots found = get_or_mapped (owned_in slots) items n refl in
    ap (λ (place : Option Owned). taken_by client handle bytes place state) at
    ∙ elim (found_back slots client handle bytes found (settled.sessions.each n)) [
      | inl other ↦
          other.refused state
          ∙ sym (ap (λ (test : Bool). given_step client state slots items (if test then Ok handle else Err not_there)) other.isnt)
      | inr back ↦
          back.done state
          ∙ (λ i. (
            record state {
              sessions = (ap (set state.sessions n) (sym back.after) ∙ sym (map-set (owned_in slots) items n (taken_back client found))) i;
              left = without_same n state.left i;
            },
            response ST_NO_SESSIONS RC_SUCCESS (to_be_bytes w32 handle),
          ))
          ∙ sym (ap (λ (test : Bool). given_step client state slots items (if test then Ok handle else Err not_there)) back.is)
    ]

handle_loaded : (slots : SlotState) (held : Held) (client : ℕ) (table : List (Option ℕ)) (least : Sequences) (bytes : List ℕ) (c : Context) (transient session : Bool)
    → IsSettled slots held → (c.saved_handle == TRANSIENT_FIRST) ≡ transient → transient ≡ false → is_session_handle c.saved_handle ≡ session
    → let state = client_state slots held table least in
    load_step client state bytes (Ok c) ≡ given_step client state slots held.sessions.items (given_back client held.sessions.items bytes (Ok c))
handle_loaded slots held client table least bytes c transient true settled is other session =
    let items = held.sessions.items in
    let state = client_state slots held table least in
    let handle = c.saved_handle in
    (λ i. if (is ∙ other) i then world.object_opened state (opened_object state.persist.seed bytes) else if session i then session_taken client state handle bytes (loadable_under state.sessions client handle)
    else refused_step state (RC_VALUE + RC_P + RC_1))
    ∙ session_back slots held client table least bytes handle settled
    ∙ sym (ap (λ (test : Bool). given_step client state slots items
    (if test then (if is_handed_to client bytes (item_of items handle) then Ok handle else Err not_there) else Err (RC_VALUE + RC_P + RC_1))) session)
handle_loaded slots held client table least bytes c transient false settled is other session =
    let items = held.sessions.items in
    let state = client_state slots held table least in
    let handle = c.saved_handle in
    (λ i. if (is ∙ other) i then world.object_opened state (opened_object state.persist.seed bytes) else if session i then session_taken client state handle bytes (loadable_under state.sessions client handle)
    else refused_step state (RC_VALUE + RC_P + RC_1))
    ∙ sym (ap (λ (test : Bool). given_step client state slots items
    (if test then (if is_handed_to client bytes (item_of items handle) then Ok handle else Err not_there) else Err (RC_VALUE + RC_P + RC_1))) session)

loaded_by : (slots : SlotState) (held : Held) (client : ℕ) (table : List (Option ℕ)) (least : Sequences) (bytes : List ℕ) (read : Result Context ℕ) → IsSettled slots held
    → ((c : Context) → read ≡ Ok c → (c.saved_handle == TRANSIENT_FIRST) ≡ false)
    → let state = client_state slots held table least in
    load_step client state bytes read ≡ given_step client state slots held.sessions.items (given_back client held.sessions.items bytes read)
loaded_by slots held client table least bytes (Err code) settled other = refl
loaded_by slots held client table least bytes (Ok c) settled other =
    handle_loaded slots held client table least bytes c (c.saved_handle == TRANSIENT_FIRST) (is_session_handle c.saved_handle) settled refl (other c refl) refl

-- ---- what isn't the context of an object

whole_holds : {X : Type 0} (P : X → Type 0) (whole : Bool) (found x : X) → P found → (if whole then Ok found else Err RC_SIZE) ≡ Ok x → P x
whole_holds P true found x holds e = let same : found ≡ x = cc in subst P same holds
whole_holds P false found x holds e = absurd cc

read_holds : {X : Type 0} (P : X → Type 0) (read : Reading X) (x : X) → Gives P read → when_read read (λ x. Ok x) ≡ Ok x → P x
read_holds P (Err fault) x gives e = absurd cc
read_holds P (Ok read) x gives e = whole_holds P (length read.1 == 0) read.0 x gives e

parameter_gives : (P : Context → Type 0) (read : Reading Context) → Gives P read → Gives P (in_parameter 1 (require blob_fits RC_SIZE read))
parameter_gives P (Err code) gives = tt
parameter_gives P (Ok read) gives =
    cond_both (blob_fits read.0) (Ok read) (Err RC_SIZE) (λ (read : Reading Context). Gives P (in_parameter 1 read)) (λ fits. gives) (λ long. tt)

other_word : (short word : Bool) → short ≡ false → (not short && word) ≡ false → word ≡ false
other_word true word is also = absurd cc
other_word false word is also = also

not_below : (n least : ℕ) (below : Bool) → nat_lt n least ≡ below → least ≤ n → below ≡ false
not_below n least true is long = absurd (let few : n < least = ltb-true n least is in omega (arith, few, long))
not_below n least false is long = refl

handle_other : (bytes params : List ℕ) (c : Context) → loads_object PROFILE_CONTEXTS bytes ≡ false → drop 10 bytes ≡ params → load_parameters params ≡ Ok c
    → (c.saved_handle == TRANSIENT_FIRST) ≡ false
handle_other bytes params c loads are e =
    let has : HasHandle params c =
    read_holds (HasHandle params) (context_parameter params) c (parameter_gives (HasHandle params) (context_of params) (handle_read params)) e in
    let behind : drop 8 params ≡ drop 18 bytes = ap (drop 8) (sym are) ∙ drop-drop 8 10 bytes in
    let long : 22 ≤ length bytes = omega (arith, has.0, ap length are, length-drop 10 bytes) in
    ap (λ (h : ℕ). h == TRANSIENT_FIRST) (has.1 ∙ ap (λ (more : List ℕ). from_be_bytes w32 (take 4 more)) behind)
    ∙ other_word (nat_lt (length bytes) 22) (from_be_bytes w32 (take 4 (drop 18 bytes)) == TRANSIENT_FIRST)
    (not_below (length bytes) 22 (nat_lt (length bytes) 22) refl long) loads

params_here : (tables : Tables) (bytes : List ℕ) (a : Admitted) → client_admitted tables bytes ≡ Ok a → (a.shape.row.code == CC_CONTEXT_LOAD) ≡ true
    → drop 10 bytes ≡ drop a.auths.params bytes
params_here tables bytes a e is =
    let row = row_as a.shape.row load_row CC_CONTEXT_LOAD (clients_command tables bytes a e).row refl is in
    ap (λ (n : ℕ). drop n bytes) (sym (bare tables bytes a load_row (client_is tables bytes a e).whole row refl).params)

-- ---- the step

-- what the plain machine leaves and answers is what is held and told
same_step : (state after : ClientState) (r reply : List ℕ) → after ≡ state → reply ≡ r
    → ◌≡◌ {A = Option ClientStep} (Some (state, r)) (Some (after, reply))
same_step state after r reply s is = λ i. let step : Option ClientStep = Some (sym s i, sym is i) in step

not_success : (save success : Bool) → success ≡ false → (save && success) ≡ false
not_success true success is = is
not_success false success is = refl

no_given : {X : Type 0} (load : Bool) (before given : X) → load ≡ false → (if load then given else before) ≡ before
no_given true before given is = absurd cc
no_given false before given is = refl

some_given : {X : Type 0} (load : Bool) (before given : X) → load ≡ true → (if load then given else before) ≡ given
some_given true before given is = refl
some_given false before given is = absurd cc

other_code : (code known other : ℕ) → (code == known) ≡ true → (known == other) ≡ false → (code == other) ≡ false
other_code code known other is apart = ap (λ (c : ℕ). c == other) (eqb-true code known is) ∙ apart

-- what is known before the broker answers by itself
pub record MayReply (slots : SlotState) (held : Held) (client : ℕ) (table : List (Option ℕ)) (a : Admitted) (bytes : List ℕ) : Type 0 where
  pub settled : IsSettled slots held
  pub is : IsTable held.objects.items client table
  pub admitted : client_admitted (tables_seen PROFILE_CONTEXTS client table held.sessions.items) bytes ≡ Ok a
  pub sort : is_sent PROFILE_CONTEXTS a bytes ≡ false
  pub other : (a.shape.row.code == CC_FLUSH_CONTEXT) ≡ false

-- and what it answers, and leaves of the sessions
pub record IsOwnReply (held : Held) (new_view : SessionsView) (client : ℕ) (table : List (Option ℕ)) (a : Admitted) (bytes reply : List ℕ) : Type 0 where
  pub reply_is : (persist : Persist) → reply ≡ reply_of (own_answer persist client table held.sessions a bytes)
  pub view_is : new_view ≡ view_given client a bytes held.sessions

admitted_there : (slots : SlotState) (held : Held) (client : ℕ) (table : List (Option ℕ)) (least : Sequences) (a : Admitted) (bytes : List ℕ)
    → MayReply slots held client table a bytes → client_admitted (tables_of client (client_state slots held table least)) bytes ≡ Ok a
admitted_there slots held client table least a bytes may =
    sym (admitted_seen slots client table held least bytes may.settled.objects may.settled.sessions may.is) ∙ may.admitted

-- what a client's state is, by the sessions, and by those that are left
abbrev state_with : SlotState → Held → List (Option ℕ) → Sequences → List (Option Item) → List ℕ → ClientState
state_with slots held table least items left = record (client_state slots held table least) { sessions = sessions_in slots items; left = left }

state_given : (slots : SlotState) (held : Held) (new_view : SessionsView) (table : List (Option ℕ)) (least : Sequences) (items : List (Option Item)) (left : List ℕ)
    → new_view.numbers ≡ held.sessions.numbers → new_view.items ≡ items → new_view.left ≡ left
    → client_state slots (held_with held new_view) table least ≡ state_with slots held table least items left
state_given slots held new_view table least items left numbers items_are left_is =
    λ i. record (client_state slots held table least) { most = (numbers i).active; sessions = sessions_in slots (items_are i); left = left_is i }

step_saves : (slots : SlotState) (held : Held) (new_view : SessionsView) (client : ℕ) (table : List (Option ℕ)) (least : Sequences) (a : Admitted) (bytes reply : List ℕ)
    → MayReply slots held client table a bytes → IsOwnReply held new_view client table a bytes reply → (a.shape.row.code == CC_CONTEXT_SAVE) ≡ true
    → client_step client (client_state slots held table least) bytes (pick_of a reply) ≡ Some (client_state slots (held_with held new_view) table least, reply)
step_saves slots held new_view client table least a bytes reply may own is =
    let state = client_state slots held table least in
    let code = a.shape.row.code in
    let items = held.sessions.items in
    let params = drop a.auths.params bytes in
    let read = nothing_read params (something_follows PROFILE_CONTEXTS a bytes may.sort is) in
    let not_load = other_code code CC_CONTEXT_SAVE CC_CONTEXT_LOAD is refl in
    let failed = save_refused PROFILE_CONTEXTS client table held.sessions a bytes reply may.sort is own.reply_is in
    let pick_is : pick_of a reply ≡ picks.Nothing =
    pick_none (tells_session a reply) (tells_context a reply) (number_of_session (told_handle reply)) (told_sequence reply)
    (not_success (starts_session a) (code_of reply == RC_SUCCESS) failed) (not_success (code == CC_CONTEXT_SAVE) (code_of reply == RC_SUCCESS) failed) in
    let items_are : new_view.items ≡ items = ap (λ (v : SessionsView). v.items) own.view_is ∙ no_given (code == CC_CONTEXT_LOAD) items _ not_load in
    let left_is : new_view.left ≡ held.sessions.left =
    ap (λ (v : SessionsView). v.left) own.view_is ∙ no_given (code == CC_CONTEXT_LOAD) held.sessions.left _ not_load in
    let answer : own_answer slots.persist client table held.sessions a bytes ≡ Err RC_SIZE =
    own_save (code == CC_CONTEXT_SAVE) (code == CC_CONTEXT_LOAD) (nothing_told (save_parameters params)) _ _ is ∙ ap nothing_told read in
    step_saved client state bytes (pick_of a reply) a (admitted_there slots held client table least a bytes may) is
    ∙ ap (λ (read : Result ℕ ℕ). save_step client state (get_or a.shape.handles 0 0) read (pick_of a reply)) read
    ∙ ap (choosing_nothing (refused_step state RC_SIZE)) pick_is
    ∙ same_step state (client_state slots (held_with held new_view) table least) (error_reply RC_SIZE) reply
    (state_given slots held new_view table least _ _ (ap (λ (v : SessionsView). v.numbers) own.view_is) items_are left_is) (own.reply_is slots.persist ∙ ap reply_of answer)

step_loads : (slots : SlotState) (held : Held) (new_view : SessionsView) (client : ℕ) (table : List (Option ℕ)) (least : Sequences) (a : Admitted) (bytes reply : List ℕ)
    → MayReply slots held client table a bytes → IsOwnReply held new_view client table a bytes reply → (a.shape.row.code == CC_CONTEXT_LOAD) ≡ true
    → client_step client (client_state slots held table least) bytes (pick_of a reply) ≡ Some (client_state slots (held_with held new_view) table least, reply)
step_loads slots held new_view client table least a bytes reply may own is =
    let state = client_state slots held table least in
    let code = a.shape.row.code in
    let items = held.sessions.items in
    let params = drop a.auths.params bytes in
    let read = load_parameters params in
    let given = given_back client items params read in
    let not_save = other_code code CC_CONTEXT_LOAD CC_CONTEXT_SAVE is refl in
    let starts_none = ap (λ (start : Bool). start && (code_of reply == RC_SUCCESS)) (unsent_starts PROFILE_CONTEXTS a bytes may.sort) in
    let pick_is : pick_of a reply ≡ picks.Nothing = picks_none a reply not_save starts_none in
    let items_are : new_view.items ≡ with_given client items given =
    ap (λ (v : SessionsView). v.items) own.view_is ∙ some_given (code == CC_CONTEXT_LOAD) items (with_given client items given) is in
    let left_is : new_view.left ≡ without_given held.sessions.left given =
    ap (λ (v : SessionsView). v.left) own.view_is ∙ some_given (code == CC_CONTEXT_LOAD) held.sessions.left (without_given held.sessions.left given) is in
    let answer : own_answer slots.persist client table held.sessions a bytes ≡ handle_told given =
    load_kept (code == CC_CONTEXT_SAVE) (code == CC_CONTEXT_LOAD) _ (handle_told given) _ not_save is in
    step_loaded client state bytes (pick_of a reply) a (admitted_there slots held client table least a bytes may) is
    ∙ ap (λ (pick : Pick). choosing_nothing (load_step client state params read) pick) pick_is
    ∙ ap (λ (step : ClientStep). Some step)
    (loaded_by slots held client table least params read may.settled
    (λ c read_is.
    handle_other bytes params c (unsent_loads PROFILE_CONTEXTS a bytes may.sort is)
    (params_here (tables_seen PROFILE_CONTEXTS client table items) bytes a may.admitted is) read_is))
    ∙ same_step (state_with slots held table least (with_given client items given) (without_given held.sessions.left given)) (client_state slots (held_with held new_view) table least) (reply_of (handle_told given)) reply
    (state_given slots held new_view table least _ _ (ap (λ (v : SessionsView). v.numbers) own.view_is) items_are left_is) (own.reply_is slots.persist ∙ ap reply_of answer)

told_by : (save load : Bool) (saved loaded told : Result (List ℕ) ℕ) → save ≡ false → load ≡ false → (if save then saved else if load then loaded else told) ≡ told
told_by save load saved loaded told is also = rw (is, also) refl

told_step : (state : ClientState) (told : Result (List ℕ) ℕ) → capability_step state told ≡ (state, reply_of told)
told_step state (Err code) = refl
told_step state (Ok params) = refl

step_lists : (slots : SlotState) (held : Held) (new_view : SessionsView) (client : ℕ) (table : List (Option ℕ)) (least : Sequences) (a : Admitted) (bytes reply : List ℕ)
    → MayReply slots held client table a bytes → IsOwnReply held new_view client table a bytes reply → (a.shape.row.code == CC_GET_CAPABILITY) ≡ true
    → client_step client (client_state slots held table least) bytes (pick_of a reply) ≡ Some (client_state slots (held_with held new_view) table least, reply)
step_lists slots held new_view client table least a bytes reply may own is =
    let state = client_state slots held table least in
    let code = a.shape.row.code in
    let items = held.sessions.items in
    let params = drop a.auths.params bytes in
    let told = own_capability slots.persist client table held.sessions params in
    let not_save = other_code code CC_GET_CAPABILITY CC_CONTEXT_SAVE is refl in
    let not_load = other_code code CC_GET_CAPABILITY CC_CONTEXT_LOAD is refl in
    let starts_none = ap (λ (start : Bool). start && (code_of reply == RC_SUCCESS)) (unsent_starts PROFILE_CONTEXTS a bytes may.sort) in
    let pick_is : pick_of a reply ≡ picks.Nothing = picks_none a reply not_save starts_none in
    let items_are : new_view.items ≡ items = ap (λ (v : SessionsView). v.items) own.view_is ∙ no_given (code == CC_CONTEXT_LOAD) items _ not_load in
    let left_is : new_view.left ≡ held.sessions.left =
    ap (λ (v : SessionsView). v.left) own.view_is ∙ no_given (code == CC_CONTEXT_LOAD) held.sessions.left _ not_load in
    let answer : own_answer slots.persist client table held.sessions a bytes ≡ told =
    told_by (code == CC_CONTEXT_SAVE) (code == CC_CONTEXT_LOAD) _ _ told not_save not_load in
    step_listed client state bytes (pick_of a reply) a (admitted_there slots held client table least a bytes may) is
    ∙ ap (λ (pick : Pick). choosing_nothing (capability_step state (client_capability client state params)) pick) pick_is
    ∙ ap (λ (step : ClientStep). Some step)
    (ap (capability_step state) (capability_had slots held client table least params may.settled may.is) ∙ told_step state told)
    ∙ same_step state (client_state slots (held_with held new_view) table least) (reply_of told) reply
    (state_given slots held new_view table least _ _ (ap (λ (v : SessionsView). v.numbers) own.view_is) items_are left_is) (own.reply_is slots.persist ∙ ap reply_of answer)

replied_step : (slots : SlotState) (held : Held) (new_view : SessionsView) (client : ℕ) (table : List (Option ℕ)) (least : Sequences) (a : Admitted) (bytes reply : List ℕ)
    → MayReply slots held client table a bytes → IsOwnReply held new_view client table a bytes reply
    → client_step client (client_state slots held table least) bytes (pick_of a reply) ≡ Some (client_state slots (held_with held new_view) table least, reply)
replied_step slots held new_view client table least a bytes reply may own =
    let code = a.shape.row.code in
    elim (which_unsent (code == CC_FLUSH_CONTEXT) (code == CC_CONTEXT_SAVE) (code == CC_CONTEXT_LOAD) (code == CC_GET_CAPABILITY) _ _ _ may.sort may.other) [
      | inl save ↦ step_saves slots held new_view client table least a bytes reply may own save
      | inr (inl load) ↦ step_loads slots held new_view client table least a bytes reply may own load
      | inr (inr list) ↦ step_lists slots held new_view client table least a bytes reply may own list
    ]

-- ---- in every state

replied_steps : (contexts : ContextLimits) (state : Option SlotState) (held : Held) (new_view : SessionsView) (client : ℕ) (table : List (Option ℕ)) (a : Admitted) (bytes reply : List ℕ)
    → Settled state held → IsTable held.objects.items client table → client_admitted (tables_seen contexts client table held.sessions.items) bytes ≡ Ok a
    → is_sent contexts a bytes ≡ false → (a.shape.row.code == CC_FLUSH_CONTEXT) ≡ false → IsProfile contexts state
    → IsOwnReply held new_view client table a bytes reply → StepsAs (λ state. client_step client state bytes (pick_of a reply)) state state held (held_with held new_view) table table reply
replied_steps contexts state held new_view client table a bytes reply settled is e sort other profile own = λ slots after least was now below.
    let here = profile_at contexts state slots profile was in
    let same : after ≡ slots = cc in
    let may : MayReply slots held client table a bytes =
    record {
      settled = settled_at state slots held settled was;
      is = is;
      admitted = subst (λ (c : ContextLimits). client_admitted (tables_seen c client table held.sessions.items) bytes ≡ Ok a) here e;
      sort = subst (λ (c : ContextLimits). is_sent c a bytes ≡ false) here sort;
      other = other;
    } in (
      least,
      subst (AreBelow least) (sym same) below,
      replied_step slots held new_view client table least a bytes reply may own
          ∙ ap (λ (after : SlotState). let step : Option ClientStep = Some (client_state after (held_with held new_view) table least, reply) in step) (sym same),
    )

-- ---- what it leaves

settled_given : (state : Option SlotState) (held : Held) (new_view : SessionsView) → ((slots : SlotState) → SessionsStand slots held.sessions [] → SessionsStand slots new_view [])
    → Settled state held → Settled state (held_with held new_view)
settled_given None held new_view stand settled = tt
settled_given (Some slots) held new_view stand settled = record { objects = settled.objects; sessions = stand slots settled.sessions; gap = settled.gap }

-- a session that was no orphan is none
back_orphans : (client : ℕ) (items : List (Option Item)) (n : ℕ)
    → count_by is_orphan (set items n (taken_back client (item_at items n))) ≤ count_by is_orphan items
back_orphans client [] n = omega arith
back_orphans client (None ∷ items) zero = omega arith
back_orphans client (Some item ∷ items) zero =
    omega (
      arith,
      count_cons is_orphan (taken_back client (Some item)) items,
      count_cons is_orphan (Some item) items,
    )
back_orphans client (item ∷ items) (suc n) =
    omega (
      arith,
      count_cons is_orphan item (set items n (taken_back client (item_at items n))),
      count_cons is_orphan item items,
      back_orphans client items n,
    )

taken_open : (client : ℕ) (present : List ℕ) (item : Option Item) → is_open client present ≡ true → IsOpenOwner present (taken_back client item)
taken_open client present None is = tt
taken_open client present (Some item) is = is

back_open : (client : ℕ) (present : List ℕ) (items : List (Option Item)) (n : ℕ) → is_open client present ≡ true → AreOpenOwners present items
    → AreOpenOwners present (set items n (taken_back client (item_at items n)))
back_open client present items n is all =
    each_set (λ item. IsOpenOwner present item) items n (taken_back client (item_at items n)) all (taken_open client present (item_at items n) is)

-- at most one session is in use again, and the client's
record Leaves (client : ℕ) (items new_items : List (Option Item)) (left new_left : List ℕ) : Type 0 where
  open_owners : (present : List ℕ) → is_open client present ≡ true → AreOpenOwners present items → AreOpenOwners present new_items
  orphans : count_by is_orphan new_items ≤ count_by is_orphan items
  few : length new_left ≤ length left

leaves_given : (client : ℕ) (items : List (Option Item)) (left : List ℕ) (given : Result ℕ ℕ)
    → Leaves client items (with_given client items given) left (without_given left given)
leaves_given client items left (Err code) = record { open_owners = λ present is all. all; orphans = omega arith; few = omega arith }
leaves_given client items left (Ok handle) = record {
  open_owners = λ present is all. back_open client present items (number_of_session handle) is all;
  orphans = back_orphans client items (number_of_session handle);
  few = shorter (number_of_session handle) left;
}

leaves_where : (client : ℕ) (load : Bool) (items : List (Option Item)) (left : List ℕ) (given : Result ℕ ℕ)
    → Leaves client items (if load then with_given client items given else items) left (if load then without_given left given else left)
leaves_where client true items left given = leaves_given client items left given
leaves_where client false items left given = record { open_owners = λ present is all. all; orphans = omega arith; few = omega arith }

replied_moves : {D : Type 0} (seen : D → Seen) (device : D) (held : Held) (new_view : SessionsView) (client : ℕ)
    (table : List (Option ℕ)) (a : Admitted) (bytes reply : List ℕ) → Settled (seen device).state held → IsTable held.objects.items client table
    → IsOwnReply held new_view client table a bytes reply
    → ((slots : SlotState) → SessionsStand slots held.sessions [] → SessionsStand slots new_view [])
    → Moves seen client device device held (held_with held new_view) table
replied_moves seen device held new_view client table a bytes reply settled is own stand =
    let items = held.sessions.items in
    let params = drop a.auths.params bytes in
    let left = held.sessions.left in
    let leaves : Leaves client items new_view.items left new_view.left =
    subst (λ (v : SessionsView). Leaves client items v.items left v.left) (sym own.view_is)
    (leaves_where client (a.shape.row.code == CC_CONTEXT_LOAD) items left (given_back client items params (load_parameters params))) in
    record {
      keeps = keeps_same seen device;
      settled = settled_given (seen device).state held new_view stand settled;
      counts = record { objects_rise = omega arith; sessions_rise = omega arith; objects_on = omega arith; sessions_on = omega arith };
      others = owners_same (other_than client) held.objects.items;
      gained = λ index owner own other. own;
      lists = refl;
      other_objects = objects_same (other_than client) (seen device).state held.objects.items;
      own_table = is;
      owners = leaves.open_owners;
      orphans = omega (arith, leaves.orphans);
      made_for = record { objects = refl; sessions = ap (λ (v : SessionsView). v.contexts) own.view_is };
      slots = refl;
      numbers = ap (λ (v : SessionsView). v.numbers) own.view_is;
      left = leaves.few;
      length_is = refl;
    }

-- a session that is in use again is loaded or saved as before
taken_loaded : (client : ℕ) (item : Option Item) → is_loaded_item (taken_back client item) ≡ is_loaded_item item
taken_loaded client None = refl
taken_loaded client (Some item) = refl

back_loaded : (client : ℕ) (items : List (Option Item)) (n number : ℕ)
    → is_loaded_item (item_at (set items n (taken_back client (item_at items n))) number) ≡ is_loaded_item (item_at items number)
back_loaded client items n number =
    elim (set_at items n (taken_back client (item_at items n)) None number) [
      | inl same ↦ ap is_loaded_item same
      | inr here ↦ ap is_loaded_item here.1 ∙ taken_loaded client (item_at items n) ∙ ap (λ (k : ℕ). is_loaded_item (item_at items k)) (sym here.0)
    ]

with_loaded : (client : ℕ) (load : Bool) (items : List (Option Item)) (given : Result ℕ ℕ) (number : ℕ)
    → is_loaded_item (item_at (if load then with_given client items given else items) number) ≡ is_loaded_item (item_at items number)
with_loaded client true items (Err code) number = refl
with_loaded client true items (Ok handle) number = back_loaded client items (number_of_session handle) number
with_loaded client false items given number = refl

loaded_given : (client : ℕ) (a : Admitted) (bytes : List ℕ) (items : List (Option Item)) (number : ℕ)
    → is_loaded_item (item_at (sessions_given client a bytes items) number) ≡ is_loaded_item (item_at items number)
loaded_given client a bytes items number =
    let params = drop a.auths.params bytes in
    with_loaded client (a.shape.row.code == CC_CONTEXT_LOAD) items (given_back client items params (load_parameters params)) number

pub replied_serves : {contexts : ContextLimits} {D : Type 0} (seen : D → Seen) (device : D) (held : Held) (new_view : SessionsView) (client : ℕ)
    (table : List (Option ℕ)) (a : Admitted) (bytes reply : List ℕ) → Settled (seen device).state held → IsTable held.objects.items client table
    → IsOwnReply held new_view client table a bytes reply
    → ((slots : SlotState) → SessionsStand slots held.sessions [] → SessionsStand slots new_view [])
    → Serves {A = Unit {0}} contexts seen client device device held (held_with held new_view) table table (Ok tt)
replied_serves seen device held new_view client table a bytes reply settled is own stand = record {
  moves = replied_moves seen device held new_view client table a bytes reply settled is own stand;
  right = inl refl;
  stays = tt;
  costs = omega arith;
  cause = tt;
  fails = tt;
}

pub replied_carries : {contexts : ContextLimits} {D : Type 0} (seen : D → Seen) (device : D) (held : Held) (new_view : SessionsView) (client : ℕ)
    (table : List (Option ℕ)) (a : Admitted) (bytes reply : List ℕ) → Settled (seen device).state held → IsTable held.objects.items client table
    → client_admitted (tables_seen contexts client table held.sessions.items) bytes ≡ Ok a → is_sent contexts a bytes ≡ false → (a.shape.row.code == CC_FLUSH_CONTEXT) ≡ false
    → IsProfile contexts (seen device).state → IsOwnReply held new_view client table a bytes reply → is_frame reply ≡ true
    → CarriesOut contexts seen client device device held (held_with held new_view) table table a bytes reply
replied_carries seen device held new_view client table a bytes reply settled is admitted sort other profile own whole = record {
  did = inr (inl (record {
    sort = sort;
    other = other;
    device_is = refl;
    table_is = refl;
    objects_are = refl;
    sessions_are = own.view_is;
    reply_is = own.reply_is;
  }));
  steps = replied_steps _ (seen device).state held new_view client table a bytes reply settled is admitted sort other profile own;
  whole = whole;
  stays = λ narrow. record {
    objects = λ index resident. inl resident;
    sessions = λ number loaded.
        inl (ap (λ (v : SessionsView). is_loaded_item (item_at v.items number)) own.view_is
        ∙ loaded_given client a bytes held.sessions.items number ∙ loaded);
  };
}

pub not_sent : (sent : Bool) → true ≡ not sent → sent ≡ false
not_sent true is = absurd cc
not_sent false is = refl

pub is_to_send : (sent : Bool) → false ≡ not sent → sent ≡ true
is_to_send true is = refl
is_to_send false is = absurd cc

-- ---- a command that runs, over sessions that stayed

pub serves_over : {contexts : ContextLimits} {D A : Type 0} (r : Result A SwapError) (seen : D → Seen) (client : ℕ) (old new : D) (held : Held)
    (view : SessionsView) (new_held : Held) (table new_table : List (Option ℕ)) → view ≡ held.sessions
    → Serves contexts seen client old new (held_with held view) new_held table new_table r → Serves contexts seen client old new held new_held table new_table r
serves_over {contexts = contexts} r seen client old new held view new_held table new_table same serves =
    subst (λ (v : SessionsView). Serves contexts seen client old new (held_with held v) new_held table new_table r) same serves

pub carries_over : (contexts : ContextLimits) {D A E : Type 0} (r : Result A E) (seen : D → Seen) (client : ℕ) (old new : D) (held : Held)
    (view : SessionsView) (new_held : Held) (table new_table : List (Option ℕ)) (a : Admitted) (bytes reply : List ℕ) → view ≡ held.sessions
    → OnOk r (CarriesOut contexts seen client old new (held_with held view) new_held table new_table a bytes reply)
    → OnOk r (CarriesOut contexts seen client old new held new_held table new_table a bytes reply)
carries_over contexts r seen client old new held view new_held table new_table a bytes reply same carries =
    subst (λ (v : SessionsView). OnOk r (CarriesOut contexts seen client old new (held_with held v) new_held table new_table a bytes reply)) same carries
