-- What a device does with a command that is sent, whatever it is, in place of the plain machine.
use Rattle.std.proofs.Common.{◌≡◌, ◌⊎◌, inl, inr, ◌+◌, ℕ, Bool, true, false, true≢false, List, [], ◌∷◌, drop, get_or, length, refl, ap, sym, ◌∙◌, subst, arith}
use Rattle.std.specs.Prelude.{◌==◌, ◌&&◌, ◌||◌, not, Option, Some, None, is_some, Ok, Err, if◌then◌else◌}
use Rattle.std.specs.List.{AllByRecursion}
use Rattle.std.proofs.lemmas.Bool.{and_parts, cases_Bool}
use Rattle.std.proofs.lemmas.Slice.Eq.{bytes_eq-Decides}
use Rattle.tab_spec.specs.declared.Kind.{Kind}
use Rattle.tab_spec.specs.declared.Kind.TheVariants.{Absent, Saved}
use Rattle.tab_spec.specs.declared.TheConstants.{CC_CONTEXT_LOAD, CC_CONTEXT_SAVE, CC_FLUSH_CONTEXT, CC_GET_CAPABILITY, CC_START_AUTH_SESSION, HEADER_BYTES, HT_HMAC_SESSION, HT_POLICY_SESSION, HT_TRANSIENT, RC_SUCCESS, ST_NO_SESSIONS, TRANSIENT_FIRST}
use Rattle.tab_spec.specs.declared.Admitted.{Admitted}
use Rattle.tab_spec.specs.declared.CommandRow.{CommandRow}
use Rattle.tab_spec.specs.Admission.{Tables, client_admitted, is_session_handle}
use Rattle.tab_spec.specs.Frame.{code_of}
use Rattle.tab_spec.specs.Object.{Object}
use Rattle.tab_spec.specs.Reply.{response, with_response_handle}
use Rattle.tab_spec.specs.Shape.{are_of_kinds, is_of_kind, octet_of}
use Rattle.tab_spec.specs.Values.{Reading}
use Rattle.tab_spec.specs.declared.contexts.TheConstants.{PROFILE_CONTEXTS}
use Rattle.effect_spec.specs.Contexts.{Context, blob_fits, context_of, object_context, opened_object}
use Rattle.tab_laws.proofs.Handled.{client_is}
use Rattle.device_spec.specs.Answers.{profile_takes as takes}
use Rattle.device_spec.specs.Slots.{IsSlots, SlotState, Step, context_object, object_at, slot_step}
use Rattle.device_laws.specs.Effects.{is_managed}
use Rattle.device_laws.proofs.AnswerForms.{takes_more, takes_same}
use Rattle.device_laws.proofs.ContextSteps.{load_row, save_row}
use Rattle.device_laws.proofs.Frames.{code_of_response}
use Rattle.device_laws.proofs.Replies.{step_keeps}
use Rattle.client_laws.specs.Ready.{ends_session, sent_for, starts_session, tells_object, tells_session}
use Rattle.client_laws.proofs.Commands.{another_code, clients_command, command_sent_code, row_as, unmanaged}
use Rattle.client_laws.proofs.Listing.{list_taken}
use Rattle.client_laws.proofs.Loading.{load_taken, load_taken_kept}
use Rattle.client_laws.proofs.NoAuths.{bare}
use Rattle.client_laws.proofs.OverSlots.{command_taken}
use Rattle.client_laws.proofs.Running.{same_params}
use Rattle.client_laws.proofs.Saving.{object_sequence_read, save_object_plain, save_over, save_over_taken}
use Rattle.object_swap.specs.Items.{Item, ItemStands, ObjectsStand, is_kept, item_at, keeps_context}
use Rattle.session_swap.specs.Items as sessions
use Rattle.session_swap.specs.Items.{SessionsStand}
use Rattle.history_spec.specs.declared.Pick.TheVariants as picks
use Rattle.history_spec.specs.Table.{held_under, next_handle}
use Rattle.world_spec.specs.World.{client_step, tables_of}
use Rattle.client_machine.specs.declared.held.Held.{Held}
use Rattle.client_machine.specs.Moves.{Adopts, client_state, first_handle, loads_kept, number_taken, pick_of, saves_one, saves_session, sessions_held_after, tells_context, told_handle, told_sequence}
use Rattle.client_machine.specs.Settled.{Sequences, sessions_in}
use Rattle.client_machine.specs.Tables.{device_handle, objects_in, tables_seen}
use Rattle.client_machine.proofs.Adopting.{item_same, same_objects, stand_same}
use Rattle.client_machine.proofs.Bringing.{command_there}
use Rattle.client_machine.proofs.Handing.{sent_bytes}
use Rattle.client_machine.proofs.Managing.{did_list, did_load, managed, managed_by}
use Rattle.client_machine.proofs.Ready.{MayRun, admitted_here, ready_here, sent_over}
use Rattle.client_machine.proofs.Running.{DidSo, Runs, did_effect, free_by, held_after, no_sequences, runs_else_by, runs_then_by, state_here}
use Rattle.client_machine.proofs.Sending.{error_taken_so}
use Rattle.client_machine.proofs.Settling.{sessions_over_objects, stand_over_objects}

-- ---- a context of an object that is saved

some_of : {A : Type 0} (x : Option A) → is_some x ≡ true → (y : A) × (x ≡ Some y)
some_of None there = absurd cc
some_of (Some y) there = (y, refl)

first_kind : (kind : Kind) (kinds : List Kind) (handles : List ℕ) → are_of_kinds (kind ∷ kinds) handles ≡ true → is_of_kind kind (get_or handles 0 0) ≡ true
first_kind kind kinds [] are = absurd cc
first_kind kind kinds (handle ∷ handles) are = (and_parts (is_of_kind kind handle) (are_of_kinds kinds handles) are).0

not_session : (object hmac policy : Bool) → (object || hmac || policy) ≡ true → (hmac || policy) ≡ false → object ≡ true
not_session true hmac policy is none = refl
not_session false true policy is none = absurd cc
not_session false false true is none = absurd cc
not_session false false false is none = absurd cc

saved_transient : (save session : Bool) → save ≡ true → (save && session) ≡ false → session ≡ false
saved_transient true session is none = none
saved_transient false session is none = absurd cc

record SavesObject (slots : SlotState) (held : Held) (table : List (Option ℕ)) (a : Admitted) : Type 0 where
  is : (a.shape.row.code == CC_CONTEXT_SAVE) ≡ true
  transient : (octet_of (first_handle a) == HT_TRANSIENT) ≡ true
  object : Object
  there : held_under (objects_in slots held.objects.items table) (first_handle a) ≡ Some object

saves_object : (slots : SlotState) (held : Held) (client : ℕ) (table : List (Option ℕ)) (a : Admitted) (bytes : List ℕ) → MayRun slots held client table a bytes
    → saves_one a ≡ false → (a.shape.row.code == CC_CONTEXT_SAVE) ≡ true → SavesObject slots held table a
saves_object slots held client table a bytes may alone is =
    let handle = first_handle a in
    let e = admitted_here slots held client table no_sequences a bytes may in
    let known = clients_command (tables_of client (state_here slots held table)) bytes a e in
    let row = row_as a.shape.row save_row CC_CONTEXT_SAVE known.row refl is in
    let kind = first_kind Saved (Absent ∷ []) a.shape.handles (subst (λ (r : CommandRow). are_of_kinds r.handles a.shape.handles ≡ true) row known.shape.kinds) in
    let octet = octet_of handle in
    let transient : (octet == HT_TRANSIENT) ≡ true =
    not_session (octet == HT_TRANSIENT) (octet == HT_HMAC_SESSION) (octet == HT_POLICY_SESSION) kind
    (saved_transient (a.shape.row.code == CC_CONTEXT_SAVE) (is_session_handle handle) is alone) in
    let there = some_of (held_under (objects_in slots held.objects.items table) handle) (command_there (tables_of client (state_here slots held table)) bytes a e transient) in
    record { is = is; transient = transient; object = there.0; there = there.1 }

-- the device and its response afterwards
abbrev counted : SlotState → SlotState
counted slots = record slots { object_counter = slots.object_counter + 1 }

abbrev saved_reply : SlotState → Object → List ℕ
saved_reply slots o = response ST_NO_SESSIONS RC_SUCCESS (object_context slots.persist.seed slots.object_counter o)

saved_step : (slots : SlotState) (held : Held) (client : ℕ) (table : List (Option ℕ)) (a : Admitted) (bytes : List ℕ) → MayRun slots held client table a bytes
    → (saves : SavesObject slots held table a)
    → slot_step slots (sent_over bytes a table held.objects.items) ≡ (counted slots, saved_reply slots saves.object)
saved_step slots held client table a bytes may saves =
    save_over slots client (state_here slots held table) bytes a (device_handle table held.objects.items (first_handle a)) saves.object
    (admitted_here slots held client table no_sequences a bytes may) saves.is may.sort may.all (ready_here slots held client table no_sequences a bytes may)
    saves.transient saves.there may.object_numbers

pub pick_saved : (tells saves : Bool) (number sequence : ℕ) → tells ≡ false → saves ≡ true
    → (if tells then picks.Session number else if saves then picks.Sequence sequence else picks.Nothing) ≡ picks.Sequence sequence
pick_saved tells saves number sequence is also = rw (is, also) refl

pub both_so : (one other : Bool) → one ≡ true → other ≡ true → (one && other) ≡ true
both_so one other is also = rw (is, also) refl

pub no_start : (start success : Bool) → start ≡ false → (start && success) ≡ false
no_start start success is = rw is refl

kept_all : (starts ends saves : Bool) (items started ended saved : List (Option sessions.Item)) → starts ≡ false → ends ≡ false → saves ≡ false
    → (if starts then started else if ends then ended else if saves then saved else items) ≡ items
kept_all starts ends saves items started ended saved is also too = rw (is, also, too) refl

saved_runs : (slots : SlotState) (held : Held) (client : ℕ) (table : List (Option ℕ)) (a : Admitted) (bytes : List ℕ) → MayRun slots held client table a bytes
    → saves_one a ≡ false → (saves : SavesObject slots held table a) → IsSlots (counted slots)
    → let answer = saved_reply slots saves.object in
    Runs slots (counted slots) held (held_after held held.objects.items client a answer) client table table a bytes answer
saved_runs slots held client table a bytes may alone saves sound =
    let o = saves.object in
    let answer = saved_reply slots o in
    let after = counted slots in
    let items = held.objects.items in
    let old = held.sessions.items in
    let number = slots.object_counter in
    let unstarted = another_code a.shape.row.code CC_CONTEXT_SAVE CC_START_AUTH_SESSION saves.is refl in
    let one = managed (tables_seen PROFILE_CONTEXTS client table old) bytes a may.admitted (managed_by a.shape.row.code CC_CONTEXT_SAVE saves.is refl) in
    let none : tells_session a answer ≡ false = no_start (starts_session a) (code_of answer == RC_SUCCESS) unstarted in
    let success : (code_of answer == RC_SUCCESS) ≡ true =
    ap (λ (c : ℕ). c == RC_SUCCESS) (code_of_response ST_NO_SESSIONS RC_SUCCESS (object_context slots.persist.seed number o) (omega arith)) in
    let items_are : sessions_held_after client a answer old ≡ old =
    kept_all (tells_session a answer) (ends_session a answer) (saves_session a answer) old _ _ _ none (one.ends answer)
    (no_start (saves_one a) (code_of answer == RC_SUCCESS) alone) in
    let sequence_is : told_sequence answer ≡ number = object_sequence_read slots.persist.seed number o (omega (arith, may.object_numbers)) in
    let pick_is : pick_of a answer ≡ picks.Sequence number =
    pick_saved (tells_session a answer) (tells_context a answer) _ (told_sequence answer) none
    (both_so (a.shape.row.code == CC_CONTEXT_SAVE) (code_of answer == RC_SUCCESS) saves.is success)
    ∙ ap (λ (n : ℕ). picks.Sequence n) sequence_is in
    record {
      settled = record {
        objects = stand_same slots after items held.objects.left may.settled.objects refl refl may.settled.objects.started sound;
        sessions = subst (λ (l : List (Option sessions.Item)). SessionsStand after (record held.sessions { items = l }) []) (sym items_are)
            (stand_over_objects slots after held.sessions [] refl sound may.settled.sessions);
        gap = may.settled.gap;
      };
      counts = record { objects_rise = omega arith; sessions_rise = omega arith; objects_on = omega arith; sessions_on = omega arith };
      kept = λ index names. item_same slots after (item_at items index) refl refl;
      step = λ least below.
          let handed : Sequences = record { object = number + 1; session = least.session } in (
            handed,
            record { of_objects = omega arith; of_sessions = below.of_sessions },
            ap (client_step client (client_state slots held table least) bytes) pick_is
                ∙ save_object_plain client (client_state slots held table least) bytes a number o (admitted_here slots held client table least a bytes may) saves.is may.sort
                saves.transient saves.there below.of_objects may.object_numbers
                ∙ (λ i. Some (
                  record {
                    persist = slots.persist;
                    most = held.sessions.numbers.active;
                    objects = sym (same_objects slots after items table refl refl) i;
                    sessions = sym (ap (sessions_in after) items_are ∙ sessions_over_objects slots after old refl) i;
                    left = held.sessions.left;
                    object_sequence = number + 1;
                    session_sequence = least.session;
                  },
                  answer,
                )),
          );
    }

-- ---- a context that is kept for an object is opened

opened_if : (test : Bool) (opened : Option Object) → is_some (if test then opened else None) ≡ true → is_some opened ≡ true
opened_if true opened is = is
opened_if false opened is = absurd cc

opened_read : (seed bytes : List ℕ) (read : Reading Context) → is_some (context_object seed bytes read) ≡ true → is_some (opened_object seed bytes) ≡ true
opened_read seed bytes (Err code) is = absurd cc
opened_read seed bytes (Ok read) is =
    opened_if (length read.1 == 0 && blob_fits read.0 && read.0.saved_handle == TRANSIENT_FIRST) (opened_object seed bytes) is

blob_is : (bytes : List ℕ) (blob : Option (List ℕ)) → is_kept bytes blob ≡ true → blob ≡ Some bytes
blob_is bytes None is = absurd cc
blob_is bytes (Some context) is = ap (λ (l : List ℕ). Some l) (sym ((bytes_eq-Decides bytes context).0 is))

full_by : (slot blob : Bool) → blob ≡ true → (not slot && not blob) ≡ false
full_by true blob is = refl
full_by false true is = refl
full_by false false is = absurd cc

-- the object of an item stands in its context, whether it is in a slot or not
beside_by : (slots : SlotState) (slot : Option ℕ) (blob : Option (List ℕ)) → is_some (object_at slots slot blob) ≡ true
    → (is_some slot ≡ true → object_at slots None blob ≡ object_at slots slot blob) → is_some (object_at slots None blob) ≡ true
beside_by slots None blob there beside = there
beside_by slots (Some slot) blob there beside = ap (λ (o : Option Object). is_some o) (beside refl) ∙ there

item_opened : (slots : SlotState) (item : Item) (bytes : List ℕ) → ItemStands slots item → is_kept bytes item.blob ≡ true
    → is_some (opened_object slots.persist.seed bytes) ≡ true
item_opened slots item bytes stands is =
    let blob = blob_is bytes item.blob is in
    let full : is_some item.blob ≡ true = ap (λ (b : Option (List ℕ)). is_some b) blob in
    opened_read slots.persist.seed bytes (context_of bytes)
    (ap (λ (b : Option (List ℕ)). is_some (object_at slots None b)) (sym blob)
    ∙ beside_by slots item.slot item.blob (stands.there (full_by (is_some item.slot) (is_some item.blob) full)) (λ resident. stands.beside resident full))

either_one : {P : Type 0} (here rest : Bool) → (here ≡ true → P) → (rest ≡ true → P) → (here || rest) ≡ true → P
either_one true rest first more is = first refl
either_one false rest first more is = more is

any_opened : (slots : SlotState) (items : List Item) (bytes : List ℕ) → AllByRecursion (λ item. ItemStands slots item) items → keeps_context items bytes ≡ true
    → is_some (opened_object slots.persist.seed bytes) ≡ true
any_opened slots [] bytes all is = absurd cc
any_opened slots (item ∷ items) bytes all is =
    either_one (is_kept bytes item.blob) (keeps_context items bytes) (item_opened slots item bytes all.0) (any_opened slots items bytes all.1) is

kept_opened : {others : List ℕ} (slots : SlotState) (items : List Item) (bytes : List ℕ) → ObjectsStand slots items others → keeps_context items bytes ≡ true
    → (o : Object) × (opened_object slots.persist.seed bytes ≡ Some o)
kept_opened slots items bytes stand is = some_of (opened_object slots.persist.seed bytes) (any_opened slots items bytes stand.each is)

-- what a ContextLoad that is sent loads
sent_params : (tables : Tables) (bytes : List ℕ) (a : Admitted) (first : ℕ) → client_admitted tables bytes ≡ Ok a → (a.shape.row.code == CC_CONTEXT_LOAD) ≡ true
    → drop HEADER_BYTES (sent_for bytes a first) ≡ drop a.auths.params bytes
sent_params tables bytes a first e is =
    let whole = (client_is tables bytes a e).whole in
    let row = row_as a.shape.row load_row CC_CONTEXT_LOAD (clients_command tables bytes a e).row refl is in
    ap (λ (n : ℕ). drop n (sent_for bytes a first)) (sym (bare tables bytes a load_row whole row refl).params)
    ∙ same_params tables bytes a first (get_or a.shape.handles 1 0) whole

-- ---- the sorts of commands that are sent

not_flushed : (flush rest : Bool) → (if flush then false else rest) ≡ true → flush ≡ false
not_flushed true rest is = absurd cc
not_flushed false rest is = refl

which : (save load flush list : Bool) → (save || load || flush || list) ≡ true → flush ≡ false → (save ≡ true) ⊎ ((load ≡ true) ⊎ (list ≡ true))
which true load flush list is none = inl refl
which false true flush list is none = inr (inl refl)
which false false true list is none = absurd cc
which false false false true is none = inr (inr refl)
which false false false false is none = absurd cc

did_managed : (slots : SlotState) (held : Held) (client : ℕ) (table : List (Option ℕ)) (a : Admitted) (bytes : List ℕ) → MayRun slots held client table a bytes
    → saves_one a ≡ false → is_managed a.shape.row.code ≡ true → DidSo slots held client table a bytes ⊎ SavesObject slots held table a
did_managed slots held client table a bytes may alone is =
    let code = a.shape.row.code in
    elim (which (code == CC_CONTEXT_SAVE) (code == CC_CONTEXT_LOAD) (code == CC_FLUSH_CONTEXT) (code == CC_GET_CAPABILITY) is (not_flushed (code == CC_FLUSH_CONTEXT) _ may.sort)) [
      | inl save ↦ inr (saves_object slots held client table a bytes may alone save)
      | inr (inl load) ↦ inl (did_load slots held client table a bytes may load)
      | inr (inr list) ↦ inl (did_list slots held client table a bytes may list)
    ]

did : (slots : SlotState) (held : Held) (client : ℕ) (table : List (Option ℕ)) (a : Admitted) (bytes : List ℕ) → MayRun slots held client table a bytes
    → saves_one a ≡ false → DidSo slots held client table a bytes ⊎ SavesObject slots held table a
did slots held client table a bytes may alone =
    elim (cases_Bool (is_managed a.shape.row.code)) [
      | inl is ↦ did_managed slots held client table a bytes may alone is
      | inr not ↦ inl (did_effect slots held client table a bytes may not)
    ]

-- ---- a broker takes the response

-- of a command that has effects, whatever sessions its clients have
kept_by : (start success number : Bool) (sent answer : List ℕ) (a : Admitted) → starts_session a ≡ start → (code_of answer == RC_SUCCESS) ≡ success
    → (code_of sent == CC_CONTEXT_LOAD) ≡ false → (starts_session a ≡ false → (code_of sent == CC_START_AUTH_SESSION) ≡ false)
    → takes false false sent answer ≡ true → (tells_session a answer ≡ true → number ≡ false) → takes false number sent answer ≡ true
kept_by false success number sent answer a is so load other taken free =
    takes_same PROFILE_CONTEXTS false number sent answer load (other is) ∙ sym (takes_same PROFILE_CONTEXTS false false sent answer load (other is)) ∙ taken
kept_by true false number sent answer a is so load other taken free = error_taken_so PROFILE_CONTEXTS false false number sent answer so taken
kept_by true true number sent answer a is so load other taken free =
    ap (λ (number : Bool). takes false number sent answer) (free ((λ i. is i && so i))) ∙ taken

sent_code : (slots : SlotState) (held : Held) (client : ℕ) (table : List (Option ℕ)) (a : Admitted) (bytes : List ℕ) → MayRun slots held client table a bytes
    → code_of (sent_over bytes a table held.objects.items) ≡ a.shape.row.code
sent_code slots held client table a bytes may =
    let tables = tables_seen PROFILE_CONTEXTS client table held.sessions.items in
    command_sent_code tables bytes a (device_handle table held.objects.items (first_handle a)) may.admitted ∙ (clients_command tables bytes a may.admitted).code

-- what a broker that holds this is asked to take
abbrev pub IsTaken : SlotState → Held → ℕ → List (Option ℕ) → Admitted → List ℕ → Type 0
IsTaken slots held client table a bytes =
    let sent = sent_over bytes a table held.objects.items in
    let answer = (slot_step slots sent).1 in
    takes (loads_kept held.objects.items sent) (number_taken held.sessions answer) sent answer ≡ true

effect_taken : (slots : SlotState) (held : Held) (client : ℕ) (table : List (Option ℕ)) (a : Admitted) (bytes : List ℕ) → MayRun slots held client table a bytes
    → is_managed a.shape.row.code ≡ false → IsTaken slots held client table a bytes
effect_taken slots held client table a bytes may not =
    let first = device_handle table held.objects.items (first_handle a) in
    let sent = sent_over bytes a table held.objects.items in
    let answer = (slot_step slots sent).1 in
    let code = sent_code slots held client table a bytes may in
    let load : (code_of sent == CC_CONTEXT_LOAD) ≡ false = ap (λ (c : ℕ). c == CC_CONTEXT_LOAD) code ∙ (unmanaged a.shape.row.code not).load in
    let did = did_effect slots held client table a bytes may not in
    let taken : takes false false sent answer ≡ true =
    command_taken slots client (state_here slots held table) bytes a first (admitted_here slots held client table no_sequences a bytes may) not may.all
    (ready_here slots held client table no_sequences a bytes may) in
    ap (λ (kept : Bool). takes kept (number_taken held.sessions answer) sent answer) (no_start (code_of sent == CC_CONTEXT_LOAD) _ load)
    ∙ kept_by (starts_session a) (code_of answer == RC_SUCCESS) (number_taken held.sessions answer) sent answer a refl refl load
    (λ other. ap (λ (c : ℕ). c == CC_START_AUTH_SESSION) code ∙ other) taken
    (λ told. free_by slots (slot_step slots sent).0 held client table a bytes did.created did.effect_reply answer may did.left taken told)

saved_taken : (slots : SlotState) (held : Held) (client : ℕ) (table : List (Option ℕ)) (a : Admitted) (bytes : List ℕ) → MayRun slots held client table a bytes
    → SavesObject slots held table a → IsTaken slots held client table a bytes
saved_taken slots held client table a bytes may saves =
    save_over_taken _ _ slots client (state_here slots held table) bytes a (device_handle table held.objects.items (first_handle a)) saves.object
    (admitted_here slots held client table no_sequences a bytes may) saves.is may.sort may.all (ready_here slots held client table no_sequences a bytes may)
    saves.transient saves.there may.object_numbers

listed_taken : (slots : SlotState) (held : Held) (client : ℕ) (table : List (Option ℕ)) (a : Admitted) (bytes : List ℕ) → MayRun slots held client table a bytes
    → (a.shape.row.code == CC_GET_CAPABILITY) ≡ true → IsTaken slots held client table a bytes
listed_taken slots held client table a bytes may is =
    list_taken _ _ slots client (state_here slots held table) bytes a (device_handle table held.objects.items (first_handle a))
    (admitted_here slots held client table no_sequences a bytes may) is may.sort may.settled.objects.started refl

loaded_taken : (is_kept is_taken : Bool) (slots : SlotState) (held : Held) (client : ℕ) (table : List (Option ℕ)) (a : Admitted) (bytes : List ℕ)
    → MayRun slots held client table a bytes → (a.shape.row.code == CC_CONTEXT_LOAD) ≡ true
    → (is_kept ≡ true → (o : Object) × (opened_object slots.persist.seed (drop a.auths.params bytes) ≡ Some o))
    → let sent = sent_over bytes a table held.objects.items in takes is_kept is_taken sent (slot_step slots sent).1 ≡ true
loaded_taken false is_taken slots held client table a bytes may is opened =
    load_taken is_taken slots client (state_here slots held table) bytes a (device_handle table held.objects.items (first_handle a))
    (admitted_here slots held client table no_sequences a bytes may) is may.sort may.all (ready_here slots held client table no_sequences a bytes may)
loaded_taken true is_taken slots held client table a bytes may is opened =
    let found = opened refl in
    load_taken_kept is_taken slots client (state_here slots held table) bytes a (device_handle table held.objects.items (first_handle a)) found.0
    (admitted_here slots held client table no_sequences a bytes may) is may.sort may.all (ready_here slots held client table no_sequences a bytes may) found.1

context_taken : (slots : SlotState) (held : Held) (client : ℕ) (table : List (Option ℕ)) (a : Admitted) (bytes : List ℕ) → MayRun slots held client table a bytes
    → (a.shape.row.code == CC_CONTEXT_LOAD) ≡ true → IsTaken slots held client table a bytes
context_taken slots held client table a bytes may is =
    let items = held.objects.items in
    let sent = sent_over bytes a table items in
    let params = sent_params (tables_seen PROFILE_CONTEXTS client table held.sessions.items) bytes a (device_handle table items (first_handle a)) may.admitted is in
    loaded_taken (loads_kept items sent) _ slots held client table a bytes may is
    (λ kept.
    kept_opened slots items (drop a.auths.params bytes) may.settled.objects
    (ap (keeps_context items) (sym params) ∙ (and_parts (code_of sent == CC_CONTEXT_LOAD) (keeps_context items (drop HEADER_BYTES sent)) kept).1))

managed_taken : (slots : SlotState) (held : Held) (client : ℕ) (table : List (Option ℕ)) (a : Admitted) (bytes : List ℕ) → MayRun slots held client table a bytes
    → saves_one a ≡ false → is_managed a.shape.row.code ≡ true → IsTaken slots held client table a bytes
managed_taken slots held client table a bytes may alone is =
    let code = a.shape.row.code in
    elim (which (code == CC_CONTEXT_SAVE) (code == CC_CONTEXT_LOAD) (code == CC_FLUSH_CONTEXT) (code == CC_GET_CAPABILITY) is (not_flushed (code == CC_FLUSH_CONTEXT) _ may.sort)) [
      | inl save ↦ saved_taken slots held client table a bytes may (saves_object slots held client table a bytes may alone save)
      | inr (inl load) ↦ context_taken slots held client table a bytes may load
      | inr (inr list) ↦ listed_taken slots held client table a bytes may list
    ]

pub all_taken : (slots : SlotState) (held : Held) (client : ℕ) (table : List (Option ℕ)) (a : Admitted) (bytes : List ℕ) → MayRun slots held client table a bytes
    → saves_one a ≡ false → IsTaken slots held client table a bytes
all_taken slots held client table a bytes may alone =
    elim (cases_Bool (is_managed a.shape.row.code)) [
      | inl is ↦ managed_taken slots held client table a bytes may alone is
      | inr not ↦ effect_taken slots held client table a bytes may not
    ]

-- and a broker that holds nothing takes it too
taken_here : (slots : SlotState) (held : Held) (client : ℕ) (table : List (Option ℕ)) (a : Admitted) (bytes : List ℕ) → MayRun slots held client table a bytes
    → saves_one a ≡ false → let sent = sent_over bytes a table held.objects.items in takes false false sent (slot_step slots sent).1 ≡ true
taken_here slots held client table a bytes may alone =
    let sent = sent_over bytes a table held.objects.items in
    takes_more PROFILE_CONTEXTS (loads_kept held.objects.items sent) (number_taken held.sessions (slot_step slots sent).1) sent (slot_step slots sent).1
    (all_taken slots held client table a bytes may alone)

-- ---- the plain machine does the same

pub runs_else : (slots : SlotState) (held : Held) (client : ℕ) (table : List (Option ℕ)) (a : Admitted) (bytes : List ℕ) → MayRun slots held client table a bytes
    → saves_one a ≡ false → let step = slot_step slots (sent_over bytes a table held.objects.items) in tells_object a step.1 ≡ false
    → Runs slots step.0 held (held_after held held.objects.items client a step.1) client table table a bytes step.1
runs_else slots held client table a bytes may alone plain =
    let sent = sent_over bytes a table held.objects.items in
    let step = slot_step slots sent in
    elim (did slots held client table a bytes may alone) [
      | inl so ↦
          runs_else_by slots step.0 held client table a bytes so.created so.effect_reply step.1 may so.left (taken_here slots held client table a bytes may alone) plain
      | inr saves ↦
          let step_is = saved_step slots held client table a bytes may saves in
          let first = device_handle table held.objects.items (first_handle a) in
          let sound : IsSlots step.0 = step_keeps slots sent may.settled.objects.sound (sent_bytes bytes a first may.all) in
          subst (λ (step : Step). Runs slots step.0 held (held_after held held.objects.items client a step.1) client table table a bytes step.1) (sym step_is)
          (saved_runs slots held client table a bytes may alone saves (subst (λ (step : Step). IsSlots step.0) step_is sound))
    ]

pub no_handle : (start has success : Bool) → has ≡ false → (not start && has && success) ≡ false
no_handle true has success is = refl
no_handle false true success is = absurd cc
no_handle false false success is = refl

saves_none : (slots : SlotState) (held : Held) (client : ℕ) (table : List (Option ℕ)) (a : Admitted) (bytes : List ℕ) (reply : List ℕ) → MayRun slots held client table a bytes
    → SavesObject slots held table a → tells_object a reply ≡ true → ⊥
saves_none slots held client table a bytes reply may saves told =
    let known = (clients_command (tables_seen PROFILE_CONTEXTS client table held.sessions.items) bytes a may.admitted).row in
    let row = row_as a.shape.row save_row CC_CONTEXT_SAVE known refl saves.is in
    let none : tells_object a reply ≡ false = no_handle (starts_session a) a.shape.row.response_handle (code_of reply == RC_SUCCESS) (ap (λ (r : CommandRow). r.response_handle) row) in
    true≢false (sym told ∙ none)

pub runs_then : {new_items : List Item} {new_table : List (Option ℕ)} (slots : SlotState) (held : Held) (client : ℕ) (table : List (Option ℕ)) (a : Admitted)
    (bytes new_reply : List ℕ) → MayRun slots held client table a bytes
    → saves_one a ≡ false → let step = slot_step slots (sent_over bytes a table held.objects.items) in tells_object a step.1 ≡ true
    → Adopts client (told_handle step.1) held.objects.items new_items table new_table → new_reply ≡ with_response_handle step.1 (next_handle table)
    → Runs slots step.0 held (held_after held new_items client a step.1) client table new_table a bytes new_reply
runs_then slots held client table a bytes new_reply may alone told adopts new_is =
    let step = slot_step slots (sent_over bytes a table held.objects.items) in
    elim (did slots held client table a bytes may alone) [
      | inl so ↦
          runs_then_by slots step.0 held client table a bytes so.created so.effect_reply step.1 new_reply may so.left (taken_here slots held client table a bytes may alone)
          told adopts new_is
      | inr saves ↦ absurd (saves_none slots held client table a bytes step.1 may saves told)
    ]
