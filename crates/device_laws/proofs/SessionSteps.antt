-- What a started device does with the commands that move sessions out of it and into it.
use Rattle.std.proofs.Common.{◌≡◌, ◌+◌, ◌^◌, ◌<◌, ◌≤◌, ℕ, Bool, true, false, true≢false, List, [], ◌∷◌, length, take, drop, refl, ap, sym, ◌∙◌}
use Rattle.std.specs.Prelude.{◌==◌, ◌||◌, ◌&&◌, not, is_some, nat_le, nat_lt, Option, Some, None, Result, Ok, Err, if◌then◌else◌}
use Rattle.std.specs.Int.{w32, to_be_bytes, from_be_bytes}
use Rattle.std.proofs.lemmas.Bool.{and_from, cond_both, eq-eqb, eqb-true, lt-leb}
use Rattle.tab_spec.specs.declared.TheConstants.{HT_HMAC_SESSION, HT_POLICY_SESSION, HT_TRANSIENT, TRANSIENT_FIRST, ST_NO_SESSIONS, RC_1, RC_INSUFFICIENT, RC_P, RC_REFERENCE_H0, RC_SIZE, RC_SUCCESS, RC_VALUE}
use Rattle.tab_spec.specs.declared.Kind.TheVariants.{Saved}
use Rattle.tab_spec.specs.Shape.{is_of_kind, loads_object, octet_of, number_of_session}
use Rattle.tab_spec.specs.Admission.{is_session_handle, missing_handle}
use Rattle.tab_spec.specs.Reply.{response}
use Rattle.tab_spec.specs.Session.{Session}
use Rattle.tab_spec.specs.Values.{Reading, fixed_bytes, number32, number64, require, sized}
use Rattle.tab_spec.specs.Parameters.{in_parameter, when_read}
use Rattle.tab_spec.specs.declared.contexts.TheConstants.{PROFILE_CONTEXTS}
use Rattle.effect_spec.specs.Contexts.{Context, context_of, opened_object, opened_session, blob_fits}
use Rattle.device_spec.specs.ContextCommands.{context_load_command, context_save_command, flush_context_command}
use Rattle.device_spec.specs.Slots.{SlotState, SessionPlace, loaded, saved, Step, context_session, in_slot, is_saved_under, is_saved_with, loaded_count, loaded_session, object_flushed, object_loaded, object_saved, place_of, session_at, session_flushed, session_in_place, session_loaded, session_saved, slot_step, slot_tables, step_by, with_place}
use Rattle.tab_laws.proofs.OneSpelling.{Leaves, leaves_next, left_so}
use Rattle.device_laws.proofs.FreshContexts.{place_saved}
use Rattle.device_laws.proofs.ContextSteps.{flush_goes, flushed_by, handle_read, load_goes, loaded_by, save_admitted, save_goes, save_there}

-- ---- the handle of a session

not_transient_by : (octet : ℕ) (hmac policy : Bool) → (octet == HT_HMAC_SESSION) ≡ hmac → (octet == HT_POLICY_SESSION) ≡ policy → (hmac || policy) ≡ true
    → (octet == HT_TRANSIENT) ≡ false
not_transient_by octet true policy first second is = ap (λ (n : ℕ). n == HT_TRANSIENT) (eqb-true octet HT_HMAC_SESSION first)
not_transient_by octet false true first second is = ap (λ (n : ℕ). n == HT_TRANSIENT) (eqb-true octet HT_POLICY_SESSION second)
not_transient_by octet false false first second is = absurd (true≢false (sym is))

pub not_transient : (handle : ℕ) → is_session_handle handle ≡ true → (octet_of handle == HT_TRANSIENT) ≡ false
not_transient handle session =
    not_transient_by (octet_of handle) (octet_of handle == HT_HMAC_SESSION) (octet_of handle == HT_POLICY_SESSION) refl refl session

kind_by : (transient hmac policy : Bool) → (hmac || policy) ≡ true → (transient || hmac || policy) ≡ true
kind_by true hmac policy is = refl
kind_by false hmac policy is = is

session_kind : (handle : ℕ) → is_session_handle handle ≡ true → is_of_kind Saved handle ≡ true
session_kind handle session =
    kind_by (octet_of handle == HT_TRANSIENT) (octet_of handle == HT_HMAC_SESSION) (octet_of handle == HT_POLICY_SESSION) session

-- ---- ContextSave

session_there : (transient session object : Bool) (found : Option Session) (s : Session) → transient ≡ false → session ≡ true → found ≡ Some s
    → (if transient then object else if session then not (is_some found) else false) ≡ false
session_there transient session object found s transient_is session_is there = rw (transient_is, session_is, there) refl

session_not_missing : (slots : SlotState) (handle : ℕ) (s : Session) → is_session_handle handle ≡ true → loaded_session slots handle ≡ Some s
    → missing_handle (slot_tables slots) 0 (handle ∷ 0 ∷ []) ≡ None
session_not_missing slots handle s session there =
    ap (λ (missing : Bool). if missing then Some (RC_REFERENCE_H0 + 0) else None)
    (session_there (octet_of handle == HT_TRANSIENT) (is_session_handle handle) (not (is_some (in_slot slots handle))) (loaded_session slots handle) s
    (not_transient handle session) session there)

saved_by : (slots : SlotState) (handle : ℕ) (transient : Bool) (object : Result Step ℕ) (found : Option Session) (s : Session) → transient ≡ false → found ≡ Some s
    → (if transient then object else session_saved slots handle found) ≡ session_saved slots handle (Some s)
saved_by slots handle transient object found s is there = rw (is, there) refl

-- ContextSave of a loaded session
pub session_save_step : (slots : SlotState) (handle : ℕ) (s : Session) → slots.started ≡ true → handle < 2 ^ 32 → is_session_handle handle ≡ true
    → loaded_session slots handle ≡ Some s → slot_step slots (context_save_command handle) ≡ step_by slots (session_saved slots handle (Some s))
session_save_step slots handle s started fits session there =
    save_goes slots handle started fits (session_kind handle session)
    ∙ ap (save_admitted slots handle) (session_not_missing slots handle s session there)
    ∙ save_there slots handle
    ∙ ap (step_by slots)
    (saved_by slots handle (octet_of handle == HT_TRANSIENT) (object_saved slots (in_slot slots handle)) (loaded_session slots handle) s
    (not_transient handle session) there)

-- ---- FlushContext

flush_by : (transient session : Bool) (object ends other : Result Step ℕ) → transient ≡ false → session ≡ true
    → (if transient then object else if session then ends else other) ≡ ends
flush_by transient session object ends other transient_is session_is = rw (transient_is, session_is) refl

-- FlushContext of a session, loaded or saved
pub session_flush_step : (slots : SlotState) (handle : ℕ) → slots.started ≡ true → handle < 2 ^ 32 → is_session_handle handle ≡ true
    → slot_step slots (flush_context_command handle) ≡ step_by slots (session_flushed slots handle)
session_flush_step slots handle started fits session =
    flush_goes slots handle started ∙ ap (λ (read : Reading ℕ). step_by slots (flushed_by slots read)) (handle_read handle fits)
    ∙ ap (step_by slots)
    (flush_by (octet_of handle == HT_TRANSIENT) (is_session_handle handle) (object_flushed slots handle (in_slot slots handle)) (session_flushed slots handle)
    (Err (RC_VALUE + RC_P + RC_1)) (not_transient handle session) session)

-- ---- ContextLoad

-- the savedHandle of a context stands in its second field
abbrev HandleThere : List ℕ → Context → List ℕ → Type 0
HandleThere bytes c rest = c.saved_handle ≡ from_be_bytes w32 (take 4 (drop 8 bytes))

abbrev IsCut : ℕ → List ℕ → List ℕ → List ℕ → Type 0
IsCut size bytes read rest = (read ≡ take size bytes) × (rest ≡ drop size bytes)

fixed_cut : (size lacking : ℕ) (bytes : List ℕ) → Leaves (IsCut size bytes) (fixed_bytes size lacking bytes)
fixed_cut size lacking bytes =
    cond_both (nat_lt (length bytes) size) (Err lacking) (Ok (take size bytes, drop size bytes)) (Leaves (IsCut size bytes)) (λ few. tt) (λ there. (refl, refl))

abbrev IsNumber : List ℕ → ℕ → List ℕ → Type 0
IsNumber bytes n rest = n ≡ from_be_bytes w32 (take 4 bytes)

number32_there : (bytes : List ℕ) → Leaves (IsNumber bytes) (number32 RC_INSUFFICIENT bytes)
number32_there bytes =
    leaves_next (IsCut 4 bytes) (IsNumber bytes) (fixed_bytes 4 RC_INSUFFICIENT bytes) _ (fixed_cut 4 RC_INSUFFICIENT bytes)
    (λ read rest cut. ap (from_be_bytes w32) cut.0)

abbrev Behind8 : List ℕ → ℕ → List ℕ → Type 0
Behind8 bytes n rest = rest ≡ drop 8 bytes

number64_there : (bytes : List ℕ) → Leaves (Behind8 bytes) (number64 RC_INSUFFICIENT bytes)
number64_there bytes =
    leaves_next (IsCut 8 bytes) (Behind8 bytes) (fixed_bytes 8 RC_INSUFFICIENT bytes) _ (fixed_cut 8 RC_INSUFFICIENT bytes) (λ read rest cut. cut.1)

leaves_all : {X : Type 0} (r : Reading X) → Leaves (λ read rest. Unit) r
leaves_all (Err code) = tt
leaves_all (Ok read) = tt

handle_there : (bytes : List ℕ) → Leaves (HandleThere bytes) (context_of bytes)
handle_there bytes =
    let Ends = HandleThere bytes in
    leaves_next (Behind8 bytes) Ends (number64 RC_INSUFFICIENT bytes) _ (number64_there bytes) (λ sequence on1 behind.
    leaves_next (IsNumber on1) Ends (number32 RC_INSUFFICIENT on1) _ (number32_there on1) (λ saved_handle on2 number.
    leaves_next (λ read rest. Unit) Ends (number32 RC_INSUFFICIENT on2) _ (leaves_all (number32 RC_INSUFFICIENT on2)) (λ hierarchy on3 any.
    leaves_next (λ read rest. Unit) Ends (sized RC_INSUFFICIENT on3) _ (leaves_all (sized RC_INSUFFICIENT on3)) (λ blob rest any.
    number ∙ ap (λ (on : List ℕ). from_be_bytes w32 (take 4 on)) behind))))

no_object_by : (long same : Bool) → same ≡ false → (long && same) ≡ false
no_object_by true same is = is
no_object_by false same is = refl

no_room_needed : (loads full : Bool) → loads ≡ false → (loads && full) ≡ false
no_room_needed loads full is = rw is refl

other_handle_by : (same : Bool) (handle : ℕ) → (handle == TRANSIENT_FIRST) ≡ same → is_session_handle handle ≡ true → same ≡ false
other_handle_by false handle is session = refl
other_handle_by true handle is session =
    absurd (true≢false (sym session ∙ ap (λ (h : ℕ). is_session_handle h) (eqb-true handle TRANSIENT_FIRST is)))

-- a session's handle is no object's
other_handle : (handle : ℕ) → is_session_handle handle ≡ true → (handle == TRANSIENT_FIRST) ≡ false
other_handle handle session = other_handle_by (handle == TRANSIENT_FIRST) handle refl session

loads_none : (context : List ℕ) (c : Context) (rest : List ℕ) → context_of context ≡ Ok (c, rest) → is_session_handle c.saved_handle ≡ true
    → loads_object PROFILE_CONTEXTS (context_load_command context) ≡ false
loads_none context c rest is session =
    let there : c.saved_handle ≡ from_be_bytes w32 (take 4 (drop 8 context)) = left_so (HandleThere context) (context_of context) c rest (handle_there context) is in
    no_object_by (not (nat_lt (length (context_load_command context)) 22)) (from_be_bytes w32 (take 4 (drop 8 context)) == TRANSIENT_FIRST)
    (ap (λ (h : ℕ). h == TRANSIENT_FIRST) (sym there) ∙ other_handle c.saved_handle session)

-- what a context that is found gives
record Found (seed bytes : List ℕ) (handle number : ℕ) (read : Context × List ℕ) (s : Session) : Type 0 where
  whole : (length read.1 == 0) ≡ true
  fits : blob_fits read.0 ≡ true
  handle_is : (read.0.saved_handle == handle) ≡ true
  number_is : (read.0.sequence == number) ≡ true
  opened : opened_session seed bytes ≡ Some s

found_by : (seed bytes : List ℕ) (handle number : ℕ) (read : Context × List ℕ) (s : Session) (whole fits same last : Bool)
    → (length read.1 == 0) ≡ whole → blob_fits read.0 ≡ fits → (read.0.saved_handle == handle) ≡ same → (read.0.sequence == number) ≡ last
    → (if whole && fits && same && last then opened_session seed bytes else None) ≡ Some s → Found seed bytes handle number read s
found_by seed bytes handle number read s true true true true a b c d is = record { whole = a; fits = b; handle_is = c; number_is = d; opened = is }
found_by seed bytes handle number read s true true true false a b c d is = absurd cc
found_by seed bytes handle number read s true true false last a b c d is = absurd cc
found_by seed bytes handle number read s true false same last a b c d is = absurd cc
found_by seed bytes handle number read s false fits same last a b c d is = absurd cc

-- the reply and the state, where there is room for a session in use
abbrev pub session_back : SlotState → ℕ → Session → Step
session_back slots handle s = (
  with_place slots (number_of_session handle) (loaded (octet_of handle) s),
  response ST_NO_SESSIONS RC_SUCCESS (to_be_bytes w32 handle),
)

read_back : (slots : SlotState) (read : Context × List ℕ) (made : Result Step ℕ) (opened : Option Session) (s : Session)
    → (length read.1 == 0) ≡ true → blob_fits read.0 ≡ true → (read.0.saved_handle == TRANSIENT_FIRST) ≡ false → is_session_handle read.0.saved_handle ≡ true
    → opened ≡ Some s → is_saved_under slots read.0.saved_handle read.0.sequence ≡ true → nat_le slots.numbers.loaded (loaded_count slots.sessions) ≡ false
    → when_read (in_parameter 1 (require blob_fits RC_SIZE (Ok read)))
    (λ c.
    if c.saved_handle == TRANSIENT_FIRST then made
    else if is_session_handle c.saved_handle then session_loaded slots c opened
    else Err (RC_VALUE + RC_P + RC_1))
    ≡ Ok (session_back slots read.0.saved_handle s)
read_back slots read made opened s whole fits other session opened_is under room = rw (fits, whole, other, session, opened_is, under, room) refl

-- a number that is saved under this handle and number is so
saved_under : (slots : SlotState) (handle number : ℕ) → place_of slots handle ≡ saved (octet_of handle) number → is_saved_under slots handle number ≡ true
saved_under slots handle number there =
    ap (is_saved_with (octet_of handle) number) there
    ∙ and_from (octet_of handle == octet_of handle) (number == number) (eq-eqb (octet_of handle) (octet_of handle) refl) (eq-eqb number number refl)

loaded_back : (slots : SlotState) (context : List ℕ) (handle number : ℕ) (s : Session) (r : Reading Context) → context_of context ≡ r
    → context_session slots.persist.seed context handle number r ≡ Some s → slots.started ≡ true → length context ≤ 4086 → is_session_handle handle ≡ true
    → place_of slots handle ≡ saved (octet_of handle) number → loaded_count slots.sessions < slots.numbers.loaded
    → slot_step slots (context_load_command context) ≡ session_back slots handle s
loaded_back slots context handle number s (Err code) is found started fits session there room = absurd cc
loaded_back slots context handle number s (Ok read) is found started fits session there room =
    let seed = slots.persist.seed in
    let c = read.0 in
    let gives = found_by seed context handle number read s (length read.1 == 0) (blob_fits c) (c.saved_handle == handle) (c.sequence == number) refl refl refl refl found in
    let same : c.saved_handle ≡ handle = eqb-true c.saved_handle handle gives.handle_is in
    let last : c.sequence ≡ number = eqb-true c.sequence number gives.number_is in
    let its : is_session_handle c.saved_handle ≡ true = ap (λ (h : ℕ). is_session_handle h) same ∙ session in
    let under : is_saved_under slots c.saved_handle c.sequence ≡ true =
    ap (λ (h : ℕ). is_saved_under slots h c.sequence) same ∙ ap (λ (n : ℕ). is_saved_under slots handle n) last ∙ saved_under slots handle number there in
    let none : loads_object PROFILE_CONTEXTS (context_load_command context) ≡ false = loads_none context c read.1 is its in
    load_goes slots context started fits (no_room_needed (loads_object PROFILE_CONTEXTS (context_load_command context)) (slot_tables slots).is_full none)
    ∙ ap (λ (r : Reading Context). step_by slots (loaded_by slots context r)) is
    ∙ ap (step_by slots)
    (read_back slots read (object_loaded slots (opened_object seed context)) (opened_session seed context) s gives.whole gives.fits (other_handle c.saved_handle its) its
    gives.opened under (lt-leb slots.numbers.loaded (loaded_count slots.sessions) room))
    ∙ ap (λ (h : ℕ). session_back slots h s) same

-- ContextLoad of the last context of a saved session, where a place is free
pub session_load_step : (slots : SlotState) (context : List ℕ) (handle number : ℕ) (s : Session) → slots.started ≡ true → length context ≤ 4086
    → is_session_handle handle ≡ true → place_of slots handle ≡ saved (octet_of handle) number → loaded_count slots.sessions < slots.numbers.loaded
    → session_at slots handle (Some context) ≡ Some s → slot_step slots (context_load_command context) ≡ session_back slots handle s
session_load_step slots context handle number s started fits session there room is =
    let seed = slots.persist.seed in
    let found : context_session seed context handle number (context_of context) ≡ Some s =
    sym (ap (λ (place : SessionPlace). session_in_place seed handle place (Some context)) there ∙ place_saved seed handle (octet_of handle) number (Some context) refl) ∙ is in
    loaded_back slots context handle number s (context_of context) refl found started fits session there room
