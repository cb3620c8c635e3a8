-- Where objects and sessions are: a fresh context of the device stands for what was saved in it, and what is found is of this profile.
use Rattle.std.proofs.Common.{◌≡◌, ◌+◌, ◌^◌, ◌<◌, ◌≤◌, ℕ, Bool, true, List, [], ◌++◌, length, get_or, refl, ap, subst, sym, ◌∙◌, arith, length-append}
use Rattle.std.specs.Prelude.{◌==◌, ◌&&◌, Option, Some, None, IfSome, Ok, Err, if◌then◌else◌}
use Rattle.std.proofs.lemmas.Bool.{cond_both, eq-eqb, le-leb}
use Rattle.sha2.proofs.Facts256.{length-sha256}
use Rattle.tab_spec.specs.declared.TheConstants.{MOST_BLOB_BYTES, RH_NULL, RH_OWNER, TRANSIENT_FIRST}
use Rattle.tab_spec.specs.Shape.{octet_of, number_of_session}
use Rattle.tab_spec.specs.Object.{Object, object_bytes, IsObject}
use Rattle.tab_spec.specs.Session.{Session, session_bytes, IsSession}
use Rattle.tab_spec.specs.Values.{AreBytes, Reading, sized_bytes}
use Rattle.effect_spec.specs.Contexts.{Context, context_bytes, context_encrypted, context_integrity, context_of, object_context, opened_object, opened_session, session_context, blob_fits}
use Rattle.device_spec.specs.Slots.{SlotState, SessionPlace, inactive, loaded, saved, IsPlace, IsSlots, context_object, context_session, object_at, place_of, session_at, session_in_place, session_of_context}
use Rattle.tab_laws.proofs.Objects.{length-sized, object_small}
use Rattle.tab_laws.proofs.Sessions.{session_small}
use Rattle.device_laws.proofs.Contexts.{context_again, masked_length, object_opened, opened_is}
use Rattle.device_laws.proofs.Places.{place_at}
use Rattle.device_laws.proofs.SessionContexts.{session_opened, session_opened_is}
use Rattle.device_laws.proofs.Standing.{one_in_place}

-- ---- what is read of a fresh context

-- the context that stands in these bytes
abbrev fresh : List ℕ → ℕ → ℕ → ℕ → List ℕ → Context
fresh seed sequence saved_handle hierarchy plain = record {
  sequence = sequence;
  saved_handle = saved_handle;
  hierarchy = hierarchy;
  blob = sized_bytes (context_integrity seed sequence saved_handle hierarchy (context_encrypted seed sequence saved_handle plain)) ++ context_encrypted seed sequence saved_handle plain;
}

fresh_length : (seed : List ℕ) (sequence saved_handle hierarchy : ℕ) (plain : List ℕ)
    → length (fresh seed sequence saved_handle hierarchy plain).blob ≡ 34 + length plain
fresh_length seed sequence saved_handle hierarchy plain =
    let bytes = context_encrypted seed sequence saved_handle plain in
    let code = context_integrity seed sequence saved_handle hierarchy bytes in
    let code_long : length code ≡ 32 = length-sha256 _ in
    let bytes_long : length bytes ≡ length plain = masked_length seed _ _ _ plain in
    omega (arith, length-append (sized_bytes code) bytes, length-sized code)

fresh_read : (seed : List ℕ) (sequence saved_handle hierarchy : ℕ) (plain : List ℕ) → sequence < 2 ^ 64 → saved_handle < 2 ^ 32 → hierarchy < 2 ^ 32
    → length plain < 2 ^ 15
    → context_of (context_bytes seed sequence saved_handle hierarchy plain) ≡ Ok (fresh seed sequence saved_handle hierarchy plain, [])
fresh_read seed sequence saved_handle hierarchy plain sequence_fits handle_fits hierarchy_fits small =
    context_again (fresh seed sequence saved_handle hierarchy plain) sequence_fits handle_fits hierarchy_fits
    (omega (arith, fresh_length seed sequence saved_handle hierarchy plain))

fresh_fits : (seed : List ℕ) (sequence saved_handle hierarchy : ℕ) (plain : List ℕ) → length plain ≤ 1000
    → blob_fits (fresh seed sequence saved_handle hierarchy plain) ≡ true
fresh_fits seed sequence saved_handle hierarchy plain small =
    le-leb (length (fresh seed sequence saved_handle hierarchy plain).blob) MOST_BLOB_BYTES
    (omega (arith, fresh_length seed sequence saved_handle hierarchy plain))

-- ---- objects

passes_three : {X : Type 0} (fits same : Bool) (found : Option X) → fits ≡ true → same ≡ true → (if true && fits && same then found else None) ≡ found
passes_three fits same found fits_is same_is = rw (fits_is, same_is) refl

object_of_fresh : (seed bytes : List ℕ) (c : Context) → blob_fits c ≡ true → c.saved_handle ≡ TRANSIENT_FIRST
    → context_object seed bytes (Ok (c, [])) ≡ opened_object seed bytes
object_of_fresh seed bytes c fits same =
    passes_three (blob_fits c) (c.saved_handle == TRANSIENT_FIRST) (opened_object seed bytes) fits (eq-eqb c.saved_handle TRANSIENT_FIRST same)

-- a fresh context of the device's own is the object
pub fresh_object_at : (slots : SlotState) (sequence : ℕ) (o : Object) → IsObject o → sequence < 2 ^ 64
    → object_at slots None (Some (object_context slots.persist.seed sequence o)) ≡ Some o
fresh_object_at slots sequence o is fits =
    let seed = slots.persist.seed in
    let bytes = object_context seed sequence o in
    let plain = object_bytes o in
    let small = object_small o is in
    ap (context_object seed bytes) (fresh_read seed sequence TRANSIENT_FIRST RH_OWNER plain fits (omega arith) (omega arith) (omega (arith, small)))
    ∙ object_of_fresh seed bytes (fresh seed sequence TRANSIENT_FIRST RH_OWNER plain) (fresh_fits seed sequence TRANSIENT_FIRST RH_OWNER plain (omega (arith, small))) refl
    ∙ object_opened seed sequence o is fits

context_object_is : (seed bytes : List ℕ) (r : Reading Context) (opened : Option Object) → IfSome opened IsObject → opened_object seed bytes ≡ opened
    → IfSome (context_object seed bytes r) IsObject
context_object_is seed bytes (Err code) opened all is = tt
context_object_is seed bytes (Ok read) opened all is =
    cond_both (length read.1 == 0 && blob_fits read.0 && read.0.saved_handle == TRANSIENT_FIRST) (opened_object seed bytes) None (λ found. IfSome found IsObject)
    (λ whole. subst (λ found. IfSome found IsObject) (sym is) all) (λ other. tt)

opened_object_is : (seed bytes : List ℕ) (opened : Option Object) → opened_object seed bytes ≡ opened → IfSome opened IsObject
opened_object_is seed bytes None is = tt
opened_object_is seed bytes (Some o) is = opened_is seed bytes o is

-- what is found is an object of this profile
pub object_at_is : (slots : SlotState) (slot : Option ℕ) (context : Option (List ℕ)) → IsSlots slots → IfSome (object_at slots slot context) IsObject
object_at_is slots (Some slot) context sound = one_in_place slots.slots slot sound.objects
object_at_is slots None None sound = tt
object_at_is slots None (Some bytes) sound =
    let seed = slots.persist.seed in
    context_object_is seed bytes (context_of bytes) (opened_object seed bytes) (opened_object_is seed bytes (opened_object seed bytes) refl) refl

-- it depends on the slots and the seed alone
pub object_at_same : (slots other : SlotState) (slot : Option ℕ) (context : Option (List ℕ)) → slots.slots ≡ other.slots
    → slots.persist.seed ≡ other.persist.seed → object_at slots slot context ≡ object_at other slot context
object_at_same slots other (Some slot) context same seed = ap (λ (held : List (Option Object)). get_or held slot None) same
object_at_same slots other None None same seed = refl
object_at_same slots other None (Some bytes) same seed = ap (λ (key : List ℕ). context_object key bytes (context_of bytes)) seed

-- ---- sessions

passes_four : {X : Type 0} (fits same last : Bool) (found : Option X) → fits ≡ true → same ≡ true → last ≡ true
    → (if true && fits && same && last then found else None) ≡ found
passes_four fits same last found fits_is same_is last_is = rw (fits_is, same_is, last_is) refl

session_of_fresh : (seed bytes : List ℕ) (handle number : ℕ) (c : Context) → blob_fits c ≡ true → c.saved_handle ≡ handle → c.sequence ≡ number
    → context_session seed bytes handle number (Ok (c, [])) ≡ opened_session seed bytes
session_of_fresh seed bytes handle number c fits same last =
    passes_four (blob_fits c) (c.saved_handle == handle) (c.sequence == number) (opened_session seed bytes) fits (eq-eqb c.saved_handle handle same)
    (eq-eqb c.sequence number last)

pub place_saved : (seed : List ℕ) (handle octet number : ℕ) (context : Option (List ℕ)) → octet ≡ octet_of handle
    → session_in_place seed handle (saved octet number) context ≡ session_of_context seed handle number context
place_saved seed handle octet number context same =
    ap (λ (test : Bool). if test then session_of_context seed handle number context else None) (eq-eqb octet (octet_of handle) same)

-- a fresh context of the device's own is the session
pub fresh_session_of : (seed : List ℕ) (handle number : ℕ) (s : Session) → IsSession s → handle < 2 ^ 32 → number < 2 ^ 64
    → session_of_context seed handle number (Some (session_context seed handle number s)) ≡ Some s
fresh_session_of seed handle number s is handle_fits fits =
    let bytes = session_context seed handle number s in
    let plain = session_bytes s in
    let small = session_small s is in
    ap (context_session seed bytes handle number) (fresh_read seed number handle RH_NULL plain fits handle_fits (omega arith) (omega (arith, small)))
    ∙ session_of_fresh seed bytes handle number (fresh seed number handle RH_NULL plain) (fresh_fits seed number handle RH_NULL plain (omega (arith, small))) refl refl
    ∙ session_opened seed handle number s is handle_fits fits

-- it stands for it where it is saved under this handle and number
pub fresh_session_at : (slots : SlotState) (handle number : ℕ) (s : Session) → IsSession s → handle < 2 ^ 32 → number < 2 ^ 64
    → place_of slots handle ≡ saved (octet_of handle) number
    → session_at slots handle (Some (session_context slots.persist.seed handle number s)) ≡ Some s
fresh_session_at slots handle number s is handle_fits fits there =
    let seed = slots.persist.seed in
    let bytes = session_context seed handle number s in
    ap (λ (place : SessionPlace). session_in_place seed handle place (Some bytes)) there
    ∙ place_saved seed handle (octet_of handle) number (Some bytes) refl
    ∙ fresh_session_of seed handle number s is handle_fits fits

opened_session_is : (seed bytes : List ℕ) (opened : Option Session) → opened_session seed bytes ≡ opened → AreBytes bytes → IfSome opened IsSession
opened_session_is seed bytes None is all = tt
opened_session_is seed bytes (Some s) is all = session_opened_is seed bytes s all is

context_session_is : (seed bytes : List ℕ) (handle number : ℕ) (r : Reading Context) → IfSome (opened_session seed bytes) IsSession
    → IfSome (context_session seed bytes handle number r) IsSession
context_session_is seed bytes handle number (Err code) all = tt
context_session_is seed bytes handle number (Ok read) all =
    cond_both (length read.1 == 0 && blob_fits read.0 && read.0.saved_handle == handle && read.0.sequence == number) (opened_session seed bytes) None
    (λ found. IfSome found IsSession) (λ whole. all) (λ other. tt)

session_of_context_is : (seed : List ℕ) (handle number : ℕ) (context : Option (List ℕ)) → IfSome context AreBytes
    → IfSome (session_of_context seed handle number context) IsSession
session_of_context_is seed handle number None all = tt
session_of_context_is seed handle number (Some bytes) all =
    context_session_is seed bytes handle number (context_of bytes) (opened_session_is seed bytes (opened_session seed bytes) refl all)

session_in_place_is : (seed : List ℕ) (counter handle : ℕ) (place : SessionPlace) (context : Option (List ℕ)) → IsPlace counter place → IfSome context AreBytes
    → IfSome (session_in_place seed handle place context) IsSession
session_in_place_is seed counter handle inactive context is all = tt
session_in_place_is seed counter handle (loaded octet s) context is all =
    cond_both (octet == octet_of handle) (Some s) None (λ found. IfSome found IsSession) (λ same. is.1) (λ other. tt)
session_in_place_is seed counter handle (saved octet number) context is all =
    cond_both (octet == octet_of handle) (session_of_context seed handle number context) None (λ found. IfSome found IsSession)
    (λ same. session_of_context_is seed handle number context all) (λ other. tt)

-- what is found is a session of this profile
pub session_at_is : (slots : SlotState) (handle : ℕ) (context : Option (List ℕ)) → IsSlots slots → IfSome context AreBytes
    → IfSome (session_at slots handle context) IsSession
session_at_is slots handle context sound all =
    session_in_place_is slots.persist.seed slots.counter handle (place_of slots handle) context
    (place_at slots.counter slots.sessions (number_of_session handle) sound.places) all
