-- What handles of objects stand for on a device, and that they are there.
use Rattle.std.proofs.Common.{◌≡◌, ◌+◌, ℕ, Bool, true, false, List, [], ◌∷◌, take, get_or, refl, ap, ◌∙◌}
use Rattle.std.specs.Prelude.{Option, Some, None, is_some, Result, Ok, not, ◌==◌, ◌&&◌, if◌then◌else◌}
use Rattle.std.specs.List.{list_any}
use Rattle.tab_spec.specs.declared.TheConstants.{HT_TRANSIENT, RC_OBJECT_MEMORY, RC_REFERENCE_H0}
use Rattle.tab_spec.specs.declared.Kind.{Kind}
use Rattle.tab_spec.specs.declared.Kind.TheVariants.{Absent}
use Rattle.tab_spec.specs.declared.Auths.{Auths}
use Rattle.tab_spec.specs.declared.Shape.{Shape}
use Rattle.tab_spec.specs.declared.Admitted.{Admitted}
use Rattle.tab_spec.specs.Admission.{is_missing, is_session_handle, object_too_many}
use Rattle.tab_spec.specs.Object.{Object}
use Rattle.tab_spec.specs.Session.{Session}
use Rattle.tab_spec.specs.Shape.{is_present, makes_object_by, octet_of}
use Rattle.tab_spec.specs.declared.contexts.TheConstants.{PROFILE_CONTEXTS}
use Rattle.effect_spec.specs.Operands.{absent, an_object, plain, object_operand, plain_operand, plain_operands, command_auth, session_operand, operand_by, operands_by}
use Rattle.device_spec.specs.Slots.{SlotState, in_slot, is_free, loaded_session, slot_operands, slot_tables}
use Rattle.tab_laws.specs.OtherHandles.{ArePasswords, HandlesAreThere, handled}
use Rattle.tab_laws.proofs.Passwords.{none_missing, none_repeated}
use Rattle.device_laws.specs.OtherHandles.{is_plain_handle, object_operands}
use Rattle.device_laws.proofs.ContextSteps.{object_there, room_by}
use Rattle.device_laws.proofs.OverHandles.{over_no_session, over_operands}

-- ---- what they stand for

record IsPlain (transient session : Bool) : Type 0 where
  no_object : transient ≡ false
  no_session : session ≡ false

is_plain : (transient session : Bool) → (not transient && not session) ≡ true → IsPlain transient session
is_plain true session e = absurd cc
is_plain false true e = absurd cc
is_plain false false e = record { no_object = refl; no_session = refl }

object_by : (present transient session : Bool) (handle : ℕ) (slot : Option Object) (found : Option Session) (o : Object) → present ≡ true → transient ≡ true
    → slot ≡ Some o
    → (if not present then absent else if transient then object_operand handle slot else if session then session_operand handle found else plain handle) ≡ an_object o
object_by true true session handle slot found o present transient is = ap (object_operand handle) is
object_by true false session handle slot found o present transient is = absurd cc
object_by false transient_here session handle slot found o present transient is = absurd cc

operand_is_object : (objects : ℕ → Option Object) (sessions : ℕ → Option Session) (kind : Kind) (handle : ℕ) (o : Object) → is_present kind ≡ true
    → (octet_of handle == HT_TRANSIENT) ≡ true → objects handle ≡ Some o → operand_by objects sessions kind handle ≡ an_object o
operand_is_object objects sessions kind handle o present transient is =
    object_by (is_present kind) (octet_of handle == HT_TRANSIENT) (is_session_handle handle) handle (objects handle) (sessions handle) o present transient is

plain_by : (present transient session : Bool) (handle : ℕ) (slot : Option Object) (found : Option Session) → transient ≡ false → session ≡ false
    → (if not present then absent else if transient then object_operand handle slot else if session then session_operand handle found else plain handle)
    ≡ (if present then plain handle else absent)
plain_by true true session handle slot found no_object no_session = absurd cc
plain_by true false true handle slot found no_object no_session = absurd cc
plain_by true false false handle slot found no_object no_session = refl
plain_by false transient session handle slot found no_object no_session = refl

operand_is_plain : (objects : ℕ → Option Object) (sessions : ℕ → Option Session) (kind : Kind) (handle : ℕ) → is_plain_handle handle ≡ true
    → operand_by objects sessions kind handle ≡ plain_operand kind handle
operand_is_plain objects sessions kind handle is =
    let parts = is_plain (octet_of handle == HT_TRANSIENT) (is_session_handle handle) is in
    plain_by (is_present kind) (octet_of handle == HT_TRANSIENT) (is_session_handle handle) handle (objects handle) (sessions handle)
    parts.no_object parts.no_session

-- handles of which the second is of neither an object nor a session, and an authorization that names none
pub object_named : (objects : ℕ → Option Object) (sessions : ℕ → Option Session) (shape : Shape) (auths : Auths) (o : Object)
    → is_present (get_or shape.row.handles 0 Absent) ≡ true → (octet_of (get_or shape.handles 0 0) == HT_TRANSIENT) ≡ true
    → objects (get_or shape.handles 0 0) ≡ Some o → is_plain_handle (get_or shape.handles 1 0) ≡ true → is_session_handle (command_auth auths).session ≡ false
    → operands_by objects sessions shape auths ≡ object_operands shape o (get_or shape.handles 1 0)
object_named objects sessions shape auths o present transient is plain_second no_session =
    let first = operand_is_object objects sessions (get_or shape.row.handles 0 Absent) (get_or shape.handles 0 0) o present transient is in
    let second = operand_is_plain objects sessions (get_or shape.row.handles 1 Absent) (get_or shape.handles 1 0) plain_second in
    over_no_session objects sessions shape auths no_session ∙ λ i. over_operands (first i) (second i)

pub plain_named : (objects : ℕ → Option Object) (sessions : ℕ → Option Session) (shape : Shape) (auths : Auths)
    → is_plain_handle (get_or shape.handles 0 0) ≡ true → is_plain_handle (get_or shape.handles 1 0) ≡ true
    → is_session_handle (command_auth auths).session ≡ false → operands_by objects sessions shape auths ≡ plain_operands shape
plain_named objects sessions shape auths plain_first plain_second no_session =
    let first = operand_is_plain objects sessions (get_or shape.row.handles 0 Absent) (get_or shape.handles 0 0) plain_first in
    let second = operand_is_plain objects sessions (get_or shape.row.handles 1 Absent) (get_or shape.handles 1 0) plain_second in
    over_no_session objects sessions shape auths no_session ∙ λ i. over_operands (first i) (second i)

pub object_stands : (slots : SlotState) (shape : Shape) (auths : Auths) (first second : ℕ) (o : Object) → is_present (get_or shape.row.handles 0 Absent) ≡ true
    → (octet_of first == HT_TRANSIENT) ≡ true → in_slot slots first ≡ Some o → is_plain_handle second ≡ true
    → is_session_handle (command_auth auths).session ≡ false → slot_operands slots (handled shape first second) auths ≡ object_operands shape o second
object_stands slots shape auths first second o present transient is plain_second no_session =
    object_named (in_slot slots) (loaded_session slots) (handled shape first second) auths o present transient is plain_second no_session

pub plain_stand : (slots : SlotState) (shape : Shape) (auths : Auths) (first second : ℕ) → is_plain_handle first ≡ true → is_plain_handle second ≡ true
    → is_session_handle (command_auth auths).session ≡ false → slot_operands slots (handled shape first second) auths ≡ plain_operands (handled shape first second)
plain_stand slots shape auths first second plain_first plain_second no_session =
    plain_named (in_slot slots) (loaded_session slots) (handled shape first second) auths plain_first plain_second no_session

-- ---- that they are there

plain_there_by : (transient session there loaded : Bool) → (not transient && not session) ≡ true
    → (if transient then not there else if session then not loaded else false) ≡ false
plain_there_by true session there loaded e = absurd cc
plain_there_by false true there loaded e = absurd cc
plain_there_by false false there loaded e = refl

plain_there : (slots : SlotState) (handle : ℕ) → is_plain_handle handle ≡ true → is_missing (slot_tables slots) handle ≡ false
plain_there slots handle is =
    plain_there_by (octet_of handle == HT_TRANSIENT) (is_session_handle handle) (is_some (in_slot slots handle)) (is_some (loaded_session slots handle)) is

object_is_there : (slots : SlotState) (handle : ℕ) (o : Object) → (octet_of handle == HT_TRANSIENT) ≡ true → in_slot slots handle ≡ Some o
    → is_missing (slot_tables slots) handle ≡ false
object_is_there slots handle o transient is = object_there (octet_of handle == HT_TRANSIENT) (in_slot slots handle) o _ transient is

both_there : (first second : Bool) (one two : ℕ) → first ≡ false → second ≡ false → (if first then Some one else if second then Some two else None) ≡ None
both_there first second one two first_is second_is = rw (first_is, second_is) refl

there_by : (slots : SlotState) (bytes : List ℕ) (a : Admitted) (first second : ℕ) → is_missing (slot_tables slots) first ≡ false
    → is_missing (slot_tables slots) second ≡ false → ArePasswords (take a.auths.count a.auths.auths)
    → object_too_many (slot_tables slots) a.shape bytes ≡ None → HandlesAreThere (slot_tables slots) bytes a first second
there_by slots bytes a first second first_there second_there passwords room = record {
  handles = both_there (is_missing (slot_tables slots) first) (is_missing (slot_tables slots) second) (RC_REFERENCE_H0 + 0) (RC_REFERENCE_H0 + 1) first_there second_there;
  sessions = none_missing (slot_tables slots) 0 (take a.auths.count a.auths.auths) passwords;
  once = none_repeated (first ∷ second ∷ []) 1 (take a.auths.count a.auths.auths) passwords;
  room = room;
}

pub object_and_plain_there : (slots : SlotState) (bytes : List ℕ) (a : Admitted) (first second : ℕ) (o : Object) → (octet_of first == HT_TRANSIENT) ≡ true
    → in_slot slots first ≡ Some o → is_plain_handle second ≡ true → ArePasswords (take a.auths.count a.auths.auths)
    → object_too_many (slot_tables slots) a.shape bytes ≡ None → HandlesAreThere (slot_tables slots) bytes a first second
object_and_plain_there slots bytes a first second o transient is plain_second passwords room =
    there_by slots bytes a first second (object_is_there slots first o transient is) (plain_there slots second plain_second) passwords room

pub both_plain_there : (slots : SlotState) (bytes : List ℕ) (a : Admitted) (first second : ℕ) → is_plain_handle first ≡ true → is_plain_handle second ≡ true
    → ArePasswords (take a.auths.count a.auths.auths) → object_too_many (slot_tables slots) a.shape bytes ≡ None → HandlesAreThere (slot_tables slots) bytes a first second
both_plain_there slots bytes a first second plain_first plain_second passwords room =
    there_by slots bytes a first second (plain_there slots first plain_first) (plain_there slots second plain_second) passwords room

pub free_is_room : (slots : SlotState) (shape : Shape) (bytes : List ℕ) → list_any is_free slots.slots ≡ true → object_too_many (slot_tables slots) shape bytes ≡ None
free_is_room slots shape bytes free =
    ap (λ (too_many : Bool). if too_many then Some RC_OBJECT_MEMORY else None)
    (room_by (makes_object_by PROFILE_CONTEXTS (let found : Result Shape ℕ = Ok shape in found) bytes) (slot_tables slots).is_full (ap not free))
