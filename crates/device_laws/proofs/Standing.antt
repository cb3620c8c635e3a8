-- What the handles of a command stand for on a device, and what a command leaves of its sessions.
use Rattle.std.proofs.Common.{◌≡◌, ℕ, zero, suc, Bool, true, false, List, [], ◌∷◌, get_or, refl, subst}
use Rattle.std.specs.Prelude.{Option, Some, None, IfSome, not, ◌==◌}
use Rattle.std.specs.List.{AllByRecursion}
use Rattle.std.proofs.lemmas.Bool.{eqb-true, cond_both}
use Rattle.tab_spec.specs.declared.TheConstants.{HT_TRANSIENT}
use Rattle.tab_spec.specs.declared.Kind.{Kind}
use Rattle.tab_spec.specs.declared.Kind.TheVariants.{Absent}
use Rattle.tab_spec.specs.declared.Shape.{Shape}
use Rattle.tab_spec.specs.declared.Auths.{Auths}
use Rattle.tab_spec.specs.Admission.{is_session_handle}
use Rattle.tab_spec.specs.Shape.{octet_of, is_present, is_session_octet, number_of_session}
use Rattle.tab_spec.specs.Object.{IsObject, Object}
use Rattle.tab_spec.specs.Session.{IsSession, Session}
use Rattle.effect_spec.specs.Operands.{object_operand, Operand, absent, plain, an_object, a_session, Operands, operand_at, object_in, session_in, with_session, first_session, policy_session_in, handles_left, named_session, session_left, command_auth, session_operand, with_handle, with_operand, with_authorization, operand_by, session_named}
use Rattle.device_spec.specs.Slots.{SlotState, SessionPlace, inactive, loaded, saved, IsPlace, IsSlots, is_loaded, in_slot, slot_of, place_of, loaded_in, loaded_session, slot_operands, sessions_left, loaded_under}
use Rattle.device_laws.proofs.Places.{ArePlaces, KeepsPlaces, kept_inactive, kept_loaded, place_at, same_places, still_loaded}

-- ---- what is in a slot

pub one_in_place : (slots : List (Option Object)) (place : ℕ) → AllByRecursion (λ slot. IfSome slot IsObject) slots → IfSome (get_or slots place None) IsObject
one_in_place [] place all = tt
one_in_place (held ∷ slots) zero all = all.0
one_in_place (held ∷ slots) (suc place) all = one_in_place slots place all.1

pub object_in_slot : (slots : SlotState) (handle : ℕ) → IsSlots slots → IfSome (in_slot slots handle) IsObject
object_in_slot slots handle sound = one_in_place slots.slots (slot_of handle) sound.objects

-- ---- sessions

-- a session that is loaded under this handle
abbrev pub IsLoadedAs : List SessionPlace → ℕ → Session → Type 0
IsLoadedAs sessions handle s =
    (is_session_octet (octet_of handle) ≡ true) × ((is_loaded (get_or sessions (number_of_session handle) inactive) ≡ true) × IsSession s)

same_octet : (kept octet : ℕ) → is_session_octet kept ≡ true → (kept == octet) ≡ true → is_session_octet octet ≡ true
same_octet kept octet is same = subst (λ (n : ℕ). is_session_octet n ≡ true) (eqb-true kept octet same) is

loaded_in_place : (counter octet : ℕ) (place : SessionPlace) → IsPlace counter place
    → IfSome (loaded_in octet place) (λ s. (is_session_octet octet ≡ true) × ((is_loaded place ≡ true) × IsSession s))
loaded_in_place counter octet inactive is = tt
loaded_in_place counter octet (saved kept number) is = tt
loaded_in_place counter octet (loaded kept s) is =
    cond_both (kept == octet) (Some s) None (λ found. IfSome found (λ s. (is_session_octet octet ≡ true) × ((true ≡ true) × IsSession s)))
    (λ same. (same_octet kept octet is.0 same, (refl, is.1))) (λ other. tt)

pub is_loaded_as : (slots : SlotState) (handle : ℕ) → IsSlots slots → IfSome (loaded_session slots handle) (IsLoadedAs slots.sessions handle)
is_loaded_as slots handle sound =
    loaded_in_place slots.counter (octet_of handle) (place_of slots handle) (place_at slots.counter slots.sessions (number_of_session handle) sound.places)

-- ---- operands

-- an operand stands for an object of this profile, or for a loaded session
abbrev pub Stands : List SessionPlace → Operand → Type 0
Stands sessions absent = Unit
Stands sessions (plain handle) = Unit
Stands sessions (an_object o) = IsObject o
Stands sessions (a_session handle s) = IsLoadedAs sessions handle s

held_stands : (sessions : List SessionPlace) (handle : ℕ) (slot : Option Object) → IfSome slot IsObject → Stands sessions (object_operand handle slot)
held_stands sessions handle None is = tt
held_stands sessions handle (Some o) is = is

session_stands : (sessions : List SessionPlace) (handle : ℕ) (found : Option Session) → IfSome found (IsLoadedAs sessions handle)
    → Stands sessions (session_operand handle found)
session_stands sessions handle None is = tt
session_stands sessions handle (Some s) is = is

pub slot_stands : (slots : SlotState) (kind : Kind) (handle : ℕ) → IsSlots slots → Stands slots.sessions (operand_by (in_slot slots) (loaded_session slots) kind handle)
slot_stands slots kind handle sound =
    let Well : Operand → Type 0 = Stands slots.sessions in
    cond_both (not (is_present kind)) absent _ Well (λ none. tt) (λ there.
    cond_both (octet_of handle == HT_TRANSIENT) (object_operand handle (in_slot slots handle)) _ Well
    (λ transient. held_stands slots.sessions handle (in_slot slots handle) (object_in_slot slots handle sound)) (λ other.
    cond_both (is_session_handle handle) (session_operand handle (loaded_session slots handle)) (plain handle) Well
    (λ session. session_stands slots.sessions handle (loaded_session slots handle) (is_loaded_as slots handle sound)) (λ plain. tt)))

-- what the authorization names
abbrev pub IsNamed : List SessionPlace → Option (ℕ × Session) → Type 0
IsNamed sessions None = Unit
IsNamed sessions (Some named) = IsLoadedAs sessions named.0 named.1

with_handle_named : (sessions : List SessionPlace) (handle : ℕ) (found : Option Session) → IfSome found (IsLoadedAs sessions handle)
    → IsNamed sessions (with_handle handle found)
with_handle_named sessions handle None is = tt
with_handle_named sessions handle (Some s) is = is

auth_named : (slots : SlotState) (handle : ℕ) → IsSlots slots → IsNamed slots.sessions (session_named (loaded_session slots) handle)
auth_named slots handle sound =
    cond_both (is_session_handle handle) (with_handle handle (loaded_session slots handle)) None (IsNamed slots.sessions)
    (λ session. with_handle_named slots.sessions handle (loaded_session slots handle) (is_loaded_as slots handle sound)) (λ other. tt)

-- all that a command names
pub record StandAll (sessions : List SessionPlace) (operands : Operands) : Type 0 where
  pub first : Stands sessions (operand_at operands.handles 0)
  pub second : Stands sessions (operand_at operands.handles 1)
  pub named : IsNamed sessions operands.session

pub operands_stand : (slots : SlotState) (shape : Shape) (auths : Auths) → IsSlots slots → StandAll slots.sessions (slot_operands slots shape auths)
operands_stand slots shape auths sound = record {
  first = slot_stands slots (get_or shape.row.handles 0 Absent) (get_or shape.handles 0 0) sound;
  second = slot_stands slots (get_or shape.row.handles 1 Absent) (get_or shape.handles 1 0) sound;
  named = auth_named slots (command_auth auths).session sound;
}

-- ---- what they stand for is of this profile

object_of_operand : (sessions : List SessionPlace) (operand : Operand) → Stands sessions operand → IfSome (object_in operand) IsObject
object_of_operand sessions absent stands = tt
object_of_operand sessions (plain handle) stands = tt
object_of_operand sessions (an_object o) stands = stands
object_of_operand sessions (a_session handle s) stands = tt

session_of_operand : (sessions : List SessionPlace) (operand : Operand) → Stands sessions operand → IfSome (session_in operand) IsSession
session_of_operand sessions absent stands = tt
session_of_operand sessions (plain handle) stands = tt
session_of_operand sessions (an_object o) stands = tt
session_of_operand sessions (a_session handle s) stands = stands.1.1

first_is : (first second : Option Session) → IfSome first IsSession → IfSome second IsSession → IfSome (first_session first second) IsSession
first_is None second first_session second_session = second_session
first_is (Some s) second first_session second_session = first_session

pub object_stands : (sessions : List SessionPlace) (operands : Operands) → StandAll sessions operands → IfSome (object_in (operand_at operands.handles 0)) IsObject
object_stands sessions operands stand = object_of_operand sessions (operand_at operands.handles 0) stand.first

pub policy_stands : (sessions : List SessionPlace) (operands : Operands) → StandAll sessions operands → IfSome (policy_session_in operands.handles) IsSession
policy_stands sessions operands stand =
    first_is (session_in (operand_at operands.handles 0)) (session_in (operand_at operands.handles 1))
    (session_of_operand sessions (operand_at operands.handles 0) stand.first)
    (session_of_operand sessions (operand_at operands.handles 1) stand.second)

pub named_is : (sessions : List SessionPlace) (session : Option (ℕ × Session)) → IsNamed sessions session → IfSome (named_session session) IsSession
named_is sessions None named = tt
named_is sessions (Some session) named = named.1.1

-- ---- what a command leaves of them

with_session_stands : (sessions : List SessionPlace) (operand : Operand) (s : Session) → Stands sessions operand → IsSession s
    → Stands sessions (with_session s operand)
with_session_stands sessions absent s stands is = tt
with_session_stands sessions (plain handle) s stands is = tt
with_session_stands sessions (an_object o) s stands is = stands
with_session_stands sessions (a_session handle old) s stands is = (stands.0, (stands.1.0, is))

left_named : (sessions : List SessionPlace) (session : Option (ℕ × Session)) (left : Option Session) → IsNamed sessions session → IfSome left IsSession
    → IsNamed sessions (session_left session left)
left_named sessions None left named is = tt
left_named sessions (Some session) None named is = named
left_named sessions (Some session) (Some s) named is = (named.0, (named.1.0, is))

-- the operands after a command that left these sessions
pub left_stand : (sessions : List SessionPlace) (operands : Operands) (policy left : Option Session) → StandAll sessions operands → IfSome policy IsSession
    → IfSome left IsSession
    → StandAll sessions (record { handles = handles_left policy operands.handles; session = session_left operands.session left })
left_stand sessions operands None left stand policy_is left_is =
    record { first = stand.first; second = stand.second; named = left_named sessions operands.session left stand.named left_is }
left_stand sessions operands (Some s) left stand policy_is left_is = record {
  first = with_session_stands sessions (operand_at operands.handles 0) s stand.first policy_is;
  second = with_session_stands sessions (operand_at operands.handles 1) s stand.second policy_is;
  named = left_named sessions operands.session left stand.named left_is;
}

-- what is loaded stays so where the session of an operand is put back
loaded_after : (sessions : List SessionPlace) (operand : Operand) (handle : ℕ) (s : Session) → IsLoadedAs sessions handle s
    → IsLoadedAs (with_operand loaded_under sessions operand) handle s
loaded_after sessions absent handle s is = is
loaded_after sessions (plain number) handle s is = is
loaded_after sessions (an_object o) handle s is = is
loaded_after sessions (a_session number other) handle s is =
    (is.0, (still_loaded sessions (number_of_session number) (number_of_session handle) (octet_of number) other is.1.0, is.1.1))

stands_after : (sessions : List SessionPlace) (operand other : Operand) → Stands sessions other → Stands (with_operand loaded_under sessions operand) other
stands_after sessions operand absent stands = tt
stands_after sessions operand (plain handle) stands = tt
stands_after sessions operand (an_object o) stands = stands
stands_after sessions operand (a_session handle s) stands = loaded_after sessions operand handle s stands

named_after : (sessions : List SessionPlace) (operand : Operand) (session : Option (ℕ × Session)) → IsNamed sessions session
    → IsNamed (with_operand loaded_under sessions operand) session
named_after sessions operand None named = tt
named_after sessions operand (Some session) named = loaded_after sessions operand session.0 session.1 named

operand_keeps : (most counter : ℕ) (old new : List SessionPlace) (operand : Operand) → KeepsPlaces most counter old new → Stands new operand
    → KeepsPlaces most counter old (with_operand loaded_under new operand)
operand_keeps most counter old new absent keeps stands = keeps
operand_keeps most counter old new (plain handle) keeps stands = keeps
operand_keeps most counter old new (an_object o) keeps stands = keeps
operand_keeps most counter old new (a_session handle s) keeps stands =
    kept_loaded most counter old new (number_of_session handle) (octet_of handle) s keeps stands.1.0 stands.0 stands.1.1

authorization_keeps : (most counter : ℕ) (old new : List SessionPlace) (ended : Bool) (session : Option (ℕ × Session)) → KeepsPlaces most counter old new
    → IsNamed new session → KeepsPlaces most counter old (with_authorization loaded_under inactive new ended session)
authorization_keeps most counter old new ended None keeps named = keeps
authorization_keeps most counter old new true (Some session) keeps named = kept_inactive most counter old new (number_of_session session.0) keeps
authorization_keeps most counter old new false (Some session) keeps named =
    kept_loaded most counter old new (number_of_session session.0) (octet_of session.0) session.1 keeps named.1.0 named.0 named.1.1

pub sessions_kept : (most counter : ℕ) (sessions : List SessionPlace) (operands : Operands) (ended : Bool) → ArePlaces most counter sessions
    → StandAll sessions operands → KeepsPlaces most counter sessions (sessions_left sessions operands ended)
sessions_kept most counter sessions operands ended are stand =
    let first = operand_at operands.handles 0 in
    let second = operand_at operands.handles 1 in
    let once = with_operand loaded_under sessions first in
    authorization_keeps most counter sessions (with_operand loaded_under once second) ended operands.session
    (operand_keeps most counter sessions once second
    (operand_keeps most counter sessions sessions first (same_places most counter sessions are) stand.first) (stands_after sessions first second stand.second))
    (named_after once second operands.session (named_after sessions first operands.session stand.named))
