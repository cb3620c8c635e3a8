-- What the effect of a command is given in place of its handles, and what it makes: values, and no handles of transient objects.
use Rattle.std.specs.Prelude.{◌≡◌, ℕ, ◌==◌, ◌&&◌, not, Bool, true, false, List, [], ◌∷◌, get_or, set, Option, Some, None, if◌then◌else◌}
use Rattle.tab_spec.specs.declared.Kind.{Kind}
use Rattle.tab_spec.specs.declared.Kind.TheVariants.{Absent}
use Rattle.tab_spec.specs.declared.Shape.{Shape}
use Rattle.tab_spec.specs.declared.Auth.{Auth}
use Rattle.tab_spec.specs.declared.Auths.{Auths}
use Rattle.tab_spec.specs.declared.TheConstants.{HT_TRANSIENT}
use Rattle.tab_spec.specs.Object.{Object}
use Rattle.tab_spec.specs.Session.{Session}
use Rattle.tab_spec.specs.Shape.{is_present, is_session_octet, number_of_session, octet_of}
use Rattle.tab_spec.specs.Auths.{no_auth}
use Rattle.tab_spec.specs.Admission.{is_session_handle}

-- ---- operands

-- what a handle stands for
pub data Operand : Type 0 where
  -- there is no such handle
  absent : Operand
  -- a hierarchy, a PCR or an NV index, by its handle
  plain : ℕ → Operand
  an_object : Object → Operand
  -- a session and its handle
  a_session : ℕ → Session → Operand

pub record Operands : Type 0 where
  pub handles : List Operand
  -- the session that the authorization names, with its handle
  pub session : Option (ℕ × Session)

-- the handle that an operand holds; 0 where it holds none
abbrev pub number_of : Operand → ℕ
number_of absent = 0
number_of (plain handle) = handle
number_of (an_object o) = 0
number_of (a_session handle s) = handle

-- the object that it stands for
abbrev pub object_in : Operand → Option Object
object_in absent = None
object_in (plain handle) = None
object_in (an_object o) = Some o
object_in (a_session handle s) = None

-- the session that it stands for
abbrev pub session_in : Operand → Option Session
session_in absent = None
session_in (plain handle) = None
session_in (an_object o) = None
session_in (a_session handle s) = Some s

-- the same handle with another session, where it stands for one
abbrev pub with_session : Session → Operand → Operand
with_session s absent = absent
with_session s (plain handle) = plain handle
with_session s (an_object o) = an_object o
with_session s (a_session handle old) = a_session handle s

-- the operand of this place, from 0
abbrev pub operand_at : List Operand → ℕ → Operand
operand_at operands place = get_or operands place absent

-- the policy session that the handles name: no command names two
abbrev pub first_session : Option Session → Option Session → Option Session
first_session None second = second
first_session (Some s) second = Some s

abbrev pub policy_session_in : List Operand → Option Session
policy_session_in operands = first_session (session_in (operand_at operands 0)) (session_in (operand_at operands 1))

-- the handles after a command that left this policy session
abbrev pub handles_left : Option Session → List Operand → List Operand
handles_left None operands = operand_at operands 0 ∷ operand_at operands 1 ∷ []
handles_left (Some s) operands = with_session s (operand_at operands 0) ∷ with_session s (operand_at operands 1) ∷ []

-- the session of the authorization, and what a command left of it
abbrev pub named_session : Option (ℕ × Session) → Option Session
named_session None = None
named_session (Some named) = Some named.1

abbrev pub session_left : Option (ℕ × Session) → Option Session → Option (ℕ × Session)
session_left None left = None
session_left (Some named) None = Some named
session_left (Some named) (Some s) = Some (named.0, s)

-- what a transient handle stands for
abbrev pub object_operand : ℕ → Option Object → Operand
object_operand handle None = plain handle
object_operand handle (Some o) = an_object o

-- what a session handle stands for
abbrev pub session_operand : ℕ → Option Session → Operand
session_operand handle None = plain handle
session_operand handle (Some s) = a_session handle s

-- what a handle of this kind stands for, where these objects and sessions are there
abbrev pub operand_by : (ℕ → Option Object) → (ℕ → Option Session) → Kind → ℕ → Operand
operand_by objects sessions kind handle =
    if not (is_present kind) then absent
    else if octet_of handle == HT_TRANSIENT then object_operand handle (objects handle)
    else if is_session_handle handle then session_operand handle (sessions handle)
    else plain handle

-- a session with its handle
abbrev pub with_handle : ℕ → Option Session → Option (ℕ × Session)
with_handle handle None = None
with_handle handle (Some s) = Some (handle, s)

-- the session that an authorization names, with its handle
abbrev pub session_named : (ℕ → Option Session) → ℕ → Option (ℕ × Session)
session_named sessions handle = if is_session_handle handle then with_handle handle (sessions handle) else None

-- what authorizes a command
abbrev pub command_auth : Auths → Auth
command_auth auths = get_or auths.auths 0 no_auth

-- what the handles of a command and its authorization stand for, where these objects and sessions are there
abbrev pub operands_by : (ℕ → Option Object) → (ℕ → Option Session) → Shape → Auths → Operands
operands_by objects sessions shape auths = record {
  handles = operand_by objects sessions (get_or shape.row.handles 0 Absent) (get_or shape.handles 0 0)
      ∷ operand_by objects sessions (get_or shape.row.handles 1 Absent) (get_or shape.handles 1 0) ∷ [];
  session = session_named sessions (command_auth auths).session;
}

-- where a command names no object and no session, each handle stands for itself
abbrev pub plain_operand : Kind → ℕ → Operand
plain_operand kind handle = if is_present kind then plain handle else absent

abbrev pub plain_operands : Shape → Operands
plain_operands shape = record {
  handles = plain_operand (get_or shape.row.handles 0 Absent) (get_or shape.handles 0 0)
      ∷ plain_operand (get_or shape.row.handles 1 Absent) (get_or shape.handles 1 0) ∷ [];
  session = None;
}

-- whether an operand stands for a handle of this kind: an object for a transient handle, a session for its own, and else the handle
abbrev pub is_operand : Kind → ℕ → Operand → Bool
is_operand kind handle absent = not (is_present kind)
is_operand kind handle (plain number) = is_present kind && number == handle
is_operand kind handle (an_object o) = is_present kind && octet_of handle == HT_TRANSIENT
is_operand kind handle (a_session number s) = is_present kind && number == handle && is_session_octet (octet_of handle)

-- the operands stand for the handles of a command of this shape
pub record StandFor (shape : Shape) (operands : Operands) : Type 0 where
  pub first : is_operand (get_or shape.row.handles 0 Absent) (get_or shape.handles 0 0) (operand_at operands.handles 0) ≡ true
  pub second : is_operand (get_or shape.row.handles 1 Absent) (get_or shape.handles 1 0) (operand_at operands.handles 1) ≡ true

-- ---- the sessions as a command leaves them, by their numbers; `place` makes the place of a handle's session

-- with the one that a handle names
abbrev pub with_operand : {P : Type 0} → (ℕ → Session → P) → List P → Operand → List P
with_operand place sessions absent = sessions
with_operand place sessions (plain handle) = sessions
with_operand place sessions (an_object o) = sessions
with_operand place sessions (a_session handle s) = set sessions (number_of_session handle) (place handle s)

-- with the one of its authorization, whose number is unused where it ended
abbrev pub with_authorization : {P : Type 0} → (ℕ → Session → P) → P → List P → Bool → Option (ℕ × Session) → List P
with_authorization place unused sessions ended None = sessions
with_authorization place unused sessions ended (Some named) =
    set sessions (number_of_session named.0) (if ended then unused else place named.0 named.1)

-- with all that it names
abbrev pub sessions_after : {P : Type 0} → (ℕ → Session → P) → P → List P → Operands → Bool → List P
sessions_after place unused sessions operands ended =
    with_authorization place unused
    (with_operand place (with_operand place sessions (operand_at operands.handles 0)) (operand_at operands.handles 1))
    ended operands.session

-- ---- what is created

-- what a command creates
pub data Created : Type 0 where
  nothing : Created
  new_object : Object → Created
  new_session : Session → Created

-- what a command leaves beside its reply
pub record CommandOutcome : Type 0 where
  pub created : Created
  -- whether the session of the authorization ended
  pub auth_ended : Bool

abbrev pub nothing_created : CommandOutcome
nothing_created = record { created = nothing; auth_ended = false }
