-- The sessions that a client's command names are its own, so none is a left one. What it leaves of them isn't either.
use Rattle.std.proofs.Common.{◌≡◌, ℕ, Bool, true, false, List, get_or, set, refl, ◌∙◌}
use Rattle.std.specs.Prelude.{◌==◌, ◌&&◌, not, Option, Some, None, is_some, Result, Ok, Err, if◌then◌else◌}
use Rattle.std.proofs.lemmas.Bool.{cond_both}
use Rattle.tab_spec.specs.declared.Auths.{Auths}
use Rattle.tab_spec.specs.declared.Kind.{Kind}
use Rattle.tab_spec.specs.declared.Kind.TheVariants.{Absent}
use Rattle.tab_spec.specs.declared.Shape.{Shape}
use Rattle.tab_spec.specs.declared.TheConstants.{HT_TRANSIENT}
use Rattle.tab_spec.specs.Admission.{is_session_handle}
use Rattle.tab_spec.specs.Object.{Object}
use Rattle.tab_spec.specs.Persist.{Persist}
use Rattle.tab_spec.specs.Session.{Session}
use Rattle.tab_spec.specs.Shape.{is_present, number_of_session, octet_of}
use Rattle.effect_spec.specs.Effect.{RowOutcome, effect_authorized, effect_in, effect_of, outcome_of, response_auth_of}
use Rattle.effect_spec.specs.Operands.{Operand, Operands, a_session, absent, an_object, command_auth, handles_left, object_operand, operand_at, operand_by, plain, session_left, session_named, session_operand, sessions_after, with_authorization, with_handle, with_operand, with_session}
use Rattle.effect_spec.specs.SessionAuths.{ResponseAuth}
use Rattle.history_spec.specs.Table.{held_under}
use Rattle.world_spec.specs.World.{ClientState, Owned, client_operands, in_use, is_of, own_place, owned_by, owned_under, session_of}
use Rattle.world_laws.specs.Left.{LeftStands, is_left}
use Rattle.world_laws.proofs.Listed.{left_set, place_at, stands_put}

-- ---- a client's own sessions

own_by : (owner : Option ℕ) (client : ℕ) (same : Bool) (place : Owned)
    → is_some (if is_of client owner && same then Some place else None) ≡ true → not (is_some owner) ≡ false
own_by None client same place there = absurd cc
own_by (Some n) client same place there = refl

pub own_held : (client octet : ℕ) (place : Option Owned) → is_some (owned_by client octet place) ≡ true → is_left place ≡ false
own_held client octet None there = refl
own_held client octet (Some place) there = own_by place.client client (place.octet == octet) place there

used_there : (found : Option Owned) (s : Session) → in_use found ≡ Some s → is_some found ≡ true
used_there None s is = absurd cc
used_there (Some place) s is = refl

pub used_held : (sessions : List (Option Owned)) (client handle : ℕ) (s : Session) → session_of sessions client handle ≡ Some s
    → is_left (place_at sessions (number_of_session handle)) ≡ false
used_held sessions client handle s is =
    own_held client (octet_of handle) (place_at sessions (number_of_session handle)) (used_there (owned_under sessions client handle) s is)

-- ---- operands

-- no left session stands under the number of the session that an operand holds
abbrev pub Apart : List (Option Owned) → Operand → Type 0
Apart sessions absent = Unit {0}
Apart sessions (plain handle) = Unit {0}
Apart sessions (an_object o) = Unit {0}
Apart sessions (a_session handle s) = is_left (place_at sessions (number_of_session handle)) ≡ false

-- and of that which authorizes
abbrev pub ApartNamed : List (Option Owned) → Option (ℕ × Session) → Type 0
ApartNamed sessions None = Unit {0}
ApartNamed sessions (Some named) = is_left (place_at sessions (number_of_session named.0)) ≡ false

pub record AreApart (sessions : List (Option Owned)) (operands : Operands) : Type 0 where
  pub first : Apart sessions (operand_at operands.handles 0)
  pub second : Apart sessions (operand_at operands.handles 1)
  pub named : ApartNamed sessions operands.session

session_apart : (sessions : List (Option Owned)) (client handle : ℕ) (found : Option Session) → session_of sessions client handle ≡ found
    → Apart sessions (session_operand handle found)
session_apart sessions client handle None is = tt
session_apart sessions client handle (Some s) is = used_held sessions client handle s is

object_apart : (sessions : List (Option Owned)) (handle : ℕ) (found : Option Object) → Apart sessions (object_operand handle found)
object_apart sessions handle None = tt
object_apart sessions handle (Some o) = tt

operand_apart : (objects : ℕ → Option Object) (sessions : List (Option Owned)) (client : ℕ) (kind : Kind) (handle : ℕ)
    → Apart sessions (operand_by objects (session_of sessions client) kind handle)
operand_apart objects sessions client kind handle =
    let object = object_operand handle (objects handle) in
    let session = session_operand handle (session_of sessions client handle) in
    cond_both (not (is_present kind)) absent
    (if octet_of handle == HT_TRANSIENT then object else if is_session_handle handle then session else plain handle) (Apart sessions)
    (λ gone. tt) (λ here.
    cond_both (octet_of handle == HT_TRANSIENT) object (if is_session_handle handle then session else plain handle) (Apart sessions)
    (λ so. object_apart sessions handle (objects handle)) (λ other.
    cond_both (is_session_handle handle) session (plain handle) (Apart sessions)
    (λ so. session_apart sessions client handle (session_of sessions client handle) refl) (λ neither. tt)))

handle_apart : (sessions : List (Option Owned)) (client handle : ℕ) (found : Option Session) → session_of sessions client handle ≡ found
    → ApartNamed sessions (with_handle handle found)
handle_apart sessions client handle None is = tt
handle_apart sessions client handle (Some s) is = used_held sessions client handle s is

named_apart : (sessions : List (Option Owned)) (client handle : ℕ) → ApartNamed sessions (session_named (session_of sessions client) handle)
named_apart sessions client handle =
    cond_both (is_session_handle handle) (with_handle handle (session_of sessions client handle)) None (ApartNamed sessions)
    (λ so. handle_apart sessions client handle (session_of sessions client handle) refl) (λ other. tt)

operands_apart : (client : ℕ) (state : ClientState) (shape : Shape) (auths : Auths) → AreApart state.sessions (client_operands client state shape auths)
operands_apart client state shape auths =
    let objects = held_under state.objects in
    record {
      first = operand_apart objects state.sessions client (get_or shape.row.handles 0 Absent) (get_or shape.handles 0 0);
      second = operand_apart objects state.sessions client (get_or shape.row.handles 1 Absent) (get_or shape.handles 1 0);
      named = named_apart state.sessions client (command_auth auths).session;
    }

-- ---- what an effect leaves of them

with_apart : (sessions : List (Option Owned)) (s : Session) (o : Operand) → Apart sessions o → Apart sessions (with_session s o)
with_apart sessions s absent apart = tt
with_apart sessions s (plain handle) apart = tt
with_apart sessions s (an_object o) apart = tt
with_apart sessions s (a_session handle old) apart = apart

first_apart : (sessions : List (Option Owned)) (policy : Option Session) (handles : List Operand) → Apart sessions (operand_at handles 0)
    → Apart sessions (operand_at (handles_left policy handles) 0)
first_apart sessions None handles apart = apart
first_apart sessions (Some s) handles apart = with_apart sessions s (operand_at handles 0) apart

second_apart : (sessions : List (Option Owned)) (policy : Option Session) (handles : List Operand) → Apart sessions (operand_at handles 1)
    → Apart sessions (operand_at (handles_left policy handles) 1)
second_apart sessions None handles apart = apart
second_apart sessions (Some s) handles apart = with_apart sessions s (operand_at handles 1) apart

left_apart : (sessions : List (Option Owned)) (named : Option (ℕ × Session)) (left : Option Session) → ApartNamed sessions named
    → ApartNamed sessions (session_left named left)
left_apart sessions None left apart = tt
left_apart sessions (Some named) None apart = apart
left_apart sessions (Some named) (Some s) apart = apart

authorized_apart : (sessions : List (Option Owned)) (persist : Persist) (operands : Operands) (shape : Shape) (auths : Auths) (done : RowOutcome)
    (closed : Result ResponseAuth ℕ) → AreApart sessions operands → AreApart sessions (effect_authorized persist operands shape auths done closed).operands
authorized_apart sessions persist operands shape auths done (Err code) apart = apart
authorized_apart sessions persist operands shape auths done (Ok authorized) apart = record {
  first = first_apart sessions done.policy operands.handles apart.first;
  second = second_apart sessions done.policy operands.handles apart.second;
  named = left_apart sessions operands.session authorized.session apart.named;
}

in_apart : (sessions : List (Option Owned)) (persist : Persist) (operands : Operands) (shape : Shape) (auths : Auths) (bytes : List ℕ)
    (row : Result RowOutcome ℕ) → AreApart sessions operands → AreApart sessions (effect_in persist operands shape auths bytes row).operands
in_apart sessions persist operands shape auths bytes (Err code) apart = apart
in_apart sessions persist operands shape auths bytes (Ok done) apart =
    authorized_apart sessions persist operands shape auths done (response_auth_of persist operands shape auths bytes done) apart

pub effect_apart : (client : ℕ) (state : ClientState) (shape : Shape) (auths : Auths) (bytes : List ℕ)
    → AreApart state.sessions (effect_of state.persist (client_operands client state shape auths) shape auths bytes).operands
unfolding effect_of
effect_apart client state shape auths bytes =
    let operands = client_operands client state shape auths in
    in_apart state.sessions state.persist operands shape auths bytes (outcome_of state.persist operands shape auths bytes)
    (operands_apart client state shape auths)

-- ---- the sessions afterwards

apart_put : (sessions : List (Option Owned)) (k : ℕ) (place : Option Owned) (o : Operand) → is_left (place_at sessions k) ≡ false
    → is_left place ≡ false → Apart sessions o → Apart (set sessions k place) o
apart_put sessions k place absent old new apart = tt
apart_put sessions k place (plain handle) old new apart = tt
apart_put sessions k place (an_object o) old new apart = tt
apart_put sessions k place (a_session handle s) old new apart = left_set sessions k (number_of_session handle) place old new ∙ apart

named_put : (sessions : List (Option Owned)) (k : ℕ) (place : Option Owned) (named : Option (ℕ × Session)) → is_left (place_at sessions k) ≡ false
    → is_left place ≡ false → ApartNamed sessions named → ApartNamed (set sessions k place) named
named_put sessions k place None old new apart = tt
named_put sessions k place (Some named) old new apart = left_set sessions k (number_of_session named.0) place old new ∙ apart

operand_stands : (client : ℕ) (sessions : List (Option Owned)) (left : List ℕ) (o : Operand) → Apart sessions o → LeftStands sessions left
    → LeftStands (with_operand (own_place client) sessions o) left
operand_stands client sessions left absent apart stands = stands
operand_stands client sessions left (plain handle) apart stands = stands
operand_stands client sessions left (an_object o) apart stands = stands
operand_stands client sessions left (a_session handle s) apart stands =
    stands_put sessions left (number_of_session handle) (own_place client handle s) stands apart refl

operand_after : (client : ℕ) (sessions : List (Option Owned)) (o other : Operand) → Apart sessions o → Apart sessions other
    → Apart (with_operand (own_place client) sessions o) other
operand_after client sessions absent other apart also = also
operand_after client sessions (plain handle) other apart also = also
operand_after client sessions (an_object o) other apart also = also
operand_after client sessions (a_session handle s) other apart also =
    apart_put sessions (number_of_session handle) (own_place client handle s) other apart refl also

named_after : (client : ℕ) (sessions : List (Option Owned)) (o : Operand) (named : Option (ℕ × Session)) → Apart sessions o → ApartNamed sessions named
    → ApartNamed (with_operand (own_place client) sessions o) named
named_after client sessions absent named apart also = also
named_after client sessions (plain handle) named apart also = also
named_after client sessions (an_object o) named apart also = also
named_after client sessions (a_session handle s) named apart also =
    named_put sessions (number_of_session handle) (own_place client handle s) named apart refl also

ended_held : (ended : Bool) (client handle : ℕ) (s : Session) → is_left (if ended then None else own_place client handle s) ≡ false
ended_held true client handle s = refl
ended_held false client handle s = refl

authorization_stands : (client : ℕ) (sessions : List (Option Owned)) (left : List ℕ) (ended : Bool) (named : Option (ℕ × Session))
    → ApartNamed sessions named → LeftStands sessions left → LeftStands (with_authorization (own_place client) None sessions ended named) left
authorization_stands client sessions left ended None apart stands = stands
authorization_stands client sessions left ended (Some named) apart stands =
    stands_put sessions left (number_of_session named.0) (if ended then None else own_place client named.0 named.1) stands apart
    (ended_held ended client named.0 named.1)

pub after_stands : (client : ℕ) (sessions : List (Option Owned)) (left : List ℕ) (operands : Operands) (ended : Bool) → AreApart sessions operands
    → LeftStands sessions left → LeftStands (sessions_after (own_place client) None sessions operands ended) left
after_stands client sessions left operands ended apart stands =
    let first = operand_at operands.handles 0 in
    let second = operand_at operands.handles 1 in
    let with_first = with_operand (own_place client) sessions first in
    let second_still : Apart with_first second = operand_after client sessions first second apart.first apart.second in
    let named_still : ApartNamed with_first operands.session = named_after client sessions first operands.session apart.first apart.named in
    authorization_stands client (with_operand (own_place client) with_first second) left ended operands.session
    (named_after client with_first second operands.session second_still named_still)
    (operand_stands client with_first left second second_still (operand_stands client sessions left first apart.first stands))
