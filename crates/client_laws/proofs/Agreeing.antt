-- What the handles of a client's command stand for on a device that is ready for it, they stand for on the plain machine.
use Rattle.std.proofs.Common.{◌≡◌, ◌+◌, ◌*◌, ◌<◌, ◌≤◌, ◌^◌, ◌⊎◌, inl, inr, ℕ, zero, suc, Bool, true, false, true≢false, List, [], ◌∷◌, get_or, take, refl, ap, sym, ◌∙◌, subst, arith}
use Rattle.std.specs.Prelude.{Option, Some, None, is_some, Result, Ok, not, nat_lt, ◌==◌, ◌||◌, ◌&&◌, if◌then◌else◌}
use Rattle.std.specs.List.{AllByRecursion, filter, list_any}
use Rattle.std.proofs.lemmas.Bool.{and_parts, eqb-true, ltb-false, ne_eqb}
use Rattle.tab_spec.specs.declared.TheConstants.{HT_TRANSIENT, RC_1, RC_ATTRIBUTES, RC_HANDLE, RC_OBJECT_MEMORY, RC_REFERENCE_H0, RC_REFERENCE_S0, RC_S, RC_VALUE, RS_PW}
use Rattle.tab_spec.specs.declared.Kind.{Kind}
use Rattle.tab_spec.specs.declared.Kind.TheVariants.{Absent}
use Rattle.tab_spec.specs.declared.Auth.{Auth}
use Rattle.tab_spec.specs.declared.Admitted.{Admitted}
use Rattle.tab_spec.specs.declared.Shape.{Shape}
use Rattle.tab_spec.specs.Admission.{admitted, client_admitted, is_missing, is_session_handle, missing_handle, missing_session, repeated_session}
use Rattle.tab_spec.specs.Auths.{no_auth}
use Rattle.tab_spec.specs.Commands.{row_of}
use Rattle.tab_spec.specs.Object.{Object}
use Rattle.tab_spec.specs.Session.{Session}
use Rattle.tab_spec.specs.Shape.{are_of_kinds, is_of_kind, is_present, is_session_octet, makes_object_by, octet_of}
use Rattle.tab_spec.specs.Values.{AreBytes}
use Rattle.tab_spec.specs.declared.contexts.TheConstants.{PROFILE_CONTEXTS}
use Rattle.effect_spec.specs.Operands.{Operand, absent, plain, command_auth, object_operand, operand_by, session_operand, with_handle}
use Rattle.history_spec.specs.Table.{held_under}
use Rattle.world_spec.specs.World.{ClientState, client_operands, session_of, tables_of}
use Rattle.device_spec.specs.Slots.{SlotState, in_slot, is_free, loaded_session, slot_operands, slot_tables}
use Rattle.tab_laws.specs.OtherHandles.{AreHandlesOf, HandlesAreThere, absent_are_zero, handled}
use Rattle.tab_laws.proofs.Handled.{client_is, passed}
use Rattle.tab_laws.proofs.OwnHandles.{other_first, own_handles}
use Rattle.client_laws.specs.Ready.{IsReady, StandsBy, named_sessions}
use Rattle.client_laws.proofs.Commands.{another_object, are_clients_kinds, clients_command}

-- ---- the sessions that a command names

named_by : (P : ℕ → Type 0) (is : Bool) (handle : ℕ) (more : List ℕ) → AllByRecursion P (if is then handle ∷ more else more)
    → (is ≡ true → P handle) × AllByRecursion P more
named_by P true handle more all = (λ so. all.0, all.1)
named_by P false handle more all = (λ so. absurd cc, all)

abbrev IsSame : SlotState → ℕ → ClientState → ℕ → Type 0
IsSame slots client state handle = loaded_session slots handle ≡ session_of state.sessions client handle

-- a session is the same where the command names it
abbrev AsSession : SlotState → ℕ → ClientState → ℕ → Type 0
AsSession slots client state handle = is_session_handle handle ≡ true → IsSame slots client state handle

record SameSessions (slots : SlotState) (client : ℕ) (state : ClientState) (a : Admitted) : Type 0 where
  first : AsSession slots client state (get_or a.shape.handles 0 0)
  second : AsSession slots client state (get_or a.shape.handles 1 0)
  auth : AsSession slots client state (command_auth a.auths).session

same_sessions : (slots : SlotState) (client : ℕ) (state : ClientState) (a : Admitted) → AllByRecursion (IsSame slots client state) (named_sessions a)
    → SameSessions slots client state a
same_sessions slots client state a all =
    let P = IsSame slots client state in
    let first = get_or a.shape.handles 0 0 in
    let second = get_or a.shape.handles 1 0 in
    let auth = (command_auth a.auths).session in
    let one = named_by P (is_session_handle first) first (filter is_session_handle (second ∷ auth ∷ [])) all in
    let two = named_by P (is_session_handle second) second (filter is_session_handle (auth ∷ [])) one.1 in
    let three = named_by P (is_session_handle auth) auth [] two.1 in
    record { first = one.0; second = two.0; auth = three.0 }

-- ---- what one handle stands for

abbrev operand : Bool → Bool → Bool → ℕ → Option Object → Option Session → Operand
operand present transient session handle object found =
    if not present then absent else if transient then object_operand handle object else if session then session_operand handle found else plain handle

one_object : (present one two is was : Bool) (first handle : ℕ) (slot held : Option Object) (o : Object) (found known : Option Session)
    → one ≡ true → two ≡ true → slot ≡ Some o → held ≡ Some o
    → operand present one is first slot found ≡ operand present two was handle held known
one_object present one two is was first handle slot held o found known a b c d = rw (a, b, c, d) refl

no_object : (present transient session : Bool) (handle : ℕ) (slot held : Option Object) (found known : Option Session) → transient ≡ false
    → (session ≡ true → found ≡ known) → operand present transient session handle slot found ≡ operand present transient session handle held known
no_object present true session handle slot held found known other same = absurd cc
no_object present false true handle slot held found known other same = ap (operand present false true handle slot) (same refl)
no_object present false false handle slot held found known other same = refl

-- whether nothing stands there
abbrev missing : Bool → Bool → Option Object → Option Session → Bool
missing transient session object found = if transient then not (is_some object) else if session then not (is_some found) else false

one_missing : (one two is was : Bool) (slot held : Option Object) (found known : Option Session) → one ≡ true → two ≡ true → slot ≡ held
    → missing one is slot found ≡ missing two was held known
one_missing one two is was slot held found known a b c = rw (a, b, c) refl

none_missing : (transient session : Bool) (slot held : Option Object) (found known : Option Session) → transient ≡ false → (session ≡ true → found ≡ known)
    → missing transient session slot found ≡ missing transient session held known
none_missing true session slot held found known other same = absurd cc
none_missing false true slot held found known other same = ap (missing false true slot) (same refl)
none_missing false false slot held found known other same = refl

held_by : (transient session : Bool) (held : Option Object) (known : Option Session) → transient ≡ true → missing transient session held known ≡ false
    → (o : Object) × (held ≡ Some o)
held_by true session None known is e = absurd cc
held_by true session (Some o) known is e = (o, refl)
held_by false session held known is e = absurd cc

-- an object's handle is no session's
not_session : (handle session : ℕ) → (octet_of handle == HT_TRANSIENT) ≡ true → is_session_handle session ≡ true → (handle == session) ≡ false
not_session handle session transient is =
    ne_eqb handle session (λ e.
    true≢false (sym is ∙ ap is_session_handle (sym e) ∙ ap is_session_octet (eqb-true (octet_of handle) HT_TRANSIENT transient)))

-- the handle on the device, and the client's
record Agrees (slots : SlotState) (client : ℕ) (state : ClientState) (handle first : ℕ) : Type 0 where
  there : is_missing (slot_tables slots) first ≡ is_missing (tables_of client state) handle
  operand_is : (kind : Kind) → is_missing (tables_of client state) handle ≡ false
      → operand_by (in_slot slots) (loaded_session slots) kind first
      ≡ operand_by (held_under state.objects) (session_of state.sessions client) kind handle
  repeated : (session : ℕ) → is_session_handle session ≡ true → (first == session) ≡ (handle == session)

agrees : (slots : SlotState) (client : ℕ) (state : ClientState) (handle first : ℕ) (transient : Bool) → (octet_of handle == HT_TRANSIENT) ≡ transient
    → StandsBy transient slots state.objects handle first → AsSession slots client state handle → Agrees slots client state handle first
agrees slots client state handle first true is stands same =
    let held = held_under state.objects handle in
    let known = session_of state.sessions client handle in
    record {
      there = one_missing (octet_of first == HT_TRANSIENT) (octet_of handle == HT_TRANSIENT) (is_session_handle first) (is_session_handle handle)
          (in_slot slots first) held (loaded_session slots first) known stands.0 is stands.1;
      operand_is = λ kind there.
          let found = held_by (octet_of handle == HT_TRANSIENT) (is_session_handle handle) held known is there in
          one_object (is_present kind) (octet_of first == HT_TRANSIENT) (octet_of handle == HT_TRANSIENT) (is_session_handle first)
          (is_session_handle handle) first handle (in_slot slots first) held found.0 (loaded_session slots first) known stands.0 is
          (stands.1 ∙ found.1) found.1;
      repeated = λ session session_is. not_session first session stands.0 session_is ∙ sym (not_session handle session is session_is);
    }
agrees slots client state handle first false is stands same =
    let held = held_under state.objects handle in
    let known = session_of state.sessions client handle in
    record {
      there = ap (is_missing (slot_tables slots)) stands
          ∙ none_missing (octet_of handle == HT_TRANSIENT) (is_session_handle handle) (in_slot slots handle) held (loaded_session slots handle) known is same;
      operand_is = λ kind there. ap (operand_by (in_slot slots) (loaded_session slots) kind) stands
          ∙ no_object (is_present kind) (octet_of handle == HT_TRANSIENT) (is_session_handle handle) handle (in_slot slots handle) held
          (loaded_session slots handle) known is same;
      repeated = λ session session_is. ap (λ (h : ℕ). h == session) stands;
    }

-- ---- the authorization

there_by : (is : Bool) (code : ℕ) (more : Option ℕ) → (if is then Some code else more) ≡ None → (is ≡ false) × (more ≡ None)
there_by true code more e = absurd cc
there_by false code more e = (refl, e)

-- no command of a client has more than one
given_few : (shape : Shape) (count : ℕ) (code : ℕ) → (if nat_lt shape.row.authorized count then Some code else None) ≡ None → shape.row.authorized ≤ 1 → count ≤ 1
given_few shape count code none few =
    let spare = there_by (nat_lt shape.row.authorized count) code None none in
    omega (arith, ltb-false shape.row.authorized count spare.0, few)

one_given : (P : List Auth → Type 0) (count : ℕ) (auths : List Auth) → count ≤ 1 → P [] → P (get_or auths 0 no_auth ∷ []) → P (take count auths)
one_given P zero auths few none one = none
one_given P (suc zero) [] few none one = none
one_given P (suc zero) (auth ∷ auths) few none one = one
one_given P (suc (suc count)) auths few none one = absurd (omega (arith, few))

-- a password, or a session that is there
abbrev unnamed : Bool → Bool → Option Session → ℕ → ℕ → Option ℕ
unnamed password session found value code = if password then None else if not session then Some value else if not (is_some found) then Some code else None

same_auth : (password session : Bool) (found known : Option Session) (value code : ℕ) → (session ≡ true → found ≡ known)
    → unnamed password session found value code ≡ unnamed password session known value code
same_auth true session found known value code same = refl
same_auth false true found known value code same = ap (λ (f : Option Session). unnamed false true f value code) (same refl)
same_auth false false found known value code same = refl

named_so : (password session : Bool) (known : Option Session) (value code : ℕ) → unnamed password session known value code ≡ None
    → (password ≡ true) ⊎ (session ≡ true)
named_so true session known value code e = inl refl
named_so false true known value code e = inr refl
named_so false false known value code e = absurd cc

-- no session is named twice
once_by : (password named : Bool) (code : ℕ) → password ≡ true → (if not password && named then Some code else None) ≡ None
once_by password named code is = rw is refl

once_one : (slots : SlotState) (client : ℕ) (state : ClientState) (handle first second : ℕ) (auth : Auth) → Agrees slots client state handle first
    → ((auth.session == RS_PW) ≡ true) ⊎ (is_session_handle auth.session ≡ true) → repeated_session (handle ∷ second ∷ []) 1 (auth ∷ []) ≡ None
    → repeated_session (first ∷ second ∷ []) 1 (auth ∷ []) ≡ None
once_one slots client state handle first second auth agree (inl password) e =
    once_by (auth.session == RS_PW) (list_any (λ h. h == auth.session) (first ∷ second ∷ [])) (RC_HANDLE + RC_S + RC_1 * 1) password
once_one slots client state handle first second auth agree (inr session) e =
    ap (λ (same : Bool). if not (auth.session == RS_PW) && (same || (second == auth.session || false)) then Some (RC_HANDLE + RC_S + RC_1 * 1) else None)
    (agree.repeated auth.session session)
    ∙ e

-- ---- all of them

-- the command may be run over this first handle, and stands for the same
pub record Runs (slots : SlotState) (client : ℕ) (state : ClientState) (bytes : List ℕ) (a : Admitted) (first : ℕ) : Type 0 where
  pub whole : admitted row_of (tables_of client state) bytes ≡ Ok a
  pub are : AreHandlesOf a.shape first (get_or a.shape.handles 1 0)
  pub there : HandlesAreThere (slot_tables slots) bytes a first (get_or a.shape.handles 1 0)
  pub operands : slot_operands slots (handled a.shape first (get_or a.shape.handles 1 0)) a.auths ≡ client_operands client state a.shape a.auths

-- the first kind, and another handle of an object there
first_by : (kinds : List Kind) (handle second first : ℕ) → are_clients_kinds kinds ≡ true → are_of_kinds kinds (handle ∷ second ∷ []) ≡ true
    → absent_are_zero kinds (handle ∷ second ∷ []) ≡ true → (octet_of handle == HT_TRANSIENT) ≡ true → (octet_of first == HT_TRANSIENT) ≡ true
    → (is_present (get_or kinds 0 Absent) ≡ true) × (is_of_kind (get_or kinds 0 Absent) first ≡ true)
first_by [] handle second first clients are zeros transient other = absurd cc
first_by (one ∷ []) handle second first clients are zeros transient other = absurd cc
first_by (one ∷ two ∷ []) handle second first clients are zeros transient other =
    another_object one handle first (and_parts (is_of_kind one handle) (are_of_kinds (two ∷ []) (second ∷ [])) are).0
    (and_parts _ (absent_are_zero (two ∷ []) (second ∷ [])) zeros).0 transient other
first_by (one ∷ two ∷ third ∷ kinds) handle second first clients are zeros transient other = absurd cc

handles_are : (slots : SlotState) (objects : List (Option Object)) (shape : Shape) (handle second first : ℕ) (transient : Bool)
    → (octet_of handle == HT_TRANSIENT) ≡ transient → StandsBy transient slots objects handle first → first < 2 ^ 32
    → are_clients_kinds shape.row.handles ≡ true → AreHandlesOf shape handle second → AreHandlesOf shape first second
handles_are slots objects shape handle second first true is stands fits kinds are =
    let other = first_by shape.row.handles handle second first kinds are.kinds are.absent is stands.0 in
    other_first shape handle first second are fits other.0 other.1
handles_are slots objects shape handle second first false is stands fits kinds are = subst (λ (h : ℕ). AreHandlesOf shape h second) (sym stands) are

room_by : (makes free : Bool) → (makes ≡ true → free ≡ true) → (if makes && not free then Some RC_OBJECT_MEMORY else None) ≡ None
room_by true true free_is = refl
room_by true false free_is = absurd (true≢false (sym (free_is refl)))
room_by false free free_is = refl

same_named : (is : Bool) (handle : ℕ) (found known : Option Session) → (is ≡ true → found ≡ known)
    → (if is then with_handle handle found else None) ≡ (if is then with_handle handle known else None)
same_named true handle found known same = ap (with_handle handle) (same refl)
same_named false handle found known same = refl

pub runs : (slots : SlotState) (client : ℕ) (state : ClientState) (bytes : List ℕ) (a : Admitted) (first : ℕ)
    → client_admitted (tables_of client state) bytes ≡ Ok a → AreBytes bytes → IsReady slots client state a bytes first → Runs slots client state bytes a first
runs slots client state bytes a first e all ready =
    let tables = tables_of client state in
    let there = slot_tables slots in
    let handle = get_or a.shape.handles 0 0 in
    let second = get_or a.shape.handles 1 0 in
    let auth = command_auth a.auths in
    let known = clients_command tables bytes a e in
    let whole = (client_is tables bytes a e).whole in
    let own = own_handles tables bytes a whole in
    let same = same_sessions slots client state a ready.sessions in
    let one = agrees slots client state handle first (octet_of handle == HT_TRANSIENT) refl ready.stands same.first in
    let two = agrees slots client state second second false known.second refl same.second in
    let index = RC_REFERENCE_H0 + 0 in
    let first_there = there_by (is_missing tables handle) index (missing_handle tables 1 (second ∷ [])) own.there.handles in
    let second_there = there_by (is_missing tables second) (RC_REFERENCE_H0 + 1) None first_there.1 in
    let few = given_few a.shape a.auths.count (RC_ATTRIBUTES + RC_S + RC_1 * (a.shape.row.authorized + 1)) (passed tables bytes a whole).given.no_spare known.few in
    let value = RC_VALUE + RC_S + RC_1 * 1 in
    let password = auth.session == RS_PW in
    let session = is_session_handle auth.session in
    let known_session = session_of state.sessions client auth.session in
    record {
      whole = whole;
      are = handles_are slots state.objects a.shape handle second first (octet_of handle == HT_TRANSIENT) refl ready.stands ready.fits known.kinds (own.are all);
      there = record {
        handles =
            (λ i. if one.there i then Some (RC_REFERENCE_H0 + 0) else if two.there i then Some (RC_REFERENCE_H0 + 1) else None) ∙ own.there.handles;
        sessions = one_given (λ (given : List Auth). missing_session tables 0 given ≡ None → missing_session there 0 given ≡ None) a.auths.count a.auths.auths
            few (λ none. none)
            (λ none. same_auth password session (loaded_session slots auth.session) known_session value (RC_REFERENCE_S0 + 0) same.auth ∙ none)
            own.there.sessions;
        once = one_given (λ (given : List Auth). missing_session tables 0 given ≡ None → repeated_session (handle ∷ second ∷ []) 1 given ≡ None
            → repeated_session (first ∷ second ∷ []) 1 given ≡ None) a.auths.count a.auths.auths few (λ none once. once)
            (λ none once. once_one slots client state handle first second auth one
            (named_so password session known_session value (RC_REFERENCE_S0 + 0) none) once)
            own.there.sessions own.there.once;
        room = room_by (makes_object_by PROFILE_CONTEXTS (let found : Result Shape ℕ = Ok a.shape in found) bytes) (list_any is_free slots.slots) ready.room;
      };
      operands = λ i. record {
        handles = one.operand_is (get_or a.shape.row.handles 0 Absent) first_there.0 i
            ∷ two.operand_is (get_or a.shape.row.handles 1 Absent) second_there.0 i ∷ [];
        session = same_named session auth.session (loaded_session slots auth.session) known_session same.auth i;
      };
    }
