-- A command that is admitted has room for an object that it makes, and where it starts a session, none authorizes it.
use Rattle.std.proofs.Common.{◌≡◌, Bool, true, false, List, ℕ, zero, suc, take, subst, arith, refl}
use Rattle.std.specs.Prelude.{None, Some, Ok, Option, nat_lt, ◌==◌, if◌then◌else◌}
use Rattle.std.proofs.lemmas.Bool.{ltb-false}
use Rattle.tab_spec.specs.declared.TheConstants.{CC_START_AUTH_SESSION}
use Rattle.tab_spec.specs.declared.Admitted.{Admitted}
use Rattle.tab_spec.specs.declared.Auth.{Auth}
use Rattle.tab_spec.specs.declared.CommandRow.{CommandRow}
use Rattle.tab_spec.specs.Admission.{Tables, client_admitted, is_session_handle, object_too_many}
use Rattle.tab_spec.specs.Object.{Object}
use Rattle.tab_spec.specs.Shape.{IsShape}
use Rattle.effect_spec.specs.Operands.{command_auth}
use Rattle.tab_laws.specs.OtherHandles.{ArePasswords}
use Rattle.tab_laws.proofs.Handled.{client_is, passed}
use Rattle.tab_laws.proofs.Passwords.{first_password}
use Rattle.world_spec.specs.World.{ClientState, Owned, tables_of}
use Rattle.plain_machine.proofs.Starting.{row_is}

pub has_room : (tables : Tables) (bytes : List ℕ) (a : Admitted) → client_admitted tables bytes ≡ Ok a → object_too_many tables a.shape bytes ≡ None
has_room tables bytes a is = (passed tables bytes a (client_is tables bytes a is).whole).given.room

none_more : (more : Bool) (code : ℕ) → ◌≡◌ {A = Option ℕ} (if more then Some code else None) None → more ≡ false
none_more true code is = absurd cc
none_more false code is = refl

no_passwords : (auths : List Auth) (count : ℕ) → nat_lt 0 count ≡ false → ArePasswords (take count auths)
no_passwords auths zero none = tt
no_passwords auths (suc count) none = absurd (omega (arith, ltb-false 0 (suc count) none))

pub bare : (tables : Tables) (bytes : List ℕ) (a : Admitted) → client_admitted tables bytes ≡ Ok a → IsShape a.shape
    → (a.shape.row.code == CC_START_AUTH_SESSION) ≡ true → is_session_handle (command_auth a.auths).session ≡ false
bare tables bytes a e is so =
    let whole = (client_is tables bytes a e).whole in
    let few : nat_lt a.shape.row.authorized a.auths.count ≡ false = none_more _ _ (passed tables bytes a whole).given.no_spare in
    let none : nat_lt 0 a.auths.count ≡ false =
    subst (λ (r : CommandRow). nat_lt r.authorized a.auths.count ≡ false) (row_is a.shape is so) few in
    first_password tables bytes a whole (no_passwords a.auths.auths a.auths.count none)

-- what a client may name, where these are its objects and its sessions
pub seen_tables : (client : ℕ) (state : ClientState) (objects : List (Option Object)) (sessions : List (Option Owned))
    → objects ≡ state.objects → sessions ≡ state.sessions
    → (let seen : ClientState = record state { objects = objects; sessions = sessions } in
    tables_of client seen ≡ tables_of client state)
seen_tables client state objects sessions held owned =
    λ i. let seen : ClientState = record state { objects = held i; sessions = owned i } in tables_of client seen
