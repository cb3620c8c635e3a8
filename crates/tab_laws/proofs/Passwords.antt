-- A command whose authorizations are passwords names no session by them.
use Rattle.std.proofs.Common.{◌≡◌, ◌+◌, ◌*◌, ℕ, Bool, true, false, List, [], ◌∷◌, get_or, take, subst, refl, ◌∙◌}
use Rattle.std.specs.Prelude.{Option, Some, None, Result, Ok, IfOk, not, ◌==◌, ◌&&◌, if◌then◌else◌}
use Rattle.std.specs.List.{list_any}
use Rattle.tab_laws.specs.OtherHandles.{ArePasswords}
use Rattle.tab_laws.proofs.Behind.{AuthsBehind, auths_of_behind}
use Rattle.tab_laws.proofs.Handled.{passed}
use Rattle.tab_spec.specs.declared.Auths.{Auths}
use Rattle.tab_spec.specs.Auths.{no_auth}
use Rattle.tab_spec.specs.Commands.{row_of}
use Rattle.tab_spec.specs.declared.Admitted.{Admitted}
use Rattle.tab_spec.specs.declared.Auth.{Auth}
use Rattle.tab_spec.specs.declared.TheConstants.{RC_HANDLE, RC_REFERENCE_S0, RC_S, RC_1, RC_VALUE, RS_PW}
use Rattle.tab_spec.specs.Admission.{Tables, admitted, is_session_handle, missing_session, repeated_session}

password_by : (password : Bool) (next other : Option ℕ) → password ≡ true → (if password then next else other) ≡ next
password_by true next other is = refl
password_by false next other is = absurd cc

pub none_missing : (tables : Tables) (index : ℕ) (auths : List Auth) → ArePasswords auths
    → missing_session tables index auths ≡ None
none_missing tables index [] all = refl
none_missing tables index (auth ∷ auths) all =
    password_by (auth.session == RS_PW) (missing_session tables (index + 1) auths)
    (if not (is_session_handle auth.session) then Some (RC_VALUE + RC_S + RC_1 * (index + 1))
    else if not (tables.has_session auth.session) then Some (RC_REFERENCE_S0 + index)
    else missing_session tables (index + 1) auths) all.0
    ∙ none_missing tables (index + 1) auths all.1

once_by : (password named : Bool) (code : ℕ) (next : Option ℕ) → password ≡ true → (if not password && named then Some code else next) ≡ next
once_by true named code next is = refl
once_by false named code next is = absurd cc

pub none_repeated : (named : List ℕ) (number : ℕ) (auths : List Auth) → ArePasswords auths
    → repeated_session named number auths ≡ None
none_repeated named number [] all = refl
none_repeated named number (auth ∷ auths) all =
    once_by (auth.session == RS_PW) (list_any (λ handle. handle == auth.session) named) (RC_HANDLE + RC_S + RC_1 * number)
    (repeated_session (auth.session ∷ named) (number + 1) auths) all.0
    ∙ none_repeated (auth.session ∷ named) (number + 1) auths all.1

-- where there are no sessions, what is admitted is a password
only_by : (password session there : Bool) (value missing : ℕ) (next : Option ℕ) → there ≡ false
    → (if password then next else if not session then Some value else if not there then Some missing else next) ≡ None → (password ≡ true) × (next ≡ None)
only_by true session there value missing next none e = (refl, e)
only_by false false there value missing next none e = absurd cc
only_by false true false value missing next none e = absurd cc
only_by false true true value missing next none e = absurd cc

pub only_passwords : (tables : Tables) (index : ℕ) (auths : List Auth) → ((handle : ℕ) → tables.has_session handle ≡ false)
    → missing_session tables index auths ≡ None → ArePasswords auths
only_passwords tables index [] none e = tt
only_passwords tables index (auth ∷ auths) none e =
    let parts = only_by (auth.session == RS_PW) (is_session_handle auth.session) (tables.has_session auth.session) (RC_VALUE + RC_S + RC_1 * (index + 1))
    (RC_REFERENCE_S0 + index) (missing_session tables (index + 1) auths) (none auth.session) e in
    (parts.0, only_passwords tables (index + 1) auths none parts.1)

pub admitted_passwords : (tables : Tables) (bytes : List ℕ) (a : Admitted) → ((handle : ℕ) → tables.has_session handle ≡ false)
    → admitted row_of tables bytes ≡ Ok a → ArePasswords (take a.auths.count a.auths.auths)
admitted_passwords tables bytes a none e = only_passwords tables 0 (take a.auths.count a.auths.auths) none (passed tables bytes a e).given.sessions

pub first_password : (tables : Tables) (bytes : List ℕ) (a : Admitted) → admitted row_of tables bytes ≡ Ok a → ArePasswords (take a.auths.count a.auths.auths)
    → is_session_handle (get_or a.auths.auths 0 no_auth).session ≡ false
first_password tables bytes a e all =
    let behind : AuthsBehind a.shape.rest a.auths =
    subst (λ (auths : Result Auths ℕ). IfOk auths (AuthsBehind a.shape.rest)) (passed tables bytes a e).given.auths_are (auths_of_behind bytes a.shape) in
    behind.no_session all
