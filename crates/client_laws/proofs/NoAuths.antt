-- Commands that have no authorizations.
use Rattle.std.proofs.Common.{◌≡◌, ◌+◌, ◌*◌, ◌≤◌, ℕ, suc, Bool, true, false, List, [], length, take, drop, replicate, refl, ap, sym, ◌∙◌, subst, arith}
use Rattle.std.specs.Prelude.{Option, Some, None, IfSome, Result, Ok, Err, IfOk, nat_lt, ◌==◌, ◌||◌, if◌then◌else◌}
use Rattle.std.specs.Int.{w32, from_be_bytes}
use Rattle.std.proofs.lemmas.Bool.{cond_both, eqb-true, ltb-false, ne_eqb}
use Rattle.tab_spec.specs.declared.TheConstants.{RC_1, RC_ATTRIBUTES, RC_AUTH_CONTEXT, RC_AUTH_MISSING, RC_AUTHSIZE, RC_S, ST_NO_SESSIONS, ST_SESSIONS}
use Rattle.tab_spec.specs.declared.Auth.{Auth}
use Rattle.tab_spec.specs.declared.Auths.{Auths}
use Rattle.tab_spec.specs.declared.Admitted.{Admitted}
use Rattle.tab_spec.specs.declared.CommandRow.{CommandRow}
use Rattle.tab_spec.specs.declared.Shape.{Shape}
use Rattle.tab_spec.specs.Admission.{Tables, admitted, is_session_handle}
use Rattle.tab_spec.specs.Auths.{area_at, area_with, auth_at, auths_after, auths_from, auths_of, has_no_area, no_auth, onto}
use Rattle.tab_spec.specs.Commands.{row_of}
use Rattle.tab_spec.specs.Frame.{tag_of}
use Rattle.tab_spec.specs.Shape.{count_in, rest_of}
use Rattle.effect_spec.specs.Operands.{command_auth}
use Rattle.tab_laws.proofs.Handled.{passed}

abbrev IsLong : List Auth → Type 0
IsLong auths = 1 ≤ length auths

onto_long : (auth : Auth) (more : Option (List Auth)) → IfSome (onto auth more) IsLong
onto_long auth None = tt
onto_long auth (Some auths) = omega arith

after_long : (auth : Option Auth) (more : ℕ → Option (List Auth)) → IfSome (auths_after auth more) IsLong
after_long None more = tt
after_long (Some auth) more = onto_long auth (more auth.hmac.1)

long_by : (ends : Bool) (more : Option (List Auth)) → ends ≡ false → IfSome more IsLong → IfSome (if ends then Some [] else more) IsLong
long_by true more is long = absurd cc
long_by false more is long = long

auths_long : (most : ℕ) (bytes : List ℕ) (end at : ℕ) → (at == end) ≡ false → IfSome (auths_from (suc most) bytes end at) IsLong
unfolding auths_from
auths_long most bytes end at other =
    long_by (at == end) (auths_after (auth_at bytes end at) (λ rest. auths_from most bytes end rest)) other
    (after_long (auth_at bytes end at) (λ rest. auths_from most bytes end rest))

abbrev HasOne : Auths → Type 0
HasOne auths = 1 ≤ auths.count

with_one : (end : ℕ) (auths : Option (List Auth)) → IfSome auths IsLong → IfOk (area_with end auths) HasOne
with_one end None long = tt
with_one end (Some auths) long = long

second_of : (a b c : Bool) → (a || b || c) ≡ false → b ≡ false
second_of true b c e = absurd cc
second_of false true c e = absurd cc
second_of false false c e = refl

-- an area has at least one
area_one : (bytes : List ℕ) (at : ℕ) → IfOk (area_at bytes at) HasOne
area_one bytes at =
    let size = from_be_bytes w32 (take 4 (drop at bytes)) in
    let end = at + 4 + size in
    cond_both (nat_lt (length bytes) (at + 4) || nat_lt size 9 || nat_lt (length bytes) end) (Err RC_AUTHSIZE)
    (area_with end (auths_from 3 bytes end (at + 4))) (λ (area : Result Auths ℕ). IfOk area HasOne) (λ bad. tt) (λ good.
    let whole = second_of (nat_lt (length bytes) (at + 4)) (nat_lt size 9) (nat_lt (length bytes) end) good in
    with_one end (auths_from 3 bytes end (at + 4))
    (auths_long 2 bytes end (at + 4) (ne_eqb (at + 4) end (λ e. omega (arith, e, ltb-false size 9 whole)))))

-- what is read of a command without authorizations
pub record NoAuths (shape : Shape) (auths : Auths) : Type 0 where
  pub sessions : (shape.tag == ST_SESSIONS) ≡ false
  pub params : auths.params ≡ shape.rest
  pub named : is_session_handle (command_auth auths).session ≡ false

abbrev nothing_given : ℕ → Auths
nothing_given rest = record { count = 0; auths = replicate 3 no_auth; params = rest }

none_by : (shape : Shape) (sessions no_area missing : Bool) (area : Result Auths ℕ) (auths : Auths) → (shape.tag == ST_SESSIONS) ≡ sessions → IfOk area HasOne
    → (if sessions then if no_area then Err RC_AUTH_CONTEXT else area
    else if missing then Err RC_AUTH_MISSING
    else Ok (nothing_given shape.rest)) ≡ Ok auths → auths.count ≤ 0 → NoAuths shape auths
none_by shape true true missing area auths is one e few = absurd cc
none_by shape true false missing area auths is one e few =
    let some : 1 ≤ auths.count = subst (λ (found : Result Auths ℕ). IfOk found HasOne) e one in absurd (omega (arith, some, few))
none_by shape false no_area true area auths is one e few = absurd cc
none_by shape false no_area false area auths is one e few =
    let same : nothing_given shape.rest ≡ auths = cc in
    record {
      sessions = is;
      params = sym (ap (λ (a : Auths). a.params) same);
      named = subst (λ (a : Auths). is_session_handle (command_auth a).session ≡ false) same refl;
    }

pub no_auths : (bytes : List ℕ) (shape : Shape) (auths : Auths) → auths_of bytes shape ≡ Ok auths → auths.count ≤ 0 → NoAuths shape auths
unfolding auths_of
no_auths bytes shape auths e few =
    none_by shape (shape.tag == ST_SESSIONS) (has_no_area shape.row.code) (nat_lt 0 shape.row.authorized) (area_at bytes shape.rest) auths refl
    (area_one bytes shape.rest) e few

pub none_spare : (spare : Bool) (code : ℕ) → (if spare then Some code else None) ≡ None → spare ≡ false
none_spare true code e = absurd cc
none_spare false code e = refl

-- ---- a command of a row without authorizations

first_tag : (plain sessions : Bool) → (plain || sessions) ≡ true → sessions ≡ false → plain ≡ true
first_tag true sessions e none = refl
first_tag false true e none = absurd cc
first_tag false false e none = absurd cc

pub record Bare (bytes : List ℕ) (a : Admitted) (row : CommandRow) : Type 0 where
  pub row_is : a.shape.row ≡ row
  pub tag : tag_of bytes ≡ ST_NO_SESSIONS
  pub handles : a.shape.count ≡ count_in row.handles
  pub rest : a.shape.rest ≡ rest_of row
  pub params : a.auths.params ≡ rest_of row
  pub none : a.auths.count ≡ 0

pub bare : (tables : Tables) (bytes : List ℕ) (a : Admitted) (row : CommandRow) → admitted row_of tables bytes ≡ Ok a → a.shape.row ≡ row → row.authorized ≡ 0
    → Bare bytes a row
bare tables bytes a row e is unauthorized =
    let p = passed tables bytes a e in
    let authorized : a.shape.row.authorized ≡ 0 = ap (λ (r : CommandRow). r.authorized) is ∙ unauthorized in
    let code = RC_ATTRIBUTES + RC_S + RC_1 * (a.shape.row.authorized + 1) in
    let few : a.auths.count ≤ a.shape.row.authorized =
    ltb-false a.shape.row.authorized a.auths.count (none_spare (nat_lt a.shape.row.authorized a.auths.count) code p.given.no_spare) in
    let without = no_auths bytes a.shape a.auths p.given.auths_are (omega (arith, few, authorized)) in
    let tag : a.shape.tag ≡ tag_of bytes = ap (λ (shape : Shape). shape.tag) p.shape in
    let rest : a.shape.rest ≡ rest_of row = ap (λ (shape : Shape). shape.rest) p.shape ∙ ap rest_of is in
    record {
      row_is = is;
      tag = eqb-true (tag_of bytes) ST_NO_SESSIONS
          (first_tag (tag_of bytes == ST_NO_SESSIONS) (tag_of bytes == ST_SESSIONS) p.tag
          (ap (λ (t : ℕ). t == ST_SESSIONS) (sym tag) ∙ without.sessions));
      handles = ap (λ (shape : Shape). shape.count) p.shape ∙ ap (λ (r : CommandRow). count_in r.handles) is;
      rest = rest;
      params = without.params ∙ rest;
      none = omega (arith, few, authorized);
    }
