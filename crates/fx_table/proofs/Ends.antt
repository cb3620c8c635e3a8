-- What an effect leaves, by what its parts gave.
use Rattle.std.proofs.Common.{◌≡◌, ◌+◌, ℕ, Bool, true, false, List, [], ◌∷◌, length, drop, Ok, Err, refl, ap, sym, ◌∙◌}
use Rattle.std.specs.Prelude.{Result, Option, Some, None, nat_le, is_ok, if◌then◌else◌}
use Rattle.tab_spec.specs.declared.Auth.{Auth}
use Rattle.tab_spec.specs.declared.Auths.{Auths}
use Rattle.tab_spec.specs.declared.Shape.{Shape}
use Rattle.tab_spec.specs.declared.TheConstants.{LAST_PLACE, RC_FAILURE, ST_SESSIONS}
use Rattle.tab_spec.specs.Persist.{Persist, drawn, words_for}
use Rattle.tab_spec.specs.Session.{Session}
use Rattle.effect_spec.specs.Authorization.{Entity}
use Rattle.effect_spec.specs.Nv.{undefined_index}
use Rattle.effect_spec.specs.Operands.{Operands, named_session, number_of, operand_at, command_auth}
use Rattle.effect_spec.specs.SessionAuths.{ResponseAuth, response_auth, rp_hash, session_response_auth, session_response_with}
use Rattle.effect_spec.specs.Effect.{RowOutcome, authorization_fault, command_entity, effect_authorized, effect_failed, effect_in, effect_left, effect_of, effect_row, response_auth_of}
use Rattle.fx_table.specs.Kept.{can_draw_nonce, has_nonce}

-- ---- an effect by its row

pub effect_ends : (persist : Persist) (named : Operands) (shape : Shape) (auths : Auths) (bytes : List ℕ) (row : Result RowOutcome ℕ) (outcome : RowOutcome) (authorized : ResponseAuth)
    → row ≡ Ok outcome → response_auth_of persist named shape auths bytes outcome ≡ Ok authorized
    → effect_in persist named shape auths bytes row ≡ effect_left named shape auths outcome authorized
effect_ends persist named shape auths bytes row outcome authorized row_is authorized_is =
    ap (effect_in persist named shape auths bytes) row_is ∙ ap (effect_authorized persist named shape auths outcome) authorized_is

pub row_fails : (persist : Persist) (named : Operands) (shape : Shape) (auths : Auths) (bytes : List ℕ) (row : Result RowOutcome ℕ) (code : ℕ)
    → row ≡ Err code → effect_in persist named shape auths bytes row ≡ effect_failed persist named code
row_fails persist named shape auths bytes row code is = ap (effect_in persist named shape auths bytes) is

pub response_auth_fails : (persist : Persist) (named : Operands) (shape : Shape) (auths : Auths) (bytes : List ℕ) (row : Result RowOutcome ℕ) (outcome : RowOutcome) (code : ℕ)
    → row ≡ Ok outcome → response_auth_of persist named shape auths bytes outcome ≡ Err code
    → effect_in persist named shape auths bytes row ≡ effect_failed persist named code
response_auth_fails persist named shape auths bytes row outcome code row_is authorized_is =
    ap (effect_in persist named shape auths bytes) row_is ∙ ap (effect_authorized persist named shape auths outcome) authorized_is

-- ---- the tests before it

pub undefined_fails : (persist : Persist) (named : Operands) (shape : Shape) (auths : Auths) (bytes : List ℕ) (code : ℕ)
    → undefined_index persist.nv 1 (number_of (operand_at named.handles 0) ∷ number_of (operand_at named.handles 1) ∷ []) ≡ Some code
    → effect_of persist named shape auths bytes ≡ effect_failed persist named code
unfolding effect_of
undefined_fails persist named shape auths bytes code is = rw is refl

pub unauthorized_fails : (persist : Persist) (named : Operands) (shape : Shape) (auths : Auths) (bytes : List ℕ) (code : ℕ)
    → undefined_index persist.nv 1 (number_of (operand_at named.handles 0) ∷ number_of (operand_at named.handles 1) ∷ []) ≡ None
    → authorization_fault persist named shape auths bytes ≡ Some code
    → effect_of persist named shape auths bytes ≡ effect_failed persist named code
unfolding effect_of
unauthorized_fails persist named shape auths bytes code there is = rw (there, is) refl

pub effect_passes : (persist : Persist) (named : Operands) (shape : Shape) (auths : Auths) (bytes : List ℕ)
    → undefined_index persist.nv 1 (number_of (operand_at named.handles 0) ∷ number_of (operand_at named.handles 1) ∷ []) ≡ None
    → authorization_fault persist named shape auths bytes ≡ None
    → effect_of persist named shape auths bytes
    ≡ effect_in persist named shape auths bytes (effect_row shape.row.code persist named.handles (drop auths.params bytes))
unfolding effect_of
effect_passes persist named shape auths bytes there is = rw (there, is) refl

-- the same by the numbers that the handles hold
named_alike : (persist : Persist) (named : Operands) (first second : ℕ) (fault : Option ℕ) → first ≡ number_of (operand_at named.handles 0) → second ≡ number_of (operand_at named.handles 1)
    → undefined_index persist.nv 1 (first ∷ second ∷ []) ≡ fault
    → undefined_index persist.nv 1 (number_of (operand_at named.handles 0) ∷ number_of (operand_at named.handles 1) ∷ []) ≡ fault
named_alike persist named first second fault first_is second_is is = rw (sym first_is, sym second_is) is

pub undefined_by : (persist : Persist) (named : Operands) (shape : Shape) (auths : Auths) (bytes : List ℕ) (first second code : ℕ)
    → first ≡ number_of (operand_at named.handles 0) → second ≡ number_of (operand_at named.handles 1) → undefined_index persist.nv 1 (first ∷ second ∷ []) ≡ Some code
    → effect_of persist named shape auths bytes ≡ effect_failed persist named code
undefined_by persist named shape auths bytes first second code first_is second_is is =
    undefined_fails persist named shape auths bytes code (named_alike persist named first second (Some code) first_is second_is is)

pub unauthorized_by : (persist : Persist) (named : Operands) (shape : Shape) (auths : Auths) (bytes : List ℕ) (first second code : ℕ)
    → first ≡ number_of (operand_at named.handles 0) → second ≡ number_of (operand_at named.handles 1) → undefined_index persist.nv 1 (first ∷ second ∷ []) ≡ None
    → authorization_fault persist named shape auths bytes ≡ Some code → effect_of persist named shape auths bytes ≡ effect_failed persist named code
unauthorized_by persist named shape auths bytes first second code first_is second_is is fault =
    unauthorized_fails persist named shape auths bytes code (named_alike persist named first second None first_is second_is is) fault

pub passes_by : (persist : Persist) (named : Operands) (shape : Shape) (auths : Auths) (bytes : List ℕ) (first second : ℕ)
    → first ≡ number_of (operand_at named.handles 0) → second ≡ number_of (operand_at named.handles 1) → undefined_index persist.nv 1 (first ∷ second ∷ []) ≡ None
    → authorization_fault persist named shape auths bytes ≡ None
    → effect_of persist named shape auths bytes
    ≡ effect_in persist named shape auths bytes (effect_row shape.row.code persist named.handles (drop auths.params bytes))
passes_by persist named shape auths bytes first second first_is second_is is fault =
    effect_passes persist named shape auths bytes (named_alike persist named first second None first_is second_is is) fault

-- ---- the nonce

is_ok_by : {A : Type 0} (test : Bool) (a : A) (code : ℕ) → is_ok (if test then Ok a else Err code) ≡ test
is_ok_by true a code = refl
is_ok_by false a code = refl

can_draw : (p : Persist) (n : ℕ) → is_ok (drawn p n) ≡ nat_le (p.place + words_for n) LAST_PLACE
can_draw p n = is_ok_by (nat_le (p.place + words_for n) LAST_PLACE) _ RC_FAILURE

drawn_alike : (p q : Persist) (n : ℕ) → p.place ≡ q.place → is_ok (drawn p n) ≡ is_ok (drawn q n)
drawn_alike p q n same = can_draw p n ∙ ap (λ (place : ℕ). nat_le (place + words_for n) LAST_PLACE) same ∙ sym (can_draw q n)

not_drawn : (p : Persist) (n : ℕ) → is_ok (drawn p n) ≡ false → drawn p n ≡ Err RC_FAILURE
not_drawn p n none = rw (sym (can_draw p n) ∙ none) refl

session_fails : (entity : Entity) (s : Session) (auth : Auth) (bytes hash : List ℕ) (nonce : Result (List ℕ × Persist) ℕ) (code : ℕ)
    → nonce ≡ Err code → session_response_auth (session_response_with entity s auth bytes hash nonce) ≡ Err code
session_fails entity s auth bytes hash nonce code is = rw is refl

session_authorizes : (entity : Entity) (s : Session) (auth : Auth) (bytes hash : List ℕ) (nonce : Result (List ℕ × Persist) ℕ) (code : ℕ)
    → is_ok nonce ≡ true → session_response_auth (session_response_with entity s auth bytes hash nonce) ≡ Err code → ⊥
session_authorizes entity s auth bytes hash (Ok nonce) code ok fails = cc
session_authorizes entity s auth bytes hash (Err other) code ok fails = cc

auth_fails : (old new : Persist) (entity : Entity) (session : Option Session) (auth : Auth) (bytes hash : List ℕ) → new.place ≡ old.place
    → has_nonce old session ≡ false → response_auth new entity session auth bytes hash ≡ Err RC_FAILURE
auth_fails old new entity None auth bytes hash same none = cc
auth_fails old new entity (Some s) auth bytes hash same none =
    session_fails entity s auth bytes hash (drawn new (length s.nonce)) RC_FAILURE
    (not_drawn new (length s.nonce) (drawn_alike new old (length s.nonce) same ∙ none))

nonce_authorizes : (old new : Persist) (entity : Entity) (session : Option Session) (auth : Auth) (bytes hash : List ℕ) (code : ℕ) → new.place ≡ old.place
    → has_nonce old session ≡ true → response_auth new entity session auth bytes hash ≡ Err code → ⊥
nonce_authorizes old new entity None auth bytes hash code same some fails = cc
nonce_authorizes old new entity (Some s) auth bytes hash code same some fails =
    session_authorizes entity s auth bytes hash (drawn new (length s.nonce)) code (drawn_alike new old (length s.nonce) same ∙ some) fails

auth_tagged : (persist : Persist) (named : Operands) (shape : Shape) (auths : Auths) (bytes : List ℕ) (outcome : RowOutcome) → shape.tag ≡ ST_SESSIONS
    → response_auth outcome.persist (command_entity persist named) (named_session named.session) (command_auth auths) bytes (rp_hash shape.row.code outcome.params)
    ≡ response_auth_of persist named shape auths bytes outcome
auth_tagged persist named shape auths bytes outcome tag = rw tag refl

-- where the place stays and the next nonce can't be drawn, the response can't be authorized
pub cannot_authorize : (persist : Persist) (named : Operands) (shape : Shape) (auths : Auths) (bytes : List ℕ) (outcome : RowOutcome)
    → shape.tag ≡ ST_SESSIONS → outcome.persist.place ≡ persist.place → can_draw_nonce persist named ≡ false
    → response_auth_of persist named shape auths bytes outcome ≡ Err RC_FAILURE
cannot_authorize persist named shape auths bytes outcome tag same none =
    sym (auth_tagged persist named shape auths bytes outcome tag)
    ∙ auth_fails persist outcome.persist (command_entity persist named) (named_session named.session) (command_auth auths) bytes (rp_hash shape.row.code outcome.params) same none

-- where it can be drawn, it is authorized
pub can_authorize : (persist : Persist) (named : Operands) (shape : Shape) (auths : Auths) (bytes : List ℕ) (outcome : RowOutcome) (code : ℕ)
    → shape.tag ≡ ST_SESSIONS → outcome.persist.place ≡ persist.place → can_draw_nonce persist named ≡ true
    → response_auth_of persist named shape auths bytes outcome ≡ Err code → ⊥
can_authorize persist named shape auths bytes outcome code tag same some fails =
    nonce_authorizes persist outcome.persist (command_entity persist named) (named_session named.session) (command_auth auths) bytes (rp_hash shape.row.code outcome.params) code same some
    (auth_tagged persist named shape auths bytes outcome tag ∙ fails)
