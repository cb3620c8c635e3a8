-- What is read of a command behind its handles is the same in two commands that agree there.
use Rattle.std.proofs.Common.{◌≡◌, ◌+◌, ◌-◌, ◌≤◌, ◌⊎◌, inl, inr, ℕ, zero, suc, Bool, true, false, List, [], ◌∷◌, ◌++◌, length, take, drop, get_or, replicate, refl, ap, sym, ◌∙◌, drop-drop, get_or-drop, arith}
use Rattle.std.specs.Prelude.{Option, Some, None, IfSome, Result, Ok, Err, IfOk, ◌==◌, ◌||◌, nat_lt, if◌then◌else◌}
use Rattle.std.specs.List.{AllByRecursion}
use Rattle.std.specs.Int.{w16, w32, from_be_bytes}
use Rattle.tab_spec.specs.declared.Auth.{Auth}
use Rattle.tab_spec.specs.declared.Auths.{Auths}
use Rattle.tab_spec.specs.declared.Shape.{Shape}
use Rattle.tab_spec.specs.declared.TheConstants.{MOST_AUTH_BYTES, RC_AUTHSIZE, RC_AUTH_CONTEXT, RC_AUTH_MISSING, RS_PW, ST_SESSIONS}
use Rattle.std.proofs.lemmas.Bool.{eqb-true}
use Rattle.tab_spec.specs.Admission.{is_session_handle}
use Rattle.tab_laws.specs.OtherHandles.{ArePasswords}
use Rattle.tab_spec.specs.Auths.{no_auth, sized_at, auth_with, auth_from, auth_at, onto, auths_after, auths_from, area_with, area_at, has_no_area, auths_of}

-- two lists of one length that are the same from a place on
pub record Agree (at : ℕ) (old new : List ℕ) : Type 0 where
  pub size : length new ≡ length old
  pub behind : drop at new ≡ drop at old

-- from any later place on too
pub drop_behind : (at place : ℕ) (old new : List ℕ) → Agree at old new → at ≤ place → drop place new ≡ drop place old
drop_behind at place old new agree later =
    let on : at + (place - at) ≡ place = omega (arith, later) in
    let moved : (bytes : List ℕ) → drop (place - at) (drop at bytes) ≡ drop place bytes = λ bytes. drop-drop (place - at) at bytes ∙ ap (λ n. drop n bytes) on in
    sym (moved new) ∙ ap (drop (place - at)) agree.behind ∙ moved old

pub byte_behind : (at place : ℕ) (old new : List ℕ) → Agree at old new → at ≤ place → get_or new place 0 ≡ get_or old place 0
byte_behind at place old new agree later =
    let on : place + 0 ≡ place = omega arith in
    let moved : (bytes : List ℕ) → get_or (drop place bytes) 0 0 ≡ get_or bytes place 0 = λ bytes. get_or-drop place bytes 0 0 ∙ ap (λ n. get_or bytes n 0) on in
    sym (moved new) ∙ ap (λ bytes. get_or bytes 0 0) (drop_behind at place old new agree later) ∙ moved old

-- ---- an authorization

-- a place whose bytes stand behind
abbrev pub StandsBehind : ℕ → ℕ × ℕ → Type 0
StandsBehind at place = at ≤ place.0

pub record AuthBehind (at : ℕ) (auth : Auth) : Type 0 where
  pub nonce : StandsBehind at auth.nonce
  pub hmac : StandsBehind at auth.hmac
  pub order : auth.hmac.0 ≤ auth.hmac.1

sized_same : (at end place : ℕ) (old new : List ℕ) → Agree at old new → at ≤ place → sized_at new end place ≡ sized_at old end place
sized_same at end place old new agree later =
    ap (λ (bytes : List ℕ). let size = from_be_bytes w16 (take 2 bytes) in
    if nat_lt MOST_AUTH_BYTES size || nat_lt end (place + 2 + size) then None else Some (place + 2, place + 2 + size))
    (drop_behind at place old new agree later)

-- where a sized field stands
abbrev StandsFrom : ℕ → ℕ × ℕ → Type 0
StandsFrom place found = (place ≤ found.0) × (found.0 ≤ found.1)

sized_by : (bad : Bool) (place size : ℕ) → IfSome (if bad then None else Some (place + 2, place + 2 + size)) (StandsFrom place)
sized_by true place size = tt
sized_by false place size = (omega arith, omega arith)

sized_stands : (bytes : List ℕ) (end place : ℕ) → IfSome (sized_at bytes end place) (StandsFrom place)
sized_stands bytes end place =
    let size = from_be_bytes w16 (take 2 (drop place bytes)) in
    sized_by (nat_lt MOST_AUTH_BYTES size || nat_lt end (place + 2 + size)) place size

with_same : (at place : ℕ) (nonce : ℕ × ℕ) (hmac : Option (ℕ × ℕ)) (old new : List ℕ) → Agree at old new → at ≤ place → at ≤ nonce.1
    → auth_with new place nonce hmac ≡ auth_with old place nonce hmac
with_same at place nonce None old new agree later behind = refl
with_same at place nonce (Some hmac) old new agree later behind =
    let session : from_be_bytes w32 (take 4 (drop place new)) ≡ from_be_bytes w32 (take 4 (drop place old)) =
    ap (λ (bytes : List ℕ). from_be_bytes w32 (take 4 bytes)) (drop_behind at place old new agree later) in
    let attributes : get_or new nonce.1 0 ≡ get_or old nonce.1 0 = byte_behind at nonce.1 old new agree behind in
    λ i. Some (record { session = session i; nonce = nonce; attributes = attributes i; hmac = hmac })

from_same : (at end place : ℕ) (nonce : Option (ℕ × ℕ)) (old new : List ℕ) → Agree at old new → at ≤ place → IfSome nonce (StandsFrom at)
    → auth_from new end place nonce ≡ auth_from old end place nonce
from_same at end place None old new agree later stands = refl
from_same at end place (Some nonce) old new agree later stands =
    let behind : at ≤ nonce.1 = omega (arith, stands.0, stands.1) in
    ap (auth_with new place nonce) (sized_same at end (nonce.1 + 1) old new agree (omega (arith, behind)))
    ∙ with_same at place nonce (sized_at old end (nonce.1 + 1)) old new agree later behind

stands_later : (at place : ℕ) (found : Option (ℕ × ℕ)) → at ≤ place → IfSome found (StandsFrom place) → IfSome found (StandsFrom at)
stands_later at place None later stands = tt
stands_later at place (Some found) later stands = (omega (arith, later, stands.0), stands.1)

auth_same : (at end place : ℕ) (old new : List ℕ) → Agree at old new → at ≤ place → auth_at new end place ≡ auth_at old end place
auth_same at end place old new agree later =
    ap (auth_from new end place) (sized_same at end (place + 4) old new agree (omega (arith, later)))
    ∙ from_same at end place (sized_at old end (place + 4)) old new agree later
    (stands_later at (place + 4) (sized_at old end (place + 4)) (omega (arith, later)) (sized_stands old end (place + 4)))

-- ---- where it stands

with_behind : (bytes : List ℕ) (at place : ℕ) (nonce : ℕ × ℕ) (hmac : Option (ℕ × ℕ)) → StandsBehind at nonce → IfSome hmac (StandsFrom at)
    → IfSome (auth_with bytes place nonce hmac) (AuthBehind at)
with_behind bytes at place nonce None first stands = tt
with_behind bytes at place nonce (Some hmac) first stands = record { nonce = first; hmac = stands.0; order = stands.1 }

from_behind : (bytes : List ℕ) (at end place : ℕ) (nonce : Option (ℕ × ℕ)) → IfSome nonce (StandsFrom at)
    → IfSome (auth_from bytes end place nonce) (AuthBehind at)
from_behind bytes at end place None stands = tt
from_behind bytes at end place (Some nonce) stands =
    with_behind bytes at place nonce (sized_at bytes end (nonce.1 + 1)) stands.0
    (stands_later at (nonce.1 + 1) (sized_at bytes end (nonce.1 + 1)) (omega (arith, stands.0, stands.1)) (sized_stands bytes end (nonce.1 + 1)))

auth_behind : (bytes : List ℕ) (at end place : ℕ) → at ≤ place → IfSome (auth_at bytes end place) (AuthBehind at)
auth_behind bytes at end place later =
    from_behind bytes at end place (sized_at bytes end (place + 4))
    (stands_later at (place + 4) (sized_at bytes end (place + 4)) (omega (arith, later)) (sized_stands bytes end (place + 4)))

-- ---- some authorizations

after_same : (at end most : ℕ) (old new : List ℕ) (auth : Option Auth) → IfSome auth (AuthBehind at)
    → ((place : ℕ) → at ≤ place → auths_from most new end place ≡ auths_from most old end place)
    → auths_after auth (λ rest. auths_from most new end rest) ≡ auths_after auth (λ rest. auths_from most old end rest)
after_same at end most old new None stands same = refl
after_same at end most old new (Some auth) stands same =
    ap (onto auth) (same auth.hmac.1 (omega (arith, stands.hmac, stands.order)))

auths_same : (at end most place : ℕ) (old new : List ℕ) → Agree at old new → at ≤ place → auths_from most new end place ≡ auths_from most old end place
unfolding auths_from
auths_same at end zero place old new agree later = refl
auths_same at end (suc most) place old new agree later =
    ap (λ (auths : Option (List Auth)). if place == end then Some [] else auths)
    (ap (λ (auth : Option Auth). auths_after auth (λ rest. auths_from most new end rest)) (auth_same at end place old new agree later)
    ∙ after_same at end most old new (auth_at old end place) (auth_behind old at end place later)
    (λ more behind. auths_same at end most more old new agree behind))

abbrev AllBehind : ℕ → List Auth → Type 0
AllBehind at auths = AllByRecursion (AuthBehind at) auths

onto_behind : (at : ℕ) (auth : Auth) (more : Option (List Auth)) → AuthBehind at auth → IfSome more (AllBehind at) → IfSome (onto auth more) (AllBehind at)
onto_behind at auth None first all = tt
onto_behind at auth (Some auths) first all = (first, all)

after_behind : (bytes : List ℕ) (at end most : ℕ) (auth : Option Auth) → IfSome auth (AuthBehind at)
    → ((place : ℕ) → at ≤ place → IfSome (auths_from most bytes end place) (AllBehind at))
    → IfSome (auths_after auth (λ rest. auths_from most bytes end rest)) (AllBehind at)
after_behind bytes at end most None first all = tt
after_behind bytes at end most (Some auth) first all =
    onto_behind at auth (auths_from most bytes end auth.hmac.1) first (all auth.hmac.1 (omega (arith, first.hmac, first.order)))

ends_by : (at : ℕ) (ends : Bool) (more : Option (List Auth)) → IfSome more (AllBehind at) → IfSome (if ends then Some [] else more) (AllBehind at)
ends_by at true more all = tt
ends_by at false more all = all

auths_behind : (bytes : List ℕ) (at end most place : ℕ) → at ≤ place → IfSome (auths_from most bytes end place) (AllBehind at)
unfolding auths_from
auths_behind bytes at end zero place later = ends_by at (place == end) None tt
auths_behind bytes at end (suc most) place later =
    ends_by at (place == end) (auths_after (auth_at bytes end place) (λ rest. auths_from most bytes end rest))
    (after_behind bytes at end most (auth_at bytes end place) (auth_behind bytes at end place later) (λ more behind. auths_behind bytes at end most more behind))

-- ---- the area

area_same : (at : ℕ) (old new : List ℕ) → Agree at old new → area_at new at ≡ area_at old at
area_same at old new agree =
    let by : ℕ → ℕ → Option (List Auth) → Result Auths ℕ = λ whole size auths.
    if nat_lt whole (at + 4) || nat_lt size 9 || nat_lt whole (at + 4 + size) then Err RC_AUTHSIZE else area_with (at + 4 + size) auths in
    let size_in : List ℕ → ℕ = λ bytes. from_be_bytes w32 (take 4 bytes) in
    let end = at + 4 + size_in (drop at old) in
    let found = auths_from 3 new (at + 4 + size_in (drop at new)) (at + 4) in
    ap (λ (whole : ℕ). by whole (size_in (drop at new)) found) agree.size
    ∙ ap (λ (bytes : List ℕ). by (length old) (size_in bytes) (auths_from 3 new (at + 4 + size_in bytes) (at + 4))) agree.behind
    ∙ ap (by (length old) (size_in (drop at old))) (auths_same at end 3 (at + 4) old new agree (omega arith))

-- the authorizations of a command are those of one with other handles
pub auths_of_same : (shape : Shape) (handles : List ℕ) (old new : List ℕ) → Agree shape.rest old new → auths_of new (record shape { handles = handles }) ≡ auths_of old shape
unfolding auths_of
auths_of_same shape handles old new agree =
    ap (λ (area : Result Auths ℕ).
    if shape.tag == ST_SESSIONS then if has_no_area shape.row.code then Err RC_AUTH_CONTEXT else area
    else if nat_lt 0 shape.row.authorized then Err RC_AUTH_MISSING
    else Ok (record { count = 0; auths = replicate 3 no_auth; params = shape.rest }))
    (area_same shape.rest old new agree)

-- ---- where the authorizations and the parameters stand

-- The first authorization stands behind, or there is none, and so do the parameters. It names no session where all are
-- passwords.
pub record AuthsBehind (at : ℕ) (auths : Auths) : Type 0 where
  pub first : AuthBehind at (get_or auths.auths 0 no_auth) ⊎ (get_or auths.auths 0 no_auth ≡ no_auth)
  pub params : at ≤ auths.params
  pub no_session : ArePasswords (take auths.count auths.auths) → is_session_handle (get_or auths.auths 0 no_auth).session ≡ false

no_session_by : (handle : ℕ) → (handle == RS_PW) ≡ true → is_session_handle handle ≡ false
no_session_by handle is = ap is_session_handle (eqb-true handle RS_PW is)

first_no_session : (auths : List Auth) → ArePasswords (take (length auths) (take 3 (auths ++ replicate 3 no_auth)))
    → is_session_handle (get_or (take 3 (auths ++ replicate 3 no_auth)) 0 no_auth).session ≡ false
first_no_session [] all = refl
first_no_session (auth ∷ auths) all = no_session_by auth.session all.0

first_behind : (at : ℕ) (auths : List Auth) → AllBehind at auths
    → AuthBehind at (get_or (take 3 (auths ++ replicate 3 no_auth)) 0 no_auth) ⊎ (get_or (take 3 (auths ++ replicate 3 no_auth)) 0 no_auth ≡ no_auth)
first_behind at [] all = inr refl
first_behind at (auth ∷ auths) all = inl all.0

area_with_behind : (at end : ℕ) (auths : Option (List Auth)) → at ≤ end → IfSome auths (AllBehind at) → IfOk (area_with end auths) (AuthsBehind at)
area_with_behind at end None later all = tt
area_with_behind at end (Some auths) later all = record { first = first_behind at auths all; params = later; no_session = first_no_session auths }

unless_bad : (at : ℕ) (bad : Bool) (area : Result Auths ℕ) → IfOk area (AuthsBehind at) → IfOk (if bad then Err RC_AUTHSIZE else area) (AuthsBehind at)
unless_bad at true area behind = tt
unless_bad at false area behind = behind

area_behind : (bytes : List ℕ) (at : ℕ) → IfOk (area_at bytes at) (AuthsBehind at)
area_behind bytes at =
    let size = from_be_bytes w32 (take 4 (drop at bytes)) in
    let end = at + 4 + size in
    unless_bad at (nat_lt (length bytes) (at + 4) || nat_lt size 9 || nat_lt (length bytes) end) (area_with end (auths_from 3 bytes end (at + 4)))
    (area_with_behind at end (auths_from 3 bytes end (at + 4)) (omega arith) (auths_behind bytes at end 3 (at + 4) (omega arith)))

auths_by : (at : ℕ) (sessions no_area missing : Bool) (area : Result Auths ℕ) → IfOk area (AuthsBehind at)
    → IfOk (if sessions then if no_area then Err RC_AUTH_CONTEXT else area
    else if missing then Err RC_AUTH_MISSING
    else Ok (record { count = 0; auths = replicate 3 no_auth; params = at })) (AuthsBehind at)
auths_by at true true missing area behind = tt
auths_by at true false missing area behind = behind
auths_by at false no_area true area behind = tt
auths_by at false no_area false area behind = record { first = inr refl; params = omega arith; no_session = λ all. refl }

pub auths_of_behind : (bytes : List ℕ) (shape : Shape) → IfOk (auths_of bytes shape) (AuthsBehind shape.rest)
unfolding auths_of
auths_of_behind bytes shape =
    auths_by shape.rest (shape.tag == ST_SESSIONS) (has_no_area shape.row.code) (nat_lt 0 shape.row.authorized) (area_at bytes shape.rest)
    (area_behind bytes shape.rest)
