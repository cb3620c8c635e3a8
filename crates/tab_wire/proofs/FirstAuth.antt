-- The first authorization of a command lies within it.
use Rattle.std.proofs.Common.{◌≡◌, ◌+◌, ◌≤◌, ◌<◌, ℕ, suc, Bool, true, false, List, [], ◌∷◌, ◌++◌, length, take, drop, get_or, replicate, refl, ap, sym, ◌∙◌, subst, arith}
use Rattle.std.specs.Prelude.{Option, Some, None, Ok, Err, ◌==◌, ◌||◌, nat_lt, if◌then◌else◌}
use Rattle.std.specs.Int.{w16, w32, from_be_bytes}
use Rattle.std.proofs.lemmas.Bool.{ltb-false, ne_eqb}
use Rattle.tab_spec.specs.declared.Auth.{Auth}
use Rattle.tab_spec.specs.declared.Auths.{Auths}
use Rattle.tab_spec.specs.declared.Shape.{Shape}
use Rattle.tab_spec.specs.declared.TheConstants.{MOST_AUTH_BYTES, RC_AUTHSIZE, RC_AUTH_CONTEXT, RC_AUTH_MISSING, ST_SESSIONS}
use Rattle.tab_spec.specs.Auths.{no_auth, sized_at, auth_with, auth_from, auth_at, onto, auths_after, auths_from, area_with, area_at, has_no_area, auths_of, IsAuthWithin}

-- a place whose bytes lie before the end
abbrev Before : ℕ → ℕ × ℕ → Type 0
Before end place = (place.0 ≤ place.1) × (place.1 ≤ end)

before_more : (end size : ℕ) (place : ℕ × ℕ) → end ≤ size → Before end place → Before size place
before_more end size place less before = (before.0, omega (arith, less, before.1))

sized_by : (long cut : Bool) (end at size : ℕ) (place : ℕ × ℕ) → nat_lt end (at + 2 + size) ≡ cut
    → (if long || cut then None else Some (at + 2, at + 2 + size)) ≡ Some place → Before end place
sized_by true cut end at size place test e = absurd cc
sized_by false true end at size place test e = absurd cc
sized_by false false end at size place test e =
    let is : (at + 2, at + 2 + size) ≡ place = cc in
    let within : at + 2 + size ≤ end = ltb-false end (at + 2 + size) test in
    subst (Before end) is (omega arith, within)

sized_before : (bytes : List ℕ) (end at : ℕ) (place : ℕ × ℕ) → sized_at bytes end at ≡ Some place → Before end place
sized_before bytes end at place e =
    let size = from_be_bytes w16 (take 2 (drop at bytes)) in
    sized_by (nat_lt MOST_AUTH_BYTES size) (nat_lt end (at + 2 + size)) end at size place refl e

record Lies (end : ℕ) (auth : Auth) : Type 0 where
  nonce : Before end auth.nonce
  hmac : Before end auth.hmac

lies_with : (bytes : List ℕ) (end at : ℕ) (nonce : ℕ × ℕ) (hmac : Option (ℕ × ℕ)) (auth : Auth) → Before end nonce → ((place : ℕ × ℕ) → hmac ≡ Some place → Before end place)
    → auth_with bytes at nonce hmac ≡ Some auth → Lies end auth
lies_with bytes end at nonce None auth before behind e = absurd cc
lies_with bytes end at nonce (Some hmac) auth before behind e =
    let nonce_is : nonce ≡ auth.nonce = cc in
    let hmac_is : hmac ≡ auth.hmac = cc in
    record { nonce = subst (Before end) nonce_is before; hmac = subst (Before end) hmac_is (behind hmac refl) }

lies_from : (bytes : List ℕ) (end at : ℕ) (nonce : Option (ℕ × ℕ)) (auth : Auth) → ((place : ℕ × ℕ) → nonce ≡ Some place → Before end place)
    → auth_from bytes end at nonce ≡ Some auth → Lies end auth
lies_from bytes end at None auth before e = absurd cc
lies_from bytes end at (Some nonce) auth before e =
    lies_with bytes end at nonce (sized_at bytes end (nonce.1 + 1)) auth (before nonce refl) (sized_before bytes end (nonce.1 + 1)) e

lies_at : (bytes : List ℕ) (end at : ℕ) (auth : Auth) → auth_at bytes end at ≡ Some auth → Lies end auth
lies_at bytes end at auth e = lies_from bytes end at (sized_at bytes end (at + 4)) auth (sized_before bytes end (at + 4)) e

-- the first of some authorizations
record First (end : ℕ) (auths : List Auth) : Type 0 where
  first : Auth
  more : List Auth
  are : auths ≡ first ∷ more
  lies : Lies end first

first_onto : (end : ℕ) (auth : Auth) (more : Option (List Auth)) (auths : List Auth) → Lies end auth → onto auth more ≡ Some auths → First end auths
first_onto end auth None auths lies e = absurd cc
first_onto end auth (Some more) auths lies e = record { first = auth; more = more; are = let is : (auth ∷ more) ≡ auths = cc in sym is; lies = lies }

first_behind : (bytes : List ℕ) (end : ℕ) (auth : Option Auth) (more : ℕ → Option (List Auth)) (auths : List Auth) → ((a : Auth) → auth ≡ Some a → Lies end a)
    → auths_after auth more ≡ Some auths → First end auths
first_behind bytes end None more auths lies e = absurd cc
first_behind bytes end (Some auth) more auths lies e = first_onto end auth (more auth.hmac.1) auths (lies auth refl) e

first_by : (there : Bool) (bytes : List ℕ) (end at most : ℕ) (auths : List Auth) → there ≡ false
    → (if there then Some [] else auths_after (auth_at bytes end at) (λ behind. auths_from most bytes end behind)) ≡ Some auths → First end auths
first_by true bytes end at most auths not e = absurd cc
first_by false bytes end at most auths not e = first_behind bytes end (auth_at bytes end at) (λ behind. auths_from most bytes end behind) auths (lies_at bytes end at) e

first_from : (bytes : List ℕ) (end at most : ℕ) (auths : List Auth) → at < end → auths_from (suc most) bytes end at ≡ Some auths → First end auths
unfolding auths_from
first_from bytes end at most auths before e = first_by (at == end) bytes end at most auths (ne_eqb at end (λ is. omega (arith, is, before))) e

-- an area has a first authorization
record Leads (size : ℕ) (auths : Auths) : Type 0 where
  first : Auth
  is : first ≡ get_or auths.auths 0 no_auth
  lies : Lies size first

leads_with : (end size : ℕ) (given : Option (List Auth)) (auths : Auths) → end ≤ size → ((list : List Auth) → given ≡ Some list → First end list)
    → area_with end given ≡ Ok auths → Leads size auths
leads_with end size None auths less firsts e = absurd cc
leads_with end size (Some list) auths less firsts e =
    let f = firsts list refl in
    let auths_are : take 3 (list ++ replicate 3 no_auth) ≡ auths.auths = cc in
    record {
      first = f.first;
      is = sym (ap (λ (l : List Auth). get_or (take 3 (l ++ replicate 3 no_auth)) 0 no_auth) f.are) ∙ ap (λ (l : List Auth). get_or l 0 no_auth) auths_are;
      lies = record { nonce = before_more end size f.first.nonce less f.lies.nonce; hmac = before_more end size f.first.hmac less f.lies.hmac };
    }

leads_by : (cut small long : Bool) (bytes : List ℕ) (at size : ℕ) (auths : Auths) → nat_lt size 9 ≡ small → nat_lt (length bytes) (at + 4 + size) ≡ long
    → (if cut || small || long then Err RC_AUTHSIZE else area_with (at + 4 + size) (auths_from 3 bytes (at + 4 + size) (at + 4))) ≡ Ok auths → Leads (length bytes) auths
leads_by true small long bytes at size auths least most e = absurd cc
leads_by false true long bytes at size auths least most e = absurd cc
leads_by false false true bytes at size auths least most e = absurd cc
leads_by false false false bytes at size auths least most e =
    let nine : 9 ≤ size = ltb-false size 9 least in
    let within : at + 4 + size ≤ length bytes = ltb-false (length bytes) (at + 4 + size) most in
    leads_with (at + 4 + size) (length bytes) (auths_from 3 bytes (at + 4 + size) (at + 4)) auths within
    (λ list given. first_from bytes (at + 4 + size) (at + 4) 2 list (omega (arith, nine)) given) e

first_in_area : (bytes : List ℕ) (at : ℕ) (auths : Auths) → area_at bytes at ≡ Ok auths → IsAuthWithin (length bytes) (get_or auths.auths 0 no_auth)
first_in_area bytes at auths e =
    let size = from_be_bytes w32 (take 4 (drop at bytes)) in
    let l = leads_by (nat_lt (length bytes) (at + 4)) (nat_lt size 9) (nat_lt (length bytes) (at + 4 + size)) bytes at size auths refl refl e in
    subst (IsAuthWithin (length bytes)) l.is (record { nonce = l.lies.nonce; hmac = l.lies.hmac })

-- an empty one lies within any command
empty_within : (size : ℕ) → IsAuthWithin size no_auth
empty_within size = record { nonce = (omega arith, omega arith); hmac = (omega arith, omega arith) }

first_of : (sessions barred needed : Bool) (bytes : List ℕ) (at rest : ℕ) (auths : Auths)
    → (if sessions then (if barred then Err RC_AUTH_CONTEXT else area_at bytes at) else if needed then Err RC_AUTH_MISSING
    else Ok (record { count = 0; auths = replicate 3 no_auth; params = rest })) ≡ Ok auths → IsAuthWithin (length bytes) (get_or auths.auths 0 no_auth)
first_of true true needed bytes at rest auths e = absurd cc
first_of true false needed bytes at rest auths e = first_in_area bytes at auths e
first_of false barred true bytes at rest auths e = absurd cc
first_of false barred false bytes at rest auths e =
    let are : replicate 3 no_auth ≡ auths.auths = cc in
    subst (λ (l : List Auth). IsAuthWithin (length bytes) (get_or l 0 no_auth)) are (empty_within (length bytes))

pub first_within : (bytes : List ℕ) (shape : Shape) (auths : Auths) → auths_of bytes shape ≡ Ok auths → IsAuthWithin (length bytes) (get_or auths.auths 0 no_auth)
unfolding auths_of
first_within bytes shape auths e =
    first_of (shape.tag == ST_SESSIONS) (has_no_area shape.row.code) (nat_lt 0 shape.row.authorized) bytes shape.rest shape.rest auths e
