-- The authorizations of a command, or the code of their first fault (Part 1, "Authorization Area"; Part 2,
-- "TPMS_AUTH_COMMAND"). The order of the faults and the limit of 64 bytes are this project's own profile. They are step 7 of
-- the refusals in docs/PROTOCOL.md.
use Rattle.std.specs.Prelude.{ℕ, zero, suc, ◌+◌, ◌==◌, ◌||◌, nat_lt, Bool, List, [], ◌∷◌, ◌++◌, length, get_or, take, drop, replicate, Option, Some, None, Result, Ok, Err, if◌then◌else◌, ◌≤◌}
use Rattle.std.specs.Int.{w16, w32, from_be_bytes}
use Rattle.tab_spec.specs.declared.Shape.{Shape}
use Rattle.tab_spec.specs.declared.Auth.{Auth}
use Rattle.tab_spec.specs.declared.Auths.{Auths}
use Rattle.tab_spec.specs.declared.TheConstants.{ST_SESSIONS, CC_STARTUP, CC_CONTEXT_SAVE, CC_CONTEXT_LOAD, CC_FLUSH_CONTEXT, RC_AUTH_MISSING, RC_AUTHSIZE, RC_AUTH_CONTEXT, MOST_AUTH_BYTES}

-- the filler for the unused places of authorizations
abbrev pub no_auth : Auth
no_auth = record { session = 0; nonce = (0, 0); attributes = 0; hmac = (0, 0) }

-- where the bytes of a TPM2B lie, whose size field stands at a place; nothing where they are more than 64, or aren't whole
-- before the end
abbrev pub sized_at : List ℕ → ℕ → ℕ → Option (ℕ × ℕ)
sized_at bytes end at =
    let size = from_be_bytes w16 (take 2 (drop at bytes)) in
    if nat_lt MOST_AUTH_BYTES size || nat_lt end (at + 2 + size) then None else Some (at + 2, at + 2 + size)

abbrev pub auth_with : List ℕ → ℕ → ℕ × ℕ → Option (ℕ × ℕ) → Option Auth
auth_with bytes at nonce None = None
auth_with bytes at nonce (Some hmac) = Some (record {
  session = from_be_bytes w32 (take 4 (drop at bytes));
  nonce = nonce;
  attributes = get_or bytes nonce.1 0;
  hmac = hmac;
})

abbrev pub auth_from : List ℕ → ℕ → ℕ → Option (ℕ × ℕ) → Option Auth
auth_from bytes end at None = None
auth_from bytes end at (Some nonce) = auth_with bytes at nonce (sized_at bytes end (nonce.1 + 1))

-- the authorization at a place: session handle, nonce, attributes and hmac; nothing where it isn't whole before the end
abbrev pub auth_at : List ℕ → ℕ → ℕ → Option Auth
auth_at bytes end at = auth_from bytes end at (sized_at bytes end (at + 4))

abbrev pub onto : Auth → Option (List Auth) → Option (List Auth)
onto auth None = None
onto auth (Some auths) = Some (auth ∷ auths)

abbrev pub auths_after : Option Auth → (ℕ → Option (List Auth)) → Option (List Auth)
auths_after None more = None
auths_after (Some auth) more = onto auth (more auth.hmac.1)

-- the authorizations from a place up to the end, at most so many; nothing where they don't fill it
unfoldable pub auths_from : ℕ → List ℕ → ℕ → ℕ → Option (List Auth)
auths_from zero bytes end at = if at == end then Some [] else None
auths_from (suc most) bytes end at = if at == end then Some [] else auths_after (auth_at bytes end at) (λ rest. auths_from most bytes end rest)

abbrev pub area_with : ℕ → Option (List Auth) → Result Auths ℕ
area_with end None = Err RC_AUTHSIZE
area_with end (Some auths) = Ok (record { count = length auths; auths = take 3 (auths ++ replicate 3 no_auth); params = end })

-- step 7c: an area is its size, and one to three authorizations that fill it
abbrev pub area_at : List ℕ → ℕ → Result Auths ℕ
area_at bytes at =
    let size = from_be_bytes w32 (take 4 (drop at bytes)) in
    let end = at + 4 + size in
    if nat_lt (length bytes) (at + 4) || nat_lt size 9 || nat_lt (length bytes) end then Err RC_AUTHSIZE
    else area_with end (auths_from 3 bytes end (at + 4))

-- step 7a: the commands that never have authorizations (Part 3)
abbrev pub has_no_area : ℕ → Bool
has_no_area code = code == CC_STARTUP || code == CC_CONTEXT_SAVE || code == CC_CONTEXT_LOAD || code == CC_FLUSH_CONTEXT

-- the authorizations of a command of this shape, or the code of the first fault: of step 7a or 7c with the tag of sessions,
-- of step 7b without it
unfoldable pub auths_of : List ℕ → Shape → Result Auths ℕ
auths_of bytes shape =
    if shape.tag == ST_SESSIONS then if has_no_area shape.row.code then Err RC_AUTH_CONTEXT else area_at bytes shape.rest
    else if nat_lt 0 shape.row.authorized then Err RC_AUTH_MISSING
    else Ok (record { count = 0; auths = replicate 3 no_auth; params = shape.rest })

-- an authorization whose nonce and hmac lie within a command of so many bytes
pub record IsAuthWithin (size : ℕ) (auth : Auth) : Type 0 where
  pub nonce : (auth.nonce.0 ≤ auth.nonce.1) × (auth.nonce.1 ≤ size)
  pub hmac : (auth.hmac.0 ≤ auth.hmac.1) × (auth.hmac.1 ≤ size)
