-- Objects and their commands (Part 1, "Object Structure Elements" and "Protected Storage"; Part 3, "Object Commands"). The order of the faults, and how
-- seeds, secrets, tickets and private areas are made, are this project's own profile.
use Rattle.std.specs.Prelude.{ℕ, codes, ◌+◌, ◌*◌, ◌==◌, not, nat_le, Bool, List, [], ◌∷◌, ◌++◌, length, bytes_eq, Result, Ok, Err, if◌then◌else◌}
use Rattle.std.specs.Int.{w16, w32, to_be_bytes}
use Rattle.sha2.specs.Sha256.{sha256}
use Rattle.tab_spec.specs.declared.TheConstants.{ALG_NULL, ALG_SHA256, ALG_SYMCIPHER, RC_TYPE, RC_ATTRIBUTES, RC_KEY, RC_INTEGRITY, RC_VALUE, RC_SIZE, RC_INSUFFICIENT, RC_P, RC_1, RH_OWNER}
use Rattle.tab_spec.specs.Values.{Public, public_bytes, PcrSelection, Sensitive, Reading, enclosed, public_of, selection_of, sensitive_of, sized, ◌>>=◌, require, makes_secret, selection_bytes, sized_bytes, sized_exactly, sized_within, without_zeros, signs, number16}
use Rattle.tab_spec.specs.Hash.{name_of, kdfa, hmac, masked}
use Rattle.tab_spec.specs.Object.{Object}
use Rattle.tab_spec.specs.Parameters.{in_parameter, when_read, nothing_of}
use Rattle.tab_spec.specs.Persist.{Persist, selected_digest, drawn}

-- ---- what an object is

abbrev pub is_parent : Public → Bool
is_parent public = public.form == ALG_SYMCIPHER

-- how many bytes it makes: of a storage parent's key, and of an HMAC key
abbrev pub secret_size : Public → ℕ
secret_size public = if is_parent public then 16 else 32

abbrev pub object_name : Public → List ℕ
object_name public = name_of (public_bytes public)

-- the qualified name of an object under a parent with this one (Part 1, "Names")
abbrev pub qualified : List ℕ → Public → List ℕ
qualified parent public = name_of (parent ++ object_name public)

-- an object of this public area, whose unique field is the hash of its seed and secret
abbrev pub made_object : List ℕ → Public → List ℕ → List ℕ → List ℕ → Object
made_object parent given auth seed secret =
    let public = record given { unique = sha256 (seed ++ secret) } in
    record { public = public; auth = auth; seed = seed; secret = secret; qualified_name = qualified parent public }

-- ---- CreatePrimary and Create

-- what is to be created: its secret, its public area, outsideInfo, and the PCRs for its creation
-- data
pub record Template : Type 0 where
  pub sensitive : Sensitive
  pub public : Public
  pub outside : List ℕ
  pub selection : PcrSelection

abbrev pub template_of : List ℕ → Reading Template
template_of params = do
  (sensitive, rest) ← in_parameter 1 (enclosed sensitive_of RC_INSUFFICIENT params)
  (public, rest) ← in_parameter 2 (enclosed public_of RC_INSUFFICIENT rest)
  (outside, rest) ← in_parameter 3 (require (λ outside. nat_le (length outside) 64) RC_SIZE (sized RC_INSUFFICIENT rest))
  (selection, rest) ← in_parameter 4 (selection_of rest)
  Ok (record { sensitive = sensitive; public = public; outside = outside; selection = selection }, rest)

-- data is given exactly where the device doesn't make the secret
abbrev pub data_fits : Template → Bool
data_fits t = if makes_secret t.public then length t.sensitive.content == 0 else not (length t.sensitive.content == 0)

abbrev pub where_data_fits : {Y : Type 0} → Template → Result Y ℕ → Result Y ℕ
where_data_fits t next = if data_fits t then next else Err (RC_ATTRIBUTES + RC_P + RC_1)

-- under which parent an object was created: the algorithm of its Name, its Name, and its qualified name (Part 2, "TPMS_CREATION_DATA")
pub record Parentage : Type 0 where
  pub algorithm : ℕ
  pub name : List ℕ
  pub qualified_name : List ℕ

abbrev pub under_owner : Parentage
under_owner = record { algorithm = ALG_NULL; name = to_be_bytes w32 RH_OWNER; qualified_name = to_be_bytes w32 RH_OWNER }

abbrev pub under : Object → Parentage
under parent = record { algorithm = ALG_SHA256; name = object_name parent.public; qualified_name = parent.qualified_name }

abbrev pub creation_data : Persist → Parentage → Template → List ℕ
creation_data persist parent t =
    selection_bytes t.selection ++ sized_bytes (selected_digest persist.pcrs t.selection.bits) ++ 1 ∷ [] ++ to_be_bytes w16 parent.algorithm ++ sized_bytes parent.name
    ++ sized_bytes parent.qualified_name ++ sized_bytes t.outside

-- the key of tickets
abbrev pub proof_of : Persist → List ℕ
proof_of persist = kdfa persist.seed (codes "PROOF") [] [] 32

-- TPM_ST_CREATION, the hierarchy, and the HMAC by which the device authenticates the creation (Part 2, "TPMT_TK_CREATION")
abbrev pub creation_ticket : Persist → Public → List ℕ → List ℕ
creation_ticket persist public creation =
    0x80 ∷ 0x21 ∷ [] ++ to_be_bytes w32 RH_OWNER ++ sized_bytes (hmac (proof_of persist) (0x80 ∷ 0x21 ∷ [] ++ object_name public ++ sha256 creation))

-- the response parameters that both commands have
abbrev pub created : Persist → Parentage → Template → Public → List ℕ
created persist parent t public =
    let creation = creation_data persist parent t in
    sized_bytes (public_bytes public) ++ sized_bytes creation ++ sized_bytes (sha256 creation) ++ creation_ticket persist public creation

-- a primary's seed and secret follow from the device's seed, its public area as it is given, and its data
abbrev pub primary_bytes : List ℕ → Persist → Template → ℕ → List ℕ
primary_bytes label persist t size = kdfa persist.seed label (sha256 (public_bytes t.public)) (sha256 t.sensitive.content) size

abbrev pub primary_seed : Persist → Template → List ℕ
primary_seed persist t = primary_bytes (codes "PRIMARY SEED") persist t 32

abbrev pub primary_secret : Persist → Template → List ℕ
primary_secret persist t =
    if makes_secret t.public
    then primary_bytes (codes "PRIMARY SECRET") persist t (secret_size t.public)
    else t.sensitive.content

abbrev pub primary : Persist → Template → Object
primary persist t = made_object (to_be_bytes w32 RH_OWNER) t.public t.sensitive.auth (primary_seed persist t) (primary_secret persist t)

-- the object, and the response parameters
abbrev pub create_primary_row : Persist → List ℕ → Result (Object × List ℕ) ℕ
create_primary_row persist params =
    when_read (template_of params) (λ t. where_data_fits t (
    let o = primary persist t in Ok (o, created persist under_owner t o.public ++ sized_bytes (object_name o.public))))

-- ---- private areas (Part 1, "Protected Storage")

abbrev pub integrity_key : Object → List ℕ
integrity_key parent = kdfa parent.seed (codes "INTEGRITY") [] [] 32

-- bytes that a parent masks, and the HMAC by which it authenticates them under a Name
abbrev pub encrypted : Object → List ℕ → List ℕ → List ℕ
encrypted parent name bytes = masked parent.seed (codes "STORAGE") name [] bytes

abbrev pub integrity_value : Object → List ℕ → List ℕ → List ℕ
integrity_value parent name bytes = hmac (integrity_key parent) (bytes ++ name)

abbrev pub private_bytes : Object → Object → List ℕ
private_bytes parent o =
    let name = object_name o.public in
    let bytes = encrypted parent name (sized_bytes o.auth ++ sized_bytes o.seed ++ sized_bytes o.secret) in
    sized_bytes (integrity_value parent name bytes) ++ bytes

-- a child's seed, and then its secret where the device makes it, are drawn
abbrev pub child_with : Object → Template → List ℕ → List ℕ × Persist → Object × Persist
child_with parent t seed secret = (made_object parent.qualified_name t.public t.sensitive.auth seed secret.0, secret.1)

abbrev pub child_by : Object → Template → List ℕ → Result (List ℕ × Persist) ℕ → Result (Object × Persist) ℕ
child_by parent t seed draw = do
  secret ← draw
  Ok (child_with parent t seed secret)

abbrev pub child_from : Object → Template → Result (List ℕ × Persist) ℕ → Result (Object × Persist) ℕ
child_from parent t draw = do
  (seed, kept) ← draw
  child_by parent t seed
      (if makes_secret t.public then drawn kept (secret_size t.public)
      else Ok (t.sensitive.content, kept))

abbrev pub child_of : Persist → Object → Template → Result (Object × Persist) ℕ
child_of persist parent t = child_from parent t (drawn persist 32)

abbrev pub created_child : Persist → Object → Template → Result (Object × Persist) ℕ → Result (Persist × List ℕ) ℕ
created_child persist parent t made = do
  (child, kept) ← made
  let given = created persist (under parent) t child.public
  Ok (kept, sized_bytes (private_bytes parent child) ++ given)

-- an object that isn't of the kind which a command asks for, before its parameters are read
abbrev pub where_parent : {Y : Type 0} → Object → Result Y ℕ → Result Y ℕ
where_parent parent next = if is_parent parent.public then next else Err (RC_TYPE + RC_1)

abbrev pub create_row : Persist → Object → List ℕ → Result (Persist × List ℕ) ℕ
create_row persist parent params =
    where_parent parent (when_read (template_of params) (λ t. where_data_fits t (created_child persist parent t (child_of persist parent t))))

-- ---- Load

-- the private part that was hidden: an auth value, a seed and a secret, and nothing else
abbrev pub plain_of : List ℕ → Reading (List ℕ × List ℕ × List ℕ)
plain_of bytes = do
  (auth, rest) ← sized_within 32 bytes
  (seed, rest) ← sized_exactly 32 rest
  (secret, rest) ← sized_within 128 rest
  Ok ((without_zeros auth, seed, secret), rest)

abbrev pub loaded_with : {X : Type 0} → Reading X → (X → Object) → Result (Object × List ℕ) ℕ
loaded_with (Err code) made = Err (RC_INTEGRITY + RC_P + RC_1)
loaded_with (Ok plain) made =
    if length plain.1 == 0 then (let o = made plain.0 in Ok (o, sized_bytes (object_name o.public))) else Err (RC_INTEGRITY + RC_P + RC_1)

abbrev pub loaded_by : Object → Public → Reading (List ℕ) → Result (Object × List ℕ) ℕ
loaded_by parent public (Err code) = Err (RC_INTEGRITY + RC_P + RC_1)
loaded_by parent public (Ok private) =
    let name = object_name public in
    if bytes_eq private.0 (integrity_value parent name private.1)
    then loaded_with (plain_of (encrypted parent name private.1))
    (λ plain. record { public = public; auth = plain.0; seed = plain.1; secret = plain.2; qualified_name = qualified parent.qualified_name public })
    else Err (RC_INTEGRITY + RC_P + RC_1)

abbrev pub loading_of : List ℕ → Reading (List ℕ × Public)
loading_of params = do
  (private, rest) ← in_parameter 1 (require (λ private. nat_le (length private) 512) RC_SIZE (sized RC_INSUFFICIENT params))
  (public, rest) ← in_parameter 2 (enclosed public_of RC_INSUFFICIENT rest)
  Ok ((private, public), rest)

-- the object, and its Name as the response parameter
abbrev pub load_row : Object → List ℕ → Result (Object × List ℕ) ℕ
load_row parent params = where_parent parent (when_read (loading_of params) (λ given. loaded_by parent given.1 (sized RC_SIZE given.0)))

-- ---- what an object gives

abbrev pub unseal_row : Object → List ℕ → Result (List ℕ) ℕ
unseal_row item params =
    if is_parent item.public then Err (RC_TYPE + RC_1)
    else if signs item.public.attributes then Err (RC_ATTRIBUTES + RC_1)
    else when_read (nothing_of params) (λ none. Ok (sized_bytes item.secret))

abbrev pub hmac_of_params : List ℕ → Reading (List ℕ × ℕ)
hmac_of_params params = do
  (bytes, rest) ← in_parameter 1 (require (λ bytes. nat_le (length bytes) 1024) RC_SIZE (sized RC_INSUFFICIENT params))
  (hash, rest) ← in_parameter 2 (number16 RC_INSUFFICIENT rest)
  Ok ((bytes, hash), rest)

abbrev pub hmac_row : Object → List ℕ → Result (List ℕ) ℕ
hmac_row item params =
    if is_parent item.public then Err (RC_TYPE + RC_1)
    else if not (signs item.public.attributes) then Err (RC_KEY + RC_1)
    else when_read (hmac_of_params params) (λ given.
    if given.1 == ALG_SHA256 then Ok (sized_bytes (hmac item.secret given.0))
    else if given.1 == ALG_NULL then Ok (sized_bytes (hmac item.secret given.0))
    else Err (RC_VALUE + RC_P + RC_1 * 2))

-- the public area, the Name, and the qualified name
abbrev pub read_public_row : Object → List ℕ → Result (List ℕ) ℕ
read_public_row item params =
    when_read (nothing_of params) (λ none. Ok (sized_bytes (public_bytes item.public) ++ sized_bytes (object_name item.public) ++ sized_bytes item.qualified_name))
