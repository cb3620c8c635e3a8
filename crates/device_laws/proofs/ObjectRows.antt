-- What the commands of objects make and leave, and how long their responses are.
use Rattle.std.proofs.Common.{◌≡◌, ◌+◌, ◌*◌, ◌/◌, ◌≤◌, ℕ, Bool, true, false, List, [], ◌∷◌, ◌++◌, length, refl, ap, arith, length-append, length-take}
use Rattle.std.proofs.lemmas.List.{length-map}
use Rattle.std.proofs.lemmas.Slice.Zip.{length-zip}
use Rattle.std.specs.Prelude.{Option, Some, None, IfSome, zip, not, nat_le, bytes_eq, ◌==◌, Result, Ok, Err, if◌then◌else◌}
use Rattle.std.specs.Int.{w16, w32, to_be_bytes}
use Rattle.std.specs.Int.Bits.{bit_xor}
use Rattle.std.proofs.lemmas.Bool.{cond_both, leb-true}
use Rattle.sha2.specs.Sha256.{sha256}
use Rattle.sha2.proofs.Facts256.{length-sha256}
use Rattle.tab_spec.specs.declared.TheConstants.{LAST_PLACE, ALG_NULL, ALG_SHA256, RH_OWNER, RC_TYPE, RC_ATTRIBUTES, RC_KEY, RC_INTEGRITY, RC_VALUE, RC_SIZE, RC_FAILURE, RC_INSUFFICIENT, RC_P, RC_1}
use Rattle.tab_spec.specs.Hash.{hmac, kdfa_block, kdfa_blocks, kdfa, xor_bytes, name_of}
use Rattle.tab_spec.specs.Values.{Reading, require, sized, enclosed, sized_bytes, before_zeros, without_zeros, signs, Public, public_of, public_bytes, IsPublic, Sensitive, auth_of, sensitive_of, selection_of, selected_bytes, selection_bytes, IsPcrSelection, sized_exactly, sized_within, makes_secret}
use Rattle.tab_spec.specs.Parameters.{in_parameter, when_read, nothing_of}
use Rattle.tab_spec.specs.Persist.{Persist, IsPersist, stream_bytes, words_for, random_bytes, drawn, selected_digest}
use Rattle.tab_spec.specs.Object.{Object, IsObject}
use Rattle.effect_spec.specs.Objects.{is_parent, secret_size, object_name, qualified, made_object, Template, template_of, data_fits, where_data_fits, Parentage, under_owner, under, creation_data, proof_of, creation_ticket, created, primary_bytes, primary_seed, primary_secret, primary, create_primary_row, integrity_key, encrypted, integrity_value, private_bytes, child_by, child_from, child_of, created_child, create_row, plain_of, loaded_with, loaded_by, loading_of, load_row, hmac_of_params, unseal_row, hmac_row, read_public_row}
use Rattle.tab_laws.proofs.Objects.{length-sized, public_small, gives_after, gives_required, gives_weaker, within_gives, exactly_gives}
use Rattle.device_laws.proofs.NvRows.{Short, Any, gives_any, read_gives, gives_parameter, gives_enclosed, fewer, name_few}
use Rattle.tab_laws.proofs.ReadBack.{Gives, gives_next, gives_where, public_gives, selection_gives}

-- parameters that fit into a frame, and an object of this profile
abbrev pub MadeWell : Result (Object × List ℕ) ℕ → Type 0
MadeWell (Err code) = Unit
MadeWell (Ok made) = (length made.1 ≤ 4000) × IsObject made.0

-- the same, and what a device of this profile may keep
abbrev pub KeptWell : Result (Persist × List ℕ) ℕ → Type 0
KeptWell (Err code) = Unit
KeptWell (Ok done) = (length done.1 ≤ 4000) × IsPersist done.0

-- ---- what an object gives

pub length-hmac : (key message : List ℕ) → length (hmac key message) ≡ 32
length-hmac key message = length-sha256 _

sized_few : (bytes : List ℕ) (n : ℕ) → length bytes ≤ n → length (sized_bytes bytes) ≤ 2 + n
sized_few bytes n few = omega (arith, length-sized bytes, few)

keyed_small : (key message : List ℕ) → length (sized_bytes (hmac key message)) ≤ 4000
keyed_small key message = omega (arith, length-sized (hmac key message), length-hmac key message)

pub short_hmac : (item : Object) (params : List ℕ) → Short (hmac_row item params)
short_hmac item params =
    cond_both (is_parent item.public) (Err (RC_TYPE + RC_1)) _ Short (λ parent. tt) (λ other.
    cond_both (not (signs item.public.attributes)) (Err (RC_KEY + RC_1)) _ Short (λ no. tt) (λ yes.
    read_gives Short Any (hmac_of_params params) _ (gives_any (hmac_of_params params)) (λ code. tt) (λ given any.
    cond_both (given.1 == ALG_SHA256) (Ok (sized_bytes (hmac item.secret given.0))) _ Short (λ is. keyed_small item.secret given.0) (λ not.
    cond_both (given.1 == ALG_NULL) (Ok (sized_bytes (hmac item.secret given.0))) (Err (RC_VALUE + RC_P + RC_1 * 2)) Short (λ is. keyed_small item.secret given.0) (λ not. tt)))))

secret_small : (secret : List ℕ) → length secret ≤ 128 → length (sized_bytes secret) ≤ 4000
secret_small secret few = omega (arith, sized_few secret 128 few)

pub short_unseal : (item : Object) (params : List ℕ) → IsObject item → Short (unseal_row item params)
short_unseal item params is =
    cond_both (is_parent item.public) (Err (RC_TYPE + RC_1)) _ Short (λ parent. tt) (λ other.
    cond_both (signs item.public.attributes) (Err (RC_ATTRIBUTES + RC_1)) _ Short (λ yes. tt) (λ no.
    read_gives Short Any (nothing_of params) (λ none. Ok (sized_bytes item.secret)) (gives_any (nothing_of params)) (λ code. tt) (λ none any.
    secret_small item.secret is.secret)))

three_small : (area name qualified_name : List ℕ) → length area ≤ 82 → length name ≤ 34 → length qualified_name ≤ 34
    → length (sized_bytes area ++ sized_bytes name ++ sized_bytes qualified_name) ≤ 4000
three_small area name qualified_name area_few name_few qualified_few =
    omega (
      arith,
      length-append (sized_bytes area ++ sized_bytes name) (sized_bytes qualified_name),
      length-append (sized_bytes area) (sized_bytes name),
      sized_few area 82 area_few,
      sized_few name 34 name_few,
      sized_few qualified_name 34 qualified_few,
    )

pub short_read_public : (item : Object) (params : List ℕ) → IsObject item → Short (read_public_row item params)
short_read_public item params is =
    let qualified_is = is.qualified_name in
    let told = sized_bytes (public_bytes item.public) ++ sized_bytes (object_name item.public) ++ sized_bytes item.qualified_name in
    read_gives Short Any (nothing_of params) (λ none. Ok told) (gives_any (nothing_of params)) (λ code. tt) (λ none any.
    three_small (public_bytes item.public) (object_name item.public) item.qualified_name (public_small item.public is.public) (name_few (public_bytes item.public))
    (omega arith))

-- ---- what is loaded

-- an auth value as an object has it
abbrev IsAuth : List ℕ → Type 0
IsAuth auth = (length auth ≤ 32) × (without_zeros auth ≡ auth)

-- zeros that were taken off aren't there to be taken off again
bare_by : (zero_is : Bool) (byte : ℕ) → (byte == 0) ≡ zero_is → without_zeros (if zero_is then [] else byte ∷ []) ≡ (if zero_is then [] else byte ∷ [])
bare_by true byte is = refl
bare_by false byte is = rw is refl

bare_before : (byte : ℕ) (bytes : List ℕ) → without_zeros bytes ≡ bytes → without_zeros (before_zeros byte bytes) ≡ before_zeros byte bytes
bare_before byte [] bare = bare_by (byte == 0) byte refl
bare_before byte (next ∷ more) bare = ap (before_zeros byte) bare

bare_again : (bytes : List ℕ) → without_zeros (without_zeros bytes) ≡ without_zeros bytes
bare_again [] = refl
bare_again (byte ∷ bytes) = bare_before byte (without_zeros bytes) (bare_again bytes)

stripped_is : (auth : List ℕ) → length auth ≤ 32 → IsAuth (without_zeros auth)
stripped_is auth short = (omega (arith, fewer auth, short), bare_again auth)

length-name : (bytes : List ℕ) → length (name_of bytes) ≡ 34
length-name bytes = omega (arith, length-sha256 bytes)

-- what a private area holds: an auth value, a seed and a secret
abbrev ArePlain : List ℕ × List ℕ × List ℕ → Type 0
ArePlain plain = IsAuth plain.0 × (length plain.1 ≡ 32) × (length plain.2 ≤ 128)

plain_gives : (bytes : List ℕ) → Gives ArePlain (plain_of bytes)
plain_gives bytes =
    gives_after (λ auth. length auth ≤ 32) ArePlain (sized_within 32 bytes) _ (within_gives 32 bytes) (λ auth rest auth_is.
    gives_after (λ seed. length seed ≡ 32) ArePlain (sized_exactly 32 rest) _ (exactly_gives 32 rest) (λ seed rest seed_is.
    gives_after (λ secret. length secret ≤ 128) ArePlain (sized_within 128 rest) _ (within_gives 128 rest) (λ secret rest secret_is.
    (stripped_is auth auth_is, seed_is, secret_is))))

name_small : (public : Public) → length (sized_bytes (object_name public)) ≤ 4000
name_small public = omega (arith, sized_few (object_name public) 34 (name_few (public_bytes public)))

made_with : (plain : Reading (List ℕ × List ℕ × List ℕ)) (made : List ℕ × List ℕ × List ℕ → Object) → Gives ArePlain plain
    → ((parts : List ℕ × List ℕ × List ℕ) → ArePlain parts → IsObject (made parts)) → MadeWell (loaded_with plain made)
made_with (Err code) made gives makes = tt
made_with (Ok plain) made gives makes =
    let o = made plain.0 in
    cond_both (length plain.1 == 0) (Ok (o, sized_bytes (object_name o.public))) (Err (RC_INTEGRITY + RC_P + RC_1)) MadeWell
    (λ whole. (name_small o.public, makes plain.0 gives)) (λ more. tt)

made_by : (parent : Object) (public : Public) (private : Reading (List ℕ)) → IsPublic public → MadeWell (loaded_by parent public private)
made_by parent public (Err code) is = tt
made_by parent public (Ok private) is =
    let name = object_name public in
    let made : List ℕ × List ℕ × List ℕ → Object = λ plain.
    record { public = public; auth = plain.0; seed = plain.1; secret = plain.2; qualified_name = qualified parent.qualified_name public } in
    cond_both (bytes_eq private.0 (integrity_value parent name private.1)) (loaded_with (plain_of (encrypted parent name private.1)) made)
    (Err (RC_INTEGRITY + RC_P + RC_1)) MadeWell
    (λ same. made_with (plain_of (encrypted parent name private.1)) made (plain_gives (encrypted parent name private.1)) (λ parts are.
    record {
      public = is;
      auth_short = are.0.0;
      auth_bare = are.0.1;
      seed = are.1;
      secret = are.2;
      qualified_name = length-name (parent.qualified_name ++ name);
    }))
    (λ other. tt)

area_gives : (bytes : List ℕ) → Gives IsPublic (in_parameter 2 (enclosed public_of RC_INSUFFICIENT bytes))
area_gives bytes =
    gives_parameter IsPublic 2 (enclosed public_of RC_INSUFFICIENT bytes) (gives_enclosed IsPublic public_of (sized RC_INSUFFICIENT bytes) public_gives)

abbrev IsLoading : List ℕ × Public → Type 0
IsLoading given = IsPublic given.1

loading_gives : (params : List ℕ) → Gives IsLoading (loading_of params)
loading_gives params =
    gives_next IsLoading (in_parameter 1 (require (λ private. nat_le (length private) 512) RC_SIZE (sized RC_INSUFFICIENT params))) _ (λ private rest.
    gives_after IsPublic IsLoading (in_parameter 2 (enclosed public_of RC_INSUFFICIENT rest)) _ (area_gives rest) (λ public rest is. is))

pub made_load : (parent : Object) (params : List ℕ) → IsObject parent → MadeWell (load_row parent params)
made_load parent params is =
    cond_both (is_parent parent.public) (when_read (loading_of params) (λ given. loaded_by parent given.1 (sized RC_SIZE given.0))) (Err (RC_TYPE + RC_1)) MadeWell
    (λ storage. read_gives MadeWell IsLoading (loading_of params) (λ given. loaded_by parent given.1 (sized RC_SIZE given.0)) (loading_gives params)
    (λ code. tt) (λ given public_is. made_by parent given.1 (sized RC_SIZE given.0) public_is))
    (λ other. tt)

-- ---- what is to be created

record IsTemplate (t : Template) : Type 0 where
  auth : IsAuth t.sensitive.auth
  content : length t.sensitive.content ≤ 128
  public : IsPublic t.public
  outside : length t.outside ≤ 64
  selection : IsPcrSelection t.selection

record IsSensitive (sensitive : Sensitive) : Type 0 where
  auth : IsAuth sensitive.auth
  content : length sensitive.content ≤ 128

auth_gives : (lacking : ℕ) (bytes : List ℕ) → Gives IsAuth (auth_of lacking bytes)
auth_gives lacking bytes =
    gives_where IsAuth (λ auth. nat_le (length auth) 32) RC_SIZE (sized lacking bytes) (λ auth rest. Ok (without_zeros auth, rest))
    (λ auth rest short. stripped_is auth (leb-true (length auth) 32 short))

sensitive_gives : (bytes : List ℕ) → Gives IsSensitive (sensitive_of bytes)
sensitive_gives bytes =
    gives_after IsAuth IsSensitive (auth_of RC_SIZE bytes) _ (auth_gives RC_SIZE bytes) (λ auth rest auth_is.
    gives_where IsSensitive (λ content. nat_le (length content) 128) RC_SIZE (sized RC_SIZE rest) _ (λ content rest short.
    record { auth = auth_is; content = leb-true (length content) 128 short }))

outside_gives : (bytes : List ℕ)
    → Gives (λ outside. length outside ≤ 64) (in_parameter 3 (require (λ outside. nat_le (length outside) 64) RC_SIZE (sized RC_INSUFFICIENT bytes)))
outside_gives bytes =
    let Few : List ℕ → Type 0 = λ outside. length outside ≤ 64 in
    let reading = sized RC_INSUFFICIENT bytes in
    gives_parameter Few 3 (require (λ outside. nat_le (length outside) 64) RC_SIZE reading)
    (gives_weaker (λ outside. Unit × (nat_le (length outside) 64 ≡ true)) Few (require (λ outside. nat_le (length outside) 64) RC_SIZE reading)
    (λ outside short. leb-true (length outside) 64 short.1)
    (gives_required (λ outside. Unit) (λ outside. nat_le (length outside) 64) RC_SIZE reading (gives_any reading)))

template_gives : (params : List ℕ) → Gives IsTemplate (template_of params)
template_gives params =
    gives_after IsSensitive IsTemplate (in_parameter 1 (enclosed sensitive_of RC_INSUFFICIENT params)) _
    (gives_parameter IsSensitive 1 (enclosed sensitive_of RC_INSUFFICIENT params)
    (gives_enclosed IsSensitive sensitive_of (sized RC_INSUFFICIENT params) sensitive_gives)) (λ sensitive rest sensitive_is.
    gives_after IsPublic IsTemplate (in_parameter 2 (enclosed public_of RC_INSUFFICIENT rest)) _ (area_gives rest) (λ public rest public_is.
    gives_after (λ outside. length outside ≤ 64) IsTemplate
    (in_parameter 3 (require (λ outside. nat_le (length outside) 64) RC_SIZE (sized RC_INSUFFICIENT rest))) _ (outside_gives rest) (λ outside rest outside_is.
    gives_after IsPcrSelection IsTemplate (in_parameter 4 (selection_of rest)) _ (gives_parameter IsPcrSelection 4 (selection_of rest) (selection_gives rest))
    (λ selection rest selection_is.
    record { auth = sensitive_is.auth; content = sensitive_is.content; public = public_is; outside = outside_is; selection = selection_is }))))

-- ---- what is derived

length-derived : (key label u v : List ℕ) → length (kdfa key label u v 32) ≡ 32
unfolding kdfa_blocks
length-derived key label u v =
    let block = kdfa_block key label u v 256 1 in
    let whole : length block ≡ 32 = length-sha256 _ in
    omega (arith, length-take 32 (block ++ []), length-append block [], whole)

derived_few : (key label u v : List ℕ) (count : ℕ) → length (kdfa key label u v count) ≤ count
derived_few key label u v count = omega (arith, length-take count (kdfa_blocks key label u v (8 * count) 1 ((count + 31) / 32)))

secret_size_few : (public : Public) → secret_size public ≤ 32
secret_size_few public = cond_both (is_parent public) 16 32 (λ (size : ℕ). size ≤ 32) (λ parent. omega arith) (λ other. omega arith)

-- ---- what is made

with_unique : (public : Public) (bytes : List ℕ) → IsPublic public → IsPublic (record public { unique = sha256 bytes })
with_unique public bytes is = record {
  form_fits = is.form_fits;
  form_known = is.form_known;
  attributes_fit = is.attributes_fit;
  attributes_agree = is.attributes_agree;
  policy_known = is.policy_known;
  unique_short = omega (arith, length-sha256 bytes);
}

made_is : (parent : List ℕ) (public : Public) (auth seed secret : List ℕ) → IsPublic public → IsAuth auth → length seed ≡ 32 → length secret ≤ 128
    → IsObject (made_object parent public auth seed secret)
made_is parent public auth seed secret public_is auth_is seed_is secret_is =
    let o = made_object parent public auth seed secret in
    record {
      public = with_unique public (seed ++ secret) public_is;
      auth_short = auth_is.0;
      auth_bare = auth_is.1;
      seed = seed_is;
      secret = secret_is;
      qualified_name = length-name (parent ++ object_name o.public);
    }

either_few : (makes : Bool) (made content : List ℕ) → length made ≤ 32 → length content ≤ 128 → length (if makes then made else content) ≤ 128
either_few true made content made_few content_few = omega (arith, made_few)
either_few false made content made_few content_few = content_few

primary_few : (label : List ℕ) (persist : Persist) (t : Template) → length (primary_bytes label persist t (secret_size t.public)) ≤ 32
primary_few label persist t =
    omega (arith, derived_few persist.seed label (sha256 (public_bytes t.public)) (sha256 t.sensitive.content) (secret_size t.public), secret_size_few t.public)

primary_secret_few : (persist : Persist) (t : Template) → length t.sensitive.content ≤ 128 → length (primary_secret persist t) ≤ 128
primary_secret_few persist t few = either_few (makes_secret t.public) _ t.sensitive.content (primary_few _ persist t) few

primary_is : (persist : Persist) (t : Template) → IsTemplate t → IsObject (primary persist t)
primary_is persist t is =
    made_is (to_be_bytes w32 RH_OWNER) t.public t.sensitive.auth (primary_seed persist t) (primary_secret persist t) is.public is.auth
    (length-derived persist.seed _ (sha256 (public_bytes t.public)) (sha256 t.sensitive.content)) (primary_secret_few persist t is.content)

-- ---- what is told of a creation

selected_few : (bits : Option (List ℕ)) → IfSome bits (λ bits. length bits ≡ 3) → length (selected_bytes bits) ≤ 10
selected_few None is = omega arith
selected_few (Some bits) is = omega (arith, is)

length-selected : (pcrs : List (List ℕ)) (bits : Option (List ℕ)) → length (selected_digest pcrs bits) ≡ 32
length-selected pcrs None = length-sha256 []
length-selected pcrs (Some bits) = length-sha256 _

data_parts : (selection digest name qualified_name outside : List ℕ) (algorithm : ℕ) → length selection ≤ 10 → length digest ≤ 32 → length name ≤ 34
    → length qualified_name ≤ 34 → length outside ≤ 64
    → length (selection ++ sized_bytes digest ++ 1 ∷ [] ++ to_be_bytes w16 algorithm ++ sized_bytes name ++ sized_bytes qualified_name ++ sized_bytes outside) ≤ 185
data_parts selection digest name qualified_name outside algorithm selection_few digest_few name_few qualified_few outside_few =
    let d = sized_bytes digest in
    let a = to_be_bytes w16 algorithm in
    let n = sized_bytes name in
    let q = sized_bytes qualified_name in
    let o = sized_bytes outside in
    omega (
      arith,
      selection_few,
      length-append (selection ++ d ++ 1 ∷ [] ++ a ++ n ++ q) o,
      length-append (selection ++ d ++ 1 ∷ [] ++ a ++ n) q,
      length-append (selection ++ d ++ 1 ∷ [] ++ a) n,
      length-append (selection ++ d ++ 1 ∷ []) a,
      length-append (selection ++ d) (1 ∷ []),
      length-append selection d,
      sized_few digest 32 digest_few,
      sized_few name 34 name_few,
      sized_few qualified_name 34 qualified_few,
      sized_few outside 64 outside_few,
    )

record IsParentage (parent : Parentage) : Type 0 where
  name : length parent.name ≤ 34
  qualified_name : length parent.qualified_name ≤ 34

data_few : (persist : Persist) (parent : Parentage) (t : Template) → IsParentage parent → IsTemplate t → length (creation_data persist parent t) ≤ 185
data_few persist parent t parent_is is =
    data_parts (selection_bytes t.selection) (selected_digest persist.pcrs t.selection.bits) parent.name parent.qualified_name t.outside parent.algorithm
    (selected_few t.selection.bits is.selection) (omega (arith, length-selected persist.pcrs t.selection.bits)) parent_is.name parent_is.qualified_name is.outside

ticket_few : (persist : Persist) (public : Public) (creation : List ℕ) → length (creation_ticket persist public creation) ≤ 40
ticket_few persist public creation =
    let key = proof_of persist in
    let message = 0x80 ∷ 0x21 ∷ [] ++ object_name public ++ sha256 creation in
    omega (
      arith,
      length-append (0x80 ∷ 0x21 ∷ [] ++ to_be_bytes w32 RH_OWNER) (sized_bytes (hmac key message)),
      length-sized (hmac key message),
      length-hmac key message,
    )

created_parts : (area creation digest ticket : List ℕ) → length area ≤ 82 → length creation ≤ 185 → length digest ≤ 32 → length ticket ≤ 40
    → length (sized_bytes area ++ sized_bytes creation ++ sized_bytes digest ++ ticket) ≤ 345
created_parts area creation digest ticket area_few creation_few digest_few ticket_is =
    let a = sized_bytes area in
    let c = sized_bytes creation in
    let d = sized_bytes digest in
    omega (
      arith,
      length-append (a ++ c ++ d) ticket,
      length-append (a ++ c) d,
      length-append a c,
      sized_few area 82 area_few,
      sized_few creation 185 creation_few,
      sized_few digest 32 digest_few,
      ticket_is,
    )

created_few : (persist : Persist) (parent : Parentage) (t : Template) (public : Public) → IsParentage parent → IsTemplate t → IsPublic public
    → length (created persist parent t public) ≤ 345
created_few persist parent t public parent_is is public_is =
    let creation = creation_data persist parent t in
    created_parts (public_bytes public) creation (sha256 creation) (creation_ticket persist public creation) (public_small public public_is)
    (data_few persist parent t parent_is is) (omega (arith, length-sha256 creation)) (ticket_few persist public creation)

under_owner_is : IsParentage under_owner
under_owner_is = record { name = omega arith; qualified_name = omega arith }

-- ---- CreatePrimary

-- what is done where the data fits
data_fitting : {Y : Type 0} (P : Result Y ℕ → Type 0) (t : Template) (row : Result Y ℕ) → ((code : ℕ) → P (Err code)) → P row → P (where_data_fits t row)
data_fitting P t row fails goes = cond_both (data_fits t) row (Err (RC_ATTRIBUTES + RC_P + RC_1)) P (λ fits. goes) (λ unfit. fails (RC_ATTRIBUTES + RC_P + RC_1))

primary_small : (told name : List ℕ) → length told ≤ 345 → length name ≤ 34 → length (told ++ sized_bytes name) ≤ 4000
primary_small told name told_few name_is = omega (arith, length-append told (sized_bytes name), sized_few name 34 name_is, told_few)

made_by_template : (persist : Persist) (t : Template) → IsTemplate t
    → let o = primary persist t in MadeWell (Ok (o, created persist under_owner t o.public ++ sized_bytes (object_name o.public)))
made_by_template persist t is =
    let o = primary persist t in
    let o_is : IsObject o = primary_is persist t is in (
      primary_small (created persist under_owner t o.public) (object_name o.public)
          (created_few persist under_owner t o.public under_owner_is is o_is.public) (name_few (public_bytes o.public)),
      o_is,
    )

pub made_primary : (persist : Persist) (params : List ℕ) → IsPersist persist → MadeWell (create_primary_row persist params)
made_primary persist params sound =
    let made : Template → Object × List ℕ = λ t.
    (let o = primary persist t in (o, created persist under_owner t o.public ++ sized_bytes (object_name o.public))) in
    read_gives MadeWell IsTemplate (template_of params) (λ t. where_data_fits t (Ok (made t))) (template_gives params) (λ code. tt) (λ t is.
    data_fitting MadeWell t (Ok (made t)) (λ code. tt) (made_by_template persist t is))

-- ---- private areas

xor_few : (a b : List ℕ) → length (xor_bytes a b) ≤ length a
xor_few a b = omega (arith, length-map (zip a b) (λ (pair : ℕ × ℕ). bit_xor pair.0 pair.1), length-zip a b)

hidden_few : (parent : Object) (name bytes : List ℕ) → length (encrypted parent name bytes) ≤ length bytes
hidden_few parent name bytes = xor_few bytes _

-- an auth value, a seed and a secret
plain_few : (auth seed secret : List ℕ) → length auth ≤ 32 → length seed ≤ 32 → length secret ≤ 128
    → length (sized_bytes auth ++ sized_bytes seed ++ sized_bytes secret) ≤ 198
plain_few auth seed secret auth_few seed_few secret_few =
    omega (
      arith,
      length-append (sized_bytes auth ++ sized_bytes seed) (sized_bytes secret),
      length-append (sized_bytes auth) (sized_bytes seed),
      sized_few auth 32 auth_few,
      sized_few seed 32 seed_few,
      sized_few secret 128 secret_few,
    )

under_code : (code bytes : List ℕ) → length code ≤ 32 → length bytes ≤ 198 → length (sized_bytes code ++ bytes) ≤ 232
under_code code bytes code_few few = omega (arith, length-append (sized_bytes code) bytes, sized_few code 32 code_few, few)

private_few : (parent o : Object) → length o.auth ≤ 32 → length o.seed ≤ 32 → length o.secret ≤ 128 → length (private_bytes parent o) ≤ 232
private_few parent o auth_few seed_few secret_few =
    let name = object_name o.public in
    let plain = sized_bytes o.auth ++ sized_bytes o.seed ++ sized_bytes o.secret in
    let bytes = encrypted parent name plain in
    let few : length bytes ≤ 198 = omega (arith, hidden_few parent name plain, plain_few o.auth o.seed o.secret auth_few seed_few secret_few) in
    under_code (integrity_value parent name bytes) bytes (omega (arith, length-hmac (integrity_key parent) (bytes ++ name))) few

-- ---- Create

-- so many bytes, and what a device of this profile may keep
abbrev DrawnWell : ℕ → Result (List ℕ × Persist) ℕ → Type 0
DrawnWell most (Err code) = Unit
DrawnWell most (Ok draw) = (length draw.0 ≤ most) × IsPersist draw.1

pub drawn_at : (persist : Persist) (place : ℕ) → IsPersist persist → place ≤ LAST_PLACE → IsPersist (record persist { place = place })
drawn_at persist place sound within = record {
  seed = sound.seed;
  place = within;
  owner_auth = sound.owner_auth;
  nv_count = sound.nv_count;
  indexes = sound.indexes;
  pcr_count = sound.pcr_count;
  pcr_sizes = sound.pcr_sizes;
  updates = sound.updates;
}

drawn_well : (persist : Persist) (n most : ℕ) → IsPersist persist → n ≤ most → DrawnWell most (drawn persist n)
drawn_well persist n most sound few =
    let place = persist.place + words_for n in
    cond_both (nat_le place LAST_PLACE) (Ok (random_bytes persist.seed persist.place n, record persist { place = place })) (Err RC_FAILURE) (DrawnWell most)
    (λ there. (
      omega (arith, length-take n (stream_bytes persist.seed persist.place (words_for n)), few),
      drawn_at persist place sound (leb-true place LAST_PLACE there),
    ))
    (λ past. tt)

-- what was made of what was drawn
record IsChild (o : Object) (persist : Persist) : Type 0 where
  public : IsPublic o.public
  auth : length o.auth ≤ 32
  seed : length o.seed ≤ 32
  secret : length o.secret ≤ 128
  sound : IsPersist persist

abbrev ChildWell : Result (Object × Persist) ℕ → Type 0
ChildWell (Err code) = Unit
ChildWell (Ok child) = IsChild child.0 child.1

child_by_is : (parent : Object) (t : Template) (seed : List ℕ) (secret : Result (List ℕ × Persist) ℕ) → IsTemplate t → length seed ≤ 32 → DrawnWell 128 secret
    → ChildWell (child_by parent t seed secret)
child_by_is parent t seed (Err code) is seed_few well = tt
child_by_is parent t seed (Ok secret) is seed_few well = record {
  public = with_unique t.public (seed ++ secret.0) is.public;
  auth = is.auth.0;
  seed = seed_few;
  secret = well.0;
  sound = well.1;
}

child_from_is : (parent : Object) (t : Template) (seed : Result (List ℕ × Persist) ℕ) → IsTemplate t → DrawnWell 32 seed → ChildWell (child_from parent t seed)
child_from_is parent t (Err code) is well = tt
child_from_is parent t (Ok seed) is well =
    let size = secret_size t.public in
    cond_both (makes_secret t.public) (drawn seed.1 size) (Ok (t.sensitive.content, seed.1)) (λ secret. ChildWell (child_by parent t seed.0 secret))
    (λ makes. child_by_is parent t seed.0 (drawn seed.1 size) is well.0 (drawn_well seed.1 size 128 well.1 (omega (arith, secret_size_few t.public))))
    (λ takes. child_by_is parent t seed.0 (Ok (t.sensitive.content, seed.1)) is well.0 (is.content, well.1))

under_is : (parent : Object) → IsObject parent → IsParentage (under parent)
under_is parent is =
    let name_is = is.qualified_name in
    record { name = name_few (public_bytes parent.public); qualified_name = omega arith }

child_small : (private told : List ℕ) → length private ≤ 232 → length told ≤ 345 → length (sized_bytes private ++ told) ≤ 4000
child_small private told private_few told_few = omega (arith, length-append (sized_bytes private) told, sized_few private 232 private_few, told_few)

created_well : (persist : Persist) (parent : Object) (t : Template) (child : Result (Object × Persist) ℕ) → IsObject parent → IsTemplate t → ChildWell child
    → KeptWell (created_child persist parent t child)
created_well persist parent t (Err code) parent_is is well = tt
created_well persist parent t (Ok child) parent_is is well = (
  child_small (private_bytes parent child.0) (created persist (under parent) t child.0.public)
      (private_few parent child.0 well.auth well.seed well.secret)
      (created_few persist (under parent) t child.0.public (under_is parent parent_is) is well.public),
  well.sound,
)

pub kept_create : (persist : Persist) (parent : Object) (params : List ℕ) → IsPersist persist → IsObject parent → KeptWell (create_row persist parent params)
kept_create persist parent params sound parent_is =
    let made : Template → Result (Persist × List ℕ) ℕ = λ t. created_child persist parent t (child_of persist parent t) in
    cond_both (is_parent parent.public) (when_read (template_of params) (λ t. where_data_fits t (made t))) (Err (RC_TYPE + RC_1)) KeptWell
    (λ storage. read_gives KeptWell IsTemplate (template_of params) (λ t. where_data_fits t (made t)) (template_gives params) (λ code. tt) (λ t is.
    data_fitting KeptWell t (made t) (λ code. tt)
    (created_well persist parent t (child_of persist parent t) parent_is is
    (child_from_is parent t (drawn persist 32) is (drawn_well persist 32 32 sound (omega arith))))))
    (λ other. tt)
