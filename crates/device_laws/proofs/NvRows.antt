-- What the commands of NV indexes leave, and how long their responses are.
use Rattle.std.proofs.Common.{◌≡◌, ◌+◌, ◌-◌, ◌*◌, ◌^◌, ◌≤◌, ℕ, Bool, true, false, List, [], ◌∷◌, ◌++◌, length, take, drop, replicate, refl, sym, ◌∙◌, arith, length-append, length-take, length-drop}
use Rattle.std.proofs.lemmas.List.{length-replicate}
use Rattle.std.specs.Prelude.{Option, Some, None, IfSome, is_some, not, nat_lt, nat_le, ◌==◌, ◌||◌, Result, Ok, Err, if◌then◌else◌}
use Rattle.std.specs.List.{AllByRecursion}
use Rattle.std.specs.Int.{w16, w64, from_be_bytes, to_be_bytes}
use Rattle.std.proofs.lemmas.Bool.{cond_both, leb-true, leb-false, ltb-false, eqb-true}
use Rattle.tab_spec.specs.declared.TheConstants.{NV_INDEXES, MOST_NV_BYTES, RC_1, RC_SIZE, RC_HANDLE, RC_ATTRIBUTES, RC_INSUFFICIENT, RC_NV_RANGE, RC_NV_AUTHORIZATION, RC_NV_UNINITIALIZED, RC_NV_SPACE, RC_NV_DEFINED}
use Rattle.tab_spec.specs.Hash.{name_of}
use Rattle.tab_spec.specs.Values.{Reading, then_read, require, sized, sized_bytes, filling, before_zeros, without_zeros, auth_of, is_policy, NvPublic, IsNvPublic, nv_public_of, nv_public_bytes}
use Rattle.tab_spec.specs.Admission.{unless_fault}
use Rattle.tab_spec.specs.Parameters.{in_parameter, when_read, nothing_of}
use Rattle.tab_spec.specs.Persist.{Persist, IsPersist}
use Rattle.tab_spec.specs.NvIndex.{NvIndex, IsNvIndex, index_in, without_index, with_index, is_index, is_counter, is_written}
use Rattle.effect_spec.specs.Nv.{may_read, may_write, when_there, definition_of, defined, nv_define_row, undefined_index, nv_undefine_row, nv_read_public_row, writing_of, written, keeping_index, nv_write_row, incremented, nv_increment_row, part_of, read_part, nv_read_row}
use Rattle.tab_laws.proofs.Indexes.{all_behind, all_with, all_without, found_sound, written_is}
use Rattle.tab_laws.proofs.ReadBack.{Gives, gives_where, nv_public_gives}
use Rattle.sha2.proofs.Facts256.{length-sha256}

-- a row that changes nothing: its parameters fit into a frame
abbrev pub Short : Result (List ℕ) ℕ → Type 0
Short (Err code) = Unit
Short (Ok params) = length params ≤ 4000

-- a row without parameters: a device of this profile may keep what it leaves
abbrev pub Kept : Result Persist ℕ → Type 0
Kept (Err code) = Unit
Kept (Ok kept) = IsPersist kept

-- what comes of parameters that are read
pub read_gives : {X Y : Type 0} (P : Result Y ℕ → Type 0) (Q : X → Type 0) (reading : Reading X) (next : X → Result Y ℕ) → Gives Q reading
    → ((code : ℕ) → P (Err code)) → ((x : X) → Q x → P (next x)) → P (when_read reading next)
read_gives P Q (Err code) next gives fails goes = fails code
read_gives P Q (Ok read) next gives fails goes =
    cond_both (length read.1 == 0) (next read.0) (Err RC_SIZE) P (λ whole. goes read.0 gives) (λ more. fails RC_SIZE)

-- and of a fault before them
pub faultless : {Y : Type 0} (P : Result Y ℕ → Type 0) (fault : Option ℕ) (row : Result Y ℕ) → ((code : ℕ) → P (Err code)) → P row → P (unless_fault fault row)
faultless P (Some code) row fails goes = fails code
faultless P None row fails goes = goes

-- of which nothing has to be known
abbrev pub Any : {X : Type 0} → X → Type 0
Any x = Unit

pub gives_any : {X : Type 0} (reading : Reading X) → Gives Any reading
gives_any (Err code) = tt
gives_any (Ok read) = tt

-- ---- what is read

pub gives_parameter : {X : Type 0} (P : X → Type 0) (number : ℕ) (reading : Reading X) → Gives P reading → Gives P (in_parameter number reading)
gives_parameter P number (Err code) gives = tt
gives_parameter P number (Ok read) gives = gives

gives_filling : {X : Type 0} (P : X → Type 0) (rest : List ℕ) (reading : Reading X) → Gives P reading → Gives P (filling rest reading)
gives_filling P rest (Err code) gives = tt
gives_filling P rest (Ok read) gives = cond_both (length read.1 == 0) (Ok (read.0, rest)) (Err RC_SIZE) (Gives P) (λ whole. gives) (λ more. tt)

pub gives_enclosed : {X : Type 0} (P : X → Type 0) (reader : List ℕ → Reading X) (outer : Reading (List ℕ)) → ((inside : List ℕ) → Gives P (reader inside))
    → Gives P (then_read outer (λ inside rest. filling rest (reader inside)))
gives_enclosed P reader (Err code) gives = tt
gives_enclosed P reader (Ok read) gives = gives_filling P read.1 (reader read.0) (gives read.0)

gives_test : {X : Type 0} (P : X → Type 0) (test : X → Bool) (code : ℕ) (reading : Reading X) → Gives P reading → Gives P (require test code reading)
gives_test P test code (Err fault) gives = tt
gives_test P test code (Ok read) gives = cond_both (test read.0) (Ok read) (Err code) (Gives P) (λ passes. gives) (λ fails. tt)

gives_then : {X Y : Type 0} (Q : X → Type 0) (P : Y → Type 0) (reading : Reading X) (next : X → List ℕ → Reading Y) → Gives Q reading
    → ((x : X) (rest : List ℕ) → Q x → Gives P (next x rest)) → Gives P (then_read reading next)
gives_then Q P (Err code) next gives goes = tt
gives_then Q P (Ok read) next gives goes = goes read.0 read.1 gives

-- zeros are taken off
fewer_by : (byte : ℕ) (bytes : List ℕ) → length (before_zeros byte bytes) ≤ 1 + length bytes
fewer_by byte [] = cond_both (byte == 0) [] (byte ∷ []) (λ (bytes : List ℕ). length bytes ≤ 1) (λ zero_is. omega arith) (λ other. omega arith)
fewer_by byte (next ∷ bytes) = omega arith

pub fewer : (bytes : List ℕ) → length (without_zeros bytes) ≤ length bytes
fewer [] = omega arith
fewer (byte ∷ bytes) = omega (arith, fewer_by byte (without_zeros bytes), fewer bytes)

abbrev IsAuth : List ℕ → Type 0
IsAuth auth = length auth ≤ 32

gives_auth : (lacking : ℕ) (bytes : List ℕ) → Gives IsAuth (auth_of lacking bytes)
gives_auth lacking bytes =
    gives_where IsAuth (λ auth. nat_le (length auth) 32) RC_SIZE (sized lacking bytes) (λ auth rest. Ok (without_zeros auth, rest))
    (λ auth rest short. omega (arith, fewer auth, leb-true (length auth) 32 short))

abbrev IsDefinition : List ℕ × NvPublic → Type 0
IsDefinition given = (length given.0 ≤ 32) × IsNvPublic given.1

gives_definition : (params : List ℕ) → Gives IsDefinition (definition_of params)
gives_definition params =
    gives_then IsAuth IsDefinition (in_parameter 1 (auth_of RC_INSUFFICIENT params)) _ (gives_parameter IsAuth 1 (auth_of RC_INSUFFICIENT params) (gives_auth RC_INSUFFICIENT params)) (λ auth rest short.
    gives_then IsNvPublic IsDefinition _ (λ public rest. Ok ((auth, public), rest))
    (gives_parameter IsNvPublic 2 _ (gives_test IsNvPublic _ RC_ATTRIBUTES _ (gives_enclosed IsNvPublic nv_public_of (sized RC_INSUFFICIENT rest) nv_public_gives)))
    (λ public rest is. (short, is)))

-- ---- what is kept

-- a list of indexes in the place of another
with_nv : (persist : Persist) (nv : List NvIndex) → IsPersist persist → length nv ≤ NV_INDEXES → AllByRecursion IsNvIndex nv → IsPersist (record persist { nv = nv })
with_nv persist nv sound few all = record {
  seed = sound.seed;
  place = sound.place;
  owner_auth = sound.owner_auth;
  nv_count = few;
  indexes = all;
  pcr_count = sound.pcr_count;
  pcr_sizes = sound.pcr_sizes;
  updates = sound.updates;
}

kept_defined : (persist : Persist) (given : List ℕ × NvPublic) → IsPersist persist → IsDefinition given → Kept (defined persist given)
kept_defined persist given sound is =
    let new : NvIndex = record { public = given.1; auth = given.0; bytes = replicate given.1.size 0 } in
    let new_is : IsNvIndex new = record { size = length-replicate given.1.size 0; size_allowed = is.1.size_allowed; auth = is.0; policy = is.1.policy_known } in
    cond_both (is_some (index_in given.1.index persist.nv)) (Err RC_NV_DEFINED) _ Kept (λ there. tt) (λ absent.
    cond_both (nat_le NV_INDEXES (length persist.nv)) (Err RC_NV_SPACE) (Ok (record persist { nv = persist.nv ++ new ∷ [] })) Kept (λ full. tt) (λ room.
    with_nv persist (persist.nv ++ new ∷ []) sound
    (omega (arith, length-append persist.nv (new ∷ []), leb-false NV_INDEXES (length persist.nv) room)) (all_behind persist.nv new new_is sound.indexes)))

pub kept_define : (persist : Persist) (params : List ℕ) → IsPersist persist → Kept (nv_define_row persist params)
kept_define persist params sound =
    read_gives Kept IsDefinition (definition_of params) (defined persist) (gives_definition params) (λ code. tt) (λ given is. kept_defined persist given sound is)

length_without : (index : ℕ) (nv : List NvIndex) → length (without_index index nv) ≤ length nv
length_without index [] = omega arith
length_without index (item ∷ nv) =
    cond_both (is_index index item) nv (item ∷ without_index index nv) (λ (xs : List NvIndex). length xs ≤ length (item ∷ nv)) (λ is. omega arith) (λ other. omega (arith, length_without index nv))

pub kept_undefine : (persist : Persist) (index : ℕ) (params : List ℕ) → IsPersist persist → Kept (nv_undefine_row persist index params)
kept_undefine persist index params sound =
    faultless Kept (undefined_index persist.nv 2 (index ∷ [])) _ (λ code. tt)
    (read_gives Kept Any (nothing_of params) (λ none. Ok (record persist { nv = without_index index persist.nv })) (gives_any (nothing_of params)) (λ code. tt) (λ none any.
    with_nv persist (without_index index persist.nv) sound (omega (arith, length_without index persist.nv, sound.nv_count)) (all_without index persist.nv sound.indexes)))

length_with : (index : ℕ) (new : NvIndex) (nv : List NvIndex) → length (with_index index new nv) ≡ length nv
length_with index new [] = refl
length_with index new (item ∷ nv) =
    cond_both (is_index index item) (new ∷ nv) (item ∷ with_index index new nv) (λ (xs : List NvIndex). length xs ≡ length (item ∷ nv)) (λ is. refl)
    (λ other. omega (arith, length_with index new nv))

abbrev KeptIndex : Result NvIndex ℕ → Type 0
KeptIndex (Err code) = Unit
KeptIndex (Ok item) = IsNvIndex item

kept_index : (persist : Persist) (index : ℕ) (changed : Result NvIndex ℕ) → IsPersist persist → KeptIndex changed → Kept (keeping_index persist index changed)
kept_index persist index (Err code) sound is = tt
kept_index persist index (Ok item) sound is =
    with_nv persist (with_index index item persist.nv) sound (omega (arith, length_with index item persist.nv, sound.nv_count)) (all_with index item persist.nv is sound.indexes)

-- what is done with an index that is there
there : {Y : Type 0} (P : Result Y ℕ → Type 0) (found : Option NvIndex) (next : NvIndex → Result Y ℕ) → IfSome found IsNvIndex → P (Err (RC_HANDLE + RC_1))
    → ((item : NvIndex) → IsNvIndex item → P (next item)) → P (when_there found next)
there P None next sound fails goes = fails
there P (Some item) next sound fails goes = goes item sound

length_middle : (at : ℕ) (bytes new : List ℕ) → at + length new ≤ length bytes → length (take at bytes ++ new ++ drop (at + length new) bytes) ≡ length bytes
length_middle at bytes new within =
    omega (arith, length-append (take at bytes ++ new) (drop (at + length new) bytes), length-append (take at bytes) new, length-take at bytes, length-drop (at + length new) bytes)

kept_written : (by : ℕ) (given : List ℕ × ℕ) (item : NvIndex) → IsNvIndex item → KeptIndex (written by given item)
kept_written by given item is =
    cond_both (not (may_write by item)) (Err RC_NV_AUTHORIZATION) _ KeptIndex (λ no. tt) (λ yes.
    cond_both (is_counter item) (Err (RC_ATTRIBUTES + RC_1 * 2)) _ KeptIndex (λ counts. tt) (λ ordinary.
    cond_both (nat_lt item.public.size (given.1 + length given.0)) (Err RC_NV_RANGE) _ KeptIndex (λ past. tt) (λ inside.
    written_is item (take given.1 item.bytes ++ given.0 ++ drop (given.1 + length given.0) item.bytes) is
    (length_middle given.1 item.bytes given.0 (omega (arith, is.size, ltb-false item.public.size (given.1 + length given.0) inside))))))

pub kept_write : (persist : Persist) (by index : ℕ) (params : List ℕ) → IsPersist persist → Kept (nv_write_row persist by index params)
kept_write persist by index params sound =
    faultless Kept (undefined_index persist.nv 1 (by ∷ index ∷ [])) _ (λ code. tt)
    (read_gives Kept Any (writing_of params) _ (gives_any (writing_of params)) (λ code. tt) (λ given any.
    there Kept (index_in index persist.nv) (λ item. keeping_index persist index (written by given item)) (found_sound index persist.nv sound.indexes) tt
    (λ item is. kept_index persist index (written by given item) sound (kept_written by given item is))))

-- a counter has eight bytes
eight_by : (counts : Bool) (size : ℕ) → counts ≡ true → (if counts then size == 8 else nat_le size MOST_NV_BYTES) ≡ true → size ≡ 8
eight_by true size counts is = eqb-true size 8 is
eight_by false size counts is = absurd cc

not_not : (b : Bool) → not b ≡ false → b ≡ true
not_not true is = refl
not_not false is = absurd cc

kept_incremented : (by : ℕ) (item : NvIndex) → IsNvIndex item → KeptIndex (incremented by item)
kept_incremented by item is =
    let number = from_be_bytes w64 item.bytes in
    cond_both (not (may_write by item)) (Err RC_NV_AUTHORIZATION) _ KeptIndex (λ no. tt) (λ yes.
    cond_both (not (is_counter item)) (Err (RC_ATTRIBUTES + RC_1 * 2)) _ KeptIndex (λ ordinary. tt) (λ counts.
    cond_both (number == 2 ^ 64 - 1) (Err RC_NV_RANGE) _ KeptIndex (λ last. tt) (λ more.
    written_is item (to_be_bytes w64 (number + 1)) is
    (sym (is.size ∙ eight_by (is_counter item) item.public.size (not_not (is_counter item) counts) is.size_allowed)))))

pub kept_increment : (persist : Persist) (by index : ℕ) (params : List ℕ) → IsPersist persist → Kept (nv_increment_row persist by index params)
kept_increment persist by index params sound =
    faultless Kept (undefined_index persist.nv 1 (by ∷ index ∷ [])) _ (λ code. tt)
    (read_gives Kept Any (nothing_of params) _ (gives_any (nothing_of params)) (λ code. tt) (λ none any.
    there Kept (index_in index persist.nv) (λ item. keeping_index persist index (incremented by item)) (found_sound index persist.nv sound.indexes) tt
    (λ item is. kept_index persist index (incremented by item) sound (kept_incremented by item is))))

-- ---- what is told

size_by : (counts : Bool) (size : ℕ) → (if counts then size == 8 else nat_le size MOST_NV_BYTES) ≡ true → size ≤ MOST_NV_BYTES
size_by true size is = let eight : size ≡ 8 = eqb-true size 8 is in omega (arith, eight)
size_by false size is = leb-true size MOST_NV_BYTES is

part_small : (size offset : ℕ) (bytes : List ℕ) → length bytes ≤ 2048 → length (sized_bytes (take size (drop offset bytes))) ≤ 4000
part_small size offset bytes most = omega (arith, length-take size (drop offset bytes), length-drop offset bytes, most)

short_part : (by : ℕ) (part : ℕ × ℕ) (item : NvIndex) → IsNvIndex item → Short (read_part by part item)
short_part by part item is =
    cond_both (not (may_read by item)) (Err RC_NV_AUTHORIZATION) _ Short (λ no. tt) (λ yes.
    cond_both (not (is_written item)) (Err RC_NV_UNINITIALIZED) _ Short (λ never. tt) (λ some.
    cond_both (nat_lt item.public.size (part.1 + part.0)) (Err RC_NV_RANGE) _ Short (λ past. tt) (λ inside.
    part_small part.0 part.1 item.bytes (omega (arith, is.size, size_by (is_counter item) item.public.size is.size_allowed)))))

pub short_read : (persist : Persist) (by index : ℕ) (params : List ℕ) → IsPersist persist → Short (nv_read_row persist by index params)
short_read persist by index params sound =
    faultless Short (undefined_index persist.nv 1 (by ∷ index ∷ [])) _ (λ code. tt)
    (read_gives Short Any (part_of params) _ (gives_any (part_of params)) (λ code. tt) (λ part any.
    there Short (index_in index persist.nv) (read_part by part) (found_sound index persist.nv sound.indexes) tt (λ item is. short_part by part item is)))

policy_by : (none : Bool) (size : ℕ) → (size == 0) ≡ none → (none || size == 32) ≡ true → size ≤ 32
policy_by true size is known = let zero_is : size ≡ 0 = eqb-true size 0 is in omega (arith, zero_is)
policy_by false size is known = let all : size ≡ 32 = eqb-true size 32 known in omega (arith, all)

policy_short : (policy : List ℕ) → is_policy policy ≡ true → length policy ≤ 32
policy_short policy is = policy_by (length policy == 0) (length policy) refl is

area_small : (area name : List ℕ) → length area ≤ 60 → length name ≤ 34 → length (sized_bytes area ++ sized_bytes name) ≤ 4000
area_small area name area_few name_few = omega (arith, length-append (sized_bytes area) (sized_bytes name), area_few, name_few)

public_few : (p : NvPublic) → length p.policy ≤ 32 → length (nv_public_bytes p) ≤ 60
public_few p few = omega (arith, few, length-append p.policy (to_be_bytes w16 p.size))

pub name_few : (bytes : List ℕ) → length (name_of bytes) ≤ 34
name_few bytes = omega (arith, length-sha256 bytes)

pub short_read_public : (persist : Persist) (index : ℕ) (params : List ℕ) → IsPersist persist → Short (nv_read_public_row persist index params)
short_read_public persist index params sound =
    faultless Short (undefined_index persist.nv 1 (index ∷ [])) _ (λ code. tt)
    (read_gives Short Any (nothing_of params) _ (gives_any (nothing_of params)) (λ code. tt) (λ none any.
    there Short (index_in index persist.nv) (λ item. Ok (sized_bytes (nv_public_bytes item.public) ++ sized_bytes (name_of (nv_public_bytes item.public))))
    (found_sound index persist.nv sound.indexes) tt
    (λ item is. area_small (nv_public_bytes item.public) (name_of (nv_public_bytes item.public)) (public_few item.public (policy_short item.public.policy is.policy)) (name_few (nv_public_bytes item.public)))))
