-- The list of NV indexes: where an index stands in it, and that it stays what a device may keep.
use Rattle.std.proofs.Common.{◌≡◌, ◌+◌, ◌<◌, ℕ, suc, Bool, true, false, cond, List, [], ◌∷◌, ◌++◌, length, set, get_or, refl, ap, ◌∙◌, arith}
use Rattle.std.specs.Prelude.{Option, Some, None, not, bit_or, if◌then◌else◌, IfSome, MatchOption}
use Rattle.std.specs.List.{AllByRecursion, position_or_len, remove}
use Rattle.std.specs.Int.Bits.{bit_and}
use Rattle.std.proofs.lemmas.Bool.{cond_both}
use Rattle.std.proofs.lemmas.Nat.{and_comm, or_comm, and_or_apart}
use Rattle.tab_spec.specs.Values.{nv_type}
use Rattle.tab_spec.specs.NvIndex.{NvIndex, IsNvIndex, is_index, index_in, without_index, with_index, with_bytes}

-- the place of an index, or the length where it isn't there
abbrev pub place_of : ℕ → List NvIndex → ℕ
place_of index nv = position_or_len (is_index index) nv

-- ---- an index and its place

removed_by : (is : Bool) (item : NvIndex) (nv rest : List NvIndex) (place : ℕ) → remove nv place ≡ rest
    → remove (item ∷ nv) (cond (not is) (1 + place) 0) ≡ (if is then nv else item ∷ rest)
removed_by true item nv rest place same = refl
removed_by false item nv rest place same =
    let next : 1 + place ≡ suc place = omega arith in
    rw next (ap (λ (xs : List NvIndex). item ∷ xs) same)

pub removed : (index : ℕ) (nv : List NvIndex) → remove nv (place_of index nv) ≡ without_index index nv
removed index [] = refl
removed index (item ∷ nv) = removed_by (is_index index item) item nv (without_index index nv) (place_of index nv) (removed index nv)

replaced_by : (is : Bool) (new item : NvIndex) (nv rest : List NvIndex) (place : ℕ) → set nv place new ≡ rest
    → set (item ∷ nv) (cond (not is) (1 + place) 0) new ≡ (if is then new ∷ nv else item ∷ rest)
replaced_by true new item nv rest place same = refl
replaced_by false new item nv rest place same =
    let next : 1 + place ≡ suc place = omega arith in
    rw next (ap (λ (xs : List NvIndex). item ∷ xs) same)

pub replaced : (index : ℕ) (new : NvIndex) (nv : List NvIndex) → set nv (place_of index nv) new ≡ with_index index new nv
replaced index new [] = refl
replaced index new (item ∷ nv) = replaced_by (is_index index item) new item nv (with_index index new nv) (place_of index nv) (replaced index new nv)

-- what stands at the place is the index
abbrev pub Stands : Option NvIndex → List NvIndex → ℕ → Type 0
Stands found nv place = MatchOption found (place ≡ length nv) (λ item. (place < length nv) × ((d : NvIndex) → get_or nv place d ≡ item))

stands_behind : (found : Option NvIndex) (item : NvIndex) (nv : List NvIndex) (place : ℕ) → Stands found nv place → Stands found (item ∷ nv) (suc place)
stands_behind None item nv place stands = ap suc stands
stands_behind (Some found) item nv place stands = (omega (arith, stands.0), stands.1)

stands_by : (is : Bool) (found : Option NvIndex) (item : NvIndex) (nv : List NvIndex) (place : ℕ) → Stands found nv place
    → Stands (cond is (Some item) found) (item ∷ nv) (cond (not is) (1 + place) 0)
stands_by true found item nv place stands = (omega arith, λ d. refl)
stands_by false found item nv place stands =
    let next : 1 + place ≡ suc place = omega arith in
    rw next (stands_behind found item nv place stands)

pub stands : (index : ℕ) (nv : List NvIndex) → Stands (index_in index nv) nv (place_of index nv)
stands index [] = refl
stands index (item ∷ nv) = stands_by (is_index index item) (index_in index nv) item nv (place_of index nv) (stands index nv)

-- nothing is removed where the index isn't there
without_by : (is : Bool) (item : NvIndex) (nv rest : List NvIndex) (found : Option NvIndex) → (found ≡ None → rest ≡ nv)
    → cond is (Some item) found ≡ None → (if is then nv else item ∷ rest) ≡ item ∷ nv
without_by true item nv rest found same absent = cc
without_by false item nv rest found same absent = ap (λ (xs : List NvIndex). item ∷ xs) (same absent)

pub without_absent : (index : ℕ) (nv : List NvIndex) → index_in index nv ≡ None → without_index index nv ≡ nv
without_absent index [] absent = refl
without_absent index (item ∷ nv) absent =
    without_by (is_index index item) item nv (without_index index nv) (index_in index nv) (without_absent index nv) absent

-- ---- what may be kept

pub all_without : (index : ℕ) (nv : List NvIndex) → AllByRecursion IsNvIndex nv → AllByRecursion IsNvIndex (without_index index nv)
all_without index [] sound = tt
all_without index (item ∷ nv) sound =
    cond_both (is_index index item) nv (item ∷ without_index index nv) (AllByRecursion IsNvIndex) (λ is. sound.1) (λ other. (sound.0, all_without index nv sound.1))

pub all_with : (index : ℕ) (new : NvIndex) (nv : List NvIndex) → IsNvIndex new → AllByRecursion IsNvIndex nv → AllByRecursion IsNvIndex (with_index index new nv)
all_with index new [] is sound = tt
all_with index new (item ∷ nv) is sound =
    cond_both (is_index index item) (new ∷ nv) (item ∷ with_index index new nv) (AllByRecursion IsNvIndex)
    (λ here. (is, sound.1)) (λ other. (sound.0, all_with index new nv is sound.1))

pub all_behind : (nv : List NvIndex) (new : NvIndex) → IsNvIndex new → AllByRecursion IsNvIndex nv → AllByRecursion IsNvIndex (nv ++ new ∷ [])
all_behind [] new is sound = (is, tt)
all_behind (item ∷ nv) new is sound = (sound.0, all_behind nv new is sound.1)

sound_by : (is : Bool) (found : Option NvIndex) (item : NvIndex) → IsNvIndex item → IfSome found IsNvIndex → IfSome (cond is (Some item) found) IsNvIndex
sound_by true found item here there = here
sound_by false found item here there = there

pub found_sound : (index : ℕ) (nv : List NvIndex) → AllByRecursion IsNvIndex nv → IfSome (index_in index nv) IsNvIndex
found_sound index [] sound = tt
found_sound index (item ∷ nv) sound = sound_by (is_index index item) (index_in index nv) item sound.0 (found_sound index nv sound.1)

-- WRITTEN is no bit of the type
pub written_type : (attributes : ℕ) → nv_type (bit_or 0x20000000 attributes) ≡ nv_type attributes
written_type attributes =
    and_comm 0xf0 (bit_or 0x20000000 attributes)
    ∙ ap (λ (n : ℕ). bit_and n 0xf0) (or_comm 0x20000000 attributes)
    ∙ and_or_apart 0xf0 attributes 0x20000000 refl
    ∙ and_comm attributes 0xf0

pub written_is : (item : NvIndex) (bytes : List ℕ) → IsNvIndex item → length bytes ≡ length item.bytes → IsNvIndex (with_bytes item bytes)
written_is item bytes sound same = record {
  size = same ∙ sound.size;
  size_allowed = rw (written_type item.public.attributes) sound.size_allowed;
  auth = sound.auth;
  policy = sound.policy;
}
