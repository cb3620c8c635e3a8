-- NV indexes as a device keeps them (Part 1, "NV Memory"; Part 2, "TPMA_NV").
use Rattle.std.specs.Prelude.{◌≡◌, ◌≤◌, ℕ, true, List, [], length, if◌then◌else◌, ◌==◌, Bool, ◌∷◌, bit_and, bit_or, Option}
use Rattle.std.specs.List.{find}
use Rattle.tab_spec.specs.declared.TheConstants.{NV_COUNTER, NV_WRITTEN}
use Rattle.tab_spec.specs.Values.{NvPublic, is_nv_size, is_policy, nv_type}

-- an NV index: its public area, its auth value, and its bytes
pub record NvIndex : Type 0 where
  pub public : NvPublic
  pub auth : List ℕ
  pub bytes : List ℕ

-- an NV index that a device of this profile may keep: its bytes are as many as its public area says
pub record IsNvIndex (item : NvIndex) : Type 0 where
  pub size : length item.bytes ≡ item.public.size
  pub size_allowed : is_nv_size item.public.attributes item.public.size ≡ true
  pub auth : length item.auth ≤ 32
  pub policy : is_policy item.public.policy ≡ true

-- ---- attributes

abbrev pub has_bits : ℕ → NvIndex → Bool
has_bits bits item = bit_and bits item.public.attributes == bits

abbrev pub is_counter : NvIndex → Bool
is_counter item = nv_type item.public.attributes == NV_COUNTER

abbrev pub is_written : NvIndex → Bool
is_written item = has_bits NV_WRITTEN item

-- other bytes, and WRITTEN
abbrev pub with_bytes : NvIndex → List ℕ → NvIndex
with_bytes item bytes = record item { public = record item.public { attributes = bit_or NV_WRITTEN item.public.attributes }; bytes = bytes }

-- ---- which indexes there are

abbrev pub is_index : ℕ → NvIndex → Bool
is_index index item = item.public.index == index

abbrev pub index_in : ℕ → List NvIndex → Option NvIndex
index_in index nv = find (is_index index) nv

-- the list without an index
abbrev pub without_index : ℕ → List NvIndex → List NvIndex
without_index index [] = []
without_index index (item ∷ nv) = if is_index index item then nv else item ∷ without_index index nv

-- the list with another item in an index's place
abbrev pub with_index : ℕ → NvIndex → List NvIndex → List NvIndex
with_index index new [] = []
with_index index new (item ∷ nv) = if is_index index item then new ∷ nv else item ∷ with_index index new nv
