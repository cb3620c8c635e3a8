-- What a write of an NV index does.
use Rattle.std.specs.Prelude.{◌≡◌, ◌≤◌, ℕ, ◌+◌, List, ◌++◌, length, take, drop, Some, Result, Ok}
use Rattle.tab_spec.specs.NvIndex.{NvIndex, index_in, with_index, with_bytes}
use Rattle.tab_spec.specs.Persist.{Persist}

-- a row that writes these bytes over those of an index from a place on, of which there are so many
abbrev pub WritesAt : ℕ → List ℕ → ℕ → Persist → Result Persist ℕ → Type 0
WritesAt at bytes index persist row =
    (item : NvIndex) × (index_in index persist.nv ≡ Some item) × (at + length bytes ≤ length item.bytes)
    × (row ≡ Ok (record persist { nv = with_index index (with_bytes item (take at item.bytes ++ bytes ++ drop (at + length bytes) item.bytes)) persist.nv }))

-- a row that gives an index these bytes, which are as many as it has
abbrev pub WritesAll : List ℕ → ℕ → Persist → Result Persist ℕ → Type 0
WritesAll bytes index persist row =
    (item : NvIndex) × (index_in index persist.nv ≡ Some item) × (length bytes ≡ length item.bytes)
    × (row ≡ Ok (record persist { nv = with_index index (with_bytes item bytes) persist.nv }))
