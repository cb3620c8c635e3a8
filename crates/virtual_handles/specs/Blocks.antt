-- How a table counts: its places in blocks of 64, and how many places of each block are taken.
use Rattle.std.specs.Prelude.{◌≡◌, ◌≤◌, ◌<◌, ◌*◌, ℕ, List, Option, length, take, drop, get_or}
use Rattle.history_spec.specs.declared.TheConstants.{CLIENT_OBJECTS}
use Rattle.history_spec.specs.Table.{count_held}

-- how many places of a block are taken
unfoldable pub held_in_block : {A : Type 0} → ℕ → List (Option A) → ℕ
held_in_block block places = count_held (take 64 (drop (64 * block) places))

-- each count is that of its block
abbrev pub CountsBlocks : List (Option ℕ) → List ℕ → Type 0
CountsBlocks places taken = (block : ℕ) → block < length taken → get_or taken block 0 ≡ held_in_block block places

-- there are no more places than a client may have objects, and what is counted is so
pub record PlacesAreCounted (places : List (Option ℕ)) (taken : List ℕ) (held : ℕ) : Type 0 where
  pub most : length places ≤ CLIENT_OBJECTS
  pub blocks : CountsBlocks places taken
  pub all : held ≡ count_held places
