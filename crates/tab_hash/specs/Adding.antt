-- What a hash in the making stands for.
use Rattle.std.specs.Prelude.{ℕ, List, ◌++◌}
use Rattle.sha2.specs.Hashers.{Holds256}
use Rattle.tab_spec.specs.Hash.{padded_key}
use Rattle.tab_hash.specs.declared.sum.Sum.{Sum}
use Rattle.tab_hash.specs.declared.keyed.Mac.{Mac}

-- these bytes were added
abbrev pub HasAdded : Sum → List ℕ → Type 0
HasAdded sum added = Holds256 sum.hasher added

-- it has this key, and these bytes were added
abbrev pub HasKey : Mac → List ℕ → List ℕ → Type 0
HasKey mac key added = Holds256 mac.inner (padded_key 0x36 key ++ added) × Holds256 mac.outer (padded_key 0x5c key)
