-- What a device keeps, and its random stream. What is kept, how much of it there is and the stream are this project's own profile. The stream is
-- that of ChaCha20 with the seed as key and the stream number 0.
use Rattle.std.specs.Prelude.{◌≡◌, ◌<◌, ◌≤◌, ℕ, zero, suc, ◌+◌, ◌/◌, ◌%◌, ◌^◌, nat_le, List, [], ◌++◌, length, take, set, replicate, Result, Ok, Err, if◌then◌else◌, flat_map, get_or, Option, Some, None}
use Rattle.std.specs.List.{AllByRecursion}
use Rattle.std.specs.Int.{w32, to_le_bytes}
use Rattle.rand_chacha.specs.ChaCha.{word_at, key_of}
use Rattle.tab_spec.specs.declared.TheConstants.{LAST_PLACE, NV_INDEXES, PCRS, RC_FAILURE}
use Rattle.sha2.specs.Sha256.{sha256}
use Rattle.tab_spec.specs.NvIndex.{NvIndex, IsNvIndex}
use Rattle.tab_spec.specs.Values.{selected_below}

pub record Persist : Type 0 where
  pub seed : List ℕ
  -- in the random stream, in words of four bytes
  pub place : ℕ
  pub owner_auth : List ℕ
  pub nv : List NvIndex
  pub pcrs : List (List ℕ)
  -- how often a PCR was updated
  pub updates : ℕ

-- a device that was never used
abbrev pub fresh_persist : List ℕ → Persist
fresh_persist seed = record { seed = seed; place = 0; owner_auth = []; nv = []; pcrs = replicate PCRS (replicate 32 0); updates = 0 }

-- what a device of this profile may keep
pub record IsPersist (persist : Persist) : Type 0 where
  pub seed : length persist.seed ≡ 32
  pub place : persist.place ≤ LAST_PLACE
  pub owner_auth : length persist.owner_auth ≤ 32
  pub nv_count : length persist.nv ≤ NV_INDEXES
  pub indexes : AllByRecursion IsNvIndex persist.nv
  pub pcr_count : length persist.pcrs ≡ PCRS
  pub pcr_sizes : AllByRecursion (λ pcr. length pcr ≡ 32) persist.pcrs
  pub updates : persist.updates < 2 ^ 32

-- ---- the random stream

-- the bytes of so many words of the stream from a place on, the lowest byte of a word first
unfoldable pub stream_bytes : List ℕ → ℕ → ℕ → List ℕ
stream_bytes seed place zero = []
stream_bytes seed place (suc words) = stream_bytes seed place words ++ to_le_bytes w32 (word_at 10 (key_of seed) 0 (place + words))

-- how many words n bytes take: what the last has over is lost
abbrev pub words_for : ℕ → ℕ
words_for n = (n + 3) / 4

abbrev pub random_bytes : List ℕ → ℕ → ℕ → List ℕ
random_bytes seed place n = take n (stream_bytes seed place (words_for n))

-- n bytes are drawn, unless the last place would be passed
abbrev pub drawn : Persist → ℕ → Result (List ℕ × Persist) ℕ
drawn persist n =
    if nat_le (persist.place + words_for n) LAST_PLACE
    then Ok (random_bytes persist.seed persist.place n, record persist { place = persist.place + words_for n })
    else Err RC_FAILURE

-- ---- PCRs

-- a PCR has another value, which counts as an update; the count begins again at 2^32
abbrev pub with_pcr : Persist → ℕ → List ℕ → Persist
with_pcr persist pcr value = record persist { pcrs = set persist.pcrs pcr value; updates = (persist.updates + 1) % 2 ^ 32 }

-- the hash of the selected PCRs, upwards
abbrev pub selected_digest : List (List ℕ) → Option (List ℕ) → List ℕ
selected_digest pcrs None = sha256 []
selected_digest pcrs (Some bits) = sha256 (flat_map (λ pcr. get_or pcrs pcr []) (selected_below bits PCRS))
