-- What a reader takes from the bytes that are left.
use Rattle.std.specs.Prelude.{◌≡◌, ◌<◌, ◌+◌, ◌≤◌, ℕ, List, Option, Some, None, length, take, drop}
use Rattle.std.specs.Int.{Width, w16, byte_len, from_be_bytes}

-- a big-endian number of this width, and nothing exactly where its bytes lack
abbrev pub TakesNumber : Width → List ℕ → List ℕ → Option ℕ → Type 0
TakesNumber w old new None = (length old < byte_len w) × (new ≡ old)
TakesNumber w old new (Some n) = (byte_len w ≤ length old) × (n ≡ from_be_bytes w (take (byte_len w) old)) × (new ≡ drop (byte_len w) old)

-- how many bytes a TPM2B at the front has, its size field left out
abbrev pub size_of_2b : List ℕ → ℕ
size_of_2b bytes = from_be_bytes w16 (take 2 bytes)

-- a TPM2B is whole at the front
pub record Has2b (bytes : List ℕ) : Type 0 where
  pub sized : 2 ≤ length bytes
  pub whole : 2 + size_of_2b bytes ≤ length bytes
