-- Hashes (FIPS 180-4), their use with a key (FIPS 198-1), and what is derived from them.
use Rattle.std.specs.Prelude.{ℕ, suc, zero, ◌+◌, ◌*◌, ◌-◌, ◌/◌, nat_lt, List, [], ◌∷◌, ◌++◌, length, map, zip, replicate, take, if◌then◌else◌}
use Rattle.std.specs.Int.{w32, to_be_bytes}
use Rattle.std.specs.Int.Bits.{bit_xor}
use Rattle.sha2.specs.Sha256.{sha256}

-- a key of exactly one block of 64 bytes: a longer one is hashed, and zeros follow
abbrev pub short_key : List ℕ → List ℕ
short_key key = if nat_lt 64 (length key) then sha256 key else key

abbrev pub block_key : List ℕ → List ℕ
block_key key = short_key key ++ replicate (64 - length (short_key key)) 0

-- a key's block with each byte changed by this one
abbrev pub padded_key : ℕ → List ℕ → List ℕ
padded_key pad key = map (bit_xor pad) (block_key key)

-- the HMAC by which a key authenticates a message
abbrev pub hmac : List ℕ → List ℕ → List ℕ
hmac key message = sha256 (padded_key 0x5c key ++ sha256 (padded_key 0x36 key ++ message))

-- a block of KDFa (Part 1, "KDFa"): its number, the label and the zero that ends it, two contexts, and how many bits are wanted
abbrev pub kdfa_block : List ℕ → List ℕ → List ℕ → List ℕ → ℕ → ℕ → List ℕ
kdfa_block key label u v bits number = hmac key (to_be_bytes w32 number ++ label ++ 0 ∷ [] ++ u ++ v ++ to_be_bytes w32 bits)

-- so many blocks, from this number on
unfoldable pub kdfa_blocks : List ℕ → List ℕ → List ℕ → List ℕ → ℕ → ℕ → ℕ → List ℕ
kdfa_blocks key label u v bits number zero = []
kdfa_blocks key label u v bits number (suc more) = kdfa_block key label u v bits number ++ kdfa_blocks key label u v bits (number + 1) more

-- so many bytes that follow from a key, a label and two contexts
abbrev pub kdfa : List ℕ → List ℕ → List ℕ → List ℕ → ℕ → List ℕ
kdfa key label u v count = take count (kdfa_blocks key label u v (8 * count) 1 ((count + 31) / 32))

-- bytes, each changed by one of what follows from a key, a label and two contexts; changed once more, they are as they were
abbrev pub xor_bytes : List ℕ → List ℕ → List ℕ
xor_bytes a b = map (λ (pair : ℕ × ℕ). bit_xor pair.0 pair.1) (zip a b)

abbrev pub masked : List ℕ → List ℕ → List ℕ → List ℕ → List ℕ → List ℕ
masked key label u v bytes = xor_bytes bytes (kdfa key label u v (length bytes))

-- the Name of a public area (Part 1, "Names"): the algorithm's number and the hash
abbrev pub name_of : List ℕ → List ℕ
name_of public = 0 ∷ 0x0b ∷ sha256 public
