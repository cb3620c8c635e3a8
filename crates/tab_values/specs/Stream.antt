-- The generator of a device's random stream.
use Rattle.std.specs.Prelude.{ℕ, List}
use Rattle.rand_chacha.specs.ChaCha.{ChaCha, key_of}

-- that of a seed, at a place in words of four bytes
abbrev pub generator_at : List ℕ → ℕ → ChaCha
generator_at seed place = record { key = key_of seed; stream = 0; word_pos = place }
