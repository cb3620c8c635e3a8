-- The words that ChaCha20 gives from a place on are those of the device's random stream.
use Rattle.std.proofs.Common.{◌≡◌, ℕ, zero, suc, ◌+◌, ◌≤◌, ◌<◌, ◌%◌, ◌^◌, List, refl, ap, ◌∙◌, Ok, add-zero, arith}
use Rattle.std.proofs.lemmas.Bool.{le-leb}
use Rattle.std.proofs.Math.Nat.{mod-eq_of_lt}
use Rattle.std.specs.Int.{w32, to_le_bytes}
use Rattle.rand_core.specs.Steps.{word_bytes, fill_via_u32}
use Rattle.rand_chacha.specs.ChaCha.{ChaCha, next_word}
use Rattle.tab_spec.specs.Persist.{Persist, stream_bytes, words_for, drawn}
use Rattle.tab_values.specs.Stream.{generator_at}

-- the bytes of so many words, and the generator behind them
pub word_bytes-at : (seed : List ℕ) (place words : ℕ) → place + words ≤ 2 ^ 62
    → word_bytes (to_le_bytes w32) (next_word 10) words (generator_at seed place)
    ≡ (stream_bytes seed place words, generator_at seed (place + words))
unfolding word_bytes stream_bytes
word_bytes-at seed place zero below = rw add-zero refl
word_bytes-at seed place (suc words) below =
    let fits : place + words + 1 < 2 ^ 68 = omega arith in
    let same : (place + words + 1) % 2 ^ 68 ≡ place + suc words = mod-eq_of_lt fits ∙ omega arith in
    rw (word_bytes-at seed place words (omega arith), same) refl

-- what a fill of the generator gives is what is drawn
pub drawn-filled : (kept : Persist) (out : List ℕ) (n words : ℕ) (before after : ChaCha) → kept.place + words_for n ≤ 2 ^ 62 → words ≡ words_for n
    → before ≡ generator_at kept.seed kept.place → (out, after) ≡ fill_via_u32 (next_word 10) n before
    → drawn kept n ≡ Ok (out, record kept { place = kept.place + words })
drawn-filled kept out n words before after below count starts filled =
    let given = rw (starts, word_bytes-at kept.seed kept.place (words_for n) below) at filled in
    let bytes = ap (λ (p : List ℕ × ChaCha). p.0) given in
    let test = le-leb (kept.place + words_for n) (2 ^ 62) below in
    rw (count, bytes, test) refl

-- and the generator is at the place behind it
pub generator-filled : (seed : List ℕ) (place : ℕ) (out : List ℕ) (n words : ℕ) (before after : ChaCha) → place + words_for n ≤ 2 ^ 62
    → words ≡ words_for n → before ≡ generator_at seed place → (out, after) ≡ fill_via_u32 (next_word 10) n before
    → after ≡ generator_at seed (place + words)
generator-filled seed place out n words before after below count starts filled =
    let given = rw (starts, word_bytes-at seed place (words_for n) below) at filled in
    rw count (ap (λ (p : List ℕ × ChaCha). p.1) given)
