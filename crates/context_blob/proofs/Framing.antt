-- How long a context is, and how it is put together.
use Rattle.std.proofs.Common.{◌≡◌, ◌+◌, ◌-◌, ◌<◌, ◌++◌, ℕ, List, length, refl, ap, ◌∙◌, append_assoc, arith, length-append}
use Rattle.std.specs.Int.{w16, to_be_bytes}
use Rattle.tab_laws.proofs.Lengths.{length_hmac, length_masked}
use Rattle.effect_spec.specs.Contexts.{context_head, context_encrypted, context_integrity, context_key, context_bytes}
use Rattle.tab_spec.specs.Values.{sized_bytes}

pub length_hidden : (seed : List ℕ) (sequence saved_handle : ℕ) (plain : List ℕ) → length (context_encrypted seed sequence saved_handle plain) ≡ length plain
length_hidden seed sequence saved_handle plain = length_masked seed _ _ _ plain

-- what stands in front, and the blob of an integrity value and encrypted bytes
abbrev pub framed : List ℕ → List ℕ → List ℕ → List ℕ
framed head code bytes = head ++ sized_bytes (sized_bytes code ++ bytes)

length-sized : (bytes : List ℕ) → length (sized_bytes bytes) ≡ 2 + length bytes
length-sized bytes = omega (arith, length-append (to_be_bytes w16 (length bytes)) bytes)

length_framed : (head code bytes : List ℕ) → length head ≡ 16 → length code ≡ 32 → length (framed head code bytes) ≡ 52 + length bytes
length_framed head code bytes sixteen thirty_two =
    omega (
      arith,
      length-append head (sized_bytes (sized_bytes code ++ bytes)),
      length-sized (sized_bytes code ++ bytes),
      length-append (sized_bytes code) bytes,
      length-sized code,
    )

pub length_context : (seed : List ℕ) (sequence saved_handle hierarchy : ℕ) (plain : List ℕ)
    → length (context_bytes seed sequence saved_handle hierarchy plain) ≡ 52 + length plain
length_context seed sequence saved_handle hierarchy plain =
    let bytes = context_encrypted seed sequence saved_handle plain in
    let head = context_head sequence saved_handle hierarchy in
    length_framed head (context_integrity seed sequence saved_handle hierarchy bytes) bytes refl (length_hmac (context_key seed) (head ++ bytes))
    ∙ ap (λ (n : ℕ). 52 + n) (length_hidden seed sequence saved_handle plain)

-- there is no room for it
pub no_room : (n : ℕ) (front plain whole : List ℕ) → length whole ≡ 52 + length plain → n ≡ length front → 4096 - n < 52 + length plain
    → 4096 < length front + length whole
no_room n front plain whole long is little = omega arith

-- it was put in two parts
pub put_framed : (before with_head all head code bytes : List ℕ) → with_head ≡ before ++ head → all ≡ with_head ++ sized_bytes (sized_bytes code ++ bytes)
    → all ≡ before ++ framed head code bytes
put_framed before with_head all head code bytes first second = second ∙ rw first (append_assoc before head (sized_bytes (sized_bytes code ++ bytes)))
