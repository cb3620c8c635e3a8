-- Bytes that are written over those in the middle.
use Rattle.std.proofs.Common.{◌≡◌, ◌+◌, ◌≤◌, ℕ, List, ◌++◌, length, take, drop, arith, length-append, length-take, length-drop}

-- as many bytes stay
pub length_written : (at : ℕ) (bytes new : List ℕ) → at + length new ≤ length bytes → length (take at bytes ++ new ++ drop (at + length new) bytes) ≡ length bytes
length_written at bytes new within =
    omega (
      arith,
      length-append (take at bytes ++ new) (drop (at + length new) bytes),
      length-append (take at bytes) new,
      length-take at bytes,
      length-drop (at + length new) bytes,
    )
