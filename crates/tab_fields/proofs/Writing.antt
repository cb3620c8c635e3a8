-- Bytes that are written over those in the middle.
use Rattle.std.proofs.Common.{◌≡◌, ◌+◌, ◌-◌, ◌≤◌, ℕ, List, ◌++◌, length, take, drop, refl, ap, sym, ◌∙◌, arith, length-append, length-take, append_assoc}
use Rattle.std.proofs.Math.Seq.{take-append-add}
use Rattle.std.proofs.lemmas.List.{take-take, drop-drop, drop-take}
use borrow.Rule.Slice.PartMut.{put_mid}

-- of the front of these bytes, where the new ones lie within it
pub front_written : (at len size : ℕ) (bytes new : List ℕ) → at + length new ≤ length (take len bytes) → len ≤ length bytes → size ≡ length new
    → take len (put_mid at size bytes new) ≡ take at (take len bytes) ++ new ++ drop (at + length new) (take len bytes)
front_written at len size bytes new room fits is =
    let within : at + length new ≤ len = omega (arith, length-take len bytes) in
    let more : len ≡ (at + length new) + (len - (at + length new)) = omega arith in
    let front : length (take at bytes ++ new) ≡ at + length new = omega (arith, length-append (take at bytes) new, length-take at bytes) in
    let m : ℕ = len - (at + length new) in
    let rest = drop (at + length new) bytes in
    let left : put_mid at size bytes new ≡ (take at bytes ++ new) ++ rest = rw is (sym (append_assoc (take at bytes) new (drop (length new) (drop at bytes))) ∙ ap (λ (xs : List ℕ). (take at bytes ++ new) ++ xs) (drop-drop (length new) at bytes)) in
    let cut : take (length (take at bytes ++ new) + m) ((take at bytes ++ new) ++ rest) ≡ (take at bytes ++ new) ++ take m rest = take-append-add (take at bytes ++ new) rest m in
    let count : length (take at bytes ++ new) + m ≡ len = omega arith in
    let behind : drop (at + length new) (take len bytes) ≡ take m rest = ap (λ (n : ℕ). drop (at + length new) (take n bytes)) more ∙ drop-take (at + length new) m bytes in
    let before : take at (take len bytes) ≡ take at bytes = take-take at len bytes (omega arith) in
    ap (take len) left ∙ ap (λ (n : ℕ). take n ((take at bytes ++ new) ++ rest)) (sym count) ∙ cut
    ∙ rw (before, behind) refl
