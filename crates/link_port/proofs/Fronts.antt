-- Fronts of some bytes, as a loop writes them and as a copy takes them.
use Rattle.std.proofs.Common.{◌≡◌, ◌<◌, ◌≤◌, ◌+◌, ℕ, zero, suc, Bool, true, false, List, ◌++◌, length, take, drop, refl, ◌∙◌, ap, arith, append_assoc, length-append}
use Rattle.std.proofs.lemmas.List.{take-append-drop, length-take-le, take_at, drop-drop, nil_from_length}
use Rattle.std.proofs.Math.Seq.{take-append_seam}
use Rattle.std.specs.Prelude.{◌==◌, Option, None, Some}
use Rattle.link_port.specs.Port.{with_more, TookNext}

-- a front of the bytes was written, and the rest is to come
pub record FrontWritten (old now : Option (List ℕ)) (bytes rest : List ℕ) : Type 0 where
  pub front : List ℕ
  pub whole : bytes ≡ front ++ rest
  pub written : now ≡ with_more old front

-- some bytes more, and then some more
pub with_more-append : (written : Option (List ℕ)) (xs ys : List ℕ)
    → with_more (with_more written xs) ys ≡ with_more written (xs ++ ys)
with_more-append None xs ys = refl
with_more-append (Some zs) xs ys = rw append_assoc

-- one push more
pub more_written : (old now new : Option (List ℕ)) (bytes rest rest' : List ℕ) (k : ℕ)
    → FrontWritten old now bytes rest → new ≡ with_more now (take k rest) → rest' ≡ drop k rest
    → FrontWritten old new bytes rest'
more_written old now new bytes rest rest' k before pushed cut = record {
  front = before.front ++ take k rest;
  whole = rw (cut, append_assoc, take-append-drop) before.whole;
  written = pushed ∙ ap (λ (w : Option (List ℕ)). with_more w (take k rest)) before.written ∙ with_more-append old before.front (take k rest);
}

-- a list that isn't empty has an element
pub is_more : (empty : Bool) (n : ℕ) → empty ≡ (n == 0) → empty ≡ false → 0 < n
is_more true n is test = absurd cc
is_more false zero is test = absurd cc
is_more false (suc n) is test = omega arith

-- at a failure, some front was written, and not all
pub some_written : (old now : Option (List ℕ)) (bytes rest : List ℕ) → FrontWritten old now bytes rest → 0 < length rest
    → (k : ℕ) × (k < length bytes) × (now ≡ with_more old (take k bytes))
some_written old now bytes rest before some = (
  length before.front,
  omega (arith, ap length before.whole, length-append before.front rest, some),
  rw (before.whole, take-append_seam before.front rest) before.written,
)

-- what a copy of the next bytes takes
pub copy_takes_next : (bytes into : List ℕ) (given count : ℕ)
    → count ≤ length (drop given bytes)
    → (0 < length into → count ≡ 0 → length (drop given bytes) ≡ 0)
    → TookNext (drop given bytes) (Some (drop (given + count) bytes)) (length into)
    (take count (take count (drop given bytes) ++ drop count into))
copy_takes_next bytes into given count fits none =
    let next = drop given bytes in
    let copied : length (take count next) ≡ count = length-take-le count next fits in
    let front : take count (take count next ++ drop count into) ≡ take count next = take_at _ _ count copied in
    record {
      rest = drop (given + count) bytes;
      next = rw (front, ← drop-drop count given bytes, take-append-drop);
      left = refl;
      end = λ room ended. nil_from_length _ (none room (omega (arith, copied, ap length front, ap length ended)));
    }
