-- What a framer gives out, by what the kept bytes begin with.
use Rattle.std.proofs.Common.{◌≡◌, ◌⊎◌, ◌++◌, ◌+◌, ◌-◌, ◌<◌, ◌≤◌, ℕ, true, false, List, length, take, drop, refl, ◌∙◌, ap, sym, arith, inl, inr, length-drop, length-take-le, le_refl}
use Rattle.std.specs.Prelude.{◌==◌}
use Rattle.std.proofs.lemmas.Bool.{cases_lt, eq-eqb, ne_eqb}
use Rattle.std.proofs.lemmas.Bool.Decides.{nat_tests}
use Rattle.std.proofs.lemmas.List.{drop-drop, take-append-drop, take_rest}
use Rattle.tab_spec.specs.Frame.{size_of, is_size, is_frame, StreamItem, item_of, StreamEnding, Frames, with_item, frames, is_bad}
use Rattle.tab_laws.proofs.Cuts.{Stops, stops_short, stops_wrong, stops_begun, end_not_bad, size_before, frame_before}
use Rattle.tab_frame.specs.declared.framer.Frame.TheVariants as gave
use Rattle.tab_frame.specs.Framing.{GaveItem, Gave}

size_fits : (size : ℕ) → 10 ≤ size → size ≤ 4096 → is_size size ≡ true
size_fits size least most = grind (arith, nat_tests)

size_wrong : (size : ℕ) → (size < 10) ⊎ (4096 < size) → is_size size ≡ false
size_wrong size wrong = grind (arith, nat_tests)

-- not all of a frame is there
nothing : (end : StreamEnding) (kept out : List ℕ) → Stops kept end → is_bad end ≡ false → Gave gave.NotYet kept kept out
nothing end kept out stop good =
    let cut = stop.cut (length kept) (le_refl (length kept)) in
    (ap (λ (f : Frames). f.items) cut, ap (λ (f : Frames). is_bad f.ending) cut ∙ good, refl)

pub not_yet_sized : (kept out : List ℕ) → length kept < 6 → Gave gave.NotYet kept kept out
not_yet_sized kept out short = nothing _ kept out (stops_short kept short) (end_not_bad kept)

pub not_yet_whole : (kept out : List ℕ) (size : ℕ) → size ≡ size_of kept → 10 ≤ size → size ≤ 4096 → 6 ≤ length kept → length kept < size → Gave gave.NotYet kept kept out
not_yet_whole kept out size is least most long begun =
    nothing _ kept out (stops_begun kept long (size_fits (size_of kept) (omega arith) (omega arith)) (omega arith)) refl

-- a size that no frame has
pub bad_size : (kept out : List ℕ) (size : ℕ) → size ≡ size_of kept → (size < 10) ⊎ (4096 < size) → 6 ≤ length kept → Gave (gave.BadSize size) kept kept out
bad_size kept out size is wrong long =
    let stop = stops_wrong kept long (rw is at (size_wrong size wrong)) in
    (rw is (stop.cut (length kept) (le_refl (length kept))), refl)

-- a frame is a front of what is kept
gave_front : (item : StreamItem) (kept out : List ℕ) (size : ℕ) → size ≡ size_of kept → 10 ≤ size → size ≤ 4096 → size ≤ length kept → out ≡ take size kept → item_of out ≡ item
    → GaveItem item kept (drop size kept) out
gave_front item kept out size is least most enough front is_item =
    let parts : kept ≡ out ++ drop size kept = rw front (sym (take-append-drop size kept)) in
    let len : length out ≡ size = rw front (length-take-le size kept enough) in
    let sized : size_of out ≡ length out = sym (size_before out (drop size kept) (omega arith)) ∙ rw (← parts) (sym is ∙ sym len) in
    let frame : is_frame out ≡ true = rw (eq-eqb (size_of out) (length out) sized, size_fits (length out) (omega arith) (omega arith)) refl in
    record {
      frame = frame;
      is_item = is_item;
      parts = parts;
      first = ap frames parts ∙ frame_before out (drop size kept) frame ∙ ap (λ (i : StreamItem). with_item i (frames (drop size kept))) is_item;
    }

-- the bytes from a place on are those that are kept
pub kept_is : (bytes all kept : List ℕ) (at : ℕ) → bytes ≡ all → drop at all ≡ kept → take (length bytes - at) (drop at bytes) ≡ kept
kept_is bytes all kept at same view = take_rest bytes at ∙ ap (drop at) same ∙ view

-- nothing is kept where the place is that behind all of so many bytes
pub none_kept : (all kept : List ℕ) (at count : ℕ) → count ≡ length all → at ≤ count → drop at all ≡ kept → (at == count) ≡ (length kept == 0)
none_kept all kept at count is within view =
    let left : length kept ≡ length all - at = ap length (sym view) ∙ length-drop at all in
    elim (cases_lt at count) [
      | inl before ↦
          let some : length kept ≡ 0 → ⊥ = λ none. omega arith in
          let other : at ≡ count → ⊥ = λ same. omega arith in
          ne_eqb at count other ∙ sym (ne_eqb (length kept) 0 some)
      | inr end ↦ eq-eqb at count (omega arith) ∙ sym (eq-eqb (length kept) 0 (omega arith))
    ]

kept_rest : (all kept : List ℕ) (at size : ℕ) → drop at all ≡ kept → drop (at + size) all ≡ drop size kept
kept_rest all kept at size view = sym (drop-drop size at all) ∙ ap (drop size) view

-- a frame is given out, and the bytes behind it are kept
pub gave_frame : (item : StreamItem) (all kept out : List ℕ) (at size : ℕ) → drop at all ≡ kept → size ≡ size_of kept → 10 ≤ size → size ≤ 4096 → size ≤ length kept → out ≡ take size kept
    → item_of out ≡ item → GaveItem item kept (drop (at + size) all) out
gave_frame item all kept out at size view is least most enough front is_item =
    rw (kept_rest all kept at size view) (gave_front item kept out size is least most enough front is_item)
