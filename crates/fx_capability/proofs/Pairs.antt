-- Properties looked up as the first that isn't below a number.
use Rattle.std.proofs.Common.{◌≡◌, ◌+◌, ℕ, true, leb, List, [], ◌∷◌, ◌++◌, map, ap, sym, subst}
use Rattle.std.specs.Prelude.{Option, Some, None}
use Rattle.std.specs.List.{find}
use Rattle.std.specs.Int.{w32, to_be_bytes}
use Rattle.effect_spec.specs.Capabilities.{property_items}
use Rattle.fx_capability.specs.Lists.{rises_from}
use Rattle.fx_capability.proofs.Lists.{NextIs, next_found}

-- the items from a number on, by the first of them
abbrev pub NextProperty : ℕ → List (ℕ × ℕ) → Option (ℕ × ℕ) → Type 0
NextProperty least pairs None = property_items pairs least ≡ []
NextProperty least pairs (Some pair) = property_items pairs least ≡ (to_be_bytes w32 pair.0 ++ to_be_bytes w32 pair.1) ∷ property_items pairs (pair.0 + 1)

shown_next : (least : ℕ) (pairs : List (ℕ × ℕ)) (found : Option (ℕ × ℕ)) → NextIs (λ (pair : ℕ × ℕ). pair.0) least pairs found → NextProperty least pairs found
unfolding property_items
shown_next least pairs None is = ap (map (λ (pair : ℕ × ℕ). to_be_bytes w32 pair.0 ++ to_be_bytes w32 pair.1)) is
shown_next least pairs (Some pair) is = ap (map (λ (pair : ℕ × ℕ). to_be_bytes w32 pair.0 ++ to_be_bytes w32 pair.1)) is

pub next_property : (least : ℕ) (pairs : List (ℕ × ℕ)) → rises_from 0 (map (λ (pair : ℕ × ℕ). pair.0) pairs) ≡ true
    → NextProperty least pairs (find (λ (pair : ℕ × ℕ). leb least pair.0) pairs)
next_property least pairs rise =
    shown_next least pairs (find (λ (pair : ℕ × ℕ). leb least pair.0) pairs) (next_found (λ (pair : ℕ × ℕ). pair.0) 0 least pairs rise)

-- the pair that was looked up is the next item
pub property_found : (least : ℕ) (pairs : List (ℕ × ℕ)) (pair : ℕ × ℕ) → rises_from 0 (map (λ (p : ℕ × ℕ). p.0) pairs) ≡ true
    → Some pair ≡ find (λ (p : ℕ × ℕ). leb least p.0) pairs
    → property_items pairs least ≡ (to_be_bytes w32 pair.0 ++ to_be_bytes w32 pair.1) ∷ property_items pairs (pair.0 + 1)
property_found least pairs pair rise is = subst (NextProperty least pairs) (sym is) (next_property least pairs rise)

pub property_none : (least : ℕ) (pairs : List (ℕ × ℕ)) → rises_from 0 (map (λ (p : ℕ × ℕ). p.0) pairs) ≡ true
    → None ≡ find (λ (p : ℕ × ℕ). leb least p.0) pairs → property_items pairs least ≡ []
property_none least pairs rise is = subst (NextProperty least pairs) (sym is) (next_property least pairs rise)
