-- The lists, as they are seen of an arena that holds them.
use Rattle.std.proofs.Common.{◌≡◌, ◌≤◌, ℕ, zero, suc, List, [], ◌∷◌, Option, Some, None, length, get_or, refl, sym, ◌∙◌, ap, subst, arith}
use Rattle.std.specs.Prelude.{map}
use Rattle.std.proofs.lemmas.List.Sums.{sum_by-cons}
use Rattle.linked_records.specs.View.{RecordsView, first_or, record_count}
use Rattle.linked_records.specs.Places.{Chain, Holds, ends_of, lists_of, onward, room, taken, view_of, walk}
use Rattle.linked_records.specs.declared.place.Ends.{Ends}
use Rattle.linked_records.specs.declared.place.Place.{Place}

module _ {T : Type 0} where
  walk_chain : (list : ℕ) (places : List (Place T)) (most : ℕ) (prev : Option ℕ) (l : List (ℕ × T)) → Chain (taken list) places prev l None → length l ≤ most
      → walk places most (first_or None l) ≡ l
  unfolding walk
  walk_chain list places zero prev [] chain short = refl
  walk_chain list places (suc most) prev [] chain short = refl
  walk_chain list places zero prev (p ∷ l) chain short = absurd (omega (arith, short))
  walk_chain list places (suc most) prev (p ∷ l) chain short =
      ap (onward (walk places most) p.0) chain.0
      ∙ ap (λ (m : List (ℕ × T)). p ∷ m) (walk_chain list places most (Some p.0) l chain.1 (omega arith))

  walk_each : (places : List (Place T)) (most : ℕ) (lists : List (List (ℕ × T)))
      → ((j : ℕ) → walk places most (first_or None (get_or lists j [])) ≡ get_or lists j [])
      → map (λ (e : Ends). walk places most e.first) (map ends_of lists) ≡ lists
  walk_each places most [] each = refl
  walk_each places most (l ∷ lists) each = λ i. each 0 i ∷ walk_each places most lists (λ j. each (suc j)) i

  length_count : (lists : List (List (ℕ × T))) (j : ℕ) → length (get_or lists j []) ≤ record_count lists
  length_count [] j = omega arith
  length_count (l ∷ lists) zero = omega (arith, sum_by-cons (λ (m : List (ℕ × T)). length m) l lists)
  length_count (l ∷ lists) (suc j) = omega (arith, length_count lists j, sum_by-cons (λ (m : List (ℕ × T)). length m) l lists)

  -- they are those that the arena holds
  pub lists_seen : {places : List (Place T)} {ends : List Ends} {free : Option ℕ} {lists : List (List (ℕ × T))} → Holds places ends free lists
      → lists_of places ends ≡ lists
  unfolding lists_of
  lists_seen {places} {ends} {free} {lists} h =
      ap (map (λ (e : Ends). walk places (length places) e.first)) h.threads.ends_are
      ∙ walk_each places (length places) lists
      (λ j. walk_chain j places (length places) None (get_or lists j []) (h.threads.linked j) (omega (arith, h.total, length_count lists j)))

  pub sound : {places : List (Place T)} {ends : List Ends} {free : Option ℕ} {lists : List (List (ℕ × T))} → Holds places ends free lists
      → Holds places ends free (lists_of places ends)
  sound {places} {ends} {free} {lists} h = subst (λ (l : List (List (ℕ × T))). Holds places ends free l) (sym (lists_seen h)) h

  module _ (places : List (Place T)) (ends : List Ends) (capacity : ℕ) (v : RecordsView T) (is : view_of places ends capacity ≡ v) where
    -- what is held is what is seen
    pub held : (free : Option ℕ) → Holds places ends free (lists_of places ends) → Holds places ends free v.lists
    held free h = subst (λ (w : RecordsView T). Holds places ends free w.lists) is h

    pub spare_seen : v.spare ≡ room capacity v.lists
    spare_seen = subst (λ (w : RecordsView T). w.spare ≡ room capacity w.lists) is refl

    pub given_seen : length places ≡ v.given
    given_seen = ap (λ (w : RecordsView T). w.given) is
