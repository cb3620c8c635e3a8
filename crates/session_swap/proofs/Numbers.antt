-- The least number of the saved session contexts, after one place or one item is set, and the gap below the next number.
use Rattle.std.proofs.Common.{◌≡◌, ◌+◌, ◌<◌, ◌≤◌, ℕ, zero, suc, List, [], ◌∷◌, length, get_or, set, map, refl, ap, sym, ◌∙◌, arith}
use Rattle.std.specs.Prelude.{Option, Some, None}
use Rattle.std.proofs.lemmas.List.{get_or-map, length-map, map-set}
use Rattle.device_spec.specs.Slots.{SessionPlace, inactive, gap_from, number_saved, older, oldest_saved}
use Rattle.session_swap.specs.Items.{Item, item_at, number_of_item, oldest_number}

-- ---- the least number

abbrev pub least : List (Option ℕ) → Option ℕ
least [] = None
least (number ∷ numbers) = older number (least numbers)

pub older_swap : (a b c : Option ℕ) → older a (older b c) ≡ older b (older a c)
older_swap None b c = refl
older_swap (Some a) None c = refl
older_swap (Some a) (Some b) None = ap (λ (n : ℕ). Some n) (omega arith)
older_swap (Some a) (Some b) (Some c) = ap (λ (n : ℕ). Some n) (omega arith)

-- one number more
pub least_more : (numbers : List (Option ℕ)) (n : ℕ) (number : Option ℕ) → n < length numbers → get_or numbers n None ≡ None
    → least (set numbers n number) ≡ older number (least numbers)
least_more [] n number inside none = absurd (omega arith)
least_more (old ∷ numbers) zero number inside none = ap (λ (o : Option ℕ). older number (older o (least numbers))) (sym none)
least_more (old ∷ numbers) (suc n) number inside none =
    ap (older old) (least_more numbers n number (omega arith) none) ∙ older_swap old number (least numbers)

-- one number less
pub least_less : (numbers : List (Option ℕ)) (n : ℕ) → older (get_or numbers n None) (least (set numbers n None)) ≡ least numbers
least_less [] n = refl
least_less (old ∷ numbers) zero = refl
least_less (old ∷ numbers) (suc n) =
    older_swap (get_or numbers n None) old (least (set numbers n None)) ∙ ap (older old) (least_less numbers n)

-- ---- the gap

gap_more : (counter : ℕ) (oldest : Option ℕ) → gap_from (counter + 1) (older (Some counter) oldest) ≤ gap_from counter oldest + 1
gap_more counter None = omega arith
gap_more counter (Some n) = omega arith

gap_less : (counter : ℕ) (a b : Option ℕ) → gap_from counter b ≤ gap_from counter (older a b)
gap_less counter None b = omega arith
gap_less counter (Some a) None = omega arith
gap_less counter (Some a) (Some b) = omega arith

numbers_saved : (counter n : ℕ) (numbers : List (Option ℕ)) → n < length numbers → get_or numbers n None ≡ None
    → gap_from (counter + 1) (least (set numbers n (Some counter))) ≤ gap_from counter (least numbers) + 1
numbers_saved counter n numbers inside none =
    omega (arith, ap (gap_from (counter + 1)) (least_more numbers n (Some counter) inside none), gap_more counter (least numbers))

numbers_unsaved : (counter n : ℕ) (numbers : List (Option ℕ))
    → gap_from counter (least (set numbers n None)) ≤ gap_from counter (least numbers)
numbers_unsaved counter n numbers =
    omega (
      arith,
      ap (gap_from counter) (least_less numbers n),
      gap_less counter (get_or numbers n None) (least (set numbers n None)),
    )

-- ---- of places

pub oldest_place : (places : List SessionPlace) → oldest_saved places ≡ least (map number_saved places)
oldest_place [] = refl
oldest_place (place ∷ places) = ap (older (number_saved place)) (oldest_place places)

pub oldest_place_set : (places : List SessionPlace) (n : ℕ) (place : SessionPlace) (number : Option ℕ)
    → number_saved place ≡ number
    → oldest_saved (set places n place) ≡ least (set (map number_saved places) n number)
oldest_place_set places n place number is =
    oldest_place (set places n place) ∙ ap least (map-set number_saved places n place ∙ ap (set (map number_saved places) n) is)

-- a save makes the gap greater by one at most
pub gap_saved : (counter : ℕ) (places : List SessionPlace) (n : ℕ) (place : SessionPlace) → n < length places
    → number_saved (get_or places n inactive) ≡ None → number_saved place ≡ Some counter
    → gap_from (counter + 1) (oldest_saved (set places n place)) ≤ gap_from counter (oldest_saved places) + 1
gap_saved counter places n place inside none is =
    omega (
      arith,
      ap (gap_from (counter + 1)) (oldest_place_set places n place (Some counter) is),
      ap (gap_from counter) (oldest_place places),
      numbers_saved counter n (map number_saved places) (omega (arith, inside, length-map places number_saved))
          (get_or-map number_saved places n inactive None inside ∙ none),
    )

-- a load or a flush doesn't
pub gap_unsaved : (counter : ℕ) (places : List SessionPlace) (n : ℕ) (place : SessionPlace) → number_saved place ≡ None
    → gap_from counter (oldest_saved (set places n place)) ≤ gap_from counter (oldest_saved places)
gap_unsaved counter places n place none =
    omega (
      arith,
      ap (gap_from counter) (oldest_place_set places n place None none),
      ap (gap_from counter) (oldest_place places),
      numbers_unsaved counter n (map number_saved places),
    )

-- ---- of items

pub oldest_item : (items : List (Option Item)) → oldest_number items ≡ least (map number_of_item items)
oldest_item [] = refl
oldest_item (item ∷ items) = ap (older (number_of_item item)) (oldest_item items)

pub oldest_item_set : (items : List (Option Item)) (n : ℕ) (item : Option Item) (number : Option ℕ) → number_of_item item ≡ number
    → oldest_number (set items n item) ≡ least (set (map number_of_item items) n number)
oldest_item_set items n item number is =
    oldest_item (set items n item) ∙ ap least (map-set number_of_item items n item ∙ ap (set (map number_of_item items) n) is)

-- a session that is saved
pub oldest_more : (items : List (Option Item)) (n : ℕ) (item : Option Item) → n < length items
    → number_of_item (item_at items n) ≡ None
    → oldest_number (set items n item) ≡ older (number_of_item item) (oldest_number items)
oldest_more items n item inside none =
    oldest_item_set items n item (number_of_item item) refl
    ∙ least_more (map number_of_item items) n (number_of_item item) (omega (arith, inside, length-map items number_of_item))
    (get_or-map number_of_item items n None None inside ∙ none)
    ∙ ap (older (number_of_item item)) (sym (oldest_item items))

-- a session that is loaded, or gone
pub oldest_less : (items : List (Option Item)) (n : ℕ) (item : Option Item) → n < length items → number_of_item item ≡ None
    → older (number_of_item (item_at items n)) (oldest_number (set items n item)) ≡ oldest_number items
oldest_less items n item inside none =
    (λ i. older (sym (get_or-map number_of_item items n None None inside) i) (oldest_item_set items n item None none i))
    ∙ least_less (map number_of_item items) n
    ∙ sym (oldest_item items)
