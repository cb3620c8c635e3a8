-- The least of some numbers, and the gap between it and the number of the next context.
use Rattle.std.proofs.Common.{◌≡◌, ◌≢◌, ◌-◌, ◌<◌, ◌≤◌, inl, inr, ℕ, zero, suc, List, [], ◌∷◌, get_or, refl, ap, sym, ◌∙◌, arith}
use Rattle.std.specs.Prelude.{Option, Some, None, min}
use Rattle.std.proofs.lemmas.Bool.{cases_eq, cases_lt}
use Rattle.std.proofs.lemmas.Option.{none-some, same_Some}
use Rattle.device_spec.specs.Slots.{SessionPlace, gap_from, inactive, number_saved, older, oldest_saved}
use Rattle.session_swap.specs.Items.{Item, item_at, number_of_item, oldest_number}

-- the least of the numbers that a function gives; nothing where it gives none
pub record IsLeast (f : ℕ → Option ℕ) (least : Option ℕ) : Type 0 where
  pub there : (n : ℕ) → least ≡ Some n → (i : ℕ) × (f i ≡ Some n)
  pub below : (i m : ℕ) → f i ≡ Some m → (n : ℕ) × (least ≡ Some n) × (n ≤ m)

pub least_none : (f : ℕ → Option ℕ) → ((i : ℕ) → f i ≡ None) → IsLeast f None
least_none f none = record {
  there = λ n is. absurd (none-some n is);
  below = λ i m is. absurd (none-some m (sym (none i) ∙ is));
}

-- ---- one number more

below_none : (f : ℕ → Option ℕ) (rest : Option ℕ) → f zero ≡ None → IsLeast (λ i. f (suc i)) rest → (i m : ℕ) → f i ≡ Some m
    → (n : ℕ) × (rest ≡ Some n) × (n ≤ m)
below_none f rest is least zero m e = absurd (none-some m (sym is ∙ e))
below_none f rest is least (suc i) m e = least.below i m e

below_one : (f : ℕ → Option ℕ) (a : ℕ) → f zero ≡ Some a → IsLeast (λ i. f (suc i)) None → (i m : ℕ) → f i ≡ Some m
    → (n : ℕ) × (Some a ≡ Some n) × (n ≤ m)
below_one f a is least zero m e = let same = same_Some a m (sym is ∙ e) in (a, refl, omega arith)
below_one f a is least (suc i) m e = let rest = least.below i m e in absurd (none-some rest.0 rest.1)

below_two : (f : ℕ → Option ℕ) (a b : ℕ) → f zero ≡ Some a → IsLeast (λ i. f (suc i)) (Some b) → (i m : ℕ) → f i ≡ Some m
    → (n : ℕ) × (Some (min a b) ≡ Some n) × (n ≤ m)
below_two f a b is least zero m e = let same = same_Some a m (sym is ∙ e) in (min a b, refl, omega arith)
below_two f a b is least (suc i) m e =
    let rest = least.below i m e in
    let same = same_Some b rest.0 rest.1 in
    (min a b, refl, omega (arith, rest.2))

there_two : (f : ℕ → Option ℕ) (a b n : ℕ) → f zero ≡ Some a → IsLeast (λ i. f (suc i)) (Some b) → min a b ≡ n → (i : ℕ) × (f i ≡ Some n)
there_two f a b n is least e =
    elim (cases_lt b a) [
      | inl less ↦ let rest = least.there b refl in let same : b ≡ n = omega arith in (suc rest.0, rest.1 ∙ ap (λ (k : ℕ). Some k) same)
      | inr more ↦ let same : a ≡ n = omega arith in (zero, is ∙ ap (λ (k : ℕ). Some k) same)
    ]

least_cons : (f : ℕ → Option ℕ) (first rest : Option ℕ) → f zero ≡ first → IsLeast (λ i. f (suc i)) rest → IsLeast f (older first rest)
least_cons f None rest is least = record {
  there = λ n e. let rest = least.there n e in (suc rest.0, rest.1);
  below = below_none f rest is least;
}
least_cons f (Some a) None is least = record {
  there = λ n e. (zero, is ∙ e);
  below = below_one f a is least;
}
least_cons f (Some a) (Some b) is least = record {
  there = λ n e. there_two f a b n is least (same_Some (min a b) n e);
  below = below_two f a b is least;
}

-- of the sessions that are kept, and of the places of a device
pub items_least : (items : List (Option Item)) → IsLeast (λ i. number_of_item (item_at items i)) (oldest_number items)
items_least [] = least_none (λ i. None) (λ i. refl)
items_least (item ∷ items) =
    least_cons (λ i. number_of_item (item_at (item ∷ items) i)) (number_of_item item) (oldest_number items) refl (items_least items)

pub places_least : (places : List SessionPlace) → IsLeast (λ i. number_saved (get_or places i inactive)) (oldest_saved places)
places_least [] = least_none (λ i. None) (λ i. refl)
places_least (place ∷ places) =
    least_cons (λ i. number_saved (get_or (place ∷ places) i inactive)) (number_saved place) (oldest_saved places) refl (places_least places)

-- ---- of two functions

-- the least of the same numbers is the same
pub least_same : (f g : ℕ → Option ℕ) (a b : Option ℕ) → ((i : ℕ) → f i ≡ g i) → IsLeast f a → IsLeast g b → a ≡ b
least_same f g None None same one two = refl
least_same f g None (Some b) same one two =
    let there = two.there b refl in
    let less = one.below there.0 b (same there.0 ∙ there.1) in
    absurd (none-some less.0 less.1)
least_same f g (Some a) None same one two =
    let there = one.there a refl in
    let less = two.below there.0 a (sym (same there.0) ∙ there.1) in
    absurd (none-some less.0 less.1)
least_same f g (Some a) (Some b) same one two =
    let first = one.there a refl in
    let second = two.there b refl in
    let less = two.below first.0 a (sym (same first.0) ∙ first.1) in
    let more = one.below second.0 b (same second.0 ∙ second.1) in
    let equal : a ≡ b = omega (arith, same_Some b less.0 less.1, less.2, same_Some a more.0 more.1, more.2) in
    ap (λ (n : ℕ). Some n) equal

-- a number above all others changes no least one
pub least_stays : (f g : ℕ → Option ℕ) (i c n : ℕ) → f i ≡ None → g i ≡ Some c → ((j : ℕ) → j ≢ i → g j ≡ f j)
    → ((j m : ℕ) → f j ≡ Some m → m < c) → IsLeast f (Some n) → IsLeast g (Some n)
least_stays f g i c n none is same under least = record {
  there = λ m e.
      let there = least.there m e in
      (there.0, same there.0 (λ at. absurd (none-some m (sym none ∙ ap f (sym at) ∙ there.1))) ∙ there.1);
  below = λ j m e. elim (cases_eq j i) [
    | inl at ↦
        let there = least.there n refl in
        let last : c ≡ m = same_Some c m (sym is ∙ ap g (sym at) ∙ e) in
        (n, refl, omega (arith, under there.0 n there.1))
    | inr apart ↦ least.below j m (sym (same j apart) ∙ e)
  ];
}

-- without the least, which is one alone, the gap is smaller
pub gap_falls : (f g : ℕ → Option ℕ) (i n c : ℕ) (least : Option ℕ) → IsLeast f (Some n) → IsLeast g least → g i ≡ None
    → ((j : ℕ) → j ≢ i → g j ≡ f j) → ((j : ℕ) → f j ≡ Some n → j ≡ i) → n < c → gap_from c least < c - n
gap_falls f g i n c None one two none same once under = omega arith
gap_falls f g i n c (Some m) one two none same once under =
    let there = two.there m refl in
    let apart : there.0 ≢ i = λ at. none-some m (sym none ∙ ap g (sym at) ∙ there.1) in
    let was = sym (same there.0 apart) ∙ there.1 in
    let less = one.below there.0 m was in
    let first : n ≡ less.0 = same_Some n less.0 less.1 in
    elim (cases_eq n m) [
      | inl equal ↦ absurd (apart (once there.0 (was ∙ ap (λ (k : ℕ). Some k) (sym equal))))
      | inr other ↦ omega (arith, less.2)
    ]
