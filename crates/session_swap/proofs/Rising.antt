-- Along the saved sessions the numbers of their contexts rise: what keeps that, and that the first one is the least.
use Rattle.std.proofs.Common.{◌≡◌, ◌≢◌, ◌<◌, ◌≤◌, inl, inr, ℕ, Bool, true, false, List, [], ◌∷◌, ◌++◌, set, map, length, refl, ap, subst, sym, ◌∙◌, arith}
use Rattle.std.specs.Prelude.{◌==◌, Option, Some, None, is_some, IfSome, if◌then◌else◌}
use Rattle.std.specs.List.{AllByRecursion, count_by}
use Rattle.std.proofs.lemmas.Bool.{cases_eq, cases_lt, eq-eqb, eqb-true, false≢true}
use Rattle.std.proofs.lemmas.List.{get_or-set_other, get_or-set_same, map_push, set_past}
use Rattle.std.proofs.lemmas.Option.{none-some, same_Some}
use Rattle.device_spec.specs.Slots.{IsSlots, SlotState}
use Rattle.device_port.specs.Use.{without_one}
use Rattle.session_swap.specs.Items.{IsBelow, Item, ItemStands, ListsThose, Rise, Saved, SessionsStand, SessionsView, Stand, first_number, is_saved_item, item_at, number_of_item, numbers_along, oldest_number, place_at, rest_of, saved_number}
use Rattle.session_swap.specs.Moves.{RiseIn}
use Rattle.session_swap.proofs.Counts.{count_cons, flag_false, flag_true, is_true}
use Rattle.session_swap.proofs.Oldest.{below_place, by_saved, has_last, is_saved_with}
use Rattle.session_swap.proofs.Gaps.{IsLeast, items_least, least_none, least_same}
use Rattle.session_swap.proofs.Uses.{not_first}

-- ---- fewer numbers

below_fewer : (fa fb ga gb : Option ℕ) → ((m : ℕ) → ga ≡ Some m → fa ≡ Some m) → ((m : ℕ) → gb ≡ Some m → fb ≡ Some m)
    → IsBelow fa fb → IsBelow ga gb
below_fewer fa fb None gb a b is = tt
below_fewer fa fb (Some n) None a b is = tt
below_fewer fa fb (Some n) (Some m) a b is =
    subst (λ (o : Option ℕ). IsBelow o (Some m)) (a n refl) (subst (λ (o : Option ℕ). IsBelow fa o) (b m refl) is)

all_fewer : (f g : ℕ → Option ℕ) → ((n m : ℕ) → g n ≡ Some m → f n ≡ Some m) → (x : ℕ) (xs : List ℕ)
    → AllByRecursion (λ one. IsBelow (f x) one) (map f xs) → AllByRecursion (λ one. IsBelow (g x) one) (map g xs)
all_fewer f g fewer x [] all = tt
all_fewer f g fewer x (y ∷ xs) all =
    (below_fewer (f x) (f y) (g x) (g y) (fewer x) (fewer y) all.0, all_fewer f g fewer x xs all.1)

rise_fewer : (f g : ℕ → Option ℕ) → ((n m : ℕ) → g n ≡ Some m → f n ≡ Some m) → (xs : List ℕ) → Rise (map f xs) → Rise (map g xs)
rise_fewer f g fewer [] rise = tt
rise_fewer f g fewer (x ∷ xs) rise = (all_fewer f g fewer x xs rise.0, rise_fewer f g fewer xs rise.1)

number_set : (items : List (Option Item)) (n : ℕ) (item : Option Item)
    → ((m : ℕ) → number_of_item item ≡ Some m → number_of_item (item_at items n) ≡ Some m) → (k m : ℕ)
    → number_of_item (item_at (set items n item) k) ≡ Some m → number_of_item (item_at items k) ≡ Some m
number_set items n item old k m is =
    elim (cases_lt n (length items)) [
      | inl inside ↦ elim (cases_eq k n) [
        | inl same ↦
            ap (λ (j : ℕ). number_of_item (item_at items j)) same
            ∙ old m (
            sym (ap number_of_item (get_or-set_same items n item None inside))
            ∙ ap (λ (j : ℕ). number_of_item (item_at (set items n item) j)) (sym same) ∙ is
            )
        | inr apart ↦ sym (ap number_of_item (get_or-set_other items n k item None apart)) ∙ is
      ]
      | inr past ↦ ap (λ (l : List (Option Item)). number_of_item (item_at l k)) (sym (set_past items n item past)) ∙ is
    ]

-- a session gets no other number
pub rise_set : (items : List (Option Item)) (n : ℕ) (item : Option Item) (saved : List ℕ)
    → ((m : ℕ) → number_of_item item ≡ Some m → number_of_item (item_at items n) ≡ Some m)
    → Rise (numbers_along items saved) → Rise (numbers_along (set items n item) saved)
rise_set items n item saved old rise =
    rise_fewer (λ k. number_of_item (item_at items k)) (λ k. number_of_item (item_at (set items n item) k)) (number_set items n item old) saved rise

-- it isn't saved any more
pub rise_gone : (items : List (Option Item)) (n : ℕ) (item : Option Item) (saved : List ℕ) → number_of_item item ≡ None
    → Rise (numbers_along items saved) → Rise (numbers_along (set items n item) saved)
rise_gone items n item saved none rise = rise_set items n item saved (λ m is. absurd (none-some m (sym none ∙ is))) rise

-- ---- one fewer in the list

all_by : (f : ℕ → Option ℕ) (P : Option ℕ → Type 0) (number x : ℕ) (xs : List ℕ) (same : Bool) → (x == number) ≡ same
    → AllByRecursion P (map f (x ∷ xs)) → AllByRecursion P (map f (without_one number xs)) → AllByRecursion P (map f (without_one number (x ∷ xs)))
all_by f P number x xs true same all rest =
    subst (λ (l : List ℕ). AllByRecursion P (map f l)) (sym (ap (λ (b : Bool). if b then xs else x ∷ without_one number xs) same)) all.1
all_by f P number x xs false same all rest =
    subst (λ (l : List ℕ). AllByRecursion P (map f l)) (sym (ap (λ (b : Bool). if b then xs else x ∷ without_one number xs) same)) (all.0, rest)

all_without : (f : ℕ → Option ℕ) (P : Option ℕ → Type 0) (number : ℕ) (xs : List ℕ) → AllByRecursion P (map f xs)
    → AllByRecursion P (map f (without_one number xs))
all_without f P number [] all = tt
all_without f P number (x ∷ xs) all = all_by f P number x xs (x == number) refl all (all_without f P number xs all.1)

rise_by : (f : ℕ → Option ℕ) (number x : ℕ) (xs : List ℕ) (same : Bool) → (x == number) ≡ same → Rise (map f (x ∷ xs))
    → Rise (map f (without_one number xs)) → Rise (map f (without_one number (x ∷ xs)))
rise_by f number x xs true same rise rest =
    subst (λ (l : List ℕ). Rise (map f l)) (sym (ap (λ (b : Bool). if b then xs else x ∷ without_one number xs) same)) rise.1
rise_by f number x xs false same rise rest =
    subst (λ (l : List ℕ). Rise (map f l)) (sym (ap (λ (b : Bool). if b then xs else x ∷ without_one number xs) same))
    (all_without f (λ one. IsBelow (f x) one) number xs rise.0, rest)

rise_one_less : (f : ℕ → Option ℕ) (number : ℕ) (xs : List ℕ) → Rise (map f xs) → Rise (map f (without_one number xs))
rise_one_less f number [] rise = tt
rise_one_less f number (x ∷ xs) rise = rise_by f number x xs (x == number) refl rise (rise_one_less f number xs rise.1)

pub rise_without : (items : List (Option Item)) (number : ℕ) (saved : List ℕ) → Rise (numbers_along items saved)
    → Rise (numbers_along items (without_one number saved))
rise_without items number saved rise = rise_one_less (λ k. number_of_item (item_at items k)) number saved rise

-- a session is loaded, or gone
pub rise_less : (items : List (Option Item)) (n : ℕ) (item : Option Item) (saved : List ℕ) → number_of_item item ≡ None
    → Rise (numbers_along items saved) → Rise (numbers_along (set items n item) (without_one n saved))
rise_less items n item saved none rise = rise_without (set items n item) n saved (rise_gone items n item saved none rise)

-- ---- one more at the end

all_push : (P : Option ℕ → Type 0) (xs : List (Option ℕ)) (y : Option ℕ) → AllByRecursion P xs → P y → AllByRecursion P (xs ++ y ∷ [])
all_push P [] y all is = (is, tt)
all_push P (x ∷ xs) y all is = (all.0, all_push P xs y all.1 is)

rise_push : (xs : List (Option ℕ)) (y : Option ℕ) → AllByRecursion (λ one. IsBelow one y) xs → Rise xs → Rise (xs ++ y ∷ [])
rise_push [] y below rise = (tt, tt)
rise_push (x ∷ xs) y below rise = (all_push (λ one. IsBelow x one) xs y rise.0 below.0, rise_push xs y below.1 rise.1)

below_all : (f : ℕ → Option ℕ) (c : ℕ) → ((n m : ℕ) → f n ≡ Some m → m < c) → (xs : List ℕ)
    → AllByRecursion (λ one. IsBelow one (Some c)) (map f xs)
below_all f c under [] = tt
below_all f c under (x ∷ xs) = (one (f x) (under x), below_all f c under xs)
  where
    one : (o : Option ℕ) → ((m : ℕ) → o ≡ Some m → m < c) → IsBelow o (Some c)
    one None under = tt
    one (Some n) under = under n refl

-- the list says the same, where the number of another session changes
along_other : (items : List (Option Item)) (n : ℕ) (item : Option Item) (xs : List ℕ) → count_by (λ one. one == n) xs ≡ 0
    → numbers_along (set items n item) xs ≡ numbers_along items xs
along_other items n item [] none = refl
along_other items n item (x ∷ xs) none =
    let rest = not_first n x xs none in
    let here : number_of_item (item_at (set items n item) x) ≡ number_of_item (item_at items x) =
    ap number_of_item (get_or-set_other items n x item None (apart_by n x rest.0)) in
    let later = along_other items n item xs rest.1 in
    λ i. here i ∷ later i
  where
    apart_by : (n x : ℕ) → (x == n) ≡ false → x ≢ n
    apart_by n x is same = false≢true (sym is ∙ eq-eqb x n same)

-- a session is saved under the number that comes next
pub rise_saved : (items : List (Option Item)) (n c : ℕ) (item : Option Item) (saved : List ℕ) → n < length items
    → count_by (λ one. one == n) saved ≡ 0 → number_of_item item ≡ Some c
    → ((k m : ℕ) → number_of_item (item_at items k) ≡ Some m → m < c) → Rise (numbers_along items saved)
    → Rise (numbers_along (set items n item) (saved ++ n ∷ []))
rise_saved items n c item saved inside none is under rise =
    let f : ℕ → Option ℕ = λ k. number_of_item (item_at (set items n item) k) in
    let last : f n ≡ Some c = ap number_of_item (get_or-set_same items n item None inside) ∙ is in
    let before = along_other items n item saved none in
    subst (λ (l : List (Option ℕ)). Rise l) (sym (map_push f saved n ∙ (λ i. before i ++ last i ∷ [])))
    (rise_push (numbers_along items saved) (Some c) (below_all (λ k. number_of_item (item_at items k)) c under saved) rise)

-- ---- the first one is the least

below_by : (f : ℕ → Option ℕ) (a x : ℕ) (xs : List ℕ) (i m : ℕ) (same : Bool) → (x == i) ≡ same → IsBelow (Some a) (f x)
    → 1 ≤ count_by (λ one. one == i) (x ∷ xs) → f i ≡ Some m → (1 ≤ count_by (λ one. one == i) xs → a < m) → a < m
below_by f a x xs i m true same first some is rest = subst (λ (o : Option ℕ). IsBelow (Some a) o) (ap f (eqb-true x i same) ∙ is) first
below_by f a x xs i m false same first some is rest =
    rest (omega (arith, some, count_cons (λ (one : ℕ). one == i) x xs, flag_false (x == i) same))

all_below : (f : ℕ → Option ℕ) (a : ℕ) (xs : List ℕ) (i m : ℕ) → AllByRecursion (λ one. IsBelow (Some a) one) (map f xs)
    → 1 ≤ count_by (λ one. one == i) xs → f i ≡ Some m → a < m
all_below f a [] i m all some is = absurd (omega (arith, some))
all_below f a (x ∷ xs) i m all some is =
    below_by f a x xs i m (x == i) refl all.0 some is (λ later. all_below f a xs i m all.1 later is)

least_first : (f : ℕ → Option ℕ) (x a : ℕ) (xs : List ℕ) → Rise (map f (x ∷ xs)) → f x ≡ Some a
    → ((i m : ℕ) → f i ≡ Some m → 1 ≤ count_by (λ one. one == i) (x ∷ xs)) → IsLeast f (Some a)
least_first f x a xs rise is listed = record {
  there = λ n e. (x, is ∙ e);
  below = λ i m e. by i m e (x == i) refl;
}
  where
    by : (i m : ℕ) → f i ≡ Some m → (same : Bool) → (x == i) ≡ same → (n : ℕ) × (Some a ≡ Some n) × (n ≤ m)
    by i m e true same =
        let equal = same_Some a m (sym is ∙ ap f (eqb-true x i same) ∙ e) in
        (a, refl, omega (arith, equal))
    by i m e false same =
        let later : 1 ≤ count_by (λ one. one == i) xs =
        omega (arith, listed i m e, count_cons (λ (one : ℕ). one == i) x xs, flag_false (x == i) same) in
        let below = all_below f a xs i m (subst (λ (o : Option ℕ). AllByRecursion (λ one. IsBelow o one) (map f xs)) is rise.0) later e in
        (a, refl, omega (arith, below))

first_saved : (items : List (Option Item)) (x : ℕ) (xs : List ℕ) → ListsThose is_saved_item (x ∷ xs) items → is_saved_item (item_at items x) ≡ true
first_saved items x xs lists =
    is_true (is_saved_item (item_at items x)) (omega (
      arith,
      lists.each x,
      count_cons (λ (one : ℕ). one == x) x xs,
      flag_true (x == x) (eq-eqb x x refl),
    ))

there_once : (items : List (Option Item)) (saved : List ℕ) → ListsThose is_saved_item saved items → (i m : ℕ)
    → number_of_item (item_at items i) ≡ Some m → count_by (λ one. one == i) saved ≡ 1
there_once items saved lists i m is = lists.each i ∙ flag_true (is_saved_item (item_at items i)) (is_saved_with (item_at items i) m is)

none_there : (items : List (Option Item)) → ListsThose is_saved_item [] items → (i : ℕ) (number : Option ℕ)
    → number_of_item (item_at items i) ≡ number → number_of_item (item_at items i) ≡ None
none_there items lists i None is = is
none_there items lists i (Some m) is = absurd (omega (arith, there_once items [] lists i m is))

-- where they rise, the first of the saved sessions has the least number
pub oldest_first : (items : List (Option Item)) (saved : List ℕ) → ListsThose is_saved_item saved items → Rise (numbers_along items saved)
    → first_number items saved ≡ oldest_number items
oldest_first items [] lists rise =
    let f : ℕ → Option ℕ = λ i. number_of_item (item_at items i) in
    least_same f f None (oldest_number items) (λ i. refl) (least_none f (λ i. none_there items lists i (f i) refl)) (items_least items)
oldest_first items (x ∷ xs) lists rise =
    let f : ℕ → Option ℕ = λ i. number_of_item (item_at items i) in
    let had = has_last (item_at items x) (first_saved items x xs lists) in
    had.1
    ∙ least_same f f (Some had.0) (oldest_number items) (λ i. refl)
    (least_first f x had.0 xs rise had.1 (λ i m is. omega (arith, there_once items (x ∷ xs) lists i m is)))
    (items_least items)

no_number : (last : Option Saved) → is_some last ≡ false → saved_number last ≡ None
no_number None none = refl
no_number (Some last) none = absurd cc

pub unsaved_none : (item : Option Item) → is_saved_item item ≡ false → number_of_item item ≡ None
unsaved_none None none = refl
unsaved_none (Some item) none = no_number item.saved none

-- ---- where the device tells

pub rise_none : (state : Option SlotState) (items : List (Option Item)) → RiseIn state items []
rise_none None items = tt {0}
rise_none (Some slots) items = tt {0}

-- the numbers are below the next one
under_by : (slots : SlotState) (number : ℕ) (item : Option Item) (n : ℕ) → IsSlots slots → IfSome item (λ item. ItemStands slots number item)
    → number_of_item item ≡ Some n → n < slots.counter
under_by slots number None n sound stands is = absurd (none-some n is)
under_by slots number (Some item) n sound stands is =
    below_place slots sound number n (by_saved item.handle item.saved (place_at slots number) stands.place ∙ is)

pub number_under : (slots : SlotState) (view : SessionsView) (others : List ℕ) → SessionsStand slots view others → (number n : ℕ)
    → number_of_item (item_at view.items number) ≡ Some n → n < slots.counter
number_under slots view others stand number n is = under_by slots number (item_at view.items number) n stand.sound (stand.each number) is

-- where a session is gone
pub rise_ended : (state new_state : Option SlotState) (view : SessionsView) (others : List ℕ) (n : ℕ) → Stand state view others
    → rest_of new_state ≡ rest_of state → RiseIn new_state (set view.items n None) (without_one n view.saved)
rise_ended state None view others n stand rest = tt {0}
rise_ended None (Some new) view others n stand rest = absurd cc
rise_ended (Some slots) (Some new) view others n stand rest = rise_less view.items n None view.saved refl stand.rise
