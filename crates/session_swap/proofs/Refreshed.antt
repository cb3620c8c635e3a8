-- The oldest contexts are renewed, until the gap is small: each renewal leaves one fewer with a number below the one that
-- came next at the start.
use Rattle.std.proofs.Common.{◌≡◌, ◌≢◌, ◌+◌, ◌-◌, ◌*◌, ◌<◌, ◌≤◌, inl, inr, ℕ, zero, suc, Bool, true, false, ltb, List, [], ◌∷◌, length, drop, get_or, refl, ap, subst, sym, ◌∙◌, arith}
use Rattle.std.specs.Prelude.{◌==◌, min, Option, Some, None, is_some, IfSome, Result, Ok, Err}
use Rattle.std.specs.List.{count_by}
use Rattle.std.proofs.lemmas.Bool.{cases_lt, le-ltb, lt-ltb, ltb-true, ne_eqb}
use Rattle.std.proofs.lemmas.List.Sums.{count_by-le-length, sum_by-le-sum_by}
use Rattle.std.proofs.Math.Nat.{suc-mul}
use Rattle.tab_spec.specs.Shape.{number_of_session}
use Rattle.tab_spec.specs.declared.TheConstants.{SESSION_NUMBERS}
use Rattle.tab_spec.specs.declared.numbers.Numbers.{Numbers}
use Rattle.device_spec.specs.Slots.{SlotState, gap_from, gap_of, loaded_count}
use Rattle.device_port.specs.declared.own.SwapError.{SwapError}
use Rattle.session_swap.specs.Items.{AreFree, AreKept, HasNewContext, IsFirst, IsNarrow, IsRenewed, Item, KeepsRecent, Saved, SessionsView, Stand, Visited, counter_of, flag, full_flag, full_kept, gap_first, gap_kept, holders, is_saved_item, item_at, loaded_items, number_of_item, oldest_number, renewal_gap, rest_of, saved_items, saved_number}
use Rattle.session_swap.specs.Records.{IsSoundView}
use Rattle.session_swap.proofs.Counts.{count_cons, count_one, flag_false, flag_most, flag_true}
use Rattle.session_swap.proofs.Among.{named_is}
use Rattle.session_swap.proofs.Firsts.{first_risen, oldest_of}
use Rattle.session_swap.proofs.Gaps.{items_least}
use Rattle.session_swap.proofs.Making.{some_moved}
use Rattle.session_swap.proofs.Oldest.{gap_told, has_last, is_saved_with, number_inside, oldest_told}
use Rattle.session_swap.proofs.Owners.{some_split}
use Rattle.session_swap.proofs.Renewed.{kept_free}
use Rattle.session_swap.proofs.Told.{numbers_kept, renewal_told}

-- ---- counts

flag_less : (p q : Bool) → (q ≡ true → p ≡ true) → flag q ≤ flag p
flag_less p false both = omega arith
flag_less p true both = omega (arith, flag_true p (both refl))

-- what passes in one list passes in another
count_less : {X : Type 0} (p q : X → Bool) (xs ys : List X) (d : X) → length ys ≡ length xs
    → ((i : ℕ) → q (get_or ys i d) ≡ true → p (get_or xs i d) ≡ true) → count_by q ys ≤ count_by p xs
count_less p q [] [] d long each = omega arith
count_less p q [] (y ∷ ys) d long each = absurd (omega arith)
count_less p q (x ∷ xs) [] d long each = absurd (omega arith)
count_less p q (x ∷ xs) (y ∷ ys) d long each =
    omega (
      arith,
      count_cons p x xs,
      count_cons q y ys,
      flag_less (p x) (q y) (each 0),
      count_less p q xs ys d (omega arith) (λ i. each (suc i)),
    )

-- and one that doesn't passes in the other
count_falls : {X : Type 0} (p q : X → Bool) (xs ys : List X) (i : ℕ) (d : X) → length ys ≡ length xs → i < length xs
    → ((j : ℕ) → q (get_or ys j d) ≡ true → p (get_or xs j d) ≡ true) → p (get_or xs i d) ≡ true → q (get_or ys i d) ≡ false
    → count_by q ys < count_by p xs
count_falls p q [] ys i d long inside each was is = absurd (omega arith)
count_falls p q (x ∷ xs) [] i d long inside each was is = absurd (omega arith)
count_falls p q (x ∷ xs) (y ∷ ys) zero d long inside each was is =
    omega (
      arith,
      count_cons p x xs,
      count_cons q y ys,
      flag_true (p x) was,
      flag_false (q y) is,
      count_less p q xs ys d (omega arith) (λ j. each (suc j)),
    )
count_falls p q (x ∷ xs) (y ∷ ys) (suc i) d long inside each was is =
    omega (
      arith,
      count_cons p x xs,
      count_cons q y ys,
      flag_less (p x) (q y) (each 0),
      count_falls p q xs ys i d (omega arith) (omega arith) (λ j. each (suc j)) was is,
    )

-- ---- contexts with a number below this one

abbrev pub is_older : ℕ → Option ℕ → Bool
is_older c None = false
is_older c (Some n) = ltb n c

abbrev pub is_old : ℕ → Option Item → Bool
is_old c item = is_older c (number_of_item item)

abbrev pub old_items : ℕ → List (Option Item) → ℕ
old_items c items = count_by (λ item. is_old c item) items

older_some : (c : ℕ) (o : Option ℕ) → is_older c o ≡ true → (n : ℕ) × (o ≡ Some n) × (n < c)
older_some c None is = absurd cc
older_some c (Some n) is = (n, refl, ltb-true n c is)

older_is : (c n : ℕ) (o : Option ℕ) → o ≡ Some n → n < c → is_older c o ≡ true
older_is c n o is below = ap (is_older c) is ∙ lt-ltb n c below

younger_is : (c n : ℕ) (o : Option ℕ) → o ≡ Some n → c ≤ n → is_older c o ≡ false
younger_is c n o is above = ap (is_older c) is ∙ le-ltb n c above

old_last : (c : ℕ) (last : Option Saved) → flag (is_older c (saved_number last)) ≤ flag (is_some last)
old_last c None = omega arith
old_last c (Some last) = flag_most (ltb last.number c)

old_saved : (c : ℕ) (item : Option Item) → flag (is_old c item) ≤ flag (is_saved_item item)
old_saved c None = omega arith
old_saved c (Some item) = old_last c item.saved

few_old : (c : ℕ) (items : List (Option Item)) → old_items c items ≤ saved_items items
few_old c items = sum_by-le-sum_by (λ (item : Option Item). flag (is_old c item)) (λ (item : Option Item). flag (is_saved_item item)) items (old_saved c)

-- ---- the steps

-- so many were renewed since this number came next; of the sessions that were saved then, so many at most are still to be
pub record Progress (slots : SlotState) (items : List (Option Item)) (start most done : ℕ) : Type 0 where
  pub rises : start + done ≤ slots.counter
  pub few : old_items start items + done ≤ most
  pub most_is : most ≤ SESSION_NUMBERS

pub begins : (state : Option SlotState) (view : SessionsView) (most : ℕ) → Stand state view [] → most ≡ saved_items view.items
    → IfSome state (λ slots. Progress slots view.items (counter_of state) most 0)
begins None view most stand is = tt
begins (Some slots) view most stand is = record {
  rises = omega arith;
  few = omega (arith, few_old slots.counter view.items);
  most_is = omega (arith, stand.count, count_by-le-length is_saved_item view.items);
}

pub goes_on : (state new_state : Option SlotState) (view new_view : SessionsView) (handle start most done : ℕ) → Stand state view []
    → Stand new_state new_view [] → rest_of new_state ≡ rest_of state → IfSome state (λ slots. Progress slots view.items start most done)
    → done < most → renewal_gap view.numbers ≤ gap_kept view → counter_of state ≤ start + done + 1 → IsSoundView view → IsFirst view handle
    → IfSome new_state (λ slots. IsRenewed slots new_view.items (number_of_session handle))
    → HasNewContext (counter_of state) view.items new_view.items (number_of_session handle)
    → IfSome new_state (λ slots. Progress slots new_view.items start most (done + 1))
goes_on state None view new_view handle start most done stand new_stand rest progress more wide few safe first renewed fresh = tt
goes_on None (Some new) view new_view handle start most done stand new_stand rest progress more wide few safe first renewed fresh = absurd cc
goes_on (Some slots) (Some new) view new_view handle start most done stand new_stand rest progress more wide few safe first renewed fresh =
    let items = view.items in
    let new_items = new_view.items in
    let number = number_of_session handle in
    let oldest = oldest_of slots view handle safe stand first in
    let this = named_is items handle oldest.named in
    let saved = ap is_saved_item (sym this) ∙ oldest.saved in
    let had = has_last (item_at items number) saved in
    let n = had.0 in
    let least : oldest_number items ≡ Some n = sym oldest.oldest ∙ ap number_of_item this ∙ had.1 in
    let gap : gap_of slots ≡ slots.counter - n = ap (gap_from slots.counter) (oldest_told slots view stand ∙ least) in
    let wide_told : renewal_gap slots.numbers ≤ gap_of slots = omega (arith, wide, gap_told slots view stand, renewal_told slots view [] stand) in
    let old : n < start = omega (arith, progress.most_is, wide_told, gap, few, more, stand.sound.range.gap_least) in
    let young : slots.counter ≤ renewed.last = fresh.later renewed.last renewed.number_is in
    let rises = progress.rises in
    let falls = count_falls (λ item. is_old start item) (λ item. is_old start item) items new_items number None (new_stand.count ∙ sym stand.count)
    (number_inside items number n had.1)
    (λ other is.
    let kept = older_some start (number_of_item (item_at new_items other)) is in
    let was = fresh.lower other kept.0 kept.1 (omega (arith, kept.2)) in
    older_is start kept.0 (number_of_item (item_at items other)) was kept.2)
    (older_is start n (number_of_item (item_at items number)) had.1 old)
    (younger_is start renewed.last (number_of_item (item_at new_items number)) renewed.number_is (omega arith)) in
    record {
      rises = omega (arith, renewed.latest);
      few = omega (arith, falls, progress.few);
      most_is = progress.most_is;
    }

-- ---- what isn't due

-- only a session with a context far below the next one is renewed
pub stays_recent : (state new_state : Option SlotState) (first : List (Option Item)) (view new_view : SessionsView) (handle : ℕ)
    → Stand state view [] → rest_of new_state ≡ rest_of state → IfSome state (λ slots. KeepsRecent slots first view.items) → renewal_gap view.numbers ≤ gap_kept view
    → IsSoundView view → IsFirst view handle → AreKept (number_of_session handle) view.items new_view.items → counter_of state ≤ counter_of new_state
    → IfSome new_state (λ slots. KeepsRecent slots first new_view.items)
stays_recent state None first view new_view handle stand rest held wide safe due others rises = tt
stays_recent None (Some new) first view new_view handle stand rest held wide safe due others rises = absurd cc
stays_recent (Some slots) (Some new) first view new_view handle stand rest held wide safe due others rises = λ number last was near.
    let items = view.items in
    let oldest = oldest_of slots view handle safe stand due in
    let at = number_of_session handle in
    let here : item_at items number ≡ item_at first number =
    held number last was (omega (arith, rises, near, ap renewal_gap (numbers_kept slots new rest))) in
    let is : number_of_item (item_at items number) ≡ Some last = ap number_of_item here ∙ was in
    let this : number_of_item (item_at items at) ≡ oldest_number items =
    ap number_of_item (sym (named_is items handle oldest.named)) ∙ oldest.oldest in
    let apart : number ≢ at = λ same.
    let least : oldest_number items ≡ Some last = sym this ∙ ap (λ (n : ℕ). number_of_item (item_at items n)) (sym same) ∙ is in
    let gap : gap_of slots ≡ slots.counter - last = ap (gap_from slots.counter) (oldest_told slots view stand ∙ least) in
    absurd (omega (
      arith,
      near,
      rises,
      wide,
      gap,
      gap_told slots view stand,
      renewal_told slots view [] stand,
      ap renewal_gap (numbers_kept slots new rest),
    )) in
    others number (ne_eqb number at apart) (is_saved_with (item_at items number) last is) ∙ here

-- ---- the numbers of contexts

-- the first renewal may take two, and each one after it one
pub counter_next : (start now new done : ℕ) → now ≤ start + done + 1 → (done ≡ 0 → now ≡ start) → (1 ≤ done → new ≤ now + 1) → new ≤ now + 2
    → new ≤ start + (done + 1) + 1
counter_next start now new zero few first free most = omega (arith, first refl)
counter_next start now new (suc done) few first free most = omega (arith, free (omega arith))

full_most : (state : Option SlotState) → full_flag state ≤ 1
full_most None = omega arith
full_most (Some slots) = flag_most (loaded_count slots.sessions == slots.numbers.loaded)

-- how far it has risen after so many renewals
abbrev pub IsCounted : Option SlotState → Option SlotState → ℕ → Type 0
IsCounted first state done = IfSome state (λ slots. slots.counter ≡ counter_of first + done + min done (full_flag first))

pub counted_first : (state : Option SlotState) → IsCounted state state 0
counted_first None = tt
counted_first (Some slots) = omega arith

free_flag : (state : Option SlotState) → AreFree state 1 → full_flag state ≡ 0
free_flag None free = refl
free_flag (Some slots) free =
    flag_false (loaded_count slots.sessions == slots.numbers.loaded)
    (ne_eqb (loaded_count slots.sessions) slots.numbers.loaded (λ same. absurd (omega (arith, free, same))))

pub counted_next : (first state new_state : Option SlotState) (done : ℕ) → IsCounted first state done → (done ≡ 0 → state ≡ first)
    → (1 ≤ done → AreFree state 1) → rest_of new_state ≡ rest_of state
    → IfSome new_state (λ slots. slots.counter ≡ counter_of state + full_flag state + 1) → IsCounted first new_state (done + 1)
counted_next first state None done held same free rest more = tt
counted_next first None (Some new) done held same free rest more = absurd cc
counted_next first (Some slots) (Some new) zero held same free rest more =
    omega (arith, more, ap counter_of (same refl), ap full_flag (same refl), full_most first)
counted_next first (Some slots) (Some new) (suc done) held same free rest more =
    omega (arith, held, more, free_flag (Some slots) (free (omega arith)), full_most first)

-- ---- what is sent

-- two commands for a renewal, and one more for the first one
pub sent_next : (start now new done kept : ℕ) → now ≤ start + 2 * done + min done 1 → new ≤ now + 2 + kept → kept ≤ 1 → (1 ≤ done → kept ≡ 0)
    → new ≤ start + 2 * (done + 1) + min (done + 1) 1
sent_next start now new zero kept few more one none = omega (arith, few, more, one)
sent_next start now new (suc done) kept few more one none = omega (arith, few, more, none (omega arith))

-- another session is saved first where no place is free, by what is kept
pub kept_most : (view : SessionsView) → full_kept view ≤ 1
kept_most view = flag_most (loaded_items view.items == view.numbers.loaded)

pub kept_none : (view : SessionsView) → IsSoundView view → length view.order < view.numbers.loaded → full_kept view ≡ 0
kept_none view sound few = kept_free view (omega (arith, few, sound.lists.count))

-- where no place was free, the first renewal saved the session that was used least recently
pub order_start : (view : SessionsView) → view.order ≡ drop (min 0 (full_kept view)) view.order
order_start view =
    let none : 0 ≡ min 0 (full_kept view) = omega arith in
    ap (λ (n : ℕ). drop n view.order) none

pub order_next : (first view new_view : SessionsView) (done : ℕ) → view.order ≡ drop (min done (full_kept first)) first.order
    → (done ≡ 0 → view ≡ first) → (1 ≤ done → full_kept view ≡ 0) → new_view.order ≡ drop (full_kept view) view.order
    → new_view.order ≡ drop (min (done + 1) (full_kept first)) first.order
order_next first view new_view zero held same none is =
    let count : full_kept first ≡ min (zero + 1) (full_kept first) = omega (arith, kept_most first) in
    is ∙ ap (λ (v : SessionsView). drop (full_kept v) v.order) (same refl) ∙ ap (λ (n : ℕ). drop n first.order) count
order_next first view new_view (suc done) held same none is =
    let count : min (suc done) (full_kept first) ≡ min (suc done + 1) (full_kept first) = omega (arith, kept_most first) in
    is ∙ ap (λ (n : ℕ). drop n view.order) (none (omega arith)) ∙ held ∙ ap (λ (n : ℕ). drop n first.order) count

-- so few were saved at the start: no more than may be active, and than there are numbers
pub record AreFew (saved : ℕ) (numbers : Numbers) : Type 0 where
  pub active : saved ≤ numbers.active
  pub all : saved ≤ SESSION_NUMBERS

pub few_saved : (first view : SessionsView) → IsSoundView view → holders view.items ≡ holders first.items → view.numbers ≡ first.numbers
    → AreFew (saved_items first.items) first.numbers
few_saved first view sound same numbers =
    let few : saved_items first.items ≤ first.numbers.active = omega (
      arith,
      sound.few,
      some_split first.items,
      some_moved first.items view.items same,
      ap (λ (n : Numbers). n.active) numbers,
    ) in
    record { active = few; all = omega (arith, few, sound.range.active_most, ap (λ (n : Numbers). n.active) numbers) }

pub few_all : (most saved done : ℕ) (numbers : Numbers) → most ≡ saved → most ≤ done → (1 ≤ done → AreFew saved numbers) → AreFew saved numbers
few_all most saved zero numbers is all few = record { active = omega (arith, is, all); all = omega (arith, is, all) }
few_all most saved (suc done) numbers is all few = few (omega arith)

-- ---- the gap

pub narrow_kept : (state : Option SlotState) (view : SessionsView) → Stand state view [] → IsSoundView view → gap_first view < renewal_gap view.numbers
    → IsNarrow state
narrow_kept None view stand sound narrow = tt
narrow_kept (Some slots) view stand sound narrow =
    omega (arith, narrow, first_risen view sound.saved stand.rise, gap_told slots view stand, renewal_told slots view [] stand)

gap_most : (counter start : ℕ) (oldest : Option ℕ) → ((n : ℕ) → oldest ≡ Some n → start ≤ n) → gap_from counter oldest ≤ counter - start
gap_most counter start None above = omega arith
gap_most counter start (Some n) above = omega (arith, above n refl)

none_old : (start : ℕ) (items : List (Option Item)) → old_items start items ≡ 0 → (n : ℕ) → oldest_number items ≡ Some n → start ≤ n
none_old start items none n is =
    let there = (items_least items).there n is in
    elim (cases_lt n start) [
      | inl below ↦ absurd (omega (
        arith,
        none,
        count_one (λ item. is_old start item) items there.0 None (number_inside items there.0 n there.1),
        flag_true (is_old start (item_at items there.0)) (older_is start n (number_of_item (item_at items there.0)) there.1 below),
      ))
      | inr more ↦ more
    ]

-- once all that were saved are renewed
pub narrow_all : (state : Option SlotState) (view : SessionsView) (start most done : ℕ) → Stand state view []
    → IfSome state (λ slots. Progress slots view.items start most done) → most ≤ done → counter_of state ≤ start + done + 1 → IsNarrow state
narrow_all None view start most done stand progress all few = tt
narrow_all (Some slots) view start most done stand progress all few =
    let none : old_items start view.items ≡ 0 = omega (arith, progress.few) in
    omega (
      arith,
      progress.few,
      progress.most_is,
      few,
      ap (gap_from slots.counter) (oldest_told slots view stand),
      gap_most slots.counter start (oldest_number view.items) (none_old start view.items none),
      stand.sound.range.gap_least,
    )

-- ---- the records that are visited

-- one for the first of the saved sessions, ten for its renewal, and six more for the first renewal
pub steps_next : (start now mid new done kept : ℕ) → now ≤ start + 11 * done + 6 * min done 1 → mid ≤ now + 1 → new ≤ mid + 10 + 6 * kept → kept ≤ 1
    → (1 ≤ done → kept ≡ 0) → new ≤ start + 11 * (done + 1) + 6 * min (done + 1) 1
steps_next start now mid new zero kept few one more most none = omega (arith, few, one, more, most)
steps_next start now mid new (suc done) kept few one more most none = omega (arith, few, one, more, none (omega arith))

pub steps_last : (start now mid done : ℕ) → now ≤ start + 11 * done + 6 * min done 1 → mid ≤ now + 1 → mid ≤ start + 12 * done + 6
steps_last start now mid zero few one = omega (arith, few, one)
steps_last start now mid (suc done) few one = omega (arith, few, one)

-- and from below: one for the first of them, and four for its renewal
pub counts_next : (start now mid new done weight : ℕ) → start + done * (5 * weight) ≤ now → now + weight ≤ mid → mid + 4 * weight ≤ new
    → start + (done + 1) * (5 * weight) ≤ new
counts_next start now mid new done weight many one more =
    let next : done + 1 ≡ suc done = omega arith in
    omega (arith, many, one, more, ap (λ (n : ℕ). n * (5 * weight)) next ∙ suc-mul done (5 * weight))

pub counts_all : (start now done most weight : ℕ) → start + done * (5 * weight) ≤ now → done ≡ most → start + most * (5 * weight) ≤ now
counts_all start now done most weight many is = subst (λ (n : ℕ). start + n * (5 * weight) ≤ now) is many

pub visited_failed : (old new most : ℕ) (result : Result ℕ SwapError) (e : SwapError) → result ≡ Err e → new ≤ old + 12 * most + 6
    → Visited old new most result
visited_failed old new most (Ok renewed) e failed few = absurd cc
visited_failed old new most (Err x) e failed few = few
