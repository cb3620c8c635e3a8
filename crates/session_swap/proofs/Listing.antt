-- The lists of the loaded sessions and of the saved ones.
use Rattle.std.proofs.Common.{◌≡◌, ◌≢◌, ◌<◌, ◌≤◌, inl, inr, ℕ, zero, suc, Bool, true, false, List, [], ◌∷◌, ◌++◌, length, get_or, set, replicate, refl, ap, subst, sym, ◌∙◌, arith, length-append, length-set, set-set}
use Rattle.std.specs.Prelude.{◌==◌, not, slice_get, Option, Some, None, is_some, Result, Ok, Err, OnOk, OnErr}
use Rattle.std.specs.List.{count_by, remove}
use Rattle.std.proofs.lemmas.Bool.{cases_eq, cases_lt, eq-eqb, false≢true, ne_eqb}
use Rattle.std.proofs.lemmas.List.{get_or-set_other, get_or-set_same, get_or_past, length-map, map-set, set-get_or, set_past}
use Rattle.std.proofs.lemmas.Option.{get_or_from_slice_get, slice_get_within}
use Rattle.std.proofs.lemmas.List.Edits.{length-remove}
use Rattle.std.proofs.lemmas.List.Sums.{sum_by-remove, sum_by_push}
use Rattle.tab_spec.specs.declared.numbers.Numbers.{Numbers}
use Rattle.tab_spec.specs.Numbers.{AreInRange}
use Rattle.tab_spec.specs.declared.TheConstants.{SESSION_NUMBERS}
use Rattle.tab_spec.specs.declared.contexts.ContextLimits.{ContextLimits}
use Rattle.device_port.specs.Use.{used_after, without_one}
use Rattle.session_swap.specs.declared.record.Record.{Record}
use Rattle.session_swap.specs.Items.{Item, Lists, ListsThose, flag, is_loaded_item, is_saved_item, item_at, no_items}
use Rattle.session_swap.specs.Records.{AreListed, IsSoundView, ListsIn, OrderView, item_of_record, items_of, order_in, order_out, order_used, order_without, whole_view}
use Rattle.session_swap.proofs.Among.{loaded_inside, not_loaded}
use Rattle.session_swap.proofs.Counts.{count_cons, count_one, count_set, flag_false, flag_true, is_true}
use Rattle.session_swap.proofs.Uses.{stands, without_less}

abbrev names : ℕ → ℕ → Bool
names number one = one == number

names_this : (number : ℕ) → flag (names number number) ≡ 1
names_this number = flag_true (number == number) (eq-eqb number number refl)

names_other : (number one : ℕ) → one ≢ number → flag (names number one) ≡ 0
names_other number one apart = flag_false (one == number) (ne_eqb one number apart)

-- ---- the sessions of one sort

module _ (is : Option Item → Bool) (nothing : is None ≡ false) where
  there_inside : (items : List (Option Item)) (number : ℕ) → is (item_at items number) ≡ true → number < length items
  there_inside items number there =
      elim (cases_lt number (length items)) [
        | inl inside ↦ inside
        | inr past ↦ absurd (false≢true (sym nothing ∙ ap is (sym (get_or_past items number None past)) ∙ there))
      ]

  -- what is listed is of this sort
  pub listed_is : (items : List (Option Item)) (numbers : List ℕ) (at d : ℕ) → ListsThose is numbers items → at < length numbers
      → is (item_at items (get_or numbers at d)) ≡ true
  listed_is items numbers at d lists inside =
      let number = get_or numbers at d in
      is_true (is (item_at items number))
      (omega (arith, count_one (names number) numbers at d inside, names_this number, lists.each number))

  -- and what isn't isn't listed
  pub not_listed : (items : List (Option Item)) (numbers : List ℕ) (number : ℕ) → ListsThose is numbers items → is (item_at items number) ≡ false
      → count_by (λ one. one == number) numbers ≡ 0
  not_listed items numbers number lists out = lists.each number ∙ flag_false (is (item_at items number)) out

  pub listed_once : (items : List (Option Item)) (numbers : List ℕ) (number : ℕ) → ListsThose is numbers items → is (item_at items number) ≡ true
      → count_by (λ one. one == number) numbers ≡ 1
  listed_once items numbers number lists there = lists.each number ∙ flag_true (is (item_at items number)) there

  -- where the item of a number changes, and is of this sort as before or not
  pub lists_same : (items : List (Option Item)) (numbers : List ℕ) (number : ℕ) (item : Option Item) → ListsThose is numbers items
      → is item ≡ is (item_at items number) → ListsThose is numbers (set items number item)
  lists_same items numbers number item lists same =
      elim (cases_lt number (length items)) [
        | inl inside ↦ record {
          each = λ n. elim (cases_eq n number) [
            | inl equal ↦ omega (
              arith,
              lists.each n,
              ap (λ (n : ℕ). flag (is (item_at items n))) equal,
              ap (λ (n : ℕ). flag (is (item_at (set items number item) n))) equal,
              ap (λ (o : Option Item). flag (is o)) (get_or-set_same items number item None inside),
              ap flag same,
            )
            | inr apart ↦ lists.each n ∙ ap (λ (o : Option Item). flag (is o)) (sym (get_or-set_other items number n item None apart))
          ];
          count = omega (arith, lists.count, count_set is items number item None inside, ap flag same);
        }
        | inr past ↦ subst (λ (l : List (Option Item)). ListsThose is numbers l) (sym (set_past items number item past)) lists
      ]

  lists_removed : (items : List (Option Item)) (numbers : List ℕ) (at : ℕ) (item : Option Item) → ListsThose is numbers items → at < length numbers
      → is item ≡ false → ListsThose is (remove numbers at) (set items (get_or numbers at 0) item)
  lists_removed items numbers at item lists inside out =
      let number = get_or numbers at 0 in
      let was = listed_is items numbers at 0 lists inside in
      let fits = there_inside items number was in
      record {
        each = λ n. elim (cases_eq n number) [
          | inl equal ↦ omega (
            arith,
            lists.each n,
            sum_by-remove (λ (one : ℕ). flag (names n one)) numbers at 0 inside,
            ap (λ (n : ℕ). flag (names n number)) equal,
            names_this number,
            ap (λ (n : ℕ). flag (is (item_at items n))) equal,
            flag_true (is (item_at items number)) was,
            ap (λ (n : ℕ). flag (is (item_at (set items number item) n))) equal,
            ap (λ (o : Option Item). flag (is o)) (get_or-set_same items number item None fits),
            flag_false (is item) out,
          )
          | inr apart ↦ omega (
            arith,
            lists.each n,
            sum_by-remove (λ (one : ℕ). flag (names n one)) numbers at 0 inside,
            names_other n number (λ e. apart (sym e)),
            ap (λ (o : Option Item). flag (is o)) (get_or-set_other items number n item None apart),
          )
        ];
        count = omega (
          arith,
          lists.count,
          length-remove numbers at inside,
          count_set is items number item None fits,
          flag_true (is (item_at items number)) was,
          flag_false (is item) out,
        );
      }

  none_by : (items : List (Option Item)) (numbers : List ℕ) (number : ℕ) → ListsThose is numbers items → count_by (names number) numbers ≡ 0
      → (there : Bool) → is (item_at items number) ≡ there → is (item_at items number) ≡ false
  none_by items numbers number lists none true there =
      absurd (omega (arith, lists.each number, none, flag_true (is (item_at items number)) there))
  none_by items numbers number lists none false there = there

  -- one more, which wasn't of this sort
  pub lists_pushed : (items : List (Option Item)) (numbers : List ℕ) (number : ℕ) (item : Option Item) → ListsThose is numbers items
      → is (item_at items number) ≡ false → number < length items → is item ≡ true
      → ListsThose is (numbers ++ number ∷ []) (set items number item)
  lists_pushed items numbers number item lists was fits there = record {
    each = λ n. elim (cases_eq n number) [
      | inl same ↦ omega (
        arith,
        lists.each n,
        sum_by_push (λ (one : ℕ). flag (names n one)) numbers number,
        ap (λ (n : ℕ). flag (names n number)) same,
        names_this number,
        ap (λ (n : ℕ). flag (is (item_at items n))) same,
        flag_false (is (item_at items number)) was,
        ap (λ (n : ℕ). flag (is (item_at (set items number item) n))) same,
        ap (λ (o : Option Item). flag (is o)) (get_or-set_same items number item None fits),
        flag_true (is item) there,
      )
      | inr apart ↦ omega (
        arith,
        lists.each n,
        sum_by_push (λ (one : ℕ). flag (names n one)) numbers number,
        names_other n number (λ e. apart (sym e)),
        ap (λ (o : Option Item). flag (is o)) (get_or-set_other items number n item None apart),
      )
    ];
    count = omega (
      arith,
      lists.count,
      length-append numbers (number ∷ []),
      count_set is items number item None fits,
      flag_false (is (item_at items number)) was,
      flag_true (is item) there,
    );
  }

  -- a session isn't of this sort any more
  pub lists_without : (items : List (Option Item)) (numbers : List ℕ) (number : ℕ) (item : Option Item) → ListsThose is numbers items
      → is item ≡ false → ListsThose is (without_one number numbers) (set items number item)
  lists_without items numbers number item lists out =
      elim (stands number numbers) [
        | inl none ↦ subst (λ (l : List ℕ). ListsThose is l (set items number item)) (sym none.1)
            (lists_same items numbers number item lists
            (out ∙ sym (none_by items numbers number lists none.0 (is (item_at items number)) refl)))
        | inr found ↦ subst (λ (l : List ℕ). ListsThose is l (set items number item)) (sym found.3)
            (subst (λ (n : ℕ). ListsThose is (remove numbers found.0) (set items n item)) found.2
            (lists_removed items numbers found.0 item lists found.1 out))
      ]

  -- one is at the end, whether it was listed or not
  pub lists_used : (items : List (Option Item)) (numbers : List ℕ) (number : ℕ) (item : Option Item) → ListsThose is numbers items
      → number < length items → is item ≡ true → ListsThose is (used_after numbers number) (set items number item)
  lists_used items numbers number item lists fits there =
      subst (λ (l : List (Option Item)). ListsThose is (used_after numbers number) l) (set-set items number None item)
      (lists_pushed (set items number None) (without_one number numbers) number item (lists_without items numbers number None lists nothing)
      (ap is (get_or-set_same items number None None fits) ∙ nothing)
      (omega (arith, length-set {A = Option Item} items number None, fits)) there)

  none_there : (count number : ℕ) → is (item_at (replicate count None) number) ≡ false
  none_there zero number = nothing
  none_there (suc count) zero = nothing
  none_there (suc count) (suc number) = none_there count number

  none_counted : (count : ℕ) → count_by is (replicate count None) ≡ 0
  none_counted zero = refl
  none_counted (suc count) = omega (arith, count_cons is None (replicate count None), flag_false (is None) nothing, none_counted count)

  -- none is listed at first
  pub none_listed : ListsThose is [] no_items
  none_listed = record {
    each = λ number. sym (flag_false (is (item_at no_items number)) (none_there SESSION_NUMBERS number));
    count = sym (none_counted SESSION_NUMBERS);
  }

-- ---- the loaded ones

pub listed_loaded : (items : List (Option Item)) (numbers : List ℕ) (at d : ℕ) → Lists numbers items → at < length numbers
    → is_loaded_item (item_at items (get_or numbers at d)) ≡ true
listed_loaded items numbers at d lists inside = listed_is is_loaded_item refl items numbers at d lists inside

-- one that stands in the list
pub listed_there : (items : List (Option Item)) (numbers : List ℕ) (at number : ℕ) → Lists numbers items → slice_get numbers at ≡ Some number
    → is_loaded_item (item_at items number) ≡ true
listed_there items numbers at number lists there =
    ap (λ (n : ℕ). is_loaded_item (item_at items n)) (sym (get_or_from_slice_get numbers at number 0 there))
    ∙ listed_loaded items numbers at 0 lists (slice_get_within numbers at number there)

pub unlisted : (items : List (Option Item)) (numbers : List ℕ) (number : ℕ) → Lists numbers items → is_loaded_item (item_at items number) ≡ false
    → count_by (λ one. one == number) numbers ≡ 0
unlisted items numbers number lists out = not_listed is_loaded_item refl items numbers number lists out

pub unsaved_by : (item : Option Item) → is_loaded_item item ≡ true → is_saved_item item ≡ false
unsaved_by None there = absurd cc
unsaved_by (Some item) there = by (is_some item.saved) there
  where
    by : (saved : Bool) → not saved ≡ true → saved ≡ false
    by true there = absurd cc
    by false there = refl

-- ---- results

pub on_err_weaker : {A E P Q : Type 0} (r : Result A E) → (P → Q) → OnErr r P → OnErr r Q
on_err_weaker (Ok a) weaker p = tt
on_err_weaker (Err e) weaker p = weaker p

pub on_err_both : {A E : Type 0} (r : Result A E) (P Q : Type 0) {R : Type 0} → (P → Q → R) → OnErr r P → OnErr r Q → OnErr r R
on_err_both (Ok a) P Q f p q = tt
on_err_both (Err e) P Q f p q = f p q

pub on_err_all : {A E : Type 0} (P : Type 0) (r : Result A E) → P → OnErr r P
on_err_all P (Ok a) p = tt
on_err_all P (Err e) p = p

pub none_if_failed : {A E : Type 0} (P : Type 0) (r : Result A E) (e : E) → r ≡ Err e → OnOk r P
none_if_failed P (Ok a) e failed = absurd cc
none_if_failed P (Err x) e failed = tt

-- ---- over the items of records

-- nothing changed
pub listed_still : {numbers : Numbers} (records new_records : List Record) (order new_order : OrderView) → items_of new_records ≡ items_of records → new_order ≡ order
    → ListsIn numbers records order → ListsIn numbers new_records new_order
listed_still records new_records order new_order same still listed = record {
  range = listed.range;
  lists = subst (λ (l : List (Option Item)). Lists new_order.loaded l) (sym same)
      (subst (λ (o : OrderView). Lists o.loaded (items_of records)) (sym still) listed.lists);
  most = omega (arith, ap (λ (o : OrderView). length o.loaded) still, listed.most);
  saved = subst (λ (l : List (Option Item)). ListsThose is_saved_item new_order.saved l) (sym same)
      (subst (λ (o : OrderView). ListsThose is_saved_item o.saved (items_of records)) (sym still) listed.saved);
}

-- the item of one record changes, and is loaded or saved as before
pub listed_set : {numbers : Numbers} (records : List Record) (order : OrderView) (number : ℕ) (r : Record) → ListsIn numbers records order
    → is_loaded_item (item_of_record r) ≡ is_loaded_item (item_at (items_of records) number)
    → is_saved_item (item_of_record r) ≡ is_saved_item (item_at (items_of records) number) → ListsIn numbers (set records number r) order
listed_set records order number r listed loaded saved =
    let same = sym (map-set item_of_record records number r) in
    record {
      range = listed.range;
      lists = subst (λ (l : List (Option Item)). Lists order.loaded l) same
          (lists_same is_loaded_item refl (items_of records) order.loaded number (item_of_record r) listed.lists loaded);
      most = listed.most;
      saved = subst (λ (l : List (Option Item)). ListsThose is_saved_item order.saved l) same
          (lists_same is_saved_item refl (items_of records) order.saved number (item_of_record r) listed.saved saved);
    }

-- what is listed of these items, in this order
pub lists_then : (numbers : Numbers) (records new_records : List Record) (order new_order : OrderView) (items : List (Option Item)) → items_of new_records ≡ items
    → new_order ≡ order → Lists order.loaded items → ListsThose is_saved_item order.saved items → length order.loaded ≤ numbers.loaded
    → AreInRange numbers → ListsIn numbers new_records new_order
lists_then numbers records new_records order new_order items items_are is lists saved most range =
    subst (λ (o : OrderView). ListsIn numbers new_records o) (sym is) (record {
      lists = subst (λ (l : List (Option Item)). Lists order.loaded l) (sym items_are) lists;
      range = range;
      most = most;
      saved = subst (λ (l : List (Option Item)). ListsThose is_saved_item order.saved l) (sym items_are) saved;
    })

-- a session is gone
pub listed_gone : {numbers : Numbers} (records new_records : List Record) (order new_order : OrderView) (number : ℕ) → ListsIn numbers records order
    → items_of new_records ≡ set (items_of records) number None → new_order ≡ order_without number order → ListsIn numbers new_records new_order
listed_gone records new_records order new_order number listed items_are is =
    let items = items_of records in
    lists_then _ records new_records (order_without number order) new_order (set items number None) items_are is
    (lists_without is_loaded_item refl items order.loaded number None listed.lists refl)
    (lists_without is_saved_item refl items order.saved number None listed.saved refl)
    (omega (arith, without_less number order.loaded, listed.most)) listed.range

-- a loaded session is saved
pub listed_out : {numbers : Numbers} (records new_records : List Record) (order new_order : OrderView) (number : ℕ) (item : Option Item) → ListsIn numbers records order
    → is_loaded_item (item_at (items_of records) number) ≡ true → items_of new_records ≡ set (items_of records) number item
    → is_saved_item item ≡ true → new_order ≡ order_out number order → ListsIn numbers new_records new_order
listed_out records new_records order new_order number item listed was items_are saved is =
    let items = items_of records in
    lists_then _ records new_records (order_out number order) new_order (set items number item) items_are is
    (lists_without is_loaded_item refl items order.loaded number item listed.lists (not_loaded item saved))
    (lists_pushed is_saved_item refl items order.saved number item listed.saved (unsaved_by (item_at items number) was)
    (loaded_inside items number was) saved)
    (omega (arith, without_less number order.loaded, listed.most)) listed.range

-- one more is loaded, and used
pub listed_in : {numbers : Numbers} (records new_records : List Record) (order new_order : OrderView) (number : ℕ) (item : Option Item) → ListsIn numbers records order
    → length order.loaded < numbers.loaded → number < length records → items_of new_records ≡ set (items_of records) number item
    → is_loaded_item item ≡ true → new_order ≡ order_in number order → ListsIn numbers new_records new_order
listed_in records new_records order new_order number item listed few fits items_are there is =
    let items = items_of records in
    lists_then _ records new_records (order_in number order) new_order (set items number item) items_are is
    (lists_used is_loaded_item refl items order.loaded number item listed.lists (omega (arith, fits, length-map records item_of_record)) there)
    (lists_without is_saved_item refl items order.saved number item listed.saved (unsaved_by item there))
    (omega (arith, length-append (without_one number order.loaded) (number ∷ []), without_less number order.loaded, few)) listed.range

-- one that is loaded is used again: the list gets no longer
pub listed_again : {numbers : Numbers} (records : List Record) (order new_order : OrderView) (number : ℕ) → ListsIn numbers records order
    → is_loaded_item (item_at (items_of records) number) ≡ true → new_order ≡ order_used number order → ListsIn numbers records new_order
listed_again records order new_order number listed there is =
    let items = items_of records in
    let lists = subst (λ (l : List (Option Item)). Lists (used_after order.loaded number) l) (set-get_or items number None)
    (lists_used is_loaded_item refl items order.loaded number (item_at items number) listed.lists (loaded_inside items number there) there) in
    lists_then _ records records (order_used number order) new_order items refl is lists listed.saved
    (omega (arith, lists.count, listed.lists.count, listed.most)) listed.range

-- where a session was saved or not
pub listed_saved : {A E : Type 0} {numbers : Numbers} (r : Result A E) (records new_records : List Record) (order new_order : OrderView) (number : ℕ) → ListsIn numbers records order
    → is_loaded_item (item_at (items_of records) number) ≡ true
    → OnOk r ((item : Option Item) × (items_of new_records ≡ set (items_of records) number item) × (is_saved_item item ≡ true))
    → OnErr r (items_of new_records ≡ items_of records) → OnOk r (new_order ≡ order_out number order) → OnErr r (new_order ≡ order)
    → ListsIn numbers new_records new_order
listed_saved (Ok a) records new_records order new_order number listed was ok err out still =
    listed_out records new_records order new_order number ok.0 listed was ok.1 ok.2 out
listed_saved (Err e) records new_records order new_order number listed was ok err out still =
    listed_still records new_records order new_order err still listed

-- what is seen of all that is kept
pub sound_view : {contexts : ContextLimits} (numbers : Numbers) (records : List Record) (next held : ℕ) (order : OrderView) (left : List ℕ)
    → AreListed contexts numbers records order left held → IsSoundView (whole_view numbers records next order left contexts)
sound_view numbers records next held order left kept = record {
  range = kept.listed.range;
  count = omega (arith, length-map records item_of_record, kept.sound.count);
  lists = kept.listed.lists;
  most = omega (arith, kept.listed.most, kept.listed.lists.count);
  saved = kept.listed.saved;
  left = kept.left_are;
  few = kept.few;
}
