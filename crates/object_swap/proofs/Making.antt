-- What making room for objects comes to: some leave their slots, and then those that are needed come into theirs.
use Rattle.std.proofs.Common.{◌≡◌, ◌+◌, ◌-◌, ◌≤◌, ℕ, suc, Bool, true, false, List, [], ◌∷◌, length, take, refl, ap, subst, sym, ◌∙◌, arith}
use Rattle.std.specs.Prelude.{min, not, ◌&&◌, is_some, Option, Some, None, Result, Ok, Err}
use Rattle.std.specs.List.{count_by}
use Rattle.std.proofs.lemmas.Result.{on_err_weaker, on_ok_weaker}
use Rattle.device_spec.specs.Slots.{SlotState}
use Rattle.device_port.specs.Device.{Seen, sent_of}
use Rattle.device_port.specs.Use.{all_used, first_unneeded, is_among, without_first}
use Rattle.device_port.specs.declared.own.SwapError.{SwapError}
use Rattle.object_swap.specs.declared.record.Record.{Record}
use Rattle.object_swap.specs.Items.{AreResident, Item, KeepsContexts, KeepsObjects, MakesRoom, counter_of, evictions, is_resident, is_unsaved, is_vacant, item_at, missing, no_item, pending_of, residents, rest_of, unsaved, unsaved_of}
use Rattle.object_swap.specs.Moves.{Evicts, Fills, KeepsStanding}
use Rattle.object_swap.specs.Records.{ListsFlags, NoMore, items_of, number, residency, view_of}
use Rattle.object_swap.proofs.Costs.{none_if_failed, on_err_all}
use Rattle.object_swap.proofs.Counts.{count_cons, number_most}
use Rattle.object_swap.proofs.Flags.{none_true}
use Rattle.object_swap.proofs.Listed.{counted_flags, lists_items, vacant_again}
use Rattle.object_swap.proofs.Missing.{missing_none, missing_same}

-- ---- contexts that weren't kept yet

one_unsaved : (x y : Item) (resident : Bool) → is_resident x ≡ resident → (is_resident x ≡ true → y ≡ x) → number (is_unsaved x) ≤ number (is_unsaved y)
one_unsaved x y true is same = omega (arith, ap (λ (i : Item). number (is_unsaved i)) (same is))
one_unsaved x y false is same = omega (arith, ap (λ (b : Bool). number (b && not (is_some x.blob))) is)

-- a resident that stays needs one still
unsaved_stay : (items new_items : List Item) → ((index : ℕ) → is_resident (item_at items index) ≡ true → item_at new_items index ≡ item_at items index)
    → unsaved items ≤ unsaved new_items
unsaved_stay [] new_items stay = omega arith
unsaved_stay (x ∷ items) [] stay =
    omega (
      arith,
      count_cons is_unsaved x items,
      one_unsaved x no_item (is_resident x) refl (stay 0),
      unsaved_stay items [] (λ index is. stay (suc index) is),
    )
unsaved_stay (x ∷ items) (y ∷ new_items) stay =
    omega (
      arith,
      count_cons is_unsaved x items,
      count_cons is_unsaved y new_items,
      one_unsaved x y (is_resident x) refl (stay 0),
      unsaved_stay items new_items (λ index is. stay (suc index) is),
    )

one_still : (slot blob new_slot new_blob : Bool) → (not new_slot && not new_blob) ≡ (not slot && not blob) → (blob ≡ true → new_blob ≡ true)
    → (slot ≡ true → number (new_slot && not new_blob) ≡ number (slot && not blob)) → number (new_slot && not new_blob) ≤ number (slot && not blob)
one_still true blob new_slot new_blob vacant kept stay = omega (arith, stay refl)
one_still false true false new_blob vacant kept stay = omega arith
one_still false true true true vacant kept stay = omega arith
one_still false true true false vacant kept stay = let no = kept refl in absurd cc
one_still false false false new_blob vacant kept stay = omega arith
one_still false false true new_blob vacant kept stay = absurd cc

still_some : (blob new_blob : Option (List ℕ)) → ((context : List ℕ) → blob ≡ Some context → new_blob ≡ Some context) → is_some blob ≡ true → is_some new_blob ≡ true
still_some None new_blob kept is = absurd cc
still_some (Some context) new_blob kept is = ap (λ (o : Option (List ℕ)). is_some o) (kept context refl)

still_unsaved : (x y : Item) → is_vacant y ≡ is_vacant x → ((context : List ℕ) → x.blob ≡ Some context → y.blob ≡ Some context) → (is_resident x ≡ true → y ≡ x)
    → number (is_unsaved y) ≤ number (is_unsaved x)
still_unsaved x y vacant kept stay =
    one_still (is_some x.slot) (is_some x.blob) (is_some y.slot) (is_some y.blob) vacant (still_some x.blob y.blob kept)
    (λ is. ap (λ (i : Item). number (is_unsaved i)) (stay is))

-- where objects come into slots, none needs one that didn't
unsaved_still : (items new_items : List Item) → ((index : ℕ) → is_vacant (item_at new_items index) ≡ is_vacant (item_at items index))
    → KeepsContexts items new_items → ((index : ℕ) → is_resident (item_at items index) ≡ true → item_at new_items index ≡ item_at items index)
    → unsaved new_items ≤ unsaved items
unsaved_still items [] vacant kept stay = omega arith
unsaved_still [] (y ∷ new_items) vacant kept stay =
    omega (
      arith,
      count_cons is_unsaved y new_items,
      still_unsaved no_item y (vacant 0) (kept 0) (stay 0),
      unsaved_still [] new_items (λ index. vacant (suc index)) (λ index. kept (suc index)) (λ index is. stay (suc index) is),
    )
unsaved_still (x ∷ items) (y ∷ new_items) vacant kept stay =
    omega (
      arith,
      count_cons is_unsaved x items,
      count_cons is_unsaved y new_items,
      still_unsaved x y (vacant 0) (kept 0) (stay 0),
      unsaved_still items new_items (λ index. vacant (suc index)) (λ index. kept (suc index)) (λ index is. stay (suc index) is),
    )

-- the number of the next context rises with each that is made
counter_by : (state new_state : Option SlotState) (items new_items : List Item) (out : ℕ) → rest_of new_state ≡ rest_of state
    → pending_of new_state new_items ≡ pending_of state items → unsaved items ≤ unsaved new_items + out → counter_of new_state ≤ counter_of state + out
counter_by state None items new_items out same pending saved = omega arith
counter_by None (Some new) items new_items out same pending saved = absurd cc
counter_by (Some slots) (Some new) items new_items out same pending saved = omega (arith, pending, saved)

-- ---- sums

full_by : (old lost slots new_slots left mid new : ℕ) → lost + new_slots ≤ slots → left ≡ slots - new_slots - lost → mid ≡ min old left → new ≡ mid + lost
    → new + (old + lost + new_slots - slots) ≡ old + lost
full_by old lost slots new_slots left mid new few is mid_is count = omega (arith, few, is, mid_is, count)

cost_by : (sent mid_sent new_sent out saves loads : ℕ) → mid_sent ≤ sent + out + saves → new_sent ≤ mid_sent + loads → new_sent ≤ sent + (out + saves + loads)
cost_by sent mid_sent new_sent out saves loads cleared filled = omega (arith, cleared, filled)

-- one that was in a slot all the time, whether it is needed or not
same_by : (x y z : Item) (among : Bool) → (among ≡ true → y ≡ x) → (is_resident y ≡ true → y ≡ x) → (is_resident y ≡ true → z ≡ y) → (among ≡ false → z ≡ y)
    → is_resident x ≡ true → is_resident z ≡ true → z ≡ x
same_by x y z true stay kept filled other here there =
    let first = stay refl in
    filled (ap is_resident first ∙ here) ∙ first
same_by x y z false stay kept filled other here there =
    let last = other refl in
    last ∙ kept (ap is_resident (sym last) ∙ there)

-- the order after some left and some were used
used_then : (needed used loaded mid new : List ℕ) (gone out : ℕ) → mid ≡ without_first gone needed loaded → gone ≡ out → new ≡ all_used mid used
    → new ≡ all_used (without_first out needed loaded) used
used_then needed used loaded mid new gone out left same is =
    is ∙ ap (λ (l : List ℕ). all_used l used) left ∙ ap (λ (n : ℕ). all_used (without_first n needed loaded) used) same

-- how many leave, where so many may be left
pub record Leaves (needed : List ℕ) (slots new_slots left : ℕ) (items : List Item) : Type 0 where
  pub left_is : left ≡ slots - new_slots - missing needed items
  pub fits : missing needed items + new_slots ≤ slots
  pub some : missing needed items ≤ length needed
  pub few : residents items ≤ slots

-- residents that leave, and then those that come
pub room_made : {D : Type 0} (seen : D → Seen) (a b c : D) (needed : List ℕ) (slots new_slots left : ℕ) (xs ys zs : List Record) (loaded mid new : List ℕ)
    (result : Result (Unit {0}) SwapError) → Leaves needed slots new_slots left (items_of xs) → Evicts seen a b xs ys loaded mid needed left (Ok tt)
    → Fills seen b c ys zs mid new needed result → KeepsObjects (seen b).state (seen c).state (items_of ys) (items_of zs)
    → KeepsStanding (seen a).state (seen c).state (items_of xs) (items_of zs) [] → ListsFlags (residency zs) new
    → MakesRoom seen a c needed new_slots (view_of xs loaded slots) (view_of zs new slots) result
room_made seen a b c needed slots new_slots left xs ys zs loaded mid new result leaves cleared filled objects keeps lists =
    let lost_is = missing_same needed (items_of xs) (items_of ys) cleared.stay in
    let none : AreResident needed (items_of xs) → missing needed (items_of xs) ≡ 0 = missing_none needed (items_of xs) in
    let out = evictions needed new_slots (view_of xs loaded slots) in
    let saves = unsaved_of (items_of xs) (first_unneeded out needed loaded) in
    let out_is : residents (items_of xs) - left ≡ out = omega (arith, leaves.left_is, leaves.fits) in
    let saves_are = ap (λ (n : ℕ). unsaved_of (items_of xs) (first_unneeded n needed loaded)) out_is in
    let still = unsaved_still (items_of ys) (items_of zs) (vacant_again (items_of ys) (items_of zs) objects.owners) objects.kept filled.stay in
    record {
      sent = cost_by (sent_of (seen a)) (sent_of (seen b)) (sent_of (seen c)) out saves (missing needed (items_of xs))
          (omega (arith, cleared.sent, out_is, saves_are)) (omega (arith, filled.sent, lost_is));
      few = omega (arith, leaves.few);
      full = on_ok_weaker result
          (λ more. full_by (residents (items_of xs)) (missing needed (items_of xs)) slots new_slots left (residents (items_of ys)) (residents (items_of zs))
          leaves.fits leaves.left_is cleared.left (omega (arith, more, lost_is))) filled.count;
      rest = λ none index here.
          let same = (cleared.idle (omega (arith, none, out_is))).1 in
          filled.stay index (ap (λ (l : List Record). is_resident (item_at (items_of l) index)) same ∙ here)
          ∙ ap (λ (l : List Record). item_at (items_of l) index) same;
      same = on_ok_weaker result
          (λ count index here there. same_by (item_at (items_of xs) index) (item_at (items_of ys) index) (item_at (items_of zs) index) (is_among needed index)
          (cleared.stay index) (cleared.kept index) (filled.stay index) (filled.others index) here there) filled.count;
      idle = λ all room.
          let first = cleared.idle (omega (arith, room, out_is)) in
          let second = filled.idle (subst (λ (l : List Record). AreResident needed (items_of l)) (sym first.1) all) in
          (second.0 ∙ first.0, ap items_of (second.1 ∙ first.1), second.2);
      order = on_ok_weaker result
          (λ used. used_then needed needed loaded mid new (residents (items_of xs) - left) out cleared.order out_is used) filled.order;
      failed = on_err_weaker result
          (λ some. (
            out,
            some.0,
            omega arith,
            used_then needed (take some.0 needed) loaded mid new (residents (items_of xs) - left) out cleared.order out_is some.1,
            omega (arith, cleared.spends, still, some.2, out_is),
          )) filled.failed;
      listed = lists_items zs new lists;
      counter = omega (
        arith,
        counter_by (seen a).state (seen c).state (items_of xs) (items_of zs) (residents (items_of xs) - left) keeps.rest keeps.pending
            (omega (arith, cleared.saved, unsaved_stay (items_of ys) (items_of zs) filled.stay)),
        out_is,
        leaves.few,
        leaves.some,
      );
    }

-- where not all of them left that had to
pub room_failed : {D : Type 0} (seen : D → Seen) (a b : D) (needed : List ℕ) (slots new_slots left : ℕ) (xs ys : List Record) (loaded mid : List ℕ)
    (result : Result (Unit {0}) SwapError) (e : SwapError) → Leaves needed slots new_slots left (items_of xs)
    → Evicts seen a b xs ys loaded mid needed left (Err e) → KeepsStanding (seen a).state (seen b).state (items_of xs) (items_of ys) [] → ListsFlags (residency ys) mid
    → result ≡ Err e → MakesRoom seen a b needed new_slots (view_of xs loaded slots) (view_of ys mid slots) result
room_failed seen a b needed slots new_slots left xs ys loaded mid result e leaves cleared keeps lists failed =
    let out = evictions needed new_slots (view_of xs loaded slots) in
    let saves = unsaved_of (items_of xs) (first_unneeded out needed loaded) in
    let out_is : residents (items_of xs) - left ≡ out = omega (arith, leaves.left_is, leaves.fits) in
    let saves_are = ap (λ (n : ℕ). unsaved_of (items_of xs) (first_unneeded n needed loaded)) out_is in
    record {
      sent = cost_by (sent_of (seen a)) (sent_of (seen b)) (sent_of (seen b)) out saves (missing needed (items_of xs))
          (omega (arith, cleared.sent, out_is, saves_are)) (omega arith);
      few = omega (arith, leaves.few);
      full = none_if_failed _ result e failed;
      rest = λ none index here. ap (λ (l : List Record). item_at (items_of l) index) (cleared.idle (omega (arith, none, out_is))).1;
      same = none_if_failed _ result e failed;
      idle = λ all room. let no = (cleared.idle (omega (arith, room, out_is))).2 in absurd cc;
      order = none_if_failed _ result e failed;
      failed = on_err_all _ result (
        cleared.failed.0,
        0,
        omega (arith, cleared.failed.1, out_is),
        cleared.failed.2,
        omega (arith, cleared.failed.3),
      );
      listed = lists_items ys mid lists;
      counter = omega (
        arith,
        counter_by (seen a).state (seen b).state (items_of xs) (items_of ys) (residents (items_of xs) - left) keeps.rest keeps.pending cleared.saved,
        out_is,
        leaves.few,
        leaves.some,
      );
    }

-- ---- no more in slots than there are slots

one_less : (flag new : Bool) → (flag ≡ false → new ≡ false) → number new ≤ number flag
one_less true new less = number_most new
one_less false new less = omega (arith, ap number (less refl))

no_more_by : (flags new_flags : List Bool) → NoMore flags new_flags → count_by (λ flag. flag) new_flags ≤ count_by (λ flag. flag) flags
no_more_by flags [] less = omega arith
no_more_by [] (new ∷ new_flags) less = omega (arith, none_true (new ∷ new_flags) (λ index. less index refl))
no_more_by (flag ∷ flags) (new ∷ new_flags) less =
    omega (
      arith,
      count_cons (λ (flag : Bool). flag) flag flags,
      count_cons (λ (flag : Bool). flag) new new_flags,
      one_less flag new (less 0),
      no_more_by flags new_flags (λ index. less (suc index)),
    )

-- where some left
pub residents_less : (records new_records : List Record) → NoMore (residency records) (residency new_records)
    → residents (items_of new_records) ≤ residents (items_of records)
residents_less records new_records less =
    omega (
      arith,
      no_more_by (residency records) (residency new_records) less,
      counted_flags (items_of records),
      counted_flags (items_of new_records),
    )
