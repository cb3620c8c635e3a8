-- What the moves of objects cost: commands, and contexts that weren't kept yet.
use Rattle.std.proofs.Common.{◌≡◌, ◌+◌, ◌<◌, ◌≤◌, ℕ, Bool, true, false, List, length, get_or, set, refl, ap, ◌∙◌, arith}
use Rattle.std.specs.Prelude.{Some, None, Result, Ok, Err, OnErr, OnOk, if◌then◌else◌}
use Rattle.std.proofs.lemmas.List.{map-set}
use Rattle.tab_spec.specs.declared.contexts.ContextLimits.{ContextLimits}
use Rattle.device_port.specs.Device.{Seen, sent_of}
use Rattle.device_port.specs.Own.{Asks, AsksSome}
use Rattle.device_port.specs.declared.own.SwapError.{SwapError}
use Rattle.object_swap.specs.declared.record.Record.{Record}
use Rattle.object_swap.specs.Items.{Item, is_resident, is_unsaved, item_at, no_item, unsaved}
use Rattle.object_swap.specs.Moves.{CostsOne}
use Rattle.object_swap.specs.Records.{ListsFlags, item_of, items_of, number, residency}
use Rattle.object_swap.proofs.Counts.{count_set}
use Rattle.object_swap.proofs.Listed.{get_or_any, item_listed}
use Rattle.object_swap.proofs.Recorded.{inside_items, item_there, out_item, saved_item}

pub sent_one : {D A : Type 0} {contexts : ContextLimits} (seen : D → Seen) (a b : D) (command : List ℕ) (result : Result A SwapError) → Asks contexts seen a b command result
    → sent_of (seen b) ≤ sent_of (seen a) + 1
sent_one seen a b command result asks = omega (arith, asks.once)

-- a call that gives another value
pub some_ok : {D A B : Type 0} (contexts : ContextLimits) (seen : D → Seen) (old new : D) (x : A) (y : B) → AsksSome contexts seen old new (Ok x) → AsksSome contexts seen old new (Ok y)
some_ok contexts seen old new x y asks = record {
  own = asks.own;
  answered = asks.answered;
  all = asks.all;
  before = tt;
  cause = tt;
  base = asks.base;
  count = asks.count;
}

pub none_if_failed : {A E : Type 0} (P : Type 0) (result : Result A E) (e : E) → result ≡ Err e → OnOk result P
none_if_failed P (Ok a) e failed = absurd cc
none_if_failed P (Err x) e failed = tt

pub on_err_all : {A E : Type 0} (P : Type 0) (result : Result A E) → P → OnErr result P
on_err_all P (Ok a) p = tt
on_err_all P (Err e) p = p

-- what follows from two outcomes
pub on_ok_with : {A E P Q R : Type 0} (result : Result A E) → (P → Q → R) → OnOk result P → OnOk result Q → OnOk result R
on_ok_with (Ok a) both p q = both p q
on_ok_with (Err e) both p q = tt

-- ---- how many residents have no context, where one record changes

unsaved_changed : (records : List Record) (index : ℕ) (d n : Record) → index < length records
    → unsaved (items_of (set records index n)) + number (is_unsaved (item_of (get_or records index d)))
    ≡ unsaved (items_of records) + number (is_unsaved (item_of n))
unsaved_changed records index d n inside =
    omega (
      arith,
      ap unsaved (map-set item_of records index n),
      count_set is_unsaved (items_of records) index (item_of n) no_item (inside_items records index inside),
      ap (λ (i : Item). number (is_unsaved i)) (item_there records index d inside),
    )

kept_number : (r : Record) (handle : ℕ) (kept : Bool) → r.handle ≡ Some handle → r.kept ≡ kept → number (is_unsaved (item_of r)) ≡ (if kept then 0 else 1)
kept_number r handle true handle_is kept_is = ap (λ (i : Item). number (is_unsaved i)) (saved_item r handle true handle_is kept_is)
kept_number r handle false handle_is kept_is = ap (λ (i : Item). number (is_unsaved i)) (saved_item r handle false handle_is kept_is)

out_number : (r : Record) (kept : Bool) → r.handle ≡ None → r.kept ≡ kept → number (is_unsaved (item_of r)) ≡ 0
out_number r kept handle_is kept_is = ap (λ (i : Item). number (is_unsaved i)) (out_item r kept handle_is kept_is)

-- one is saved
pub unsaved_fewer : (records : List Record) (index handle : ℕ) (d n : Record) → index < length records → (get_or records index d).handle ≡ Some handle
    → (get_or records index d).kept ≡ false → n.handle ≡ Some handle → n.kept ≡ true → unsaved (items_of (set records index n)) + 1 ≡ unsaved (items_of records)
unsaved_fewer records index handle d n inside handle_is kept_is handle_new kept_new =
    omega (
      arith,
      unsaved_changed records index d n inside,
      kept_number (get_or records index d) handle false handle_is kept_is,
      kept_number n handle true handle_new kept_new,
    )

-- one with a context is flushed
pub unsaved_same : (records : List Record) (index handle : ℕ) (d n : Record) → index < length records → (get_or records index d).handle ≡ Some handle
    → (get_or records index d).kept ≡ true → n.handle ≡ None → unsaved (items_of (set records index n)) ≡ unsaved (items_of records)
unsaved_same records index handle d n inside handle_is kept_is handle_new =
    omega (
      arith,
      unsaved_changed records index d n inside,
      kept_number (get_or records index d) handle true handle_is kept_is,
      out_number n n.kept handle_new refl,
    )

-- one without a context
pub unsaved_one : (records : List Record) (index handle : ℕ) (d : Record) → index < length records → (get_or records index d).handle ≡ Some handle
    → (get_or records index d).kept ≡ false → number (is_unsaved (item_at (items_of records) index)) ≡ 1
unsaved_one records index handle d inside handle_is kept_is =
    ap (λ (i : Item). number (is_unsaved i)) (item_there records index d inside) ∙ kept_number (get_or records index d) handle false handle_is kept_is

-- the one that leaves next, which stayed so far
pub number_listed : (items : List Item) (records : List Record) (indices : List ℕ) (at : ℕ) → ListsFlags (residency records) indices
    → ((index : ℕ) → is_resident (item_at (items_of records) index) ≡ true → item_at (items_of records) index ≡ item_at items index) → at < length indices
    → number (is_unsaved (item_at (items_of records) (get_or indices at 0))) ≡ number (is_unsaved (item_at items (get_or indices at 0)))
number_listed items records indices at lists kept inside =
    let index = get_or indices at 0 in
    ap (λ (i : Item). number (is_unsaved i)) (kept index (item_listed records indices at index lists inside (get_or_any indices at 0 index inside)).slot)

-- ---- sums

-- a save, and then a flush or what failed of it
pub costs_then : {D : Type 0} (seen : D → Seen) (a b c : D) (xs ys zs : List Record) (first both : ℕ) → first + 1 ≡ both → CostsOne seen a b xs ys first
    → unsaved (items_of zs) ≡ unsaved (items_of ys) → sent_of (seen c) ≤ sent_of (seen b) + 1 → CostsOne seen a c xs zs both
costs_then seen a b c xs ys zs first both is costs same sent =
    record { sent = omega (arith, is, costs.sent, sent); saved = omega (arith, costs.saved, same) }
