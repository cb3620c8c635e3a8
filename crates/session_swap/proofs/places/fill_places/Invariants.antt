use Rattle.std.proofs.Common.{◌≡◌, ◌+◌, ◌≤◌, ℕ, ◌<◌, true, get_or, drop, take}
use Rattle.std.specs.Prelude.{Ok}
use Rattle.tab_spec.specs.declared.numbers.Numbers.{Numbers}
use Rattle.device_port.specs.Device.{sent_of}
use Rattle.device_port.specs.Own.{AsksSome}
use Rattle.session_swap.specs.Items.{AreLoaded, counter_of, is_loaded_item, item_at, item_of, loaded_items, missing, numbers_of}
use Rattle.session_swap.specs.Records.{items_of, order_filled}
use Rattle.session_swap.specs.Moves.{CanFill, ReadyIn, Swaps, loadedness}
use Rattle.session_swap.proofs.Missing.{missing_in}
use Rattle.session_swap.proofs.places.fill_places.Given as goal

abbrev pub invariant-loop-handle : goal.invariant-loop-handle
invariant-loop-handle g l =
    let D = g.D.Device in
    let items = items_of l.fn.records in
    let new_items = items_of l.records in
    record {
      swaps : Swaps D.seen l.fn.device l.device l.fn.records l.records;
      ready : (numbers : Numbers) → ReadyIn D.CONTEXTS (D.seen l.fn.device).state numbers l.fn.records l.fn.next l.fn.order
          → CanFill numbers l.fn.records l.needed → ReadyIn D.CONTEXTS (D.seen l.device).state numbers l.records l.next l.order;
      counter : counter_of (D.seen l.device).state ≡ counter_of (D.seen l.fn.device).state;
      filled : (k : ℕ) → k < l.handle-index → is_loaded_item (item_of new_items (get_or l.needed k 0)) ≡ true;
      stay : (number : ℕ) → is_loaded_item (item_at items number) ≡ true → item_at new_items number ≡ item_at items number;
      left : missing_in (drop l.handle-index (numbers_of l.needed)) (loadedness l.records) + loaded_items new_items
          ≡ missing l.needed items + loaded_items items;
      paid : sent_of (D.seen l.device) + loaded_items items ≤ sent_of (D.seen l.fn.device) + loaded_items new_items;
      idle : AreLoaded l.needed items → (l.device ≡ l.fn.device) × (l.records ≡ l.fn.records);
      order : l.order ≡ order_filled (take l.handle-index (numbers_of l.needed)) l.fn.order;
      asks : AsksSome {A = Unit {0}} D.CONTEXTS D.seen l.fn.device l.device (Ok tt);
    }
