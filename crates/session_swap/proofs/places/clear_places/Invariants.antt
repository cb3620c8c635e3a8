use Rattle.std.proofs.Common.{◌≡◌, ◌≤◌, ◌+◌, ◌-◌, ℕ, true}
use Rattle.std.specs.Prelude.{Ok, length, min}
use Rattle.tab_spec.specs.declared.numbers.Numbers.{Numbers}
use Rattle.device_port.specs.Device.{sent_of}
use Rattle.device_port.specs.Own.{AsksSome}
use Rattle.device_port.specs.Use.{is_among}
use Rattle.session_swap.specs.Items.{Names, counter_of, item_of, loaded_items, numbers_of}
use Rattle.session_swap.specs.Records.{items_of, order_evicted}
use Rattle.session_swap.specs.Moves.{ReadyIn, Swaps}
use Rattle.session_swap.proofs.places.clear_places.Given as goal

abbrev pub invariant-loop-records : goal.invariant-loop-records
invariant-loop-records g l =
    let D = g.D.Device in
    let items = items_of l.fn.records in
    let new_items = items_of l.records in
    record {
      swaps : Swaps D.seen l.fn.device l.device l.fn.records l.records;
      ready : (numbers : Numbers) → ReadyIn D.CONTEXTS (D.seen l.fn.device).state numbers l.fn.records l.fn.next l.fn.order
          → ReadyIn D.CONTEXTS (D.seen l.device).state numbers l.records l.next l.order;
      left : counter_of (D.seen l.device).state + loaded_items new_items ≤ counter_of (D.seen l.fn.device).state + loaded_items items;
      stay : (handle : ℕ) → Names items handle → is_among l.needed handle ≡ true → item_of new_items handle ≡ item_of items handle;
      least : min (loaded_items items) l.most ≤ loaded_items new_items;
      less : loaded_items new_items ≤ loaded_items items;
      order : l.order ≡ order_evicted (loaded_items items - loaded_items new_items) (numbers_of l.needed) l.fn.order;
      sent : sent_of (D.seen l.device) + loaded_items new_items ≤ sent_of (D.seen l.fn.device) + loaded_items items;
      idle : loaded_items items ≤ l.most → (l.device ≡ l.fn.device) × (l.records ≡ l.fn.records) × (l.next ≡ l.fn.next);
      asks : AsksSome {A = Unit {0}} D.CONTEXTS D.seen l.fn.device l.device (Ok tt);
    }

abbrev pub decreases-loop-records : goal.decreases-loop-records
decreases-loop-records g l = length l.order.loaded
