use Rattle.std.proofs.Common.{◌≡◌, ◌≤◌, ◌+◌, ℕ, ◌<◌, true, false, drop, take, get_or}
use Rattle.std.specs.Prelude.{Ok, vec_capacity}
use Rattle.device_port.specs.Device.{sent_of}
use Rattle.device_port.specs.Own.{AsksSome}
use Rattle.device_port.specs.Use.{all_used, is_among}
use Rattle.object_swap.specs.Items.{AreResident, is_resident, item_at, missing, residents}
use Rattle.object_swap.specs.Records.{ListsResidents, items_of, residency}
use Rattle.object_swap.specs.Moves.{Swaps}
use Rattle.object_swap.proofs.residents.fill_slots.Given as goal

abbrev pub invariant-loop-item : goal.invariant-loop-item
invariant-loop-item g l =
    let D = g.D.Device in
    let items = items_of l.fn.records in
    let new_items = items_of l.records in
    record {
      swaps : Swaps D.CONTEXTS D.seen l.fn.device l.device l.fn.records l.records;
      listed : ListsResidents l.records l.loaded.items (vec_capacity l.loaded);
      filled : (k : ℕ) → k < l.item-index → get_or (residency l.records) (get_or l.needed k 0) false ≡ true;
      stay : (index : ℕ) → is_resident (item_at items index) ≡ true → item_at new_items index ≡ item_at items index;
      others : (index : ℕ) → is_among l.needed index ≡ false → item_at new_items index ≡ item_at items index;
      order : l.loaded.items ≡ all_used l.fn.loaded.items (take l.item-index l.needed);
      left : missing (drop l.item-index l.needed) new_items + residents new_items ≡ missing l.needed items + residents items;
      sent : sent_of (D.seen l.device) ≤ sent_of (D.seen l.fn.device) + l.item-index;
      paid : sent_of (D.seen l.device) + residents items ≤ sent_of (D.seen l.fn.device) + residents new_items;
      idle : AreResident l.needed items → (l.device ≡ l.fn.device) × (l.records ≡ l.fn.records);
      asks : AsksSome {A = Unit {0}} D.CONTEXTS D.seen l.fn.device l.device (Ok tt);
    }
