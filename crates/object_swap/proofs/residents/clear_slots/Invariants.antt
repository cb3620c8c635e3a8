use Rattle.std.proofs.Common.{◌≡◌, ◌≤◌, ◌+◌, ◌-◌, ℕ, true}
use Rattle.std.specs.Prelude.{Ok, min, vec_capacity, vec_len}
use Rattle.device_port.specs.Device.{sent_of}
use Rattle.device_port.specs.Own.{AsksSome}
use Rattle.device_port.specs.Use.{first_unneeded, is_among, without_first}
use Rattle.object_swap.specs.Items.{is_resident, item_at, residents, unsaved, unsaved_of}
use Rattle.object_swap.specs.Records.{ListsResidents, NoMore, items_of, residency}
use Rattle.object_swap.specs.Moves.{Spends, Swaps}
use Rattle.object_swap.proofs.residents.clear_slots.Given as goal

abbrev pub invariant-loop-loaded : goal.invariant-loop-loaded
invariant-loop-loaded g l =
    let D = g.D.Device in
    let items = items_of l.fn.records in
    let new_items = items_of l.records in
    record {
      swaps : Swaps D.CONTEXTS D.seen l.fn.device l.device l.fn.records l.records;
      listed : ListsResidents l.records l.loaded.items (vec_capacity l.loaded);
      fewer : NoMore (residency l.fn.records) (residency l.records);
      stay : (index : ℕ) → is_among l.needed index ≡ true → item_at new_items index ≡ item_at items index;
      kept : (index : ℕ) → is_resident (item_at new_items index) ≡ true → item_at new_items index ≡ item_at items index;
      order : l.loaded.items ≡ without_first (residents items - residents new_items) l.needed l.fn.loaded.items;
      least : min (residents items) l.most ≤ residents new_items;
      less : residents new_items ≤ residents items;
      sent : sent_of (D.seen l.device) ≤ sent_of (D.seen l.fn.device) + (residents items - residents new_items)
          + unsaved_of items (first_unneeded (residents items - residents new_items) l.needed l.fn.loaded.items);
      saved : unsaved items + residents new_items ≤ unsaved new_items + residents items;
      spends : Spends D.seen l.fn.device l.device l.fn.records l.records (residents items - residents new_items);
      idle : residents items ≤ l.most → (l.device ≡ l.fn.device) × (l.records ≡ l.fn.records);
      asks : AsksSome {A = Unit {0}} D.CONTEXTS D.seen l.fn.device l.device (Ok tt);
    }

abbrev pub decreases-loop-loaded : goal.decreases-loop-loaded
decreases-loop-loaded g l = vec_len l.loaded
