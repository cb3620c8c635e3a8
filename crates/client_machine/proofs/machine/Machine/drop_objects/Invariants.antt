use Rattle.std.proofs.Common.{◌≡◌, ◌+◌, ◌*◌, ◌≤◌, ℕ}
use Rattle.std.specs.Prelude.{Ok, Some}
use Rattle.device_port.specs.Device.{sent_of}
use Rattle.object_swap.specs.Items.{owner_at}
use Rattle.client_machine.specs.Costs.{own_objects, own_residents}
use Rattle.client_machine.specs.Dropping.{Disowns, Drops}
use Rattle.client_machine.specs.Settled.{Settled}
use Rattle.client_machine.proofs.Dropping.{objects_left}
use Rattle.client_machine.proofs.machine.Machine.drop_objects.Given as goal

abbrev pub invariant-loop-item : goal.invariant-loop-item
invariant-loop-item g l =
    let D = g.D.Device in
    let C = g.C.Visits in
    record {
      drops : (client : ℕ) → owner_at l.fn.self.held.objects.owners l.list ≡ Some client
          → (failed : ℕ)
          × Drops D.CONTEXTS D.seen client l.fn.self.device l.self.device l.fn.self.held l.self.held l.fn.self.held.objects.owners failed;
      settled : Settled (D.seen l.self.device).state l.self.held;
      lists : l.self.held.objects.owners ≡ l.fn.self.held.objects.owners;
      rest : l.self.held.sessions ≡ l.fn.self.held.sessions;
      disowns : Disowns {A = ℕ} D.CONTEXTS D.seen l.fn.self.device l.self.device l.fn.self.held l.self.held (Ok 0);
      costs : (client : ℕ) → owner_at l.fn.self.held.objects.owners l.list ≡ Some client
          → sent_of (D.seen l.self.device) + own_residents client l.self.held.objects.items
          ≤ sent_of (D.seen l.fn.self.device) + own_residents client l.fn.self.held.objects.items;
      steps : (client : ℕ) → owner_at l.fn.self.held.objects.owners l.list ≡ Some client
          → C.count l.steps + 6 * own_objects client l.self.held.objects.items
          ≤ C.count l.fn.steps + 6 * own_objects client l.fn.self.held.objects.items;
      counted : (client : ℕ) → owner_at l.fn.self.held.objects.owners l.list ≡ Some client
          → C.count l.fn.steps + 3 * (C.weight * own_objects client l.fn.self.held.objects.items)
          ≤ C.count l.steps + 3 * (C.weight * own_objects client l.self.held.objects.items);
    }

-- how many the client of the list has
abbrev pub decreases-loop-item : goal.decreases-loop-item
decreases-loop-item g l = objects_left (owner_at l.fn.self.held.objects.owners l.list) l.self.held.objects.items
