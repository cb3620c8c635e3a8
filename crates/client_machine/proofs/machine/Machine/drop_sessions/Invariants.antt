use Rattle.std.proofs.Common.{◌≡◌, ◌+◌, ◌≤◌, ℕ}
use Rattle.std.specs.Prelude.{Ok}
use Rattle.std.specs.List.{count_by}
use Rattle.device_port.specs.Device.{sent_of}
use Rattle.session_swap.specs.Items.{is_held, is_owned}
use Rattle.client_machine.specs.Dropping.{Disowns, Drops, KeepsOthers}
use Rattle.client_machine.proofs.machine.Machine.drop_sessions.Given as goal

abbrev pub invariant-loop-number : goal.invariant-loop-number
invariant-loop-number g l =
    let D = g.D.Device in
    record {
      drops : Drops D.CONTEXTS D.seen l.fn.client l.fn.self.device l.self.device l.fn.self.held l.self.held l.fn.self.held.objects.owners l.failed;
      left : count_by (is_owned l.fn.client) l.self.held.sessions.items + l._number ≤ count_by is_held l.fn.self.held.sessions.items;
      few : l.failed ≤ l._number;
      disowns : Disowns {A = ℕ} D.CONTEXTS D.seen l.fn.self.device l.self.device l.fn.self.held l.self.held (Ok 0);
      rest : l.self.held.objects ≡ l.fn.self.held.objects;
      costs : sent_of (D.seen l.self.device) + count_by (is_owned l.fn.client) l.self.held.sessions.items
          ≤ sent_of (D.seen l.fn.self.device) + count_by (is_owned l.fn.client) l.fn.self.held.sessions.items;
      others : KeepsOthers l.fn.client l.fn.self.held.sessions.items l.self.held.sessions.items;
    }
