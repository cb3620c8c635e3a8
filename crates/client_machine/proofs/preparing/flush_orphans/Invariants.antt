use Rattle.std.proofs.Common.{◌≡◌, ◌≤◌, ◌+◌, ℕ}
use Rattle.std.specs.Prelude.{Ok, length}
use Rattle.std.specs.List.{count_by}
use Rattle.device_port.specs.Device.{sent_of}
use Rattle.device_port.specs.Own.{AsksSome}
use Rattle.session_swap.specs.Items as sessions
use Rattle.client_machine.specs.Moves.{Clears, FlushesSome}
use Rattle.client_machine.specs.Settled.{orphan_count}
use Rattle.client_machine.proofs.preparing.flush_orphans.Given as goal

abbrev pub invariant-loop-handle : goal.invariant-loop-handle
invariant-loop-handle g l =
    let D = g.D.Device in
    record {
      clears : Clears D.seen l.fn.device l.device l.fn.held l.held;
      asks : AsksSome {A = Unit {0}} D.CONTEXTS D.seen l.fn.device l.device (Ok tt);
      costs : sent_of (D.seen l.device) + orphan_count l.held ≤ sent_of (D.seen l.fn.device) + orphan_count l.fn.held;
      flushed : (count : ℕ) × (count + orphan_count l.held ≡ orphan_count l.fn.held) × FlushesSome D.CONTEXTS D.seen count l.fn.device l.device;
    }

abbrev pub decreases-loop-handle : goal.decreases-loop-handle
decreases-loop-handle g l = count_by sessions.is_orphan l.held.sessions.items

abbrev pub invariant-loop : goal.invariant-loop
invariant-loop g l =
    let D = g.D.Device in
    record {
      clears : Clears D.seen l.fn.device l.device l.fn.held l.held;
      asks : AsksSome {A = Unit {0}} D.CONTEXTS D.seen l.fn.device l.device (Ok tt);
      costs : sent_of (D.seen l.device) + orphan_count l.held ≤ sent_of (D.seen l.fn.device) + orphan_count l.fn.held;
      flushed : (count : ℕ) × (count + orphan_count l.held ≡ orphan_count l.fn.held) × FlushesSome D.CONTEXTS D.seen count l.fn.device l.device;
      none : count_by sessions.is_orphan l.held.sessions.items ≡ 0;
    }

abbrev pub decreases-loop : goal.decreases-loop
decreases-loop g l = length l.held.objects.left
