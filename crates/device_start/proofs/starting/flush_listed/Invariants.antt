use Rattle.std.proofs.Common.{List, Ok}
use Rattle.device_spec.specs.Answers.{listed_handles}
use Rattle.device_port.specs.Device.{Transmission}
use Rattle.device_port.specs.Own.{AsksSome}
use Rattle.device_port.proofs.Listing.{rest_of}
use Rattle.device_start.specs.Start.{Flushes}
use Rattle.device_start.proofs.Left.{LeftIf}
use Rattle.device_start.proofs.starting.flush_listed.Given as goal

abbrev pub invariant-loop-place : goal.invariant-loop-place
invariant-loop-place g l = record {
  asks : AsksSome {A = Unit {0}} g.D.Device.CONTEXTS g.D.Device.seen l.fn.device l.device (Ok tt);
  flushed : (new : List Transmission) → Flushes (rest_of l.count l.place l.list) (g.D.Device.seen l.device).trace new
      → Flushes (listed_handles l.list) (g.D.Device.seen l.fn.device).trace new;
  left : LeftIf (listed_handles l.list) (rest_of l.count l.place l.list) (g.D.Device.seen l.fn.device).state (g.D.Device.seen l.device).state;
}
