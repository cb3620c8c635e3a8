use Rattle.std.proofs.Common.{List, length, ap, ◌∙◌}
use Rattle.std.specs.Prelude.{min}
use Rattle.tab_spec.specs.Count.{largest_count}
use Rattle.device_port.specs.Device.{Transmission}
use Rattle.device_port.proofs.Counting.{count_is}
use Rattle.device_port.proofs.trace.Trace.sent.Goals as goal

pub returns-clause-least : goal.returns-clause-least
returns-clause-least c = c.self.invariant ∙ count_is _ ∙ ap (λ (trace : List Transmission). min (length trace) largest_count) c.self.view_is
