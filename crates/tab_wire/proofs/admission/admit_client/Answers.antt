use Rattle.std.proofs.Common.{sym}
use Rattle.tab_spec.specs.Commands.{row_of}
use Rattle.tab_wire.proofs.Shaped.{frame_of_row}
use Rattle.tab_wire.proofs.admission.admit_client.Goals as goal

pub admit-requires-clause-frame : goal.admit-requires-clause-frame
admit-requires-clause-frame g c = frame_of_row row_of c.args.bytes.now c.in_ok-command_row.field-0 (sym c.in_ok-command_row.ensures.value)
