use Rattle.std.proofs.Common.{refl, ◌∙◌, arith}
use Rattle.tab_spec.specs.Commands.{all_commands}
use Rattle.fx_capability.proofs.Codes.{commands_end}
use Rattle.fx_capability.proofs.commands.CommandsListing.item_from.Goals as goal

pub returns : goal.returns
returns c =
    c.loop-code.invariant
    ∙ commands_end 0x18d c.loop-code.code all_commands refl (omega (arith, c.loop-code-test.false, c.from-code-end.ensures))
