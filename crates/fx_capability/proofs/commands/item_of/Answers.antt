use Rattle.std.proofs.Common.{refl, sym, arith}
use Rattle.tab_spec.specs.Commands.{all_commands}
use Rattle.fx_capability.proofs.Codes.{commands_found, commands_skip, row_code}
use Rattle.fx_capability.proofs.commands.item_of.Goals as goal

pub command_item-requires : goal.command_item-requires
command_item-requires c = omega (arith, c.requires, row_code c.args.code all_commands c.in-Some.row (sym c.in-Some.ensures.value))

pub returns-in-Some : goal.returns-in-Some
returns-in-Some c =
    rw (c.command_item.ensures.bytes, c.command_item.ensures.key)
    (commands_found c.args.code all_commands c.in-Some.row refl (sym c.in-Some.ensures.value))

pub returns-in-None : goal.returns-in-None
returns-in-None c = commands_skip c.args.code all_commands refl (sym c.in-None.ensures.value)
