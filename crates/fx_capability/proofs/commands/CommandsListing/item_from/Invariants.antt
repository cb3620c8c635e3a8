use Rattle.std.proofs.Common.{◌≡◌}
use Rattle.tab_spec.specs.Commands.{all_commands}
use Rattle.effect_spec.specs.Capabilities.{command_items}
use Rattle.fx_capability.proofs.commands.CommandsListing.item_from.Given as goal

-- no number so far is a command's code
abbrev pub invariant-loop-code : goal.invariant-loop-code
invariant-loop-code l = command_items all_commands l.least ≡ command_items all_commands l.code
