use Rattle.std.proofs.Common.{◌≡◌, map, length}
use Rattle.std.specs.String.{string_bytes}
use Rattle.std.specs.Option.{option_and_then}
use Rattle.command_line.specs.Words.{gathered, no_settings, settings_of}
use Rattle.command_line.proofs.words.read_settings.Given as goal

-- the options so far, and then those of the rest
abbrev pub invariant-loop-rest : goal.invariant-loop-rest
invariant-loop-rest l =
    option_and_then (gathered no_settings) (settings_of (map string_bytes l.fn.words))
    ≡ option_and_then (gathered l.settings) (settings_of (map string_bytes l.rest))

abbrev pub decreases-loop-rest : goal.decreases-loop-rest
decreases-loop-rest l = length l.rest
