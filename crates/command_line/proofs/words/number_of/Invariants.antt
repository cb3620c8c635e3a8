use Rattle.std.proofs.Common.{◌≡◌, ◌<◌, ◌^◌, drop}
use Rattle.std.specs.List.{fold, list_all}
use Rattle.script_spec.specs.Script.{is_digit, number_of}
use Rattle.command_line.proofs.NumberLemmas.{next_number}
use Rattle.command_line.proofs.words.number_of.Given as goal

abbrev pub invariant-loop-digit : goal.invariant-loop-digit
invariant-loop-digit l = (number_of l.digits ≡ fold next_number l.number (drop l.digit-index l.digits)) × (list_all is_digit l.digits ≡ list_all is_digit (drop l.digit-index l.digits)) × (l.number < 2 ^ 64)
