use Rattle.std.proofs.Common.{[], arith}
use Rattle.history_laws.proofs.Opened.{kept_least, opened_most}
use Rattle.history_laws.proofs.numbers.kept_journals_have_numbers.Goals as goal

pub returns : goal.returns
returns c limit history most room =
    record { bytes = room; number = omega (arith, most, room, kept_least history, opened_most (record { opened = 0; present = [] }) history) }
