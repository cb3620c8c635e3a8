use Rattle.std.proofs.Common.{◌≡◌, ◌≤◌, All}
use Rattle.cancel_words.specs.View.{of_reader}
use Rattle.connection_tests.proofs.words.raise_to_each.Given as goal

abbrev pub invariant-loop-number : goal.invariant-loop-number
invariant-loop-number l =
    (l.reader.word ≡ l.fn.reader.word) × (l.reader.role ≡ of_reader) × All (λ n. n ≤ l.number) l.reader.raised
