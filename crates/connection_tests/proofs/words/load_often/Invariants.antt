use Rattle.std.proofs.Common.{◌≡◌}
use Rattle.cancel_words.specs.View.{of_worker}
use Rattle.connection_tests.proofs.words.load_often.Given as goal

abbrev pub invariant-loop : goal.invariant-loop
invariant-loop l =
    (l.worker.word ≡ l.fn.worker.word) × (l.worker.role ≡ of_worker)
