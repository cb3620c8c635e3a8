use Rattle.std.proofs.Common.{◌≡◌, ℕ, Some, None, refl}
use Rattle.history_spec.specs.declared.EntryKind.TheVariants.{Canceled}
use Rattle.connection_tests.specs.Book.{book_entry}
use Rattle.connection_tests.proofs.connection_examples.a_seat_has_a_word_for_each_command.Goals as goal

none : (a : ℕ) → Some a ≡ None → ⊥
none a is = cc is

pub returns-clause-another : goal.returns-clause-another
returns-clause-another c decide = none 1 (decide.0 (book_entry 0 1 (Canceled 1) (Some 0)) refl)
