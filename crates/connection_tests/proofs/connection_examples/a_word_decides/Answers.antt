use Rattle.std.proofs.Common.{◌≡◌, ℕ, Some, None, refl, arith}
use Rattle.history_spec.specs.declared.EntryKind.TheVariants.{Command, Canceled}
use Rattle.connection_tests.specs.Book.{book_entry}
use Rattle.connection_tests.proofs.connection_examples.a_word_decides.Goals as goal

same : (a b : ℕ) → Some a ≡ Some b → a ≡ b
same a b is = cc

none : (a : ℕ) → Some a ≡ None → ⊥
none a is = cc is

none_first : (a : ℕ) → None ≡ Some a → ⊥
none_first a is = cc is

pub returns-clause-further : goal.returns-clause-further
returns-clause-further c decides = absurd (omega (arith, same 1 2 (decides (book_entry 0 1 (Canceled 1) (Some 0)) refl)))

pub returns-clause-uncovered : goal.returns-clause-uncovered
returns-clause-uncovered c decides = none 1 (decides (book_entry 0 1 (Canceled 1) (Some 0)) refl)

pub returns-clause-covered : goal.returns-clause-covered
returns-clause-covered c decides = none_first 1 (decides (book_entry 0 1 Command (Some 1)) refl)
