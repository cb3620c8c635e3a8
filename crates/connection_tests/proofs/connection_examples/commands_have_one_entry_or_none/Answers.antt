use Rattle.std.proofs.Common.{◌≡◌, ℕ, List, [], ◌∷◌, Option, Some, None, length, get_or, refl, ap, inl, inr, ⊎_elim, arith}
use Rattle.history_spec.specs.declared.EntryKind.TheVariants.{Command}
use Rattle.history_spec.specs.Entry.{Entry, close_entry, open_entry}
use Rattle.connection_tests.specs.Book.{asked, book_entry, one_client, with_limit}
use Rattle.connection_core.specs.Links.{AreEntriesFrom}
use Rattle.connection_core.proofs.Entering.{entry_for}
use Rattle.connection_tests.proofs.connection_examples.commands_have_one_entry_or_none.Goals as goal

pub returns-clause-first : goal.returns-clause-first
returns-clause-first c = inr (
  book_entry 0 1 Command (Some 1),
  [],
  refl,
  record {
    cause = inl refl;
    before = open_entry 0 ∷ [];
    there = (close_entry 0 ∷ [], refl);
    room = omega arith;
  },
  inl refl,
)

pub returns-clause-of_none : goal.returns-clause-of_none
returns-clause-of_none c none = absurd (omega (arith, ap length none))

refused : AreEntriesFrom (with_limit None 4300) one_client 0 2 (asked ∷ []) (book_entry 0 1 Command (Some 1) ∷ []) → ⊥
refused (inl none) = absurd (omega (arith, ap length none))
refused (inr one) =
    let number = (entry_for (with_limit None 4300) one_client 0 2 asked one.0 one.3).number_is in
    let same : 1 ≡ one.0.number = ap (λ (l : List Entry). (get_or l 0 one.0).number) one.2 in
    absurd (omega (arith, number, same))

pub returns-clause-of_another : goal.returns-clause-of_another
returns-clause-of_another c are = refused are
