use Rattle.std.proofs.Common.{[], ◌∷◌, refl, inl, inr, arith}
use Rattle.tab_spec.specs.declared.TheConstants.{RC_CANCELED}
use Rattle.tab_spec.specs.Reply.{error_reply}
use Rattle.history_spec.specs.Entry.{canceled_entry, close_entry, open_entry}
use Rattle.connection_tests.specs.Book.{asked}
use Rattle.connection_tests.proofs.connection_examples.commands_are_canceled.Goals as goal

pub returns-clause-first : goal.returns-clause-first
returns-clause-first c = inr (
  canceled_entry 0 1 1 asked (error_reply RC_CANCELED),
  [],
  refl,
  record {
    cause = inr (inr (1, record { form = refl; covers = omega arith }));
    before = open_entry 0 ∷ [];
    there = (close_entry 0 ∷ [], refl);
    room = omega arith;
  },
  inl refl,
)
