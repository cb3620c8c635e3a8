use Rattle.std.proofs.Common.{◌≡◌, ◌≤◌, ℕ, zero, suc, Option, None, Some, refl, arith}
use Rattle.std.proofs.lemmas.Bool.Decides.{nat_tests}
use Rattle.broker_tests.specs.Examples.{first_table, three_items}
use Rattle.object_swap.specs.Items.{item_at}
use Rattle.client_machine.specs.Tables.{naming_in}
use Rattle.broker_tests.proofs.examples.tables_name_the_objects_of_their_clients.Goals as goal

once : (index : ℕ) → naming_in index first_table ≤ 1
once zero = omega arith
once (suc zero) = omega arith
once (suc (suc index)) = grind (arith, nat_tests)

named : (index : ℕ) → (item_at three_items index).client ≡ Some 0 → 1 ≤ naming_in index first_table
named zero own = omega arith
named (suc zero) own = omega arith
named (suc (suc zero)) own = absurd (let other : ◌≡◌ {A = Option ℕ} (Some 1) (Some 0) = own in cc)
named (suc (suc (suc index))) own = absurd (let none : ◌≡◌ {A = Option ℕ} None (Some 0) = own in cc)

pub returns-clause-own : goal.returns-clause-own
returns-clause-own c = record {
  named = ((record { inside = omega arith; there = refl }, refl), (tt, ((record { inside = omega arith; there = refl }, refl), tt)));
  apart = once;
  all = named;
  few = omega arith;
  short = omega arith;
}

pub returns-clause-others : goal.returns-clause-others
returns-clause-others c = λ table. let one : ◌≡◌ {A = Option ℕ} (Some 0) (Some 1) = table.named.0.1 in absurd (cc one)

pub returns-clause-twice : goal.returns-clause-twice
returns-clause-twice c = λ table. absurd (omega (arith, table.apart 1))

pub returns-clause-missing : goal.returns-clause-missing
returns-clause-missing c = λ table. absurd (omega (arith, table.named.0.0.inside))

pub returns-clause-unnamed : goal.returns-clause-unnamed
returns-clause-unnamed c = λ table. absurd (omega (arith, table.all 0 refl))
