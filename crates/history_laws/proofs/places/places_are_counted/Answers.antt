use Rattle.std.proofs.Common.{◌≡◌, true}
use Rattle.std.specs.Prelude.{ℕ, Option}
use Rattle.history_laws.proofs.Tables as tables
use Rattle.history_laws.proofs.places.places_are_counted.Goals as goal

pub returns-clause-put : goal.returns-clause-put
returns-clause-put c p x places none = tables.put_by p x places none

pub returns-clause-put_count : goal.returns-clause-put_count
returns-clause-put_count c x places = tables.put_count x places

pub returns-clause-without : goal.returns-clause-without
returns-clause-without c p places handle none there = tables.without_by p places handle none there

pub returns-clause-without_count : goal.returns-clause-without_count
returns-clause-without_count c places handle there = tables.without_count places handle there

pub returns-clause-put_all : goal.returns-clause-put_all
returns-clause-put_all c p x places all is = tables.put_all (λ (place : Option ℕ). p place ≡ true) x places all is

pub returns-clause-without_all : goal.returns-clause-without_all
returns-clause-without_all c p places handle all none = tables.without_all (λ (place : Option ℕ). p place ≡ true) places handle all none

pub returns-clause-held_all : goal.returns-clause-held_all
returns-clause-held_all c p places handle all none = tables.held_all (λ (place : Option ℕ). p place ≡ true) places handle all none

pub returns-clause-at_all : goal.returns-clause-at_all
returns-clause-at_all c p places all none i = tables.at_all (λ (place : Option ℕ). p place ≡ true) places all none i

pub returns-clause-mapped : goal.returns-clause-mapped
returns-clause-mapped c f g places same = tables.mapped f g places same

pub returns-clause-from : goal.returns-clause-from
returns-clause-from c places handle found = tables.from places handle found

pub returns-clause-none_from : goal.returns-clause-none_from
returns-clause-none_from c places none = tables.none_from places none
