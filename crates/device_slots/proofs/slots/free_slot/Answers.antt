use Rattle.std.proofs.Common.{◌≡◌, ◌≤◌, ◌∙◌, subst, sym, length, rules}
use Rattle.std.specs.Prelude.{is_none}
use Rattle.std.proofs.lemmas.Iterator.{YieldsList-from_slice}
use Rattle.std.proofs.lemmas.Iterator.Search.{position_from_yields_List}
use Rattle.device_slots.proofs.FreeSlots.{found_free, free_within}
use Rattle.device_spec.specs.Slots.{free_slot}
use Rattle.device_slots.specs.Views.{slots_of}
use borrow.Author.Tests.{tests}
use Rattle.device_slots.proofs.slots.free_slot.Goals as goal

found : (c : goal.After-unwrap_or) → c.unwrap_or.result ≡ free_slot (slots_of c.args.slots.now)
found c =
    let slots = c.args.slots.now in
    c.unwrap_or.ensures
    ∙ found_free slots c.position.result
    (position_from_yields_List is_none _ _ c.position.result c.position.ensures.ran (YieldsList-from_slice slots c.iter.ensures.rest) (λ x b q k. search (rules, tests)))

pub returns-clause-value : goal.returns-clause-value
returns-clause-value c = found c

pub returns-clause-most : goal.returns-clause-most
returns-clause-most c = subst (λ n. n ≤ length c.args.slots.now) (sym (found c)) (free_within c.args.slots.now)
