use Rattle.std.proofs.Common.{◌≡◌, ◌≤◌, ◌∙◌, subst, sym, length, rules}
use Rattle.std.proofs.lemmas.Iterator.{YieldsList-from_slice}
use Rattle.std.proofs.lemmas.Iterator.Search.{position_from_yields_List}
use Rattle.device_slots.proofs.Numbers.{is_free, found_free, free_within}
use Rattle.device_spec.specs.Slots.{free_number}
use Rattle.device_slots.specs.Views.{places_of}
use borrow.Author.Tests.{tests}
use Rattle.device_slots.proofs.sessions.free_number.Goals as goal

found : (c : goal.After-unwrap_or) → c.unwrap_or.result ≡ free_number (places_of c.args.places.now)
found c =
    let places = c.args.places.now in
    c.unwrap_or.ensures
    ∙ found_free places c.position.result
    (position_from_yields_List is_free _ _ c.position.result c.position.ensures.ran (YieldsList-from_slice places c.iter.ensures.rest) (λ x b q k. search (rules, tests)))

pub returns-clause-value : goal.returns-clause-value
returns-clause-value c = found c

pub returns-clause-most : goal.returns-clause-most
returns-clause-most c = subst (λ n. n ≤ length c.args.places.now) (sym (found c)) (free_within c.args.places.now)
