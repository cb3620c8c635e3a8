use Rattle.std.proofs.Common.{◌∙◌, sym, ap, rules}
use Rattle.std.specs.Prelude.{not, is_none}
use Rattle.std.proofs.lemmas.Iterator.{YieldsList-from_slice}
use Rattle.std.proofs.lemmas.Iterator.Search.{any_from_yields_List}
use Rattle.device_slots.proofs.FreeSlots.{some_free}
use borrow.Author.Tests.{tests}
use Rattle.device_slots.proofs.slots.is_full.Goals as goal

pub returns : goal.returns
returns c =
    let slots = c.args.slots.now in
    ap not (any_from_yields_List is_none _ _ c.any.result c.any.ensures.ran (YieldsList-from_slice slots c.iter.ensures.rest) (λ x b q k. search (rules, tests)) ∙ sym (some_free slots))
