use Rattle.std.proofs.Common.{Some, ap, length, length-set, ◌∙◌}
use Rattle.linked_records.proofs.Chains.{around_length, next_length}
use Rattle.linked_records.proofs.Holding.{from_prev_taken, holds_then, item_taken_then, last_taken_then, next_taken_then}
use Rattle.linked_records.proofs.arena.Arena.carry.Goals as goal

pub set_next-requires-clause-taken : goal.set_next-requires-clause-taken
set_next-requires-clause-taken g c = from_prev_taken _ _ _ _ _ _ _ c.requires.2

pub set_prev-requires-clause-taken : goal.set_prev-requires-clause-taken
set_prev-requires-clause-taken g c = next_taken_then _ _ _ _ _ _ _ c.requires.2 _ c.set_next.ensures.places

pub set_links-requires : goal.set_links-requires
set_links-requires g c = item_taken_then _ _ _ _ _ _ _ c.requires.2 _ _ c.set_next.ensures.places c.set_prev.ensures.places

pub attach-requires-clause-taken : goal.attach-requires-clause-taken
attach-requires-clause-taken g c =
    last_taken_then _ _ _ _ _ _ _ c.requires.2 _ _ c.set_next.ensures.places c.set_prev.ensures.places _ _ _ c.set_next.ensures.ends c.set_prev.ensures.ends
    c.index.ensures _ c.set_links.ensures.places

pub returns-clause-holds : goal.returns-clause-holds
returns-clause-holds g c free lists can =
    holds_then _ _ _ _ _ _ _ can _ _ c.set_next.ensures.places c.set_prev.ensures.places _ _ _ c.set_next.ensures.ends c.set_prev.ensures.ends c.index.ensures
    _ c.set_links.ensures.places _ _ _ c.set_links.ensures.ends c.attach.ensures.places c.attach.ensures.ends

pub returns-clause-count : goal.returns-clause-count
returns-clause-count g c =
    ap length c.attach.ensures.places
    ∙ next_length c.index.result.now.last (Some c.args.item) c.set_links.new.self.places.items
    ∙ ap length c.set_links.ensures.places
    ∙ length-set c.set_prev.new.self.places.items c.args.item _
    ∙ around_length c.args.from.prev c.args.from.next _ _ _ c.set_next.ensures.places c.set_prev.ensures.places
