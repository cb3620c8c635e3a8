use Rattle.std.proofs.Common.{arith, vec_capacity, ◌∙◌}
use Rattle.linked_records.proofs.Changes.{can_open, given_back, some_room, spare_back}
use Rattle.linked_records.proofs.Holding.{opened_fresh, opened_last, opened_then}
use Rattle.linked_records.proofs.Seen.{held, lists_seen, sound}
use Rattle.linked_records.proofs.records.Records.insert_by.Goals as goal

pub open-item-requires : goal.open-item-requires
open-item-requires g c =
    can_open _ _ _ _ (vec_capacity c.self.inside.arena.places) (held _ _ _ _ c.self.view_is _ c.self.invariant) (omega (arith, c.self.inside.arena.places.ok))
    (some_room _ _ _ _ c.self.view_is _ c.self.invariant c.requires.room)

pub attach-requires-clause-taken : goal.attach-requires-clause-taken
attach-requires-clause-taken g c =
    let h = held _ _ _ _ c.self.view_is _ c.self.invariant in
    opened_last _ _ _ h.threads c.args.list c.requires.there c.self.inside.free c.index.result.now c.index.ensures _ _ _ c.args.v c.open-item.ensures.opens

pub invariant_of-self : goal.invariant_of-self
invariant_of-self g c =
    let h = held _ _ _ _ c.self.view_is _ c.self.invariant in
    let can = can_open _ _ _ _ (vec_capacity c.self.inside.arena.places) h (omega (arith, c.self.inside.arena.places.ok))
    (some_room _ _ _ _ c.self.view_is _ c.self.invariant c.requires.room) in
    sound
    (opened_then _ _ _ h.threads c.args.list c.requires.there c.self.inside.free h _ can c.args.v c.index.result.now c.index.ensures _ _ _ _ _ _
    c.open-item.ensures.opens c.open-item.ensures.ends c.attach.ensures.places c.attach.ensures.ends)

pub returns-clause-fresh : goal.returns-clause-fresh
returns-clause-fresh g c =
    let h = held _ _ _ _ c.self.view_is _ c.self.invariant in
    let can = can_open _ _ _ _ (vec_capacity c.self.inside.arena.places) h (omega (arith, c.self.inside.arena.places.ok))
    (some_room _ _ _ _ c.self.view_is _ c.self.invariant c.requires.room) in
    opened_fresh _ _ _ h.threads c.args.list c.requires.there c.self.inside.free h _ can _ _ _ _ c.open-item.ensures.opens

pub returns-clause-lists : goal.returns-clause-lists
returns-clause-lists g c =
    let h = held _ _ _ _ c.self.view_is _ c.self.invariant in
    let can = can_open _ _ _ _ (vec_capacity c.self.inside.arena.places) h (omega (arith, c.self.inside.arena.places.ok))
    (some_room _ _ _ _ c.self.view_is _ c.self.invariant c.requires.room) in
    lists_seen
    (opened_then _ _ _ h.threads c.args.list c.requires.there c.self.inside.free h _ can c.args.v c.index.result.now c.index.ensures _ _ _ _ _ _
    c.open-item.ensures.opens c.open-item.ensures.ends c.attach.ensures.places c.attach.ensures.ends)

pub returns-clause-spare : goal.returns-clause-spare
returns-clause-spare g c =
    let h = held _ _ _ _ c.self.view_is _ c.self.invariant in
    let can = can_open _ _ _ _ (vec_capacity c.self.inside.arena.places) h (omega (arith, c.self.inside.arena.places.ok))
    (some_room _ _ _ _ c.self.view_is _ c.self.invariant c.requires.room) in
    spare_back _ _ _ _ c.self.view_is _ c.self.invariant _ _ _ c.args.list _ _
    (opened_then _ _ _ h.threads c.args.list c.requires.there c.self.inside.free h _ can c.args.v c.index.result.now c.index.ensures _ _ _ _ _ _
    c.open-item.ensures.opens c.open-item.ensures.ends c.attach.ensures.places c.attach.ensures.ends)
    c.requires.there c.requires.room (c.attach.ensures.capacity ∙ c.open-item.ensures.capacity)

pub returns-clause-given : goal.returns-clause-given
returns-clause-given g c =
    let h = held _ _ _ _ c.self.view_is _ c.self.invariant in
    let can = can_open _ _ _ _ (vec_capacity c.self.inside.arena.places) h (omega (arith, c.self.inside.arena.places.ok))
    (some_room _ _ _ _ c.self.view_is _ c.self.invariant c.requires.room) in
    given_back _ _ _ _ c.self.view_is _ c.self.invariant _ _ _ _ _ _ can c.open-item.ensures.opens c.attach.ensures.places
