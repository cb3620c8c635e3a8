use Rattle.std.proofs.Common.{ap, arith, length, ◌∙◌}
use Rattle.linked_records.specs.declared.place.Links.{Links}
use Rattle.linked_records.proofs.Chains.{first_length}
use Rattle.linked_records.proofs.Changes.{given_out, item_within, list_within, not_free, spare_out, taken_is}
use Rattle.linked_records.proofs.Holding.{holds_removed_then, removed_next, removed_prev}
use Rattle.linked_records.proofs.Seen.{held, lists_seen, sound}
use Rattle.linked_records.proofs.records.Records.remove_by.Goals as goal

pub replace-requires : goal.replace-requires
replace-requires g c =
    let ok = c.self.inside.arena.places.ok in
    omega (arith, ok, item_within _ _ _ _ (held _ _ _ _ c.self.view_is _ c.self.invariant) c.args.item c.requires)

pub set_next-requires-clause-there : goal.set_next-requires-clause-there
set_next-requires-clause-there g c =
    let h = held _ _ _ _ c.self.view_is _ c.self.invariant in
    let t = taken_is _ _ _ _ h c.args.item c.requires c.in-Taken.links c.in-Taken.value c.replace.result c.replace.ensures.old c.in-Taken.is in
    let list = ap (λ (l : Links). l.list) t.0 in
    let low = list_within _ _ _ _ h c.requires.list c.requires.within in
    omega (arith, list, low, ap length c.replace.ensures.ends)

pub set_next-requires-clause-taken : goal.set_next-requires-clause-taken
set_next-requires-clause-taken g c =
    let h = held _ _ _ _ c.self.view_is _ c.self.invariant in
    let t = taken_is _ _ _ _ h c.args.item c.requires c.in-Taken.links c.in-Taken.value c.replace.result c.replace.ensures.old c.in-Taken.is in
    removed_prev _ _ _ _ h c.args.item c.requires c.in-Taken.links t.0 c.replace.new.self.places.items c.replace.ensures.places

pub set_prev-requires-clause-there : goal.set_prev-requires-clause-there
set_prev-requires-clause-there g c =
    let h = held _ _ _ _ c.self.view_is _ c.self.invariant in
    let t = taken_is _ _ _ _ h c.args.item c.requires c.in-Taken.links c.in-Taken.value c.replace.result c.replace.ensures.old c.in-Taken.is in
    let list = ap (λ (l : Links). l.list) t.0 in
    let low = list_within _ _ _ _ h c.requires.list c.requires.within in
    omega (
      arith,
      list,
      low,
      ap length c.replace.ensures.ends,
      ap length c.set_next.ensures.ends,
      first_length c.in-Taken.links.list c.in-Taken.links.prev
          c.in-Taken.links.next c.replace.new.self.ends.items,
    )

pub set_prev-requires-clause-taken : goal.set_prev-requires-clause-taken
set_prev-requires-clause-taken g c =
    let h = held _ _ _ _ c.self.view_is _ c.self.invariant in
    let t = taken_is _ _ _ _ h c.args.item c.requires c.in-Taken.links c.in-Taken.value c.replace.result c.replace.ensures.old c.in-Taken.is in
    removed_next _ _ _ _ h c.args.item c.requires c.in-Taken.links t.0 c.replace.new.self.places.items c.replace.ensures.places
    c.set_next.new.self.places.items c.set_next.ensures.places

pub invariant_of-self : goal.invariant_of-self
invariant_of-self g c =
    let h = held _ _ _ _ c.self.view_is _ c.self.invariant in
    let t = taken_is _ _ _ _ h c.args.item c.requires c.in-Taken.links c.in-Taken.value c.replace.result c.replace.ensures.old c.in-Taken.is in
    sound
    (holds_removed_then _ _ _ _ h c.args.item c.requires c.in-Taken.links t.0 _ _ _ _ _ _ c.replace.ensures.places c.set_next.ensures.places
    c.set_prev.ensures.places c.replace.ensures.ends c.set_next.ensures.ends c.set_prev.ensures.ends)

pub unreachable-requires : goal.unreachable-requires
unreachable-requires g c =
    not_free _ _ _ _ (held _ _ _ _ c.self.view_is _ c.self.invariant) c.args.item c.requires _ c.replace.result c.replace.ensures.old c.in-Free.is

pub returns-clause-value : goal.returns-clause-value
returns-clause-value g c at =
    let h = held _ _ _ _ c.self.view_is _ c.self.invariant in
    let t = taken_is _ _ _ _ h c.args.item at c.in-Taken.links c.in-Taken.value c.replace.result c.replace.ensures.old c.in-Taken.is in
    t.1

pub returns-clause-lists : goal.returns-clause-lists
returns-clause-lists g c at =
    let h = held _ _ _ _ c.self.view_is _ c.self.invariant in
    let t = taken_is _ _ _ _ h c.args.item at c.in-Taken.links c.in-Taken.value c.replace.result c.replace.ensures.old c.in-Taken.is in
    lists_seen
    (holds_removed_then _ _ _ _ h c.args.item at c.in-Taken.links t.0 _ _ _ _ _ _ c.replace.ensures.places c.set_next.ensures.places c.set_prev.ensures.places
    c.replace.ensures.ends c.set_next.ensures.ends c.set_prev.ensures.ends)

pub returns-clause-spare : goal.returns-clause-spare
returns-clause-spare g c =
    let h = held _ _ _ _ c.self.view_is _ c.self.invariant in
    let t = taken_is _ _ _ _ h c.args.item c.requires c.in-Taken.links c.in-Taken.value c.replace.result c.replace.ensures.old c.in-Taken.is in (
      spare_out _ _ _ _ c.self.view_is _ c.self.invariant _ _ _ c.args.item c.requires _
          (holds_removed_then _ _ _ _ h c.args.item c.requires c.in-Taken.links t.0 _ _ _ _ _ _ c.replace.ensures.places c.set_next.ensures.places
          c.set_prev.ensures.places c.replace.ensures.ends c.set_next.ensures.ends c.set_prev.ensures.ends)
          (omega (arith, c.self.inside.arena.places.ok))
          (c.set_prev.ensures.capacity ∙ c.set_next.ensures.capacity ∙ c.replace.ensures.capacity),
      given_out _ _ _ _ c.self.view_is _ c.self.invariant c.in-Taken.links _ _ _ _ _ c.replace.ensures.places c.set_next.ensures.places
          c.set_prev.ensures.places,
    )
