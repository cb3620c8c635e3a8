use Rattle.std.proofs.Common.{◌∙◌}
use Rattle.linked_records.proofs.Changes.{links_is, spare_carried}
use Rattle.linked_records.proofs.Holding.{item_taken}
use Rattle.linked_records.proofs.Seen.{given_seen, held, lists_seen, sound}
use Rattle.linked_records.proofs.records.Records.move_to_by.Goals as goal

pub links-from-requires : goal.links-from-requires
links-from-requires g c = item_taken _ _ _ _ (held _ _ _ _ c.self.view_is _ c.self.invariant) c.args.item c.requires.listed

pub carry-requires : goal.carry-requires
carry-requires g c =
    let h = held _ _ _ _ c.self.view_is _ c.self.invariant in (
      c.self.inside.free,
      c.args.self.now.lists,
      record {
        holds = h;
        at = c.requires.listed;
        from_is = links_is _ _ _ _ h c.args.item c.requires.listed c.links-from.result c.links-from.ensures.links;
        there = c.requires.there;
      },
    )

pub invariant_of-self : goal.invariant_of-self
invariant_of-self g c =
    let h = held _ _ _ _ c.self.view_is _ c.self.invariant in
    sound (c.carry.ensures.holds c.self.inside.free c.args.self.now.lists
    (record {
      holds = h;
      at = c.requires.listed;
      from_is = links_is _ _ _ _ h c.args.item c.requires.listed c.links-from.result
          c.links-from.ensures.links;
      there = c.requires.there;
    }))

pub returns-clause-lists : goal.returns-clause-lists
returns-clause-lists g c at =
    let h = held _ _ _ _ c.self.view_is _ c.self.invariant in
    lists_seen
    (c.carry.ensures.holds c.self.inside.free c.args.self.now.lists
    (record { holds = h; at = at; from_is = links_is _ _ _ _ h c.args.item at c.links-from.result c.links-from.ensures.links; there = c.requires.there }))

pub returns-clause-spare : goal.returns-clause-spare
returns-clause-spare g c =
    let h = held _ _ _ _ c.self.view_is _ c.self.invariant in (
      spare_carried _ _ _ _ c.self.view_is _ c.self.invariant _ _ c.args.item c.requires.listed c.args.list _
          (c.carry.ensures.holds c.self.inside.free c.args.self.now.lists
          (record {
            holds = h;
            at = c.requires.listed;
            from_is = links_is _ _ _ _ h c.args.item c.requires.listed c.links-from.result
                c.links-from.ensures.links;
            there = c.requires.there;
          })) c.requires.there c.carry.ensures.capacity,
      c.carry.ensures.count ∙ given_seen _ _ _ _ c.self.view_is,
    )
