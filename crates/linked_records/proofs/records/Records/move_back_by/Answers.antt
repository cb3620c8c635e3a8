use Rattle.std.proofs.Common.{◌<◌, ℕ, ap, length, subst, sym, ◌∙◌}
use Rattle.linked_records.specs.View.{put_back, taken_out}
use Rattle.linked_records.specs.declared.place.Links.{Links}
use Rattle.linked_records.proofs.Changes.{links_is, spare_carried}
use Rattle.linked_records.proofs.Holding.{item_taken}
use Rattle.linked_records.proofs.Seen.{given_seen, held, lists_seen, sound}
use Rattle.linked_records.proofs.records.Records.move_back_by.Goals as goal

pub links-from-requires : goal.links-from-requires
links-from-requires g c = item_taken _ _ _ _ (held _ _ _ _ c.self.view_is _ c.self.invariant) c.args.item c.requires

pub carry-requires : goal.carry-requires
carry-requires g c =
    let h = held _ _ _ _ c.self.view_is _ c.self.invariant in
    let from = links_is _ _ _ _ h c.args.item c.requires c.links-from.result c.links-from.ensures.links in (
      c.self.inside.free,
      c.args.self.now.lists,
      record {
        holds = h;
        at = c.requires;
        from_is = from;
        there = subst (λ (k : ℕ). k < length c.args.self.now.lists) (sym (ap (λ (l : Links). l.list) from)) c.requires.within;
      },
    )

pub invariant_of-self : goal.invariant_of-self
invariant_of-self g c =
    let h = held _ _ _ _ c.self.view_is _ c.self.invariant in
    let from = links_is _ _ _ _ h c.args.item c.requires c.links-from.result c.links-from.ensures.links in
    let there : c.links-from.result.list < length c.args.self.now.lists = subst (λ (k : ℕ). k < length c.args.self.now.lists)
    (sym (ap (λ (l : Links). l.list) from)) c.requires.within in
    sound (c.carry.ensures.holds c.self.inside.free c.args.self.now.lists (record { holds = h; at = c.requires; from_is = from; there = there }))

pub returns-clause-lists : goal.returns-clause-lists
returns-clause-lists g c at =
    let h = held _ _ _ _ c.self.view_is _ c.self.invariant in
    let from = links_is _ _ _ _ h c.args.item at c.links-from.result c.links-from.ensures.links in
    let list = ap (λ (l : Links). l.list) from in
    lists_seen
    (c.carry.ensures.holds c.self.inside.free c.args.self.now.lists
    (record { holds = h; at = at; from_is = from; there = subst (λ (k : ℕ). k < length c.args.self.now.lists) (sym list) at.within }))
    ∙ ap (λ (k : ℕ). put_back (taken_out c.args.self.now.lists c.args.item at) k (c.args.item, at.value)) list

pub returns-clause-spare : goal.returns-clause-spare
returns-clause-spare g c =
    let h = held _ _ _ _ c.self.view_is _ c.self.invariant in
    let from = links_is _ _ _ _ h c.args.item c.requires c.links-from.result c.links-from.ensures.links in
    let there : c.links-from.result.list < length c.args.self.now.lists = subst (λ (k : ℕ). k < length c.args.self.now.lists)
    (sym (ap (λ (l : Links). l.list) from)) c.requires.within in (
      spare_carried _ _ _ _ c.self.view_is _ c.self.invariant _ _ c.args.item c.requires c.links-from.result.list _
          (c.carry.ensures.holds c.self.inside.free c.args.self.now.lists (record { holds = h; at = c.requires; from_is = from; there = there })) there
          c.carry.ensures.capacity,
      c.carry.ensures.count ∙ given_seen _ _ _ _ c.self.view_is,
    )
