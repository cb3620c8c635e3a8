use Rattle.std.proofs.Common.{ap, length}
use Rattle.linked_records.proofs.Changes.{holds_new}
use Rattle.linked_records.proofs.Seen.{lists_seen, sound}
use Rattle.linked_records.proofs.records.Records.new.Goals as goal

pub invariant_of-result : goal.invariant_of-result
invariant_of-result g c =
    sound (holds_new _ c.args.lists _ _ _ _ c.new.ensures.items c.new-ends.ensures.items c.new-ends.ensures.len c.in_ok-resize.ensures.items)

pub returns : goal.returns
returns g c =
    record {
      lists = (
        lists_seen (holds_new _ c.args.lists _ _ _ _ c.new.ensures.items c.new-ends.ensures.items c.new-ends.ensures.len c.in_ok-resize.ensures.items),
        ap length c.new.ensures.items,
      );
    }
