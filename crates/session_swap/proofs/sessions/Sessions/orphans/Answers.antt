use Rattle.std.proofs.Common.{ap, arith}
use Rattle.std.specs.List.{count_by}
use Rattle.session_swap.specs.Items.{SessionsView, is_orphan}
use Rattle.session_swap.specs.Records.{items_of}
use Rattle.session_swap.proofs.Owners.{owners_split}
use Rattle.session_swap.proofs.sessions.Sessions.orphans.Goals as goal

pub overflow_sub-result : goal.overflow_sub-result
overflow_sub-result c =
    let listed = c.self.invariant.listed in
    omega (
      arith,
      c.loaded.ensures,
      c.saved.ensures,
      listed.lists.count,
      listed.saved.count,
      c.self.invariant.held_is,
      owners_split (items_of c.self.inside.records.items),
    )

pub returns : goal.returns
returns c =
    let listed = c.self.invariant.listed in
    omega (
      arith,
      c.loaded.ensures,
      c.saved.ensures,
      listed.lists.count,
      listed.saved.count,
      c.self.invariant.held_is,
      owners_split (items_of c.self.inside.records.items),
      ap (λ (v : SessionsView). count_by is_orphan v.items) c.self.view_is,
    )
