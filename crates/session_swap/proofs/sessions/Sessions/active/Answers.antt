use Rattle.std.proofs.Common.{ap, arith}
use Rattle.session_swap.specs.Items.{SessionsView}
use Rattle.session_swap.specs.Records.{items_of}
use Rattle.session_swap.proofs.Owners.{owners_split, some_split}
use Rattle.session_swap.proofs.sessions.Sessions.active.Goals as goal

pub returns-clause-most : goal.returns-clause-most
returns-clause-most c =
    let items = items_of c.self.inside.records.items in
    omega (
      arith,
      c.self.invariant.held_is,
      c.self.invariant.few,
      owners_split items,
      some_split items,
      ap (λ (v : SessionsView). v.numbers.active) c.self.view_is,
    )
