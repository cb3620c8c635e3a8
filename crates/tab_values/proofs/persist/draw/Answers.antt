use Rattle.std.proofs.Common.{rules, arith}
use Rattle.tab_values.proofs.Stream.{drawn-filled, generator-filled}
use Rattle.tab_values.proofs.persist.draw.Goals as goal

pub invariant_of-persist : goal.invariant_of-persist
invariant_of-persist c = (
  omega arith,
  c.persist.invariant.1,
  c.persist.invariant.2,
  c.persist.invariant.3,
  generator-filled _ _ _ _ _ _ _ (search rules) (search rules) c.persist.invariant.4 c.fill_bytes_via_u32.ensures,
)

pub returns-clause-drawn : goal.returns-clause-drawn
returns-clause-drawn c =
    rw (← c.persist.view_is)
    (drawn-filled _ _ _ _ _ _ (search rules) (search rules) c.persist.invariant.4 c.fill_bytes_via_u32.ensures)
