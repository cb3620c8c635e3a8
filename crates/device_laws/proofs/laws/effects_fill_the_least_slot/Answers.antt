use Rattle.device_laws.proofs.Seeds.{nothing_fills_none, object_fills, session_fills_none}
use Rattle.device_laws.proofs.laws.effects_fill_the_least_slot.Goals as goal

pub returns-clause-object : goal.returns-clause-object
returns-clause-object c = object_fills

pub returns-clause-session : goal.returns-clause-session
returns-clause-session c = session_fills_none

pub returns-clause-none : goal.returns-clause-none
returns-clause-none c = nothing_fills_none
