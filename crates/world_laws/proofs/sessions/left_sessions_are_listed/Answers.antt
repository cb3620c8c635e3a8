use Rattle.world_laws.proofs.Histories.{left_few, left_stands}
use Rattle.world_laws.proofs.sessions.left_sessions_are_listed.Goals as goal

pub returns-clause-stands : goal.returns-clause-stands
returns-clause-stands c = left_stands

pub returns-clause-few : goal.returns-clause-few
returns-clause-few c = left_few
