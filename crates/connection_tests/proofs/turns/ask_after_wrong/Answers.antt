use Rattle.std.proofs.Common.{◌∙◌}
use Rattle.broker_lock.proofs.Serving.{served_next}
use Rattle.connection_tests.proofs.turns.ask_after_wrong.Goals as goal

pub loop-i-preserved : goal.loop-i-preserved
loop-i-preserved g c = (
  c.act-in-loop-i.ensures.acts.lock ∙ c.loop-i.invariant.0,
  c.act-in-loop-i.ensures.acts.parts ∙ c.loop-i.invariant.1,
  served_next _ _ _ _ _ _ _ c.loop-i.invariant.2 c.act-in-loop-i.ensures.acts,
)
