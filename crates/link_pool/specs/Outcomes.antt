-- What accepting came to.
use Rattle.std.specs.Prelude.{Result, Ok, Err}
use Rattle.accept_loop.specs.declared.serving.AcceptError.{AcceptError}
use Rattle.accept_loop.specs.declared.serving.AcceptError.TheVariants as errors
use Rattle.link_pool.specs.declared.turn.Stage.{Stage}
use Rattle.link_pool.specs.declared.turn.Stage.TheVariants as stages

abbrev pub outcome_of : Stage → Result (Unit {0}) AcceptError
outcome_of stages.Going = Ok tt
outcome_of stages.Over = Ok tt
outcome_of stages.Failed = Err errors.Failed
