-- What the worked examples unfold: one name for each group of definitions that they compute with.
use Rattle.std.specs.Prelude.{⊤}
use Rattle.tab_examples.proofs.Computing.{admission}
use Rattle.effect_spec.specs.Contexts.{opened_object}
use Rattle.effect_spec.specs.Effect.{effect_of}
use Rattle.world_spec.specs.World.{client_step, plain_step}

unfoldable pub steps : ⊤
unfolding admission effect_of client_step plain_step
steps = tt

unfoldable pub contexts : ⊤
unfolding opened_object
contexts = tt
