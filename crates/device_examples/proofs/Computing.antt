-- What the worked examples unfold: one name for each group of definitions that they compute with.
use Rattle.std.specs.Prelude.{⊤}
use Rattle.tab_spec.specs.Auths.{auths_of, auths_from}
use Rattle.tab_examples.proofs.Computing.{hashes, draws}
use Rattle.effect_spec.specs.Contexts.{opened_object, opened_session}
use Rattle.effect_spec.specs.Effect.{effect_of}
use Rattle.device_spec.specs.Slots.{slot_step}

unfoldable pub steps : ⊤
unfolding auths_of auths_from effect_of slot_step
steps = tt

unfoldable pub contexts : ⊤
unfolding hashes opened_object opened_session
contexts = tt

-- all that a command may compute
unfoldable pub commands : ⊤
unfolding steps contexts draws
commands = tt
