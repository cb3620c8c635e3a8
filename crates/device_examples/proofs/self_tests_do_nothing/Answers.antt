use Rattle.std.proofs.Common.{refl}
use Rattle.tab_spec.specs.Auths.{auths_from, auths_of}
use Rattle.effect_spec.specs.Effect.{effect_of}
use Rattle.device_spec.specs.Slots.{slot_step}
use Rattle.device_examples.proofs.self_tests_do_nothing.Goals as goal

pub returns-clause-full : goal.returns-clause-full
unfolding slot_step auths_of auths_from effect_of
returns-clause-full c = refl

pub returns-clause-neither : goal.returns-clause-neither
unfolding slot_step auths_of auths_from effect_of
returns-clause-neither c = refl

pub returns-clause-cut : goal.returns-clause-cut
unfolding slot_step auths_of auths_from effect_of
returns-clause-cut c = refl

pub returns-clause-one_byte_over : goal.returns-clause-one_byte_over
unfolding slot_step auths_of auths_from effect_of
returns-clause-one_byte_over c = refl
