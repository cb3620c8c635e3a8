use Rattle.std.proofs.Common.{refl}
use Rattle.tab_spec.specs.Auths.{auths_from, auths_of}
use Rattle.effect_spec.specs.Effect.{effect_of}
use Rattle.device_spec.specs.Slots.{slot_step}
use Rattle.device_examples.proofs.counters_are_commanded.Goals as goal

pub returns-clause-defined : goal.returns-clause-defined
unfolding slot_step auths_of auths_from effect_of
returns-clause-defined c = refl

pub returns-clause-incremented : goal.returns-clause-incremented
unfolding slot_step auths_of auths_from effect_of
returns-clause-incremented c = refl

pub returns-clause-read : goal.returns-clause-read
unfolding slot_step auths_of auths_from effect_of
returns-clause-read c = refl

pub returns-clause-undefined : goal.returns-clause-undefined
unfolding slot_step auths_of auths_from effect_of
returns-clause-undefined c = refl

pub returns-clause-wrong_password : goal.returns-clause-wrong_password
unfolding slot_step auths_of auths_from effect_of
returns-clause-wrong_password c = refl

pub returns-clause-own_password : goal.returns-clause-own_password
unfolding slot_step auths_of auths_from effect_of
returns-clause-own_password c = refl
