use Rattle.std.proofs.Common.{refl}
use Rattle.tab_spec.specs.Auths.{auths_from, auths_of}
use Rattle.effect_spec.specs.Effect.{effect_of}
use Rattle.device_spec.specs.Slots.{slot_step}
use Rattle.device_examples.proofs.passwords_are_compared.Goals as goal

pub returns-clause-zeros : goal.returns-clause-zeros
unfolding slot_step auths_of auths_from effect_of
returns-clause-zeros c = refl

pub returns-clause-another : goal.returns-clause-another
unfolding slot_step auths_of auths_from effect_of
returns-clause-another c = refl

pub returns-clause-nonce : goal.returns-clause-nonce
unfolding slot_step auths_of auths_from effect_of
returns-clause-nonce c = refl

pub returns-clause-attributes : goal.returns-clause-attributes
unfolding slot_step auths_of auths_from effect_of
returns-clause-attributes c = refl

pub returns-clause-before_parameters : goal.returns-clause-before_parameters
unfolding slot_step auths_of auths_from effect_of
returns-clause-before_parameters c = refl
