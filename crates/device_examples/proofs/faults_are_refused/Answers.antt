use Rattle.std.proofs.Common.{refl}
use Rattle.effect_spec.specs.Effect.{effect_of}
use Rattle.tab_spec.specs.Auths.{auths_of}
use Rattle.device_spec.specs.Slots.{slot_step}
use Rattle.device_examples.proofs.faults_are_refused.Goals as goal

pub returns-clause-command_code : goal.returns-clause-command_code
unfolding slot_step auths_of effect_of
returns-clause-command_code c = refl

pub returns-clause-bad_tag : goal.returns-clause-bad_tag
unfolding slot_step auths_of effect_of
returns-clause-bad_tag c = refl

pub returns-clause-no_parameter : goal.returns-clause-no_parameter
unfolding slot_step auths_of effect_of
returns-clause-no_parameter c = refl

pub returns-clause-one_byte_over : goal.returns-clause-one_byte_over
unfolding slot_step auths_of effect_of
returns-clause-one_byte_over c = refl

pub returns-clause-no_area : goal.returns-clause-no_area
unfolding slot_step auths_of effect_of
returns-clause-no_area c = refl

pub returns-clause-startup_with_an_area : goal.returns-clause-startup_with_an_area
unfolding slot_step auths_of effect_of
returns-clause-startup_with_an_area c = refl
