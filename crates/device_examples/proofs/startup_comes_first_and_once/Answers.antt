use Rattle.std.proofs.Common.{refl}
use Rattle.effect_spec.specs.Effect.{effect_of}
use Rattle.tab_spec.specs.Auths.{auths_of}
use Rattle.device_spec.specs.Slots.{slot_step}
use Rattle.device_examples.proofs.startup_comes_first_and_once.Goals as goal

pub returns-clause-before : goal.returns-clause-before
unfolding slot_step auths_of effect_of
returns-clause-before c = refl

pub returns-clause-first : goal.returns-clause-first
unfolding slot_step auths_of effect_of
returns-clause-first c = refl

pub returns-clause-again : goal.returns-clause-again
unfolding slot_step auths_of effect_of
returns-clause-again c = refl

pub returns-clause-of_state : goal.returns-clause-of_state
unfolding slot_step auths_of effect_of
returns-clause-of_state c = refl

pub returns-clause-with_an_area : goal.returns-clause-with_an_area
unfolding slot_step auths_of effect_of
returns-clause-with_an_area c = refl
