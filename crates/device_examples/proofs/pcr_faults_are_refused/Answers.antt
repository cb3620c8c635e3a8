use Rattle.std.proofs.Common.{refl}
use Rattle.tab_spec.specs.Auths.{auths_from, auths_of}
use Rattle.effect_spec.specs.Effect.{effect_of}
use Rattle.device_spec.specs.Slots.{slot_step}
use Rattle.device_examples.proofs.pcr_faults_are_refused.Goals as goal

pub returns-clause-no_area : goal.returns-clause-no_area
unfolding slot_step auths_of auths_from effect_of
returns-clause-no_area c = refl

pub returns-clause-two_digests : goal.returns-clause-two_digests
unfolding slot_step auths_of auths_from effect_of
returns-clause-two_digests c = refl

pub returns-clause-of_sha1 : goal.returns-clause-of_sha1
unfolding slot_step auths_of auths_from effect_of
returns-clause-of_sha1 c = refl

pub returns-clause-cut_digest : goal.returns-clause-cut_digest
unfolding slot_step auths_of auths_from effect_of
returns-clause-cut_digest c = refl

pub returns-clause-one_byte_over : goal.returns-clause-one_byte_over
unfolding slot_step auths_of auths_from effect_of
returns-clause-one_byte_over c = refl

pub returns-clause-two_selections : goal.returns-clause-two_selections
unfolding slot_step auths_of auths_from effect_of
returns-clause-two_selections c = refl

pub returns-clause-cut_selection : goal.returns-clause-cut_selection
unfolding slot_step auths_of auths_from effect_of
returns-clause-cut_selection c = refl
