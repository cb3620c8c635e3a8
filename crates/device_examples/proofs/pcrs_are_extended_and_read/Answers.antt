use Rattle.std.proofs.Common.{refl}
use Rattle.tab_spec.specs.Auths.{auths_from, auths_of}
use Rattle.effect_spec.specs.Effect.{effect_of}
use Rattle.device_spec.specs.Slots.{slot_step}
use Rattle.sha2.specs.Sha256.{first_words, schedule, rounds, compress, hash_after, digest_bytes, sha256}
use Rattle.device_examples.proofs.pcrs_are_extended_and_read.Goals as goal

pub returns-clause-extended : goal.returns-clause-extended
unfolding slot_step auths_of auths_from effect_of first_words schedule rounds compress hash_after digest_bytes sha256
returns-clause-extended c = refl

pub returns-clause-read : goal.returns-clause-read
unfolding slot_step auths_of auths_from effect_of first_words schedule rounds compress hash_after digest_bytes sha256
returns-clause-read c = refl

pub returns-clause-by_nothing : goal.returns-clause-by_nothing
unfolding slot_step auths_of auths_from effect_of first_words schedule rounds compress hash_after digest_bytes sha256
returns-clause-by_nothing c = refl

pub returns-clause-of_none : goal.returns-clause-of_none
unfolding slot_step auths_of auths_from effect_of first_words schedule rounds compress hash_after digest_bytes sha256
returns-clause-of_none c = refl

pub returns-clause-first_eight : goal.returns-clause-first_eight
unfolding slot_step auths_of auths_from effect_of first_words schedule rounds compress hash_after digest_bytes sha256
returns-clause-first_eight c = refl

pub returns-clause-upwards : goal.returns-clause-upwards
unfolding slot_step auths_of auths_from effect_of first_words schedule rounds compress hash_after digest_bytes sha256
returns-clause-upwards c = refl
