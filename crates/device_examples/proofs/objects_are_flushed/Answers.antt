use Rattle.std.proofs.Common.{refl}
use Rattle.sha2.specs.Sha256.{first_words, schedule, rounds, compress, hash_after, digest_bytes, sha256}
use Rattle.tab_spec.specs.Hash.{kdfa_blocks}
use Rattle.tab_spec.specs.Auths.{auths_of, auths_from}
use Rattle.effect_spec.specs.Contexts.{opened_object}
use Rattle.effect_spec.specs.Effect.{effect_of}
use Rattle.device_spec.specs.Slots.{slot_step}
use Rattle.device_examples.proofs.objects_are_flushed.Goals as goal

pub returns-clause-flushed : goal.returns-clause-flushed
unfolding first_words schedule rounds compress hash_after digest_bytes sha256 kdfa_blocks auths_of auths_from opened_object effect_of slot_step
returns-clause-flushed c = refl

pub returns-clause-empty : goal.returns-clause-empty
unfolding first_words schedule rounds compress hash_after digest_bytes sha256 kdfa_blocks auths_of auths_from opened_object effect_of slot_step
returns-clause-empty c = refl

pub returns-clause-beyond : goal.returns-clause-beyond
unfolding first_words schedule rounds compress hash_after digest_bytes sha256 kdfa_blocks auths_of auths_from opened_object effect_of slot_step
returns-clause-beyond c = refl

pub returns-clause-persistent : goal.returns-clause-persistent
unfolding first_words schedule rounds compress hash_after digest_bytes sha256 kdfa_blocks auths_of auths_from opened_object effect_of slot_step
returns-clause-persistent c = refl

pub returns-clause-session : goal.returns-clause-session
unfolding first_words schedule rounds compress hash_after digest_bytes sha256 kdfa_blocks auths_of auths_from opened_object effect_of slot_step
returns-clause-session c = refl

pub returns-clause-cut : goal.returns-clause-cut
unfolding first_words schedule rounds compress hash_after digest_bytes sha256 kdfa_blocks auths_of auths_from opened_object effect_of slot_step
returns-clause-cut c = refl

pub returns-clause-one_byte_over : goal.returns-clause-one_byte_over
unfolding first_words schedule rounds compress hash_after digest_bytes sha256 kdfa_blocks auths_of auths_from opened_object effect_of slot_step
returns-clause-one_byte_over c = refl
