use Rattle.std.proofs.Common.{refl}
use Rattle.sha2.specs.Sha256.{first_words, schedule, rounds, compress, hash_after, digest_bytes, sha256}
use Rattle.tab_spec.specs.Hash.{kdfa_blocks}
use Rattle.effect_spec.specs.Contexts.{opened_object}
use Rattle.device_examples.proofs.objects_are_somewhere.Goals as goal

pub returns-clause-slot : goal.returns-clause-slot
unfolding first_words schedule rounds compress hash_after digest_bytes sha256 kdfa_blocks opened_object
returns-clause-slot c = refl

pub returns-clause-empty : goal.returns-clause-empty
unfolding first_words schedule rounds compress hash_after digest_bytes sha256 kdfa_blocks opened_object
returns-clause-empty c = refl

pub returns-clause-context : goal.returns-clause-context
unfolding first_words schedule rounds compress hash_after digest_bytes sha256 kdfa_blocks opened_object
returns-clause-context c = refl

pub returns-clause-flipped : goal.returns-clause-flipped
unfolding first_words schedule rounds compress hash_after digest_bytes sha256 kdfa_blocks opened_object
returns-clause-flipped c = refl

pub returns-clause-one_byte_over : goal.returns-clause-one_byte_over
unfolding first_words schedule rounds compress hash_after digest_bytes sha256 kdfa_blocks opened_object
returns-clause-one_byte_over c = refl

pub returns-clause-nowhere : goal.returns-clause-nowhere
unfolding first_words schedule rounds compress hash_after digest_bytes sha256 kdfa_blocks opened_object
returns-clause-nowhere c = refl
