use Rattle.std.proofs.Common.{refl}
use Rattle.sha2.specs.Sha256.{first_words, schedule, rounds, compress, hash_after, digest_bytes, sha256}
use Rattle.tab_spec.specs.Hash.{kdfa_blocks}
use Rattle.tab_spec.specs.Auths.{auths_of, auths_from}
use Rattle.effect_spec.specs.Contexts.{opened_object}
use Rattle.effect_spec.specs.Effect.{effect_of}
use Rattle.device_spec.specs.Slots.{slot_step}
use Rattle.device_examples.proofs.slots_are_named.Goals as goal

pub returns-clause-public : goal.returns-clause-public
unfolding first_words schedule rounds compress hash_after digest_bytes sha256 kdfa_blocks auths_of auths_from opened_object effect_of slot_step
returns-clause-public c = refl

pub returns-clause-unsealed : goal.returns-clause-unsealed
unfolding first_words schedule rounds compress hash_after digest_bytes sha256 kdfa_blocks auths_of auths_from opened_object effect_of slot_step
returns-clause-unsealed c = refl

pub returns-clause-another_password : goal.returns-clause-another_password
unfolding first_words schedule rounds compress hash_after digest_bytes sha256 kdfa_blocks auths_of auths_from opened_object effect_of slot_step
returns-clause-another_password c = refl

pub returns-clause-nothing_there : goal.returns-clause-nothing_there
unfolding first_words schedule rounds compress hash_after digest_bytes sha256 kdfa_blocks auths_of auths_from opened_object effect_of slot_step
returns-clause-nothing_there c = refl

pub returns-clause-loaded_under_it : goal.returns-clause-loaded_under_it
unfolding first_words schedule rounds compress hash_after digest_bytes sha256 kdfa_blocks auths_of auths_from opened_object effect_of slot_step
returns-clause-loaded_under_it c = refl
