use Rattle.std.proofs.Common.{refl}
use Rattle.sha2.specs.Sha256.{compress, digest_bytes, first_words, hash_after, rounds, schedule, sha256}
use Rattle.tab_spec.specs.Hash.{kdfa_blocks}
use Rattle.tab_examples.proofs.keyed_hashes_are_the_standards.Goals as goal

pub returns-clause-mac : goal.returns-clause-mac
unfolding first_words schedule rounds compress hash_after digest_bytes sha256
returns-clause-mac c = refl

pub returns-clause-derived : goal.returns-clause-derived
unfolding first_words schedule rounds compress hash_after digest_bytes sha256 kdfa_blocks
returns-clause-derived c = refl

pub returns-clause-name : goal.returns-clause-name
unfolding first_words schedule rounds compress hash_after digest_bytes sha256
returns-clause-name c = refl
