use Rattle.std.proofs.Common.{refl}
use Rattle.std.specs.Fmt.{digits}
use Rattle.hex.proofs.OnLiterals.{hex_on_literals}
use Rattle.sha2.specs.Sha256.{first_words, schedule, rounds, compress, hash_after, digest_bytes, sha256}
use Rattle.script_spec.proofs.examples.summary.replies_are_summed_up.Goals as goal

pub returns-clause-lines : goal.returns-clause-lines
unfolding hex_on_literals digits
returns-clause-lines c = refl

pub returns-clause-none : goal.returns-clause-none
unfolding hex_on_literals digits first_words schedule rounds compress hash_after digest_bytes sha256
returns-clause-none c = refl

pub returns-clause-two : goal.returns-clause-two
unfolding hex_on_literals digits first_words schedule rounds compress hash_after digest_bytes sha256
returns-clause-two c = refl
