use Rattle.std.proofs.Common.{refl}
use Rattle.sha2.specs.Sha256.{first_words, schedule, rounds, compress, hash_after, digest_bytes, sha256}
use Rattle.tab_spec.specs.Auths.{auths_from, auths_of}
use Rattle.tab_spec.specs.Admission.{admitted}
use Rattle.effect_spec.specs.Effect.{effect_of}
use Rattle.world_spec.specs.World.{client_step, plain_step}
use Rattle.world_examples.proofs.clients_share_the_pcrs.Goals as goal

pub returns-clause-extended : goal.returns-clause-extended
unfolding plain_step client_step admitted auths_of auths_from effect_of first_words schedule rounds compress hash_after digest_bytes sha256
returns-clause-extended c = refl

pub returns-clause-read : goal.returns-clause-read
unfolding plain_step client_step admitted auths_of auths_from effect_of
returns-clause-read c = refl
