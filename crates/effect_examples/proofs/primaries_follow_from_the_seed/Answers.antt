use Rattle.std.proofs.Common.{refl}
use Rattle.rand_core.specs.Steps.{u32_at}
use Rattle.rand_chacha.specs.Block.{quarter_round, column_round, diagonal_round, double_rounds, block_word}
use Rattle.tab_spec.specs.Persist.{stream_bytes}
use Rattle.effect_examples.proofs.primaries_follow_from_the_seed.Goals as goal
use Rattle.sha2.specs.Sha256.{first_words, schedule, rounds, compress, hash_after, digest_bytes, sha256}
use Rattle.tab_spec.specs.Hash.{kdfa_blocks}

pub returns-clause-key : goal.returns-clause-key
unfolding first_words schedule rounds compress hash_after digest_bytes sha256 kdfa_blocks stream_bytes u32_at quarter_round column_round diagonal_round double_rounds block_word
returns-clause-key c = refl

pub returns-clause-parent : goal.returns-clause-parent
unfolding first_words schedule rounds compress hash_after digest_bytes sha256 kdfa_blocks stream_bytes u32_at quarter_round column_round diagonal_round double_rounds block_word
returns-clause-parent c = refl

pub returns-clause-with_data : goal.returns-clause-with_data
unfolding first_words schedule rounds compress hash_after digest_bytes sha256 kdfa_blocks stream_bytes u32_at quarter_round column_round diagonal_round double_rounds block_word
returns-clause-with_data c = refl

pub returns-clause-no_data : goal.returns-clause-no_data
unfolding first_words schedule rounds compress hash_after digest_bytes sha256 kdfa_blocks stream_bytes u32_at quarter_round column_round diagonal_round double_rounds block_word
returns-clause-no_data c = refl

pub returns-clause-secret_cut : goal.returns-clause-secret_cut
unfolding first_words schedule rounds compress hash_after digest_bytes sha256 kdfa_blocks stream_bytes u32_at quarter_round column_round diagonal_round double_rounds block_word
returns-clause-secret_cut c = refl

pub returns-clause-public_cut : goal.returns-clause-public_cut
unfolding first_words schedule rounds compress hash_after digest_bytes sha256 kdfa_blocks stream_bytes u32_at quarter_round column_round diagonal_round double_rounds block_word
returns-clause-public_cut c = refl

pub returns-clause-long_outside : goal.returns-clause-long_outside
unfolding first_words schedule rounds compress hash_after digest_bytes sha256 kdfa_blocks stream_bytes u32_at quarter_round column_round diagonal_round double_rounds block_word
returns-clause-long_outside c = refl

pub returns-clause-no_selection : goal.returns-clause-no_selection
unfolding first_words schedule rounds compress hash_after digest_bytes sha256 kdfa_blocks stream_bytes u32_at quarter_round column_round diagonal_round double_rounds block_word
returns-clause-no_selection c = refl
