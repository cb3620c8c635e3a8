-- What the worked examples unfold: one name for each group of definitions that they compute with.
use Rattle.std.specs.Prelude.{⊤}
use Rattle.sha2.specs.Sha256.{first_words, schedule, rounds, compress, hash_after, digest_bytes, sha256}
use Rattle.rand_core.specs.Steps.{u32_at}
use Rattle.rand_chacha.specs.Block.{quarter_round, column_round, diagonal_round, double_rounds, block_word}
use Rattle.tab_spec.specs.Hash.{kdfa_blocks}
use Rattle.tab_spec.specs.Persist.{stream_bytes}
use Rattle.tab_spec.specs.Auths.{auths_of, auths_from}
use Rattle.tab_spec.specs.Admission.{admitted}

unfoldable pub hashes : ⊤
unfolding first_words schedule rounds compress hash_after digest_bytes sha256 kdfa_blocks
hashes = tt

unfoldable pub draws : ⊤
unfolding stream_bytes u32_at quarter_round column_round diagonal_round double_rounds block_word
draws = tt

unfoldable pub admission : ⊤
unfolding auths_of auths_from admitted
admission = tt
