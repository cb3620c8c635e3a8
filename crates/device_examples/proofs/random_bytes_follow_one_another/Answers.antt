use Rattle.std.proofs.Common.{refl}
use Rattle.rand_core.specs.Steps.{u32_at}
use Rattle.rand_chacha.specs.Block.{quarter_round, column_round, diagonal_round, double_rounds, block_word}
use Rattle.tab_spec.specs.Persist.{stream_bytes}
use Rattle.effect_spec.specs.Effect.{effect_of}
use Rattle.tab_spec.specs.Auths.{auths_of}
use Rattle.device_spec.specs.Slots.{slot_step}
use Rattle.device_examples.proofs.random_bytes_follow_one_another.Goals as goal

pub returns-clause-eight : goal.returns-clause-eight
unfolding slot_step auths_of effect_of stream_bytes u32_at quarter_round column_round diagonal_round double_rounds block_word
returns-clause-eight c = refl

pub returns-clause-six : goal.returns-clause-six
unfolding slot_step auths_of effect_of stream_bytes u32_at quarter_round column_round diagonal_round double_rounds block_word
returns-clause-six c = refl

pub returns-clause-four : goal.returns-clause-four
unfolding slot_step auths_of effect_of stream_bytes u32_at quarter_round column_round diagonal_round double_rounds block_word
returns-clause-four c = refl
