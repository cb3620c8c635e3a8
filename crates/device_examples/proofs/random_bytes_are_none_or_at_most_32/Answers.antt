use Rattle.std.proofs.Common.{refl}
use Rattle.rand_core.specs.Steps.{u32_at}
use Rattle.rand_chacha.specs.Block.{quarter_round, column_round, diagonal_round, double_rounds, block_word}
use Rattle.tab_spec.specs.Persist.{stream_bytes}
use Rattle.effect_spec.specs.Effect.{effect_of}
use Rattle.tab_spec.specs.Auths.{auths_of}
use Rattle.device_spec.specs.Slots.{slot_step}
use Rattle.device_examples.proofs.random_bytes_are_none_or_at_most_32.Goals as goal

pub returns-clause-none : goal.returns-clause-none
unfolding slot_step auths_of effect_of stream_bytes u32_at quarter_round column_round diagonal_round double_rounds block_word
returns-clause-none c = refl

pub returns-clause-most : goal.returns-clause-most
unfolding slot_step auths_of effect_of stream_bytes u32_at quarter_round column_round diagonal_round double_rounds block_word
returns-clause-most c = refl
