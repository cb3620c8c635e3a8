use Rattle.std.proofs.Common.{refl}
use Rattle.rand_core.specs.Steps.{u32_at}
use Rattle.rand_chacha.specs.Block.{quarter_round, column_round, diagonal_round, double_rounds, block_word}
use Rattle.tab_spec.specs.Persist.{stream_bytes}
use Rattle.effect_spec.specs.Effect.{effect_of}
use Rattle.tab_spec.specs.Auths.{auths_of}
use Rattle.tab_spec.specs.Admission.{admitted}
use Rattle.world_spec.specs.World.{client_step, plain_step}
use Rattle.world_examples.proofs.a_history_makes_a_world.Goals as goal

pub returns-clause-whole : goal.returns-clause-whole
unfolding plain_step client_step admitted auths_of effect_of stream_bytes u32_at quarter_round column_round diagonal_round double_rounds block_word
returns-clause-whole c = refl

pub returns-clause-front : goal.returns-clause-front
unfolding plain_step client_step admitted auths_of effect_of stream_bytes u32_at quarter_round column_round diagonal_round double_rounds block_word
returns-clause-front c = refl

pub returns-clause-first : goal.returns-clause-first
unfolding plain_step client_step admitted auths_of effect_of stream_bytes u32_at quarter_round column_round diagonal_round double_rounds block_word
returns-clause-first c = refl

pub returns-clause-second : goal.returns-clause-second
unfolding plain_step client_step admitted auths_of effect_of stream_bytes u32_at quarter_round column_round diagonal_round double_rounds block_word
returns-clause-second c = refl
