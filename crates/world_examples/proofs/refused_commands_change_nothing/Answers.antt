use Rattle.std.proofs.Common.{refl}
use Rattle.rand_core.specs.Steps.{u32_at}
use Rattle.rand_chacha.specs.Block.{quarter_round, column_round, diagonal_round, double_rounds, block_word}
use Rattle.tab_spec.specs.Persist.{stream_bytes}
use Rattle.effect_spec.specs.Effect.{effect_of}
use Rattle.tab_spec.specs.Auths.{auths_of}
use Rattle.tab_spec.specs.Admission.{admitted}
use Rattle.world_spec.specs.World.{client_step, plain_step}
use Rattle.world_examples.proofs.refused_commands_change_nothing.Goals as goal

pub returns-clause-bad_tag : goal.returns-clause-bad_tag
unfolding plain_step client_step admitted auths_of
returns-clause-bad_tag c = refl

pub returns-clause-command_code : goal.returns-clause-command_code
unfolding plain_step client_step admitted auths_of
returns-clause-command_code c = refl

pub returns-clause-a_pick : goal.returns-clause-a_pick
unfolding plain_step client_step admitted auths_of effect_of stream_bytes u32_at quarter_round column_round diagonal_round double_rounds block_word
returns-clause-a_pick c = refl

pub returns-clause-startup : goal.returns-clause-startup
unfolding plain_step client_step admitted auths_of
returns-clause-startup c = refl

pub returns-clause-cut_startup : goal.returns-clause-cut_startup
unfolding plain_step client_step admitted auths_of
returns-clause-cut_startup c = refl

pub returns-clause-startup_with_an_area : goal.returns-clause-startup_with_an_area
unfolding plain_step client_step admitted auths_of
returns-clause-startup_with_an_area c = refl
