use Rattle.std.proofs.Common.{◌≡◌, ℕ, List, [], ◌∷◌, Option, Some, None, refl, ap, arith}
use Rattle.rand_core.specs.Steps.{u32_at}
use Rattle.rand_chacha.specs.Block.{quarter_round, column_round, diagonal_round, double_rounds, block_word}
use Rattle.tab_spec.specs.Persist.{stream_bytes}
use Rattle.effect_spec.specs.Effect.{effect_of}
use Rattle.tab_spec.specs.Auths.{auths_of}
use Rattle.tab_spec.specs.Admission.{admitted}
use Rattle.world_spec.specs.World.{client_step, new_client, plain_step, World}
use Rattle.history_spec.specs.Examples.{zero_persist}
use Rattle.world_examples.specs.Examples.{world_with}
use Rattle.world_examples.proofs.a_reply_is_that_of_the_machine.Goals as goal

pub returns-clause-right : goal.returns-clause-right
unfolding plain_step client_step admitted auths_of effect_of stream_bytes u32_at quarter_round column_round diagonal_round double_rounds block_word
returns-clause-right c = (
  refl,
  (
    record {
      form = refl;
      is_open = refl;
      number = record { positive = omega arith; above = (omega arith, tt) };
      after = world_with (zero_persist 5) 1 (new_client 0 ∷ []);
      stepped = refl;
    },
    tt,
  ),
)

abbrev last_of : List ℕ → ℕ
last_of [] = 0
last_of (byte ∷ []) = byte
last_of (byte ∷ next ∷ bytes) = last_of (next ∷ bytes)

-- the last byte of a step's reply
abbrev reply_ends : Option (World × List ℕ) → ℕ
reply_ends None = 0
reply_ends (Some step) = last_of step.1

bytes_differ : ◌≡◌ {A = ℕ} 0xb8 0xb9 → ⊥
bytes_differ same = absurd (omega (arith, same))

pub returns-clause-wrong : goal.returns-clause-wrong
unfolding plain_step client_step admitted auths_of effect_of stream_bytes u32_at quarter_round column_round diagonal_round double_rounds block_word
returns-clause-wrong c = λ legal. bytes_differ (ap reply_ends legal.1.0.stepped)
