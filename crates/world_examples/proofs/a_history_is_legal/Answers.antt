use Rattle.std.proofs.Common.{◌∷◌, [], take, refl, arith}
use Rattle.rand_core.specs.Steps.{u32_at}
use Rattle.rand_chacha.specs.Block.{quarter_round, column_round, diagonal_round, double_rounds, block_word}
use Rattle.tab_spec.specs.Persist.{stream_bytes}
use Rattle.effect_spec.specs.Effect.{effect_of}
use Rattle.tab_spec.specs.Auths.{auths_of}
use Rattle.tab_spec.specs.Admission.{admitted}
use Rattle.world_spec.specs.World.{client_step, new_client, plain_step}
use Rattle.history_spec.specs.Examples.{get_random, eight_reply, six_reply, four_reply, zero_persist, plain_entry, two_clients}
use Rattle.world_examples.specs.Examples.{world_with}
use Rattle.world_spec.specs.Legal.{IsRun}
use Rattle.world_examples.proofs.a_history_is_legal.Goals as goal

pub returns : goal.returns
unfolding plain_step client_step admitted auths_of effect_of stream_bytes u32_at quarter_round column_round diagonal_round double_rounds block_word
returns c =
    let first : IsRun (zero_persist 0) 64 (take 1 two_clients) (plain_entry 0 1 (get_random 8) eight_reply) = record {
      form = refl;
      is_open = refl;
      number = record { positive = omega arith; above = (omega arith, tt) };
      after = world_with (zero_persist 2) 1 (new_client 0 ∷ []);
      stepped = refl;
    } in
    let second : IsRun (zero_persist 0) 64 (take 3 two_clients) (plain_entry 1 1 (get_random 6) six_reply) = record {
      form = refl;
      is_open = refl;
      number = record { positive = omega arith; above = (omega arith, tt) };
      after = world_with (zero_persist 4) 2 (new_client 0 ∷ new_client 1 ∷ []);
      stepped = refl;
    } in
    let third : IsRun (zero_persist 0) 64 (take 4 two_clients) (plain_entry 0 2 (get_random 4) four_reply) = record {
      form = refl;
      is_open = refl;
      number = record { positive = omega arith; above = (omega arith, (omega arith, tt)) };
      after = world_with (zero_persist 5) 2 (new_client 0 ∷ new_client 1 ∷ []);
      stepped = refl;
    } in
    (refl, (first, (refl, (second, (third, (record { form = refl; is_open = refl }, (record { form = refl; is_open = refl }, tt)))))))
