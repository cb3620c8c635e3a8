use Rattle.std.proofs.Common.{[], ◌∷◌, refl, arith}
use Rattle.effect_spec.specs.Effect.{effect_of}
use Rattle.tab_spec.specs.Auths.{auths_of}
use Rattle.tab_spec.specs.Admission.{admitted}
use Rattle.world_spec.specs.World.{client_step, new_client, plain_step}
use Rattle.history_spec.specs.Examples.{zero_persist}
use Rattle.world_examples.specs.Examples.{world_with}
use Rattle.world_examples.proofs.histories_have_a_limit_of_sessions.Goals as goal

pub returns-clause-none : goal.returns-clause-none
unfolding plain_step client_step admitted auths_of effect_of
returns-clause-none c = (
  refl,
  (
    record {
      form = refl;
      is_open = refl;
      number = record { positive = omega arith; above = (omega arith, tt) };
      after = record (world_with (zero_persist 0) 1 (new_client 0 ∷ [])) { most = 0 };
      stepped = refl;
    },
    tt,
  ),
)

pub returns-clause-many : goal.returns-clause-many
unfolding plain_step client_step admitted auths_of effect_of
returns-clause-many c = λ legal. let stepped = legal.1.0.stepped in absurd cc
