use Rattle.std.proofs.Common.{◌≡◌, ℕ, zero, suc, [], ◌∷◌, refl, ap, arith}
use Rattle.std.specs.Prelude.{replicate}
use Rattle.tab_spec.specs.Numbers.{AreInRange, profile_numbers}
use Rattle.tab_spec.specs.Persist.{Persist, stream_bytes}
use Rattle.rand_core.specs.Steps.{u32_at}
use Rattle.rand_chacha.specs.Block.{quarter_round, column_round, diagonal_round, double_rounds, block_word}
use Rattle.effect_spec.specs.Effect.{effect_of}
use Rattle.tab_spec.specs.Auths.{auths_of}
use Rattle.tab_spec.specs.Admission.{admitted}
use Rattle.device_laws.proofs.Replies.{new_is_slots}
use Rattle.device_examples.specs.Examples.{device_at}
use Rattle.device_spec.specs.Slots.{IsSlots}
use Rattle.world_spec.specs.World.{client_step, plain_step}
use Rattle.broker_core.specs.Tables.{table_of}
use Rattle.broker_core.proofs.Beginning.{settled_empty}
use Rattle.broker_tests.proofs.examples.a_device_stands_for_a_world.Goals as goal

range : AreInRange profile_numbers
range = record {
  slots_least = omega arith;
  slots_most = omega arith;
  loaded_least = omega arith;
  loaded_most = omega arith;
  active_most = omega arith;
  gap_least = omega arith;
}

sound_at : IsSlots (device_at 5)
sound_at =
    let fresh = new_is_slots profile_numbers (replicate 32 0) range refl in
    record {
      persist = record {
        seed = fresh.persist.seed;
        place = omega arith;
        owner_auth = fresh.persist.owner_auth;
        nv_count = fresh.persist.nv_count;
        indexes = fresh.persist.indexes;
        pcr_count = fresh.persist.pcr_count;
        pcr_sizes = fresh.persist.pcr_sizes;
        updates = fresh.persist.updates;
      };
      range = range;
      count = fresh.count;
      objects = fresh.objects;
      object_counter = fresh.object_counter;
      numbers = fresh.numbers;
      places = fresh.places;
      loaded = fresh.loaded;
      apart = fresh.apart;
      counter = fresh.counter;
    }

nobody : (client : ℕ) → table_of ([] ∷ [] ∷ []) client ≡ []
nobody zero = refl
nobody (suc zero) = refl
nobody (suc (suc client)) = refl

pub returns-clause-at_its_place : goal.returns-clause-at_its_place
unfolding plain_step client_step admitted auths_of effect_of stream_bytes u32_at quarter_round column_round diagonal_round double_rounds block_word
returns-clause-at_its_place c =
    record {
      persist = refl;
      most = refl;
      settled = settled_empty (device_at 5) profile_numbers 0 refl sound_at refl refl;
      clients = λ client. rw (nobody client) refl;
      sessions = refl;
      left = refl;
      handed = record { of_objects = omega arith; of_sessions = omega arith };
      object_counter = omega arith;
      counter = omega arith;
    }

pub returns-clause-behind : goal.returns-clause-behind
unfolding plain_step client_step admitted auths_of effect_of stream_bytes u32_at quarter_round column_round diagonal_round double_rounds block_word
returns-clause-behind c = λ stands. let place : 4 ≡ 5 = ap (λ (p : Persist). p.place) stands.persist in absurd (cc place)

pub returns-clause-nobodys_object : goal.returns-clause-nobodys_object
returns-clause-nobodys_object c = λ settled. let one : 0 ≡ 1 = settled.objects.owned 0 in absurd (cc one)

pub returns-clause-nobodys_session : goal.returns-clause-nobodys_session
returns-clause-nobodys_session c = λ settled. let one : 0 ≡ 1 = settled.sessions.owned 0 in absurd (cc one)
