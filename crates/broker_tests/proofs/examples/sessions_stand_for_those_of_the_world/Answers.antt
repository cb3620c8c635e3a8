use Rattle.std.proofs.Common.{◌≡◌, ◌+◌, ℕ, zero, suc, true, false, List, [], ◌∷◌, Option, refl, ap, subst, sym, ◌∙◌, arith}
use Rattle.std.specs.Prelude.{◌==◌, Bool, get_or, is_some, replicate, IfSome, if◌then◌else◌}
use Rattle.std.specs.List.{AllByRecursion}
use Rattle.tab_spec.specs.Numbers.{AreInRange, profile_numbers}
use Rattle.tab_spec.specs.Object.{Object}
use Rattle.device_spec.specs.Slots.{IsPlace, IsSlots, inactive, is_active}
use Rattle.device_laws.proofs.Replies.{new_is_slots}
use Rattle.session_swap.specs.Items as sessions
use Rattle.session_swap.specs.Items.{ItemStands, flag, item_at, place_at}
use Rattle.world_spec.specs.World.{table_in}
use Rattle.broker_tests.specs.Examples.{held_with, one_session_world, two_session_device, two_sessions}
use Rattle.client_machine.specs.Settled.{IsSettled}
use Rattle.client_machine.specs.Tables.{objects_in}
use Rattle.broker_core.specs.Tables.{table_of}
use Rattle.broker_core.proofs.Beginning.{none_at, owned_nothing}
use Rattle.broker_tests.proofs.examples.sessions_stand_for_those_of_the_world.Goals as goal

unused_are_places : (count : ℕ) → AllByRecursion (λ place. IsPlace 0 place) (replicate count inactive)
unused_are_places zero = tt
unused_are_places (suc count) = (tt, unused_are_places count)

unused_at : (count number : ℕ) → is_active (get_or (replicate count inactive) number inactive) ≡ false
unused_at zero number = refl
unused_at (suc count) zero = refl
unused_at (suc count) (suc number) = unused_at count number

range : AreInRange profile_numbers
range = record {
  slots_least = omega arith;
  slots_most = omega arith;
  loaded_least = omega arith;
  loaded_most = omega arith;
  active_most = omega arith;
  gap_least = omega arith;
}

sound : IsSlots two_session_device
sound =
    let fresh = new_is_slots profile_numbers (replicate 32 0) range refl in
    record {
      persist = record {
        seed = fresh.persist.seed;
        place = omega arith;
        owner_auth = fresh.persist.owner_auth;
        nv_count = fresh.persist.nv_count;
        indexes = fresh.persist.indexes;
        pcr_count = fresh.persist.pcr_count;
        pcr_sizes = fresh.persist.pcr_sizes;
        updates = fresh.persist.updates;
      };
      range = range;
      count = fresh.count;
      objects = fresh.objects;
      object_counter = fresh.object_counter;
      numbers = refl;
      places = (
        (refl, record { nonce = refl; digest = refl; command_code = tt; pcr_updates = tt }),
        ((refl, record { nonce = refl; digest = refl; command_code = tt; pcr_updates = tt }), unused_are_places 62),
      );
      loaded = omega arith;
      apart = λ number. omega arith;
      counter = omega arith;
    }

each : (number : ℕ) → IfSome (item_at (held_with [] two_sessions).sessions.items number) (λ item. ItemStands two_session_device number item)
each zero = record { number_is = refl; handle = refl; place = refl; there = refl }
each (suc zero) = record { number_is = refl; handle = refl; place = refl; there = refl }
each (suc (suc number)) =
    subst (λ (item : Option sessions.Item). IfSome item (λ item. ItemStands two_session_device (suc (suc number)) item)) (sym (none_at 62 number)) tt

owned : (number : ℕ)
    → flag (is_some (item_at (held_with [] two_sessions).sessions.items number)) + 0 ≡ flag (is_active (place_at two_session_device number))
owned zero = refl
owned (suc zero) = refl
owned (suc (suc number)) =
    ap (λ (item : Option sessions.Item). flag (is_some item) + 0) (none_at 62 number) ∙ sym (ap flag (unused_at 62 number))

settled : IsSettled two_session_device (held_with [] two_sessions)
settled = record {
  objects = record { started = refl; sound = sound; each = tt; owned = owned_nothing two_session_device refl };
  sessions = record { started = refl; sound = sound; numbers = refl; count = refl; each = each; owned = owned; next = λ saved. absurd cc; rise = tt };
  gap = omega arith;
}

abbrev no_objects : List (Option Object)
no_objects = []

empty_by : (first second : Bool) → (if first then no_objects else if second then no_objects else no_objects) ≡ no_objects
empty_by true second = refl
empty_by false true = refl
empty_by false false = refl

nobody : (client : ℕ) → table_in one_session_world.clients client ≡ objects_in two_session_device [] (table_of ([] ∷ [] ∷ []) client)
nobody zero = refl
nobody (suc zero) = refl
nobody (suc (suc client)) = empty_by (0 == suc (suc client)) (1 == suc (suc client))

pub returns-clause-stand : goal.returns-clause-stand
returns-clause-stand c =
    record {
      persist = refl;
      most = refl;
      settled = settled;
      clients = nobody;
      sessions = refl;
      left = refl;
      handed = record { of_objects = omega arith; of_sessions = omega arith };
      object_counter = omega arith;
      counter = omega arith;
    }

pub returns-clause-closed : goal.returns-clause-closed
returns-clause-closed c = λ are. absurd cc
