use Rattle.std.proofs.Common.{◌∙◌, ap, arith, length, sym}
use Rattle.std.specs.Prelude.{option_map, None}
use Rattle.std.proofs.lemmas.List.{length-map, length-replicate}
use Rattle.tab_spec.specs.declared.TheConstants.{SESSION_NUMBERS}
use Rattle.tab_values.specs.Views.{object_of}
use Rattle.device_spec.specs.Slots.{inactive}
use Rattle.device_slots.specs.Views.{place_of}
use Rattle.device_slots.proofs.machine.SlotMachine.new.Goals as goal

pub invariant_of-result : goal.invariant_of-result
invariant_of-result c =
    let slots = c.in_ok-free_slots.field-0.items in
    let places = c.in_ok-inactive_places.field-0.items in (
      sym (length-map slots (option_map object_of)) ∙ ap length c.in_ok-free_slots.ensures ∙ length-replicate c.from.result None ∙ c.from.ensures,
      sym (length-map places place_of) ∙ ap length c.in_ok-inactive_places.ensures ∙ length-replicate SESSION_NUMBERS inactive,
      c.new-context_keys.ensures ∙ c.seed.ensures,
      omega arith,
    )
