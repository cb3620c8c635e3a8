use Rattle.std.proofs.Common.{◌∙◌, ap, sym, arith}
use Rattle.std.specs.Prelude.{Option, None, option_map}
use Rattle.std.proofs.lemmas.List.{length-map, get_or-map}
use Rattle.tab_spec.specs.Object as object
use Rattle.tab_spec.specs.declared.TheConstants.{TRANSIENT_FIRST}
use Rattle.fx_capability.specs.Lists.{number_from}
use Rattle.tab_values.specs.Views.{object_of}
use Rattle.effect_spec.specs.Capabilities.{transient_from}
use Rattle.device_slots.specs.Views.{slots_of}
use Rattle.device_slots.proofs.Listed.{from_found, from_next}
use Rattle.device_slots.proofs.slots.object_from.Goals as goal

pub returns-then-is_object_from : goal.returns-then-is_object_from
returns-then-is_object_from c =
    let kept = c.args.slots.now in
    let held : Option object.Object = option_map object_of c.index-slots-slot.result in
    from_found c.args.least TRANSIENT_FIRST c.loop-slot.slot (slots_of kept) held (number_from c.args.least (transient_from TRANSIENT_FIRST (slots_of kept)))
    (omega (arith, length-map kept (option_map object_of)))
    (get_or-map (option_map object_of) kept c.loop-slot.slot c.index-slots-slot.result None c.loop-slot-test.true ∙ ap (option_map object_of) (sym c.index-slots-slot.is))
    (sym c.is_object_from.ensures ∙ c.if-is_object_from.true)
    c.loop-slot.invariant

pub loop-slot-preserved : goal.loop-slot-preserved
loop-slot-preserved c =
    let kept = c.args.slots.now in
    let held : Option object.Object = option_map object_of c.index-slots-slot.result in
    from_next c.args.least TRANSIENT_FIRST c.loop-slot.slot (slots_of kept) held (number_from c.args.least (transient_from TRANSIENT_FIRST (slots_of kept)))
    (omega (arith, length-map kept (option_map object_of)))
    (get_or-map (option_map object_of) kept c.loop-slot.slot c.index-slots-slot.result None c.loop-slot-test.true ∙ ap (option_map object_of) (sym c.index-slots-slot.is))
    (sym c.is_object_from.ensures ∙ c.if-is_object_from.false)
    c.loop-slot.invariant
