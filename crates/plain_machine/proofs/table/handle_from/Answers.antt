use Rattle.std.proofs.Common.{◌∙◌, ap, sym, arith}
use Rattle.std.specs.Prelude.{Option, None, option_map}
use Rattle.std.proofs.lemmas.List.{get_or-map, length-map}
use Rattle.tab_spec.specs.Object as object
use Rattle.tab_spec.specs.declared.TheConstants.{TRANSIENT_FIRST}
use Rattle.tab_values.specs.Views.{object_of}
use Rattle.effect_spec.specs.Capabilities.{transient_from}
use Rattle.fx_capability.specs.Lists.{number_from}
use Rattle.fx_capability.proofs.Objects.{object_passed, object_reached}
use Rattle.plain_machine.specs.Views.{objects_of}
use Rattle.plain_machine.proofs.table.handle_from.Goals as goal

pub returns-then-is_object_from : goal.returns-then-is_object_from
returns-then-is_object_from c =
    let places = c.args.places.now in
    let place : Option object.Object = option_map object_of c.index-places-number.result in
    object_reached c.args.least TRANSIENT_FIRST c.loop-number.number (objects_of places) place
    (number_from c.args.least (transient_from TRANSIENT_FIRST (objects_of places))) (omega (arith, length-map places (option_map object_of)))
    (get_or-map (option_map object_of) places c.loop-number.number c.index-places-number.result None c.loop-number-test.true
    ∙ ap (option_map object_of) (sym c.index-places-number.is))
    (sym c.if-is_object_from.ensures) c.loop-number.invariant

pub loop-number-preserved : goal.loop-number-preserved
loop-number-preserved c =
    let places = c.args.places.now in
    let place : Option object.Object = option_map object_of c.index-places-number.result in
    object_passed c.args.least TRANSIENT_FIRST c.loop-number.number (objects_of places) place
    (number_from c.args.least (transient_from TRANSIENT_FIRST (objects_of places))) (omega (arith, length-map places (option_map object_of)))
    (get_or-map (option_map object_of) places c.loop-number.number c.index-places-number.result None c.loop-number-test.true
    ∙ ap (option_map object_of) (sym c.index-places-number.is))
    (sym c.if-is_object_from.ensures) c.loop-number.invariant
