use Rattle.std.proofs.Common.{◌∙◌, ◌++◌, ◌∷◌, [], List, ap}
use Rattle.std.specs.Prelude.{None, Option, option_map}
use Rattle.std.proofs.lemmas.List.{map_push, replicate_more}
use Rattle.tab_spec.specs.Object.{Object}
use Rattle.tab_values.specs.Views.{object_of}
use Rattle.device_slots.specs.Views.{slots_of}
use Rattle.device_slots.proofs.slots.free_slots.Goals as goal

pub loop-preserved : goal.loop-preserved
loop-preserved c =
    ap slots_of c.in_ok-push.ensures.items
    ∙ map_push (option_map object_of) c.loop.slots.items None
    ∙ ap (λ (xs : List (Option Object)). xs ++ None ∷ []) c.loop.invariant
    ∙ replicate_more c.loop.counter None
