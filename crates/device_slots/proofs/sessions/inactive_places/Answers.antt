use Rattle.std.proofs.Common.{◌∙◌, ◌++◌, ◌∷◌, [], List, ap}
use Rattle.std.proofs.lemmas.List.{map_push, replicate_more}
use Rattle.device_spec.specs.Slots.{SessionPlace, inactive}
use Rattle.device_slots.specs.declared.sessions.Place.TheVariants.{Inactive}
use Rattle.device_slots.specs.Views.{place_of, places_of}
use Rattle.device_slots.proofs.sessions.inactive_places.Goals as goal

pub loop-preserved : goal.loop-preserved
loop-preserved c =
    ap places_of c.in_ok-push.ensures.items
    ∙ map_push place_of c.loop.places.items Inactive
    ∙ ap (λ (xs : List SessionPlace). xs ++ inactive ∷ []) c.loop.invariant
    ∙ replicate_more c.loop.counter inactive
