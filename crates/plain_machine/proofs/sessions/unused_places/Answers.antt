use Rattle.std.proofs.Common.{◌∙◌, ◌++◌, ◌∷◌, [], List, Option, ap}
use Rattle.std.specs.Prelude.{None, option_map}
use Rattle.std.proofs.lemmas.List.{map_push, replicate_more}
use Rattle.world_spec.specs.World.{Owned}
use Rattle.plain_machine.specs.Owners.{owned_of, owners_of}
use Rattle.plain_machine.proofs.sessions.unused_places.Goals as goal

pub loop-preserved : goal.loop-preserved
loop-preserved c =
    ap owners_of c.in_ok-push.ensures.items
    ∙ map_push (option_map owned_of) c.loop.places.items None
    ∙ ap (λ (places : List (Option Owned)). places ++ None ∷ []) c.loop.invariant
    ∙ replicate_more c.loop.counter None
