use Rattle.std.proofs.Common.{◌∙◌, ℕ, ap, set}
use Rattle.std.proofs.lemmas.List.{map-set}
use Rattle.device_slots.specs.Views.{place_of, places_of}
use Rattle.device_slots.proofs.sessions.put_place.Goals as goal

pub returns-then-number-places : goal.returns-then-number-places
returns-then-number-places c =
    map-set place_of c.args.places.now c.number_of_session-number.result c.args.place
    ∙ ap (λ (n : ℕ). set (places_of c.args.places.now) n (place_of c.args.place)) c.number_of_session-number.ensures
