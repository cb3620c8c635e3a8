use Rattle.std.specs.Prelude.{option_map}
use Rattle.std.proofs.lemmas.List.{map-set}
use Rattle.plain_machine.specs.Owners.{owned_of}
use Rattle.plain_machine.proofs.sessions.put_place.Goals as goal

pub returns-then-number-places : goal.returns-then-number-places
returns-then-number-places c = map-set (option_map owned_of) c.args.places.now c.args.number c.args.place
