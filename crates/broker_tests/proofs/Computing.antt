-- What the worked examples unfold: one name for the definitions that they compute lists with.
use Rattle.std.specs.Prelude.{⊤}
use Rattle.effect_spec.specs.Capabilities.{from_number, property_items}
use Rattle.client_machine.specs.Listing.{sessions_had}

unfoldable pub lists : ⊤
unfolding sessions_had from_number property_items
lists = tt
