-- What the worked examples unfold: one name for each group of definitions that they compute with.
use Rattle.std.specs.Prelude.{⊤}
use Rattle.tab_examples.proofs.Computing.{hashes, draws}
use Rattle.effect_spec.specs.Contexts.{opened_object}
use Rattle.effect_spec.specs.Capabilities.{from_number, command_items, property_items}

unfoldable pub hashed : ⊤
unfolding hashes draws opened_object
hashed = tt

unfoldable pub lists : ⊤
unfolding from_number command_items property_items
lists = tt
