use Rattle.std.proofs.Common.{refl}
use Rattle.effect_spec.specs.Capabilities.{from_number, command_items, property_items}
use Rattle.effect_examples.proofs.capabilities_are_told.Goals as goal

pub returns-clause-handles : goal.returns-clause-handles
unfolding from_number command_items property_items
returns-clause-handles c = refl

pub returns-clause-active : goal.returns-clause-active
unfolding from_number command_items property_items
returns-clause-active c = refl

pub returns-clause-saved : goal.returns-clause-saved
unfolding from_number command_items property_items
returns-clause-saved c = refl

pub returns-clause-indexes : goal.returns-clause-indexes
unfolding from_number command_items property_items
returns-clause-indexes c = refl

pub returns-clause-pcrs : goal.returns-clause-pcrs
unfolding from_number command_items property_items
returns-clause-pcrs c = refl

pub returns-clause-commands : goal.returns-clause-commands
unfolding from_number command_items property_items
returns-clause-commands c = refl

pub returns-clause-unknown : goal.returns-clause-unknown
unfolding from_number command_items property_items
returns-clause-unknown c = refl
