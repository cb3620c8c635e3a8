use Rattle.std.proofs.lemmas.List.{map-set}
use Rattle.object_swap.specs.Items.{item_object, new_item}
use Rattle.object_swap.proofs.Moved.{adopts}
use Rattle.object_swap.proofs.laws.adopted_objects_stand.Goals as goal

pub returns-clause-stand : goal.returns-clause-stand
returns-clause-stand c = λ slots items index client slot others stand inside vacant. (adopts slots items index client slot others stand inside vacant).stand

pub returns-clause-objects : goal.returns-clause-objects
returns-clause-objects c = λ slots items index client slot. map-set (item_object slots) items index (new_item client slot)
