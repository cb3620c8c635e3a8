use Rattle.std.proofs.lemmas.List.{map-set}
use Rattle.object_swap.specs.Items.{item_object, no_item}
use Rattle.object_swap.proofs.Orphans.{orphaned_last, orphaned_stand}
use Rattle.object_swap.proofs.laws.orphaned_objects_stand.Goals as goal

pub returns-clause-stand : goal.returns-clause-stand
returns-clause-stand c = λ slots items index slot others stand inside is. orphaned_stand slots items index slot others stand inside is

pub returns-clause-objects : goal.returns-clause-objects
returns-clause-objects c = λ slots items index. map-set (item_object slots) items index no_item

pub returns-clause-last : goal.returns-clause-last
returns-clause-last c = λ slots items slot others stand. orphaned_last slots items slot others stand
