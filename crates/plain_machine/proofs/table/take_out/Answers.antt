use Rattle.std.proofs.Common.{◌∙◌, ap, sym}
use Rattle.std.specs.Prelude.{ℕ, None, option_map, set}
use Rattle.std.proofs.lemmas.List.{map-set}
use Rattle.tab_values.specs.Views.{object_of}
use Rattle.plain_machine.specs.Views.{objects_of}
use Rattle.plain_machine.proofs.Places.{taken_out}
use Rattle.plain_machine.proofs.table.take_out.Goals as goal

pub returns-then-number-len-clause-items : goal.returns-then-number-len-clause-items
returns-then-number-len-clause-items c =
    let items = c.args.places.now.items in
    map-set (option_map object_of) items c.number_of-number.result None
    ∙ ap (λ (n : ℕ). set (objects_of items) n None) c.number_of-number.ensures
    ∙ sym (taken_out (objects_of items) c.args.handle c.requires.there)
