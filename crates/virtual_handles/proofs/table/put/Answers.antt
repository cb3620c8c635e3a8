use Rattle.std.proofs.Common.{◌≡◌, ◌++◌, ◌∷◌, [], Some, arith, ap, sym, ◌∙◌}
use Rattle.std.specs.Prelude.{slice_set}
use Rattle.virtual_handles.proofs.Walks.{put_within, put_behind}
use Rattle.virtual_handles.proofs.table.put.Goals as goal

pub returns-then-number-len-clause-items : goal.returns-then-number-len-clause-items
returns-then-number-len-clause-items c =
    ap (λ number. slice_set c.args.places.now.items number (Some c.args.item)) c.requires.least
    ∙ sym (put_within c.args.item c.args.places.now.items (omega (arith, c.args.places.now.ok)))

pub returns-else-number-len-clause-items : goal.returns-else-number-len-clause-items
returns-else-number-len-clause-items c =
    let pushed : c.push.new.self.items ≡ c.args.places.now.items ++ Some c.args.item ∷ [] = rw c.unwrap.ensures at c.push.ensures.items in
    pushed ∙ sym (put_behind c.args.item c.args.places.now.items (omega (arith, c.args.places.now.ok)))
