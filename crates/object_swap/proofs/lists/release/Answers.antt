use Rattle.std.proofs.Common.{◌+◌, List, arith, subst, sym}
use Rattle.std.proofs.lemmas.List.{length-map}
use Rattle.object_swap.specs.Items.{Item}
use Rattle.object_swap.specs.Records.{IsOwnedBy, item_of, items_of}
use Rattle.object_swap.proofs.Owned.{fewer_vacant, item_listed, owned_out}
use Rattle.object_swap.proofs.lists.release.Goals as goal

pub remove-requires : goal.remove-requires
remove-requires g c =
    let items = items_of c.args.records.now.items in
    let owned = c.requires.owned in
    item_listed items c.args.lists.now owned.0 c.args.vacant.now owned.1 c.args.item c.requires.named.there

pub overflow_add-vacant : goal.overflow_add-vacant
overflow_add-vacant g c =
    let items = items_of c.args.records.now.items in
    let owned = c.requires.owned in
    omega (
      arith,
      fewer_vacant items c.args.lists.now owned.0 c.args.vacant.now owned.1 c.args.item c.requires.named.there,
      length-map c.args.records.now.items item_of,
      c.requires.few,
    )

pub returns-clause-owned : goal.returns-clause-owned
returns-clause-owned g c owners owned =
    let items = items_of c.args.records.now.items in
    let at = item_listed items c.args.lists.now owners c.args.vacant.now owned c.args.item c.requires.named.there in
    let left = c.remove.ensures in
    subst (λ (l : List Item). IsOwnedBy l c.remove.new.lists owners (c.args.vacant.now + 1)) (sym c.forget.ensures.items)
    (owned_out items c.args.lists.now owners c.args.vacant.now owned c.remove.new.lists c.args.item at c.requires.named.inside c.requires.named.there
    (left.lists at) left.spare.0 left.spare.1)
