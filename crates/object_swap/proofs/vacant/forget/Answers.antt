use Rattle.std.proofs.Common.{sym, subst, arith}
use Rattle.std.proofs.lemmas.List.{map-set}
use Rattle.std.proofs.lemmas.Bool.{false≢true}
use Rattle.object_swap.specs.declared.record.Record.{Record}
use Rattle.object_swap.specs.Records.{IsRecord, item_of}
use Rattle.object_swap.proofs.Listed.{named_inside}
use Rattle.object_swap.proofs.Recorded.{record_at, records_set}
use Rattle.object_swap.proofs.vacant.forget.Goals as goal

pub index_mut-record-requires : goal.index_mut-record-requires
index_mut-record-requires c = omega (arith, named_inside c.args.records.now.items c.args.item c.requires.named)

pub returns-clause-items : goal.returns-clause-items
returns-clause-items c = map-set item_of c.args.records.now.items c.args.item _

pub returns-clause-sound : goal.returns-clause-sound
returns-clause-sound c contexts sound =
    let records = c.args.records.now.items in
    let d = c.index_mut-record.result.now in
    let old = record_at records c.args.item d sound (named_inside records c.args.item c.requires.named) in
    let kept : IsRecord contexts d = subst (λ (r : Record). IsRecord contexts r) (sym c.index_mut-record.ensures.value) old in
    records_set records c.args.item _ sound (record { handle = tt; room = kept.room; context = λ none. absurd (false≢true none) })
