use Rattle.std.proofs.Common.{ap, sym, ◌∙◌, subst, arith, refl, List, ℕ, Bool, [], ◌∷◌, ◌++◌}
use Rattle.std.specs.Prelude.{Ok, Err}
use Rattle.std.proofs.lemmas.Bool.{false≢true}
use Rattle.std.proofs.lemmas.Result.{err_from_is_err_and}
use Rattle.device_port.proofs.Sending.{asks_none, asks_some, some_failed}
use Rattle.object_swap.specs.Records.{ListsFlags, items_of, residency}
use Rattle.object_swap.proofs.Costs.{none_if_failed, on_err_all, sent_one}
use Rattle.object_swap.proofs.Flags.{flag_listed, lists_added}
use Rattle.object_swap.proofs.Listed.{flag_at, item_unflagged, list_room, named_inside, not_listed, out_item_is, resident_set}
use Rattle.object_swap.proofs.Missing.{residents_more}
use Rattle.object_swap.proofs.residents.make_resident.Goals as goal

pub is_in_slot-requires : goal.is_in_slot-requires
is_in_slot-requires g c = named_inside c.args.records.now c.args.item c.requires.named

pub move_last-requires : goal.move_last-requires
move_last-requires g c =
    let here = sym c.is_in_slot.ensures ∙ c.if-is_in_slot.true in
    flag_listed (residency c.args.records.now) c.args.loaded.now.items c.args.item c.requires.listed.lists (flag_at (items_of c.args.records.now) c.args.item ∙ here)

pub returns-then-is_in_slot-clause-listed : goal.returns-then-is_in_slot-clause-listed
returns-then-is_in_slot-clause-listed g c = record {
  lists = c.move_last.ensures.listed (residency c.args.records.now) c.requires.listed.lists;
  most = omega (arith, c.requires.listed.most, c.move_last.ensures.capacity);
}

pub returns-then-is_in_slot-clause-brings : goal.returns-then-is_in_slot-clause-brings
returns-then-is_in_slot-clause-brings g c = record {
  others = λ other apart. refl;
  sent = omega arith;
  resident = resident_set c.args.records.now c.args.item (sym c.is_in_slot.ensures ∙ c.if-is_in_slot.true);
  failed = tt;
  order = c.move_last.ensures.order;
  unused = tt;
  paid = omega arith;
  idle = λ here. (refl, refl, refl);
}

pub take_slot-requires-clause-item : goal.take_slot-requires-clause-item
take_slot-requires-clause-item g c = out_item_is c.args.records.now c.args.item c.requires.named (sym c.is_in_slot.ensures ∙ c.if-is_in_slot.false)

pub list_last-requires : goal.list_last-requires
list_last-requires g c =
    let item = out_item_is c.args.records.now c.args.item c.requires.named (sym c.is_in_slot.ensures ∙ c.if-is_in_slot.false) in
    omega (arith, list_room c.args.records.now c.args.loaded.now.items c.args.item c.requires.listed.lists item, c.requires.listed.most)

pub returns-clause-listed : goal.returns-clause-listed
returns-clause-listed g c =
    let flags = residency c.args.records.now in
    let item = out_item_is c.args.records.now c.args.item c.requires.named (sym c.is_in_slot.ensures ∙ c.if-is_in_slot.false) in
    let out = item_unflagged c.args.records.now c.args.item item in
    record {
      lists = subst (λ (l : List ℕ). ListsFlags (residency c.take_slot.new.records) l) (sym {A = List ℕ} c.list_last.ensures.last)
          (subst (λ (f : List Bool). ListsFlags f (c.args.loaded.now.items ++ c.args.item ∷ [])) (sym c.in_ok-take_slot.ensures.ok.0)
          (lists_added flags c.args.loaded.now.items c.args.item c.requires.listed.lists out.0 out.1));
      most = omega (arith, c.requires.listed.most, c.list_last.ensures.capacity);
    }

pub returns-clause-brings : goal.returns-clause-brings
returns-clause-brings g c =
    let records = c.args.records.now in
    let loaded = c.args.loaded.now.items in
    let item = out_item_is records c.args.item c.requires.named (sym c.is_in_slot.ensures ∙ c.if-is_in_slot.false) in
    let left = c.in_ok-take_slot.ensures in
    let sent = sent_one g.D.Device.seen c.args.device.now c.take_slot.new.device _ _ left.asks.2 in
    let more = residents_more records c.take_slot.new.records c.args.item item.inside item.slot left.ok.0 in
    record {
      others = left.others;
      sent = sent;
      resident = left.ok.0;
      failed = tt;
      order = c.list_last.ensures.last ∙ ap (λ (l : List ℕ). l ++ c.args.item ∷ []) (sym (not_listed records loaded c.args.item c.requires.listed.lists item));
      unused = tt;
      paid = omega (arith, sent, more);
      idle = λ here. absurd (false≢true (sym item.slot ∙ here));
    }

pub returns-in_err-take_slot-clause-brings : goal.returns-in_err-take_slot-clause-brings
returns-in_err-take_slot-clause-brings g c =
    let records = c.args.records.now in
    let item = out_item_is records c.args.item c.requires.named (sym c.is_in_slot.ensures ∙ c.if-is_in_slot.false) in
    let left = c.in_err-take_slot.ensures in
    let failed = err_from_is_err_and c.from_residual.result c.from_residual.ensures.1 in
    record {
      others = left.others;
      sent = sent_one g.D.Device.seen c.args.device.now c.take_slot.new.device _ _ left.asks.2;
      resident = none_if_failed _ c.from_residual.result _ failed.1;
      failed = on_err_all _ c.from_residual.result left.err;
      order = none_if_failed _ c.from_residual.result _ failed.1;
      unused = on_err_all _ c.from_residual.result refl;
      paid = none_if_failed _ c.from_residual.result _ failed.1;
      idle = λ here. absurd (false≢true (sym item.slot ∙ here));
    }

pub returns-then-is_in_slot-clause-asks : goal.returns-then-is_in_slot-clause-asks
returns-then-is_in_slot-clause-asks g c = asks_none g.D.Device.CONTEXTS g.D.Device.seen c.args.device.now

pub returns-in_err-take_slot-clause-asks : goal.returns-in_err-take_slot-clause-asks
returns-in_err-take_slot-clause-asks g c =
    let seen = g.D.Device.seen in
    some_failed g.D.Device.CONTEXTS seen _ _ _ c.from_residual.result (err_from_is_err_and c.from_residual.result c.from_residual.ensures.1)
    (asks_some g.D.Device.CONTEXTS seen _ _ _ (Err _) c.in_err-take_slot.ensures.asks.2)

pub returns-clause-asks : goal.returns-clause-asks
returns-clause-asks g c = asks_some g.D.Device.CONTEXTS g.D.Device.seen _ _ _ (Ok tt) c.in_ok-take_slot.ensures.asks.2
