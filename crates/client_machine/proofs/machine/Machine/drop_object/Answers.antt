use Rattle.std.proofs.Common.{◌≡◌, Ok, Err, refl, ap, ◌∙◌, arith, rules}
use Rattle.object_swap.specs.Items.{ObjectsView, item_at}
use Rattle.client_machine.proofs.Costs.{sent_slot}
use Rattle.client_machine.proofs.Disowning.{is_in_slot}
use Rattle.client_machine.proofs.Dropping.{IsNamed, among_residents, disowns_left, dropped, fewer_objects, fewer_residents, left, orphaned}
use Rattle.client_machine.proofs.Keeping.{failed_cause}
use Rattle.client_machine.proofs.Settling.{objects_settled}
use Rattle.client_machine.proofs.Tried.{slot_failed, slot_ok, slot_wrong}
use Rattle.client_machine.proofs.machine.Machine.drop_object.Goals as goal

pub drop_by-requires-clause-stand : goal.drop_by-requires-clause-stand
drop_by-requires-clause-stand g c = (c.args.self.now.held.objects.left, objects_settled _ _ c.requires.settled)

pub returns-in-Ok-clause-ok : goal.returns-in-Ok-clause-ok
returns-in-Ok-clause-ok g c =
    λ client own.
    let held = c.args.self.now.held in
    let item = c.args.item in
    let done = c.in-Ok.ensures.drops in
    let at : IsNamed held.objects.items client item = record { names = c.requires.named; own = own } in
    record {
      failed = 0;
      drops = dropped _ client _ _ held c.drop_by.new.self item
          (record {
            items_are = done.ok.0.items;
            objects = done.ok.0.objects;
            stand = done.dropped.stand held.objects.left (objects_settled _ _ c.requires.settled);
            counter = done.dropped.counter;
            rest = done.dropped.rest;
            taken = done.asks.answered;
            slots = done.dropped.slots;
            owners = done.dropped.owners;
            left = done.dropped.left;
            made_for = done.dropped.contexts;
          })
          at c.requires.settled;
      fewer = fewer_objects held.objects.items c.drop_by.new.self.items client item at done.ok.0.items;
      costs = omega (
        arith,
        sent_slot _ g.D.Device.seen (item_at held.objects.items item).slot tt _ _ (Ok tt) done.sent,
        fewer_residents held.objects.items c.drop_by.new.self.items client item at done.ok.0.items,
      );
    }

pub returns-in-Ok-clause-disowns : goal.returns-in-Ok-clause-disowns
returns-in-Ok-clause-disowns g c = record {
  keeps = search rules;
  made_for = record { objects = c.in-Ok.ensures.drops.dropped.contexts; sessions = refl };
  slots = search rules;
  numbers = search rules;
  length_is = search rules;
  lists = tt;
  left = search rules;
  err = tt;
  sent = slot_ok g.D.Device.seen c.args.self.now.held.sessions.items (item_at c.args.self.now.held.objects.items c.args.item).slot tt tt _ _ c.in-Ok.ensures.drops.sent;
}

pub returns-in-Ok-clause-costs : goal.returns-in-Ok-clause-costs
returns-in-Ok-clause-costs g c =
    λ client own.
    let items = c.args.self.now.held.objects.items in
    let item = c.args.item in
    omega (
      arith,
      sent_slot _ g.D.Device.seen (item_at items item).slot tt _ _ (Ok tt) c.in-Ok.ensures.drops.sent,
      among_residents items client item (record { names = c.requires.named; own = own }),
    )

pub returns-in-Err-Failed-clause-ok : goal.returns-in-Err-Failed-clause-ok
returns-in-Err-Failed-clause-ok g c =
    λ client own.
    let held = c.args.self.now.held in
    let item = c.args.item in
    let failed = c.in-Err-Failed.ensures.drops in
    let cause = failed_cause g.D.Device.CONTEXTS g.D.Device.seen _ c.in-Err-Failed.field-0-0 _ _ c.in-Err-Failed.field-0-is failed.asks.cause in
    let at : IsNamed held.objects.items client item = record { names = c.requires.named; own = own } in
    let slot = is_in_slot _ _ (item_at held.objects.items item).slot tt c.in-Err-Failed.field-0 failed.sent in
    let view_is : c.orphan_by.new.self ≡ orphaned held.objects item slot.0 =
    c.orphan_by.ensures.left slot.0 (ap (λ (v : ObjectsView). (item_at v.items item).slot) failed.err.0 ∙ slot.1)
    ∙ ap (λ (v : ObjectsView). orphaned v item slot.0) failed.err.0 in
    let items_are = ap (λ (v : ObjectsView). v.items) view_is in
    record {
      failed = 1;
      drops = left _ client _ _ held c.orphan_by.new.self item slot.0 view_is slot.1 failed.err.1 failed.dropped.rest cause.0 cause.1 at
          c.requires.settled;
      fewer = fewer_objects held.objects.items c.orphan_by.new.self.items client item at items_are;
      costs = omega (
        arith,
        sent_slot _ g.D.Device.seen (item_at held.objects.items item).slot tt _ _ (Err _) failed.sent,
        fewer_residents held.objects.items c.orphan_by.new.self.items client item at items_are,
      );
    }

pub returns-in-Err-Failed-clause-rest : goal.returns-in-Err-Failed-clause-rest
returns-in-Err-Failed-clause-rest g c =
    let held = c.args.self.now.held in
    let item = c.args.item in
    let failed = c.in-Err-Failed.ensures.drops in
    let slot = is_in_slot _ _ (item_at held.objects.items item).slot tt c.in-Err-Failed.field-0 failed.sent in
    let view_is = c.orphan_by.ensures.left slot.0 (ap (λ (v : ObjectsView). (item_at v.items item).slot) failed.err.0 ∙ slot.1) in
    (refl, ap (λ (v : ObjectsView). v.owners) view_is ∙ ap (λ (v : ObjectsView). v.owners) failed.err.0)

pub returns-in-Err-Failed-clause-disowns : goal.returns-in-Err-Failed-clause-disowns
returns-in-Err-Failed-clause-disowns g c =
    let held = c.args.self.now.held in
    let item = c.args.item in
    let failed = c.in-Err-Failed.ensures.drops in
    let cause = failed_cause g.D.Device.CONTEXTS g.D.Device.seen _ c.in-Err-Failed.field-0-0 _ _ c.in-Err-Failed.field-0-is failed.asks.cause in
    let slot = is_in_slot _ _ (item_at held.objects.items item).slot tt c.in-Err-Failed.field-0 failed.sent in
    disowns_left _ _ _ held c.orphan_by.new.self item slot.0 tt
    (c.orphan_by.ensures.left slot.0 (ap (λ (v : ObjectsView). (item_at v.items item).slot) failed.err.0 ∙ slot.1)
    ∙ ap (λ (v : ObjectsView). orphaned v item slot.0) failed.err.0)
    failed.dropped.rest cause.0
    (slot_failed g.D.Device.seen held.sessions.items (item_at held.objects.items item).slot tt _ _ c.in-Err-Failed.field-0 cause.1 failed.sent)

pub returns-in-Err-Failed-clause-costs : goal.returns-in-Err-Failed-clause-costs
returns-in-Err-Failed-clause-costs g c =
    λ client own.
    let items = c.args.self.now.held.objects.items in
    let item = c.args.item in
    omega (
      arith,
      sent_slot _ g.D.Device.seen (item_at items item).slot tt _ _ (Err _) c.in-Err-Failed.ensures.drops.sent,
      among_residents items client item (record { names = c.requires.named; own = own }),
    )

pub returns-in-Err-Answer-clause-disowns : goal.returns-in-Err-Answer-clause-disowns
returns-in-Err-Answer-clause-disowns g c = record {
  keeps = search rules;
  made_for = record { objects = c.in-Err-Answer.ensures.drops.dropped.contexts; sessions = refl };
  slots = search rules;
  numbers = search rules;
  length_is = search rules;
  lists = search rules;
  left = search rules;
  err = search rules;
  sent = slot_wrong g.D.Device.seen c.args.self.now.held.sessions.items (item_at c.args.self.now.held.objects.items c.args.item).slot tt _ _ _ c.in-Err-Answer.ensures.drops.sent;
}

-- the object stands as it did
pub returns-in-Err-Answer-clause-costs : goal.returns-in-Err-Answer-clause-costs
returns-in-Err-Answer-clause-costs g c =
    λ client own.
    let items = c.args.self.now.held.objects.items in
    let item = c.args.item in
    omega (
      arith,
      sent_slot _ g.D.Device.seen (item_at items item).slot tt _ _ (Err _) c.in-Err-Answer.ensures.drops.sent,
      among_residents items client item (record { names = c.requires.named; own = own }),
    )
