use Rattle.std.proofs.Common.{arith, [], ◌∷◌, ◌++◌, set, sym, ap, subst, ◌∙◌, refl, rules}
use Rattle.history_spec.specs.Entry.{close_entry, IsOpen}
use Rattle.broker_core.specs.Broker.{BrokerView}
use Rattle.client_machine.specs.Dropping.{left_after}
use Rattle.client_machine.specs.Settled.{orphan_count}
use Rattle.client_machine.proofs.Remaining.{leaves_them}
use Rattle.broker_core.proofs.Closing.{behind_from, holds_closed_after, holds_closed_wrong, leaves_same, list_closed, moves_same, no_more, none_sent, sent_from, still_few, view_closed}
use Rattle.broker_core.proofs.Holding.{own_list}
use Rattle.broker_core.proofs.Placing.{kept_closed, open_there}
use Rattle.broker_core.proofs.broker.Broker.close_by.Goals as goal

pub close-list-requires : goal.close-list-requires
close-list-requires g c =
    let opened = subst (λ (v : _). IsOpen v.journal c.args.client) (sym c.self.view_is) c.requires in
    open_there c.self.inside.journal.entries c.args.client c.self.invariant.1 opened

pub invariant_of-self : goal.invariant_of-self
invariant_of-self g c =
    let opened = subst (λ (v : _). IsOpen v.journal c.args.client) (sym c.self.view_is) c.requires in
    rw (c.enter_close.ensures.entered, c.enter_close.ensures.limit, c.close-list.ensures.items, c.close-list.ensures.lists) (
      holds_closed_after c.args.client c.self.invariant.0 (sym c.is_some.ensures ∙ c.if-is_some.true) opened,
      kept_closed c.self.inside.journal.entries c.args.client c.self.invariant.1 c.close-list.ensures.present,
    )

pub drop_all_by-requires-clause-list : goal.drop_all_by-requires-clause-list
drop_all_by-requires-clause-list g c =
    let opened = subst (λ (v : _). IsOpen v.journal c.args.client) (sym c.self.view_is) c.requires in
    let none = sym c.is_some.ensures ∙ c.if-is_some.false in
    own_list c.args.client c.close-list.result c.self.invariant.0 none opened c.close-list.ensures.list

pub drop_all_by-requires-clause-may : goal.drop_all_by-requires-clause-may
drop_all_by-requires-clause-may g c =
    moves_same g.D.Device.seen c.self.inside.machine.device (g.met.D.Device.told_together c.self.inside.machine.device) c.self.invariant.0

pub invariant_of-self-in-Ok-eq0 : goal.invariant_of-self-in-Ok-eq0
invariant_of-self-in-Ok-eq0 g c =
    let opened = subst (λ (v : _). IsOpen v.journal c.args.client) (sym c.self.view_is) c.requires in
    let none = sym c.is_some.ensures ∙ c.if-is_some.false in
    let done = c.in-Ok-eq0.ensures.drops in
    rw (c.enter_close.ensures.entered, c.enter_close.ensures.limit, c.close-list.ensures.items, c.close-list.ensures.lists) (
      list_closed g.D.Device.seen c.args.client _ c.self.invariant.0 none opened c.close-list.ensures.list done.ok done.none.objects done.none.sessions,
      kept_closed c.self.inside.journal.entries c.args.client c.self.invariant.1 c.close-list.ensures.present,
    )

pub invariant_of-self-in-Ok : goal.invariant_of-self-in-Ok
invariant_of-self-in-Ok g c =
    let opened = subst (λ (v : _). IsOpen v.journal c.args.client) (sym c.self.view_is) c.requires in
    let none = sym c.is_some.ensures ∙ c.if-is_some.false in
    let done = c.in-Ok.ensures.drops in
    rw (c.enter_close.ensures.entered, c.enter_close.ensures.limit, c.close-list.ensures.items, c.close-list.ensures.lists) (
      list_closed g.D.Device.seen c.args.client _ c.self.invariant.0 none opened c.close-list.ensures.list done.ok done.none.objects done.none.sessions,
      kept_closed c.self.inside.journal.entries c.args.client c.self.invariant.1 c.close-list.ensures.present,
    )

pub invariant_of-self-in-Err : goal.invariant_of-self-in-Err
invariant_of-self-in-Err g c =
    let opened = subst (λ (v : _). IsOpen v.journal c.args.client) (sym c.self.view_is) c.requires in
    let done = c.in-Err.ensures.drops in
    rw (c.enter_close.ensures.entered, c.enter_close.ensures.limit, c.close-list.ensures.items, c.close-list.ensures.lists, c.from.ensures) (
      holds_closed_wrong c.args.client c.in-Err.code c.self.invariant.0 opened done.disowns.keeps.count done.disowns.made_for done.disowns.slots done.disowns.numbers done.disowns.length_is done.disowns.err,
      kept_closed c.self.inside.journal.entries c.args.client c.self.invariant.1 c.close-list.ensures.present,
    )

pub returns-then-is_some-clause-closes : goal.returns-then-is_some-clause-closes
returns-then-is_some-clause-closes g c = record {
  closed = (
    c.enter_close.ensures.entered ∙ ap (λ (v : BrokerView g.row.D.Denot). v.journal ++ close_entry c.args.client ∷ []) c.self.view_is,
    c.close-list.ensures.items ∙ ap (λ (v : BrokerView g.row.D.Denot). set v.tables c.args.client []) c.self.view_is,
  );
  answer = search rules;
  unsent =
      let old : BrokerView g.row.D.Denot = record {
        device = c.self.inside.machine.device;
        journal = c.self.inside.journal.entries;
        limit = c.self.inside.journal.limit;
        tables = c.self.inside.tables.items;
        held = c.self.inside.machine.held;
        wrong_code = c.self.inside.wrong_code;
        began = c.self.inside.began;
      } in
      λ _. view_closed old c.args.self.now c.args.client _ _ _ c.enter_close.ensures.entered c.enter_close.ensures.limit c.close-list.ensures.items c.self.view_is;
  left = search rules;
  more = search rules;
  sessions = record {
    others = search rules;
    left = λ told. absurd (told refl);
    behind = behind_from _ c.self.view_is (leaves_same c.self.inside.machine.held.sessions.items);
  };
  keeps = search rules;
  costs = search rules;
  sent = sent_from c.self.view_is (none_sent g.D.Device.seen c.self.inside.machine.device c.self.inside.machine.held.sessions.items);
  fixed = search rules;
}

pub returns-in-Ok-eq0-clause-closes : goal.returns-in-Ok-eq0-clause-closes
returns-in-Ok-eq0-clause-closes g c = record {
  closed = (
    c.enter_close.ensures.entered ∙ ap (λ (v : BrokerView g.row.D.Denot). v.journal ++ close_entry c.args.client ∷ []) c.self.view_is,
    c.close-list.ensures.items ∙ ap (λ (v : BrokerView g.row.D.Denot). set v.tables c.args.client []) c.self.view_is,
  );
  answer = search rules;
  unsent = search rules;
  left = (
    omega (arith, c.in-Ok-eq0.ensures.drops.ok.orphans, c.in-Ok-eq0.field-0-test, ap (λ (v : BrokerView g.row.D.Denot). orphan_count v.held) c.self.view_is),
    no_more _ _ _ (omega (arith, c.in-Ok-eq0.field-0-test)) c.in-Ok-eq0.ensures.drops.ok.left ∙ ap (λ (v : BrokerView g.row.D.Denot). v.held.objects.left) c.self.view_is,
  );
  more = search rules;
  sessions = record {
    others = search rules;
    behind = behind_from _ c.self.view_is c.in-Ok-eq0.ensures.drops.none.behind;
    left = λ told.
        c.in-Ok-eq0.ensures.drops.none.left (still_few c.self.invariant.0 (sym c.is_some.ensures ∙ c.if-is_some.false))
        ∙ ap (λ (v : BrokerView g.row.D.Denot). left_after c.args.client v.held.sessions) c.self.view_is;
  };
  keeps = search rules;
  costs = search rules;
  sent = sent_from c.self.view_is c.in-Ok-eq0.ensures.drops.disowns.sent;
  fixed = search rules;
}

pub returns-in-Ok-clause-closes : goal.returns-in-Ok-clause-closes
returns-in-Ok-clause-closes g c = record {
  closed = (
    c.enter_close.ensures.entered ∙ ap (λ (v : BrokerView g.row.D.Denot). v.journal ++ close_entry c.args.client ∷ []) c.self.view_is,
    c.close-list.ensures.items ∙ ap (λ (v : BrokerView g.row.D.Denot). set v.tables c.args.client []) c.self.view_is,
  );
  answer = search rules;
  unsent = search rules;
  left = search rules;
  more = search rules;
  sessions = record {
    others = search rules;
    behind = behind_from _ c.self.view_is c.in-Ok.ensures.drops.none.behind;
    left = λ told.
        c.in-Ok.ensures.drops.none.left (still_few c.self.invariant.0 (sym c.is_some.ensures ∙ c.if-is_some.false))
        ∙ ap (λ (v : BrokerView g.row.D.Denot). left_after c.args.client v.held.sessions) c.self.view_is;
  };
  keeps = search rules;
  costs = search rules;
  sent = sent_from c.self.view_is c.in-Ok.ensures.drops.disowns.sent;
  fixed = search rules;
}

pub returns-in-Err-clause-closes : goal.returns-in-Err-clause-closes
returns-in-Err-clause-closes g c =
    let sent = c.in-Err.ensures.drops.disowns.sent in record {
      closed = (
        c.enter_close.ensures.entered ∙ ap (λ (v : BrokerView g.row.D.Denot). v.journal ++ close_entry c.args.client ∷ []) c.self.view_is,
        c.close-list.ensures.items ∙ ap (λ (v : BrokerView g.row.D.Denot). set v.tables c.args.client []) c.self.view_is,
      );
      answer = search rules;
      unsent = search rules;
      left = search rules;
      more = search rules;
      sessions = record {
        others = search rules;
        left = λ told. absurd (told refl);
        behind = behind_from _ c.self.view_is (leaves_them g.D.Device.CONTEXTS sent.sent _ _ sent.flushed);
      };
      keeps = search rules;
      costs = search rules;
      sent = sent_from c.self.view_is c.in-Err.ensures.drops.disowns.sent;
      fixed = search rules;
    }
