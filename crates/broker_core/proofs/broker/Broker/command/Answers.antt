use Rattle.std.proofs.Common.{rules, inl, refl, ◌≡◌, ◌≤◌, List, None, sym, ap, subst, arith, ◌∙◌}
use Rattle.std.proofs.lemmas.List.{length-set}
use Rattle.tab_spec.specs.Admission.{client_admitted}
use Rattle.tab_spec.specs.declared.TheConstants.{RC_DEVICE_FAULT}
use Rattle.tab_spec.specs.Count.{Rose}
use Rattle.tab_spec.specs.Reply.{error_reply}
use Rattle.device_port.specs.Device.{asked_of, last_of}
use Rattle.tab_laws.proofs.Cuts.{frame_long}
use Rattle.tab_laws.proofs.Outcomes.{from_err, from_ok}
use Rattle.object_swap.specs.Items.{ObjectsView, owner_at}
use Rattle.session_swap.specs.Items.{SessionsView}
use Rattle.device_spec.specs.Answers.{IsRight}
use Rattle.device_port.specs.declared.own.SwapError.{SwapError}
use Rattle.device_port.specs.Own.{HasCause}
use Rattle.history_spec.specs.declared.Pick.TheVariants.{Nothing}
use Rattle.history_spec.specs.Entry.{Entry, HasRoom, command_entry, fault_entry, IsOpen, IsNextNumber}
use Rattle.broker_core.specs.Broker.{BrokerView, Holds, IsAdmitted, TellsNoRoom}
use Rattle.client_machine.specs.Moves.{FailsAtLast, MayBegin, pick_of}
use Rattle.client_machine.specs.Settled.{orphan_count}
use Rattle.client_machine.specs.Tables.{owned_handles, tables_seen}
use Rattle.broker_core.proofs.Entering.{costs_admitted, entered_carried, entered_faulted, entered_refused, entered_seen, context_now, left_more, long_now, made_by, owners_more, told_unentered, view_entered, admitted_read}
use Rattle.broker_core.proofs.Holding.{are_more, few_more, held_same, holds_refused, holds_wrong, inside_tables, moves_now, none_is, own_list, table_carried, table_faulted, table_now, with_items_is}
use Rattle.broker_core.proofs.Placing.{kept_same, open_there, tables_same}
use Rattle.broker_core.proofs.broker.Broker.command.Goals as goal

pub returns-in-Err : goal.returns-in-Err
returns-in-Err g c = record {
  told =
      told_unentered g.D.Device.CONTEXTS g.D.Device.seen c.in-Err.told c.args.self.now c.args.self.now c.args.client c.args.number c.args.bytes.now c.find_room.new.reply
      (subst (λ (v : BrokerView g.row.D.Denot). TellsNoRoom c.in-Err.told v.limit v.journal c.args.bytes.now c.find_room.new.reply) c.self.view_is c.in-Err.ensures.err)
      refl;
  answer = search rules;
  last_answer = search rules;
  unchanged = search rules;
  keeps = search rules;
  costs = search rules;
  left = search rules;
  fixed = search rules;
}

pub table-requires : goal.table-requires
table-requires g c =
    let opened = subst (λ (v : _). IsOpen v.journal c.args.client) (sym c.self.view_is) c.requires.present in
    open_there c.self.inside.journal.entries c.args.client c.self.invariant.1 opened

pub invariant_of-self : goal.invariant_of-self
invariant_of-self g c =
    let opened = subst (λ (v : _). IsOpen v.journal c.args.client) (sym c.self.view_is) c.requires.present in
    let next = subst (λ (v : _). IsNextNumber v.journal c.args.client c.args.number) (sym c.self.view_is) c.requires.number in
    let ready = c.in_default.ensures.ok in
    let refused = admitted_read g.D.Device.CONTEXTS c.CONTEXTS.result c.args.client _ _ c.self.inside.machine.held.sessions.items c.args.bytes.now c.admit_client.result c.CONTEXTS.ensures c.table.ensures c.admit_client.ensures.value ∙ c.in-Err-admit_client.is in
    rw (c.enter_refusal.ensures.entered, c.enter_refusal.ensures.limit, c.enter_refusal.ensures.reply) (
      holds_refused c.args.client c.args.number c.args.bytes.now c.in-Err-admit_client.code c.self.invariant.0 (sym c.is_some.ensures ∙ c.if-is_some.false) opened next refused ready.0 (g.met.D.Device.profile c.self.inside.machine.device),
      kept_same c.self.inside.journal.entries (command_entry c.args.client c.args.number Nothing c.args.bytes.now (error_reply c.in-Err-admit_client.code)) refl c.self.invariant.1,
    )

pub returns-in-Err-admit_client : goal.returns-in-Err-admit_client
returns-in-Err-admit_client g c = record {
  told =
      let ready = c.in_default.ensures.ok in
      let refused = admitted_read g.D.Device.CONTEXTS c.CONTEXTS.result c.args.client _ _ c.self.inside.machine.held.sessions.items c.args.bytes.now c.admit_client.result c.CONTEXTS.ensures c.table.ensures c.admit_client.ensures.value ∙ c.in-Err-admit_client.is in
      let e : Entry = command_entry c.args.client c.args.number Nothing c.args.bytes.now c.enter_refusal.new.reply in
      let old : BrokerView g.row.D.Denot = record {
        device = c.self.inside.machine.device;
        journal = c.self.inside.journal.entries;
        limit = c.self.inside.journal.limit;
        tables = c.self.inside.tables.items;
        held = c.self.inside.machine.held;
        wrong_code = c.self.inside.wrong_code;
        began = c.self.inside.began;
      } in
      entered_seen g.D.Device.seen {old = old} c.self.view_is
      (entered_refused g.D.Device.seen old _ c.args.client c.args.number c.args.bytes.now c.enter_refusal.new.reply c.in-Err-admit_client.code refused c.enter_refusal.ensures.reply ready.0
      (view_entered old c.enter_refusal.new.journal.entries c.enter_refusal.new.journal.limit e c.enter_refusal.ensures.entered c.enter_refusal.ensures.limit));
  answer = search rules;
  last_answer = search rules;
  unchanged = search rules;
  keeps = search rules;
  costs = search rules;
  left = search rules;
  fixed = search rules;
}

pub invariant_of-seen : goal.invariant_of-seen
invariant_of-seen g c =
    let none = sym c.is_some.ensures ∙ c.if-is_some.false in
    let first = sym c.table.ensures in
    record { short = (table_now c.self.inside.machine.held.objects.items c.args.client _ c.self.invariant.0 none (inl refl) first).short }

pub table_mut-table-requires : goal.table_mut-table-requires
table_mut-table-requires g c =
    let opened = subst (λ (v : _). IsOpen v.journal c.args.client) (sym c.self.view_is) c.requires.present in
    open_there c.self.inside.journal.entries c.args.client c.self.invariant.1 opened

pub invariant_of-self-then-is_err : goal.invariant_of-self-then-is_err
invariant_of-self-then-is_err g c =
    let kept = tables_same c.self.inside.tables.items c.args.client c.reserve.new.table.items (c.reserve.ensures.same.3 ∙ c.table_mut-table.ensures.value) in
    let device = c.reserve.ensures.same.0 in
    let items = from_err c.reserve.result _ c.reserve.ensures.err (sym c.is_err.ensures.value ∙ c.if-is_err.true) in
    let held = held_same c.self.inside.machine.held c.reserve.new.self.held items c.reserve.ensures.same.1 c.reserve.ensures.same.2 in
    rw (device, held, kept) c.self.invariant

pub returns-then-is_err : goal.returns-then-is_err
returns-then-is_err g c = record {
  told =
      let ready = c.in_default.ensures.ok in
      let admitted = admitted_read g.D.Device.CONTEXTS c.CONTEXTS.result c.args.client _ _ c.self.inside.machine.held.sessions.items c.args.bytes.now c.admit_client.result c.CONTEXTS.ensures c.table.ensures c.admit_client.ensures.value ∙ c.in-Ok.is in
      let failed = sym c.is_err.ensures.value ∙ c.if-is_err.true in
      let grows = from_err c.reserve.result _ c.reserve.ensures.grows failed in
      let kept = tables_same c.self.inside.tables.items c.args.client c.reserve.new.table.items (c.reserve.ensures.same.3 ∙ c.table_mut-table.ensures.value) in
      let device = c.reserve.ensures.same.0 in
      let items = from_err c.reserve.result _ c.reserve.ensures.err failed in
      let held = held_same c.self.inside.machine.held c.reserve.new.self.held items c.reserve.ensures.same.1 c.reserve.ensures.same.2 in (
        rw (device, held, kept) c.self.view_is,
        record { reply_is = c.error_reply-then-is_err.ensures; makes = made_by g.D.Device.CONTEXTS _ c.args.bytes.now c.in-Ok.admitted admitted grows.0 },
        subst (λ (v : BrokerView g.row.D.Denot). HasRoom v.limit v.journal c.args.bytes.now) c.self.view_is ready.0,
        subst (λ (v : BrokerView g.row.D.Denot). IsAdmitted g.D.Device.CONTEXTS v c.args.client c.args.bytes.now) c.self.view_is (c.in-Ok.admitted, admitted),
      );
  answer = search rules;
  last_answer = search rules;
  unchanged = search rules;
  keeps = search rules;
  costs = search rules;
  left = search rules;
  fixed = search rules;
}

pub list-list-requires : goal.list-list-requires
list-list-requires g c =
    let opened = subst (λ (v : _). IsOpen v.journal c.args.client) (sym c.self.view_is) c.requires.present in
    open_there c.self.inside.journal.entries c.args.client c.self.invariant.1 opened

pub answer-requires-clause-may : goal.answer-requires-clause-may
answer-requires-clause-may g c = record {
  admitted =
      let is = sym (c.reserve.ensures.same.3 ∙ c.table_mut-table.ensures.value) in
      ap (λ (v : SessionsView). client_admitted (tables_seen g.D.Device.CONTEXTS c.args.client c.reserve.new.table.items v.items) c.args.bytes.now) c.reserve.ensures.same.2
      ∙ admitted_read g.D.Device.CONTEXTS c.CONTEXTS.result c.args.client _ _ c.self.inside.machine.held.sessions.items c.args.bytes.now c.admit_client.result c.CONTEXTS.ensures (c.table.ensures ∙ is) c.admit_client.ensures.value ∙ c.in-Ok.is;
  room =
      from_ok c.reserve.result _ c.reserve.ensures.room (sym c.is_err.ensures.value ∙ c.if-is_err.false);
  own_list =
      let opened = subst (λ (v : _). IsOpen v.journal c.args.client) (sym c.self.view_is) c.requires.present in
      let none = sym c.is_some.ensures ∙ c.if-is_some.false in
      ap (λ (v : ObjectsView). owner_at v.owners c.list-list.result) c.reserve.ensures.same.1
      ∙ own_list c.args.client c.list-list.result c.self.invariant.0 none opened c.list-list.ensures;
  own_table =
      let none = sym c.is_some.ensures ∙ c.if-is_some.false in
      let are = are_more _ _ c.reserve.ensures.items in
      table_now _ c.args.client _ c.self.invariant.0 none are (sym (c.reserve.ensures.same.3 ∙ c.table_mut-table.ensures.value));
  moves =
      let are = are_more _ _ c.reserve.ensures.items in
      let is_held = with_items_is c.self.inside.machine.held c.reserve.new.self.held c.reserve.ensures.same.1 c.reserve.ensures.same.2 in
      subst (λ (d : _). MayBegin 2000 g.D.Device.CONTEXTS g.D.Device.seen d c.reserve.new.self.held) (sym c.reserve.ensures.same.0)
      (moves_now g.D.Device.seen c.self.inside.machine.device c.reserve.new.self.held.objects.items (g.met.D.Device.told_together c.self.inside.machine.device) c.self.invariant.0 are is_held);
}

pub enter_reply-requires-clause-header : goal.enter_reply-requires-clause-header
enter_reply-requires-clause-header g c = omega (arith, frame_long c.answer.new.reply c.in-Ok-answer.ensures.carries.whole)

pub enter_reply-requires-clause-long : goal.enter_reply-requires-clause-long
enter_reply-requires-clause-long g c =
    let none = none_is c.self.inside.wrong_code (sym c.is_some.ensures ∙ c.if-is_some.false) in
    let admitted = admitted_read g.D.Device.CONTEXTS c.CONTEXTS.result c.args.client _ _ c.self.inside.machine.held.sessions.items c.args.bytes.now c.admit_client.result c.CONTEXTS.ensures c.table.ensures c.admit_client.ensures.value ∙ c.in-Ok.is in
    let before = subst (λ (d : _). IsRight g.D.Device.CONTEXTS (asked_of (g.D.Device.seen d)) (last_of (g.D.Device.seen d))) (sym c.reserve.ensures.same.0) (c.self.invariant.0.answers.right none) in
    let done = c.in-Ok-answer.ensures in
    λ tells. long_now g.D.Device.seen _ c.in-Ok.admitted c.args.bytes.now c.answer.new.reply admitted before done.serves.right done.carries.did tells

pub enter_reply-requires-clause-context : goal.enter_reply-requires-clause-context
enter_reply-requires-clause-context g c =
    let none = none_is c.self.inside.wrong_code (sym c.is_some.ensures ∙ c.if-is_some.false) in
    let admitted = admitted_read g.D.Device.CONTEXTS c.CONTEXTS.result c.args.client _ _ c.self.inside.machine.held.sessions.items c.args.bytes.now c.admit_client.result c.CONTEXTS.ensures c.table.ensures c.admit_client.ensures.value ∙ c.in-Ok.is in
    let before = subst (λ (d : _). IsRight g.D.Device.CONTEXTS (asked_of (g.D.Device.seen d)) (last_of (g.D.Device.seen d))) (sym c.reserve.ensures.same.0) (c.self.invariant.0.answers.right none) in
    let done = c.in-Ok-answer.ensures in
    λ tells. context_now g.D.Device.seen _ c.in-Ok.admitted c.args.bytes.now c.answer.new.reply admitted before done.serves.right done.carries.did tells

pub invariant_of-self-in-Ok-answer : goal.invariant_of-self-in-Ok-answer
invariant_of-self-in-Ok-answer g c =
    let opened = subst (λ (v : _). IsOpen v.journal c.args.client) (sym c.self.view_is) c.requires.present in
    let next = subst (λ (v : _). IsNextNumber v.journal c.args.client c.args.number) (sym c.self.view_is) c.requires.number in
    let none = sym c.is_some.ensures ∙ c.if-is_some.false in
    let ready = c.in_default.ensures.ok in
    let is = sym (c.reserve.ensures.same.3 ∙ c.table_mut-table.ensures.value) in
    let are = are_more _ _ c.reserve.ensures.items in
    let device = c.reserve.ensures.same.0 in
    let done = c.in-Ok-answer.ensures in
    let holds = subst (λ (d : _). Holds g.D.Device.CONTEXTS c.self.inside.began (g.D.Device.seen d) c.self.inside.journal.entries c.self.inside.journal.limit
    c.self.inside.tables.items c.self.inside.tables.lists c.self.inside.machine.held c.self.inside.present c.self.inside.wrong_code) (sym device) c.self.invariant.0 in
    let is_held = with_items_is c.self.inside.machine.held c.reserve.new.self.held c.reserve.ensures.same.1 c.reserve.ensures.same.2 in
    rw (c.enter_reply.ensures.entered, c.enter_reply.ensures.limit) (
      table_carried g.D.Device.seen c.reserve.new.self.held.objects.items c.args.client c.args.number (pick_of c.in-Ok.admitted c.answer.new.reply) c.args.bytes.now c.answer.new.reply holds none opened next ready.0
          are (c.reserve.ensures.most c.self.invariant.0.placed) is_held is done.serves.moves done.carries.steps done.carries.whole done.serves.right,
      kept_same c.self.inside.journal.entries (command_entry c.args.client c.args.number (pick_of c.in-Ok.admitted c.answer.new.reply) c.args.bytes.now c.answer.new.reply) refl c.self.invariant.1,
    )

pub invariant_of-self-in-Err-Failed : goal.invariant_of-self-in-Err-Failed
invariant_of-self-in-Err-Failed g c =
    let opened = subst (λ (v : _). IsOpen v.journal c.args.client) (sym c.self.view_is) c.requires.present in
    let next = subst (λ (v : _). IsNextNumber v.journal c.args.client c.args.number) (sym c.self.view_is) c.requires.number in
    let none = sym c.is_some.ensures ∙ c.if-is_some.false in
    let ready = c.in_default.ensures.ok in
    let is = sym (c.reserve.ensures.same.3 ∙ c.table_mut-table.ensures.value) in
    let are = are_more _ _ c.reserve.ensures.items in
    let device = c.reserve.ensures.same.0 in
    let done = c.in-Err-Failed.ensures in
    let cause = subst (λ (e : SwapError). HasCause g.D.Device.CONTEXTS g.D.Device.seen e c.reserve.new.self.device c.answer.new.self.device) c.in-Err-Failed.field-0-is done.serves.cause in
    let holds = subst (λ (d : _). Holds g.D.Device.CONTEXTS c.self.inside.began (g.D.Device.seen d) c.self.inside.journal.entries c.self.inside.journal.limit
    c.self.inside.tables.items c.self.inside.tables.lists c.self.inside.machine.held c.self.inside.present c.self.inside.wrong_code) (sym device) c.self.invariant.0 in
    let tables = tables_same c.self.inside.tables.items c.args.client c.answer.new.table.items (done.serves.stays.table_is ∙ sym is) in
    let is_held = with_items_is c.self.inside.machine.held c.reserve.new.self.held c.reserve.ensures.same.1 c.reserve.ensures.same.2 in
    rw (c.enter_fault.ensures.entered, c.enter_fault.ensures.limit, c.fault_count-faults.ensures, c.enter_fault.ensures.reply, tables) (
      table_faulted g.D.Device.seen c.reserve.new.self.held.objects.items c.args.client c.args.number c.args.bytes.now holds none opened next ready.0
          are (c.reserve.ensures.most c.self.invariant.0.placed) is_held is done.serves.moves done.serves.stays cause,
      kept_same c.self.inside.journal.entries (fault_entry c.args.client c.args.number (g.D.Device.seen c.answer.new.self.device).faults c.args.bytes.now (error_reply RC_DEVICE_FAULT)) refl c.self.invariant.1,
    )

pub invariant_of-self-in-Err-Answer : goal.invariant_of-self-in-Err-Answer
invariant_of-self-in-Err-Answer g c =
    let device = c.reserve.ensures.same.0 in
    let done = c.in-Err-Answer.ensures in
    let cause = subst (λ (e : SwapError). HasCause g.D.Device.CONTEXTS g.D.Device.seen e c.reserve.new.self.device c.answer.new.self.device) c.in-Err-Answer.field-0-is done.serves.cause in
    let length_is = length-set c.self.inside.tables.items c.args.client c.answer.new.table.items in
    let none = sym c.is_some.ensures ∙ c.if-is_some.false in
    let are = are_more _ _ c.reserve.ensures.items in
    rw (c.from.ensures, c.in-Err-Answer.code-is) (
      holds_wrong {new_held = c.answer.new.self.held} c.in-Err-Answer.code c.self.invariant.0 length_is (omega (arith, done.serves.moves.keeps.count, ap (λ d. (g.D.Device.seen d).faults) device))
          (record {
            objects = done.serves.moves.made_for.objects ∙ ap (λ (v : ObjectsView). v.contexts) c.reserve.ensures.same.1;
            sessions = done.serves.moves.made_for.sessions ∙ ap (λ (v : SessionsView). v.contexts) c.reserve.ensures.same.2;
          })
          (done.serves.moves.slots ∙ ap (λ (v : ObjectsView). v.slots) c.reserve.ensures.same.1) (done.serves.moves.numbers ∙ ap (λ (v : SessionsView). v.numbers) c.reserve.ensures.same.2) (omega (arith, done.serves.moves.length_is, few_more _ c.self.invariant.0 none are)) (omega (arith, done.serves.moves.length_is, c.reserve.ensures.most c.self.invariant.0.placed)) cause,
      c.self.invariant.1,
    )

pub returns-in-Ok-answer : goal.returns-in-Ok-answer
returns-in-Ok-answer g c = record {
  told =
      let opened = subst (λ (v : _). IsOpen v.journal c.args.client) (sym c.self.view_is) c.requires.present in
      let ready = c.in_default.ensures.ok in
      let is = sym (c.reserve.ensures.same.3 ∙ c.table_mut-table.ensures.value) in
      let are = are_more _ _ c.reserve.ensures.items in
      let device = c.reserve.ensures.same.0 in
      let admitted = admitted_read g.D.Device.CONTEXTS c.CONTEXTS.result c.args.client _ _ c.self.inside.machine.held.sessions.items c.args.bytes.now c.admit_client.result c.CONTEXTS.ensures c.table.ensures c.admit_client.ensures.value ∙ c.in-Ok.is in
      let done = c.in-Ok-answer.ensures in
      let is_held = with_items_is c.self.inside.machine.held c.reserve.new.self.held c.reserve.ensures.same.1 c.reserve.ensures.same.2 in
      let e : Entry = command_entry c.args.client c.args.number (pick_of c.in-Ok.admitted c.answer.new.reply) c.args.bytes.now c.answer.new.reply in
      let old : BrokerView g.row.D.Denot = record {
        device = c.self.inside.machine.device;
        journal = c.self.inside.journal.entries;
        limit = c.self.inside.journal.limit;
        tables = c.self.inside.tables.items;
        held = c.self.inside.machine.held;
        wrong_code = c.self.inside.wrong_code;
        began = c.self.inside.began;
      } in
      entered_seen g.D.Device.seen {old = old} c.self.view_is
      (entered_carried g.D.Device.seen old _ c.args.client c.args.number c.args.bytes.now c.answer.new.reply c.in-Ok.admitted c.reserve.new.self.device c.reserve.new.self.held.objects.items _ c.answer.new.table.items
      admitted ready.0 c.enter_reply.ensures.entered
      (inside_tables c.args.client c.self.invariant.0 opened) device are c.reserve.ensures.none is_held is refl done.carries.did done.carries.stays);
  answer = search rules;
  last_answer = search rules;
  unchanged = search rules;
  keeps = search rules;
  costs =
      let is = sym (c.reserve.ensures.same.3 ∙ c.table_mut-table.ensures.value) in
      let admitted = admitted_read g.D.Device.CONTEXTS c.CONTEXTS.result c.args.client _ _ c.self.inside.machine.held.sessions.items c.args.bytes.now c.admit_client.result c.CONTEXTS.ensures c.table.ensures c.admit_client.ensures.value ∙ c.in-Ok.is in
      let is_held = with_items_is c.self.inside.machine.held c.reserve.new.self.held c.reserve.ensures.same.1 c.reserve.ensures.same.2 in
      costs_admitted g.D.Device.seen c.args.client c.args.bytes.now c.in-Ok.admitted c.reserve.new.self.held.objects.items c.self.view_is admitted
      c.reserve.ensures.same.0 (are_more _ _ c.reserve.ensures.items) is_held is c.in-Ok-answer.ensures.serves.costs c.in-Ok-answer.ensures.at_hand
      c.in-Ok-answer.ensures.few;
  left =
      let are = are_more _ _ c.reserve.ensures.items in
      let is_held = with_items_is c.self.inside.machine.held c.reserve.new.self.held c.reserve.ensures.same.1 c.reserve.ensures.same.2 in
      subst (λ (v : BrokerView g.row.D.Denot). orphan_count c.answer.new.self.held ≤ orphan_count v.held) c.self.view_is
      (left_more c.self.inside.machine.held c.reserve.new.self.held c.answer.new.self.held are is_held c.in-Ok-answer.ensures.serves.moves.orphans);
  fixed = search rules;
}

pub returns-in-Err-Failed : goal.returns-in-Err-Failed
returns-in-Err-Failed g c = record {
  told =
      let ready = c.in_default.ensures.ok in
      let is = sym (c.reserve.ensures.same.3 ∙ c.table_mut-table.ensures.value) in
      let device = c.reserve.ensures.same.0 in
      let admitted = admitted_read g.D.Device.CONTEXTS c.CONTEXTS.result c.args.client _ _ c.self.inside.machine.held.sessions.items c.args.bytes.now c.admit_client.result c.CONTEXTS.ensures c.table.ensures c.admit_client.ensures.value ∙ c.in-Ok.is in
      let done = c.in-Err-Failed.ensures in
      let cause = subst (λ (e : SwapError). HasCause g.D.Device.CONTEXTS g.D.Device.seen e c.reserve.new.self.device c.answer.new.self.device) c.in-Err-Failed.field-0-is done.serves.cause in
      let e : Entry = fault_entry c.args.client c.args.number c.fault_count-faults.result c.args.bytes.now c.enter_fault.new.reply in
      let old : BrokerView g.row.D.Denot = record {
        device = c.self.inside.machine.device;
        journal = c.self.inside.journal.entries;
        limit = c.self.inside.journal.limit;
        tables = c.self.inside.tables.items;
        held = c.self.inside.machine.held;
        wrong_code = c.self.inside.wrong_code;
        began = c.self.inside.began;
      } in
      let tables = tables_same c.self.inside.tables.items c.args.client c.answer.new.table.items (done.serves.stays.table_is ∙ sym is) in
      let are = are_more _ _ c.reserve.ensures.items in
      let sessions = done.serves.stays.sessions ∙ ap (λ (v : SessionsView). owned_handles v.items) c.reserve.ensures.same.2 in
      let left = done.serves.stays.left ∙ ap (λ (v : SessionsView). v.left) c.reserve.ensures.same.2 in
      let objects = owners_more c.self.inside.machine.held.objects.items c.reserve.new.self.held.objects.items c.answer.new.self.held.objects.items are done.serves.stays.objects in
      let failed = subst (λ (d : _). Rose (g.D.Device.seen d).faults (g.D.Device.seen c.answer.new.self.device).faults × (last_of (g.D.Device.seen c.answer.new.self.device) ≡ None)) device cause in
      let sent = subst (λ (d : _). FailsAtLast g.D.Device.CONTEXTS g.D.Device.seen d c.answer.new.self.device) device done.serves.fails in
      entered_seen g.D.Device.seen {old = old} c.self.view_is
      (entered_faulted g.D.Device.seen old _ c.args.client c.args.number c.fault_count-faults.result c.args.bytes.now c.enter_fault.new.reply c.in-Ok.admitted
      admitted c.enter_fault.ensures.reply c.fault_count-faults.ensures ready.0 c.enter_fault.ensures.entered failed sent tables sessions left objects);
  answer = search rules;
  last_answer = search rules;
  unchanged = search rules;
  keeps = search rules;
  costs =
      let is = sym (c.reserve.ensures.same.3 ∙ c.table_mut-table.ensures.value) in
      let admitted = admitted_read g.D.Device.CONTEXTS c.CONTEXTS.result c.args.client _ _ c.self.inside.machine.held.sessions.items c.args.bytes.now c.admit_client.result c.CONTEXTS.ensures c.table.ensures c.admit_client.ensures.value ∙ c.in-Ok.is in
      let is_held = with_items_is c.self.inside.machine.held c.reserve.new.self.held c.reserve.ensures.same.1 c.reserve.ensures.same.2 in
      costs_admitted g.D.Device.seen c.args.client c.args.bytes.now c.in-Ok.admitted c.reserve.new.self.held.objects.items c.self.view_is admitted
      c.reserve.ensures.same.0 (are_more _ _ c.reserve.ensures.items) is_held is c.in-Err-Failed.ensures.serves.costs c.in-Err-Failed.ensures.at_hand
      c.in-Err-Failed.ensures.few;
  left =
      let are = are_more _ _ c.reserve.ensures.items in
      let is_held = with_items_is c.self.inside.machine.held c.reserve.new.self.held c.reserve.ensures.same.1 c.reserve.ensures.same.2 in
      subst (λ (v : BrokerView g.row.D.Denot). orphan_count c.answer.new.self.held ≤ orphan_count v.held) c.self.view_is
      (left_more c.self.inside.machine.held c.reserve.new.self.held c.answer.new.self.held are is_held c.in-Err-Failed.ensures.serves.moves.orphans);
  fixed = search rules;
}

pub returns-in-Err-Answer : goal.returns-in-Err-Answer
returns-in-Err-Answer g c = record {
  told =
      let is = sym (c.reserve.ensures.same.3 ∙ c.table_mut-table.ensures.value) in
      let tables = tables_same c.self.inside.tables.items c.args.client c.answer.new.table.items (c.in-Err-Answer.ensures.serves.stays.table_is ∙ sym is) in (
        ap (λ (v : BrokerView g.row.D.Denot). v.journal) c.self.view_is,
        c.error_reply-in-Err-Answer.ensures,
        tables ∙ ap (λ (v : BrokerView g.row.D.Denot). v.tables) c.self.view_is,
      );
  answer = search rules;
  last_answer = search rules;
  unchanged = search rules;
  keeps = search rules;
  costs =
      let is = sym (c.reserve.ensures.same.3 ∙ c.table_mut-table.ensures.value) in
      let admitted = admitted_read g.D.Device.CONTEXTS c.CONTEXTS.result c.args.client _ _ c.self.inside.machine.held.sessions.items c.args.bytes.now c.admit_client.result c.CONTEXTS.ensures c.table.ensures c.admit_client.ensures.value ∙ c.in-Ok.is in
      let is_held = with_items_is c.self.inside.machine.held c.reserve.new.self.held c.reserve.ensures.same.1 c.reserve.ensures.same.2 in
      costs_admitted g.D.Device.seen c.args.client c.args.bytes.now c.in-Ok.admitted c.reserve.new.self.held.objects.items c.self.view_is admitted
      c.reserve.ensures.same.0 (are_more _ _ c.reserve.ensures.items) is_held is c.in-Err-Answer.ensures.serves.costs c.in-Err-Answer.ensures.at_hand
      c.in-Err-Answer.ensures.few;
  left =
      let are = are_more _ _ c.reserve.ensures.items in
      let is_held = with_items_is c.self.inside.machine.held c.reserve.new.self.held c.reserve.ensures.same.1 c.reserve.ensures.same.2 in
      subst (λ (v : BrokerView g.row.D.Denot). orphan_count c.answer.new.self.held ≤ orphan_count v.held) c.self.view_is
      (left_more c.self.inside.machine.held c.reserve.new.self.held c.answer.new.self.held are is_held c.in-Err-Answer.ensures.serves.moves.orphans);
  fixed = search rules;
}
