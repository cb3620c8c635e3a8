use Rattle.std.proofs.Common.{◌+◌, ◌∙◌, ap, sym, subst, rules}
use Rattle.std.proofs.lemmas.Bool.{ne_eqb}
use Rattle.client_laws.specs.Ready.{is_sent}
use Rattle.tab_spec.specs.declared.TheConstants.{CC_FLUSH_CONTEXT}
use Rattle.tab_spec.specs.declared.contexts.ContextLimits.{ContextLimits}
use Rattle.session_swap.specs.Items.{SessionsView}
use Rattle.client_machine.specs.Costs.{SendsUpTo}
use Rattle.client_machine.specs.Moves.{IsAtHand, IsCalm, MayServe, moves_for}
use Rattle.client_machine.proofs.Replying.{IsOwnReply, carries_over, not_sent, replied_carries, replied_serves, serves_over, is_to_send}
use Rattle.client_machine.proofs.machine.Machine.answer.Goals as goal

pub returns-then-answer_alone : goal.returns-then-answer_alone
returns-then-answer_alone g c = record {
  serves =
      let held = c.args.self.now.held in
      let own : IsOwnReply held c.answer_alone.new.sessions c.args.client c.args.table.now.items c.args.admitted.now c.args.bytes.now c.answer_alone.new.reply =
      record { reply_is = c.answer_alone.ensures.reply c.if-answer_alone.true; view_is = c.if-answer_alone.ensures.sessions } in
      replied_serves g.D.Device.seen c.args.self.now.device held c.answer_alone.new.sessions c.args.client c.args.table.now.items
      c.args.admitted.now c.args.bytes.now c.answer_alone.new.reply c.requires.may.moves.settled c.requires.may.own_table own c.answer_alone.ensures.standing.stand;
  carries =
      let held = c.args.self.now.held in
      let own : IsOwnReply held c.answer_alone.new.sessions c.args.client c.args.table.now.items c.args.admitted.now c.args.bytes.now c.answer_alone.new.reply =
      record { reply_is = c.answer_alone.ensures.reply c.if-answer_alone.true; view_is = c.if-answer_alone.ensures.sessions } in
      replied_carries g.D.Device.seen c.args.self.now.device held c.answer_alone.new.sessions c.args.client c.args.table.now.items
      c.args.admitted.now c.args.bytes.now c.answer_alone.new.reply c.requires.may.moves.settled c.requires.may.own_table c.requires.may.admitted
      (ap (λ (read : ContextLimits). is_sent read c.args.admitted.now c.args.bytes.now) (sym c.CONTEXTS.ensures)
      ∙ not_sent _ c.if-answer_alone.ensures.sort) (ne_eqb c.args.admitted.now.shape.row.code CC_FLUSH_CONTEXT c.if-admitted-eq-CC_FLUSH_CONTEXT.false)
      (g.met.D.Device.profile c.args.self.now.device) own (c.answer_alone.ensures.whole c.if-answer_alone.true);
  at_hand = search rules;
  few = search rules;
}

pub run-requires-clause-sort : goal.run-requires-clause-sort
run-requires-clause-sort g c =
    ap (λ (read : ContextLimits). is_sent read c.args.admitted.now c.args.bytes.now) (sym c.CONTEXTS.ensures) ∙ is_to_send _ c.if-answer_alone.ensures.sort

pub run-requires-clause-may : goal.run-requires-clause-may
run-requires-clause-may g c =
    let held = c.args.self.now.held in
    subst (λ (view : SessionsView).
    MayServe g.D.Device.CONTEXTS g.D.Device.seen c.args.client c.args.list c.args.self.now.device (record { objects = held.objects; sessions = view })
    c.args.table.now.items c.args.table.now.spare c.args.admitted.now c.args.bytes.now) (sym c.if-answer_alone.ensures.sessions) c.requires.may

pub returns : goal.returns
returns g c = record {
  serves =
      serves_over c.run.result g.D.Device.seen c.args.client c.args.self.now.device c.run.new.self.device c.args.self.now.held
      c.answer_alone.new.sessions c.run.new.self.held c.args.table.now.items c.run.new.table.items c.if-answer_alone.ensures.sessions c.run.ensures.serves;
  carries =
      carries_over _ c.run.result g.D.Device.seen c.args.client c.args.self.now.device c.run.new.self.device c.args.self.now.held
      c.answer_alone.new.sessions c.run.new.self.held c.args.table.now.items c.run.new.table.items c.args.admitted.now c.args.bytes.now
      c.run.new.reply c.if-answer_alone.ensures.sessions c.run.ensures.carries;
  at_hand =
      let held = c.args.self.now.held in
      subst (λ (view : SessionsView).
      IsAtHand g.D.Device.CONTEXTS (record { objects = held.objects; sessions = view }) c.args.table.now.items c.args.admitted.now c.args.bytes.now
      → SendsUpTo g.D.Device.seen 1 c.args.self.now.device c.run.new.self.device) c.if-answer_alone.ensures.sessions c.run.ensures.at_hand;
  few =
      let held = c.args.self.now.held in
      subst (λ (view : SessionsView).
      IsCalm (record { objects = held.objects; sessions = view })
      → SendsUpTo g.D.Device.seen
      (moves_for g.D.Device.CONTEXTS (record { objects = held.objects; sessions = view }) c.args.table.now.items c.args.admitted.now c.args.bytes.now + 1)
      c.args.self.now.device c.run.new.self.device) c.if-answer_alone.ensures.sessions c.run.ensures.few;
}
