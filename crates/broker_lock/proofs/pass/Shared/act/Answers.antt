use Rattle.std.proofs.Common.{sym, ◌∙◌, subst}
use Rattle.broker_lock.specs.Pass.{MayAsk, PassView}
use Rattle.broker_lock.proofs.Acting.{acted, idle_again, may_call_now, may_give_back}
use Rattle.broker_lock.proofs.pass.Shared.act.Goals as goal

pub make_call-done-requires : goal.make_call-done-requires
make_call-done-requires g c =
    may_call_now g.B.Recorded.history g.B.Recorded.fixed g.B.Recorded.wrong c.take_turn-value.result c.pass.inside.seat.me.0 c.take_turn-value.new.seat.me.0 c.args.job c.take_turn-value.ensures.turn
    (subst (λ (p : PassView). MayAsk p.known c.args.job) (sym c.pass.view_is) c.requires.may)

pub give_back-requires-clause-may : goal.give_back-requires-clause-may
give_back-requires-clause-may g c =
    may_give_back g.B.Recorded.history g.B.Recorded.fixed g.B.Recorded.wrong c.take_turn-value.result c.make_call-done.new.value c.pass.inside.seat.me.0 c.take_turn-value.new.seat.me.0 c.args.job c.args.bytes.now c.make_call-done.result
    c.make_call-done.new.reply c.pass.invariant.0 c.take_turn-value.ensures.turn c.make_call-done.ensures.does c.make_call-done.ensures.fixed c.make_call-done.ensures.wrong
    (subst (λ (p : PassView). MayAsk p.known c.args.job) (sym c.pass.view_is) c.requires.may)

pub invariant_of-pass : goal.invariant_of-pass
invariant_of-pass g c =
    let acts = acted g.B.Recorded.history g.B.Recorded.fixed g.B.Recorded.wrong g.B.Recorded.legal c.pass.inside.seat.table_id c.give_back.new.seat.table_id c.take_turn-value.result c.make_call-done.new.value c.pass.inside.seat.me.0
    c.take_turn-value.new.seat.me.0 c.give_back.new.seat.me c.args.pass.now c.args.job c.args.bytes.now c.make_call-done.result c.make_call-done.new.reply c.pass.invariant.0
    c.take_turn-value.ensures.turn c.make_call-done.ensures.does c.make_call-done.ensures.fixed c.make_call-done.ensures.wrong c.show_legal.ensures
    (subst (λ (p : PassView). MayAsk p.known c.args.job) (sym c.pass.view_is) c.requires.may) c.give_back.ensures.back c.pass.view_is (c.give_back.ensures.own ∙ c.take_turn-value.ensures.own) in
    idle_again g.B.Recorded.history g.B.Recorded.fixed g.B.Recorded.wrong c.take_turn-value.result c.make_call-done.new.value c.pass.inside.seat.me.0 c.take_turn-value.new.seat.me.0 c.give_back.new.seat.me c.pass.invariant.0
    c.take_turn-value.ensures.turn c.give_back.ensures.back acts.order

pub returns-clause-acts : goal.returns-clause-acts
returns-clause-acts g c =
    acted g.B.Recorded.history g.B.Recorded.fixed g.B.Recorded.wrong g.B.Recorded.legal c.pass.inside.seat.table_id c.give_back.new.seat.table_id c.take_turn-value.result c.make_call-done.new.value c.pass.inside.seat.me.0
    c.take_turn-value.new.seat.me.0 c.give_back.new.seat.me c.args.pass.now c.args.job c.args.bytes.now c.make_call-done.result c.make_call-done.new.reply c.pass.invariant.0
    c.take_turn-value.ensures.turn c.make_call-done.ensures.does c.make_call-done.ensures.fixed c.make_call-done.ensures.wrong c.show_legal.ensures
    (subst (λ (p : PassView). MayAsk p.known c.args.job) (sym c.pass.view_is) c.requires.may) c.give_back.ensures.back c.pass.view_is (c.give_back.ensures.own ∙ c.take_turn-value.ensures.own)
