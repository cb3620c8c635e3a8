use Rattle.std.proofs.Common.{refl, sym, subst, ◌∙◌}
use Rattle.tab_spec.specs.declared.TheConstants.{RC_CANCELED}
use Rattle.tab_spec.specs.Reply.{error_reply}
use Rattle.history_spec.specs.Entry.{canceled_entry, IsOpen, IsNextNumber}
use Rattle.broker_core.proofs.Holding.{holds_canceled}
use Rattle.broker_core.proofs.Placing.{kept_same}
use Rattle.broker_core.proofs.broker.Broker.cancel.Goals as goal

pub invariant_of-self : goal.invariant_of-self
invariant_of-self g c =
    let opened = subst (λ (v : _). IsOpen v.journal c.args.client) (sym c.self.view_is) c.requires.present in
    let next = subst (λ (v : _). IsNextNumber v.journal c.args.client c.args.number) (sym c.self.view_is) c.requires.number in
    let ready = c.in_default.ensures.ok in
    rw (c.enter_canceled.ensures.entered, c.enter_canceled.ensures.limit, c.enter_canceled.ensures.reply) (
      holds_canceled c.args.client c.args.number c.args.upto c.args.bytes.now c.self.invariant.0 (sym c.is_some.ensures ∙ c.if-is_some.false) opened next c.requires.covers ready.0,
      kept_same c.self.inside.journal.entries (canceled_entry c.args.client c.args.number c.args.upto c.args.bytes.now (error_reply RC_CANCELED)) refl c.self.invariant.1,
    )
