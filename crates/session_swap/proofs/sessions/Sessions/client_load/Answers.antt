use Rattle.std.proofs.Common.{◌∙◌, ℕ, ap}
use Rattle.device_port.specs.Use.{without_one}
use Rattle.session_swap.proofs.Handed.{given_back}
use Rattle.session_swap.proofs.sessions.Sessions.client_load.Goals as goal

pub invariant_of-self : goal.invariant_of-self
invariant_of-self c =
    (given_back c.self.inside.records.items c.deref.result.now c.self.inside.order c.self.inside.left c.remove.new.self c.self.inside.held c.args.client
    c.in-Some.handle c.number_of.result c.args.context.now c.index_mut-record.result.now c.self.invariant c.self.view_is c.deref.ensures.value
    c.in-Some.ensures.1 c.number_of.ensures c.index_mut-record.ensures.value (c.remove.ensures ∙ ap (λ (k : ℕ). without_one k c.self.inside.left) c.number_of-2.ensures)).kept

pub returns-clause-ok : goal.returns-clause-ok
returns-clause-ok c =
    (given_back c.self.inside.records.items c.deref.result.now c.self.inside.order c.self.inside.left c.remove.new.self c.self.inside.held c.args.client
    c.in-Some.handle c.number_of.result c.args.context.now c.index_mut-record.result.now c.self.invariant c.self.view_is c.deref.ensures.value
    c.in-Some.ensures.1 c.number_of.ensures c.index_mut-record.ensures.value (c.remove.ensures ∙ ap (λ (k : ℕ). without_one k c.self.inside.left) c.number_of-2.ensures)).view_is

pub returns-clause-stand : goal.returns-clause-stand
returns-clause-stand c =
    (given_back c.self.inside.records.items c.deref.result.now c.self.inside.order c.self.inside.left c.remove.new.self c.self.inside.held c.args.client
    c.in-Some.handle c.number_of.result c.args.context.now c.index_mut-record.result.now c.self.invariant c.self.view_is c.deref.ensures.value
    c.in-Some.ensures.1 c.number_of.ensures c.index_mut-record.ensures.value (c.remove.ensures ∙ ap (λ (k : ℕ). without_one k c.self.inside.left) c.number_of-2.ensures)).stand

pub returns-clause-sessions : goal.returns-clause-sessions
returns-clause-sessions c =
    (given_back c.self.inside.records.items c.deref.result.now c.self.inside.order c.self.inside.left c.remove.new.self c.self.inside.held c.args.client
    c.in-Some.handle c.number_of.result c.args.context.now c.index_mut-record.result.now c.self.invariant c.self.view_is c.deref.ensures.value
    c.in-Some.ensures.1 c.number_of.ensures c.index_mut-record.ensures.value (c.remove.ensures ∙ ap (λ (k : ℕ). without_one k c.self.inside.left) c.number_of-2.ensures)).sessions
