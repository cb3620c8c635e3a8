use Rattle.session_swap.proofs.Leaving.{few_left, leaves_kept, leaves_view}
use Rattle.session_swap.proofs.sessions.Sessions.leave.Goals as goal

pub push-requires-clause-few : goal.push-requires-clause-few
push-requires-clause-few c =
    few_left c.self.inside.numbers c.self.inside.records.items c.self.inside.next c.self.inside.order c.self.inside.left c.self.inside.held c.args.self.now
    c.args.handle c.number_of-number.result c.self.invariant c.self.view_is c.requires.saved c.number_of-number.ensures

pub invariant_of-self : goal.invariant_of-self
invariant_of-self c =
    leaves_kept c.self.inside.numbers c.self.inside.records.items c.self.inside.next c.self.inside.order c.self.inside.left c.self.inside.held c.args.self.now
    c.args.handle c.number_of-number.result c.self.invariant c.self.view_is c.requires.saved c.number_of-number.ensures c.push.new.self
    c.index_mut.result.now c.index_mut.ensures.value c.push.ensures

pub invariant_of-self-2 : goal.invariant_of-self-2
invariant_of-self-2 c =
    leaves_kept c.self.inside.numbers c.self.inside.records.items c.self.inside.next c.self.inside.order c.self.inside.left c.self.inside.held c.args.self.now
    c.args.handle c.number_of-number.result c.self.invariant c.self.view_is c.requires.saved c.number_of-number.ensures c.push.new.self
    c.index_mut.result.now c.index_mut.ensures.value c.push.ensures

pub returns-then-count-leave_limit-clause-left : goal.returns-then-count-leave_limit-clause-left
returns-then-count-leave_limit-clause-left c =
    leaves_view c.self.inside.numbers c.self.inside.records.items c.self.inside.next c.self.inside.order c.self.inside.left c.self.inside.held c.args.self.now
    c.args.handle c.number_of-number.result c.self.invariant c.self.view_is c.requires.saved c.number_of-number.ensures c.push.new.self
    c.index_mut.result.now c.index_mut.ensures.value c.push.ensures

pub returns-clause-left : goal.returns-clause-left
returns-clause-left c =
    leaves_view c.self.inside.numbers c.self.inside.records.items c.self.inside.next c.self.inside.order c.self.inside.left c.self.inside.held c.args.self.now
    c.args.handle c.number_of-number.result c.self.invariant c.self.view_is c.requires.saved c.number_of-number.ensures c.push.new.self
    c.index_mut.result.now c.index_mut.ensures.value c.push.ensures
