use Rattle.std.proofs.Common.{refl, Contains}
use Rattle.link_port.proofs.accept.MemoryAcceptorAcceptor.next.Goals as goal

pub returns-then-is_failing-clause-fails : goal.returns-then-is_failing-clause-fails
returns-then-is_failing-clause-fails c =
    let listed : Contains c.args.self.now.failing c.args.self.now.calls =
    rw (← c.self.view_is, ← c.deref.ensures.value) (c.is_failing.ensures.0 c.if-is_failing.true) in
    (λ _. listed, λ _. refl)
