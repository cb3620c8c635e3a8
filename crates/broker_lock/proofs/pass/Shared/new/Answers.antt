use Rattle.broker_lock.proofs.Parts.{begins_at}
use Rattle.broker_lock.proofs.pass.Shared.new.Goals as goal

pub new-requires : goal.new-requires
new-requires g c =
    begins_at g.B.Recorded.history g.B.Recorded.fixed g.B.Recorded.wrong c.args.value c.of-about.result.value c.in-Ok.slots.items c.push_reserved.new.self.items
    c.requires.empty c.of-about.ensures (c.in-Ok.ensures.items) c.push_reserved.ensures.items
