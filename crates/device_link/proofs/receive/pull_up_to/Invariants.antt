use Rattle.std.proofs.Common.{◌≡◌, ◌≤◌, ◌++◌, ◌-◌, length, drop}
use Rattle.device_link.specs.Link.{with_front}
use Rattle.device_link.proofs.receive.pull_up_to.Given as goal

-- what was read and what is to come are together what they were
abbrev pub invariant-loop-reply : goal.invariant-loop-reply
invariant-loop-reply g l = record {
  fits : length l.reply ≤ l.count;
  read : with_front l.reply (g.S.Source.left l.source) ≡ with_front l.fn.reply (g.S.Source.left l.fn.source);
  added : l.reply ≡ l.fn.reply ++ drop (length l.fn.reply) l.reply;
  quiet : g.S.Source.faults l.source ≡ g.S.Source.faults l.fn.source;
}

abbrev pub decreases-loop-reply : goal.decreases-loop-reply
decreases-loop-reply g l = l.count - length l.reply
