use Rattle.std.proofs.Common.{◌<◌, arith}
use Rattle.workload.proofs.Giving.{begun}
use Rattle.workload.proofs.source.Workload.new.Goals as goal

pub returns : goal.returns
returns c =
    let some : 0 < c.args.lines = omega arith in
    begun c.args.start c.args.lines _ _ _ _ some c.from_seed-words.ensures c.key_of.ensures c.next_line-line.ensures.line c.next_line-line.ensures.words
