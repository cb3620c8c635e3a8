use Rattle.std.proofs.Common.{◌≡◌, ◌∙◌}
use Rattle.script_spec.specs.Summary.{digest_of, numbers_line}
use Rattle.workload.proofs.Lines.{summed_up}
use Rattle.workload.proofs.tally.Tally.summary.Goals as goal

pub returns : goal.returns
returns c = λ replies is have few.
    let t = c.self.inside in
    let sums = summed_up t.sum t.front t.written.bytes t.part t.replies t.with_code_0 replies c.self.invariant (c.self.view_is ∙ is) have few in
    let digest : c.end.result ≡ digest_of replies = c.end.ensures _ sums.0 in
    c.numbers_line.ensures ∙ (λ i. numbers_line (c.from.ensures i) (sums.1 i) (sums.2 i) c.args.entries (digest i))
