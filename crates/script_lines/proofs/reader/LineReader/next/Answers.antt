use Rattle.std.proofs.Common.{◌∙◌, sym, ap, Some}
use Rattle.script_lines.proofs.Cutting.{Cutting-filled, none_pending, ReadNext-last, ReadNext-took, HasPulled-cutting, HasPulled-took}
use Rattle.script_lines.proofs.reader.LineReader.next.Goals as goal

pub returns-then-not-branch-clause-read : goal.returns-then-not-branch-clause-read
returns-then-not-branch-clause-read g c =
    ReadNext-last _ _ _ c.args.self.now c.loop-text.self _ c.loop-text.text.items _ c.loop-text.invariant.0 c.in_ok-fill.ensures.filled
    (none_pending c.fill.new.self.pending (sym c.in_ok-fill.ensures.more ∙ c.if-not-branch.true))
    (rw c.deref.ensures.value at c.last_line.ensures)

pub returns-in-Some-clause-read : goal.returns-in-Some-clause-read
returns-in-Some-clause-read g c =
    ReadNext-took c.in-Some.line _ _ c.args.self.now c.fill.new.self c.take_piece.new.self c.loop-text.text.items _
    (Cutting-filled _ _ _ c.args.self.now c.loop-text.self c.fill.new.self c.loop-text.text.items c.loop-text.invariant.0 c.in_ok-fill.ensures.filled)
    c.in-Some.ensures.took

pub returns-then-not-branch-clause-pulled : goal.returns-then-not-branch-clause-pulled
returns-then-not-branch-clause-pulled g c =
    HasPulled-cutting _ _ c.args.self.now c.fill.new.self c.loop-text.text.items
    (Cutting-filled _ _ _ c.args.self.now c.loop-text.self c.fill.new.self c.loop-text.text.items c.loop-text.invariant.0 c.in_ok-fill.ensures.filled)

pub returns-in-Some-clause-pulled : goal.returns-in-Some-clause-pulled
returns-in-Some-clause-pulled g c =
    HasPulled-took c.in-Some.line _ _ c.args.self.now c.fill.new.self c.take_piece.new.self c.loop-text.text.items _
    (Cutting-filled _ _ _ c.args.self.now c.loop-text.self c.fill.new.self c.loop-text.text.items c.loop-text.invariant.0 c.in_ok-fill.ensures.filled)
    c.in-Some.ensures.took (λ long. c.in-Some.ensures.kept (ap Some long))

pub returns-in_err-fill-clause-pulled : goal.returns-in_err-fill-clause-pulled
returns-in_err-fill-clause-pulled g c =
    let kept = c.in_err-fill.ensures.kept in
    rw (kept.1, kept.2) (HasPulled-cutting _ _ c.args.self.now c.loop-text.self c.loop-text.text.items c.loop-text.invariant.0)
