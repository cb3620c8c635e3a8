use Rattle.std.proofs.Common.{◌≡◌, arith, ap, sym, ◌∙◌, take, length}
use Rattle.std.proofs.lemmas.List.{with_items_is}
use Rattle.script_lines.specs.Lines.{LinesView}
use Rattle.script_lines.proofs.PieceSteps.{Filled-pulled, Filled-same, slice_range-none, slice_range-front, slice_range-some}
use Rattle.script_lines.proofs.reader.LineReader.fill.Goals as goal
use Rattle.script_lines.proofs.reader.LineReader.fill.Goals.{then-self+in_ok-pulled, else-self}

pub returns-clause-filled : goal.returns-clause-filled
returns-clause-filled g c =
    elim c.if-self.branch [
      | then-self+in_ok-pulled w ↦
          let len : length w.pull_front.new.block ≡ c.self.inside.block.len = omega arith in
          let none = slice_range-none c.self.inside.block.items c.self.inside.at c.self.inside.end w.if-self.true in
          rw (w.input-is, w.self-inside-is) (Filled-pulled _ _ _ _ c.args.self.now _ w.in_ok-pulled.ensures.pulled
          (omega arith)
          (ap (λ (v : LinesView). v.pending) (sym c.self.view_is) ∙ none)
          (slice_range-front _ w.in_ok-pulled.pulled ∙ ap (take w.in_ok-pulled.pulled) (with_items_is c.self.inside.block w.pull_front.new.block len))
          (ap (λ (v : LinesView). v.room) c.self.view_is))
      | else-self w ↦
          let some = slice_range-some c.self.inside.block.items c.self.inside.at c.self.inside.end (omega arith) (omega arith) in
          rw (w.input-is, w.self-inside-is) (Filled-same _ c.args.self.now _ c.self.view_is some)
    ]
