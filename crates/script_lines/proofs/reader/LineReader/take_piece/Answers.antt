use Rattle.std.proofs.Common.{◌≡◌, ◌+◌, arith, refl, inl, inr, ◌∙◌}
use Rattle.std.specs.List.{slice_range}
use Rattle.script_lines.proofs.PieceSteps.{IsTooMuch-piece, TookPiece-piece, piece_len, taken_len, slice_range-later}
use Rattle.script_lines.proofs.reader.LineReader.take_piece.Goals as goal
use Rattle.script_lines.proofs.reader.LineReader.take_piece.Goals.{then-taken-self-via-then-taken-self, then-taken-self-via-else-taken-self+then-len}

pub returns-then-taken-self-clause-took : goal.returns-then-taken-self-clause-took
returns-then-taken-self-clause-took c =
    let newline = c.first_newline-newline.result in
    let pending = slice_range c.self.inside.block.items c.self.inside.at c.self.inside.end in
    let is = rw c.deref.ensures.value at c.first_newline-newline.ensures in
    let len = rw c.deref.ensures.value at c.unwrap_or-len.ensures in
    let taken : c.unwrap_or-len.result + c.from.result ≡ taken_len newline pending = rw (len, c.from.ensures, c.is_some-ended.ensures) refl in
    let reach : c.unwrap_or-len.result ≡ piece_len newline pending = len in
    rw (← c.self.view_is) (IsTooMuch-piece newline _ c.args.text.now.items is (
    elim c.then-taken-self.branch [
      | then-taken-self-via-then-taken-self w ↦ inl (omega arith)
      | then-taken-self-via-else-taken-self+then-len w ↦ inr (omega arith)
    ]))

pub returns-clause-took : goal.returns-clause-took
returns-clause-took c =
    let newline = c.first_newline-newline.result in
    let pending = slice_range c.self.inside.block.items c.self.inside.at c.self.inside.end in
    let is = rw c.deref.ensures.value at c.first_newline-newline.ensures in
    let len = rw c.deref.ensures.value at c.unwrap_or-len.ensures in
    let taken : c.unwrap_or-len.result + c.from.result ≡ taken_len newline pending = rw (len, c.from.ensures, c.is_some-ended.ensures) refl in
    rw (← c.self.view_is) (TookPiece-piece newline _ _ _ c.args.text.now.items _ is
    (rw c.is_some-ended.ensures at c.then_some.ensures)
    (slice_range-later c.self.inside.block.items c.self.inside.at c.self.inside.end (c.unwrap_or-len.result + c.from.result) ∙ rw taken refl)
    (omega arith)
    (rw len at (rw (c.unwrap.ensures, c.deref.ensures.value) at c.extend_from_slice.ensures.items)))
