use Rattle.std.proofs.Common.{arith, refl, sym, ◌∙◌}
use Rattle.script_lines.proofs.LineWords.{item_of-no_space, item_of-words}
use Rattle.script_lines.proofs.lines.read_line.Goals as goal

pub returns-in_err-space : goal.returns-in_err-space
returns-in_err-space c = rw c.from_residual.ensures (item_of-no_space c.args.text.now (sym c.in_err-space.ensures))

pub returns-then-eq : goal.returns-then-eq
returns-then-eq c =
    let is_close = sym (rw c.as_slice.ensures at c.eq.ensures) ∙ c.if-eq.true in
    item_of-words c.args.text.now c.in_ok-space.space c.in_ok-label.label _ (omega arith) (sym c.in_ok-space.ensures) c.in_ok-label.ensures (rw is_close refl)

pub returns-then-read_digits : goal.returns-then-read_digits
returns-then-read_digits c =
    let is_none = sym (rw c.as_slice.ensures at c.eq.ensures) ∙ c.if-eq.false in
    item_of-words c.args.text.now c.in_ok-space.space c.in_ok-label.label _ (omega arith) (sym c.in_ok-space.ensures) c.in_ok-label.ensures
    (rw is_none (c.if-read_digits.ensures c.in_ok-label.label))
