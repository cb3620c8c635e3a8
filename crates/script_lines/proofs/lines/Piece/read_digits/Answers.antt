use Rattle.std.proofs.Common.{arith, refl}
use Rattle.script_lines.proofs.LineWords.{piece_in-none}
use Rattle.script_lines.proofs.lines.Piece.read_digits.Goals as goal

pub returns-then-len-eq0 : goal.returns-then-len-eq0
returns-then-len-eq0 c = λ label. piece_in-none label c.args.digits.now _ refl (omega arith)
