use Rattle.std.proofs.Common.{refl}
use Rattle.std.specs.Fmt.{digits}
use Rattle.hex.proofs.OnLiterals.{hex_on_literals}
use Rattle.rand_core.specs.Steps.{u32_at}
use Rattle.rand_chacha.specs.Block.{quarter_round, column_round, diagonal_round, double_rounds, block_word}
use Rattle.script_spec.specs.Workload.{line_of_words, lines_from}
use Rattle.script_spec.proofs.examples.workload.lines_begin.Goals as goal

pub returns-clause-first : goal.returns-clause-first
unfolding hex_on_literals digits u32_at quarter_round column_round diagonal_round double_rounds block_word line_of_words lines_from
returns-clause-first c = refl

pub returns-clause-none : goal.returns-clause-none
unfolding hex_on_literals digits u32_at quarter_round column_round diagonal_round double_rounds block_word line_of_words lines_from
returns-clause-none c = refl
