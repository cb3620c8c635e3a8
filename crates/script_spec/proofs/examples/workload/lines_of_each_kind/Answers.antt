use Rattle.std.proofs.Common.{refl}
use Rattle.std.specs.Fmt.{digits}
use Rattle.hex.proofs.OnLiterals.{hex_on_literals}
use Rattle.rand_core.specs.Steps.{u32_at}
use Rattle.rand_chacha.specs.Block.{quarter_round, column_round, diagonal_round, double_rounds, block_word}
use Rattle.script_spec.specs.Workload.{line_of_words, lines_from}
use Rattle.script_spec.proofs.examples.workload.lines_of_each_kind.Goals as goal

pub returns-clause-closes : goal.returns-clause-closes
unfolding hex_on_literals digits u32_at quarter_round column_round diagonal_round double_rounds block_word line_of_words lines_from
returns-clause-closes c = refl

pub returns-clause-draws : goal.returns-clause-draws
unfolding hex_on_literals digits u32_at quarter_round column_round diagonal_round double_rounds block_word line_of_words lines_from
returns-clause-draws c = refl

pub returns-clause-makes_a_key : goal.returns-clause-makes_a_key
unfolding hex_on_literals digits u32_at quarter_round column_round diagonal_round double_rounds block_word line_of_words lines_from
returns-clause-makes_a_key c = refl

pub returns-clause-starts_a_session : goal.returns-clause-starts_a_session
unfolding hex_on_literals digits u32_at quarter_round column_round diagonal_round double_rounds block_word line_of_words lines_from
returns-clause-starts_a_session c = refl

pub returns-clause-flushes : goal.returns-clause-flushes
unfolding hex_on_literals digits u32_at quarter_round column_round diagonal_round double_rounds block_word line_of_words lines_from
returns-clause-flushes c = refl

pub returns-clause-reads_public : goal.returns-clause-reads_public
unfolding hex_on_literals digits u32_at quarter_round column_round diagonal_round double_rounds block_word line_of_words lines_from
returns-clause-reads_public c = refl

pub returns-clause-lists : goal.returns-clause-lists
unfolding hex_on_literals digits u32_at quarter_round column_round diagonal_round double_rounds block_word line_of_words lines_from
returns-clause-lists c = refl
