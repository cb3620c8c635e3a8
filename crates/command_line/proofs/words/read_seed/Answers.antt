use Rattle.std.proofs.Common.{ap, ◌∙◌}
use Rattle.std.specs.Result.{result_ok}
use Rattle.command_line.proofs.SeedLemmas.{result_ok-decode_sized}
use Rattle.command_line.proofs.words.read_seed.Goals as goal

pub returns : goal.returns
returns c = c.ok.ensures.value ∙ ap result_ok c.from_hex.ensures ∙ result_ok-decode_sized c.args.digits.now
