-- What the worked examples unfold: one name for each group of definitions that they compute with.
use Rattle.std.specs.Prelude.{⊤}
use Rattle.hex.proofs.OnLiterals.{hex_on_literals}
use Rattle.script_spec.specs.Script.{script_from}

unfoldable pub lines : ⊤
unfolding hex_on_literals script_from
lines = tt
