-- What the proof of a line unfolds, under a short name.
use Rattle.std.specs.Prelude.{⊤}
use Rattle.script_spec.specs.Workload.{line_of_words}

unfoldable pub line : ⊤
unfolding line_of_words
line = tt
