use Rattle.std.proofs.Common.{◌∙◌, ℕ, refl}
use Rattle.std.specs.Prelude.{replicate}
use Rattle.command_line.proofs.PathLemmas.{over_zeros}
use Rattle.command_line.proofs.path_text.PathText.new.Goals as goal

pub invariant_of-result : goal.invariant_of-result
invariant_of-result c =
    over_zeros 100 c.args.path.now c.copy_from_slice.new.self (replicate {A = ℕ} 100 0) (c.copy_from_slice.ensures.after ∙ c.as_bytes.ensures.value) refl c.requires c.utf8.path
