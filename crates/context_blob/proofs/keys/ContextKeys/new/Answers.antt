use Rattle.std.proofs.Common.{List, ℕ, [], subst}
use Rattle.tab_hash.specs.Adding.{HasKey}
use Rattle.context_blob.proofs.keys.ContextKeys.new.Goals as goal

pub invariant_of-result : goal.invariant_of-result
invariant_of-result c =
    let seed = c.args.seed.now in
    let begun = c.new-encryption.ensures in
    (begun, subst (λ (key : List ℕ). HasKey c.new.result key []) (c.derive.ensures seed begun) c.new.ensures)
