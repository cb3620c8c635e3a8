use Rattle.std.proofs.Common.{◌∙◌}
use Rattle.std.proofs.lemmas.List.{take_rest}
use Rattle.fx_objects.proofs.derive.secret_of.Goals as goal

pub returns : goal.returns
returns c =
    let put = rw c.unwrap.ensures at c.of.ensures in
    put.1 ∙ take_rest c.args.bytes.now 32
