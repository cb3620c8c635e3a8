use Rattle.std.proofs.Common.{ap, sym, ◌∙◌, length}
use Rattle.std.proofs.lemmas.List.{length-take-le}
use Rattle.tab_values.proofs.session.digest.Goals as goal

pub copy_from_slice-requires : goal.copy_from_slice-requires
copy_from_slice-requires c =
    let taken = c.in-Some.ensures in
    sym (ap length taken.1 ∙ length-take-le 32 c.args.r.now taken.0)
