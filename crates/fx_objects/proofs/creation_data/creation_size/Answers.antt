use Rattle.std.proofs.Common.{length, ap, arith}
use Rattle.fx_objects.specs.Views.{parentage_of, template_of}
use Rattle.fx_objects.proofs.Sizes.{length_creation}
use Rattle.fx_objects.proofs.creation_data.creation_size.Goals as goal

pub returns-clause-size : goal.returns-clause-size
returns-clause-size c persist =
    omega (
      arith,
      length_creation persist (parentage_of c.args.parent.now) (template_of c.args.t.now),
      ap length c.as_slice.ensures.same,
      ap length c.as_slice-2.ensures.same,
      ap length c.as_slice-3.ensures.same,
    )
