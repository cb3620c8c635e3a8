use Rattle.std.proofs.Common.{refl}
use Rattle.std.proofs.lemmas.Nat.{or_comm}
use Rattle.tab_spec.specs.declared.TheConstants.{NV_WRITTEN}
use Rattle.tab_values.proofs.nv_index.NvIndex.write.Goals as goal

pub returns : goal.returns
returns c = rw (or_comm c.args.self.now.public.attributes NV_WRITTEN, c.write.ensures) refl
