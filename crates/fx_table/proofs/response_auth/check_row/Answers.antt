use Rattle.std.proofs.Common.{refl}
use Rattle.tab_spec.specs.declared.TheConstants.{CC_PCR_EXTEND, CC_NV_WRITE}
use Rattle.effect_spec.specs.Nv.{nv_write_row}
use Rattle.effect_spec.specs.Pcr.{pcr_extend_row}
use Rattle.fx_table.specs.Views.{operands_of}
use Rattle.fx_table.proofs.ResponseAuths.{tested_row}
use Rattle.fx_table.proofs.response_auth.check_row.Goals as goal

pub returns-in-386 : goal.returns-in-386
returns-in-386 c =
    tested_row c.args.code CC_PCR_EXTEND c.args.persist.now (operands_of c.args.ops.now).handles c.args.params.now c.check_pcr_extend.result
    (pcr_extend_row c.args.persist.now c.handle-first.result c.args.params.now) c.in-386.is c.in_default.ensures (c.in_default-object.ensures)
    (rw (c.handle-first.ensures) refl) (c.check_pcr_extend.ensures c.args.persist.now c.handle-first.result)

pub returns-in-311 : goal.returns-in-311
returns-in-311 c =
    tested_row c.args.code CC_NV_WRITE c.args.persist.now (operands_of c.args.ops.now).handles c.args.params.now c.check_nv_write.result
    (nv_write_row c.args.persist.now c.handle-first.result c.handle-second.result c.args.params.now) c.in-311.is c.in_default.ensures
    (c.in_default-object.ensures)
    (rw (c.handle-first.ensures, c.handle-second.ensures) refl) c.check_nv_write.ensures
