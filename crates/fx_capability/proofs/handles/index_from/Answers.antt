use Rattle.std.proofs.Common.{◌∙◌}
use Rattle.fx_capability.proofs.Indexes.{index_more}
use Rattle.fx_capability.proofs.handles.index_from.Goals as goal

pub loop-item-preserved : goal.loop-item-preserved
loop-item-preserved c =
    c.lesser-found.ensures
    ∙ index_more c.args.least c.indexes-indexes.result.now c.args.p.now.nv c.loop-item.item-index c.item-item.result c.loop-item.found
    c.indexes-indexes.ensures c.loop-item-test.true c.item-item.is c.loop-item.invariant
