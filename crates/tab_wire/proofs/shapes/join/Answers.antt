use Rattle.std.proofs.Common.{rules, ◌≡◌, ◌++◌, get_or}
use Rattle.std.specs.Int.{w32, to_be_bytes}
use Rattle.tab_wire.proofs.Shaped.{one_more}
use Rattle.tab_wire.proofs.shapes.join.Goals as goal

pub loop-handle-preserved : goal.loop-handle-preserved
loop-handle-preserved c =
    let is : c.put_u32.new.self ≡ c.loop-handle.out ++ to_be_bytes w32 (get_or c.args.handles.now c.loop-handle.handle-index 0) = search rules in
    one_more _ _ _ _ _ c.loop-handle-test.true is c.loop-handle.invariant
