use Rattle.std.proofs.Common.{◌≡◌, length, vec_len, arith}
use Rattle.tab_frame.proofs.Giving.{none_kept}
use Rattle.tab_frame.proofs.framer.Framer.is_empty.Goals as goal

pub returns : goal.returns
returns c =
    let bytes = c.self.inside.bytes in
    let count : vec_len bytes ≡ length bytes.items = omega (arith, bytes.ok.0) in
    rw c.len.ensures (none_kept bytes.items c.args.self.now c.self.inside.at (vec_len bytes) count c.self.invariant.0 c.self.view_is)
