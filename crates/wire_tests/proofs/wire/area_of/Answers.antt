use Rattle.std.proofs.Common.{sym}
use Rattle.tab_wire.proofs.Shaped.{Shaped, shaped}
use Rattle.wire_tests.proofs.wire.area_of.Goals as goal

pub authorizations-requires : goal.authorizations-requires
authorizations-requires c =
    let s : Shaped c.args.bytes.now c.in_ok-found.found = shaped c.args.bytes.now c.in_ok-found.found (sym c.in_ok-found.ensures) in
    record { most = s.most; rest = s.within }
