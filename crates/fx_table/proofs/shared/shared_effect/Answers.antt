use Rattle.std.proofs.Common.{refl}
use Rattle.fx_table.proofs.ResponseLemmas.{ended_reply}
use Rattle.fx_table.proofs.shared.shared_effect.Goals as goal

pub returns-in-Ok : goal.returns-in-Ok
returns-in-Ok c =
    let (body, begun, is) = c.in-Ok.ensures in
    rw (is, ended_reply _ body _ _ begun c.end_response.ensures) refl

pub returns-in-Err : goal.returns-in-Err
returns-in-Err c =
    let (is, kept) = c.in-Err.ensures in
    rw (is, kept, c.error_reply.ensures) refl
