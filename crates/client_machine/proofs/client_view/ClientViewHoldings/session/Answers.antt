use Rattle.std.proofs.Common.{sym}
use Rattle.client_machine.proofs.Having.{hmac_had, policy_had}
use Rattle.client_machine.proofs.client_view.ClientViewHoldings.session.Goals as goal

pub returns-then-is_some : goal.returns-then-is_some
returns-then-is_some c =
    let seen = c.args.self.now in
    hmac_had seen.client c.args.number seen.sessions.now.items c.listed-hmac.result c.requires (sym c.if-is_some.ensures) c.listed-hmac.ensures

pub returns : goal.returns
returns c =
    let seen = c.args.self.now in
    policy_had seen.client c.args.number seen.sessions.now.items c.listed-hmac.result c.listed.result c.requires (sym c.if-is_some.ensures)
    c.listed-hmac.ensures c.listed.ensures
