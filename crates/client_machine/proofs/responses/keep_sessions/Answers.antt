use Rattle.std.proofs.Common.{◌∙◌, sym}
use Rattle.client_machine.proofs.responses.keep_sessions.Goals as goal

pub forget_session-requires : goal.forget_session-requires
forget_session-requires c = (c.args.client, c.requires.own (sym c.ends_session.ensures ∙ c.if-ends_session.true))
