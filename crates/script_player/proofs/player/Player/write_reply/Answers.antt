use Rattle.std.proofs.Common.{◌≡◌, ap, sym, ◌∙◌}
use Rattle.script_spec.specs.Plays.{reply_line}
use Rattle.tab_laws.proofs.Outcomes.{from_err}
use Rattle.script_player.proofs.Stopping.{wrote_front}
use Rattle.script_player.proofs.player.Player.write_reply.Goals as goal

pub returns-then-is_err-clause-front : goal.returns-then-is_err-clause-front
returns-then-is_err-clause-front g c =
    let line : c.deref.result.now ≡ reply_line c.args.label c.args.self.now.reply = c.deref.ensures.value ∙ c.write_reply_line.ensures.line ∙ ap (reply_line c.args.label) c.as_slice.ensures.value in
    let failed = from_err c.push_all.result _ c.push_all.ensures.err (sym c.is_err.ensures.value ∙ c.if-is_err.true) in
    wrote_front c.args.label c.args.self.now.reply c.deref.result.now _ _ failed.0 line failed.1 failed.2
