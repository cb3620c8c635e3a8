use Rattle.std.proofs.Common.{List, map, ap, ◌∙◌}
use Rattle.broker_lock.specs.Known.{limits_of}
use Rattle.script_lines.specs.declared.label.Label.{Label}
use Rattle.script_player.proofs.Ending.{leaves_by}
use Rattle.script_player.proofs.player.play_script.Goals as goal

pub returns-clause-leaves : goal.returns-clause-leaves
returns-clause-leaves g c =
    let played = c.play_lines-stop in
    let closes = rw played.ensures.kept.fixed_is at c.close_all.ensures.leads in
    leaves_by played.result (limits_of (g.B.Recorded.fixed c.args.value)) played.new.self.labels.present (g.B.Recorded.history played.new.self.value) (g.B.Recorded.history c.close_all.new.self.value)
    (g.I.Source.left c.args.input.now) (g.I.Source.left played.new.input) (g.O.Sink.written c.args.output.now) (g.O.Sink.written played.new.output)
    (g.B.Recorded.wrong played.new.self.value) (g.B.Recorded.wrong c.close_all.new.self.value) played.ensures.played played.ensures.stopped closes c.close_all.ensures.stays

pub returns-clause-cause : goal.returns-clause-cause
returns-clause-cause g c = record { before = g.B.Recorded.wrong c.play_lines-stop.new.self.value; cause = c.play_lines-stop.ensures.cause; stays = c.close_all.ensures.stays }

pub returns-clause-closed : goal.returns-clause-closed
returns-clause-closed g c = c.close_all.ensures.kept.fits.present ∙ ap (λ (ls : List Label). map (λ x. x.client) ls) c.close_all.ensures.none

pub returns-clause-fixed : goal.returns-clause-fixed
returns-clause-fixed g c = c.close_all.ensures.kept.fixed_is ∙ c.play_lines-stop.ensures.kept.fixed_is
