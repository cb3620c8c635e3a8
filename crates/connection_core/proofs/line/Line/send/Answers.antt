use Rattle.std.proofs.Common.{◌<◌, length, sym, ap, subst, ◌∙◌}
use Rattle.tab_spec.specs.Count.{largest_count}
use Rattle.connection_core.specs.Line.{LineView}
use Rattle.connection_core.proofs.Relays.{sends_line}
use Rattle.connection_core.proofs.line.Line.send.Goals as goal

pub send_as-requires-clause-rule : goal.send_as-requires-clause-rule
send_as-requires-clause-rule g c = (sends_line _ _ _ _ (ap (λ (v : LineView). v.sends) c.loop.invariant.same ∙ c.requires.sends) (subst (λ (v : LineView). length v.sent < largest_count) (sym c.loop.invariant.same) c.requires.few), λ items views h at. tt)
