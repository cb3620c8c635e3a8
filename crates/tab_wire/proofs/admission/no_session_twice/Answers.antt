use Rattle.std.proofs.Common.{◌∙◌, sym}
use Rattle.tab_wire.proofs.Sessions.{is_new_at, is_repeated_at}
use Rattle.tab_wire.proofs.admission.no_session_twice.Goals as goal

pub returns-then-is_named : goal.returns-then-is_named
returns-then-is_named c =
    c.loop-index.invariant
    ∙ is_repeated_at c.args.handles c.args.auths.now c.loop-index.index c.loop-index-test.true (sym c.is_named.ensures ∙ c.if-is_named.true)

pub loop-index-preserved : goal.loop-index-preserved
loop-index-preserved c =
    c.loop-index.invariant
    ∙ is_new_at c.args.handles c.args.auths.now c.loop-index.index c.loop-index-test.true (sym c.is_named.ensures ∙ c.if-is_named.false)
