use Rattle.std.proofs.Common.{refl, sym, ◌∙◌}
use Rattle.link_pool.proofs.Coming.{keeps_enough, keeps_failed, keeps_last, keeps_more}
use Rattle.link_pool.proofs.turn.accept_next.Goals as goal

pub returns-then-turn-eq0-clause-kept : goal.returns-then-turn-eq0-clause-kept
returns-then-turn-eq0-clause-kept g c = keeps_enough g.J.Begins.begun _ _ _ _ _ _ c.requires.kept (sym c.is_over.ensures ∙ c.if-is_over.false) c.if-turn-eq0.true

pub returns-in-Ok-Some-clause-kept : goal.returns-in-Ok-Some-clause-kept
returns-in-Ok-Some-clause-kept g c =
    keeps_more g.J.Begins.begun _ _ _ _ _ _ _ _ _ _ _ _ c.in-Ok-Some.ends c.requires.kept (sym c.is_over.ensures ∙ c.if-is_over.false) c.if-turn-eq0.false
    c.in-Ok-Some.field-0-is c.in-Ok-Some.ensures.accepted c.in-Ok-Some.ensures.quiet c.next_link.ensures.name c.grow.ensures refl

pub returns-in-Ok-None-clause-kept : goal.returns-in-Ok-None-clause-kept
returns-in-Ok-None-clause-kept g c =
    keeps_last g.J.Begins.begun _ _ _ _ _ _ _ _ _ _ c.requires.kept (sym c.is_over.ensures ∙ c.if-is_over.false) c.in-Ok-None.field-0-is c.in-Ok-None.ensures.accepted c.in-Ok-None.ensures.quiet
    c.next_link.ensures.name

pub returns-in-Err-clause-kept : goal.returns-in-Err-clause-kept
returns-in-Err-clause-kept g c =
    keeps_failed g.J.Begins.begun _ _ _ _ _ _ _ _ _ c.requires.kept (sym c.is_over.ensures ∙ c.if-is_over.false) c.in-Err.ensures.err c.in-Err.ensures.fault c.next_link.ensures.name
