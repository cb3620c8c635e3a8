use Rattle.std.proofs.Common.{◌≡◌, ◌∷◌, [], true, false, eqb, length, ap, sym, ◌∙◌, arith, length-append}
use Rattle.tab_fields.proofs.Trimming.{ends_in_zero, ends_otherwise}
use Rattle.tab_fields.proofs.fields.without_zeros.Goals as goal

pub returns-then-last-ne0-clause-value : goal.returns-then-last-ne0-clause-value
returns-then-last-ne0-clause-value c =
    let other : eqb c.in-Some.last.now 0 ≡ false = grind arith in
    sym (ends_otherwise c.loop-last.rest.now c.in-Some.front.now c.in-Some.last.now c.in-Some.ensures.cases.0 other) ∙ c.loop-last.invariant.same

pub loop-last-preserved : goal.loop-last-preserved
loop-last-preserved c =
    let zero_is : eqb c.in-Some.last.now 0 ≡ true = grind arith in
    let is = c.in-Some.ensures.cases.0 in
    record {
      same = ends_in_zero c.loop-last.rest.now c.in-Some.front.now c.in-Some.last.now is zero_is ∙ c.loop-last.invariant.same;
      most = omega (arith, ap length is, length-append c.in-Some.front.now (c.in-Some.last.now ∷ []), c.loop-last.invariant.most);
    }
