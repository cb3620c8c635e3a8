use Rattle.std.proofs.Common.{◌≡◌, ◌∙◌, length, sym, arith}
use Rattle.std.proofs.lemmas.Bool.{eqb-true}
use Rattle.script_lines.proofs.LineWords.{push_digits-step, push_digits-end}
use Rattle.script_lines.proofs.lines.push_digits.Goals as goal

pub loop-rest-preserved : goal.loop-rest-preserved
loop-rest-preserved c =
    let cut = c.split_at.ensures in
    let so_far = c.loop-rest.invariant in
    record {
      items = push_digits-step c.loop-rest.rest.now c.split_at.result.0.now c.split_at.result.1.now c.min.result c.loop-rest.line.items
          c.push_front.new.line.items _ cut.front cut.back c.push_front.ensures.items so_far.items;
      len = omega (arith, cut.front_len, cut.back_len, c.push_front.ensures.len, so_far.len, c.min.ensures);
      capacity = omega (arith, c.push_front.ensures.capacity, so_far.capacity);
    }

pub returns-clause-items : goal.returns-clause-items
returns-clause-items c =
    let none = eqb-true (length c.loop-rest.rest.now) 0 (sym c.is_empty.ensures ∙ c.loop-rest-test.false) in
    push_digits-end c.loop-rest.rest.now c.loop-rest.line.items _ none c.loop-rest.invariant.items

pub returns-clause-len : goal.returns-clause-len
returns-clause-len c =
    let none = eqb-true (length c.loop-rest.rest.now) 0 (sym c.is_empty.ensures ∙ c.loop-rest-test.false) in
    omega (arith, none, c.loop-rest.invariant.len)
