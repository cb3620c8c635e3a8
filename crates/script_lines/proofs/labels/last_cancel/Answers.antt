use Rattle.std.proofs.Common.{sym, ◌∙◌, arith}
use Rattle.std.proofs.lemmas.List.{take_rest}
use Rattle.tab_spec.specs.Frame.{command, cancel}
use Rattle.script_lines.proofs.Ahead.{shorter_by, fed_smaller, some_left, last_command, last_cancel, last_bad}
use Rattle.script_lines.proofs.labels.last_cancel.Goals as goal

pub loop-count-preserved-in-Command : goal.loop-count-preserved-in-Command
loop-count-preserved-in-Command c = record {
  few = omega (arith, c.loop-count.invariant.few, shorter_by (command c.next.new.out) _ _ _ c.in-Command.ensures);
  to_come = sym (last_command c.loop-count.upto c.loop-count.count _ _ _ c.loop-count.rest.now c.in-Command.ensures) ∙ c.loop-count.invariant.to_come;
}

pub loop-count-preserved-in-Cancel : goal.loop-count-preserved-in-Cancel
loop-count-preserved-in-Cancel c = record {
  few = omega (arith, c.loop-count.invariant.few, shorter_by cancel _ _ _ c.in-Cancel.ensures);
  to_come = sym (last_cancel c.loop-count.upto c.loop-count.count _ _ _ c.loop-count.rest.now c.in-Cancel.ensures) ∙ c.loop-count.invariant.to_come;
}

pub returns-in-BadSize : goal.returns-in-BadSize
returns-in-BadSize c =
    sym (last_bad c.loop-count.upto c.loop-count.count c.in-BadSize.field-0 c.loop-count.ahead c.loop-count.rest.now c.in-BadSize.ensures.0) ∙ c.loop-count.invariant.to_come

pub loop-count-smaller : goal.loop-count-smaller
loop-count-smaller c =
    fed_smaller c.loop-count.ahead c.next.new.self c.loop-count.rest.now _ c.feed-fed.new.self c.feed-fed.result c.in-NotYet.ensures
    (some_left c.is_empty.result c.loop-count.rest.now c.is_empty.ensures c.if-is_empty.false) c.feed-fed.ensures.count c.feed-fed.ensures.fed
    (take_rest c.loop-count.rest.now c.feed-fed.result)
