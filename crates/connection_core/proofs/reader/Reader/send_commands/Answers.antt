use Rattle.std.proofs.Common.{length, refl, ap, ◌∙◌, arith}
use Rattle.cancel_words.specs.View.{WordView}
use Rattle.connection_core.specs.Line.{LineView}
use Rattle.connection_core.proofs.Holding.{held_first}
use Rattle.connection_core.proofs.Reading.{read_cancel, read_command, read_end_sent, read_first, read_nothing, read_pulled, read_sent, readers_at_first, readers_raised, sent_count}
use Rattle.connection_core.proofs.reader.Reader.send_commands.Goals as goal

pub loop-init : goal.loop-init
loop-init g c = record {
  goes = (tt, tt);
  rounds = omega arith;
  side = readers_at_first _ _ c.requires.side;
  keeper = c.requires.keeps;
  source_count = refl;
  so_far = read_first _ _ _ _ (held_first _ _ c.requires.side.unsent c.requires.unheld) c.requires.side.unraised c.requires.empty;
}

pub loop-preserved-in-Command : goal.loop-preserved-in-Command
loop-preserved-in-Command g c = record {
  goes = (tt, tt);
  rounds = omega (arith, c.loop.invariant.rounds, (c.in-Some.ensures.goes.on tt).2);
  side = c.put-frame.ensures.may_send.of;
  keeper = c.put-frame.ensures.may_send.keeps;
  source_count = c.in-Command.ensures.counts ∙ c.loop.invariant.source_count;
  so_far = read_command _ _ _ _ _ _ _ _ _ _ c.next-in-loop.new.frame c.loop.invariant.so_far c.in-Command.ensures.round c.put-frame.ensures.sent (ap (λ (v : WordView). v.raised) c.put-frame.ensures.seat);
}

pub loop-preserved-in-Cancel : goal.loop-preserved-in-Cancel
loop-preserved-in-Cancel g c = record {
  goes = (tt, tt);
  rounds = omega (arith, c.loop.invariant.rounds, (c.in-Some.ensures.goes.on tt).2);
  side = readers_raised c.args.link.now.between c.loop.self.side _ c.loop.invariant.side refl refl (ap (λ (v : WordView). v.word) c.raise.ensures) (ap (λ (v : WordView). v.role) c.raise.ensures);
  keeper = c.loop.invariant.keeper;
  source_count = c.in-Cancel.ensures.counts ∙ c.loop.invariant.source_count;
  so_far = read_cancel _ _ _ _ _ _ _ _ _ c.next-in-loop.new.frame c.loop.invariant.so_far c.in-Cancel.ensures.round (ap (λ (v : WordView). v.raised) c.raise.ensures);
}

pub loop-preserved-in-Pulled : goal.loop-preserved-in-Pulled
loop-preserved-in-Pulled g c = record {
  goes = (tt, tt);
  rounds = omega (arith, c.loop.invariant.rounds, (c.in-Some.ensures.goes.on tt).2);
  side = c.loop.invariant.side;
  keeper = c.loop.invariant.keeper;
  source_count = c.in-Pulled.ensures.counts ∙ c.loop.invariant.source_count;
  so_far = read_pulled _ _ _ _ _ _ _ _ c.next-in-loop.new.frame c.loop.invariant.so_far c.in-Pulled.ensures.round;
}

pub loop-preserved : goal.loop-preserved
loop-preserved g c = record {
  goes = (tt, tt);
  rounds = omega (arith, c.loop.invariant.rounds, (c.in-Some.ensures.goes.on tt).2);
  side = c.send_first.ensures.may_send.of;
  keeper = c.send_first.ensures.may_send.keeps;
  source_count = c.in-Nothing.ensures.counts ∙ c.loop.invariant.source_count;
  so_far = read_sent _ _ _ _ _ _ _ _ c.send_first.ensures.sent (ap (λ (v : WordView). v.raised) c.send_first.ensures.seat) (read_nothing _ _ _ _ _ _ _ _ c.next-in-loop.new.frame c.loop.invariant.so_far c.in-Nothing.ensures.round);
}

pub put-frame-requires-clause-few : goal.put-frame-requires-clause-few
put-frame-requires-clause-few g c = omega (arith, sent_count _ _ _ _ _ _ c.loop.invariant.so_far, c.loop.invariant.rounds, (c.in-Some.ensures.goes.on tt).2)

pub send_first-requires-clause-few : goal.send_first-requires-clause-few
send_first-requires-clause-few g c = omega (arith, sent_count _ _ _ _ _ _ c.loop.invariant.so_far, c.loop.invariant.rounds)

pub send_held-requires-clause-few : goal.send_held-requires-clause-few
send_held-requires-clause-few g c = omega (arith, sent_count _ _ _ _ _ _ c.loop.invariant.so_far, c.loop.invariant.rounds)

pub returns-in-End-clause-few : goal.returns-in-End-clause-few
returns-in-End-clause-few g c = omega (arith, ap (λ (v : LineView). length v.sent) c.send_held.ensures.sent, sent_count _ _ _ _ _ _ c.loop.invariant.so_far, c.loop.invariant.rounds, (c.in-Some.ensures.goes.on tt).2)

pub returns-in-End-clause-sent : goal.returns-in-End-clause-sent
returns-in-End-clause-sent g c =
    read_end_sent _ _ _ _ _ _ _ _ _ _ c.next-in-loop.new.self.framer c.next-in-loop.new.frame c.loop.invariant.so_far c.in-End.ensures.round c.send_held.ensures.sent (ap (λ (v : WordView). v.raised) c.send_held.ensures.seat)
