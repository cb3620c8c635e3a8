use Rattle.std.proofs.Common.{rules, ◌∙◌}
use Rattle.broker_lock.proofs.Steps.{gives_at, put_in, raised_at, raises_at}
use Rattle.broker_lock.proofs.turn.give_back.Goals as goal

pub store-requires : goal.store-requires
store-requires g c = (
  c.exchange-nothing.ensures.0 ∙ c.requires.own,
  search rules,
  raises_at g.B.Recorded.history g.B.Recorded.fixed g.B.Recorded.wrong _ _ c.args.seat.now.me.0 c.exchange-nothing.new.seat.me c.args.value c.entries-count.result
      (put_in g.B.Recorded.history g.B.Recorded.fixed g.B.Recorded.wrong c.args.seat.now.me c.exchange-nothing.new.seat.me c.args.value c.requires.out c.exchange-nothing.ensures.3) c.requires.may c.entries-count.ensures,
)

pub store-requires-2 : goal.store-requires-2
store-requires-2 g c = (
  c.store.ensures.0 ∙ (c.exchange-nothing.ensures.0 ∙ c.requires.own),
  search rules,
  gives_at g.B.Recorded.history g.B.Recorded.fixed g.B.Recorded.wrong _ _ c.args.seat.now.me.0 c.store.new.seat.me c.args.value
      (raised_at g.B.Recorded.history g.B.Recorded.fixed g.B.Recorded.wrong c.args.seat.now.me.0 c.exchange-nothing.new.seat.me c.store.new.seat.me c.args.value c.entries-count.result
      (put_in g.B.Recorded.history g.B.Recorded.fixed g.B.Recorded.wrong c.args.seat.now.me c.exchange-nothing.new.seat.me c.args.value c.requires.out c.exchange-nothing.ensures.3) c.store.ensures.2)
      c.requires.may,
)
