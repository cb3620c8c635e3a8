use Rattle.std.proofs.Common.{◌∙◌, ap, arith, subst, sym, ◌<◌, Ok}
use Rattle.std.proofs.lemmas.Result.{err_from_is_err_and}
use Rattle.device_port.proofs.Sending.{asks_then, some_failed}
use Rattle.session_swap.specs.Items.{SessionsView, gap_kept, renewal_gap, saved_items}
use Rattle.client_machine.specs.declared.held.Held.{Held}
use Rattle.client_machine.specs.Moves.{Loses}
use Rattle.client_machine.proofs.Before.{asks_as, before_flushed, before_then, ready_failed}
use Rattle.client_machine.proofs.Costs.{renews_few}
use Rattle.client_machine.proofs.Loading.{sessions_moved}
use Rattle.client_machine.proofs.Orphans.{prepares_more, prepares_then}
use Rattle.client_machine.proofs.preparing.renew.Goals as goal

pub returns-in_err-flush_orphans-clause-prepared : goal.returns-in_err-flush_orphans-clause-prepared
returns-in_err-flush_orphans-clause-prepared g c = prepares_more g.D.Device.seen _ _ _ _ (omega arith) c.flush_orphans.ensures.clears.prepared

pub returns-in_err-flush_orphans-clause-sends : goal.returns-in_err-flush_orphans-clause-sends
returns-in_err-flush_orphans-clause-sends g c =
    let seen = g.D.Device.seen in
    let failed = err_from_is_err_and c.from_residual.result c.from_residual.ensures.1 in
    ready_failed seen _ _ _ _ c.from_residual.result failed (some_failed g.D.Device.CONTEXTS seen _ _ _ c.from_residual.result failed c.in_err-flush_orphans.ensures.asks)

pub returns-in_err-refresh-clause-prepared : goal.returns-in_err-refresh-clause-prepared
returns-in_err-refresh-clause-prepared g c =
    let seen = g.D.Device.seen in
    let first = c.flush_orphans.ensures.clears.prepared in
    let between = c.flush_orphans.new.held in
    prepares_then seen _ c.flush_orphans.new.device _ _ between _ (omega arith) first
    (sessions_moved seen 65 c.flush_orphans.new.device c.refresh.new.device between c.refresh.new.sessions c.refresh.ensures.moved
    c.refresh.ensures.counts.room (omega (arith, c.refresh.ensures.counts.counter)) first.settled)

pub returns-in_err-refresh-clause-sends : goal.returns-in_err-refresh-clause-sends
returns-in_err-refresh-clause-sends g c =
    let seen = g.D.Device.seen in
    let returned = c.from_residual-in_err-refresh in
    let failed = err_from_is_err_and returned.result returned.ensures.1 in
    ready_failed seen _ _ _ _ returned.result failed
    (asks_then g.D.Device.CONTEXTS seen _ c.flush_orphans.new.device _ tt returned.result c.in_ok-flush_orphans.ensures.asks
    (some_failed g.D.Device.CONTEXTS seen c.flush_orphans.new.device _ _ returned.result failed c.in_err-refresh.ensures.asks))

pub returns-clause-prepared : goal.returns-clause-prepared
returns-clause-prepared g c =
    let seen = g.D.Device.seen in
    let first = c.flush_orphans.ensures.clears.prepared in
    let between = c.flush_orphans.new.held in
    prepares_then seen _ c.flush_orphans.new.device _ _ between _ (omega arith) first
    (sessions_moved seen 65 c.flush_orphans.new.device c.refresh.new.device between c.refresh.new.sessions c.refresh.ensures.moved
    c.refresh.ensures.counts.room (omega (arith, c.refresh.ensures.counts.counter)) first.settled)

pub returns-clause-clear : goal.returns-clause-clear
returns-clause-clear g c =
    let first = c.flush_orphans.ensures.clears.prepared in
    let renewed = sessions_moved g.D.Device.seen 65 c.flush_orphans.new.device c.refresh.new.device c.flush_orphans.new.held c.refresh.new.sessions
    c.refresh.ensures.moved c.refresh.ensures.counts.room (omega (arith, c.refresh.ensures.counts.counter)) first.settled in
    record {
      nobodys = omega (arith, c.in_ok-flush_orphans.ensures.none, renewed.orphans);
      narrow = c.in_ok-refresh.ensures.ok.narrow;
    }

pub returns-clause-still : goal.returns-clause-still
returns-clause-still g c = λ none narrow.
    let flushed = c.flush_orphans.ensures.clears.still none in
    let renewed = c.refresh.ensures.still (subst (λ (h : Held). gap_kept h.sessions < renewal_gap h.sessions.numbers) (sym flushed.1) narrow) in
    (renewed.0 ∙ flushed.0, (λ i. record { objects = c.flush_orphans.new.held.objects; sessions = renewed.1 i }) ∙ flushed.1)

pub returns-clause-sends : goal.returns-clause-sends
returns-clause-sends g c =
    let seen = g.D.Device.seen in
    let first = c.in_ok-flush_orphans.ensures in
    let last = asks_as seen c.flush_orphans.new.device c.refresh.new.device _ tt c.in_ok-refresh.ensures.asks in
    record {
      asks = asks_then g.D.Device.CONTEXTS seen _ c.flush_orphans.new.device _ tt (Ok tt) first.asks last;
      before = before_then seen _ _ c.flush_orphans.new.device _ tt (before_flushed seen _ _ _ tt first.flushed first.asks) last;
    }

pub returns-in_err-refresh-clause-costs : goal.returns-in_err-refresh-clause-costs
returns-in_err-refresh-clause-costs g c =
    let renewed = c.refresh.ensures in
    omega (
      arith,
      c.flush_orphans.ensures.costs,
      renews_few g.D.Device.seen c.flush_orphans.new.device c.refresh.new.device (gap_kept c.args.held.now.sessions)
          (gap_kept c.flush_orphans.new.held.sessions) (saved_items c.flush_orphans.new.held.sessions.items) c.args.held.now.sessions.numbers
          c.flush_orphans.new.held.sessions.numbers c.flush_orphans.ensures.clears.prepared.numbers c.flush_orphans.ensures.clears.gap
          (λ narrow. (renewed.still narrow).0) (omega (arith, renewed.counts.sent)) renewed.counts.few,
    )

pub returns-clause-costs : goal.returns-clause-costs
returns-clause-costs g c =
    let renewed = c.refresh.ensures in
    omega (
      arith,
      c.flush_orphans.ensures.costs,
      renews_few g.D.Device.seen c.flush_orphans.new.device c.refresh.new.device (gap_kept c.args.held.now.sessions)
          (gap_kept c.flush_orphans.new.held.sessions) (saved_items c.flush_orphans.new.held.sessions.items) c.args.held.now.sessions.numbers
          c.flush_orphans.new.held.sessions.numbers c.flush_orphans.ensures.clears.prepared.numbers c.flush_orphans.ensures.clears.gap
          (λ narrow. (renewed.still narrow).0) (omega (arith, renewed.counts.sent)) renewed.counts.few,
    )

pub returns-in_err-refresh-clause-stays : goal.returns-in_err-refresh-clause-stays
returns-in_err-refresh-clause-stays g c = λ narrow.
    let flushed = c.flush_orphans.ensures.clears in
    subst (λ (v : SessionsView). Loses c.args.held.now (record { objects = c.flush_orphans.new.held.objects; sessions = v }))
    (sym (c.refresh.ensures.still (omega (arith, flushed.gap, narrow, ap renewal_gap flushed.prepared.numbers))).1) flushed.loses

pub returns-clause-stays : goal.returns-clause-stays
returns-clause-stays g c = λ narrow.
    let flushed = c.flush_orphans.ensures.clears in
    subst (λ (v : SessionsView). Loses c.args.held.now (record { objects = c.flush_orphans.new.held.objects; sessions = v }))
    (sym (c.refresh.ensures.still (omega (arith, flushed.gap, narrow, ap renewal_gap flushed.prepared.numbers))).1) flushed.loses
