use Rattle.std.proofs.Common.{ℕ, ◌+◌, [], ◌∷◌, length, length-append, ap, arith, Ok, Err, List, ◌∙◌}
use Rattle.std.specs.List.{count_by}
use Rattle.std.proofs.lemmas.Result.{err_from_is_err_and}
use Rattle.object_swap.specs.Items.{ObjectsView}
use Rattle.session_swap.specs.Items as sessions
use Rattle.session_swap.specs.Items.{SessionsView}
use Rattle.device_port.specs.Device.{sent_of}
use Rattle.device_port.proofs.Sending.{asks_none, asks_some, asks_then, some_failed}
use Rattle.tab_spec.specs.declared.TheConstants.{TRANSIENT_FIRST}
use Rattle.tab_spec.specs.Shape.{number_of_session}
use Rattle.client_machine.proofs.Before.{asks_as, flushes_all, flushes_more, flushes_none}
use Rattle.client_machine.proofs.Costs.{sent_one}
use Rattle.client_machine.proofs.Leaving.{orphan_unleft, unleft}
use Rattle.client_machine.proofs.Orphans.{clears_failed, clears_none, clears_orphan, clears_session, clears_then, last_of, none_counted, orphans_less}
use Rattle.client_machine.proofs.Settling.{gap_settled, keeps_over_objects, keeps_over_sessions, objects_settled, sessions_settled}
use Rattle.client_machine.proofs.preparing.flush_orphans.Goals as goal

pub loop-handle-init : goal.loop-handle-init
loop-handle-init g c = record {
  clears = clears_none _ _ _ c.requires.settled;
  asks = asks_none g.D.Device.CONTEXTS g.D.Device.seen c.args.device.now;
  costs = omega arith;
  flushed = (0, omega arith, flushes_none g.D.Device.seen c.args.device.now);
}

pub drop_session-requires-clause-stand : goal.drop_session-requires-clause-stand
drop_session-requires-clause-stand g c =
    ([], sessions_settled (g.D.Device.seen c.loop-handle.device).state c.loop-handle.held c.loop-handle.invariant.clears.prepared.settled)

pub loop-handle-preserved : goal.loop-handle-preserved
loop-handle-preserved g c =
    let seen = g.D.Device.seen in
    let so_far = c.loop-handle.invariant.clears in
    let gone = c.in_ok-drop_session.ensures in
    let before = c.loop-handle.invariant.flushed in
    record {
      clears = clears_then _ _ _ _ _ _ _ so_far
          (clears_session _ _ _ c.loop-handle.held c.drop_session.new.self c.in-Some.handle c.in-Some.ensures.1
          (ap (λ (v : SessionsView). v.numbers) gone.ok.view_is) (ap (λ (v : SessionsView). v.contexts) gone.ok.view_is)
          (ap (λ (v : SessionsView). v.items) gone.ok.view_is)
          (ap (λ (v : SessionsView). v.next) gone.ok.view_is)
          (ap (λ (v : SessionsView). v.left) gone.ok.view_is
          ∙ unleft c.loop-handle.held.sessions.items c.loop-handle.held.sessions.left (number_of_session c.in-Some.handle) gone.listed
          (orphan_unleft (sessions.item_at c.loop-handle.held.sessions.items (number_of_session c.in-Some.handle)) c.in-Some.ensures.1))
          gone.ok.sessions
          (gone.stands.stand [] (sessions_settled (seen c.loop-handle.device).state c.loop-handle.held so_far.prepared.settled))
          gone.counts.counter
          (gone.counts.room (gap_settled (seen c.loop-handle.device).state c.loop-handle.held so_far.prepared.settled))
          gone.stands.rest so_far.prepared.settled);
      asks = asks_then g.D.Device.CONTEXTS seen _ c.loop-handle.device _ tt (Ok tt) c.loop-handle.invariant.asks (asks_some g.D.Device.CONTEXTS seen _ _ _ (Ok tt) gone.asks);
      costs = omega (
        arith,
        c.loop-handle.invariant.costs,
        sent_one seen _ _ _ (Ok tt) gone.asks,
        ap (λ (v : SessionsView). count_by sessions.is_orphan v.items) gone.ok.view_is,
        orphans_less c.loop-handle.held.sessions.items _ c.in-Some.ensures.1,
      );
      flushed = (
        before.0 + 1,
        omega (
          arith,
          before.1,
          ap (λ (v : SessionsView). count_by sessions.is_orphan v.items) gone.ok.view_is,
          orphans_less c.loop-handle.held.sessions.items _ c.in-Some.ensures.1,
        ),
        flushes_more seen _ c.loop-handle.device _ before.0 c.in-Some.handle tt before.2 gone.asks,
      );
    }

pub returns-in_err-drop_session-clause-costs : goal.returns-in_err-drop_session-clause-costs
returns-in_err-drop_session-clause-costs g c =
    omega (
      arith,
      c.loop-handle.invariant.costs,
      sent_one g.D.Device.seen _ _ _ (Err _) c.in_err-drop_session.ensures.asks,
      orphans_less c.loop-handle.held.sessions.items _ c.in-Some.ensures.1,
    )

pub returns-in_err-drop_session-clause-clears : goal.returns-in_err-drop_session-clause-clears
returns-in_err-drop_session-clause-clears g c =
    let failed = c.in_err-drop_session.ensures in
    clears_failed _ _ _ _ _ _ _ c.loop-handle.invariant.clears (keeps_over_sessions _ _ _ failed.stands.rest) failed.asks.err
    (ap (λ (v : SessionsView). record { objects = c.loop-handle.held.objects; sessions = v }) failed.err)
    (λ none. omega (arith, none, orphans_less c.loop-handle.held.sessions.items _ c.in-Some.ensures.1))

pub returns-in_err-drop_session-clause-asks : goal.returns-in_err-drop_session-clause-asks
returns-in_err-drop_session-clause-asks g c =
    let seen = g.D.Device.seen in
    let returned = c.from_residual in
    asks_then g.D.Device.CONTEXTS seen _ c.loop-handle.device _ tt returned.result c.loop-handle.invariant.asks
    (some_failed g.D.Device.CONTEXTS seen c.loop-handle.device _ _ returned.result (err_from_is_err_and returned.result returned.ensures.1)
    (asks_some g.D.Device.CONTEXTS seen _ _ _ (Err _) c.in_err-drop_session.ensures.asks))

pub loop-init : goal.loop-init
loop-init g c = record {
  clears = c.loop-handle.invariant.clears;
  asks = c.loop-handle.invariant.asks;
  costs = c.loop-handle.invariant.costs;
  flushed = c.loop-handle.invariant.flushed;
  none = none_counted sessions.is_orphan c.loop-handle.held.sessions.items c.in_default.ensures;
}

pub flush_orphan-requires : goal.flush_orphan-requires
flush_orphan-requires g c = record {
  stand = objects_settled (g.D.Device.seen c.loop.device).state c.loop.held c.loop.invariant.clears.prepared.settled;
}

pub loop-preserved : goal.loop-preserved
loop-preserved g c =
    let seen = g.D.Device.seen in
    let so_far = c.loop.invariant.clears in
    let gone = c.in_ok-flush_orphan.ensures in
    let lost = gone.flushed c.if-branch.true in
    let before = c.loop.invariant.flushed in
    let asked = gone.sent c.flush_orphan.new.self.left lost.slot lost.left in
    record {
      clears = clears_then _ _ _ _ _ _ _ so_far
          (clears_orphan _ _ _ c.loop.held c.flush_orphan.new.self lost gone.rest so_far.prepared.settled);
      asks = asks_then g.D.Device.CONTEXTS seen _ c.loop.device _ tt (Ok tt) c.loop.invariant.asks
          (asks_as seen _ _ _ tt gone.asks);
      costs = omega (
        arith,
        c.loop.invariant.costs,
        sent_one seen _ _ _ (Ok _) asked,
        ap (λ (l : List ℕ). length l) lost.left,
        length-append c.flush_orphan.new.self.left (lost.slot ∷ []),
      );
      flushed = (
        before.0 + 1,
        omega (
          arith,
          before.1,
          ap (λ (l : List ℕ). length l) lost.left,
          length-append c.flush_orphan.new.self.left (lost.slot ∷ []),
        ),
        flushes_more seen _ c.loop.device _ before.0 (TRANSIENT_FIRST + lost.slot) _ before.2 asked,
      );
      none = c.loop.invariant.none;
    }

pub returns-in_err-flush_orphan-clause-clears : goal.returns-in_err-flush_orphan-clause-clears
returns-in_err-flush_orphan-clause-clears g c =
    let failed = c.in_err-flush_orphan.ensures in
    clears_failed _ _ _ _ _ _ _ c.loop.invariant.clears (keeps_over_objects _ _ _ failed.rest) failed.err.1
    (ap (λ (v : ObjectsView). record { objects = v; sessions = c.loop.held.sessions }) failed.err.0)
    (λ none. omega (arith, none, failed.some))

pub returns-in_err-flush_orphan-clause-asks : goal.returns-in_err-flush_orphan-clause-asks
returns-in_err-flush_orphan-clause-asks g c =
    let seen = g.D.Device.seen in
    let returned = c.from_residual-in_err-flush_orphan in
    asks_then g.D.Device.CONTEXTS seen _ c.loop.device _ tt returned.result c.loop.invariant.asks
    (some_failed g.D.Device.CONTEXTS seen c.loop.device _ _ returned.result (err_from_is_err_and returned.result returned.ensures.1) c.in_err-flush_orphan.ensures.asks)

pub returns-in_err-flush_orphan-clause-costs : goal.returns-in_err-flush_orphan-clause-costs
returns-in_err-flush_orphan-clause-costs g c =
    let failed = c.in_err-flush_orphan.ensures in
    let last = last_of c.loop.held.objects.left failed.some in
    omega (
      arith,
      c.loop.invariant.costs,
      failed.some,
      sent_one g.D.Device.seen _ _ _ (Err _) (failed.sent last.0 last.1 last.2),
    )

pub returns-clause-costs : goal.returns-clause-costs
returns-clause-costs g c =
    omega (arith, c.loop.invariant.costs, ap (λ (d : _). sent_of (g.D.Device.seen d)) (c.in_ok-flush_orphan.ensures.none c.if-branch.false).2)

pub returns-clause-none : goal.returns-clause-none
returns-clause-none g c =
    let done = c.in_ok-flush_orphan.ensures.none c.if-branch.false in
    omega (
      arith,
      c.loop.invariant.none,
      ap (λ (l : List ℕ). length l) done.0,
      ap (λ (v : ObjectsView). length v.left) done.1,
    )

pub returns-clause-flushed : goal.returns-clause-flushed
returns-clause-flushed g c =
    let done = c.in_ok-flush_orphan.ensures.none c.if-branch.false in
    let before = c.loop.invariant.flushed in
    flushes_all g.D.Device.seen _ c.loop.device _ before.0 _ (omega (arith, before.1, c.loop.invariant.none, ap (λ (l : List ℕ). length l) done.0)) done.2
    before.2

pub returns-clause-asks : goal.returns-clause-asks
returns-clause-asks g c =
    let last = c.in_ok-flush_orphan.ensures.asks in
    asks_then g.D.Device.CONTEXTS g.D.Device.seen _ c.loop.device _ tt (Ok tt) c.loop.invariant.asks (asks_as g.D.Device.seen _ _ _ tt last)
