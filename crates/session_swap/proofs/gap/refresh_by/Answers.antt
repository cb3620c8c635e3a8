use Rattle.std.proofs.Common.{◌≡◌, ◌∙◌, ℕ, drop, inl, inr, refl, ap, arith, rules}
use Rattle.std.specs.Prelude.{Ok, min}
use Rattle.std.proofs.lemmas.Result.{err_from_is_err_and}
use Rattle.device_port.specs.Device.{sent_of}
use Rattle.device_port.proofs.Sending.{asks_none, asks_then, some_failed}
use Rattle.session_swap.proofs.Asking.{some_ok}
use Rattle.tab_spec.specs.declared.numbers.Numbers.{Numbers}
use Rattle.session_swap.specs.Items.{KeepsRecent, SessionsView, counter_of, full_kept, gap_kept, renewal_gap, saved_items}
use Rattle.session_swap.proofs.Refreshed.{begins, counted_first, counted_next, counter_next, counts_all, counts_next, few_all, few_saved, goes_on, kept_most, kept_none, narrow_all, narrow_kept, order_next, order_start, sent_next, stays_recent, steps_last, steps_next, visited_failed}
use Rattle.session_swap.proofs.Renewed.{one_left, told_all}
use Rattle.session_swap.proofs.gap.refresh_by.Goals as goal

pub loop-renewed-init : goal.loop-renewed-init
loop-renewed-init g c =
    let state = (g.D.Device.seen c.args.device.now).state in
    record {
      moved = record {
        numbers = refl;
        left = refl;
        contexts = refl;
        sessions = record { sessions = refl; holders = refl };
        stand = c.requires.stand;
        rest = record { base_is = refl; rest = refl; rises = omega arith; count = omega arith };
      };
      room = c.requires.room;
      progress = begins state c.args.sessions.now c.from-most.result c.requires.stand (c.from-most.ensures ∙ c.saved.ensures);
      recent = told_all state (λ slots. KeepsRecent slots c.args.sessions.now.items c.args.sessions.now.items) (λ slots number last is near. refl);
      counter = omega arith;
      exact = counted_first state;
      free = λ one. absurd (omega arith);
      first = λ none. (refl, refl);
      still = λ narrow. refl;
      places = λ one. absurd (omega arith);
      sent = omega arith;
      steps = omega arith;
      counted = omega arith;
      order = order_start c.args.sessions.now;
      few = λ one. absurd (omega arith);
      asks = asks_none g.D.Device.CONTEXTS g.D.Device.seen c.args.device.now;
    }

pub returns-in_default-clause-refreshes : goal.returns-in_default-clause-refreshes
returns-in_default-clause-refreshes g c = record {
  ok =
      let held = c.loop-renewed.invariant in
      let small = c.in_default.ensures.due in
      record {
        narrow = narrow_kept (g.D.Device.seen c.loop-renewed.device).state c.loop-renewed.sessions held.moved.stand c.in_default.ensures.sound small;
        most = omega (arith, c.from-most.ensures, c.saved.ensures);
        counted = held.exact;
        done = inl small;
        order = held.order;
      };
  still = search rules;
  recent = search rules;
  moved = search rules;
  counts =
      let held = c.loop-renewed.invariant in
      let few = few_saved c.args.sessions.now c.loop-renewed.sessions c.in_default.ensures.sound held.moved.sessions.holders held.moved.numbers in
      record {
        room = held.room;
        counter = omega (arith, held.counter, few.all, c.loop-renewed.auto.renewed-end, c.from-most.ensures, c.saved.ensures);
        sent = omega (arith, held.sent, c.loop-renewed.auto.renewed-end, c.from-most.ensures, c.saved.ensures);
        few = few.active;
      };
  asks = some_ok g.D.Device.CONTEXTS g.D.Device.seen c.args.device.now c.loop-renewed.device tt c.loop-renewed.renewed c.loop-renewed.invariant.asks;
}

pub returns-in_default-clause-steps : goal.returns-in_default-clause-steps
returns-in_default-clause-steps g c =
    let held = c.loop-renewed.invariant in
    steps_last (g.C.Visits.count c.args.steps.now) (g.C.Visits.count c.loop-renewed.steps) (g.C.Visits.count c.due.new.steps)
    c.loop-renewed.renewed held.steps c.in_default.ensures.steps

pub loop-renewed-preserved : goal.loop-renewed-preserved
loop-renewed-preserved g c =
    let seen = g.D.Device.seen in
    let held = c.loop-renewed.invariant in
    let moved = held.moved in
    let left = c.in_ok-renew_by.ensures in
    let next = left.renews in
    let again = next.moved in
    let old_state = (seen c.loop-renewed.device).state in
    let new_state = (seen c.renew_by.new.device).state in
    let sessions = c.loop-renewed.sessions in
    let new_sessions = c.renew_by.new.self in
    let handle = c.in-Some.handle in
    let start = counter_of (seen c.args.device.now).state in
    let due = c.in-Some.ensures.due in
    let sound = c.in-Some.ensures.sound in
    let wide = due.1 in
    record {
      moved = record {
        numbers = again.numbers ∙ moved.numbers;
        left = again.left ∙ moved.left;
        contexts = again.contexts ∙ moved.contexts;
        sessions = record {
          sessions = again.sessions.sessions ∙ moved.sessions.sessions;
          holders = again.sessions.holders ∙ moved.sessions.holders;
        };
        stand = again.stand;
        rest = record {
          base_is = again.rest.base_is ∙ moved.rest.base_is;
          rest = again.rest.rest ∙ moved.rest.rest;
          rises = omega (arith, moved.rest.rises, again.rest.rises);
          count = omega (arith, moved.rest.count, again.rest.count);
        };
      };
      room = next.counts.room;
      progress = goes_on old_state new_state sessions new_sessions handle start c.from-most.result c.loop-renewed.renewed moved.stand again.stand
          again.rest.rest held.progress c.loop-renewed-test.true wide held.counter sound due.0 next.ok.0.renewed next.ok.0.fresh;
      recent = stays_recent old_state new_state c.args.sessions.now.items sessions new_sessions handle moved.stand again.rest.rest held.recent wide
          sound due.0 next.others again.rest.rises;
      counter = counter_next start (counter_of old_state) (counter_of new_state) c.loop-renewed.renewed held.counter
          (λ none. ap (λ (device : g.row.D.Denot). counter_of (seen device).state) (held.first none).0)
          (λ one. next.counts.counter_free (held.free one)) next.counts.counter;
      exact = counted_next (seen c.args.device.now).state old_state new_state c.loop-renewed.renewed held.exact
          (λ none. ap (λ (device : g.row.D.Denot). (seen device).state) (held.first none).0) held.free again.rest.rest next.ok.0.exact;
      free = λ one. next.ok.0.free;
      first = λ none. absurd (omega arith);
      still = λ narrow.
          let first = (held.first (held.still narrow)).1 in
          absurd (omega (arith, ap gap_kept first, ap (λ (v : SessionsView). renewal_gap v.numbers) first, narrow, wide));
      places = λ one.
          let few = one_left sessions sessions.order new_sessions.order sound.range sound.lists (omega (arith, sound.most, sound.lists.count))
          next.ok.1.order in
          omega (arith, few, ap (λ (n : Numbers). n.loaded) again.numbers);
      sent = sent_next (sent_of (seen c.args.device.now)) (sent_of (seen c.loop-renewed.device)) (sent_of (seen c.renew_by.new.device))
          c.loop-renewed.renewed (full_kept sessions) held.sent next.counts.sent (kept_most sessions)
          (λ one. kept_none sessions sound (held.places one));
      steps = steps_next (g.C.Visits.count c.args.steps.now) (g.C.Visits.count c.loop-renewed.steps) (g.C.Visits.count c.due.new.steps)
          (g.C.Visits.count c.renew_by.new.steps) c.loop-renewed.renewed (full_kept sessions) held.steps c.in-Some.ensures.steps left.steps
          (kept_most sessions) (λ one. kept_none sessions sound (held.places one));
      counted = counts_next (g.C.Visits.count c.args.steps.now) (g.C.Visits.count c.loop-renewed.steps) (g.C.Visits.count c.due.new.steps)
          (g.C.Visits.count c.renew_by.new.steps) c.loop-renewed.renewed g.C.Visits.weight held.counted c.in-Some.ensures.counted left.counted;
      order = order_next c.args.sessions.now sessions new_sessions c.loop-renewed.renewed held.order (λ none. (held.first none).1)
          (λ one. kept_none sessions sound (held.places one)) next.ok.1.order;
      few = λ one. few_saved c.args.sessions.now sessions sound moved.sessions.holders moved.numbers;
      asks = asks_then g.D.Device.CONTEXTS seen c.args.device.now c.loop-renewed.device c.renew_by.new.device tt (Ok tt) held.asks next.asks;
    }

pub returns-clause-refreshes : goal.returns-clause-refreshes
returns-clause-refreshes g c = record {
  ok =
      let held = c.loop-renewed.invariant in
      record {
        narrow = narrow_all (g.D.Device.seen c.loop-renewed.device).state c.loop-renewed.sessions (counter_of (g.D.Device.seen c.args.device.now).state)
            c.from-most.result c.loop-renewed.renewed held.moved.stand held.progress c.loop-renewed-test.false held.counter;
        most = omega (arith, c.from-most.ensures, c.saved.ensures);
        counted = search rules;
        done = inr (c.from-most.ensures ∙ c.saved.ensures);
        order =
            let all : c.loop-renewed.renewed ≡ c.from-most.result = omega (arith, c.loop-renewed.auto.renewed-end, c.loop-renewed-test.false) in
            held.order ∙ ap (λ (n : ℕ). drop (min n (full_kept c.args.sessions.now)) c.args.sessions.now.order) all;
      };
  still = search rules;
  recent = search rules;
  moved = search rules;
  counts =
      let held = c.loop-renewed.invariant in
      let few = few_all c.from-most.result (saved_items c.args.sessions.now.items) c.loop-renewed.renewed c.args.sessions.now.numbers (c.from-most.ensures ∙ c.saved.ensures)
      c.loop-renewed-test.false held.few in
      record {
        room = held.room;
        counter = omega (arith, held.counter, few.all, c.loop-renewed.auto.renewed-end, c.from-most.ensures, c.saved.ensures);
        sent = omega (arith, held.sent, c.loop-renewed.auto.renewed-end, c.from-most.ensures, c.saved.ensures);
        few = few.active;
      };
  asks = some_ok g.D.Device.CONTEXTS g.D.Device.seen c.args.device.now c.loop-renewed.device tt c.from-most.result c.loop-renewed.invariant.asks;
}

pub returns-clause-steps : goal.returns-clause-steps
returns-clause-steps g c =
    let held = c.loop-renewed.invariant in
    omega (arith, held.steps, c.loop-renewed.auto.renewed-end, c.loop-renewed-test.false)

pub returns-in_err-renew_by-clause-refreshes : goal.returns-in_err-renew_by-clause-refreshes
returns-in_err-renew_by-clause-refreshes g c = record {
  ok = search rules;
  still = search rules;
  recent =
      let seen = g.D.Device.seen in
      let held = c.loop-renewed.invariant in
      let next = c.renew_by.ensures.renews in
      stays_recent (seen c.loop-renewed.device).state (seen c.renew_by.new.device).state c.args.sessions.now.items c.loop-renewed.sessions c.renew_by.new.self
      c.in-Some.handle held.moved.stand next.moved.rest.rest held.recent c.in-Some.ensures.due.1 c.in-Some.ensures.sound c.in-Some.ensures.due.0 next.others
      next.moved.rest.rises;
  moved =
      let moved = c.loop-renewed.invariant.moved in
      let again = c.renew_by.ensures.renews.moved in
      record {
        numbers = again.numbers ∙ moved.numbers;
        left = again.left ∙ moved.left;
        contexts = again.contexts ∙ moved.contexts;
        sessions = record {
          sessions = again.sessions.sessions ∙ moved.sessions.sessions;
          holders = again.sessions.holders ∙ moved.sessions.holders;
        };
        stand = again.stand;
        rest = record {
          base_is = again.rest.base_is ∙ moved.rest.base_is;
          rest = again.rest.rest ∙ moved.rest.rest;
          rises = omega (arith, moved.rest.rises, again.rest.rises);
          count = omega (arith, moved.rest.count, again.rest.count);
        };
      };
  counts =
      let seen = g.D.Device.seen in
      let held = c.loop-renewed.invariant in
      let next = c.renew_by.ensures.renews.counts in
      let sessions = c.loop-renewed.sessions in
      let sound = c.in-Some.ensures.sound in
      let few = few_saved c.args.sessions.now sessions sound held.moved.sessions.holders held.moved.numbers in
      let counter = counter_next (counter_of (seen c.args.device.now).state) (counter_of (seen c.loop-renewed.device).state)
      (counter_of (seen c.renew_by.new.device).state) c.loop-renewed.renewed held.counter
      (λ none. ap (λ (device : g.row.D.Denot). counter_of (seen device).state) (held.first none).0)
      (λ one. next.counter_free (held.free one)) next.counter in
      let sent = sent_next (sent_of (seen c.args.device.now)) (sent_of (seen c.loop-renewed.device)) (sent_of (seen c.renew_by.new.device))
      c.loop-renewed.renewed (full_kept sessions) held.sent next.sent (kept_most sessions)
      (λ one. kept_none sessions sound (held.places one)) in
      record {
        room = next.room;
        counter = omega (arith, counter, few.all, c.loop-renewed-test.true, c.from-most.ensures, c.saved.ensures);
        sent = omega (arith, sent, c.loop-renewed-test.true, c.from-most.ensures, c.saved.ensures);
        few = few.active;
      };
  asks =
      let seen = g.D.Device.seen in
      asks_then g.D.Device.CONTEXTS seen c.args.device.now c.loop-renewed.device c.renew_by.new.device tt c.from_residual.result c.loop-renewed.invariant.asks
      (some_failed g.D.Device.CONTEXTS seen c.loop-renewed.device c.renew_by.new.device _ c.from_residual.result
      (err_from_is_err_and c.from_residual.result c.from_residual.ensures.1) c.in_err-renew_by.ensures.renews.asks);
}

pub returns-in_err-renew_by-clause-steps : goal.returns-in_err-renew_by-clause-steps
returns-in_err-renew_by-clause-steps g c =
    let held = c.loop-renewed.invariant in
    let sessions = c.loop-renewed.sessions in
    let sound = c.in-Some.ensures.sound in
    let steps = steps_next (g.C.Visits.count c.args.steps.now) (g.C.Visits.count c.loop-renewed.steps) (g.C.Visits.count c.due.new.steps)
    (g.C.Visits.count c.renew_by.new.steps) c.loop-renewed.renewed (full_kept sessions) held.steps c.in-Some.ensures.steps
    c.renew_by.ensures.steps (kept_most sessions) (λ one. kept_none sessions sound (held.places one)) in
    visited_failed (g.C.Visits.count c.args.steps.now) (g.C.Visits.count c.renew_by.new.steps) (saved_items c.args.sessions.now.items)
    c.from_residual.result _ (err_from_is_err_and c.from_residual.result c.from_residual.ensures.1).1
    (omega (arith, steps, c.loop-renewed-test.true, c.from-most.ensures, c.saved.ensures))

pub returns-in_default-clause-counted : goal.returns-in_default-clause-counted
returns-in_default-clause-counted g c = omega (arith, c.loop-renewed.invariant.counted, c.due.ensures.rises)

pub returns-clause-counted : goal.returns-clause-counted
returns-clause-counted g c =
    counts_all (g.C.Visits.count c.args.steps.now) (g.C.Visits.count c.loop-renewed.steps) c.loop-renewed.renewed c.from-most.result g.C.Visits.weight
    c.loop-renewed.invariant.counted (omega (arith, c.loop-renewed.auto.renewed-end, c.loop-renewed-test.false))
