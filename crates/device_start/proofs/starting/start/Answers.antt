use Rattle.std.proofs.Common.{List, Err, ap, sym, ◌∙◌, subst}
use Rattle.std.specs.Prelude.{is_some}
use Rattle.std.proofs.lemmas.Result.{err_from_is_err_and}
use Rattle.device_port.specs.Device.{Transmission}
use Rattle.device_port.proofs.Sending.{asks_then}
use Rattle.device_start.specs.Start.{Flushes, HasStartCause, all_listed}
use Rattle.device_start.proofs.Found.{running_now}
use Rattle.device_start.proofs.Left.{cleared_since, few_then, found_listed, is_cleared}
use Rattle.device_start.proofs.Sent.{attempts_then, err_carried, right_end}
use Rattle.device_start.proofs.Values.{later_fails, numbers_own, numbers_range}
use Rattle.device_start.proofs.starting.start.Goals as goal

pub returns-in_err-numbers-clause-attempts : goal.returns-in_err-numbers-clause-attempts
returns-in_err-numbers-clause-attempts g c = c.in_err-numbers.ensures.err.attempts

pub returns-in_err-numbers-clause-cause : goal.returns-in_err-numbers-clause-cause
returns-in_err-numbers-clause-cause g c =
    let seen = g.D.Device.seen in
    let result = c.from_residual.result in
    err_carried (λ e. HasStartCause g.D.Device.CONTEXTS seen e c.args.device.now c.ask_numbers.new.device) c.in_err-numbers.field-0.0 result
    (err_from_is_err_and result c.from_residual.ensures.1) c.in_err-numbers.ensures.err.cause

pub find-requires : goal.find-requires
find-requires g c =
    let numbers = c.in_ok-numbers.numbers in
    let values = c.in_ok-numbers.ensures.values in
    let told = g.met.D.Device.told_together c.ask_numbers.new.device ∙ ap is_some values.attempts.base ∙ sym (g.met.D.Device.told_together c.args.device.now) in
    record { running = running_now numbers _ _ told c.requires.startable (numbers_own numbers _ values.own) (numbers_range numbers values.range) values.runs }

pub returns-in-Err-clause-attempts : goal.returns-in-Err-clause-attempts
returns-in-Err-clause-attempts g c =
    let seen = g.D.Device.seen in
    let first = c.in_ok-numbers.ensures.values.attempts in
    let asks = c.in-Err.ensures.asks in
    attempts_then seen _ c.ask_numbers.new.device _ first asks.own asks.base asks.count (few_then _ (seen c.ask_numbers.new.device).state _ first.few c.in-Err.ensures.few)

pub returns-in-Err-clause-cause : goal.returns-in-Err-clause-cause
returns-in-Err-clause-cause g c =
    later_fails g.D.Device.seen _ c.ask_numbers.new.device _ c.in_ok-numbers.numbers c.in-Err.e c.in_ok-numbers.ensures.values c.in-Err.ensures.asks

pub flush_all-requires-clause-there : goal.flush_all-requires-clause-there
flush_all-requires-clause-there g c =
    let found = c.in_default.ensures in
    let told = g.met.D.Device.told_together c.find.new.device ∙ ap is_some found.asks.base ∙ sym (g.met.D.Device.told_together c.ask_numbers.new.device) in
    found_listed c.find.new.lists.objects c.find.new.lists.loaded c.find.new.lists.saved _ _ told found.held

pub returns-in-Err-flush_all-clause-attempts : goal.returns-in-Err-flush_all-clause-attempts
returns-in-Err-flush_all-clause-attempts g c =
    let seen = g.D.Device.seen in
    let first = c.in_ok-numbers.ensures.values.attempts in
    let found = c.in_default.ensures in
    let second = attempts_then seen c.args.device.now c.ask_numbers.new.device c.find.new.device first found.asks.own found.asks.base found.asks.count (few_then _ (seen c.ask_numbers.new.device).state _ first.few found.few) in
    let asks = c.in-Err-flush_all.ensures.asks in
    attempts_then seen _ c.find.new.device _ second asks.own asks.base asks.count (few_then _ (seen c.find.new.device).state _ second.few c.in-Err-flush_all.ensures.few)

pub returns-in-Err-flush_all-clause-cause : goal.returns-in-Err-flush_all-clause-cause
returns-in-Err-flush_all-clause-cause g c =
    let seen = g.D.Device.seen in
    let e = c.in-Err-flush_all.e in
    let asks = asks_then g.D.Device.CONTEXTS seen c.ask_numbers.new.device c.find.new.device c.flush_all.new.device tt (Err e) c.in_default.ensures.asks c.in-Err-flush_all.ensures.asks in
    later_fails seen _ c.ask_numbers.new.device _ c.in_ok-numbers.numbers e c.in_ok-numbers.ensures.values asks

pub returns-clause-started : goal.returns-clause-started
returns-clause-started g c =
    let lists = c.find.new.lists in
    let values = c.in_ok-numbers.ensures.values in
    let found = c.in_default.ensures.finds in
    record {
      startup = values.startup;
      asked = (g.D.Device.seen c.ask_numbers.new.device).trace;
      objects = lists.objects;
      loaded = lists.loaded;
      saved = lists.saved;
      startup_taken = values.startup_taken;
      told = values.told;
      objects_taken = found.objects_taken;
      loaded_taken = found.loaded_taken;
      saved_taken = found.saved_taken;
      flushed = subst (λ (trace : List Transmission). Flushes (all_listed lists.objects lists.loaded lists.saved) trace (g.D.Device.seen c.flush_all.new.device).trace)
          found.trace_is c.in_default-flush_all.ensures.flushed;
    }

pub returns-clause-range : goal.returns-clause-range
returns-clause-range g c = numbers_range c.in_ok-numbers.numbers c.in_ok-numbers.ensures.values.range

pub returns-clause-own : goal.returns-clause-own
returns-clause-own g c = numbers_own c.in_ok-numbers.numbers _ c.in_ok-numbers.ensures.values.own

pub returns-clause-cleared : goal.returns-clause-cleared
returns-clause-cleared g c =
    cleared_since _ (g.D.Device.seen c.ask_numbers.new.device).state _ c.in_ok-numbers.ensures.values.runs
    (is_cleared c.find.new.lists.objects c.find.new.lists.loaded c.find.new.lists.saved _ (g.D.Device.seen c.find.new.device).state _ c.in_default.ensures.held c.in_default-flush_all.ensures.left)

pub returns-clause-answered : goal.returns-clause-answered
returns-clause-answered g c =
    right_end g.D.Device.CONTEXTS g.D.Device.seen _ c.find.new.device c.flush_all.new.device c.find.new.lists.objects c.find.new.lists.loaded c.find.new.lists.saved c.in_default.ensures.finds c.in_default-flush_all.ensures.asks.answered

pub returns-clause-attempts : goal.returns-clause-attempts
returns-clause-attempts g c =
    let seen = g.D.Device.seen in
    let first = c.in_ok-numbers.ensures.values.attempts in
    let found = c.in_default.ensures in
    let second = attempts_then seen c.args.device.now c.ask_numbers.new.device c.find.new.device first found.asks.own found.asks.base found.asks.count (few_then _ (seen c.ask_numbers.new.device).state _ first.few found.few) in
    let asks = c.in_default-flush_all.ensures.asks in
    attempts_then seen _ c.find.new.device _ second asks.own asks.base asks.count (few_then _ (seen c.find.new.device).state _ second.few c.in_default-flush_all.ensures.few)
