use Rattle.std.proofs.Common.{◌≡◌, ◌+◌, ℕ, true, List, Ok, Err, refl, ap, sym, ◌∙◌, subst, arith}
use Rattle.std.specs.Prelude.{IfSome, is_some}
use Rattle.std.proofs.lemmas.Result.{err_from_is_err_and}
use Rattle.tab_spec.specs.declared.TheConstants.{CC_FLUSH_CONTEXT}
use Rattle.device_spec.specs.Answers.{listed_handles, profile_takes as takes}
use Rattle.device_spec.specs.ContextCommands.{command_bytes}
use Rattle.device_spec.specs.Slots.{slot_step}
use Rattle.device_port.specs.Device.{Answered}
use Rattle.device_port.specs.Own.{IsOwn}
use Rattle.device_port.proofs.Listing.{rest_of}
use Rattle.device_port.proofs.Sending.{asks_none, asks_some, asks_then, some_failed}
use Rattle.device_start.specs.Start.{Flushes}
use Rattle.device_start.proofs.Left.{LeftIf, few_then, flush_is_own, flush_left, flush_told, left_all, left_few, rest_fewer}
use Rattle.device_start.proofs.Found.{stays_few}
use Rattle.device_start.proofs.Reading.{all_rest, next_read, none_rest}
use Rattle.device_start.proofs.Sent.{flush_more}
use Rattle.device_start.proofs.starting.flush_listed.Goals as goal

pub loop-place-init : goal.loop-place-init
loop-place-init g c =
    let all = all_rest c.args.list.now c.word_at.result c.unwrap_or-count.result c.requires.list c.word_at.ensures c.unwrap_or-count.ensures in
    record {
      asks = asks_none g.D.Device.CONTEXTS g.D.Device.seen c.args.device.now;
      flushed = λ new more. subst (λ (handles : List ℕ). Flushes handles (g.D.Device.seen c.args.device.now).trace new) all more;
      left = subst (λ (rest : List ℕ). LeftIf (listed_handles c.args.list.now) rest (g.D.Device.seen c.args.device.now).state (g.D.Device.seen c.args.device.now).state)
          (sym all) (left_all (listed_handles c.args.list.now) (g.D.Device.seen c.args.device.now).state);
    }

pub ask-requires-clause-own : goal.ask-requires-clause-own
ask-requires-clause-own g c =
    let is = c.as_slice.ensures.same ∙ c.command_of-command.ensures ∙ ap (command_bytes CC_FLUSH_CONTEXT) c.to_be_bytes.ensures in
    subst (λ (bytes : List ℕ). IsOwn g.D.Device.CONTEXTS bytes) (sym is) (flush_is_own g.D.Device.CONTEXTS c.unwrap_or-handle.result)

pub ask-requires-clause-told : goal.ask-requires-clause-told
ask-requires-clause-told g c =
    let is = c.as_slice.ensures.same ∙ c.command_of-command.ensures ∙ ap (command_bytes CC_FLUSH_CONTEXT) c.to_be_bytes.ensures in
    let list = c.args.list.now in
    let next = next_read list _ _ _ _ _ c.requires.list c.word_at.ensures c.unwrap_or-count.ensures c.loop-place-test.true c.word_at-in-loop-place.ensures c.unwrap_or-handle.ensures in
    let told = g.met.D.Device.told_together c.loop-place.device ∙ ap is_some c.loop-place.invariant.asks.base ∙ sym (g.met.D.Device.told_together c.args.device.now) in
    subst (λ (bytes : List ℕ). IfSome (g.D.Device.seen c.loop-place.device).state (λ slots. takes true true bytes (slot_step slots bytes).1 ≡ true)) (sym is)
    (flush_told (listed_handles list) (rest_of c.unwrap_or-count.result (c.loop-place.place + 1) list) c.unwrap_or-handle.result _ _ told c.requires.there
    (subst (λ (rest : List ℕ). LeftIf (listed_handles list) rest (g.D.Device.seen c.args.device.now).state (g.D.Device.seen c.loop-place.device).state) next c.loop-place.invariant.left))

pub returns-in_err-ask-clause-few : goal.returns-in_err-ask-clause-few
returns-in_err-ask-clause-few g c =
    few_then _ (g.D.Device.seen c.loop-place.device).state _
    (left_few _ _ _ _ c.requires.there c.loop-place.invariant.left (rest_fewer c.args.list.now _ _ _ c.requires.list c.word_at.ensures c.unwrap_or-count.ensures))
    (stays_few _ _ c.in_err-ask.ensures.asks.err)

pub returns-in_err-ask-clause-asks : goal.returns-in_err-ask-clause-asks
returns-in_err-ask-clause-asks g c =
    let seen = g.D.Device.seen in
    let e = c.in_err-ask.field-0.0 in
    some_failed g.D.Device.CONTEXTS seen _ _ e c.from_residual.result (err_from_is_err_and c.from_residual.result c.from_residual.ensures.1)
    (asks_then g.D.Device.CONTEXTS seen _ c.loop-place.device _ tt (Err e) c.loop-place.invariant.asks (asks_some g.D.Device.CONTEXTS seen _ _ _ (Err e) c.in_err-ask.ensures.asks))

pub loop-place-preserved : goal.loop-place-preserved
loop-place-preserved g c =
    let seen = g.D.Device.seen in
    let is = c.as_slice.ensures.same ∙ c.command_of-command.ensures ∙ ap (command_bytes CC_FLUSH_CONTEXT) c.to_be_bytes.ensures in
    let list = c.args.list.now in
    let handle = c.unwrap_or-handle.result in
    let rest = rest_of c.unwrap_or-count.result (c.loop-place.place + 1) list in
    let next = next_read list _ _ _ _ _ c.requires.list c.word_at.ensures c.unwrap_or-count.ensures c.loop-place-test.true c.word_at-in-loop-place.ensures c.unwrap_or-handle.ensures in
    let asked = c.in_ok-ask.ensures.asks in
    record {
      asks = asks_then g.D.Device.CONTEXTS seen _ c.loop-place.device _ tt (Ok tt) c.loop-place.invariant.asks (asks_some g.D.Device.CONTEXTS seen _ _ _ (Ok tt) asked);
      flushed = λ new more. c.loop-place.invariant.flushed new
          (subst (λ (handles : List ℕ). Flushes handles (seen c.loop-place.device).trace new) (sym next)
          (flush_more seen _ _ c.ask.new.scratch handle rest new is asked c.in_ok-ask.ensures.last more));
      left = flush_left (listed_handles list) rest handle _ _ _ c.ask.new.scratch
          (subst (λ (rest : List ℕ). LeftIf (listed_handles list) rest (seen c.args.device.now).state (seen c.loop-place.device).state) next c.loop-place.invariant.left)
          (subst (λ (bytes : List ℕ). Answered (seen c.loop-place.device).state bytes (seen c.ask.new.device).state c.ask.new.scratch) is c.in_ok-ask.ensures.ok);
    }

pub returns-clause-flushed : goal.returns-clause-flushed
returns-clause-flushed g c =
    c.loop-place.invariant.flushed _ (subst (λ (handles : List ℕ). Flushes handles (g.D.Device.seen c.loop-place.device).trace (g.D.Device.seen c.loop-place.device).trace)
    (sym (none_rest c.unwrap_or-count.result c.loop-place.place c.args.list.now (omega (arith, c.loop-place-test.false)))) refl)

pub returns-clause-left : goal.returns-clause-left
returns-clause-left g c =
    subst (λ (rest : List ℕ). LeftIf (listed_handles c.args.list.now) rest (g.D.Device.seen c.args.device.now).state (g.D.Device.seen c.loop-place.device).state)
    (none_rest c.unwrap_or-count.result c.loop-place.place c.args.list.now (omega (arith, c.loop-place-test.false))) c.loop-place.invariant.left

pub returns-clause-few : goal.returns-clause-few
returns-clause-few g c =
    left_few _ _ _ _ c.requires.there c.loop-place.invariant.left (rest_fewer c.args.list.now _ _ _ c.requires.list c.word_at.ensures c.unwrap_or-count.ensures)

pub returns-clause-asks : goal.returns-clause-asks
returns-clause-asks g c = c.loop-place.invariant.asks
