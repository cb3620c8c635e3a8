use Rattle.std.proofs.Common.{◌++◌, List, ℕ, Ok, Err, ap, sym, ◌∙◌, subst}
use Rattle.std.specs.Prelude.{is_some}
use Rattle.std.proofs.lemmas.Result.{err_from_is_err_and}
use Rattle.device_spec.specs.Answers.{listed_handles}
use Rattle.device_port.proofs.Sending.{asks_then, some_failed}
use Rattle.device_start.specs.Start.{Flushes, HoldsListed, LosesFirst}
use Rattle.device_start.proofs.Left.{few_then, listed_first, listed_then, loses_then}
use Rattle.device_start.proofs.Sent.{flushes_then}
use Rattle.device_start.proofs.starting.flush_all.Goals as goal

pub flush_listed-requires-clause-there : goal.flush_listed-requires-clause-there
flush_listed-requires-clause-there g c =
    let seen = g.D.Device.seen in
    let lists = c.args.lists.now in
    let objects = listed_handles lists.objects in
    let loaded = listed_handles lists.loaded in
    let saved = listed_handles lists.saved in
    let there = c.requires.there in
    subst (λ (handles : List ℕ). HoldsListed handles (seen c.args.device.now).state) (sym (ap listed_handles c.as_slice.ensures.value))
    (listed_first objects loaded _ (listed_first (objects ++ loaded) saved _ there))

pub flush_listed-requires-2-clause-there : goal.flush_listed-requires-2-clause-there
flush_listed-requires-2-clause-there g c =
    let seen = g.D.Device.seen in
    let lists = c.args.lists.now in
    let objects = listed_handles lists.objects in
    let loaded = listed_handles lists.loaded in
    let saved = listed_handles lists.saved in
    let there = c.requires.there in
    let is1 = ap listed_handles c.as_slice.ensures.value in
    let first = c.in_ok-flush_listed.ensures in
    let left1 = subst (λ (handles : List ℕ). LosesFirst handles (seen c.args.device.now).state (seen c.flush_listed.new.device).state) is1 first.left in
    let told1 = g.met.D.Device.told_together c.flush_listed.new.device ∙ ap is_some first.asks.base ∙ sym (g.met.D.Device.told_together c.args.device.now) in
    subst (λ (handles : List ℕ). HoldsListed handles (seen c.flush_listed.new.device).state) (sym (ap listed_handles c.as_slice-2.ensures.value))
    (listed_then objects loaded _ _ told1 (listed_first (objects ++ loaded) saved _ there) left1)

pub returns-in_err-flush_listed-2-clause-few : goal.returns-in_err-flush_listed-2-clause-few
returns-in_err-flush_listed-2-clause-few g c =
    few_then _ (g.D.Device.seen c.flush_listed.new.device).state _ c.in_ok-flush_listed.ensures.few c.in_err-flush_listed-2.ensures.few

pub returns-in_err-flush_listed-2-clause-asks : goal.returns-in_err-flush_listed-2-clause-asks
returns-in_err-flush_listed-2-clause-asks g c =
    let seen = g.D.Device.seen in
    let e = c.in_err-flush_listed-2.field-0.0 in
    let result = c.from_residual-in_err-flush_listed-2 in
    some_failed {A = Unit {0}} g.D.Device.CONTEXTS seen _ _ e result.result (err_from_is_err_and result.result result.ensures.1)
    (asks_then g.D.Device.CONTEXTS seen _ c.flush_listed.new.device _ tt (Err e) c.in_ok-flush_listed.ensures.asks c.in_err-flush_listed-2.ensures.asks)

pub flush_listed-requires-3-clause-there : goal.flush_listed-requires-3-clause-there
flush_listed-requires-3-clause-there g c =
    let seen = g.D.Device.seen in
    let lists = c.args.lists.now in
    let objects = listed_handles lists.objects in
    let loaded = listed_handles lists.loaded in
    let saved = listed_handles lists.saved in
    let there = c.requires.there in
    let is1 = ap listed_handles c.as_slice.ensures.value in
    let first = c.in_ok-flush_listed.ensures in
    let left1 = subst (λ (handles : List ℕ). LosesFirst handles (seen c.args.device.now).state (seen c.flush_listed.new.device).state) is1 first.left in
    let told1 = g.met.D.Device.told_together c.flush_listed.new.device ∙ ap is_some first.asks.base ∙ sym (g.met.D.Device.told_together c.args.device.now) in
    let is2 = ap listed_handles c.as_slice-2.ensures.value in
    let second = c.in_ok-flush_listed-2.ensures in
    let left2 = loses_then objects loaded _ _ _ left1
    (subst (λ (handles : List ℕ). LosesFirst handles (seen c.flush_listed.new.device).state (seen c.flush_listed-2.new.device).state) is2 second.left) in
    let asks2 = asks_then g.D.Device.CONTEXTS seen c.args.device.now c.flush_listed.new.device c.flush_listed-2.new.device tt (Ok tt) first.asks second.asks in
    let told2 = g.met.D.Device.told_together c.flush_listed-2.new.device ∙ ap is_some asks2.base ∙ sym (g.met.D.Device.told_together c.args.device.now) in
    subst (λ (handles : List ℕ). HoldsListed handles (seen c.flush_listed-2.new.device).state) (sym (ap listed_handles c.as_slice-3.ensures.value))
    (listed_then (objects ++ loaded) saved _ _ told2 there left2)

pub returns-in_err-flush_listed-3-clause-few : goal.returns-in_err-flush_listed-3-clause-few
returns-in_err-flush_listed-3-clause-few g c =
    few_then _ (g.D.Device.seen c.flush_listed-2.new.device).state _
    (few_then _ (g.D.Device.seen c.flush_listed.new.device).state _ c.in_ok-flush_listed.ensures.few c.in_ok-flush_listed-2.ensures.few)
    c.in_err-flush_listed-3.ensures.few

pub returns-in_err-flush_listed-3-clause-asks : goal.returns-in_err-flush_listed-3-clause-asks
returns-in_err-flush_listed-3-clause-asks g c =
    let seen = g.D.Device.seen in
    let e = c.in_err-flush_listed-3.field-0.0 in
    let result = c.from_residual-in_err-flush_listed-3 in
    let asks2 = asks_then g.D.Device.CONTEXTS seen c.args.device.now c.flush_listed.new.device c.flush_listed-2.new.device tt (Ok tt) c.in_ok-flush_listed.ensures.asks c.in_ok-flush_listed-2.ensures.asks in
    some_failed {A = Unit {0}} g.D.Device.CONTEXTS seen _ _ e result.result (err_from_is_err_and result.result result.ensures.1)
    (asks_then g.D.Device.CONTEXTS seen _ c.flush_listed-2.new.device _ tt (Err e) asks2 c.in_err-flush_listed-3.ensures.asks)

pub returns-clause-flushed : goal.returns-clause-flushed
returns-clause-flushed g c =
    let seen = g.D.Device.seen in
    let lists = c.args.lists.now in
    let objects = listed_handles lists.objects in
    let loaded = listed_handles lists.loaded in
    let saved = listed_handles lists.saved in
    let flushed1 = subst (λ (handles : List ℕ). Flushes handles (seen c.args.device.now).trace (seen c.flush_listed.new.device).trace)
    (ap listed_handles c.as_slice.ensures.value) c.in_ok-flush_listed.ensures.flushed in
    let flushed2 = subst (λ (handles : List ℕ). Flushes handles (seen c.flush_listed.new.device).trace (seen c.flush_listed-2.new.device).trace)
    (ap listed_handles c.as_slice-2.ensures.value) c.in_ok-flush_listed-2.ensures.flushed in
    let flushed3 = subst (λ (handles : List ℕ). Flushes handles (seen c.flush_listed-2.new.device).trace (seen c.flush_listed-3.new.device).trace)
    (ap listed_handles c.as_slice-3.ensures.value) c.in_ok-flush_listed-3.ensures.flushed in
    flushes_then (objects ++ loaded) saved _ _ _ (flushes_then objects loaded _ _ _ flushed1 flushed2) flushed3

pub returns-clause-left : goal.returns-clause-left
returns-clause-left g c =
    let seen = g.D.Device.seen in
    let lists = c.args.lists.now in
    let objects = listed_handles lists.objects in
    let loaded = listed_handles lists.loaded in
    let saved = listed_handles lists.saved in
    let there = c.requires.there in
    let is1 = ap listed_handles c.as_slice.ensures.value in
    let first = c.in_ok-flush_listed.ensures in
    let left1 = subst (λ (handles : List ℕ). LosesFirst handles (seen c.args.device.now).state (seen c.flush_listed.new.device).state) is1 first.left in
    let told1 = g.met.D.Device.told_together c.flush_listed.new.device ∙ ap is_some first.asks.base ∙ sym (g.met.D.Device.told_together c.args.device.now) in
    let is2 = ap listed_handles c.as_slice-2.ensures.value in
    let second = c.in_ok-flush_listed-2.ensures in
    let left2 = loses_then objects loaded _ _ _ left1
    (subst (λ (handles : List ℕ). LosesFirst handles (seen c.flush_listed.new.device).state (seen c.flush_listed-2.new.device).state) is2 second.left) in
    let asks2 = asks_then g.D.Device.CONTEXTS seen c.args.device.now c.flush_listed.new.device c.flush_listed-2.new.device tt (Ok tt) first.asks second.asks in
    let told2 = g.met.D.Device.told_together c.flush_listed-2.new.device ∙ ap is_some asks2.base ∙ sym (g.met.D.Device.told_together c.args.device.now) in
    let is3 = ap listed_handles c.as_slice-3.ensures.value in
    let third = c.in_ok-flush_listed-3.ensures in
    loses_then (objects ++ loaded) saved _ _ _ left2
    (subst (λ (handles : List ℕ). LosesFirst handles (seen c.flush_listed-2.new.device).state (seen c.flush_listed-3.new.device).state) is3 third.left)

pub returns-clause-few : goal.returns-clause-few
returns-clause-few g c =
    few_then _ (g.D.Device.seen c.flush_listed-2.new.device).state _
    (few_then _ (g.D.Device.seen c.flush_listed.new.device).state _ c.in_ok-flush_listed.ensures.few c.in_ok-flush_listed-2.ensures.few)
    c.in_ok-flush_listed-3.ensures.few

pub returns-clause-asks : goal.returns-clause-asks
returns-clause-asks g c =
    let seen = g.D.Device.seen in
    let asks2 = asks_then g.D.Device.CONTEXTS seen c.args.device.now c.flush_listed.new.device c.flush_listed-2.new.device tt (Ok tt) c.in_ok-flush_listed.ensures.asks c.in_ok-flush_listed-2.ensures.asks in
    asks_then g.D.Device.CONTEXTS seen c.args.device.now c.flush_listed-2.new.device c.flush_listed-3.new.device tt (Ok tt) asks2 c.in_ok-flush_listed-3.ensures.asks
