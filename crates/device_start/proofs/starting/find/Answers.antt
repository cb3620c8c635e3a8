use Rattle.std.proofs.Common.{true, false, List, ◌∷◌, Ok, Err, refl, ap, sym, ◌∙◌}
use Rattle.std.specs.Prelude.{is_some}
use Rattle.std.proofs.lemmas.Result.{err_from_is_err_and}
use Rattle.device_spec.specs.Remains.{handles_command, object_handles, session_handles}
use Rattle.device_port.specs.Device.{Transmission}
use Rattle.device_port.proofs.Sending.{asks_some, asks_then, some_failed}
use Rattle.device_laws.proofs.Listing.{loaded_are_listed, objects_are_listed, saved_are_listed}
use Rattle.device_start.specs.Start.{answered}
use Rattle.device_start.proofs.Found.{finds, list_has, list_runs, list_told, runs_few, runs_here, sound_here, stays_few}
use Rattle.device_start.proofs.Left.{few_then}
use Rattle.device_start.proofs.Reading.{taken_fills}
use Rattle.device_start.proofs.Sent.{answered_one, taken_as}
use Rattle.device_start.proofs.starting.find.Goals as goal

pub ask-requires-clause-told : goal.ask-requires-clause-told
ask-requires-clause-told g c =
    let sound = sound_here _ c.requires.running in
    let runs0 = runs_here _ c.requires.running in
    list_told 0x80000000 object_handles _ _ objects_are_listed refl sound runs0

pub returns-in_err-ask-clause-few : goal.returns-in_err-ask-clause-few
returns-in_err-ask-clause-few g c = stays_few _ _ c.in_err-ask.ensures.asks.err

pub returns-in_err-ask-clause-asks : goal.returns-in_err-ask-clause-asks
returns-in_err-ask-clause-asks g c =
    let seen = g.D.Device.seen in
    let e = c.in_err-ask.field-0.0 in
    some_failed {A = Unit {0}} g.D.Device.CONTEXTS seen _ _ e c.from_residual.result (err_from_is_err_and c.from_residual.result c.from_residual.ensures.1)
    (asks_some g.D.Device.CONTEXTS seen _ _ _ (Err e) c.in_err-ask.ensures.asks)

pub ask-requires-2-clause-told : goal.ask-requires-2-clause-told
ask-requires-2-clause-told g c =
    let seen = g.D.Device.seen in
    let sound = sound_here _ c.requires.running in
    let runs0 = runs_here _ c.requires.running in
    let list1 = c.in_ok-ask.ensures in
    let runs1 = list_runs 0x80000000 object_handles _ _ _ _ objects_are_listed sound runs0 list1.ok in
    let asks1 = asks_some g.D.Device.CONTEXTS seen c.args.device.now c.ask.new.device _ (Ok tt) list1.asks in
    let told1 = g.met.D.Device.told_together c.ask.new.device ∙ ap is_some asks1.base ∙ sym (g.met.D.Device.told_together c.args.device.now) in
    list_told 0x02000000 (session_handles true) _ _ loaded_are_listed told1 sound runs1

pub returns-in_err-ask-2-clause-few : goal.returns-in_err-ask-2-clause-few
returns-in_err-ask-2-clause-few g c =
    let seen = g.D.Device.seen in
    let sound = sound_here _ c.requires.running in
    let runs0 = runs_here _ c.requires.running in
    let list1 = c.in_ok-ask.ensures in
    let runs1 = list_runs 0x80000000 object_handles _ _ _ _ objects_are_listed sound runs0 list1.ok in
    few_then _ (seen c.ask.new.device).state _ (runs_few _ _ runs1) (stays_few _ _ c.in_err-ask-2.ensures.asks.err)

pub returns-in_err-ask-2-clause-asks : goal.returns-in_err-ask-2-clause-asks
returns-in_err-ask-2-clause-asks g c =
    let seen = g.D.Device.seen in
    let list1 = c.in_ok-ask.ensures in
    let asks1 = asks_some g.D.Device.CONTEXTS seen c.args.device.now c.ask.new.device _ (Ok tt) list1.asks in
    let e = c.in_err-ask-2.field-0.0 in
    some_failed {A = Unit {0}} g.D.Device.CONTEXTS seen _ _ e c.from_residual-in_err-ask-2.result (err_from_is_err_and c.from_residual-in_err-ask-2.result c.from_residual-in_err-ask-2.ensures.1)
    (asks_then g.D.Device.CONTEXTS seen _ c.ask.new.device _ tt (Err e) asks1 (asks_some g.D.Device.CONTEXTS seen _ _ _ (Err e) c.in_err-ask-2.ensures.asks))

pub ask-requires-3-clause-told : goal.ask-requires-3-clause-told
ask-requires-3-clause-told g c =
    let seen = g.D.Device.seen in
    let sound = sound_here _ c.requires.running in
    let runs0 = runs_here _ c.requires.running in
    let list1 = c.in_ok-ask.ensures in
    let runs1 = list_runs 0x80000000 object_handles _ _ _ _ objects_are_listed sound runs0 list1.ok in
    let asks1 = asks_some g.D.Device.CONTEXTS seen c.args.device.now c.ask.new.device _ (Ok tt) list1.asks in
    let list2 = c.in_ok-ask-2.ensures in
    let runs2 = list_runs 0x02000000 (session_handles true) _ _ _ _ loaded_are_listed sound runs1 list2.ok in
    let asks2 = asks_then g.D.Device.CONTEXTS seen c.args.device.now c.ask.new.device c.ask-2.new.device tt (Ok tt) asks1 (asks_some g.D.Device.CONTEXTS seen _ _ _ (Ok tt) list2.asks) in
    let told2 = g.met.D.Device.told_together c.ask-2.new.device ∙ ap is_some asks2.base ∙ sym (g.met.D.Device.told_together c.args.device.now) in
    list_told 0x03000000 (session_handles false) _ _ saved_are_listed told2 sound runs2

pub returns-in_err-ask-3-clause-few : goal.returns-in_err-ask-3-clause-few
returns-in_err-ask-3-clause-few g c =
    let seen = g.D.Device.seen in
    let sound = sound_here _ c.requires.running in
    let runs0 = runs_here _ c.requires.running in
    let list1 = c.in_ok-ask.ensures in
    let runs1 = list_runs 0x80000000 object_handles _ _ _ _ objects_are_listed sound runs0 list1.ok in
    let list2 = c.in_ok-ask-2.ensures in
    let runs2 = list_runs 0x02000000 (session_handles true) _ _ _ _ loaded_are_listed sound runs1 list2.ok in
    few_then _ (seen c.ask-2.new.device).state _ (runs_few _ _ runs2) (stays_few _ _ c.in_err-ask-3.ensures.asks.err)

pub returns-in_err-ask-3-clause-asks : goal.returns-in_err-ask-3-clause-asks
returns-in_err-ask-3-clause-asks g c =
    let seen = g.D.Device.seen in
    let list1 = c.in_ok-ask.ensures in
    let asks1 = asks_some g.D.Device.CONTEXTS seen c.args.device.now c.ask.new.device _ (Ok tt) list1.asks in
    let list2 = c.in_ok-ask-2.ensures in
    let asks2 = asks_then g.D.Device.CONTEXTS seen c.args.device.now c.ask.new.device c.ask-2.new.device tt (Ok tt) asks1 (asks_some g.D.Device.CONTEXTS seen _ _ _ (Ok tt) list2.asks) in
    let e = c.in_err-ask-3.field-0.0 in
    some_failed {A = Unit {0}} g.D.Device.CONTEXTS seen _ _ e c.from_residual-in_err-ask-3.result (err_from_is_err_and c.from_residual-in_err-ask-3.result c.from_residual-in_err-ask-3.ensures.1)
    (asks_then g.D.Device.CONTEXTS seen _ c.ask-2.new.device _ tt (Err e) asks2 (asks_some g.D.Device.CONTEXTS seen _ _ _ (Err e) c.in_err-ask-3.ensures.asks))

pub returns-clause-finds : goal.returns-clause-finds
returns-clause-finds g c =
    let list1 = c.in_ok-ask.ensures in
    let list2 = c.in_ok-ask-2.ensures in
    let list3 = c.in_ok-ask-3.ensures in
    let taken1 = taken_as g.D.Device.CONTEXTS _ _ (handles_command 0x80000000) c.ask.new.scratch list1.asks.asked list1.last list1.asks.answered refl refl in
    let taken2 = taken_as g.D.Device.CONTEXTS _ _ (handles_command 0x02000000) c.ask-2.new.scratch list2.asks.asked list2.last list2.asks.answered refl refl in
    let taken3 = taken_as g.D.Device.CONTEXTS _ _ (handles_command 0x03000000) c.ask-3.new.scratch list3.asks.asked list3.last list3.asks.answered refl refl in
    let one1 = answered_one _ c.ask.new.scratch _ _ _ list1.asks.one list1.last in
    let one2 = answered_one _ c.ask-2.new.scratch _ _ _ list2.asks.one list2.last in
    let one3 = answered_one _ c.ask-3.new.scratch _ _ _ list3.asks.one list3.last in
    record {
      objects_taken = taken1;
      loaded_taken = taken2;
      saved_taken = taken3;
      trace_is = one3
          ∙ ap (λ (t : List Transmission). answered (handles_command 0x03000000) c.ask-3.new.scratch ∷ t) (one2
          ∙ ap (λ (t : List Transmission). answered (handles_command 0x02000000) c.ask-2.new.scratch ∷ t) one1);
    }

pub returns-clause-held : goal.returns-clause-held
returns-clause-held g c =
    let sound = sound_here _ c.requires.running in
    let runs0 = runs_here _ c.requires.running in
    let list1 = c.in_ok-ask.ensures in
    let runs1 = list_runs 0x80000000 object_handles _ _ _ _ objects_are_listed sound runs0 list1.ok in
    let list2 = c.in_ok-ask-2.ensures in
    let runs2 = list_runs 0x02000000 (session_handles true) _ _ _ _ loaded_are_listed sound runs1 list2.ok in
    let list3 = c.in_ok-ask-3.ensures in
    let runs3 = list_runs 0x03000000 (session_handles false) _ _ _ _ saved_are_listed sound runs2 list3.ok in
    finds _ _ c.ask.new.scratch c.ask-2.new.scratch c.ask-3.new.scratch sound runs3 (list_has 0x80000000 object_handles _ _ _ _ objects_are_listed sound runs0 list1.ok)
    (list_has 0x02000000 (session_handles true) _ _ _ _ loaded_are_listed sound runs1 list2.ok)
    (list_has 0x03000000 (session_handles false) _ _ _ _ saved_are_listed sound runs2 list3.ok)

pub returns-clause-lists : goal.returns-clause-lists
returns-clause-lists g c =
    let list1 = c.in_ok-ask.ensures in
    let list2 = c.in_ok-ask-2.ensures in
    let list3 = c.in_ok-ask-3.ensures in
    let taken1 = taken_as g.D.Device.CONTEXTS _ _ (handles_command 0x80000000) c.ask.new.scratch list1.asks.asked list1.last list1.asks.answered refl refl in
    let taken2 = taken_as g.D.Device.CONTEXTS _ _ (handles_command 0x02000000) c.ask-2.new.scratch list2.asks.asked list2.last list2.asks.answered refl refl in
    let taken3 = taken_as g.D.Device.CONTEXTS _ _ (handles_command 0x03000000) c.ask-3.new.scratch list3.asks.asked list3.last list3.asks.answered refl refl in (
      taken_fills g.D.Device.CONTEXTS (handles_command 0x80000000) _ 0x80000000 taken1 list1.success.form refl,
      taken_fills g.D.Device.CONTEXTS (handles_command 0x02000000) _ 0x02000000 taken2 list2.success.form refl,
      taken_fills g.D.Device.CONTEXTS (handles_command 0x03000000) _ 0x03000000 taken3 list3.success.form refl,
    )

pub returns-clause-few : goal.returns-clause-few
returns-clause-few g c =
    let sound = sound_here _ c.requires.running in
    let runs0 = runs_here _ c.requires.running in
    let list1 = c.in_ok-ask.ensures in
    let runs1 = list_runs 0x80000000 object_handles _ _ _ _ objects_are_listed sound runs0 list1.ok in
    let list2 = c.in_ok-ask-2.ensures in
    let runs2 = list_runs 0x02000000 (session_handles true) _ _ _ _ loaded_are_listed sound runs1 list2.ok in
    let list3 = c.in_ok-ask-3.ensures in
    let runs3 = list_runs 0x03000000 (session_handles false) _ _ _ _ saved_are_listed sound runs2 list3.ok in
    runs_few _ _ runs3

pub returns-clause-asks : goal.returns-clause-asks
returns-clause-asks g c =
    let seen = g.D.Device.seen in
    let list1 = c.in_ok-ask.ensures in
    let asks1 = asks_some g.D.Device.CONTEXTS seen c.args.device.now c.ask.new.device _ (Ok tt) list1.asks in
    let list2 = c.in_ok-ask-2.ensures in
    let asks2 = asks_then g.D.Device.CONTEXTS seen c.args.device.now c.ask.new.device c.ask-2.new.device tt (Ok tt) asks1 (asks_some g.D.Device.CONTEXTS seen _ _ _ (Ok tt) list2.asks) in
    let list3 = c.in_ok-ask-3.ensures in
    let asks3 = asks_then g.D.Device.CONTEXTS seen c.args.device.now c.ask-2.new.device c.ask-3.new.device tt (Ok tt) asks2 (asks_some g.D.Device.CONTEXTS seen _ _ _ (Ok tt) list3.asks) in
    asks3
