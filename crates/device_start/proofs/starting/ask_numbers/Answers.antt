use Rattle.std.proofs.Common.{◌∷◌, [], ap, sym, ◌∙◌}
use Rattle.std.specs.Prelude.{is_some}
use Rattle.std.proofs.lemmas.Result.{err_from_is_err_and}
use Rattle.tab_spec.specs.declared.TheConstants.{CONTEXT_GAP, LOADED_SESSIONS, OBJECT_SLOTS, SESSION_NUMBERS}
use Rattle.device_start.specs.Start.{NotStarted}
use Rattle.device_start.proofs.Sent.{err_carried}
use Rattle.device_start.proofs.Values.{above, active_at, below, between, gap_at, loaded_at, no_values, number_misses, number_taken, slots_at, startup_fails, values_more}
use Rattle.device_start.proofs.starting.ask_numbers.Goals as goal

pub returns-in-Err-clause-err : goal.returns-in-Err-clause-err
returns-in-Err-clause-err g c = startup_fails g.D.Device.seen _ _ c.in-Err.e c.in-Err.ensures.sends

pub ask_number-requires-clause-told : goal.ask_number-requires-clause-told
ask_number-requires-clause-told g c =
    let seen = g.D.Device.seen in
    let v0 = no_values seen c.args.device.now c.start_up.new.device c.start_up.new.scratch c.in_default.ensures.sends c.in_default.ensures.ok in
    let some = g.met.D.Device.told_together c.start_up.new.device ∙ ap is_some v0.attempts.base ∙ sym (g.met.D.Device.told_together c.args.device.now) in
    number_taken 0 _ _ slots_at some c.requires.fit v0.runs

pub returns-in_err-slots-clause-err : goal.returns-in_err-slots-clause-err
returns-in_err-slots-clause-err g c =
    let seen = g.D.Device.seen in
    let v0 = no_values seen c.args.device.now c.start_up.new.device c.start_up.new.scratch c.in_default.ensures.sends c.in_default.ensures.ok in
    let e = c.in_err-slots.field-0.0 in
    let result = c.from_residual.result in
    err_carried (NotStarted g.D.Device.CONTEXTS seen c.args.device.now c.ask_number.new.device) e result (err_from_is_err_and result c.from_residual.ensures.1)
    (number_misses seen _ c.start_up.new.device _ [] OBJECT_SLOTS 254 e slots_at c.requires.fit v0 (λ value word out. out) c.in_err-slots.ensures.err)

pub ask_number-requires-2-clause-told : goal.ask_number-requires-2-clause-told
ask_number-requires-2-clause-told g c =
    let seen = g.D.Device.seen in
    let v0 = no_values seen c.args.device.now c.start_up.new.device c.start_up.new.scratch c.in_default.ensures.sends c.in_default.ensures.ok in
    let told1 = c.in_ok-slots.ensures in
    let v1 = values_more seen c.args.device.now c.start_up.new.device c.ask_number.new.device [] _ slots_at c.requires.fit v0 told1.number (between OBJECT_SLOTS 254 _ told1.range.0 told1.range.1) in
    let some = g.met.D.Device.told_together c.ask_number.new.device ∙ ap is_some v1.attempts.base ∙ sym (g.met.D.Device.told_together c.args.device.now) in
    number_taken 1 _ _ loaded_at some c.requires.fit v1.runs

pub returns-in_err-loaded-clause-err : goal.returns-in_err-loaded-clause-err
returns-in_err-loaded-clause-err g c =
    let seen = g.D.Device.seen in
    let v0 = no_values seen c.args.device.now c.start_up.new.device c.start_up.new.scratch c.in_default.ensures.sends c.in_default.ensures.ok in
    let told1 = c.in_ok-slots.ensures in
    let v1 = values_more seen c.args.device.now c.start_up.new.device c.ask_number.new.device [] _ slots_at c.requires.fit v0 told1.number (between OBJECT_SLOTS 254 _ told1.range.0 told1.range.1) in
    let e = c.in_err-loaded.field-0.0 in
    let result = c.from_residual-in_err-loaded.result in
    err_carried (NotStarted g.D.Device.CONTEXTS seen c.args.device.now c.ask_number-2.new.device) e result (err_from_is_err_and result c.from_residual-in_err-loaded.ensures.1)
    (number_misses seen _ c.ask_number.new.device _ (c.in_ok-slots.slots ∷ []) LOADED_SESSIONS SESSION_NUMBERS e loaded_at c.requires.fit v1 (λ value word out. out) c.in_err-loaded.ensures.err)

pub ask_number-requires-3-clause-told : goal.ask_number-requires-3-clause-told
ask_number-requires-3-clause-told g c =
    let seen = g.D.Device.seen in
    let v0 = no_values seen c.args.device.now c.start_up.new.device c.start_up.new.scratch c.in_default.ensures.sends c.in_default.ensures.ok in
    let told1 = c.in_ok-slots.ensures in
    let v1 = values_more seen c.args.device.now c.start_up.new.device c.ask_number.new.device [] _ slots_at c.requires.fit v0 told1.number (between OBJECT_SLOTS 254 _ told1.range.0 told1.range.1) in
    let told2 = c.in_ok-loaded.ensures in
    let v2 = values_more seen c.args.device.now c.ask_number.new.device c.ask_number-2.new.device (c.in_ok-slots.slots ∷ []) _ loaded_at c.requires.fit v1 told2.number (between LOADED_SESSIONS SESSION_NUMBERS _ told2.range.0 told2.range.1) in
    let some = g.met.D.Device.told_together c.ask_number-2.new.device ∙ ap is_some v2.attempts.base ∙ sym (g.met.D.Device.told_together c.args.device.now) in
    number_taken 2 _ _ active_at some c.requires.fit v2.runs

pub returns-in_err-active-clause-err : goal.returns-in_err-active-clause-err
returns-in_err-active-clause-err g c =
    let seen = g.D.Device.seen in
    let v0 = no_values seen c.args.device.now c.start_up.new.device c.start_up.new.scratch c.in_default.ensures.sends c.in_default.ensures.ok in
    let told1 = c.in_ok-slots.ensures in
    let v1 = values_more seen c.args.device.now c.start_up.new.device c.ask_number.new.device [] _ slots_at c.requires.fit v0 told1.number (between OBJECT_SLOTS 254 _ told1.range.0 told1.range.1) in
    let told2 = c.in_ok-loaded.ensures in
    let v2 = values_more seen c.args.device.now c.ask_number.new.device c.ask_number-2.new.device (c.in_ok-slots.slots ∷ []) _ loaded_at c.requires.fit v1 told2.number (between LOADED_SESSIONS SESSION_NUMBERS _ told2.range.0 told2.range.1) in
    let e = c.in_err-active.field-0.0 in
    let result = c.from_residual-in_err-active.result in
    err_carried (NotStarted g.D.Device.CONTEXTS seen c.args.device.now c.ask_number-3.new.device) e result (err_from_is_err_and result c.from_residual-in_err-active.ensures.1)
    (number_misses seen _ c.ask_number-2.new.device _ (c.in_ok-slots.slots ∷ c.in_ok-loaded.loaded ∷ []) c.in_ok-loaded.loaded SESSION_NUMBERS e active_at c.requires.fit v2 (λ value word out. out) c.in_err-active.ensures.err)

pub ask_number-requires-4-clause-told : goal.ask_number-requires-4-clause-told
ask_number-requires-4-clause-told g c =
    let seen = g.D.Device.seen in
    let v0 = no_values seen c.args.device.now c.start_up.new.device c.start_up.new.scratch c.in_default.ensures.sends c.in_default.ensures.ok in
    let told1 = c.in_ok-slots.ensures in
    let v1 = values_more seen c.args.device.now c.start_up.new.device c.ask_number.new.device [] _ slots_at c.requires.fit v0 told1.number (between OBJECT_SLOTS 254 _ told1.range.0 told1.range.1) in
    let told2 = c.in_ok-loaded.ensures in
    let v2 = values_more seen c.args.device.now c.ask_number.new.device c.ask_number-2.new.device (c.in_ok-slots.slots ∷ []) _ loaded_at c.requires.fit v1 told2.number (between LOADED_SESSIONS SESSION_NUMBERS _ told2.range.0 told2.range.1) in
    let told3 = c.in_ok-active.ensures in
    let v3 = values_more seen c.args.device.now c.ask_number-2.new.device c.ask_number-3.new.device (c.in_ok-slots.slots ∷ c.in_ok-loaded.loaded ∷ []) _ active_at c.requires.fit v2 told3.number (between c.in_ok-loaded.loaded SESSION_NUMBERS _ told3.range.0 told3.range.1) in
    let some = g.met.D.Device.told_together c.ask_number-3.new.device ∙ ap is_some v3.attempts.base ∙ sym (g.met.D.Device.told_together c.args.device.now) in
    number_taken 3 _ _ gap_at some c.requires.fit v3.runs

pub returns-in_err-gap-clause-err : goal.returns-in_err-gap-clause-err
returns-in_err-gap-clause-err g c =
    let seen = g.D.Device.seen in
    let v0 = no_values seen c.args.device.now c.start_up.new.device c.start_up.new.scratch c.in_default.ensures.sends c.in_default.ensures.ok in
    let told1 = c.in_ok-slots.ensures in
    let v1 = values_more seen c.args.device.now c.start_up.new.device c.ask_number.new.device [] _ slots_at c.requires.fit v0 told1.number (between OBJECT_SLOTS 254 _ told1.range.0 told1.range.1) in
    let told2 = c.in_ok-loaded.ensures in
    let v2 = values_more seen c.args.device.now c.ask_number.new.device c.ask_number-2.new.device (c.in_ok-slots.slots ∷ []) _ loaded_at c.requires.fit v1 told2.number (between LOADED_SESSIONS SESSION_NUMBERS _ told2.range.0 told2.range.1) in
    let told3 = c.in_ok-active.ensures in
    let v3 = values_more seen c.args.device.now c.ask_number-2.new.device c.ask_number-3.new.device (c.in_ok-slots.slots ∷ c.in_ok-loaded.loaded ∷ []) _ active_at c.requires.fit v2 told3.number (between c.in_ok-loaded.loaded SESSION_NUMBERS _ told3.range.0 told3.range.1) in
    let e = c.in_err-gap.field-0.0 in
    let result = c.from_residual-in_err-gap.result in
    err_carried (NotStarted g.D.Device.CONTEXTS seen c.args.device.now c.ask_number-4.new.device) e result (err_from_is_err_and result c.from_residual-in_err-gap.ensures.1)
    (number_misses seen _ c.ask_number-3.new.device _ (c.in_ok-slots.slots ∷ c.in_ok-loaded.loaded ∷ c.in_ok-active.active ∷ []) CONTEXT_GAP 4294967295 e gap_at c.requires.fit v3 (λ value word out. below CONTEXT_GAP value word out) c.in_err-gap.ensures.err)

pub returns-clause-values : goal.returns-clause-values
returns-clause-values g c =
    let seen = g.D.Device.seen in
    let v0 = no_values seen c.args.device.now c.start_up.new.device c.start_up.new.scratch c.in_default.ensures.sends c.in_default.ensures.ok in
    let told1 = c.in_ok-slots.ensures in
    let v1 = values_more seen c.args.device.now c.start_up.new.device c.ask_number.new.device [] _ slots_at c.requires.fit v0 told1.number (between OBJECT_SLOTS 254 _ told1.range.0 told1.range.1) in
    let told2 = c.in_ok-loaded.ensures in
    let v2 = values_more seen c.args.device.now c.ask_number.new.device c.ask_number-2.new.device (c.in_ok-slots.slots ∷ []) _ loaded_at c.requires.fit v1 told2.number (between LOADED_SESSIONS SESSION_NUMBERS _ told2.range.0 told2.range.1) in
    let told3 = c.in_ok-active.ensures in
    let v3 = values_more seen c.args.device.now c.ask_number-2.new.device c.ask_number-3.new.device (c.in_ok-slots.slots ∷ c.in_ok-loaded.loaded ∷ []) _ active_at c.requires.fit v2 told3.number (between c.in_ok-loaded.loaded SESSION_NUMBERS _ told3.range.0 told3.range.1) in
    let told4 = c.in_ok-gap.ensures in
    let v4 = values_more seen c.args.device.now c.ask_number-3.new.device c.ask_number-4.new.device (c.in_ok-slots.slots ∷ c.in_ok-loaded.loaded ∷ c.in_ok-active.active ∷ []) _ gap_at c.requires.fit v3 told4.number (above CONTEXT_GAP _ told4.range.0) in
    v4
