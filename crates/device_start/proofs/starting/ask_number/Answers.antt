use Rattle.std.proofs.Common.{◌⊎◌, inl, inr, ◌<◌, ℕ, List, length, arith, refl, ap, sym, ◌∙◌, subst}
use Rattle.device_spec.specs.Answers.{value_told}
use Rattle.device_port.specs.Own.{IsOwn, Succeeds}
use Rattle.device_port.proofs.Telling.{own_number, tells}
use Rattle.device_start.specs.Start.{TakenIf}
use Rattle.device_start.proofs.Values.{has_number, outside}
use Rattle.device_start.proofs.starting.ask_number.Goals as goal

pub ask-requires-clause-own : goal.ask-requires-clause-own
ask-requires-clause-own g c = subst (λ (bytes : List ℕ). IsOwn g.D.Device.CONTEXTS bytes) (sym c.requires.command) (own_number g.D.Device.CONTEXTS c.args.property (omega arith))

pub ask-requires-clause-told : goal.ask-requires-clause-told
ask-requires-clause-told g c = subst (λ (bytes : List ℕ). TakenIf bytes (g.D.Device.seen c.args.device.now).state) (sym c.requires.command) c.requires.told

pub value_told-value-requires : goal.value_told-value-requires
value_told-value-requires g c =
    let success = subst (λ (bytes : List ℕ). Succeeds g.D.Device.CONTEXTS bytes c.ask.new.scratch) c.requires.command c.in_default.ensures.success in
    let whole = tells g.D.Device.CONTEXTS c.args.property c.ask.new.scratch (omega arith) success in
    omega (arith, ap length c.as_slice.ensures.value, whole)

pub returns-then-value-least-clause-err : goal.returns-then-value-least-clause-err
returns-then-value-least-clause-err g c =
    let value = c.value_told-value.result in
    let asked = c.in_default.ensures in
    let out : (value < c.args.least) ⊎ (c.args.most < value) = elim c.then-value-least.either [ inl low ↦ inl low | inr high ↦ inr high.1 ] in (
      refl,
      has_number g.D.Device.seen c.args.device.now c.ask.new.device c.args.property value c.ask.new.scratch c.requires.command asked.asks asked.ok asked.last
          (c.value_told-value.ensures ∙ ap value_told c.as_slice.ensures.value),
      outside c.args.least c.args.most value out,
      omega arith,
    )

pub returns-clause-number : goal.returns-clause-number
returns-clause-number g c =
    let asked = c.in_default.ensures in
    has_number g.D.Device.seen c.args.device.now c.ask.new.device c.args.property _ c.ask.new.scratch c.requires.command asked.asks asked.ok asked.last
    (c.value_told-value.ensures ∙ ap value_told c.as_slice.ensures.value)
