use Rattle.std.proofs.Common.{◌≡◌, ◌∙◌, ℕ, List, true, ap, sym}
use Rattle.std.specs.Prelude.{Result, Ok, Err, OnOk, is_ok, is_some}
use Rattle.tab_spec.specs.Persist.{fresh_persist}
use Rattle.tab_spec.specs.declared.numbers.Numbers.{Numbers}
use Rattle.device_spec.specs.Slots.{SlotState, Step, new_slots, slot_step}
use Rattle.device_memory.specs.Memory.{DeviceInMemory}
use Rattle.known_answers.proofs.player.started.Goals as goal

-- the state after a command that a new device answered
started_as : {A E : Type 0} (answer : Result A E) (numbers : Numbers) (seed command reply : List ℕ) (before after : SlotState) → OnOk answer ((after, reply) ≡ slot_step before command)
    → is_ok answer ≡ true → before ≡ new_slots numbers (fresh_persist seed) → after ≡ (slot_step (new_slots numbers (fresh_persist seed)) command).0
started_as (Ok done) numbers seed command reply before after stepped answered begun =
    ap (λ (step : Step). step.0) stepped ∙ ap (λ (slots : SlotState). (slot_step slots command).0) begun
started_as (Err failed) numbers seed command reply before after stepped answered begun = absurd cc

pub returns-clause-state : goal.returns-clause-state
returns-clause-state c =
    started_as c.transmit.result c.args.numbers c.args.seed _ _ _ _ c.transmit.ensures.stepped
    (sym c.ok.ensures.variant ∙ ap is_some c.in_ok-context.ensures)
    (ap (λ (d : DeviceInMemory). d.state) c.in_ok-device.ensures.fresh)
