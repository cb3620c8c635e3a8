-- What a device holds that was started, and what its lists have.
use Rattle.std.proofs.Common.{◌≡◌, ℕ, true, false, List, ◌++◌, refl, ap, sym, ◌∙◌, subst, arith}
use Rattle.std.specs.Prelude.{Option, Some, None, IfSome, is_some}
use Rattle.tab_spec.specs.Commands.{startup_command}
use Rattle.tab_spec.specs.declared.numbers.Numbers.{Numbers}
use Rattle.tab_spec.specs.Numbers.{AreInRange}
use Rattle.tab_spec.specs.Values.{AreBytes}
use Rattle.device_spec.specs.Answers.{listed_handles, profile_takes as takes}
use Rattle.device_spec.specs.Remains.{handles_command, object_handles, session_handles}
use Rattle.device_spec.specs.Slots.{IsSlots, SlotState, slot_step}
use Rattle.device_port.specs.Device.{Answered}
use Rattle.device_laws.specs.Remains.{IsListed}
use Rattle.device_laws.proofs.Replies.{startup_starts, step_keeps}
use Rattle.device_start.specs.Start.{FindsIf, HoldsNoMoreIf, IsRunning, IsStartable, Runs, running}

pub some_same : {X : Type 0} {x y : X} → Some x ≡ Some y → x ≡ y
some_same is = cc

pub runs_few : (old new : Option SlotState) → Runs old new → HoldsNoMoreIf old new
runs_few old new runs slots is = (running slots, runs slots is, record { few = omega arith; kept = refl })

pub stays_few : (old new : Option SlotState) → new ≡ old → HoldsNoMoreIf old new
stays_few old new same slots is = (slots, same ∙ is, record { few = omega arith; kept = refl })

-- ---- Startup

startup_bytes : AreBytes startup_command
startup_bytes =
    (omega arith, (omega arith, (omega arith, (omega arith, (omega arith, (omega arith, (omega arith, (omega arith, (omega arith, (omega arith, (omega arith, (omega arith, tt))))))))))))

pub runs_now : (old new : Option SlotState) (reply : List ℕ) → Answered old startup_command new reply → Runs old new
runs_now None new reply answered slots is = absurd cc
runs_now (Some s) new reply answered slots is =
    answered.0 ∙ ap (λ (t : SlotState). Some t) ((startup_starts s).state ∙ ap running (some_same is))

-- a sound device stays so
sound_running : (slots : SlotState) → IsSlots slots → IsSlots (running slots)
sound_running slots sound = subst IsSlots (startup_starts slots).state (step_keeps slots startup_command sound startup_bytes)

-- where it tells its state, it gives no wrong answer to Startup
pub startup_untold : (old new : Option SlotState) (reply : List ℕ) → Answered old startup_command new reply → takes true true startup_command reply ≡ false
    → (new ≡ None) × (new ≡ old)
startup_untold None new reply answered untaken = (answered, answered)
startup_untold (Some s) new reply answered untaken =
    let yes : takes true true startup_command reply ≡ true = ap (takes true true startup_command) answered.1 ∙ (startup_starts s).taken in
    absurd cc

-- a device that runs and is sound, seen from itself
pub runs_here : (state : Option SlotState) → IfSome state IsRunning → Runs state state
runs_here None runs slots is = absurd cc
runs_here (Some s) runs slots is =
    let started : slots.started ≡ true = ap (λ (t : SlotState). t.started) (sym (some_same is)) ∙ runs.started in
    is ∙ (λ i. Some (record slots { started = started i }))

pub sound_here : (state : Option SlotState) → IfSome state IsRunning → IfSome state IsSlots
sound_here None runs = tt
sound_here (Some s) runs = runs.sound

-- so is one that may be started, once it runs, where its numbers are in range
pub running_now : (numbers : Numbers) (old now : Option SlotState) → is_some now ≡ is_some old → IfSome old IsStartable
    → IfSome old (λ slots. slots.numbers ≡ numbers) → AreInRange numbers → Runs old now → IfSome now IsRunning
running_now numbers old None some startable own range runs = tt
running_now numbers None (Some t) some startable own range runs = absurd cc
running_now numbers (Some s) (Some t) some startable own range runs =
    subst IsRunning (sym (some_same (runs s refl)))
    (record { sound = sound_running s (startable.sound (subst AreInRange (sym own) range)); started = refl })

-- ---- the lists

-- the lists of a device that runs: of which handles, from which one on
abbrev pub Lists : ℕ → (SlotState → List ℕ) → Type 0
Lists property handles = (slots : SlotState) → IsSlots slots → slots.started ≡ true → IsListed slots property (handles slots)

pub list_told : (property : ℕ) (handles : SlotState → List ℕ) (old now : Option SlotState) → Lists property handles → is_some now ≡ is_some old
    → IfSome old IsSlots → Runs old now
    → IfSome now (λ slots. takes true true (handles_command property) (slot_step slots (handles_command property)).1 ≡ true)
list_told property handles old None lists told sound runs = tt
list_told property handles None (Some t) lists told sound runs = absurd cc
list_told property handles (Some s) (Some t) lists told sound runs =
    subst (λ (slots : SlotState). takes true true (handles_command property) (slot_step slots (handles_command property)).1 ≡ true)
    (sym (some_same (runs s refl))) (lists (running s) (sound_running s sound) refl).taken

pub list_runs : (property : ℕ) (handles : SlotState → List ℕ) (old now new : Option SlotState) (reply : List ℕ) → Lists property handles
    → IfSome old IsSlots → Runs old now → Answered now (handles_command property) new reply → Runs old new
list_runs property handles None now new reply lists sound runs answered slots is = absurd cc
list_runs property handles (Some s) now new reply lists sound runs answered slots is =
    let at : Answered (Some (running s)) (handles_command property) new reply =
    subst (λ (n : Option SlotState). Answered n (handles_command property) new reply) (runs s refl) answered in
    at.0 ∙ ap (λ (t : SlotState). Some t) ((lists (running s) (sound_running s sound) refl).same ∙ ap running (some_same is))

pub list_has : (property : ℕ) (handles : SlotState → List ℕ) (old now new : Option SlotState) (reply : List ℕ) → Lists property handles
    → IfSome old IsSlots → Runs old now → Answered now (handles_command property) new reply
    → (slots : SlotState) → old ≡ Some slots → listed_handles reply ≡ handles (running slots)
list_has property handles None now new reply lists sound runs answered slots is = absurd cc
list_has property handles (Some s) now new reply lists sound runs answered slots is =
    let at : Answered (Some (running s)) (handles_command property) new reply =
    subst (λ (n : Option SlotState). Answered n (handles_command property) new reply) (runs s refl) answered in
    ap listed_handles at.1 ∙ (lists (running s) (sound_running s sound) refl).handles_are ∙ ap (λ (t : SlotState). handles (running t)) (some_same is)

-- a device that runs holds what its lists have
pub finds : (old new : Option SlotState) (objects loaded saved : List ℕ) → IfSome old IsSlots → Runs old new
    → ((slots : SlotState) → old ≡ Some slots → listed_handles objects ≡ object_handles (running slots))
    → ((slots : SlotState) → old ≡ Some slots → listed_handles loaded ≡ session_handles true (running slots))
    → ((slots : SlotState) → old ≡ Some slots → listed_handles saved ≡ session_handles false (running slots))
    → FindsIf objects loaded saved old new
finds None new objects loaded saved sound runs a b c slots is = absurd cc
finds (Some s) new objects loaded saved sound runs a b c slots is =
    let same = some_same is in (
      running slots,
      runs slots is,
      record {
        sound = sound_running slots (subst IsSlots same sound);
        started = refl;
        remains_are = λ i. sym (a slots is) i ++ sym (b slots is) i ++ sym (c slots is) i;
        same = refl;
      },
    )
