-- A broker may begin on a new device in memory, whatever its numbers are.
use Rattle.std.proofs.Common.{◌≡◌, ◌∙◌, ℕ, List, length, ap, subst, sym, arith}
use Rattle.std.specs.Prelude.{IfOk, Some, Result, Ok, Err}
use Rattle.tab_spec.specs.declared.numbers.Numbers.{Numbers}
use Rattle.tab_spec.specs.Persist.{fresh_persist}
use Rattle.device_spec.specs.Numbers.{FitWords}
use Rattle.device_spec.specs.Slots.{SlotState, new_slots}
use Rattle.device_laws.proofs.Replies.{new_is_slots}
use Rattle.device_memory.specs.Memory.{DeviceInMemory, fresh_device}
use Rattle.broker_core.specs.Broker.{IsAtBase}

some_same : {A : Type 0} {x y : A} → Some x ≡ Some y → x ≡ y
some_same e = cc

fresh_at_base : (numbers : Numbers) (seed : List ℕ) → FitWords numbers → length seed ≡ 32
    → IsAtBase (Some (fresh_persist seed)) (Some (new_slots numbers (fresh_persist seed)))
fresh_at_base numbers seed fit is = record {
  kept = λ b slots base state. ap (λ (s : SlotState). s.persist) (sym (some_same state)) ∙ some_same base;
  startable = record { fit = fit; sound = λ range. new_is_slots numbers seed range is };
  object_counter = omega arith;
  counter = omega arith;
}

pub at_base : {E : Type 0} (result : Result DeviceInMemory E) (numbers : Numbers) (seed failing : List ℕ)
    → IfOk result (λ device. device ≡ fresh_device numbers seed failing) → FitWords numbers → length seed ≡ 32
    → IfOk result (λ device. IsAtBase (Some device.base) (Some device.state))
at_base (Ok device) numbers seed failing fresh fit is =
    subst (λ (d : DeviceInMemory). IsAtBase (Some d.base) (Some d.state)) (sym fresh) (fresh_at_base numbers seed fit is)
at_base (Err e) numbers seed failing fresh fit is = tt
