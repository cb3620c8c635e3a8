-- What two steps leave, one after the other, before a client's command.
use Rattle.std.proofs.Common.{◌≡◌, ◌+◌, ◌≤◌, ℕ, ap, sym, ◌∙◌, subst, arith}
use Rattle.std.specs.Prelude.{Option}
use Rattle.tab_spec.specs.declared.numbers.Numbers.{Numbers}
use Rattle.tab_spec.specs.Numbers.{AreInRange}
use Rattle.tab_spec.specs.declared.contexts.ContextLimits.{ContextLimits}
use Rattle.device_spec.specs.Slots.{SlotState}
use Rattle.device_port.specs.Device.{Seen}
use Rattle.object_swap.specs.Items as objects
use Rattle.session_swap.specs.Items as sessions
use Rattle.client_machine.specs.declared.held.Held.{Held}
use Rattle.client_machine.specs.Moves.{CountsOnBy, MayBegin, Prepares}

pub counts_same : (old new : Option SlotState) → objects.counter_of new ≡ objects.counter_of old → sessions.counter_of new ≡ sessions.counter_of old
    → CountsOnBy 0 old new
counts_same old new of_objects of_sessions = record {
  objects_rise = omega (arith, of_objects);
  sessions_rise = omega (arith, of_sessions);
  objects_on = omega (arith, of_objects);
  sessions_on = omega (arith, of_sessions);
}

pub counts_then : (n m most : ℕ) (old mid new : Option SlotState) → n + m ≤ most → CountsOnBy n old mid → CountsOnBy m mid new → CountsOnBy most old new
counts_then n m most old mid new few first second = record {
  objects_rise = omega (arith, first.objects_rise, second.objects_rise);
  sessions_rise = omega (arith, first.sessions_rise, second.sessions_rise);
  objects_on = omega (arith, few, first.objects_on, second.objects_on);
  sessions_on = omega (arith, few, first.sessions_on, second.sessions_on);
}

-- over which the next call may begin
pub may_then : {contexts : ContextLimits} {D : Type 0} (seen : D → Seen) (n left most : ℕ) (old new : D) (held new_held : Held)
    → n + left ≤ most → MayBegin most contexts seen old held → Prepares n seen old new held new_held → MayBegin left contexts seen new new_held
may_then seen n left most old new held new_held few may prepares = record {
  made_for = record { objects = prepares.made_for.objects ∙ may.made_for.objects; sessions = prepares.made_for.sessions ∙ may.made_for.sessions };
  slots = prepares.slots ∙ may.slots ∙ sym (ap (λ (n : Numbers). n.slots) prepares.numbers);
  range = subst AreInRange (sym prepares.numbers) may.range;
  settled = prepares.settled;
  object_counter = omega (arith, few, may.object_counter, prepares.counts.objects_on);
  counter = omega (arith, few, may.counter, prepares.counts.sessions_on);
}
