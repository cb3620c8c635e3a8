-- How many commands were sent, step by step.
use Rattle.std.proofs.Common.{◌≡◌, ◌≤◌, ◌+◌, inl, inr, ℕ, Bool, true, false, List, ap, arith}
use Rattle.std.specs.Prelude.{◌*◌, ◌<◌, if◌then◌else◌, Option, Some, None, is_some, MatchOption, Result, Ok}
use Rattle.std.proofs.lemmas.Bool.{cases_lt, le-ltb}
use Rattle.tab_spec.specs.declared.TheConstants.{TRANSIENT_FIRST}
use Rattle.tab_spec.specs.declared.numbers.Numbers.{Numbers}
use Rattle.tab_spec.specs.Count.{one_more}
use Rattle.tab_spec.specs.declared.contexts.ContextLimits.{ContextLimits}
use Rattle.device_spec.specs.ContextCommands.{flush_context_command}
use Rattle.device_port.specs.Device.{Seen, sent_of}
use Rattle.device_port.specs.Own.{Asks}
use Rattle.device_port.specs.declared.own.SwapError.{SwapError}
use Rattle.object_swap.specs.Items.{handle_in}
use Rattle.history_laws.proofs.Counts.{one_if}
use Rattle.session_swap.specs.Items.{renewal_gap}
use Rattle.client_machine.specs.Costs.{SendsUpTo, renewal_bound}

-- ---- one command

pub sent_one : {contexts : ContextLimits} {D A : Type 0} (seen : D → Seen) (old new : D) (command : List ℕ) (result : Result A SwapError) → Asks contexts seen old new command result
    → SendsUpTo seen 1 old new
sent_one seen old new command result asks = omega (arith, asks.once)

-- one command, after a step that sent nothing
pub sent_alone : {D : Type 0} (seen : D → Seen) (old between new : D) → between ≡ old → sent_of (seen new) ≡ one_more (sent_of (seen between))
    → SendsUpTo seen 1 old new
sent_alone seen old between new still once = omega (arith, ap (λ (d : _). sent_of (seen d)) still, once)

pub sent_none : {D : Type 0} (seen : D → Seen) (most : ℕ) (old new : D) → new ≡ old → SendsUpTo seen most old new
sent_none seen most old new still = omega (arith, ap (λ (d : _). sent_of (seen d)) still)

-- what a drop of an object sends: a flush, where it is in a slot
abbrev pub FlushesSlot : {D A : Type 0} (contexts : ContextLimits) (seen : D → Seen) → Option ℕ → A → (old new : D) → Result A SwapError → Type 0
FlushesSlot contexts seen slot done old new result =
    MatchOption (handle_in slot) ((result ≡ Ok done) × (new ≡ old)) (λ handle. Asks contexts seen old new (flush_context_command handle) result)

pub sent_slot : (contexts : ContextLimits) {D A : Type 0} (seen : D → Seen) (slot : Option ℕ) (done : A) (old new : D) (result : Result A SwapError)
    → FlushesSlot contexts seen slot done old new result → SendsUpTo seen (one_if (is_some (handle_in slot))) old new
sent_slot contexts seen None done old new result sent = omega (arith, ap (λ (d : _). sent_of (seen d)) sent.1)
sent_slot contexts seen (Some slot) done old new result sent = sent_one seen old new (flush_context_command (TRANSIENT_FIRST + slot)) result sent

pub one_most : (test : Bool) → one_if test ≤ 1
one_most true = omega arith
one_most false = omega arith

-- ---- old contexts

-- nothing is sent where no renewal was due before; the gap is no larger now
pub renews_few : {D : Type 0} (seen : D → Seen) (between new : D) (gap gap_left saved : ℕ) (numbers numbers_left : Numbers) → numbers_left ≡ numbers
    → gap_left ≤ gap → (gap_left < renewal_gap numbers_left → new ≡ between)
    → SendsUpTo seen (2 * saved + 1) between new → saved ≤ numbers_left.active → SendsUpTo seen (renewal_bound gap numbers) between new
renews_few seen between new gap gap_left saved numbers numbers_left same less still sent few =
    elim (cases_lt gap_left (renewal_gap numbers_left)) [
      | inl narrow ↦ omega (arith, ap (λ (d : _). sent_of (seen d)) (still narrow))
      | inr wide ↦
          let due : renewal_bound gap numbers ≡ 2 * numbers.active + 1 =
          ap {B = ℕ} (λ (test : Bool). if test then 0 else 2 * numbers.active + 1)
          (le-ltb gap (renewal_gap numbers) (omega (arith, less, wide, ap renewal_gap same))) in
          omega (arith, due, sent, few, ap (λ (n : Numbers). n.active) same)
    ]
