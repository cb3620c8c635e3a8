-- What was sent before a client's own command.
use Rattle.std.proofs.Common.{◌≡◌, ◌+◌, ℕ, List, [], ◌∷◌, ◌++◌, refl, ap, sym, ◌∙◌, subst, arith}
use Rattle.std.specs.Prelude.{Result, Ok, Err, OnOk}
use Rattle.std.specs.List.{AllByRecursion}
use Rattle.tab_spec.specs.declared.TheConstants.{CC_FLUSH_CONTEXT}
use Rattle.tab_spec.specs.Frame.{code_of}
use Rattle.tab_spec.specs.declared.contexts.ContextLimits.{ContextLimits}
use Rattle.device_spec.specs.ContextCommands.{flush_context_command}
use Rattle.device_port.specs.Device.{Seen, Transmission, asked_of, last_of}
use Rattle.device_port.specs.Own.{Asks, AsksSome, EndAtNewest, IsOwn, IsOwnAnswered}
use Rattle.device_port.specs.declared.own.SwapError.{SwapError}
use Rattle.device_port.proofs.Sending.{all_taken, answered_then, one_taken, sends_then}
use Rattle.client_machine.specs.Moves.{FailsAtLast, FlushesSome, IsSent, MakesReady, SentBefore}

-- ---- flushes

pub flushes_none : {contexts : ContextLimits} {D : Type 0} (seen : D → Seen) (device : D) → FlushesSome contexts seen 0 device device
flushes_none seen device = record { sent = []; trace_is = refl; each = tt; count_is = refl }

pub flush_code : (handle : ℕ) → code_of (flush_context_command handle) ≡ CC_FLUSH_CONTEXT
flush_code handle = refl

-- one more was answered
pub flushes_more : {contexts : ContextLimits} {D A : Type 0} (seen : D → Seen) (old mid new : D) (count handle : ℕ) (x : A) → FlushesSome contexts seen count old mid
    → Asks contexts seen mid new (flush_context_command handle) (Ok x) → FlushesSome contexts seen (count + 1) old new
flushes_more {contexts = contexts} seen old mid new count handle x first asks =
    let taken = one_taken contexts (flush_context_command handle) (asked_of (seen new)) (last_of (seen new)) asks.asked asks.answered in
    let newest : Transmission = record { command = flush_context_command handle; response = last_of (seen new) } in
    record {
      sent = newest ∷ first.sent;
      trace_is = asks.one ∙ ap (λ (trace : List Transmission). newest ∷ trace) first.trace_is;
      each = ((flush_code handle, taken.0), first.each);
      count_is = omega (arith, first.count_is);
    }

-- that was the last of them
pub flushes_all : {contexts : ContextLimits} {D : Type 0} (seen : D → Seen) (old last new : D) (count all : ℕ) → count ≡ all → new ≡ last → FlushesSome contexts seen count old last
    → FlushesSome contexts seen all old new
flushes_all {contexts = contexts} {D = D} seen old last new count all count_is new_is flushes =
    subst (λ (n : ℕ). FlushesSome contexts seen n old new) count_is (subst (λ (d : D). FlushesSome contexts seen count old d) (sym new_is) flushes)

-- ---- commands of the broker's own behind them

-- nothing but the flushes was sent
pub before_flushed : {contexts : ContextLimits} {D A : Type 0} (seen : D → Seen) (count : ℕ) (old new : D) (x : A) → FlushesSome contexts seen count old new
    → AsksSome contexts seen old new (Ok x) → SentBefore contexts seen count old new
before_flushed seen count old new x flushed asks =
    record { cleared = new; flushed = flushed; own = record { sent = []; trace_is = refl; own = tt }; all = tt; answered = asks.answered }

pub before_then : {contexts : ContextLimits} {D A : Type 0} (seen : D → Seen) (count : ℕ) (old mid new : D) (x : A) → SentBefore contexts seen count old mid
    → AsksSome contexts seen mid new (Ok x) → SentBefore contexts seen count old new
unfolding sends_then
before_then {contexts = contexts} seen count old mid new x first second = record {
  cleared = first.cleared;
  flushed = first.flushed;
  own = sends_then contexts seen first.cleared mid new first.own second.own;
  all = all_taken contexts second.own.sent first.own.sent second.all first.all;
  answered = answered_then (λ device. IsOwnAnswered contexts (asked_of (seen device)) (last_of (seen device))) old mid new first.answered second.answered;
}

-- a call that succeeded, whatever it returned
pub asks_as : {contexts : ContextLimits} {D A B : Type 0} (seen : D → Seen) (old new : D) (x : A) (y : B) → AsksSome contexts seen old new (Ok x) → AsksSome contexts seen old new (Ok y)
asks_as seen old new x y asks = record {
  own = asks.own;
  answered = asks.answered;
  all = asks.all;
  before = tt;
  cause = tt;
  base = asks.base;
  count = asks.count;
}

-- a call that failed
pub ready_failed : {contexts : ContextLimits} {D B : Type 0} (seen : D → Seen) (count : ℕ) (old new : D) (e : SwapError) (result : Result B SwapError)
    → (f : SwapError) × (result ≡ Err f) × (f ≡ e) → AsksSome contexts seen old new result → MakesReady contexts seen count old new result
ready_failed {contexts = contexts} {B = B} seen count old new e result (f, is, same) asks =
    record { asks = asks; before = subst (λ (r : Result B SwapError). OnOk r (SentBefore contexts seen count old new)) (sym is) tt }

-- ---- a call that failed

fails_at : {contexts : ContextLimits} {D : Type 0} (seen : D → Seen) (old new : D) (sent : List Transmission) → (seen new).trace ≡ sent ++ (seen old).trace
    → AllByRecursion (λ one. IsOwn contexts one.command) sent → EndAtNewest contexts sent → FailsAtLast contexts seen old new
fails_at seen old new [] trace_is own none = absurd none
fails_at seen old new (last ∷ before) trace_is own all = record { last = last; before = before; trace_is = trace_is; own = own.1; all = all }

-- at a command of the broker's own
pub fails_asking : {contexts : ContextLimits} {D A : Type 0} (seen : D → Seen) (old new : D) (e : SwapError) → AsksSome {A = A} contexts seen old new (Err e) → FailsAtLast contexts seen old new
fails_asking seen old new e asks = fails_at seen old new asks.own.sent asks.own.trace_is asks.own.own asks.before

-- and at the client's
pub fails_sending : {contexts : ContextLimits} {D A : Type 0} (seen : D → Seen) (old mid new : D) (command : List ℕ) (x : A) → AsksSome contexts seen old mid (Ok x) → IsSent seen mid new command
    → FailsAtLast contexts seen old new
fails_sending seen old mid new command x asks sent =
    let last : Transmission = record { command = command; response = last_of (seen new) } in
    record {
      last = last;
      before = asks.own.sent;
      trace_is = sent.one ∙ ap (λ (trace : List Transmission). last ∷ trace) asks.own.trace_is;
      own = asks.own.own;
      all = asks.all;
    }
