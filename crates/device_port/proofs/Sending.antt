-- What calls leave of a device that send commands of the broker's own: none, one, or one call after another.
use Rattle.std.proofs.Common.{◌≡◌, ◌≤◌, ◌⊎◌, inl, inr, ℕ, List, [], ◌∷◌, ◌++◌, arith, ◌∙◌, refl, ap, sym, subst}
use Rattle.std.specs.Prelude.{Option, Result, Ok, Err}
use Rattle.std.specs.List.{AllByRecursion}
use Rattle.std.proofs.lemmas.List.{append_assoc}
use Rattle.tab_spec.specs.declared.contexts.ContextLimits.{ContextLimits}
use Rattle.device_port.specs.Device.{Seen, Transmission, asked_of, last_of}
use Rattle.device_port.specs.Own.{Asks, AsksSome, EndAtNewest, HasCause, IsOwn, IsOwnAnswered, SendsOwn, WasTaken}
use Rattle.device_port.specs.declared.own.SwapError.{SwapError}
use Rattle.device_port.specs.declared.own.SwapError.TheVariants as errors

unfoldable pub none_sent : {D : Type 0} (contexts : ContextLimits) (seen : D → Seen) (device : D) → SendsOwn contexts seen device device
none_sent contexts seen device = record { sent = []; trace_is = refl; own = tt }

pub are_own : (contexts : ContextLimits) (later earlier : List Transmission) → AllByRecursion (λ one. IsOwn contexts one.command) later → AllByRecursion (λ one. IsOwn contexts one.command) earlier
    → AllByRecursion (λ one. IsOwn contexts one.command) (later ++ earlier)
are_own contexts [] earlier none own = own
are_own contexts (one ∷ later) earlier both own = (both.0, are_own contexts later earlier both.1 own)

-- one call after another
unfoldable pub sends_then : {D : Type 0} (contexts : ContextLimits) (seen : D → Seen) (old mid new : D) → SendsOwn contexts seen old mid → SendsOwn contexts seen mid new → SendsOwn contexts seen old new
sends_then contexts seen old mid new first second = record {
  sent = second.sent ++ first.sent;
  trace_is = second.trace_is ∙ ap (λ (trace : List Transmission). second.sent ++ trace) first.trace_is ∙ sym (append_assoc second.sent first.sent (seen old).trace);
  own = are_own contexts second.sent first.sent second.own first.own;
}

-- ---- each was answered

pub all_taken : (contexts : ContextLimits) (later earlier : List Transmission) → AllByRecursion (WasTaken contexts) later → AllByRecursion (WasTaken contexts) earlier
    → AllByRecursion (WasTaken contexts) (later ++ earlier)
all_taken contexts [] earlier none taken = taken
all_taken contexts (one ∷ later) earlier both taken = (both.0, all_taken contexts later earlier both.1 taken)

all_but_newest : (contexts : ContextLimits) (later earlier : List Transmission) → EndAtNewest contexts later → AllByRecursion (WasTaken contexts) earlier → EndAtNewest contexts (later ++ earlier)
all_but_newest contexts [] earlier none all = absurd none
all_but_newest contexts (newest ∷ later) earlier taken all = all_taken contexts later earlier taken all

-- ---- what a call leaves

unfoldable pub sends_one : {D A : Type 0} (contexts : ContextLimits) (seen : D → Seen) (old new : D) (command : List ℕ) (result : Result A SwapError)
    → Asks contexts seen old new command result → SendsOwn contexts seen old new
sends_one contexts seen old new command result asks =
    record { sent = record { command = command; response = last_of (seen new) } ∷ []; trace_is = asks.one; own = (asks.own, tt) }

pub one_taken : (contexts : ContextLimits) (command asked : List ℕ) (last : Option (List ℕ)) → asked ≡ command → IsOwnAnswered contexts asked last
    → AllByRecursion (WasTaken contexts) (record { command = command; response = last } ∷ [])
one_taken contexts command asked last is answered = (subst (λ (bytes : List ℕ). IsOwnAnswered contexts bytes last) is answered, tt)

pub asks_some : {D A : Type 0} (contexts : ContextLimits) (seen : D → Seen) (old new : D) (command : List ℕ) (result : Result A SwapError)
    → Asks contexts seen old new command result → AsksSome contexts seen old new result
unfolding sends_one
asks_some contexts seen old new command (Ok x) asks = record {
  own = sends_one contexts seen old new command (Ok x) asks;
  answered = inr asks.answered;
  all = one_taken contexts command (asked_of (seen new)) (last_of (seen new)) asks.asked asks.answered;
  before = tt;
  cause = asks.cause;
  base = asks.base;
  count = asks.count;
}
asks_some contexts seen old new command (Err e) asks = record {
  own = sends_one contexts seen old new command (Err e) asks;
  answered = tt;
  all = tt;
  before = tt;
  cause = asks.cause;
  base = asks.base;
  count = asks.count;
}

pub cause_then : {D : Type 0} (contexts : ContextLimits) (seen : D → Seen) (old mid new : D) (e : SwapError) → (seen old).faults ≤ (seen mid).faults → HasCause contexts seen e mid new
    → HasCause contexts seen e old new
cause_then contexts seen old mid new (errors.Failed failed) count (inl rose, none) = (inl (omega (arith, count, rose)), none)
cause_then contexts seen old mid new (errors.Failed failed) count (inr most, none) = (inr most, none)
cause_then contexts seen old mid new (errors.Answer code) count cause = cause

-- nothing was sent, or the last response was taken: of one call after the other
pub answered_then : {D : Type 0} (P : D → Type 0) (old mid new : D) → (mid ≡ old) ⊎ P mid → (new ≡ mid) ⊎ P new → (new ≡ old) ⊎ P new
answered_then P old mid new first (inr p) = inr p
answered_then P old mid new (inl e) (inl f) = inl (f ∙ e)
answered_then P old mid new (inr p) (inl f) = inr (subst P (sym f) p)

-- one call after another, which succeeded
pub asks_then : {D A B : Type 0} (contexts : ContextLimits) (seen : D → Seen) (old mid new : D) (x : A) (result : Result B SwapError)
    → AsksSome contexts seen old mid (Ok x) → AsksSome contexts seen mid new result → AsksSome contexts seen old new result
unfolding sends_then
asks_then contexts seen old mid new x (Ok y) first second = record {
  own = sends_then contexts seen old mid new first.own second.own;
  answered = answered_then (λ device. IsOwnAnswered contexts (asked_of (seen device)) (last_of (seen device))) old mid new first.answered second.answered;
  all = all_taken contexts second.own.sent first.own.sent second.all first.all;
  before = tt;
  cause = tt;
  base = second.base ∙ first.base;
  count = omega (arith, first.count, second.count);
}
asks_then contexts seen old mid new x (Err e) first second = record {
  own = sends_then contexts seen old mid new first.own second.own;
  answered = tt;
  all = tt;
  before = all_but_newest contexts second.own.sent first.own.sent second.before first.all;
  cause = cause_then contexts seen old mid new e first.count second.cause;
  base = second.base ∙ first.base;
  count = omega (arith, first.count, second.count);
}

-- nothing was sent yet
pub asks_none : {D : Type 0} (contexts : ContextLimits) (seen : D → Seen) (device : D) → AsksSome {A = Unit {0}} contexts seen device device (Ok tt)
unfolding none_sent
asks_none contexts seen device = record { own = none_sent contexts seen device; answered = inl refl; all = tt; before = tt; cause = tt; base = refl; count = omega arith }

-- a call that returned where the last one failed
pub some_failed : {D A B : Type 0} (contexts : ContextLimits) (seen : D → Seen) (old new : D) (e : SwapError) (result : Result B SwapError)
    → (f : SwapError) × (result ≡ Err f) × (f ≡ e) → AsksSome {A = A} contexts seen old new (Err e) → AsksSome contexts seen old new result
some_failed {A = A} contexts seen old new e result (f, is, same) asks =
    let failed : AsksSome {A = A} contexts seen old new (Err f) = subst (λ (e : SwapError). AsksSome {A = A} contexts seen old new (Err e)) (sym same) asks in
    subst (λ (r : Result _ SwapError). AsksSome contexts seen old new r) (sym is)
    (record { own = failed.own; answered = tt; all = tt; before = failed.before; cause = failed.cause; base = failed.base; count = failed.count })

-- a call that returned where the command succeeded, and where it failed
pub asks_ok : {D A B : Type 0} (contexts : ContextLimits) (seen : D → Seen) (old new : D) (command : List ℕ) (x : A) (y : B) → Asks contexts seen old new command (Ok x)
    → Asks contexts seen old new command (Ok y)
asks_ok contexts seen old new command x y asks = record {
  asked = asks.asked;
  once = asks.once;
  one = asks.one;
  own = asks.own;
  answered = asks.answered;
  err = tt;
  cause = tt;
  base = asks.base;
  count = asks.count;
}

pub asks_failed : {D A B : Type 0} (contexts : ContextLimits) (seen : D → Seen) (old new : D) (command : List ℕ) (e : SwapError) (result : Result B SwapError)
    → (f : SwapError) × (result ≡ Err f) × (f ≡ e) → Asks {A = A} contexts seen old new command (Err e) → Asks contexts seen old new command result
asks_failed {A = A} contexts seen old new command e result (f, is, same) asks =
    let failed : Asks {A = A} contexts seen old new command (Err f) = subst (λ (e : SwapError). Asks {A = A} contexts seen old new command (Err e)) (sym same) asks in
    subst (λ (r : Result _ SwapError). Asks contexts seen old new command r) (sym is) (record {
      asked = failed.asked;
      once = failed.once;
      one = failed.one;
      own = failed.own;
      answered = tt;
      err = failed.err;
      cause = failed.cause;
      base = failed.base;
      count = failed.count;
    })
