-- What a command of the swapper's own leaves of the device, that of an item that was found.
use Rattle.std.proofs.Common.{◌≡◌, ◌≤◌, ◌+◌, ℕ, List, arith, sym, subst}
use Rattle.std.specs.Prelude.{Option, Some, None, IsSomeAnd, Result, Ok, Err, OnOk, OnErr}
use Rattle.tab_spec.specs.declared.contexts.ContextLimits.{ContextLimits}
use Rattle.device_port.specs.Device.{Seen, asked_of, last_of, sent_of}
use Rattle.device_port.specs.Own.{Asks, AsksSome, IsOwnAnswered}
use Rattle.device_port.proofs.Sending.{asks_some}
use Rattle.device_port.specs.declared.own.SwapError.{SwapError}
use Rattle.device_spec.specs.ContextCommands.{context_load_command}
use Rattle.session_swap.specs.Items.{Item, Saved}
use Rattle.session_swap.proofs.Moved.{saved_item}

pub asks_any : {D A : Type 0} (contexts : ContextLimits) (seen : D → Seen) (old new : D) (result : Result A SwapError) (found : Option Item) (command : Item → List ℕ)
    → IsSomeAnd found (λ item. Asks contexts seen old new (command item) result) → AsksSome contexts seen old new result
asks_any contexts seen old new result None command asks = absurd asks
asks_any contexts seen old new result (Some item) command asks = asks_some contexts seen old new (command item) result asks

-- a call that returned where the last one succeeded
pub some_ok : {D A B : Type 0} (contexts : ContextLimits) (seen : D → Seen) (old new : D) (x : A) (y : B) → AsksSome contexts seen old new (Ok x) → AsksSome contexts seen old new (Ok y)
some_ok contexts seen old new x y asks =
    record { own = asks.own; answered = asks.answered; all = asks.all; before = tt; cause = tt; base = asks.base; count = asks.count }

pub on_err_whole : {A E : Type 0} (r : Result A E) (P : Type 0) → P → OnErr r P
on_err_whole (Ok x) P p = tt
on_err_whole (Err e) P p = p

-- the command of an item that was found
pub asks_at : {D A : Type 0} (contexts : ContextLimits) (seen : D → Seen) (old new : D) (result : Result A SwapError) (found : Option Item) (item : Item)
    (command : Item → List ℕ) → found ≡ Some item → Asks contexts seen old new (command item) result
    → IsSomeAnd found (λ item. Asks contexts seen old new (command item) result)
asks_at contexts seen old new result found item command was asks =
    subst (λ (found : Option Item). IsSomeAnd found (λ item. Asks contexts seen old new (command item) result)) (sym was) asks

-- a session was loaded from its context
pub asks_in : {D A : Type 0} (contexts : ContextLimits) (seen : D → Seen) (old new : D) (result : Result A SwapError) (found : Option Item)
    (client : Option ℕ) (handed : Option (List ℕ)) (handle number : ℕ) (context bytes : List ℕ)
    → found ≡ Some (saved_item client handed handle number context) → bytes ≡ context
    → Asks contexts seen old new (context_load_command bytes) result
    → IsSomeAnd found (λ item. IsSomeAnd item.saved (λ saved. Asks contexts seen old new (context_load_command saved.context) result))
asks_in contexts seen old new result found client handed handle number context bytes was same asks =
    subst (λ (found : Option Item). IsSomeAnd found (λ item. IsSomeAnd item.saved (λ saved. Asks contexts seen old new (context_load_command saved.context) result)))
    (sym was)
    (subst (λ (bytes : List ℕ). Asks contexts seen old new (context_load_command bytes) result) same asks)

asks_saved : {D A : Type 0} (contexts : ContextLimits) (seen : D → Seen) (old new : D) (result : Result A SwapError) (saved : Option Saved)
    → IsSomeAnd saved (λ saved. Asks contexts seen old new (context_load_command saved.context) result) → AsksSome contexts seen old new result
asks_saved contexts seen old new result None asks = absurd asks
asks_saved contexts seen old new result (Some saved) asks = asks_some contexts seen old new (context_load_command saved.context) result asks

pub asks_loaded : {D A : Type 0} (contexts : ContextLimits) (seen : D → Seen) (old new : D) (result : Result A SwapError) (found : Option Item)
    → IsSomeAnd found (λ item. IsSomeAnd item.saved (λ saved. Asks contexts seen old new (context_load_command saved.context) result))
    → AsksSome contexts seen old new result
asks_loaded contexts seen old new result None asks = absurd asks
asks_loaded contexts seen old new result (Some item) asks = asks_saved contexts seen old new result item.saved asks

pub answered_any : {D A : Type 0} (contexts : ContextLimits) (seen : D → Seen) (old new : D) (result : Result A SwapError) (found : Option Item) (command : Item → List ℕ)
    → IsSomeAnd found (λ item. Asks contexts seen old new (command item) result) → OnOk result (IsOwnAnswered contexts (asked_of (seen new)) (last_of (seen new)))
answered_any contexts seen old new result None command asks = absurd asks
answered_any contexts seen old new result (Some item) command asks = asks.answered

pub on_ok_both : {A E : Type 0} (r : Result A E) (P Q : Type 0) {R : Type 0} → (P → Q → R) → OnOk r P → OnOk r Q → OnOk r R
on_ok_both (Ok x) P Q f p q = f p q
on_ok_both (Err e) P Q f p q = tt

pub on_ok_three : {A E : Type 0} (r : Result A E) (P Q S : Type 0) {R : Type 0} → OnOk r P → OnOk r Q → OnOk r S → (P → Q → S → R) → OnOk r R
on_ok_three (Ok x) P Q S p q s f = f p q s
on_ok_three (Err e) P Q S p q s f = tt

-- ---- how many commands were sent

sent_one : {D A : Type 0} {contexts : ContextLimits} (seen : D → Seen) (old new : D) (command : List ℕ) (result : Result A SwapError) → Asks contexts seen old new command result
    → sent_of (seen new) ≤ sent_of (seen old) + 1
sent_one seen old new command result asks = omega (arith, asks.once)

pub sent_any : {D A : Type 0} (contexts : ContextLimits) (seen : D → Seen) (old new : D) (result : Result A SwapError) (found : Option Item)
    (command : Item → List ℕ) → IsSomeAnd found (λ item. Asks contexts seen old new (command item) result) → sent_of (seen new) ≤ sent_of (seen old) + 1
sent_any contexts seen old new result None command asks = absurd asks
sent_any contexts seen old new result (Some item) command asks = sent_one seen old new (command item) result asks

sent_saved : {D A : Type 0} (contexts : ContextLimits) (seen : D → Seen) (old new : D) (result : Result A SwapError) (saved : Option Saved)
    → IsSomeAnd saved (λ saved. Asks contexts seen old new (context_load_command saved.context) result) → sent_of (seen new) ≤ sent_of (seen old) + 1
sent_saved contexts seen old new result None asks = absurd asks
sent_saved contexts seen old new result (Some saved) asks = sent_one seen old new (context_load_command saved.context) result asks

pub sent_loaded : {D A : Type 0} (contexts : ContextLimits) (seen : D → Seen) (old new : D) (result : Result A SwapError) (found : Option Item)
    → IsSomeAnd found (λ item. IsSomeAnd item.saved (λ saved. Asks contexts seen old new (context_load_command saved.context) result))
    → sent_of (seen new) ≤ sent_of (seen old) + 1
sent_loaded contexts seen old new result None asks = absurd asks
sent_loaded contexts seen old new result (Some item) asks = sent_saved contexts seen old new result item.saved asks
