-- Flushes that were answered or failed, one after another.
use Rattle.std.proofs.Common.{◌≡◌, ◌+◌, inl, inr, ℕ, Bool, true, false, List, [], ◌∷◌, ◌++◌, set, ap, sym, ◌∙◌, subst, refl, arith}
use Rattle.std.specs.Prelude.{Option, Some, None, Ok, Err}
use Rattle.std.specs.List.{AllByRecursion}
use Rattle.std.proofs.lemmas.List.{append_assoc}
use Rattle.tab_spec.specs.declared.TheConstants.{TRANSIENT_FIRST}
use Rattle.tab_spec.specs.declared.contexts.ContextLimits.{ContextLimits}
use Rattle.device_spec.specs.ContextCommands.{flush_context_command}
use Rattle.device_port.specs.Device.{Seen, Transmission, asked_of, last_of}
use Rattle.device_port.specs.Own.{Asks}
use Rattle.device_port.specs.declared.own.SwapError.{SwapError}
use Rattle.device_port.proofs.Sending.{one_taken}
use Rattle.client_machine.specs.Dropping.{SendsFlushes, WasTried, WereTried}
use Rattle.client_machine.proofs.Before.{flush_code}
use Rattle.client_machine.proofs.Costs.{FlushesSlot}
use Rattle.client_machine.proofs.Remaining.{behind_remains, one_altered, one_gone, orphan_remains, remains_same, remains_then}
use Rattle.session_swap.specs.Items.{Item, Names, disowned, item_at, left_behind}
use Rattle.tab_spec.specs.Shape.{number_of_session}

-- ---- none, and one after another

pub none_tried : {contexts : ContextLimits} {D : Type 0} (seen : D → Seen) (device : D)
    (items : List (Option Item))
    → SendsFlushes contexts seen device device items items false
none_tried {contexts = contexts} seen device items =
    record {
      sent = [];
      trace_is = refl;
      each = tt;
      flushed = λ number. remains_same contexts [] (item_at items number);
    }

newest_tried : (contexts : ContextLimits) (sent : List Transmission) → AllByRecursion (WasTried contexts) sent → WereTried contexts true sent
newest_tried contexts [] none = tt
newest_tried contexts (newest ∷ earlier) all = (all.0.0, all.1)

all_tried : (contexts : ContextLimits) (wrong : Bool) (later earlier : List Transmission) → WereTried contexts wrong later → AllByRecursion (WasTried contexts) earlier → WereTried contexts wrong (later ++ earlier)
all_tried contexts false [] earlier none all = all
all_tried contexts false (one ∷ later) earlier both all = (both.0, all_tried contexts false later earlier both.1 all)
all_tried contexts true [] earlier none all = newest_tried contexts earlier all
all_tried contexts true (newest ∷ later) earlier both all = (both.0, all_tried contexts false later earlier both.1 all)

pub tried_then : {contexts : ContextLimits} {D : Type 0} (seen : D → Seen) (old middle new : D)
    (items between new_items : List (Option Item)) (wrong : Bool)
    → SendsFlushes contexts seen old middle items between false
    → SendsFlushes contexts seen middle new between new_items wrong
    → SendsFlushes contexts seen old new items new_items wrong
tried_then {contexts = contexts} seen old middle new items between new_items wrong first second =
    record {
      sent = second.sent ++ first.sent;
      trace_is = second.trace_is ∙ ap (λ (trace : List Transmission). second.sent ++ trace) first.trace_is ∙ sym (append_assoc second.sent first.sent (seen old).trace);
      each = all_tried contexts wrong second.sent first.sent second.each first.each;
      flushed = λ number. remains_then contexts second.sent first.sent (item_at items number)
          (item_at between number) (item_at new_items number)
          (first.flushed number) (second.flushed number);
    }

-- over what is kept afterwards
pub tried_over : {contexts : ContextLimits} {D : Type 0} {seen : D → Seen} {old new : D}
    {items from kept : List (Option Item)} {wrong : Bool} → kept ≡ from
    → SendsFlushes contexts seen old new items from wrong
    → SendsFlushes contexts seen old new items kept wrong
tried_over {contexts = contexts} {seen = seen} {old = old} {new = new} {items = items}
    {wrong = wrong} is sent =
    subst (λ (l : List (Option Item)). SendsFlushes contexts seen old new items l wrong) (sym is)
    sent

-- ---- one

-- the transmission of a flush
abbrev flush_of : ℕ → Option (List ℕ) → Transmission
flush_of handle last = record { command = flush_context_command handle; response = last }

-- a flush that was answered, of the session that is gone
pub tried_ok : {contexts : ContextLimits} {D A : Type 0} (seen : D → Seen) (old new : D)
    (items : List (Option Item)) (handle : ℕ) (x : A) → Names items handle
    → Asks contexts seen old new (flush_context_command handle) (Ok x)
    → SendsFlushes contexts seen old new items (set items (number_of_session handle) None) false
tried_ok {contexts = contexts} seen old new items handle x names asks =
    let taken = one_taken contexts (flush_context_command handle) (asked_of (seen new)) (last_of (seen new)) asks.asked asks.answered in
    record {
      sent = flush_of handle (last_of (seen new)) ∷ [];
      trace_is = asks.one;
      each = ((flush_code handle, inr taken.0), tt);
      flushed = one_gone contexts (flush_of handle (last_of (seen new)) ∷ []) items handle names
          (0, flush_of handle (last_of (seen new)), omega arith, refl, (refl, taken.0));
    }

-- one that failed: the session is an orphan
pub tried_failed : {contexts : ContextLimits} {D A : Type 0} (seen : D → Seen) (old new : D)
    (items : List (Option Item)) (handle : ℕ) (e : SwapError)
    → last_of (seen new) ≡ None
    → Asks {A = A} contexts seen old new (flush_context_command handle) (Err e)
    → SendsFlushes contexts seen old new items
    (set items (number_of_session handle) (disowned (item_at items (number_of_session handle))))
    false
tried_failed {contexts = contexts} seen old new items handle e none asks = record {
  sent = flush_of handle (last_of (seen new)) ∷ [];
  trace_is = asks.one;
  each = ((flush_code handle, inl none), tt);
  flushed = one_altered contexts (flush_of handle (last_of (seen new)) ∷ []) disowned
      (orphan_remains contexts (flush_of handle (last_of (seen new)) ∷ [])) items
      (number_of_session handle);
}

-- one that met a wrong answer: nothing is gone
pub tried_wrong : {contexts : ContextLimits} {D A : Type 0} (seen : D → Seen) (old new : D)
    (items : List (Option Item)) (handle : ℕ) (e : SwapError)
    → Asks {A = A} contexts seen old new (flush_context_command handle) (Err e)
    → SendsFlushes contexts seen old new items items true
tried_wrong {contexts = contexts} seen old new items handle e asks = record {
  sent = flush_of handle (last_of (seen new)) ∷ [];
  trace_is = asks.one;
  each = (flush_code handle, tt);
  flushed = λ number. remains_same contexts (flush_of handle (last_of (seen new)) ∷ [])
      (item_at items number);
}

-- nothing was sent, and a session was left by its client
pub tried_behind : {contexts : ContextLimits} {D : Type 0} (seen : D → Seen) (device : D)
    (items : List (Option Item)) (n : ℕ)
    → SendsFlushes contexts seen device device items (set items n (left_behind (item_at items n)))
    false
tried_behind {contexts = contexts} seen device items n =
    record {
      sent = [];
      trace_is = refl;
      each = tt;
      flushed = one_altered contexts [] left_behind (behind_remains contexts []) items n;
    }

-- ---- one of what is in a slot

pub slot_ok : {contexts : ContextLimits} {D A : Type 0} (seen : D → Seen)
    (items : List (Option Item)) (slot : Option ℕ) (done x : A) (old new : D)
    → FlushesSlot contexts seen slot done old new (Ok x)
    → SendsFlushes contexts seen old new items items false
slot_ok {contexts = contexts} seen items None done x old new sent =
    subst (λ (d : _). SendsFlushes contexts seen old d items items false) (sym sent.1)
    (none_tried seen old items)
slot_ok {contexts = contexts} seen items (Some slot) done x old new asks =
    let handle = TRANSIENT_FIRST + slot in
    let taken = one_taken contexts (flush_context_command handle) (asked_of (seen new))
    (last_of (seen new)) asks.asked asks.answered in
    record {
      sent = flush_of handle (last_of (seen new)) ∷ [];
      trace_is = asks.one;
      each = ((flush_code handle, inr taken.0), tt);
      flushed = λ number. remains_same contexts (flush_of handle (last_of (seen new)) ∷ [])
          (item_at items number);
    }

pub slot_failed : {contexts : ContextLimits} {D A : Type 0} (seen : D → Seen)
    (items : List (Option Item)) (slot : Option ℕ) (done : A) (old new : D) (e : SwapError)
    → last_of (seen new) ≡ None → FlushesSlot {A = A} contexts seen slot done old new (Err e)
    → SendsFlushes contexts seen old new items items false
slot_failed {contexts = contexts} seen items None done old new e none sent =
    subst (λ (d : _). SendsFlushes contexts seen old d items items false) (sym sent.1)
    (none_tried seen old items)
slot_failed {contexts = contexts} seen items (Some slot) done old new e none asks =
    let handle = TRANSIENT_FIRST + slot in
    record {
      sent = flush_of handle (last_of (seen new)) ∷ [];
      trace_is = asks.one;
      each = ((flush_code handle, inl none), tt);
      flushed = λ number. remains_same contexts (flush_of handle (last_of (seen new)) ∷ [])
          (item_at items number);
    }

pub slot_wrong : {contexts : ContextLimits} {D A : Type 0} (seen : D → Seen)
    (items : List (Option Item)) (slot : Option ℕ) (done : A) (old new : D) (e : SwapError)
    → FlushesSlot {A = A} contexts seen slot done old new (Err e)
    → SendsFlushes contexts seen old new items items true
slot_wrong seen items None done old new e sent = absurd cc
slot_wrong seen items (Some slot) done old new e sent =
    tried_wrong seen old new items (TRANSIENT_FIRST + slot) e sent
