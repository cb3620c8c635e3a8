-- What calls keep of a device, and of the objects and the sessions of clients, they keep one after another.
use Rattle.std.proofs.Common.{◌≡◌, ◌⊎◌, ◌+◌, ◌≤◌, inl, inr, ℕ, Bool, true, false, List, length, refl, ap, sym, ◌∙◌, subst, arith}
use Rattle.std.specs.Prelude.{Option, Some, None, IfSome, is_some}
use Rattle.tab_spec.specs.Count.{Rose, largest_count}
use Rattle.tab_spec.specs.declared.contexts.ContextLimits.{ContextLimits}
use Rattle.tab_spec.specs.declared.contexts.TheConstants.{PROFILE_CONTEXTS}
use Rattle.device_spec.specs.Answers.{IsRight}
use Rattle.device_spec.specs.Slots.{SlotState}
use Rattle.device_port.specs.Device.{Seen, asked_of, last_of}
use Rattle.device_port.specs.declared.device.DeviceFailed.{DeviceFailed}
use Rattle.device_port.specs.declared.own.SwapError.{SwapError}
use Rattle.device_port.specs.declared.own.SwapError.TheVariants.{Failed}
use Rattle.device_port.specs.Own.{HasCause, IsOwnAnswered}
use Rattle.device_laws.proofs.AnswerForms.{takes_more}
use Rattle.object_swap.specs.Items.{Item, item_at, item_object}
use Rattle.session_swap.specs.Items as sessions
use Rattle.world_spec.specs.World.{closed_sessions}
use Rattle.client_machine.specs.declared.held.Held.{Held}
use Rattle.client_machine.specs.Dropping.{AreLeftByFaults}
use Rattle.client_machine.specs.Moves.{CountsOnBy, GainsNone, Keeps, KeepsObjectsOf, KeepsOwners, KeepsPersist, StaysFor, other_than}
use Rattle.client_machine.specs.Settled.{Settled, orphan_count, sessions_in}
use Rattle.client_machine.specs.Tables.{AreOpenOwners}

-- ---- the device

-- ---- what it keeps

pub persist_same : (state : Option SlotState) → KeepsPersist state state
persist_same state = λ slots new is_old is_new. let same : new ≡ slots = cc in ap (λ (s : SlotState). s.persist) same

-- a device that tells its state told it before
told_between : {X : Type 0} (old middle : Option SlotState) (slots : SlotState) → is_some middle ≡ is_some old → old ≡ Some slots
    → ((between : SlotState) → middle ≡ Some between → X) → X
told_between old None slots tells is_old next =
    let none : false ≡ true = tells ∙ ap (λ (s : Option SlotState). is_some s) is_old in absurd cc
told_between old (Some between) slots tells is_old next = next between refl

-- ---- what contexts it is for

-- a device that tells its state is one of the profile
abbrev pub IsProfile : ContextLimits → Option SlotState → Type 0
IsProfile contexts state = IfSome state (λ slots. contexts ≡ PROFILE_CONTEXTS)

pub profile_at : (contexts : ContextLimits) (state : Option SlotState) (slots : SlotState) → IsProfile contexts state → state ≡ Some slots → contexts ≡ PROFILE_CONTEXTS
profile_at contexts None slots profile is = absurd cc
profile_at contexts (Some other) slots profile is = profile

pub same_for : (held : Held) → StaysFor held held
same_for held = record { objects = refl; sessions = refl }

pub for_then : (held between new_held : Held) → StaysFor held between → StaysFor between new_held → StaysFor held new_held
for_then held between new_held first second =
    record { objects = second.objects ∙ first.objects; sessions = second.sessions ∙ first.sessions }

-- ---- the objects of some clients

pub owners_same : (whose : ℕ → Bool) (items : List Item) → KeepsOwners whose items items
owners_same whose items = λ index owner names is own. (names, is)

pub objects_same : (whose : ℕ → Bool) (state : Option SlotState) (items : List Item) → KeepsObjectsOf whose state state items items
objects_same whose state items =
    λ slots new index owner is_old is_new names is own.
    let same : new ≡ slots = cc in ap (λ (s : SlotState). item_object s (item_at items index)) same

-- ---- what the client's close leaves of all sessions

-- where so many may be active
abbrev pub ClosesAs : (client active : ℕ) (old_state new_state : Option SlotState) (items new_items : List (Option sessions.Item)) (left new_left : List ℕ) → Type 0
ClosesAs client active old_state new_state items new_items left new_left =
    (slots after : SlotState) → old_state ≡ Some slots → new_state ≡ Some after
    → closed_sessions client active (sessions_in after new_items) new_left ≡ closed_sessions client active (sessions_in slots items) left

pub closes_same : (client active : ℕ) (state : Option SlotState) (items : List (Option sessions.Item)) (left : List ℕ)
    → ClosesAs client active state state items items left left
closes_same client active state items left =
    λ slots new is_old is_new. let same : new ≡ slots = cc in ap (λ (s : SlotState). closed_sessions client active (sessions_in s items) left) same

pub closes_then : (client active still : ℕ) (old middle new : Option SlotState) (items between new_items : List (Option sessions.Item))
    (left mid_left new_left : List ℕ) → is_some middle ≡ is_some old → still ≡ active
    → ClosesAs client active old middle items between left mid_left → ClosesAs client still middle new between new_items mid_left new_left
    → ClosesAs client active old new items new_items left new_left
closes_then client active still old middle new items between new_items left mid_left new_left tells same first second =
    λ slots after is_old is_new.
    told_between old middle slots tells is_old (λ held is_middle.
    (λ i. closed_sessions client (sym same i) (sessions_in after new_items) new_left) ∙ second held after is_middle is_new
    ∙ (λ i. closed_sessions client (same i) (sessions_in held between) mid_left) ∙ first slots held is_old is_middle)

-- ---- what one client loses

-- an object or a session of it is gone, and what others have stays
pub record Forgets {D : Type 0} (seen : D → Seen) (client : ℕ) (old new : D) (held new_held : Held) : Type 0 where
  pub keeps : Keeps seen old new
  pub settled : Settled (seen new).state new_held
  pub counts : CountsOnBy 0 (seen old).state (seen new).state
  pub others : KeepsOwners (other_than client) held.objects.items new_held.objects.items
  pub gained : GainsNone (other_than client) held.objects.items new_held.objects.items
  pub other_objects : KeepsObjectsOf (other_than client) (seen old).state (seen new).state held.objects.items new_held.objects.items
  pub lists : new_held.objects.owners ≡ held.objects.owners
  pub owners : (present : List ℕ) → AreOpenOwners present held.sessions.items → AreOpenOwners present new_held.sessions.items
  pub persist : KeepsPersist (seen old).state (seen new).state
  pub orphans : orphan_count new_held ≡ orphan_count held
  pub made_for : StaysFor held new_held
  pub slots : new_held.objects.slots ≡ held.objects.slots
  pub numbers : new_held.sessions.numbers ≡ held.sessions.numbers
  pub left : length new_held.sessions.left ≤ length held.sessions.left
  pub length_is : length new_held.objects.items ≡ length held.objects.items

-- ---- the last response

pub right_of : (contexts : ContextLimits) (asked : List ℕ) (last : Option (List ℕ)) → IsOwnAnswered contexts asked last → IsRight contexts asked last
right_of contexts asked None answered = tt
right_of contexts asked (Some response) answered = takes_more contexts true true asked response answered.1

pub right_none : (contexts : ContextLimits) (asked : List ℕ) (last : Option (List ℕ)) → last ≡ None → IsRight contexts asked last
right_none contexts asked None none = tt
right_none contexts asked (Some response) none = absurd cc

pub rightly : (contexts : ContextLimits) {D : Type 0} (seen : D → Seen) (old new : D) → (new ≡ old) ⊎ IsOwnAnswered contexts (asked_of (seen new)) (last_of (seen new))
    → (new ≡ old) ⊎ IsRight contexts (asked_of (seen new)) (last_of (seen new))
rightly contexts seen old new (inl same) = inl same
rightly contexts seen old new (inr answered) = inr (right_of contexts (asked_of (seen new)) (last_of (seen new)) answered)

-- ---- failed transmissions

pub failed_cause : (contexts : ContextLimits) {D : Type 0} (seen : D → Seen) (e : SwapError)
    (failed : DeviceFailed) (old new : D) → e ≡ Failed failed → HasCause contexts seen e old new
    → (Rose (seen old).faults (seen new).faults) × (last_of (seen new) ≡ None)
failed_cause contexts seen e failed old new is cause = subst (λ (x : SwapError). HasCause contexts seen x old new) is cause

pub counted_once : (old new : ℕ) → Rose old new → (1 + old ≤ new) ⊎ (largest_count ≤ new)
counted_once old new (inl more) = inl (omega (arith, more))
counted_once old new (inr most) = inr (omega (arith, most))

pub counted_both : (old middle new n m : ℕ) → middle ≤ new → (n + old ≤ middle) ⊎ (largest_count ≤ middle) → (m + middle ≤ new) ⊎ (largest_count ≤ new)
    → (n + m + old ≤ new) ⊎ (largest_count ≤ new)
counted_both old middle new n m rose (inl first) (inl second) = inl (omega (arith, first, second))
counted_both old middle new n m rose (inl first) (inr most) = inr most
counted_both old middle new n m rose (inr most) second = inr (omega (arith, most, rose))

pub left_then : (nobodys between new_nobodys old middle new : ℕ) → middle ≤ new → AreLeftByFaults nobodys old between middle
    → AreLeftByFaults between middle new_nobodys new → AreLeftByFaults nobodys old new_nobodys new
left_then nobodys between new_nobodys old middle new rose (inl first) (inl second) = inl (omega (arith, first, second))
left_then nobodys between new_nobodys old middle new rose (inl first) (inr most) = inr most
left_then nobodys between new_nobodys old middle new rose (inr most) second = inr (omega (arith, most, rose))
