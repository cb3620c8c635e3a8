-- What a device that tells its state answers to the commands that move sessions, and what they make of the state.
use Rattle.std.proofs.Common.{◌≡◌, ◌<◌, ◌≤◌, ◌^◌, ℕ, true, List, length, take, drop, refl, ap, subst, sym, ◌∙◌, arith}
use Rattle.std.specs.Prelude.{Option, Some, None, is_some, IfSome}
use Rattle.std.specs.Int.{w64, from_be_bytes}
use Rattle.std.proofs.lemmas.Nat.{from_be_bytes-to_be_bytes_8}
use Rattle.tab_spec.specs.Admission.{is_session_handle}
use Rattle.tab_spec.specs.Session.{Session}
use Rattle.tab_spec.specs.Shape.{number_of_session, octet_of}
use Rattle.tab_spec.specs.declared.TheConstants.{MOST_CONTEXT_BYTES}
use Rattle.effect_spec.specs.Contexts.{session_context}
use Rattle.device_spec.specs.ContextCommands.{context_load_command, context_save_command, flush_context_command}
use Rattle.device_spec.specs.Answers.{profile_takes as takes}
use Rattle.device_spec.specs.Slots.{SlotState, IsSlots, Step, is_active_with, loaded_session, place_of, session_at, session_of_context, slot_step, with_place}
use Rattle.device_port.specs.Device.{Answered}
use Rattle.device_laws.proofs.FreshContexts.{fresh_session_of}
use Rattle.device_laws.proofs.SessionMoves.{session_flush_taken, session_gone, session_gone_step, session_load_taken, session_out, session_out_step, session_save_taken}
use Rattle.device_laws.proofs.SessionSteps.{session_back, session_load_step}
use Rattle.device_laws.proofs.Standing.{IsLoadedAs, is_loaded_as}
use Rattle.session_swap.specs.Items.{HandsOut}
use Rattle.session_swap.specs.Moves.{IsIn, IsOut, MaySave, brought_in, ended, loaded_place, put_out}
use Rattle.session_swap.proofs.Commands.{number_in}

-- what is there
some_of : (s : Option Session) → is_some s ≡ true → (session : Session) × (s ≡ Some session)
some_of None is = absurd cc
some_of (Some s) is = (s, refl)

-- the response to a command is taken
abbrev pub IsTaken : List ℕ → SlotState → Type 0
IsTaken asked slots = takes true true asked (slot_step slots asked).1 ≡ true

-- what a command does, and that its response is taken
record Steps (slots : SlotState) (asked : List ℕ) (step : Step) : Type 0 where
  is : slot_step slots asked ≡ step
  taken : IsTaken asked slots

told_as : (state : Option SlotState) (asked sent : List ℕ) → asked ≡ sent → IfSome state (IsTaken sent)
    → IfSome state (IsTaken asked)
told_as state asked sent same told = subst (λ (bytes : List ℕ). IfSome state (IsTaken bytes)) (sym same) told

-- the state after it, and the response
step_left : (slots : SlotState) (asked sent : List ℕ) (step : Step) (after : Option SlotState) (last : List ℕ) → asked ≡ sent
    → Steps slots sent step → Answered (Some slots) asked after last → (after ≡ Some step.0) × (last ≡ step.1)
step_left slots asked sent step after last same steps answered =
    let is = ap (slot_step slots) same ∙ steps.is in
    (answered.0 ∙ ap (λ (step : Step). Some step.0) is, answered.1 ∙ ap (λ (step : Step). step.1) is)

-- ---- ContextSave

record Save (slots : SlotState) (handle : ℕ) (s : Session) : Type 0 where
  number : from_be_bytes w64 (take 8 (session_context slots.persist.seed handle slots.counter s)) ≡ slots.counter
  found : (let context = session_context slots.persist.seed handle slots.counter s in
      session_of_context slots.persist.seed handle slots.counter (Some context)) ≡ Some s
  steps : Steps slots (context_save_command handle) (session_out slots handle s)

save_of : (slots : SlotState) (handle : ℕ) (s : Session) → handle < 2 ^ 32 → is_session_handle handle ≡ true → IsIn slots handle
    → MaySave slots → loaded_session slots handle ≡ Some s → Save slots handle s
save_of slots handle s fits session is may there =
    let its : IsLoadedAs slots.sessions handle s =
    subst (λ found. IfSome found (IsLoadedAs slots.sessions handle)) there (is_loaded_as slots handle is.sound) in
    record {
      number = from_be_bytes-to_be_bytes_8 slots.counter (omega (arith, may.below));
      found = fresh_session_of slots.persist.seed handle slots.counter s its.1.1 fits (omega (arith, may.below));
      steps = record {
        is = session_out_step slots handle s is.started fits session there may.below may.narrow;
        taken = session_save_taken slots handle s is.sound is.started fits session there may.below may.narrow;
      };
    }

sent_save : (state : Option SlotState) (handle : ℕ) → handle < 2 ^ 32 → is_session_handle handle ≡ true
    → IfSome state (λ slots. IsIn slots handle × MaySave slots) → IfSome state (IsTaken (context_save_command handle))
sent_save None handle fits session can = tt
sent_save (Some slots) handle fits session can =
    let there = some_of (loaded_session slots handle) can.0.there in
    (save_of slots handle there.0 fits session can.0 can.1 there.1).steps.taken

pub save_told : (state : Option SlotState) (handle : ℕ) (asked : List ℕ) → handle < 2 ^ 32 → is_session_handle handle ≡ true
    → IfSome state (λ slots. IsIn slots handle × MaySave slots) → asked ≡ context_save_command handle → IfSome state (IsTaken asked)
save_told state handle asked fits session can same =
    told_as state asked (context_save_command handle) same (sent_save state handle fits session can)

-- the session that was loaded is in this context, under this number
abbrev pub IsSavedIn : ℕ → ℕ → List ℕ → SlotState → Type 0
IsSavedIn handle number context slots =
    session_of_context slots.persist.seed handle number (Some context) ≡ loaded_session slots handle

-- what the response and the state after it are
pub record SaveTold (state new_state : Option SlotState) (handle : ℕ) (last : List ℕ) : Type 0 where
  pub state_is : new_state ≡ put_out handle state
  pub number : IfSome state (λ slots. number_in last ≡ slots.counter)
  pub same : IfSome state (IsSavedIn handle (number_in last) (drop 10 last))
  pub context : IfSome state (λ slots. HandsOut slots handle (loaded_session slots handle) last)

pub save_answered : (state new_state : Option SlotState) (handle : ℕ) (asked last : List ℕ) → handle < 2 ^ 32
    → is_session_handle handle ≡ true → IfSome state (λ slots. IsIn slots handle × MaySave slots)
    → asked ≡ context_save_command handle → Answered state asked new_state last → SaveTold state new_state handle last
save_answered None new_state handle asked last fits session can same answered =
    record { state_is = answered; number = tt; same = tt; context = tt }
save_answered (Some slots) new_state handle asked last fits session can same answered =
    let seed = slots.persist.seed in
    let there = some_of (loaded_session slots handle) can.0.there in
    let save = save_of slots handle there.0 fits session can.0 can.1 there.1 in
    let command = context_save_command handle in
    let left = step_left slots asked command (session_out slots handle there.0) new_state last same save.steps answered in
    let is : drop 10 last ≡ session_context seed handle slots.counter there.0 = ap (λ (reply : List ℕ). drop 10 reply) left.1 in
    let number : number_in last ≡ slots.counter = ap (λ (bytes : List ℕ). from_be_bytes w64 (take 8 bytes)) is ∙ save.number in
    record {
      state_is = left.0;
      number = number;
      same = ap (λ (n : ℕ). session_of_context seed handle n (Some (drop 10 last))) number
          ∙ ap (λ (bytes : List ℕ). session_of_context seed handle slots.counter (Some bytes)) is
          ∙ save.found ∙ sym there.1;
      context = subst (λ (s : Option Session). HandsOut slots handle s last) (sym there.1) left.1;
    }

-- ---- FlushContext

-- a session that may be flushed
abbrev pub IsActive : ℕ → SlotState → Type 0
IsActive handle slots = (slots.started ≡ true) × IsSlots slots × (is_active_with (octet_of handle) (place_of slots handle) ≡ true)

flush_of : (slots : SlotState) (handle : ℕ) → handle < 2 ^ 32 → is_session_handle handle ≡ true → IsActive handle slots
    → Steps slots (flush_context_command handle) (session_gone slots handle)
flush_of slots handle fits session can = record {
  is = session_gone_step slots handle can.0 fits session can.2;
  taken = session_flush_taken slots handle can.0 fits session can.2;
}

sent_flush : (state : Option SlotState) (handle : ℕ) → handle < 2 ^ 32 → is_session_handle handle ≡ true
    → IfSome state (IsActive handle) → IfSome state (IsTaken (flush_context_command handle))
sent_flush None handle fits session can = tt
sent_flush (Some slots) handle fits session can = (flush_of slots handle fits session can).taken

pub flush_told : (state : Option SlotState) (handle : ℕ) (asked : List ℕ) → handle < 2 ^ 32 → is_session_handle handle ≡ true
    → IfSome state (IsActive handle) → asked ≡ flush_context_command handle → IfSome state (IsTaken asked)
flush_told state handle asked fits session can same =
    told_as state asked (flush_context_command handle) same (sent_flush state handle fits session can)

pub flush_answered : (state new_state : Option SlotState) (handle : ℕ) (asked last : List ℕ) → handle < 2 ^ 32
    → is_session_handle handle ≡ true → IfSome state (IsActive handle) → asked ≡ flush_context_command handle
    → Answered state asked new_state last → new_state ≡ ended handle state
flush_answered None new_state handle asked last fits session can same answered = answered
flush_answered (Some slots) new_state handle asked last fits session can same answered =
    let steps = flush_of slots handle fits session can in
    (step_left slots asked (flush_context_command handle) (session_gone slots handle) new_state last same steps answered).0

-- ---- ContextLoad

load_of : (slots : SlotState) (handle : ℕ) (context : List ℕ) (s : Session) → handle < 2 ^ 32
    → is_session_handle handle ≡ true → length context ≤ MOST_CONTEXT_BYTES → IsOut slots handle context
    → session_at slots handle (Some context) ≡ Some s → Steps slots (context_load_command context) (session_back slots handle s)
load_of slots handle context s fits session few out there =
    record {
      is = session_load_step slots context handle out.number s out.started (omega (arith, few)) session out.place out.room there;
      taken = session_load_taken slots context handle out.number s out.sound out.started (omega (arith, few)) fits session out.place
          out.room there;
    }

sent_load : (state : Option SlotState) (handle : ℕ) (context : List ℕ) → handle < 2 ^ 32 → is_session_handle handle ≡ true
    → length context ≤ MOST_CONTEXT_BYTES → IfSome state (λ slots. IsOut slots handle context)
    → IfSome state (IsTaken (context_load_command context))
sent_load None handle context fits session few can = tt
sent_load (Some slots) handle context fits session few can =
    let there = some_of (session_at slots handle (Some context)) can.there in
    (load_of slots handle context there.0 fits session few can there.1).taken

pub load_told : (state : Option SlotState) (handle : ℕ) (context asked : List ℕ) → handle < 2 ^ 32
    → is_session_handle handle ≡ true → length context ≤ MOST_CONTEXT_BYTES → IfSome state (λ slots. IsOut slots handle context)
    → asked ≡ context_load_command context → IfSome state (IsTaken asked)
load_told state handle context asked fits session few can same =
    told_as state asked (context_load_command context) same (sent_load state handle context fits session few can)

pub load_answered : (state new_state : Option SlotState) (handle : ℕ) (context asked last : List ℕ) → handle < 2 ^ 32
    → is_session_handle handle ≡ true → length context ≤ MOST_CONTEXT_BYTES → IfSome state (λ slots. IsOut slots handle context)
    → asked ≡ context_load_command context → Answered state asked new_state last → new_state ≡ brought_in handle context state
load_answered None new_state handle context asked last fits session few can same answered = answered
load_answered (Some slots) new_state handle context asked last fits session few can same answered =
    let there = some_of (session_at slots handle (Some context)) can.there in
    let steps = load_of slots handle context there.0 fits session few can there.1 in
    let command = context_load_command context in
    let back = λ (s : Option Session). Some (with_place slots (number_of_session handle) (loaded_place (octet_of handle) s)) in
    (step_left slots asked command (session_back slots handle there.0) new_state last same steps answered).0 ∙ ap back (sym there.1)
