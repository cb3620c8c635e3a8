-- What a device holds while the things of a list are flushed, one after the other.
use Rattle.std.proofs.Common.{◌≡◌, ◌≤◌, ◌+◌, ℕ, zero, suc, true, List, [], ◌∷◌, ◌++◌, ◌*◌, ◌-◌, length, take, drop, refl, ap, sym, ◌∙◌, subst, append_assoc, length-append, arith}
use Rattle.std.specs.Prelude.{Option, Some, None, IfSome, is_some}
use Rattle.std.specs.Int.{w32, from_be_bytes, to_be_bytes}
use Rattle.std.proofs.lemmas.List.{append-nil}
use Rattle.tab_spec.specs.declared.TheConstants.{CC_FLUSH_CONTEXT, ST_NO_SESSIONS}
use Rattle.tab_spec.specs.declared.contexts.ContextLimits.{ContextLimits}
use Rattle.device_spec.specs.Answers.{handles_from, listed_handles, profile_takes as takes, word_at}
use Rattle.device_spec.specs.ContextCommands.{flush_context_command}
use Rattle.device_spec.specs.Slots.{SlotState, held, slot_step}
use Rattle.device_port.specs.Device.{Answered}
use Rattle.device_port.specs.Own.{IsOwn}
use Rattle.device_laws.proofs.Flushing.{first_is_flushed, remains_are_counted}
use Rattle.device_laws.proofs.Frames.{response_is_frame}
use Rattle.device_start.specs.Start.{ClearedIf, FindsIf, HoldsHandles, HoldsIf, HoldsListed, HoldsNoMoreIf, IsList, LosesFirst, Runs, all_listed, running}
use Rattle.device_start.proofs.Found.{some_same}
use Rattle.device_start.proofs.Reading.{count_read}
use Rattle.device_port.proofs.Listing.{rest_of}
use Rattle.std.specs.Option.{unwrap_or}

pub flush_is_own : (contexts : ContextLimits) (handle : ℕ) → IsOwn contexts (flush_context_command handle)
flush_is_own contexts handle = record {
  frame = response_is_frame ST_NO_SESSIONS CC_FLUSH_CONTEXT (to_be_bytes w32 handle) (omega arith);
  own = refl;
  later = refl;
  starts_none = refl;
}

-- a list has as many handles as it counts
pub handles_counted : (count : ℕ) (bytes : List ℕ) → length (handles_from count bytes) ≡ count
handles_counted zero bytes = refl
handles_counted (suc count) bytes = ap (λ (n : ℕ). suc n) (handles_counted count _)

-- a device that holds these, seen from itself
from_itself : {first slots : SlotState} {handles : List ℕ} → HoldsHandles first handles slots → HoldsHandles slots handles slots
from_itself holds = record { sound = holds.sound; started = holds.started; remains_are = holds.remains_are; same = refl }

with_handles : {first slots : SlotState} {handles others : List ℕ} → handles ≡ others → HoldsHandles first handles slots → HoldsHandles first others slots
with_handles {first = first} {slots = slots} is holds = subst (λ (hs : List ℕ). HoldsHandles first hs slots) is holds

-- the first ones of what it held are gone: these handles became those
abbrev pub LeftIf : List ℕ → List ℕ → Option SlotState → Option SlotState → Type 0
LeftIf handles rest old now =
    (slots : SlotState) (more : List ℕ) → old ≡ Some slots → HoldsHandles slots (handles ++ more) slots → HoldsIf slots (rest ++ more) now

pub left_all : (handles : List ℕ) (old : Option SlotState) → LeftIf handles handles old old
left_all handles old slots more is holds = (slots, is, holds)

-- ---- one flush

pub flush_told : (handles rest : List ℕ) (handle : ℕ) (old now : Option SlotState) → is_some now ≡ is_some old → HoldsListed handles old
    → LeftIf handles (handle ∷ rest) old now
    → IfSome now (λ slots. takes true true (flush_context_command handle) (slot_step slots (flush_context_command handle)).1 ≡ true)
flush_told handles rest handle old None told there left = tt
flush_told handles rest handle None (Some t) told there left = absurd cc
flush_told handles rest handle (Some s) (Some t) told there left =
    let (more, holds) = there s refl in
    let (u, is, now) = left s more refl holds in
    subst (λ (slots : SlotState). takes true true (flush_context_command handle) (slot_step slots (flush_context_command handle)).1 ≡ true) (sym (some_same is))
    (first_is_flushed u handle (rest ++ more) now.sound now.started now.remains_are).taken

pub flush_left : (handles rest : List ℕ) (handle : ℕ) (old now new : Option SlotState) (reply : List ℕ) → LeftIf handles (handle ∷ rest) old now
    → Answered now (flush_context_command handle) new reply → LeftIf handles rest old new
flush_left handles rest handle old now new reply left answered slots more is holds =
    let (t, t_is, was) = left slots more is holds in
    let at : Answered (Some t) (flush_context_command handle) new reply =
    subst (λ (n : Option SlotState). Answered n (flush_context_command handle) new reply) t_is answered in
    let flushed = first_is_flushed t handle (rest ++ more) was.sound was.started was.remains_are in (
      (slot_step t (flush_context_command handle)).0,
      at.0,
      record {
        sound = flushed.sound;
        started = ap (λ (s : SlotState). s.started) flushed.same ∙ was.started;
        remains_are = flushed.rest_is;
        same = flushed.same ∙ was.same;
      },
    )

-- ---- it holds no more

counted : {first slots : SlotState} {handles : List ℕ} → HoldsHandles first handles slots → held slots ≡ length handles
counted {slots = slots} holds = remains_are_counted slots ∙ ap length holds.remains_are

pub left_few : (handles rest : List ℕ) (old now : Option SlotState) → HoldsListed handles old → LeftIf handles rest old now → length rest ≤ length handles
    → HoldsNoMoreIf old now
left_few handles rest old now there left fewer slots is =
    let (more, holds) = there slots is in
    let (t, t_is, was) = left slots more is holds in (
      t,
      t_is,
      record {
        few = omega (arith, counted holds, counted was, length-append handles more, length-append rest more, fewer);
        kept = ap (λ (s : SlotState). record s { started = true }) was.same;
      },
    )

pub few_then : (old mid new : Option SlotState) → HoldsNoMoreIf old mid → HoldsNoMoreIf mid new → HoldsNoMoreIf old new
few_then old mid new first second slots is =
    let (t, t_is, less) = first slots is in
    let (u, u_is, lesser) = second t t_is in
    (u, u_is, record { few = omega (arith, less.few, lesser.few); kept = lesser.kept ∙ less.kept })

-- ---- one list after the other

pub listed_first : (first second : List ℕ) (old : Option SlotState) → HoldsListed (first ++ second) old → HoldsListed first old
listed_first first second old there slots is =
    let (more, holds) = there slots is in
    (second ++ more, with_handles (append_assoc first second more) holds)

pub listed_then : (first second : List ℕ) (old mid : Option SlotState) → is_some mid ≡ is_some old → HoldsListed (first ++ second) old → LosesFirst first old mid
    → HoldsListed second mid
listed_then first second None mid told there loses t is = absurd (let some : is_some mid ≡ true = ap is_some is in cc)
listed_then first second (Some s) mid told there loses t is =
    let (more, holds) = there s refl in
    let (u, u_is, now) = loses s (second ++ more) refl (with_handles (append_assoc first second more) holds) in
    let same : u ≡ t = some_same (sym u_is ∙ is) in
    (more, from_itself (subst (λ (x : SlotState). HoldsHandles s (second ++ more) x) same now))

pub loses_then : (first second : List ℕ) (old mid new : Option SlotState) → LosesFirst first old mid → LosesFirst second mid new
    → LosesFirst (first ++ second) old new
loses_then first second old mid new one other slots more is holds =
    let (t, t_is, was) = one slots (second ++ more) is (with_handles (append_assoc first second more) holds) in
    let (u, u_is, now) = other t more t_is (from_itself was) in
    (u, u_is, record { sound = now.sound; started = now.started; remains_are = now.remains_are; same = now.same ∙ was.same })

-- ---- the whole start

-- it holds what was found, and nothing behind it
pub found_listed : (objects loaded saved : List ℕ) (old mid : Option SlotState) → is_some mid ≡ is_some old → FindsIf objects loaded saved old mid
    → HoldsListed (all_listed objects loaded saved) mid
found_listed objects loaded saved None mid told finds t is = absurd (let some : is_some mid ≡ true = ap is_some is in cc)
found_listed objects loaded saved (Some s) mid told finds t is =
    let (u, u_is, now) = finds s refl in
    let same : u ≡ t = some_same (sym u_is ∙ is) in
    let handles = all_listed objects loaded saved in
    ([], with_handles (sym (append-nil handles)) (from_itself (subst (λ (x : SlotState). HoldsHandles (running s) handles x) same now)))

pub is_cleared : (objects loaded saved : List ℕ) (old mid new : Option SlotState) → FindsIf objects loaded saved old mid
    → LosesFirst (all_listed objects loaded saved) mid new → ClearedIf old new
is_cleared objects loaded saved old mid new finds loses slots is =
    let handles = all_listed objects loaded saved in
    let (t, t_is, was) = finds slots is in
    let (u, u_is, now) = loses t [] t_is (with_handles (sym (append-nil handles)) (from_itself was)) in (
      u,
      u_is,
      record {
        sound = now.sound;
        started = now.started;
        empty = counted now;
        kept = ap (λ (s : SlotState). record s { started = true }) (now.same ∙ was.same);
      },
    )

-- a device that was started before is cleared as it was before
pub cleared_since : (old mid new : Option SlotState) → Runs old mid → ClearedIf mid new → ClearedIf old new
cleared_since old mid new runs clears slots is =
    let (u, u_is, cleared) = clears (running slots) (runs slots is) in
    (u, u_is, record { sound = cleared.sound; started = cleared.started; empty = cleared.empty; kept = cleared.kept })

-- what is left of a list isn't more than all of it
pub rest_fewer : (list : List ℕ) (found : Option ℕ) (count place : ℕ) → IsList list → found ≡ word_at 15 list → count ≡ unwrap_or found 0
    → length (rest_of count place list) ≤ length (listed_handles list)
rest_fewer list found count place is found_is count_is =
    omega (
      arith,
      handles_counted (count - place) (drop (19 + 4 * place) list),
      handles_counted (from_be_bytes w32 (take 4 (drop 15 list))) (drop 19 list),
      count_read list found count is found_is count_is,
    )
