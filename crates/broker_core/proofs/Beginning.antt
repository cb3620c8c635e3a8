-- A broker that has begun.
use Rattle.std.proofs.Common.{◌≡◌, ◌≤◌, ◌+◌, ℕ, zero, suc, true, false, true≢false, cond, List, [], ◌∷◌, Option, Some, None, refl, sym, ap, subst, ◌∙◌, arith, inl, inr}
use Rattle.std.proofs.lemmas.Bool.{false≢true}
use Rattle.std.proofs.lemmas.List.Sums.{sum_by-cons}
use Rattle.std.specs.Prelude.{◌==◌, replicate, get_or, is_some, IfSome}
use Rattle.std.specs.List.{count_by, list_any}
use Rattle.std.proofs.lemmas.List.{length-replicate}
use Rattle.tab_spec.specs.declared.numbers.Numbers.{Numbers}
use Rattle.tab_spec.specs.Numbers.{AreInRange}
use Rattle.tab_spec.specs.Object.{Object}
use Rattle.tab_spec.specs.Persist.{Persist}
use Rattle.tab_spec.specs.declared.contexts.ContextLimits.{ContextLimits}
use Rattle.device_spec.specs.Answers.{IsRight}
use Rattle.device_spec.specs.Slots.{SessionPlace, SlotState, IsSlots, HoldsNothing, active_count, gap_from, inactive, is_active, loaded, loaded_count, oldest_saved, saved}
use Rattle.object_swap.specs.Items.{IsOwned}
use Rattle.session_swap.specs.Items as sessions
use Rattle.session_swap.specs.Items.{no_items, place_at}
use Rattle.client_machine.specs.declared.held.Held.{Held}
use Rattle.device_port.specs.Device.{Seen, asked_of, last_of}
use Rattle.device_start.specs.Start.{Attempts, ClearedIf, HoldsNoMoreIf, IsCleared}
use Rattle.broker_core.specs.Broker.{Holds, IsAtBase, StandsAfterIf}
use Rattle.client_machine.specs.Moves.{Keeps}
use Rattle.client_machine.specs.Settled.{IsSettled, sessions_in}
use Rattle.client_machine.specs.Tables.{AreOpenOwners}
use Rattle.client_machine.proofs.Settling.{some_same}
use Rattle.session_swap.proofs.Counts.{count_cons, flag_false, flag_most, flag_true}
use Rattle.world_spec.specs.World.{Owned}
use Rattle.history_spec.specs.declared.TheConstants.{SILENT_LIMIT}
use Rattle.history_spec.specs.Entry.{IsLimit}

-- ---- a device that holds nothing

taken_counts : (o : Object) (slots : List (Option Object)) → count_by is_some (Some o ∷ slots) ≡ 0 → ⊥
taken_counts o slots holds =
    let counted : count_by is_some (Some o ∷ slots) ≡ 1 + count_by is_some slots = sum_by-cons (λ (slot : Option Object). cond (is_some slot) 1 0) (Some o) slots in
    omega (arith, counted, holds)

none_taken : (slots : List (Option Object)) (place : ℕ) → count_by is_some slots ≡ 0 → ◌≡◌ {A = ℕ} (cond (is_some (get_or slots place None)) 1 0) 0
none_taken [] place holds = refl
none_taken (None ∷ slots) zero holds = refl
none_taken (None ∷ slots) (suc place) holds = none_taken slots place (omega (arith, holds))
none_taken (Some o ∷ slots) place holds = absurd (taken_counts o slots holds)

pub owned_nothing : (slots : SlotState) → count_by is_some slots.slots ≡ 0 → IsOwned slots [] []
owned_nothing slots empty slot = sym (none_taken slots.slots slot empty)

active_counts : (place : SessionPlace) (places : List SessionPlace) → is_active place ≡ true → active_count (place ∷ places) ≡ 0 → ⊥
active_counts place places is holds = omega (arith, count_cons is_active place places, flag_true (is_active place) is, holds)

pub none_active : (places : List SessionPlace) (number : ℕ) → active_count places ≡ 0 → is_active (get_or places number inactive) ≡ false
none_active [] number holds = refl
none_active (inactive ∷ places) zero holds = refl
none_active (inactive ∷ places) (suc number) holds = none_active places number (omega (arith, count_cons is_active inactive places, holds))
none_active (loaded octet s ∷ places) number holds = absurd (active_counts (loaded octet s) places refl holds)
none_active (saved octet last ∷ places) number holds = absurd (active_counts (saved octet last) places refl holds)

none_oldest : (places : List SessionPlace) → active_count places ≡ 0 → oldest_saved places ≡ None
none_oldest [] holds = refl
none_oldest (inactive ∷ places) holds = none_oldest places (omega (arith, count_cons is_active inactive places, holds))
none_oldest (loaded octet s ∷ places) holds = absurd (active_counts (loaded octet s) places refl holds)
none_oldest (saved octet last ∷ places) holds = absurd (active_counts (saved octet last) places refl holds)

pub none_at : (count number : ℕ) → sessions.item_at (replicate count None) number ≡ None
none_at zero number = refl
none_at (suc count) zero = refl
none_at (suc count) (suc number) = none_at count number

none_saved : (count : ℕ) → list_any sessions.is_saved_item (replicate count None) ≡ false
none_saved zero = refl
none_saved (suc count) = none_saved count

none_owned : (slots : SlotState) (count : ℕ) → sessions_in slots (replicate count None) ≡ replicate count None
none_owned slots zero = refl
none_owned slots (suc count) = ap (λ (rest : List (Option Owned)). None ∷ rest) (none_owned slots count)

none_open : (count : ℕ) → AreOpenOwners [] (replicate count None)
none_open zero = tt
none_open (suc count) = (tt, none_open count)

none_left : (count : ℕ) → count_by sessions.is_orphan (replicate count None) ≡ 0
none_left zero = refl
none_left (suc count) = omega (arith, count_cons sessions.is_orphan None (replicate count None), none_left count)

-- nothing is held, for a device with these contexts and of these numbers
abbrev pub held_nothing : ContextLimits → Numbers → ℕ → Held
held_nothing contexts numbers next = record {
  objects = record { items = []; slots = numbers.slots; order = []; owners = []; left = []; contexts = contexts };
  sessions = record { numbers = numbers; items = no_items; next = next; order = []; saved = []; left = []; contexts = contexts };
}

pub settled_empty : {contexts : ContextLimits} (slots : SlotState) (numbers : Numbers) (next : ℕ) → slots.started ≡ true → IsSlots slots → slots.numbers ≡ numbers → HoldsNothing slots → IsSettled slots (held_nothing contexts numbers next)
settled_empty slots numbers next started sound are empty =
    let none : active_count slots.sessions ≡ 0 = omega (arith, empty) in
    record {
      objects = record { started = started; sound = sound; each = tt; owned = owned_nothing slots (omega (arith, empty)) };
      sessions = record {
        started = started;
        sound = sound;
        numbers = are;
        count = let none : Option sessions.Item = None in length-replicate 64 none;
        each = λ number. subst (λ (item : Option sessions.Item). IfSome item (λ item. sessions.ItemStands slots number item)) (sym (none_at 64 number)) tt;
        owned = λ number. omega (
          arith,
          flag_false (is_some (sessions.item_at no_items number)) (ap (λ (item : Option sessions.Item). is_some item) (none_at 64 number)),
          flag_false (is_active (place_at slots number)) (none_active slots.sessions number none),
        );
        next = λ some. absurd (true≢false (sym some ∙ none_saved 64));
        rise = tt;
      };
      gap = omega (arith, ap (gap_from slots.counter) (none_oldest slots.sessions none), flag_most (loaded_count slots.sessions == slots.numbers.loaded));
    }

-- ---- the start

stands_begun : {contexts : ContextLimits} (base : Option Persist) (old new : Option SlotState) (numbers : Numbers) (next : ℕ) → is_some old ≡ is_some new → IsAtBase base old → ClearedIf old new
    → IfSome old (λ slots. slots.numbers ≡ numbers) → StandsAfterIf base new [] [] (held_nothing contexts numbers next)
stands_begun base None new numbers next same at_base clears own b slots is_base is_state = absurd (let some : is_some new ≡ true = ap is_some is_state in cc)
stands_begun base (Some s) new numbers next same at_base clears own b slots is_base is_state =
    let (after, after_is, begun) = clears s refl in
    let is : after ≡ slots = some_same (sym after_is ∙ is_state) in
    let cleared : IsCleared s slots = subst (IsCleared s) is begun in
    let are : slots.numbers ≡ numbers = ap (λ (t : SlotState). t.numbers) cleared.kept ∙ own in
    record {
      legal = tt;
      stands = record {
        persist = ap (λ (t : SlotState). t.persist) cleared.kept ∙ at_base.kept b s is_base refl;
        most = refl;
        settled = settled_empty slots numbers next cleared.started cleared.sound are cleared.empty;
        clients = λ client. refl;
        sessions = sym (none_owned slots 64);
        left = refl;
        handed = record { of_objects = omega arith; of_sessions = omega arith };
        object_counter = omega (arith, ap (λ (t : SlotState). t.object_counter) cleared.kept, at_base.object_counter);
        counter = omega (arith, ap (λ (t : SlotState). t.counter) cleared.kept, at_base.counter);
      };
    }

nothing_held : {contexts : ContextLimits} (held : Held) (numbers : Numbers) (next : ℕ) → held.objects ≡ record { items = []; slots = numbers.slots; order = []; owners = []; left = []; contexts = contexts }
    → held.sessions ≡ record { numbers = numbers; items = no_items; next = next; order = []; saved = []; left = []; contexts = contexts } → held_nothing contexts numbers next ≡ held
nothing_held held numbers next objects sessions = λ i. record { objects = sym objects i; sessions = sym sessions i }

not_own : {client : ℕ} → ◌≡◌ {A = Option ℕ} None (Some client) → ⊥
not_own own = absurd cc

holds_nothing : {contexts : ContextLimits} (began : ℕ) (base : Option Persist) (old : Option SlotState) (new : Seen) (limit : ℕ) (numbers : Numbers) (next : ℕ)
    → is_some old ≡ is_some new.state → IsAtBase base old → ClearedIf old new.state → new.base ≡ base → began ≤ new.faults → IsRight contexts (asked_of new) (last_of new)
    → limit ≤ SILENT_LIMIT → AreInRange numbers → IfSome old (λ slots. slots.numbers ≡ numbers) → Holds contexts began new [] limit [] [] (held_nothing contexts numbers next) 0 None
holds_nothing {contexts = contexts} began base old new limit numbers next same at_base clears base_same risen right most range own = record {
  stands = subst (λ (b : Option Persist). StandsAfterIf b new.state [] [] (held_nothing contexts numbers next)) (sym base_same) (stands_begun base old new.state numbers next same at_base clears own);
  journal = record {
    counts = tt;
    whole = tt;
    below = tt;
    once = λ client. omega arith;
    opened_is = refl;
    present_is = refl;
    opens = omega arith;
    fewer = omega arith;
    limited = most;
    reserves = omega arith;
  };
  objects = λ none. record {
    each = record { closed = λ client _. refl; each = λ client. record { named = tt; apart = λ index. omega arith; all = λ index own. absurd (not_own own); few = omega arith; short = omega arith } };
    short = omega arith;
    listed = refl;
    lists_stand = record { own = λ client some. absurd (false≢true some); owned = λ list client own. absurd (not_own own) };
    owners = none_open 64;
    left_few = omega arith;
    counted = inl (omega (arith, risen, none_left 64));
  };
  answers = record { answer = tt; right = λ none. right; taken = λ told. refl };
  faulted = inl (omega (arith, risen));
  made_for = record { objects = refl; sessions = refl };
  slots_are = refl;
  range = range;
  few = omega arith;
  placed = omega arith;
}

pub holds_begun : {contexts : ContextLimits} (began : ℕ) (base : Option Persist) (old : Option SlotState) (new : Seen) (limit : ℕ) (held : Held) (numbers : Numbers)
    → is_some old ≡ is_some new.state → IsAtBase base old → ClearedIf old new.state → new.base ≡ base → began ≤ new.faults → IsRight contexts (asked_of new) (last_of new)
    → limit ≤ SILENT_LIMIT → AreInRange numbers → IfSome old (λ slots. slots.numbers ≡ numbers) → held.objects ≡ record { items = []; slots = numbers.slots; order = []; owners = []; left = []; contexts = contexts }
    → held.sessions ≡ record { numbers = numbers; items = no_items; next = 0; order = []; saved = []; left = []; contexts = contexts } → Holds contexts began new [] limit [] [] held 0 None
holds_begun {contexts = contexts} began base old new limit held numbers same at_base clears base_same risen right most range own objects sessions =
    subst (λ (h : Held). Holds contexts began new [] limit [] [] h 0 None) (nothing_held held numbers 0 objects sessions)
    (holds_nothing began base old new limit numbers 0 same at_base clears base_same risen right most range own)

-- what a start leaves, whatever came of it
pub attempted : {contexts : ContextLimits} {D : Type 0} (seen : D → Seen) (old new : D) → is_some (seen old).state ≡ is_some (seen old).base → is_some (seen new).state ≡ is_some (seen new).base → Attempts contexts seen old new
    → Keeps seen old new × HoldsNoMoreIf (seen old).state (seen new).state
attempted seen old new told told_new attempts =
    (record { base_is = attempts.base; tells = told_new ∙ ap is_some attempts.base ∙ sym told; count = attempts.count }, attempts.few)

pub limit_most : (limit : ℕ) → IsLimit limit → limit ≤ SILENT_LIMIT
limit_most limit (inl is) = omega (arith, is.1)
limit_most limit (inr is) = omega (arith, is)
