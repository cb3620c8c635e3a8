-- Sessions are saved, and loaded and saved again, one at a time: how many places are free, how far the oldest number is
-- below the next one, and what of the others stays.
use Rattle.std.proofs.Common.{◌≡◌, ◌≢◌, ◌+◌, ◌-◌, ◌<◌, ◌≤◌, inl, inr, ℕ, true, false, List, [], length, drop, set, refl, ap, subst, sym, ◌∙◌, arith}
use Rattle.std.specs.Prelude.{◌==◌, not, Result, Ok, Err, Option, Some, None, is_some, IfSome, IsSomeAnd, OnErr, OnOk}
use Rattle.std.proofs.lemmas.Bool.{false≢true, cases_lt, eq-eqb, eqb-false, ne_eqb, not-true}
use Rattle.std.proofs.lemmas.List.{get_or-set_other, set-get_or, length-drop}
use Rattle.std.proofs.lemmas.Option.{same_Some}
use Rattle.tab_spec.specs.declared.numbers.Numbers.{Numbers}
use Rattle.tab_spec.specs.Numbers.{AreInRange}
use Rattle.tab_spec.specs.declared.TheConstants.{CONTEXT_LIMIT}
use Rattle.tab_spec.specs.Shape.{number_of_session}
use Rattle.tab_spec.specs.declared.contexts.ContextLimits.{ContextLimits}
use Rattle.device_spec.specs.ContextCommands.{context_save_command}
use Rattle.device_spec.specs.Slots.{SlotState, gap_from, gap_of, loaded_count}
use Rattle.device_port.specs.Device.{Seen}
use Rattle.session_swap.specs.declared.TheConstants.{NEEDED_MOST}
use Rattle.session_swap.specs.declared.record.Record.{Record}
use Rattle.session_swap.specs.Items.{AreFree, AreKept, HasGapRoom, HasLastContext, HasNewContext, IsRenewed, IsSentOut, Item, Lists, Names, Saved, SessionsView, counter_of, full_flag, full_kept, gap_in, holders, is_loaded_item, is_saved_item, item_at, item_of, loaded_items, number_of_item, oldest_number, renewal_gap, rest_of, saved_items, saved_number}
use Rattle.session_swap.specs.Records.{items_of, view_of}
use Rattle.session_swap.specs.Moves.{Loads, MaySaveIf, Ready, Saves, Swaps}
use Rattle.session_swap.proofs.Counts.{count_set, flag_false, flag_most, flag_true}
use Rattle.session_swap.proofs.Among.{loaded_inside, named_again, named_is, not_loaded, saved_inside}
use Rattle.session_swap.proofs.Gaps.{IsLeast, gap_falls, items_least, least_same, least_stays}
use Rattle.session_swap.proofs.Moved.{has_item}
use Rattle.session_swap.proofs.Told.{loaded_told, numbers_kept, places_told}
use Rattle.session_swap.proofs.Oldest.{has_last, number_below, number_once, oldest_told}

-- what holds after a call that was answered, and after one that failed
pub either_way : {T E P Q R : Type 0} (r : Result T E) → OnOk r P → OnErr r Q → (P → R) → (Q → R) → R
either_way (Ok x) one two left right = left one
either_way (Err e) one two left right = right two

-- what holds of every state
pub told_all : (state : Option SlotState) (P : SlotState → Type 0) → ((slots : SlotState) → P slots) → IfSome state P
told_all None P all = tt
told_all (Some slots) P all = all slots

-- ---- one item

not_saved : (item : Option Item) → is_loaded_item item ≡ true → is_saved_item item ≡ false
not_saved None is = refl
not_saved (Some item) is = not-true (is_some item.saved) is

unsaved_number : (last : Option Saved) → not (is_some last) ≡ true → saved_number last ≡ None
unsaved_number None is = refl
unsaved_number (Some last) is = absurd cc

loaded_number : (item : Option Item) → is_loaded_item item ≡ true → number_of_item item ≡ None
loaded_number None is = refl
loaded_number (Some item) is = unsaved_number item.saved is

-- ---- the others

pub stays : (items new_items : List (Option Item)) (number other : ℕ) → new_items ≡ set items number (item_at new_items number) → other ≢ number
    → item_at new_items other ≡ item_at items other
stays items new_items number other items_are apart =
    ap (λ (l : List (Option Item)). item_at l other) items_are ∙ get_or-set_other items number other (item_at new_items number) None apart

-- where a loaded session changes, each saved one stays
pub saved_stays : (items new_items : List (Option Item)) (number other : ℕ) → is_loaded_item (item_at items number) ≡ true
    → new_items ≡ set items number (item_at new_items number) → is_saved_item (item_at items other) ≡ true
    → item_at new_items other ≡ item_at items other
saved_stays items new_items number other is items_are saved =
    stays items new_items number other items_are
    (λ same. false≢true (sym (not_saved (item_at items number) is) ∙ ap (λ (n : ℕ). is_saved_item (item_at items n)) (sym same) ∙ saved))

-- ---- how many

pub record OneOut (items new_items : List (Option Item)) : Type 0 where
  pub loaded : loaded_items new_items + 1 ≡ loaded_items items
  pub saved : saved_items new_items ≡ saved_items items + 1

pub one_out : (items new_items : List (Option Item)) (number : ℕ) → is_loaded_item (item_at items number) ≡ true
    → is_saved_item (item_at new_items number) ≡ true → new_items ≡ set items number (item_at new_items number) → OneOut items new_items
one_out items new_items number is saved items_are =
    let this = item_at new_items number in
    let inside = loaded_inside items number is in
    record {
      loaded = omega (
        arith,
        ap loaded_items items_are,
        count_set is_loaded_item items number this None inside,
        flag_true (is_loaded_item (item_at items number)) is,
        flag_false (is_loaded_item this) (not_loaded this saved),
      );
      saved = omega (
        arith,
        ap saved_items items_are,
        count_set is_saved_item items number this None inside,
        flag_false (is_saved_item (item_at items number)) (not_saved (item_at items number) is),
        flag_true (is_saved_item this) saved,
      );
    }

pub one_in : (items new_items : List (Option Item)) (number : ℕ) → is_saved_item (item_at items number) ≡ true
    → is_loaded_item (item_at new_items number) ≡ true → new_items ≡ set items number (item_at new_items number)
    → saved_items new_items + 1 ≡ saved_items items
one_in items new_items number is loaded items_are =
    let this = item_at new_items number in
    omega (
      arith,
      ap saved_items items_are,
      count_set is_saved_item items number this None (saved_inside items number is),
      flag_true (is_saved_item (item_at items number)) is,
      flag_false (is_saved_item this) (not_saved this loaded),
    )

-- ---- a move, over the states before and after it

pub record Moved (contexts : ContextLimits) (numbers : Numbers) (state new_state : Option SlotState) (records : List Record) (next : ℕ) (new_records : List Record) (new_next : ℕ) : Type 0 where
  pub ready : Ready contexts state numbers records next []
  pub new_ready : Ready contexts new_state numbers new_records new_next []
  pub rest : rest_of new_state ≡ rest_of state
  pub gap : gap_in new_state + counter_of state ≤ gap_in state + counter_of new_state

pub moved : {contexts : ContextLimits} {D : Type 0} {numbers : Numbers} {seen : D → Seen} {old new : D} {records : List Record} {next : ℕ}
    {new_records : List Record} {new_next : ℕ} → Ready contexts (seen old).state numbers records next []
    → Ready contexts (seen new).state numbers new_records new_next [] → Swaps seen old new records new_records
    → Moved contexts numbers (seen old).state (seen new).state records next new_records new_next
moved ready new_ready swaps = record { ready = ready; new_ready = new_ready; rest = swaps.rest; gap = swaps.gap }

-- ---- places and gaps

-- the gap leaves room for one context more
abbrev pub FitsOne : Option SlotState → Type 0
FitsOne state = IfSome state (λ slots. gap_of slots < renewal_gap slots.numbers + NEEDED_MOST)

pub fits_room : (state : Option SlotState) → FitsOne state → HasGapRoom state
fits_room None fits = tt
fits_room (Some slots) fits = omega (arith, fits, flag_most (loaded_count slots.sessions == slots.numbers.loaded))

-- so that a session can be saved
pub can_number : {contexts : ContextLimits} {numbers : Numbers} (state : Option SlotState) (records : List Record) (next : ℕ) (others : List ℕ)
    → Ready contexts state numbers records next others → FitsOne state → counter_of state < CONTEXT_LIMIT → MaySaveIf state
can_number None records next others ready fits below = tt
can_number (Some slots) records next others ready fits below =
    record { below = below; narrow = omega (arith, fits, ready.stand.sound.range.gap_least) }

pub some_free : {contexts : ContextLimits} {numbers : Numbers} (state : Option SlotState) (records : List Record) (next : ℕ) → Ready contexts state numbers records next []
    → loaded_items (items_of records) < numbers.loaded → AreFree state 1
some_free None records next ready few = tt
some_free (Some slots) records next ready few = omega (arith, few, loaded_told slots (view_of _ records next) ready.stand, places_told slots (view_of _ records next) [] ready.stand)

-- where all places are taken, a device that has a free one doesn't tell
pub none_free : {contexts : ContextLimits} {numbers : Numbers} (state new_state : Option SlotState) (records : List Record) (next : ℕ) → Ready contexts state numbers records next []
    → numbers.loaded ≤ loaded_items (items_of records) → rest_of new_state ≡ rest_of state → AreFree state 1
    → counter_of new_state ≡ counter_of state
none_free None None records next ready full rest free = refl
none_free None (Some new) records next ready full rest free = absurd cc
none_free (Some slots) new_state records next ready full rest free =
    absurd (omega (
      arith,
      full,
      free,
      loaded_told slots (view_of _ records next) ready.stand,
      places_told slots (view_of _ records next) [] ready.stand,
    ))

-- where all places are taken
pub full_fits : {contexts : ContextLimits} (numbers : Numbers) (state : Option SlotState) (records : List Record) (next : ℕ) → Ready contexts state numbers records next [] → HasGapRoom state
    → numbers.loaded ≤ loaded_items (items_of records) → FitsOne state
full_fits numbers None records next ready room full = tt
full_fits numbers (Some slots) records next ready room full =
    let view = view_of numbers records next in
    let all : loaded_count slots.sessions ≡ slots.numbers.loaded =
    omega (arith, full, loaded_told slots view ready.stand, places_told slots view [] ready.stand, ready.stand.sound.loaded) in
    omega (
      arith,
      room,
      flag_true (loaded_count slots.sessions == slots.numbers.loaded) (eq-eqb (loaded_count slots.sessions) slots.numbers.loaded all),
    )

-- ---- a session is saved

-- a place is free, and the gap has grown by one at most
pub record Freed (state : Option SlotState) : Type 0 where
  pub free : AreFree state 1
  pub room : HasGapRoom state

pub freed : (state new_state : Option SlotState) (items new_items : List (Option Item)) (number : ℕ) → rest_of new_state ≡ rest_of state
    → gap_in new_state + counter_of state ≤ gap_in state + counter_of new_state → FitsOne state
    → Saves state new_state items new_items number → Freed new_state
freed state None items new_items number rest gap fits saves = record { free = tt; room = tt }
freed None (Some new) items new_items number rest gap fits saves = absurd (let wrong = rest in cc)
freed (Some slots) (Some new) items new_items number rest gap fits saves =
    let apart = ne_eqb (loaded_count new.sessions) new.numbers.loaded (λ same. absurd (omega (arith, saves.free))) in
    record {
      free = saves.free;
      room = omega (
        arith,
        gap,
        fits,
        saves.counted,
        flag_false (loaded_count new.sessions == new.numbers.loaded) apart,
        ap renewal_gap (numbers_kept slots new rest),
      );
    }

-- whether all places are taken
pub not_full : {contexts : ContextLimits} (numbers : Numbers) (state : Option SlotState) (records : List Record) (next : ℕ) → Ready contexts state numbers records next []
    → loaded_items (items_of records) < numbers.loaded → full_flag state ≡ 0
not_full numbers None records next ready few = refl
not_full numbers (Some slots) records next ready few =
    let view = view_of numbers records next in
    flag_false (loaded_count slots.sessions == slots.numbers.loaded)
    (ne_eqb (loaded_count slots.sessions) slots.numbers.loaded
    (λ same. absurd (omega (arith, few, same, loaded_told slots view ready.stand, places_told slots view [] ready.stand))))

-- the same by what is kept
pub kept_full : (view : SessionsView) → loaded_items view.items ≡ view.numbers.loaded → full_kept view ≡ 1
kept_full view all = flag_true (loaded_items view.items == view.numbers.loaded) (eq-eqb (loaded_items view.items) view.numbers.loaded all)

pub kept_free : (view : SessionsView) → loaded_items view.items < view.numbers.loaded → full_kept view ≡ 0
kept_free view few =
    flag_false (loaded_items view.items == view.numbers.loaded)
    (ne_eqb (loaded_items view.items) view.numbers.loaded (λ same. absurd (omega (arith, few, same))))

-- so that one more fits in the list of the loaded sessions, where the first one left it in that case
pub one_left : (view : SessionsView) (listed new_listed : List ℕ) → AreInRange view.numbers → Lists listed view.items
    → length listed ≤ view.numbers.loaded → new_listed ≡ drop (full_kept view) listed → length new_listed < view.numbers.loaded
one_left view listed new_listed range lists most is =
    let long : length new_listed ≡ length listed - full_kept view = ap length is ∙ length-drop (full_kept view) listed in
    elim (cases_lt (loaded_items view.items) view.numbers.loaded) [
      | inl few ↦ omega (arith, long, few, lists.count, kept_free view few)
      | inr full ↦ omega (
        arith,
        long,
        most,
        lists.count,
        range.loaded_least,
        kept_full view (omega (arith, full, most, lists.count)),
      )
    ]

-- then the session that is saved takes one number
pub one_taken : {contexts : ContextLimits} (numbers : Numbers) (state new_state : Option SlotState) (records : List Record) (next : ℕ) (new_items : List (Option Item)) (number : ℕ)
    → Ready contexts state numbers records next [] → numbers.loaded ≤ loaded_items (items_of records) → rest_of new_state ≡ rest_of state
    → Saves state new_state (items_of records) new_items number → counter_of new_state ≡ counter_of state + full_flag state
one_taken numbers None None records next new_items number ready full rest saves = refl
one_taken numbers None (Some new) records next new_items number ready full rest saves = absurd cc
one_taken numbers (Some slots) new_state records next new_items number ready full rest saves =
    let view = view_of numbers records next in
    let all : loaded_count slots.sessions ≡ slots.numbers.loaded =
    omega (arith, full, loaded_told slots view ready.stand, places_told slots view [] ready.stand, ready.stand.sound.loaded) in
    omega (
      arith,
      saves.counted,
      flag_true (loaded_count slots.sessions == slots.numbers.loaded) (eq-eqb (loaded_count slots.sessions) slots.numbers.loaded all),
    )

-- and one more where the renewed session is saved again
pub once_more : (state new_state : Option SlotState) (items new_items : List (Option Item)) (number before : ℕ) → rest_of new_state ≡ rest_of state
    → Saves state new_state items new_items number → counter_of state ≡ before → IfSome new_state (λ slots. slots.counter ≡ before + 1)
once_more state None items new_items number before rest saves is = tt
once_more None (Some new) items new_items number before rest saves is = absurd (let wrong = rest in cc)
once_more (Some slots) (Some new) items new_items number before rest saves is = omega (arith, saves.counted, is)

-- the number of the next context
pub counter_saved : (state new_state : Option SlotState) (items new_items : List (Option Item)) (number : ℕ) → rest_of new_state ≡ rest_of state
    → Saves state new_state items new_items number → (counter_of state ≤ counter_of new_state) × (counter_of new_state ≤ counter_of state + 1)
counter_saved None None items new_items number rest saves = (omega arith, omega arith)
counter_saved None (Some new) items new_items number rest saves = absurd cc
counter_saved (Some slots) new_state items new_items number rest saves = (omega (arith, saves.counted), omega (arith, saves.counted))

-- the oldest number stays
pub oldest_stays : {contexts : ContextLimits} {numbers : Numbers} (state new_state : Option SlotState) (records : List Record) (next : ℕ) (new_items : List (Option Item)) (number : ℕ)
    → Ready contexts state numbers records next [] → is_loaded_item (item_at (items_of records) number) ≡ true → Saves state new_state (items_of records) new_items number
    → IfSome state (λ slots. (n : ℕ) → oldest_number (items_of records) ≡ Some n → oldest_number new_items ≡ Some n)
oldest_stays None new_state records next new_items number ready is saves = tt
oldest_stays (Some slots) new_state records next new_items number ready is saves = λ n oldest.
    let items = items_of records in
    let f = λ (i : ℕ). number_of_item (item_at items i) in
    let g = λ (i : ℕ). number_of_item (item_at new_items i) in
    let least = subst (λ (o : Option ℕ). IsLeast f o) oldest (items_least items) in
    least_same g g (oldest_number new_items) (Some n) (λ i. refl) (items_least new_items)
    (least_stays f g number slots.counter n (loaded_number (item_at items number) is) saves.number_is
    (λ other apart. ap number_of_item (stays items new_items number other saves.items_are apart))
    (number_below slots (view_of _ records next) ready.stand) least)

-- a context with a lower number is another session's, which has it already
pub fresh_saved : (state new_state : Option SlotState) (items new_items : List (Option Item)) (number : ℕ) → Saves state new_state items new_items number
    → (other last : ℕ) → number_of_item (item_at new_items other) ≡ Some last → last < counter_of state
    → (other ≢ number) × (number_of_item (item_at items other) ≡ Some last)
fresh_saved None new_state items new_items number saves other last is below = absurd (omega arith)
fresh_saved (Some slots) new_state items new_items number saves other last is below =
    let apart : other ≢ number = λ same.
    let this = sym saves.number_is ∙ ap (λ (n : ℕ). number_of_item (item_at new_items n)) (sym same) ∙ is in
    absurd (omega (arith, same_Some slots.counter last this)) in
    (apart, sym (ap number_of_item (stays items new_items number other saves.items_are apart)) ∙ is)

-- ---- the oldest session is loaded

pub oldest_still : (state new_state : Option SlotState) (oldest new_oldest : Option ℕ) (n : ℕ) → rest_of new_state ≡ rest_of state
    → IfSome state (λ slots. (n : ℕ) → oldest ≡ Some n → new_oldest ≡ Some n) → IfSome state (λ slots. oldest ≡ Some n)
    → IfSome new_state (λ slots. new_oldest ≡ Some n)
oldest_still state None oldest new_oldest n rest same is = tt
oldest_still None (Some new) oldest new_oldest n rest same is = absurd cc
oldest_still (Some slots) (Some new) oldest new_oldest n rest same is = same n is

-- the gap gets smaller
pub gap_left : {contexts : ContextLimits} (numbers : Numbers) (state new_state : Option SlotState) (records : List Record) (next : ℕ) (new_records : List Record) (new_next number n : ℕ)
    → Moved contexts numbers state new_state records next new_records new_next → Loads state new_state (items_of records) (items_of new_records) number
    → number_of_item (item_at (items_of records) number) ≡ Some n → IfSome state (λ slots. oldest_number (items_of records) ≡ Some n)
    → HasGapRoom state → FitsOne new_state
gap_left numbers state None records next new_records new_next number n moved loads is oldest room = tt
gap_left numbers None (Some new) records next new_records new_next number n moved loads is oldest room = absurd (let rest = moved.rest in cc)
gap_left numbers (Some slots) (Some new) records next new_records new_next number n moved loads is oldest room =
    let items = items_of records in
    let new_items = items_of new_records in
    let view = view_of numbers records next in
    let f = λ (i : ℕ). number_of_item (item_at items i) in
    let g = λ (i : ℕ). number_of_item (item_at new_items i) in
    let least = subst (λ (o : Option ℕ). IsLeast f o) oldest (items_least items) in
    let same : new.counter ≡ slots.counter = loads.counted in
    let below = number_below slots view moved.ready.stand number n is in
    let falls = gap_falls f g number n new.counter (oldest_number new_items) least (items_least new_items)
    (loaded_number (item_at new_items number) loads.loaded_is)
    (λ other apart. ap number_of_item (stays items new_items number other loads.items_are apart))
    (λ other at. number_once slots view moved.ready.stand number other n is at) (omega arith) in
    let was : gap_of slots ≡ slots.counter - n = ap (gap_from slots.counter) (oldest_told slots view moved.ready.stand ∙ oldest) in
    let is_now : gap_of new ≡ gap_from new.counter (oldest_number new_items) =
    ap (gap_from new.counter) (oldest_told new (view_of numbers new_records new_next) moved.new_ready.stand) in
    omega (arith, falls, room, was, is_now, ap renewal_gap (numbers_kept slots new moved.rest))

-- so that one context more fits in again
oldest_had : (state : Option SlotState) (items : List (Option Item)) (number n : ℕ)
    → IfSome state (λ slots. number_of_item (item_at items number) ≡ oldest_number items) → number_of_item (item_at items number) ≡ Some n
    → IfSome state (λ slots. oldest_number items ≡ Some n)
oldest_had None items number n oldest is = tt {0}
oldest_had (Some slots) items number n oldest is = sym oldest ∙ is

pub brought_fits : {contexts : ContextLimits} {numbers : Numbers} (start state new_state : Option SlotState) (items : List (Option Item)) (records : List Record) (next : ℕ) (new_records : List Record)
    (new_next number : ℕ) → is_saved_item (item_at items number) ≡ true
    → IfSome start (λ slots. number_of_item (item_at items number) ≡ oldest_number items)
    → rest_of state ≡ rest_of start → item_at (items_of records) number ≡ item_at items number
    → IfSome start (λ slots. (n : ℕ) → oldest_number items ≡ Some n → oldest_number (items_of records) ≡ Some n)
    → Moved contexts numbers state new_state records next new_records new_next → Loads state new_state (items_of records) (items_of new_records) number
    → HasGapRoom state → FitsOne new_state
brought_fits start state new_state items records next new_records new_next number saved oldest rest same still moved loads room =
    let had = has_last (item_at items number) saved in
    gap_left _ state new_state records next new_records new_next number had.0 moved loads (ap number_of_item same ∙ had.1)
    (oldest_still start state (oldest_number items) (oldest_number (items_of records)) had.0 rest still
    (oldest_had start items number had.0 oldest had.1)) room

-- ---- the session is saved again

pub renewed : (state new_state : Option SlotState) (items new_items : List (Option Item)) (number : ℕ) → rest_of new_state ≡ rest_of state
    → Saves state new_state items new_items number → IfSome new_state (λ slots. IsRenewed slots new_items number)
renewed state None items new_items number rest saves = tt
renewed None (Some new) items new_items number rest saves = absurd cc
renewed (Some slots) (Some new) items new_items number rest saves = record {
  last = slots.counter;
  number_is = saves.number_is;
  latest = sym saves.counted;
}

-- and the others stay
pub others_kept : (items freed_items brought_items new_items : List (Option Item)) (number : ℕ)
    → ((other : ℕ) → is_saved_item (item_at items other) ≡ true → item_at freed_items other ≡ item_at items other)
    → brought_items ≡ set freed_items number (item_at brought_items number) → new_items ≡ set brought_items number (item_at new_items number)
    → AreKept number items new_items
others_kept items freed_items brought_items new_items number others loads saves = λ other apart saved.
    let there = eqb-false other number apart in
    stays brought_items new_items number other saves there ∙ stays freed_items brought_items number other loads there ∙ others other saved

-- a list in which nothing changed is the same with one item set again
pub same_set : (items new_items : List (Option Item)) (number : ℕ) → new_items ≡ items → new_items ≡ set items number (item_at new_items number)
same_set items new_items number same =
    same ∙ sym (set-get_or items number None) ∙ ap (λ (list : List (Option Item)). set items number (item_at list number)) (sym same)

pub fresh_again : (start state loaded_state new_state : Option SlotState) (items freed_items brought_items new_items : List (Option Item)) (number : ℕ)
    → ((other last : ℕ) → number_of_item (item_at freed_items other) ≡ Some last → last < counter_of start → number_of_item (item_at items other) ≡ Some last)
    → counter_of start ≤ counter_of state → counter_of loaded_state ≡ counter_of state
    → brought_items ≡ set freed_items number (item_at brought_items number) → Saves loaded_state new_state brought_items new_items number
    → HasNewContext (counter_of start) items new_items number
fresh_again start state loaded_state new_state items freed_items brought_items new_items number fresh rises same loads saves =
    let kept = λ (other last : ℕ) (is : number_of_item (item_at new_items other) ≡ Some last) (below : last < counter_of start).
    fresh_saved loaded_state new_state brought_items new_items number saves other last is (omega arith) in
    record {
      later = λ last is. elim (cases_lt last (counter_of start)) [
        | inl below ↦ absurd ((kept number last is below).0 refl)
        | inr more ↦ more
      ];
      lower = λ other last is below.
          let was = kept other last is below in
          fresh other last (sym (ap number_of_item (stays freed_items brought_items number other loads was.0)) ∙ was.1) below;
    }

-- ---- what was sent last

-- a handle that named the session still names it, now with its new context
pub sent_named : (items new_items : List (Option Item)) (handle : ℕ) (asked : List ℕ) (last : Option (List ℕ)) → Names items handle
    → holders new_items ≡ holders items → IsSomeAnd (item_at new_items (number_of_session handle)) (λ item. IsSentOut asked last item)
    → (asked ≡ context_save_command handle) × IsSomeAnd (item_of new_items handle) (λ item. HasLastContext last item)
sent_named items new_items handle asked last names same sent =
    let named = named_again items new_items handle same names in
    let has = has_item new_items handle named in
    let is : IsSentOut asked last has.item = subst (λ (item : Option Item). IsSomeAnd item (λ item. IsSentOut asked last item)) has.was sent in (
      is.asked_is ∙ ap context_save_command has.handle_is,
      subst (λ (item : Option Item). IsSomeAnd item (λ item. HasLastContext last item)) (sym (named_is new_items handle named ∙ has.was)) is.context,
    )
