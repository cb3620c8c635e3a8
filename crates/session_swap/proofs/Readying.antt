-- The records and the lists of their sessions, after a session was used, saved or loaded.
use Rattle.std.proofs.Common.{◌≡◌, ◌<◌, ℕ, Bool, true, false, List, [], ◌∷◌, ◌++◌, length, take, drop, set, refl, ap, subst, sym, ◌∙◌, arith}
use Rattle.std.specs.Prelude.{◌==◌, Option, Some, None, is_some, slice_get, if◌then◌else◌, IfSome, Result, Ok, Err, OnOk, OnErr}
use Rattle.std.specs.List.{count_by}
use Rattle.std.proofs.lemmas.Bool.{eq-eqb}
use Rattle.std.proofs.lemmas.List.{append-nil}
use Rattle.std.proofs.lemmas.Option.{none-some, same_Some}
use Rattle.tab_spec.specs.declared.numbers.Numbers.{Numbers}
use Rattle.tab_spec.specs.declared.contexts.ContextLimits.{ContextLimits}
use Rattle.device_spec.specs.Slots.{SlotState}
use Rattle.device_port.specs.Use.{used_after, without_one}
use Rattle.session_swap.specs.declared.record.Record.{Record}
use Rattle.session_swap.specs.Items.{Item, Rise, is_loaded_item, is_saved_item, item_at, number_of_item, numbers_along, rest_of}
use Rattle.session_swap.specs.Moves.{NothingMoves, Ready, ReadyIn, RiseIn, Saves}
use Rattle.session_swap.specs.Records.{OrderView, items_of, order_freed, order_in, order_out, order_renewed, order_used, view_of}
use Rattle.session_swap.proofs.Uses.{used_gone}
use Rattle.session_swap.proofs.Among.{loaded_inside}
use Rattle.session_swap.proofs.Listing.{listed_again, listed_in, listed_out, listed_still, not_listed, unsaved_by}
use Rattle.session_swap.proofs.Rising.{number_under, rise_less, rise_saved, unsaved_none}

-- where the state is told before, and after
told_before : (state new_state : Option SlotState) (P Q : Type 0) → rest_of new_state ≡ rest_of state → (P → Q)
    → IfSome state (λ slots. P) → IfSome new_state (λ slots. Q)
told_before state None P Q rest f p = tt {0}
told_before None (Some new) P Q rest f p = absurd cc
told_before (Some slots) (Some new) P Q rest f p = f p

-- a loaded session is used
pub ready_used : {contexts : ContextLimits} {numbers : Numbers} (state : Option SlotState) (records : List Record) (next : ℕ) (order new_order : OrderView) (number : ℕ)
    → ReadyIn contexts state numbers records next order → is_loaded_item (item_at (items_of records) number) ≡ true → new_order ≡ order_used number order
    → ReadyIn contexts state numbers records next new_order
ready_used state records next order new_order number held there is = record {
  ready = held.ready;
  listed = listed_again records order new_order number held.listed there is;
  rise = subst (λ (o : OrderView). RiseIn state (items_of records) o.saved) (sym is) held.rise;
}

-- one is loaded
pub ready_in : {contexts : ContextLimits} {numbers : Numbers} (state new_state : Option SlotState) (records new_records : List Record) (next : ℕ) (order new_order : OrderView) (number : ℕ)
    → ReadyIn contexts state numbers records next order → Ready contexts new_state numbers new_records next [] → rest_of new_state ≡ rest_of state
    → length order.loaded < numbers.loaded → number < length records
    → items_of new_records ≡ set (items_of records) number (item_at (items_of new_records) number)
    → is_loaded_item (item_at (items_of new_records) number) ≡ true → new_order ≡ order_in number order
    → ReadyIn contexts new_state numbers new_records next new_order
ready_in state new_state records new_records next order new_order number held ready rest few fits items_are there is =
    let items = items_of records in
    let item = item_at (items_of new_records) number in
    record {
      ready = ready;
      listed = listed_in records new_records order new_order number item held.listed few fits items_are there is;
      rise = subst (λ (o : OrderView). RiseIn new_state (items_of new_records) o.saved) (sym is)
          (subst (λ (l : List (Option Item)). RiseIn new_state l (order_in number order).saved) (sym items_are)
          (told_before state new_state (Rise (numbers_along items order.saved))
          (Rise (numbers_along (set items number item) (order_in number order).saved)) rest
          (rise_less items number item order.saved (unsaved_none item (unsaved_by item there))) held.rise));
    }

rise_out : {contexts : ContextLimits} {numbers : Numbers} (state new_state : Option SlotState) (records : List Record) (next : ℕ) (order : OrderView) (number : ℕ) (item : Option Item)
    → ReadyIn contexts state numbers records next order → rest_of new_state ≡ rest_of state → number < length (items_of records)
    → is_saved_item (item_at (items_of records) number) ≡ false → IfSome state (λ slots. number_of_item item ≡ Some slots.counter)
    → RiseIn new_state (set (items_of records) number item) (order_out number order).saved
rise_out state None records next order number item held rest inside out is = tt {0}
rise_out None (Some new) records next order number item held rest inside out is = absurd cc
rise_out (Some slots) (Some new) records next order number item held rest inside out is =
    rise_saved (items_of records) number slots.counter item order.saved inside
    (not_listed is_saved_item refl (items_of records) order.saved number held.listed.saved out) is
    (number_under slots (view_of _ records next) [] held.ready.stand) held.rise

-- one is saved
pub ready_out : {contexts : ContextLimits} {numbers : Numbers} (state new_state : Option SlotState) (records new_records : List Record) (next new_next : ℕ) (order new_order : OrderView) (number : ℕ)
    → ReadyIn contexts state numbers records next order → Ready contexts new_state numbers new_records new_next [] → rest_of new_state ≡ rest_of state
    → is_loaded_item (item_at (items_of records) number) ≡ true → Saves state new_state (items_of records) (items_of new_records) number
    → new_order ≡ order_out number order → ReadyIn contexts new_state numbers new_records new_next new_order
ready_out state new_state records new_records next new_next order new_order number held ready rest there saves is =
    let items = items_of records in
    let item = item_at (items_of new_records) number in
    record {
      ready = ready;
      listed = listed_out records new_records order new_order number item held.listed there saves.items_are saves.saved_is is;
      rise = subst (λ (o : OrderView). RiseIn new_state (items_of new_records) o.saved) (sym is)
          (subst (λ (l : List (Option Item)). RiseIn new_state l (order_out number order).saved) (sym saves.items_are)
          (rise_out state new_state records next order number item held rest (loaded_inside items number there)
          (unsaved_by (item_at items number) there) saves.number_is));
    }

-- nothing moved
pub ready_still : {contexts : ContextLimits} {numbers : Numbers} (state new_state : Option SlotState) (records new_records : List Record) (next new_next : ℕ) (order new_order : OrderView)
    → ReadyIn contexts state numbers records next order → Ready contexts new_state numbers new_records new_next []
    → NothingMoves state new_state (items_of records) (items_of new_records) → new_order ≡ order → ReadyIn contexts new_state numbers new_records new_next new_order
ready_still state new_state records new_records next new_next order new_order held ready stays is = record {
  ready = ready;
  listed = listed_still records new_records order new_order stays.items_are is held.listed;
  rise = subst (λ (o : OrderView). RiseIn new_state (items_of new_records) o.saved) (sym is)
      (subst (λ (st : Option SlotState). RiseIn st (items_of new_records) order.saved) (sym stays.state_is)
      (subst (λ (l : List (Option Item)). RiseIn state l order.saved) (sym stays.items_are) held.rise));
}

-- a session was saved or not
pub ready_saved : {contexts : ContextLimits} {A E : Type 0} {numbers : Numbers} (result : Result A E) (state new_state : Option SlotState) (records new_records : List Record) (next new_next : ℕ)
    (order new_order : OrderView) (number : ℕ)
    → ReadyIn contexts state numbers records next order → Ready contexts new_state numbers new_records new_next [] → rest_of new_state ≡ rest_of state
    → is_loaded_item (item_at (items_of records) number) ≡ true
    → OnOk result (Saves state new_state (items_of records) (items_of new_records) number)
    → OnErr result (NothingMoves state new_state (items_of records) (items_of new_records))
    → OnOk result (new_order ≡ order_out number order) → OnErr result (new_order ≡ order) → ReadyIn contexts new_state numbers new_records new_next new_order
ready_saved (Ok a) state new_state records new_records next new_next order new_order number held ready rest there ok err out still =
    ready_out state new_state records new_records next new_next order new_order number held ready rest there ok out
ready_saved (Err e) state new_state records new_records next new_next order new_order number held ready rest there ok err out still =
    ready_still state new_state records new_records next new_next order new_order held ready err still

-- ---- the order, where a place is made free

pub some_first : (numbers : List ℕ) (first : Option ℕ) → first ≡ slice_get numbers 0 → 0 < length numbers → is_some first ≡ true
some_first [] first is some = absurd (omega (arith, some))
some_first (x ∷ xs) first is some = ap (λ (o : Option ℕ). is_some o) is

-- none is saved
pub order_none : (order : OrderView) (count : ℕ) → count ≡ 0 → order ≡ order_freed count order
order_none order count none =
    let loaded_is : order.loaded ≡ drop count order.loaded = ap (λ (n : ℕ). drop n order.loaded) (sym none) in
    let saved_is : order.saved ≡ order.saved ++ take count order.loaded =
    sym (append-nil order.saved) ∙ ap (λ (n : ℕ). order.saved ++ take n order.loaded) (sym none) in
    λ i. record { loaded = loaded_is i; saved = saved_is i }

first_out : (numbers : List ℕ) (number : ℕ) → slice_get numbers 0 ≡ Some number
    → (without_one number numbers ≡ drop 1 numbers) × (number ∷ [] ≡ take 1 numbers)
first_out [] number is = absurd (none-some number is)
first_out (x ∷ xs) number is =
    let same = same_Some x number is in
    (ap (λ (b : Bool). if b then xs else x ∷ without_one number xs) (eq-eqb x number same), ap (λ (n : ℕ). n ∷ []) (sym same))

-- the first one is
pub order_first : (order : OrderView) (number count : ℕ) → slice_get order.loaded 0 ≡ Some number → count ≡ 1
    → order_out number order ≡ order_freed count order
order_first order number count is one =
    let out = first_out order.loaded number is in
    let loaded_is = out.0 ∙ ap (λ (n : ℕ). drop n order.loaded) (sym one) in
    let saved_is = ap (λ (l : List ℕ). order.saved ++ l) out.1 ∙ ap (λ (n : ℕ). order.saved ++ take n order.loaded) (sym one) in
    λ i. record { loaded = loaded_is i; saved = saved_is i }

-- another one is loaded and saved then
pub order_again : (order mid brought last : OrderView) (count number : ℕ) → mid ≡ order_freed count order → brought ≡ order_in number mid
    → count_by (λ one. one == number) mid.loaded ≡ 0 → last ≡ order_out number brought → last ≡ order_renewed count number order
order_again order mid brought last count number freed comes none out =
    let loaded_is = used_gone number mid.loaded none ∙ ap (λ (o : OrderView). o.loaded) freed in
    let saved_is = ap (λ (o : OrderView). used_after o.saved number) freed in
    out ∙ ap (order_out number) comes ∙ (λ i. record { loaded = loaded_is i; saved = saved_is i })
