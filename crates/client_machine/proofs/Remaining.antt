-- What becomes of each session while a client is closed: it remains, or it was flushed.
use Rattle.std.proofs.Common.{◌≡◌, ◌≤◌, ◌<◌, ◌+◌, inl, inr, ℕ, zero, suc, Bool, true, false, List, [], ◌∷◌, ◌++◌, length, set, refl, ap, sym, ◌∙◌, subst, arith}
use Rattle.std.specs.Prelude.{◌==◌, ◌&&◌, not, Option, Some, None, is_some, if◌then◌else◌}
use Rattle.std.specs.List.{Any}
use Rattle.std.proofs.lemmas.Bool.{cases_eq, cases_lt, eqb-true}
use Rattle.std.proofs.lemmas.List.{get_or-set_other, get_or-set_same}
use Rattle.tab_spec.specs.Shape.{number_of_session}
use Rattle.tab_spec.specs.declared.contexts.ContextLimits.{ContextLimits}
use Rattle.device_port.specs.Device.{Transmission}
use Rattle.session_swap.specs.Items.{Item, Names, disowned, is_left, item_at, left_behind, with_handle}
use Rattle.session_swap.proofs.Among.{named_inside}
use Rattle.client_machine.specs.Dropping.{LeavesThem, Remains, RemainsOrFlushed, WasFlushedBy}

-- ---- one of a longer list

any_cons : {X : Type 0} (P : X → Type 0) (y : X) (ys : List X) → Any P ys → Any P (y ∷ ys)
any_cons P y ys some = (suc some.0, some.1, omega (arith, some.2), some.3, some.4)

any_later : {X : Type 0} (P : X → Type 0) (later earlier : List X) → Any P earlier
    → Any P (later ++ earlier)
any_later P [] earlier some = some
any_later P (y ∷ later) earlier some =
    any_cons P y (later ++ earlier) (any_later P later earlier some)

any_earlier : {X : Type 0} (P : X → Type 0) (later earlier : List X) → Any P later
    → Any P (later ++ earlier)
any_earlier P [] earlier (k, x, inside, is, holds) = absurd (omega (arith, inside))
any_earlier P (y ∷ later) earlier (zero, x, inside, is, holds) = (zero, x, omega arith, is, holds)
any_earlier P (y ∷ later) earlier (suc k, x, inside, is, holds) =
    any_cons P y (later ++ earlier)
    (any_earlier P later earlier (k, x, omega (arith, inside), is, holds))

-- ---- one session

pub remains_same : (contexts : ContextLimits) (sent : List Transmission) (item : Option Item)
    → RemainsOrFlushed contexts sent item item
remains_same contexts sent None = refl
remains_same contexts sent (Some item) =
    record { handle = refl; saved = refl; handed = λ some. refl }

pub remains_then : (contexts : ContextLimits) (later earlier : List Transmission)
    (item between new : Option Item)
    → RemainsOrFlushed contexts earlier item between → RemainsOrFlushed contexts later between new
    → RemainsOrFlushed contexts (later ++ earlier) item new
remains_then contexts later earlier None None new first second = second
remains_then contexts later earlier None (Some between) new first second = absurd cc
remains_then contexts later earlier (Some item) None None first second =
    any_later _ later earlier first
remains_then contexts later earlier (Some item) None (Some new) first second = absurd cc
remains_then contexts later earlier (Some item) (Some between) None first second =
    subst (λ (handle : ℕ). WasFlushedBy contexts (later ++ earlier) handle) first.handle
    (any_earlier _ later earlier second)
remains_then contexts later earlier (Some item) (Some between) (Some new) first second = record {
  handle = second.handle ∙ first.handle;
  saved = second.saved ∙ first.saved;
  handed = λ some.
      let same = second.handed some in
      same ∙ first.handed (ap (λ (handed : Option (List ℕ)). is_some handed) (sym same) ∙ some);
}

pub orphan_remains : (contexts : ContextLimits) (sent : List Transmission) (item : Option Item)
    → RemainsOrFlushed contexts sent item (disowned item)
orphan_remains contexts sent None = refl
orphan_remains contexts sent (Some item) =
    record { handle = refl; saved = refl; handed = λ some. absurd cc }

pub behind_remains : (contexts : ContextLimits) (sent : List Transmission) (item : Option Item)
    → RemainsOrFlushed contexts sent item (left_behind item)
behind_remains contexts sent None = refl
behind_remains contexts sent (Some item) =
    record { handle = refl; saved = refl; handed = λ some. refl }

-- ---- one of all

-- one is changed so, and the others stay
by_number : (P : Option Item → Option Item → Type 0) (items : List (Option Item)) (n number : ℕ)
    (new : Option Item) → n < length items
    → P (item_at items n) new → P (item_at items number) (item_at items number)
    → P (item_at items number) (item_at (set items n new) number)
by_number P items n number new inside changed same =
    elim (cases_eq number n) [
      | inl is ↦ subst (λ (m : ℕ). P (item_at items m) (item_at (set items n new) m)) (sym is)
          (subst (P (item_at items n)) (sym (get_or-set_same items n new None inside)) changed)
      | inr apart ↦ subst (P (item_at items number))
          (sym (get_or-set_other items n number new None apart)) same
    ]

-- one past the end changes nothing
past_end : (items : List (Option Item)) (n number : ℕ) (new : Option Item) → length items ≤ n
    → item_at (set items n new) number ≡ item_at items number
past_end [] n number new past = refl
past_end (item ∷ items) zero number new past = absurd (omega (arith, past))
past_end (item ∷ items) (suc n) zero new past = refl
past_end (item ∷ items) (suc n) (suc number) new past =
    past_end items n number new (omega (arith, past))

pub one_altered : (contexts : ContextLimits) (sent : List Transmission)
    (change : Option Item → Option Item)
    → ((item : Option Item) → RemainsOrFlushed contexts sent item (change item))
    → (items : List (Option Item)) (n number : ℕ)
    → RemainsOrFlushed contexts sent (item_at items number)
    (item_at (set items n (change (item_at items n))) number)
one_altered contexts sent change remains items n number =
    let new = change (item_at items n) in
    elim (cases_lt n (length items)) [
      | inl inside ↦ by_number (RemainsOrFlushed contexts sent) items n number new inside
          (remains (item_at items n))
          (remains_same contexts sent (item_at items number))
      | inr past ↦ subst (RemainsOrFlushed contexts sent (item_at items number))
          (sym (past_end items n number new past))
          (remains_same contexts sent (item_at items number))
    ]

handle_by : (item : Item) (handle : ℕ) (same : Bool) → (item.handle == handle) ≡ same
    → is_some (if same then Some item else None) ≡ true
    → item.handle ≡ handle
handle_by item handle true is names = eqb-true item.handle handle is
handle_by item handle false is names = absurd cc

-- the session of a handle that names it is gone, and was flushed
handle_named : (contexts : ContextLimits) (sent : List Transmission) (handle : ℕ)
    (item : Option Item)
    → is_some (with_handle handle item) ≡ true → WasFlushedBy contexts sent handle
    → RemainsOrFlushed contexts sent item None
handle_named contexts sent handle None names flushed = refl
handle_named contexts sent handle (Some item) names flushed =
    subst (λ (h : ℕ). WasFlushedBy contexts sent h)
    (sym (handle_by item handle (item.handle == handle) refl names)) flushed

pub one_gone : (contexts : ContextLimits) (sent : List Transmission) (items : List (Option Item))
    (handle : ℕ) → Names items handle
    → WasFlushedBy contexts sent handle → (number : ℕ)
    → RemainsOrFlushed contexts sent (item_at items number)
    (item_at (set items (number_of_session handle) None) number)
one_gone contexts sent items handle names flushed number =
    by_number (RemainsOrFlushed contexts sent) items (number_of_session handle) number None
    (named_inside items handle names)
    (handle_named contexts sent handle (item_at items (number_of_session handle)) names flushed)
    (remains_same contexts sent (item_at items number))

-- ---- those that are left

left_parts : (client : Option ℕ) (handed : Option (List ℕ))
    → (not (is_some client) && is_some handed) ≡ true
    → (client ≡ None) × (is_some handed ≡ true)
left_parts None handed left = (refl, left)
left_parts (Some client) handed left = absurd cc

left_one : (contexts : ContextLimits) (sent : List Transmission) (item new : Option Item)
    → RemainsOrFlushed contexts sent item new → is_left new ≡ true
    → new ≡ left_behind item
left_one contexts sent item None remains left = absurd cc
left_one contexts sent None (Some new) remains left = absurd cc
left_one contexts sent (Some item) (Some new) remains left =
    let parts = left_parts new.client new.handed left in
    λ i. Some (record {
      client = parts.0 i;
      handle = remains.handle i;
      saved = remains.saved i;
      handed = remains.handed parts.1 i;
    })

pub leaves_them : (contexts : ContextLimits) (sent : List Transmission)
    (items new_items : List (Option Item))
    → ((number : ℕ)
    → RemainsOrFlushed contexts sent (item_at items number) (item_at new_items number))
    → LeavesThem items new_items
leaves_them contexts sent items new_items remains number left =
    left_one contexts sent (item_at items number) (item_at new_items number) (remains number) left
