-- The sessions that a command names, and whose they are over what is done before it.
use Rattle.std.proofs.Common.{◌≡◌, ◌+◌, ◌<◌, ℕ, zero, suc, Bool, true, false, cond, List, [], ◌∷◌, ◌++◌, length, get_or, set, take, drop, refl, ap, sym, ◌∙◌, append_assoc}
use Rattle.std.proofs.lemmas.List.{drop_more, take_more_set}
use Rattle.std.specs.Prelude.{Option, Some, None, ◌==◌, is_some, not}
use Rattle.std.specs.List.{AllByRecursion, filter}
use Rattle.tab_spec.specs.Shape.{number_of_session}
use Rattle.session_swap.specs.Items as sessions
use Rattle.session_swap.specs.Items.{AreNamed, Item, is_user, item_at, item_of, owner_in, owner_of_item, with_handle}
use Rattle.client_machine.specs.Tables.{OwnedHandle, owned_handle, owned_handles, with_owner}

-- ---- the sessions among some handles

front_kept : (p : ℕ → Bool) (handles : List ℕ) (i : ℕ) (test : Bool) → i < length handles → p (get_or handles i 0) ≡ test
    → filter p (drop i handles) ≡ cond test (get_or handles i 0 ∷ filter p (drop (i + 1) handles)) (filter p (drop (i + 1) handles))
front_kept p handles i test inside is =
    ap (filter p) (drop_more handles i 0 inside)
    ∙ ap (λ (b : Bool). cond b (get_or handles i 0 ∷ filter p (drop (i + 1) handles)) (filter p (drop (i + 1) handles))) is

-- one more of them is a session's
pub handle_kept : (p : ℕ → Bool) (handles named : List ℕ) (i count : ℕ) → i < length handles → count < length named → p (get_or handles i 0) ≡ true
    → take count named ++ filter p (drop i handles) ≡ filter p handles
    → take (count + 1) (set named count (get_or handles i 0)) ++ filter p (drop (i + 1) handles) ≡ filter p handles
handle_kept p handles named i count inside room is whole =
    let rest = filter p (drop (i + 1) handles) in
    ap (λ (l : List ℕ). l ++ rest) (take_more_set named count (get_or handles i 0) room)
    ∙ append_assoc (take count named) (get_or handles i 0 ∷ []) rest
    ∙ ap (λ (l : List ℕ). take count named ++ l) (sym (front_kept p handles i true inside is)) ∙ whole

-- and one is not
pub handle_passed : (p : ℕ → Bool) (handles named : List ℕ) (i count : ℕ) → i < length handles → p (get_or handles i 0) ≡ false
    → take count named ++ filter p (drop i handles) ≡ filter p handles
    → take count named ++ filter p (drop (i + 1) handles) ≡ filter p handles
handle_passed p handles named i count inside is whole =
    ap (λ (l : List ℕ). take count named ++ l) (sym (front_kept p handles i false inside is)) ∙ whole

-- ---- whose a session is

abbrev owner_from : ℕ → Option OwnedHandle → Option (ℕ × Bool)
owner_from handle None = None
owner_from handle (Some owned) = cond (owned.1 == handle) (sessions.owner_by (not (is_some owned.2)) owned.0) None

owner_by : (handle own : ℕ) (client : Option ℕ) (handed : Option (List ℕ)) (test : Bool) → (own == handle) ≡ test
    → cond test (sessions.owner_by (not (is_some handed)) client) None ≡ owner_from handle (with_owner client own handed)
owner_by handle own None None true is = refl
owner_by handle own None None false is = refl
owner_by handle own None (Some context) test is = sym (ap (λ (b : Bool). cond b (sessions.owner_by false None) None) is)
owner_by handle own (Some client) handed test is = sym (ap (λ (b : Bool). cond b (sessions.owner_by (not (is_some handed)) (Some client)) None) is)

item_by : (item : Item) (test : Bool) → owner_of_item (cond test (Some item) None) ≡ cond test (owner_of_item (Some item)) None
item_by item true = refl
item_by item false = refl

owner_is : (handle : ℕ) (item : Option Item) → owner_of_item (with_handle handle item) ≡ owner_from handle (owned_handle item)
owner_is handle None = refl
owner_is handle (Some item) =
    item_by item (item.handle == handle) ∙ owner_by handle item.handle item.client item.handed (item.handle == handle) refl

handle_at : (items : List (Option Item)) (n : ℕ) → get_or (owned_handles items) n None ≡ owned_handle (item_at items n)
handle_at [] n = refl
handle_at (item ∷ items) zero = refl
handle_at (item ∷ items) (suc n) = handle_at items n

pub owner_kept : (items new_items : List (Option Item)) (handle : ℕ) → owned_handles new_items ≡ owned_handles items
    → owner_in new_items handle ≡ owner_in items handle
owner_kept items new_items handle same =
    let n = number_of_session handle in
    owner_is handle (item_at new_items n)
    ∙ ap (owner_from handle) (sym (handle_at new_items n) ∙ ap (λ (l : List (Option OwnedHandle)). get_or l n None) same ∙ handle_at items n)
    ∙ sym (owner_is handle (item_at items n))

user_there : (client : ℕ) (item : Option Item) → is_user client (owner_of_item item) ≡ true → is_some item ≡ true
user_there client None is = absurd cc
user_there client (Some item) is = refl

-- the sessions that a client uses are there
pub sessions_named : (client : ℕ) (needed : List ℕ) (items new_items : List (Option Item)) → owned_handles new_items ≡ owned_handles items
    → AllByRecursion (λ handle. is_user client (owner_in items handle) ≡ true) needed → AreNamed needed new_items
sessions_named client [] items new_items same own = tt
sessions_named client (handle ∷ needed) items new_items same own = (
  user_there client (item_of new_items handle) (ap (is_user client) (owner_kept items new_items handle same) ∙ own.0),
  sessions_named client needed items new_items same own.1,
)
