-- How many sessions there are, and how many of them clients have, or left, where one changes.
use Rattle.std.proofs.Common.{◌≡◌, ◌+◌, ◌-◌, ◌<◌, ◌≤◌, inl, inr, ℕ, Bool, true, false, List, [], ◌∷◌, ◌++◌, length, set, refl, ap, subst, sym, ◌∙◌, arith}
use Rattle.std.specs.Prelude.{◌&&◌, ◌||◌, IfSome, None, Option, Some, is_some, not}
use Rattle.std.specs.List.{count_by}
use Rattle.std.proofs.lemmas.Bool.{and_parts, cases_lt, or_left, or_right}
use Rattle.std.proofs.lemmas.List.{set_past}
use Rattle.device_spec.specs.Slots.{SlotState}
use Rattle.tab_spec.specs.Shape.{number_of_session}
use Rattle.session_swap.specs.Items.{Item, ListsThose, SessionsView, Stand, context_number, disowned, equals_handed, flag, has_owner, is_handed_to, is_held, is_left, is_loaded_item, is_orphan, is_owned, is_owner, is_saved_for_owner, is_saved_item, item_at, item_of, left_behind, loaded_items, number_of_item, owner_by, owner_of_item, rest_of, saved_by_client, saved_items, taken_back}
use Rattle.session_swap.specs.Moves.{RiseIn}
use Rattle.session_swap.proofs.Among.{loaded_inside, named_is}
use Rattle.session_swap.proofs.Counts.{count_cons, count_one, count_set, flag_false}
use Rattle.session_swap.proofs.Listing.{not_listed, unsaved_by}
use Rattle.session_swap.proofs.Rising.{number_under, rise_saved}

pub owner_some : (used : Bool) (client : Option ℕ) → is_some (owner_by used client) ≡ is_some client
owner_some used None = refl
owner_some used (Some client) = refl

-- ---- a session of a client, or left, or an orphan

-- a client's is held, and so is a left one
pub owner_held : (item : Option Item) → has_owner item ≡ true → is_held item ≡ true
owner_held item is = or_left (has_owner item) (is_left item) is

left_held : (item : Option Item) → is_left item ≡ true → is_held item ≡ true
left_held item is = or_right (has_owner item) (is_left item) is

owner_unleft_by : (client : Option ℕ) (handed : Option (List ℕ)) → is_some client ≡ true → (not (is_some client) && is_some handed) ≡ false
owner_unleft_by client handed is = ap (λ (b : Bool). not b && is_some handed) is

-- and a client's isn't left
pub owner_unleft : (item : Option Item) → has_owner item ≡ true → is_left item ≡ false
owner_unleft None is = refl
owner_unleft (Some item) is =
    owner_unleft_by item.client item.handed (sym (owner_some (not (is_some item.handed)) item.client) ∙ is)

owner_there : (client : ℕ) (owner : Option (ℕ × Bool)) → is_owner client owner ≡ true → is_some owner ≡ true
owner_there client None is = absurd cc
owner_there client (Some owner) is = refl

either_held : (client : ℕ) (item : Option Item) (own : Bool) → is_owned client item ≡ own → (own || is_left item) ≡ true → is_held item ≡ true
either_held client item true own any = owner_held item (owner_there client (owner_of_item item) own)
either_held client item false own any = left_held item any

-- one that a client may take back
pub given_held : (client : ℕ) (bytes : List ℕ) (item : Option Item) → is_handed_to client bytes item ≡ true → is_held item ≡ true
given_held client bytes None is = absurd cc
given_held client bytes (Some item) is =
    either_held client (Some item) (is_owned client (Some item)) refl
    (and_parts (is_owned client (Some item) || is_left (Some item)) (equals_handed bytes item.handed) is).0

-- it is the client's then
pub taken_owner : (client : ℕ) (item : Option Item) → is_some item ≡ true → has_owner (taken_back client item) ≡ true
taken_owner client None there = absurd cc
taken_owner client (Some item) there = refl

pub taken_unleft : (client : ℕ) (item : Option Item) → is_left (taken_back client item) ≡ false
taken_unleft client None = refl
taken_unleft client (Some item) = refl

pub disowned_unleft : (item : Option Item) → is_left (disowned item) ≡ false
disowned_unleft None = refl
disowned_unleft (Some item) = refl

pub disowned_unheld : (item : Option Item) → is_held (disowned item) ≡ false
disowned_unheld None = refl
disowned_unheld (Some item) = refl

-- one that its client saved, and leaves
pub saved_owner : (item : Option Item) → is_saved_for_owner item ≡ true → has_owner item ≡ true
saved_owner None is = absurd cc
saved_owner (Some item) is =
    owner_some (not (is_some item.handed)) item.client ∙ (and_parts (is_some item.client) (is_some item.handed) is).0

pub saved_there : (item : Option Item) → is_saved_for_owner item ≡ true → is_some item ≡ true
saved_there None is = absurd cc
saved_there (Some item) is = refl

pub behind_left : (item : Option Item) → is_saved_for_owner item ≡ true → is_left (left_behind item) ≡ true
behind_left None is = absurd cc
behind_left (Some item) is = (and_parts (is_some item.client) (is_some item.handed) is).1

pub behind_counts : (item : Option Item) → is_saved_for_owner item ≡ true → is_held (left_behind item) ≡ true
behind_counts item is = left_held (left_behind item) (behind_left item is)

-- the context of a client's session is handed out
pub owner_saved : (bytes : List ℕ) (item : Option Item) → has_owner (saved_by_client bytes item) ≡ has_owner item
owner_saved bytes None = refl
owner_saved bytes (Some item) =
    owner_some (not (is_some (Some bytes))) item.client ∙ sym (owner_some (not (is_some item.handed)) item.client)

pub held_saved : (bytes : List ℕ) (item : Option Item) → has_owner item ≡ true → is_held (saved_by_client bytes item) ≡ is_held item
held_saved bytes item is =
    owner_held (saved_by_client bytes item) (owner_saved bytes item ∙ is) ∙ sym (owner_held item is)

pub left_saved : (bytes : List ℕ) (item : Option Item) → has_owner item ≡ true → is_left (saved_by_client bytes item) ≡ is_left item
left_saved bytes item is =
    owner_unleft (saved_by_client bytes item) (owner_saved bytes item ∙ is) ∙ sym (owner_unleft item is)

owned_there : (item : Option Item) → has_owner item ≡ true → is_some item ≡ true
owned_there None is = absurd cc
owned_there (Some item) is = refl

-- the item of a handle that names one is that of its number
pub owner_whole : (items : List (Option Item)) (handle : ℕ) → has_owner (item_of items handle) ≡ true
    → has_owner (item_at items (number_of_session handle)) ≡ true
owner_whole items handle is = ap has_owner (sym (named_is items handle (owned_there (item_of items handle) is))) ∙ is

pub saved_whole : (items : List (Option Item)) (handle : ℕ) → is_saved_for_owner (item_of items handle) ≡ true
    → is_saved_for_owner (item_at items (number_of_session handle)) ≡ true
saved_whole items handle is = ap is_saved_for_owner (sym (named_is items handle (saved_there (item_of items handle) is))) ∙ is

pub some_saved : (bytes : List ℕ) (item : Option Item) → is_some (saved_by_client bytes item) ≡ is_some item
some_saved bytes None = refl
some_saved bytes (Some item) = refl

-- what is there and isn't loaded is saved
pub saved_else : (item : Option Item) → is_some item ≡ true → is_saved_item item ≡ not (is_loaded_item item)
saved_else None there = absurd cc
saved_else (Some item) there = twice (is_some item.saved)
  where
    twice : (b : Bool) → b ≡ not (not b)
    twice true = refl
    twice false = refl

-- ---- counts

flags_both : (b : Bool) → flag b + flag (not b) ≡ 1
flags_both true = refl
flags_both false = refl

held_else : (client : Option ℕ) (handed : Option (List ℕ))
    → flag (is_some (owner_by (not (is_some handed)) client) || (not (is_some client) && is_some handed))
    + flag (not (is_some client) && not (is_some handed)) ≡ 1
held_else None None = refl
held_else None (Some handed) = refl
held_else (Some client) handed = refl

split_one : (item : Option Item) → flag (is_held item) + flag (is_orphan item) ≡ flag (is_loaded_item item) + flag (is_saved_item item)
split_one None = refl
split_one (Some item) = omega (arith, held_else item.client item.handed, flags_both (is_some item.saved))

-- each session is loaded or saved, and held or an orphan
pub owners_split : (items : List (Option Item))
    → count_by is_held items + count_by is_orphan items ≡ loaded_items items + saved_items items
owners_split [] = refl
owners_split (item ∷ items) =
    omega (
      arith,
      count_cons is_held item items,
      count_cons is_orphan item items,
      count_cons is_loaded_item item items,
      count_cons is_saved_item item items,
      split_one item,
      owners_split items,
    )

split_some : (item : Option Item) → flag (is_some item) ≡ flag (is_loaded_item item) + flag (is_saved_item item)
split_some None = refl
split_some (Some item) = omega (arith, flags_both (is_some item.saved))

-- and there are no others
pub some_split : (items : List (Option Item)) → count_by is_some items ≡ loaded_items items + saved_items items
some_split [] = refl
some_split (item ∷ items) =
    omega (
      arith,
      count_cons is_some item items,
      count_cons is_loaded_item item items,
      count_cons is_saved_item item items,
      split_some item,
      some_split items,
    )

pub count_unchanged : (p : Option Item → Bool) (items : List (Option Item)) (n : ℕ) (item : Option Item) → p item ≡ p (item_at items n)
    → count_by p (set items n item) ≡ count_by p items
count_unchanged p items n item same =
    elim (cases_lt n (length items)) [
      | inl inside ↦ omega (arith, count_set p items n item None inside, ap flag same)
      | inr past ↦ ap (count_by p) (set_past items n item past)
    ]

-- one that was held, or wasn't, isn't any more
pub held_less : (items : List (Option Item)) (n : ℕ) (item : Option Item) (was : Bool) → n < length items → is_held (item_at items n) ≡ was
    → is_held item ≡ false → count_by is_held (set items n item) ≡ count_by is_held items - flag was
held_less items n item was inside is out =
    omega (arith, count_set is_held items n item None inside, ap flag is, flag_false (is_held item) out)

pub held_most : (items : List (Option Item)) (n : ℕ) (was : Bool) → n < length items → is_held (item_at items n) ≡ was
    → flag was ≤ count_by is_held items
held_most items n was inside is = omega (arith, count_one is_held items n None inside, ap flag is)

-- ---- a session that was saved for its client

saved_number : (bytes : List ℕ) (item : Option Item) → is_loaded_item item ≡ true
    → number_of_item (saved_by_client bytes item) ≡ Some (context_number bytes)
saved_number bytes None there = absurd cc
saved_number bytes (Some item) there = refl

-- what is left of the items, and of the order of the saved ones
pub record Handed (state : Option SlotState) (items new_items : List (Option Item)) (saved new_saved : List ℕ) (n : ℕ) (bytes : List ℕ) : Type 0 where
  pub items_are : new_items ≡ set items n (saved_by_client bytes (item_at items n))
  pub number : IfSome state (λ slots. context_number bytes ≡ slots.counter)
  pub order : new_saved ≡ saved ++ n ∷ []

pub rise_handed : (state new_state : Option SlotState) (view : SessionsView) (others : List ℕ) (new_items : List (Option Item)) (new_saved : List ℕ) (n : ℕ)
    (bytes : List ℕ) → Stand state view others → rest_of new_state ≡ rest_of state → ListsThose is_saved_item view.saved view.items
    → is_loaded_item (item_at view.items n) ≡ true → Handed state view.items new_items view.saved new_saved n bytes
    → RiseIn new_state new_items new_saved
rise_handed state None view others new_items new_saved n bytes stand rest listed there handed = tt {0}
rise_handed None (Some new) view others new_items new_saved n bytes stand rest listed there handed = absurd cc
rise_handed (Some slots) (Some new) view others new_items new_saved n bytes stand rest listed there handed =
    let item = saved_by_client bytes (item_at view.items n) in
    subst (λ (l : List ℕ). RiseIn (Some new) new_items l) (sym handed.order)
    (subst (λ (l : List (Option Item)). RiseIn (Some new) l (view.saved ++ n ∷ [])) (sym handed.items_are)
    (rise_saved view.items n slots.counter item view.saved (loaded_inside view.items n there)
    (not_listed is_saved_item refl view.items view.saved n listed (unsaved_by (item_at view.items n) there))
    (saved_number bytes (item_at view.items n) there ∙ ap (λ (k : ℕ). Some k) handed.number)
    (number_under slots view others stand) stand.rise))

-- or not
pub rise_kept : (state new_state : Option SlotState) (view : SessionsView) (others : List ℕ) (new_items : List (Option Item)) (new_saved : List ℕ)
    → Stand state view others → rest_of new_state ≡ rest_of state → new_items ≡ view.items → new_saved ≡ view.saved → RiseIn new_state new_items new_saved
rise_kept state None view others new_items new_saved stand rest items_are order = tt {0}
rise_kept None (Some new) view others new_items new_saved stand rest items_are order = absurd cc
rise_kept (Some slots) (Some new) view others new_items new_saved stand rest items_are order =
    subst (λ (l : List ℕ). RiseIn (Some new) new_items l) (sym order)
    (subst (λ (l : List (Option Item)). RiseIn (Some new) l view.saved) (sym items_are) stand.rise)
