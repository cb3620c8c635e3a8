-- What a session that is dropped, or left, by its client's close leaves: how many the client has, how many are orphans, and what is
-- another's.
use Rattle.std.proofs.Common.{◌≡◌, ◌+◌, ◌<◌, ◌≤◌, ℕ, Bool, true, false, List, [], ◌∷◌, length, set, refl, ap, sym, ◌∙◌, arith}
use Rattle.std.specs.Prelude.{◌==◌, ◌&&◌, ◌||◌, not, Option, Some, None, is_some, MatchOption, Result, Ok, Err}
use Rattle.std.specs.List.{count_by}
use Rattle.std.proofs.lemmas.Bool.{eqb-false, false≢true, ne_eqb}
use Rattle.std.proofs.lemmas.List.{get_or-set_other, map-set}
use Rattle.tab_spec.specs.Shape.{number_of_session}
use Rattle.device_spec.specs.Slots.{SlotState}
use Rattle.object_swap.specs.Items.{handle_in}
use Rattle.object_swap.proofs.Counts.{all_but}
use Rattle.session_swap.specs.Items.{Item, Names, disowned, flag, has_owner, is_held, is_left, is_orphan, is_owned, is_owner, item_at, left_behind, owner_by, owner_in, owner_of_item, sessions_of, without_session}
use Rattle.session_swap.proofs.Among.{named_inside, named_is}
use Rattle.session_swap.proofs.Counts.{count_cons, count_set, flag_false, flag_most, flag_true}
use Rattle.client_machine.specs.Dropping.{KeepsOthers}
use Rattle.client_machine.specs.Settled.{owned_in, sessions_in}
use Rattle.client_machine.specs.Tables.{AreOpenOwners, IsOpenOwner}
use Rattle.client_machine.proofs.Leaving.{behind_unowned}
use Rattle.client_machine.proofs.Orphans.{sessions_without_one}
use Rattle.client_machine.proofs.Settling.{some_same}

-- ---- a client's session

-- a client has the session of this number
pub record IsOwnAt (items : List (Option Item)) (client n : ℕ) : Type 0 where
  pub inside : n < length items
  pub own : is_owned client (item_at items n) ≡ true

pub own_at : (items : List (Option Item)) (client handle : ℕ) → Names items handle → is_owner client (owner_in items handle) ≡ true
    → IsOwnAt items client (number_of_session handle)
own_at items client handle names own = record {
  inside = named_inside items handle names;
  own = sym (ap (is_owned client) (named_is items handle names)) ∙ own;
}

-- what isn't the client's has another number
other_number : (items : List (Option Item)) (client n number : ℕ) → is_owned client (item_at items n) ≡ true
    → is_owned client (item_at items number) ≡ false → (number == n) ≡ false
other_number items client n number own apart =
    ne_eqb number n (λ same. false≢true (sym apart ∙ ap (λ (m : ℕ). is_owned client (item_at items m)) same ∙ own))

pub others_same : (client : ℕ) (items : List (Option Item)) → KeepsOthers client items items
others_same client items = λ number apart has. refl

pub others_then : (client : ℕ) (items between new_items : List (Option Item)) → KeepsOthers client items between
    → KeepsOthers client between new_items → KeepsOthers client items new_items
others_then client items between new_items first second =
    λ number apart has.
    let same = first number apart has in
    second number (ap (is_owned client) same ∙ apart) (ap has_owner same ∙ has) ∙ same

-- one of the client's is gone, or an orphan, or left
pub others_but : (items new_items : List (Option Item)) (client n : ℕ) → is_owned client (item_at items n) ≡ true
    → ((number : ℕ) → (number == n) ≡ false → item_at new_items number ≡ item_at items number) → KeepsOthers client items new_items
others_but items new_items client n own others = λ number apart has. others number (other_number items client n number own apart)

pub others_set : (items : List (Option Item)) (client n : ℕ) (item : Option Item) → is_owned client (item_at items n) ≡ true
    → KeepsOthers client items (set items n item)
others_set items client n item own =
    others_but items (set items n item) client n own (λ number apart. get_or-set_other items n number item None (eqb-false number n apart))

ownerless : (used : Bool) (owner : Option ℕ) (handed : Option (List ℕ)) → (not (is_some owner) && is_some handed) ≡ true
    → is_some (owner_by used owner) ≡ false
ownerless used None handed left = refl
ownerless used (Some c) handed left = absurd cc

left_ownerless : (item : Option Item) → is_left item ≡ true → has_owner item ≡ false
left_ownerless None left = refl
left_ownerless (Some item) left = ownerless (not (is_some item.handed)) item.client item.handed left

-- one that was left is gone
pub others_but_left : (items new_items : List (Option Item)) (client n : ℕ) → is_left (item_at items n) ≡ true
    → ((number : ℕ) → (number == n) ≡ false → item_at new_items number ≡ item_at items number) → KeepsOthers client items new_items
others_but_left items new_items client n left others =
    λ number apart has.
    others number
    (ne_eqb number n
    (λ same. false≢true (sym (left_ownerless (item_at items n) left) ∙ ap (λ (m : ℕ). has_owner (item_at items m)) (sym same) ∙ has)))

-- one fewer is the client's, whatever else has its number that isn't
fewer_owned : (items : List (Option Item)) (client n : ℕ) (left : Option Item) → IsOwnAt items client n → is_owned client left ≡ false
    → count_by (is_owned client) (set items n left) + 1 ≡ count_by (is_owned client) items
fewer_owned items client n left at apart =
    omega (
      arith,
      count_set (is_owned client) items n left None at.inside,
      flag_true (is_owned client (item_at items n)) at.own,
      flag_false (is_owned client left) apart,
    )

pub ended_owned : (items : List (Option Item)) (client n : ℕ) → IsOwnAt items client n
    → count_by (is_owned client) (set items n None) + 1 ≡ count_by (is_owned client) items
ended_owned items client n at = fewer_owned items client n None at refl

pub behind_owned : (items : List (Option Item)) (client n : ℕ) → IsOwnAt items client n
    → count_by (is_owned client) (set items n (left_behind (item_at items n))) + 1 ≡ count_by (is_owned client) items
behind_owned items client n at = fewer_owned items client n (left_behind (item_at items n)) at (behind_unowned client (item_at items n))

-- there are no more of a client's than are held
some_owner : (client : ℕ) (owner : Option (ℕ × Bool)) (left : Bool) → flag (is_owner client owner) ≤ flag (is_some owner || left)
some_owner client None left = omega arith
some_owner client (Some owner) left = flag_most (is_owner client (Some owner))

pub owned_few : (items : List (Option Item)) (client : ℕ) → count_by (is_owned client) items ≤ count_by is_held items
owned_few [] client = omega arith
owned_few (item ∷ items) client =
    omega (
      arith,
      count_cons (is_owned client) item items,
      count_cons is_held item items,
      some_owner client (owner_of_item item) (is_left item),
      owned_few items client,
    )

-- how many are orphans, where one that isn't becomes another that isn't, or one that is
pub orphans_same : (items : List (Option Item)) (n : ℕ) (item : Option Item) → n < length items → is_orphan (item_at items n) ≡ false
    → is_orphan item ≡ false → count_by is_orphan (set items n item) ≡ count_by is_orphan items
orphans_same items n item inside held none =
    omega (
      arith,
      count_set is_orphan items n item None inside,
      flag_false (is_orphan (item_at items n)) held,
      flag_false (is_orphan item) none,
    )

disowned_orphan : (item : Option Item) → is_some item ≡ true → is_orphan (disowned item) ≡ true
disowned_orphan None there = absurd cc
disowned_orphan (Some item) there = refl

pub orphans_more : (items : List (Option Item)) (n : ℕ) → n < length items → is_some (item_at items n) ≡ true → is_orphan (item_at items n) ≡ false
    → count_by is_orphan (set items n (disowned (item_at items n))) ≡ count_by is_orphan items + 1
orphans_more items n inside there held =
    omega (
      arith,
      count_set is_orphan items n (disowned (item_at items n)) None inside,
      flag_false (is_orphan (item_at items n)) held,
      flag_true (is_orphan (disowned (item_at items n))) (disowned_orphan (item_at items n) there),
    )

disowned_unowned : (client : ℕ) (item : Option Item) → is_owned client (disowned item) ≡ false
disowned_unowned client None = refl
disowned_unowned client (Some item) = refl

-- how many the client has then
pub owned_gone : (items : List (Option Item)) (client n : ℕ) → n < length items
    → count_by (is_owned client) (set items n None) + flag (is_owned client (item_at items n)) ≡ count_by (is_owned client) items
owned_gone items client n inside = omega (arith, count_set (is_owned client) items n None None inside, flag_false (is_owned client None) refl)

pub owned_orphaned : (items : List (Option Item)) (client n : ℕ) → n < length items
    → count_by (is_owned client) (set items n (disowned (item_at items n))) + flag (is_owned client (item_at items n)) ≡ count_by (is_owned client) items
owned_orphaned items client n inside =
    omega (
      arith,
      count_set (is_owned client) items n (disowned (item_at items n)) None inside,
      flag_false (is_owned client (disowned (item_at items n))) (disowned_unowned client (item_at items n)),
    )

-- whose the sessions are
pub ended_owners : (present : List ℕ) (items : List (Option Item)) (n : ℕ) → AreOpenOwners present items → AreOpenOwners present (set items n None)
ended_owners present items n all =
    all_but (λ (item : Option Item). IsOpenOwner present item) (λ (item : Option Item). IsOpenOwner present item) items n None None all (λ j inside apart is. is) tt

disowned_open : (present : List ℕ) (item : Option Item) → IsOpenOwner present (disowned item)
disowned_open present None = tt
disowned_open present (Some item) = tt

pub orphaned_owners : (present : List ℕ) (items : List (Option Item)) (n : ℕ) → AreOpenOwners present items
    → AreOpenOwners present (set items n (disowned (item_at items n)))
orphaned_owners present items n all =
    all_but (λ (item : Option Item). IsOpenOwner present item) (λ (item : Option Item). IsOpenOwner present item) items n (disowned (item_at items n)) None all
    (λ j inside apart is. is) (disowned_open present (item_at items n))

behind_open : (present : List ℕ) (item : Option Item) → IsOpenOwner present (left_behind item)
behind_open present None = tt
behind_open present (Some item) = tt

pub behind_owners : (present : List ℕ) (items : List (Option Item)) (n : ℕ) → AreOpenOwners present items
    → AreOpenOwners present (set items n (left_behind (item_at items n)))
behind_owners present items n all =
    all_but (λ (item : Option Item). IsOpenOwner present item) (λ (item : Option Item). IsOpenOwner present item) items n (left_behind (item_at items n)) None all
    (λ j inside apart is. is) (behind_open present (item_at items n))

-- ---- what the world has without it

-- a session that a device ended
pub ended_in : (old new : Option SlotState) (items : List (Option Item)) (n : ℕ) (slots after : SlotState)
    → sessions_of new (set items n None) ≡ without_session n (sessions_of old items) → old ≡ Some slots → new ≡ Some after
    → sessions_in after (set items n None) ≡ set (sessions_in slots items) n None
ended_in old new items n slots after same is_old is_new =
    sessions_without_one slots after items n
    (some_same (
    ap (λ (state : Option SlotState). sessions_of state (set items n None)) (sym is_new)
    ∙ same
    ∙ ap (λ (state : Option SlotState). without_session n (sessions_of state items)) is_old
    ))

disowned_in : (slots : SlotState) (item : Option Item) → owned_in slots (disowned item) ≡ None
disowned_in slots None = refl
disowned_in slots (Some item) = refl

-- an orphan
pub orphaned_in : (old new : Option SlotState) (items : List (Option Item)) (n : ℕ) (slots after : SlotState) → new ≡ old → old ≡ Some slots → new ≡ Some after
    → sessions_in after (set items n (disowned (item_at items n))) ≡ set (sessions_in slots items) n None
orphaned_in old new items n slots after same is_old is_new =
    let left = disowned (item_at items n) in
    let state : after ≡ slots = some_same (sym is_new ∙ same ∙ is_old) in
    ap (λ (s : SlotState). sessions_in s (set items n left)) state ∙ map-set (owned_in slots) items n left
    ∙ ap (set (sessions_in slots items) n) (disowned_in slots (item_at items n))

-- ---- a client's object

-- a flush that failed was sent, so the object is in a slot
pub is_in_slot : {A E : Type 0} (X : Type 0) (P : ℕ → Type 0) (slot : Option ℕ) (a : A) (e : E)
    → MatchOption (handle_in slot) ((Err e ≡ Ok a) × X) P → (n : ℕ) × (slot ≡ Some n)
is_in_slot X P (Some slot) a e sent = (slot, refl)
is_in_slot {A} {E} X P None a e sent = let sent : ◌≡◌ {A = Result A E} (Err e) (Ok a) = sent.0 in absurd cc
