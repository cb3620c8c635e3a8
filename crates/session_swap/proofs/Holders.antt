-- A record gets another client, or none, and its session is in use then or not: the item, and all that is kept of the sessions.
use Rattle.std.proofs.Common.{◌≡◌, ◌<◌, ℕ, Bool, true, List, length, get_or, set, refl, ap, subst, sym, ◌∙◌, arith}
use Rattle.std.specs.Prelude.{Option, Some, None, is_some, IfSome}
use Rattle.std.specs.List.{count_by}
use Rattle.std.proofs.lemmas.List.{map-set}
use Rattle.tab_spec.specs.declared.numbers.Numbers.{Numbers}
use Rattle.tab_spec.specs.declared.contexts.ContextLimits.{ContextLimits}
use Rattle.session_swap.specs.declared.record.Place.{Place}
use Rattle.session_swap.specs.declared.record.Place.TheVariants as places
use Rattle.session_swap.specs.declared.record.Record.{Record}
use Rattle.session_swap.specs.Items.{Item, ListsThose, SessionsView, disowned, is_held, is_left, is_loaded_item, is_saved_item, item_at, left_behind, taken_back}
use Rattle.session_swap.specs.Records.{AreListed, AreRecords, IsHandleOf, IsRecord, OrderView, handed_by, handed_of, item_in, item_of_record, items_of, whole_view}
use Rattle.session_swap.proofs.Listing.{listed_set}
use Rattle.session_swap.proofs.Making.{read_there, records_set}
use Rattle.session_swap.proofs.Owners.{count_unchanged}
use Rattle.session_swap.proofs.Standing.{held_as, held_loaded, held_saved, held_some}

-- the same record, with this client, in use or not
abbrev pub with_holder : Option ℕ → Bool → Record → Record
with_holder client in_use r = record r { client = client; in_use = in_use }

-- ---- its item

held_in : (place : Place) (client other : Option ℕ) (handle : ℕ) (context : List ℕ) (handed given : Option (List ℕ))
    → item_in place other handle context given ≡ held_as other given (item_in place client handle context handed)
held_in places.Unused client other handle context handed given = refl
held_in places.Loaded client other handle context handed given = refl
held_in (places.Saved number) client other handle context handed given = refl

held_record : (r : Record) (client : Option ℕ) (in_use : Bool)
    → item_of_record (with_holder client in_use r) ≡ held_as client (handed_by in_use r.handed.items) (item_of_record r)
held_record r client in_use =
    held_in r.place r.client client r.handle r.context.items (handed_of r) (handed_by in_use r.handed.items)

as_disowned : (item : Option Item) → held_as None None item ≡ disowned item
as_disowned None = refl
as_disowned (Some item) = refl

-- it is an orphan
disowned_record : (r : Record) → item_of_record (with_holder None true r) ≡ disowned (item_of_record r)
disowned_record r = held_record r None true ∙ as_disowned (item_of_record r)

as_taken : (client : ℕ) (item : Option Item) → held_as (Some client) None item ≡ taken_back client item
as_taken client None = refl
as_taken client (Some item) = refl

-- a client took it back
taken_record : (client : ℕ) (r : Record) → item_of_record (with_holder (Some client) true r) ≡ taken_back client (item_of_record r)
taken_record client r = held_record r (Some client) true ∙ as_taken client (item_of_record r)

behind_in : (place : Place) (client : Option ℕ) (handle : ℕ) (context : List ℕ) (handed : Option (List ℕ))
    → item_in place None handle context handed ≡ left_behind (item_in place client handle context handed)
behind_in places.Unused client handle context handed = refl
behind_in places.Loaded client handle context handed = refl
behind_in (places.Saved number) client handle context handed = refl

-- its client left it
behind_record : (r : Record) → item_of_record (with_holder None r.in_use r) ≡ left_behind (item_of_record r)
behind_record r = behind_in r.place r.client r.handle r.context.items (handed_of r)

-- ---- the item by its number

-- a record that was read, and its item after the change
pub record Alters (records : List Record) (n : ℕ) (r : Record) (client : Option ℕ) (in_use : Bool) (item : Option Item) : Type 0 where
  pub inside : n < length records
  pub there : r ≡ get_or records n r
  pub is : item_of_record (with_holder client in_use r) ≡ item

-- as an orphan
pub disowned_there : (records : List Record) (n : ℕ) (r : Record) → n < length records → r ≡ get_or records n r
    → Alters records n r None true (disowned (item_at (items_of records) n))
disowned_there records n r inside is =
    record { inside = inside; there = is; is = disowned_record r ∙ ap disowned (sym (read_there records n r inside is)) }

-- taken back by this client
pub taken_there : (client : ℕ) (records : List Record) (n : ℕ) (r : Record) → n < length records → r ≡ get_or records n r
    → Alters records n r (Some client) true (taken_back client (item_at (items_of records) n))
taken_there client records n r inside is =
    record { inside = inside; there = is; is = taken_record client r ∙ ap (taken_back client) (sym (read_there records n r inside is)) }

-- left by its client
pub behind_there : (records : List Record) (n : ℕ) (r : Record) → n < length records → r ≡ get_or records n r
    → Alters records n r None r.in_use (left_behind (item_at (items_of records) n))
behind_there records n r inside is =
    record { inside = inside; there = is; is = behind_record r ∙ ap left_behind (sym (read_there records n r inside is)) }

pub altered_items : (records : List Record) (n : ℕ) (r : Record) (client : Option ℕ) (in_use : Bool) (item : Option Item)
    → Alters records n r client in_use item → items_of (set records n (with_holder client in_use r)) ≡ set (items_of records) n item
altered_items records n r client in_use item alters =
    map-set item_of_record records n (with_holder client in_use r) ∙ ap (set (items_of records) n) alters.is

-- as it was
altered_as : (records : List Record) (n : ℕ) (r : Record) (client : Option ℕ) (in_use : Bool) (item : Option Item)
    → Alters records n r client in_use item
    → item_of_record (with_holder client in_use r) ≡ held_as client (handed_by in_use r.handed.items) (item_at (items_of records) n)
altered_as records n r client in_use item alters =
    held_record r client in_use
    ∙ ap (held_as client (handed_by in_use r.handed.items)) (sym (read_there records n r alters.inside alters.there))

held_handle : (number : ℕ) (client : Option ℕ) (handed : Option (List ℕ)) (item : Option Item)
    → IfSome item (λ item. IsHandleOf number item) → IfSome (held_as client handed item) (λ item. IsHandleOf number item)
held_handle number client handed None is = tt
held_handle number client handed (Some item) is = record { session = is.session; number_is = is.number_is }

altered_records : {contexts : ContextLimits} (records : List Record) (n : ℕ) (r : Record) (client : Option ℕ) (in_use : Bool) (item : Option Item)
    → AreRecords contexts records → Alters records n r client in_use item → AreRecords contexts (set records n (with_holder client in_use r))
altered_records {contexts = contexts} records n r client in_use item sound alters =
    let was : IsRecord contexts r = subst (λ (r : Record). IsRecord contexts r) (sym alters.there) (sound.each n r alters.inside) in
    records_set records n (with_holder client in_use r) sound alters.inside
    (record { room = was.room; handed_room = was.handed_room; context = was.context })
    (subst (λ (o : Option Item). IfSome o (λ item. IsHandleOf n item)) (sym (altered_as records n r client in_use item alters))
    (held_handle n client (handed_by in_use r.handed.items) (item_at (items_of records) n) (sound.handles n)))

-- ---- all that is kept

-- it counts as loaded or saved as before; which sessions are left, and how many are held, is given
pub kept_altered : {contexts : ContextLimits} {numbers : Numbers} (records : List Record) (order : OrderView) (left new_left : List ℕ)
    (held new_held n : ℕ) (r : Record) (client : Option ℕ) (in_use : Bool) (item : Option Item)
    → AreListed contexts numbers records order left held → Alters records n r client in_use item
    → ListsThose is_left new_left (set (items_of records) n item) → new_held ≡ count_by is_held (set (items_of records) n item)
    → AreListed contexts numbers (set records n (with_holder client in_use r)) order new_left new_held
kept_altered records order left new_left held new_held n r client in_use item kept alters left_are held_is =
    let items = items_of records in
    let handed = handed_by in_use r.handed.items in
    let now = altered_as records n r client in_use item alters in
    let after = altered_items records n r client in_use item alters in
    let same : is_some item ≡ is_some (item_at items n) =
    ap (λ (o : Option Item). is_some o) (sym alters.is ∙ now) ∙ held_some client handed (item_at items n) in
    record {
      sound = altered_records records n r client in_use item kept.sound alters;
      listed = listed_set records order n (with_holder client in_use r) kept.listed
          (ap is_loaded_item now ∙ held_loaded client handed (item_at items n))
          (ap is_saved_item now ∙ held_saved client handed (item_at items n));
      left_are = subst (λ (l : List (Option Item)). ListsThose is_left new_left l) (sym after) left_are;
      held_is = held_is ∙ ap (count_by is_held) (sym after);
      few = omega (
        arith,
        kept.few,
        ap (λ (l : List (Option Item)). count_by is_some l) after,
        count_unchanged is_some items n item same,
      );
    }

-- what is seen of it, where its item became another one, and the list of the left sessions too
abbrev pub altered : (Option Item → Option Item) → (ℕ → List ℕ → List ℕ) → ℕ → SessionsView → SessionsView
altered change leave n view = record view { items = set view.items n (change (item_at view.items n)); left = leave n view.left }

pub altered_view : {contexts : ContextLimits} (change : Option Item → Option Item) (leave : ℕ → List ℕ → List ℕ) (numbers : Numbers)
    (records : List Record) (next : ℕ) (order : OrderView) (left new_left : List ℕ) (view : SessionsView) (n number : ℕ) (r : Record)
    (client : Option ℕ) (in_use : Bool)
    → whole_view numbers records next order left contexts ≡ view → n ≡ number
    → Alters records n r client in_use (change (item_at (items_of records) n)) → new_left ≡ leave n left
    → whole_view numbers (set records n (with_holder client in_use r)) next order new_left contexts ≡ altered change leave number view
altered_view {contexts = contexts} change leave numbers records next order left new_left view n number r client in_use view_is number_is alters left_is =
    let items_are = altered_items records n r client in_use (change (item_at (items_of records) n)) alters in
    let here : whole_view numbers (set records n (with_holder client in_use r)) next order new_left contexts
    ≡ altered change leave n (whole_view numbers records next order left contexts) =
    λ i. record {
      numbers = numbers;
      items = items_are i;
      next = next;
      order = order.loaded;
      saved = order.saved;
      left = left_is i;
      contexts = contexts;
    } in
    here ∙ ap (altered change leave n) view_is ∙ ap (λ (k : ℕ). altered change leave k view) number_is
