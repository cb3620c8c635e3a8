-- What stays in the device, and what is gone: over steps that drop something, over steps that move it, and over a command.
use Rattle.std.proofs.Common.{◌≡◌, ◌≤◌, ◌<◌, ◌+◌, ◌⊎◌, inl, inr, ℕ, zero, suc, Bool, true, false, List, [], ◌∷◌, length, get_or, set, refl, ap, sym, ◌∙◌, subst, arith}
use Rattle.std.specs.Prelude.{Option, Some, None, if◌then◌else◌}
use Rattle.std.specs.List.{count_by}
use Rattle.std.proofs.lemmas.Option.{none-some}
use Rattle.tab_spec.specs.declared.numbers.Numbers.{Numbers}
use Rattle.tab_spec.specs.declared.Admitted.{Admitted}
use Rattle.tab_spec.specs.Shape.{number_of_session}
use Rattle.effect_spec.specs.Operands.{command_auth}
use Rattle.device_spec.specs.Slots.{gap_from, older}
use Rattle.client_laws.specs.Ready.{ends_session, tells_session}
use Rattle.object_swap.specs.Items.{Item, ObjectsView, is_resident, is_vacant, item_at, no_item, residents}
use Rattle.session_swap.specs.Items as sessions
use Rattle.session_swap.specs.Items.{SessionsView, is_loaded_item, loaded_items, number_of_item, oldest_number, saved_by_client}
use Rattle.session_swap.proofs.Counts.{count_cons, flag_most, flag_true}
use Rattle.session_swap.proofs.Numbers.{oldest_less}
use Rattle.client_machine.specs.declared.held.Held.{Held}
use Rattle.client_machine.specs.Costs.{StaysIn}
use Rattle.client_machine.specs.Moves.{Loses, StaysGone, saves_session, sessions_held_after, told_handle}

-- ---- one item of a list is another one

pub set_at : {X : Type 0} (xs : List X) (n : ℕ) (y d : X) (m : ℕ)
    → (get_or (set xs n y) m d ≡ get_or xs m d) ⊎ ((m ≡ n) × (get_or (set xs n y) m d ≡ y))
set_at [] n y d m = inl refl
set_at (x ∷ xs) zero y d zero = inr (refl, refl)
set_at (x ∷ xs) zero y d (suc m) = inl refl
set_at (x ∷ xs) (suc n) y d zero = inl refl
set_at (x ∷ xs) (suc n) y d (suc m) =
    elim (set_at xs n y d m) [
      | inl same ↦ inl same
      | inr here ↦ inr (ap suc here.0, here.1)
    ]

-- how many pass a test
count_no_less : {X : Type 0} (p : X → Bool) (xs : List X) (n : ℕ) (y : X) → p y ≡ true → count_by p xs ≤ count_by p (set xs n y)
count_no_less p [] n y is = omega arith
count_no_less p (x ∷ xs) zero y is = omega (arith, count_cons p x xs, count_cons p y xs, flag_most (p x), flag_true (p y) is)
count_no_less p (x ∷ xs) (suc n) y is = omega (arith, count_cons p x xs, count_cons p x (set xs n y), count_no_less p xs n y is)

count_one_less : {X : Type 0} (p : X → Bool) (xs : List X) (n : ℕ) (y : X) → count_by p xs ≤ count_by p (set xs n y) + 1
count_one_less p [] n y = omega arith
count_one_less p (x ∷ xs) zero y = omega (arith, count_cons p x xs, count_cons p y xs, flag_most (p x))
count_one_less p (x ∷ xs) (suc n) y = omega (arith, count_cons p x xs, count_cons p x (set xs n y), count_one_less p xs n y)

count_one_more : {X : Type 0} (p : X → Bool) (xs : List X) (n : ℕ) (y : X) → count_by p (set xs n y) ≤ count_by p xs + 1
count_one_more p [] n y = omega arith
count_one_more p (x ∷ xs) zero y = omega (arith, count_cons p x xs, count_cons p y xs, flag_most (p y))
count_one_more p (x ∷ xs) (suc n) y = omega (arith, count_cons p x xs, count_cons p x (set xs n y), count_one_more p xs n y)

-- ---- what is gone

-- one object, or one session
vacated : (items new_items : List Item) (item : ℕ) → new_items ≡ set items item no_item → (index : ℕ)
    → (item_at new_items index ≡ item_at items index) ⊎ (is_vacant (item_at new_items index) ≡ true)
vacated items new_items item are index =
    let at = ap (λ (l : List Item). item_at l index) are in
    elim (set_at items item no_item no_item index) [
      | inl same ↦ inl (at ∙ same)
      | inr here ↦ inr (ap is_vacant (at ∙ here.1))
    ]

ended : (items new_items : List (Option sessions.Item)) (n : ℕ) → new_items ≡ set items n None → (number : ℕ)
    → (sessions.item_at new_items number ≡ sessions.item_at items number) ⊎ (sessions.item_at new_items number ≡ None)
ended items new_items n are number =
    let at = ap (λ (l : List (Option sessions.Item)). sessions.item_at l number) are in
    elim (set_at items n None None number) [
      | inl same ↦ inl (at ∙ same)
      | inr here ↦ inr (at ∙ here.1)
    ]

pub loses_none : (held : Held) → Loses held held
loses_none held = record { objects = λ index. inl refl; sessions = λ number. inl refl }

-- one session, or one object
pub loses_session : (held : Held) (new_view : SessionsView) (n : ℕ) → new_view.items ≡ set held.sessions.items n None
    → Loses held (record { objects = held.objects; sessions = new_view })
loses_session held new_view n are =
    record { objects = λ index. inl refl; sessions = λ number. ended held.sessions.items new_view.items n are number }

-- no object and no session
pub loses_left : (held : Held) (new_view : ObjectsView) → new_view.items ≡ held.objects.items
    → Loses held (record { objects = new_view; sessions = held.sessions })
loses_left held new_view are =
    record { objects = λ index. inl (ap (λ (l : List Item). item_at l index) are); sessions = λ number. inl refl }

pub loses_object : (held : Held) (new_view : ObjectsView) (item : ℕ) → new_view.items ≡ set held.objects.items item no_item
    → Loses held (record { objects = new_view; sessions = held.sessions })
loses_object held new_view item are =
    record { objects = λ index. vacated held.objects.items new_view.items item are index; sessions = λ number. inl refl }

pub loses_gone : (held new_held : Held) → Loses held new_held → StaysGone held new_held
loses_gone held new_held loses = record {
  objects = λ index vacant.
      elim (loses.objects index) [
        | inl same ↦ ap is_vacant same ∙ vacant
        | inr gone ↦ gone
      ];
  sessions = λ number none.
      elim (loses.sessions number) [
        | inl same ↦ same ∙ none
        | inr gone ↦ gone
      ];
}

pub loses_then : (held between new_held : Held) → Loses held between → Loses between new_held → Loses held new_held
loses_then held between new_held first second = record {
  objects = λ index.
      elim (first.objects index) [
        | inl same ↦ elim (second.objects index) [
          | inl still ↦ inl (still ∙ same)
          | inr gone ↦ inr gone
        ]
        | inr gone ↦ inr ((loses_gone between new_held second).objects index gone)
      ];
  sessions = λ number.
      elim (first.sessions number) [
        | inl same ↦ elim (second.sessions number) [
          | inl still ↦ inl (still ∙ same)
          | inr gone ↦ inr gone
        ]
        | inr gone ↦ inr ((loses_gone between new_held second).sessions number gone)
      ];
}

pub gone_then : (held between new_held : Held) → StaysGone held between → StaysGone between new_held → StaysGone held new_held
gone_then held between new_held first second = record {
  objects = λ index vacant. second.objects index (first.objects index vacant);
  sessions = λ number none. second.sessions number (first.sessions number none);
}

-- ---- what stays before a command

-- a session of this number is loaded, or gone, or the places are full
abbrev StaysLoaded : ℕ → ℕ → SessionsView → Type 0
StaysLoaded places number view =
    (is_loaded_item (sessions.item_at view.items number) ≡ true)
    ⊎ ((sessions.item_at view.items number ≡ None)
    ⊎ ((◌≡◌ {A = Option ℕ} None (Some number)) ⊎ (view.numbers.loaded ≤ loaded_items view.items + places)))

-- where orphans are gone, then sessions were moved, then objects
pub prepared_stays : {slots places : ℕ} (held cleared between new_held : Held) (most : ℕ) → slots ≤ most → Loses held cleared
    → StaysIn 0 places None cleared between → between.objects ≡ cleared.objects → StaysGone cleared between
    → StaysIn slots 0 None between new_held → new_held.sessions ≡ between.sessions → StaysGone between new_held
    → StaysIn most places None held new_held
prepared_stays {places = places} held cleared between new_held most few loses loaded objects_are ended brought sessions_are gone = record {
  objects = λ index resident.
      elim (loses.objects index) [
        | inl same ↦
            let here : is_resident (item_at between.objects.items index) ≡ true =
            ap (λ (v : ObjectsView). is_resident (item_at v.items index)) objects_are ∙ ap is_resident same ∙ resident in
            elim (brought.objects index here) [
              | inl still ↦ inl still
              | inr (inl vacant) ↦ inr (inl vacant)
              | inr (inr full) ↦ inr (inr (omega (arith, full, few)))
            ]
        | inr vacant ↦ inr (inl (gone.objects index (ended.objects index vacant)))
      ];
  sessions = λ number here.
      subst (StaysLoaded places number) (sym sessions_are)
      (elim (loses.sessions number) [
        | inl same ↦ loaded.sessions number (ap is_loaded_item same ∙ here)
        | inr none ↦ inr (inl (ended.sessions number none))
      ]);
}

-- ---- what stays over a command

-- the objects in slots: none leaves
pub record KeepsResidents (items new_items : List Item) : Type 0 where
  pub resident : (index : ℕ) → is_resident (item_at items index) ≡ true → is_resident (item_at new_items index) ≡ true
  pub gone : (index : ℕ) → is_vacant (item_at items index) ≡ true
      → (is_resident (item_at new_items index) ≡ true) ⊎ (is_vacant (item_at new_items index) ≡ true)
  pub count : residents items ≤ residents new_items

pub residents_same : (items : List Item) → KeepsResidents items items
residents_same items = record { resident = λ index is. is; gone = λ index is. inr is; count = omega arith }

-- one that is new
pub residents_with : (items new_items : List Item) (n : ℕ) (item : Item) → new_items ≡ set items n item → is_resident item ≡ true
    → KeepsResidents items new_items
residents_with items new_items n item are is = record {
  resident = λ index resident.
      let at = ap (λ (l : List Item). is_resident (item_at l index)) are in
      elim (set_at items n item no_item index) [
        | inl same ↦ at ∙ ap is_resident same ∙ resident
        | inr here ↦ at ∙ ap is_resident here.1 ∙ is
      ];
  gone = λ index vacant.
      let at = ap (λ (l : List Item). item_at l index) are in
      elim (set_at items n item no_item index) [
        | inl same ↦ inr (ap is_vacant (at ∙ same) ∙ vacant)
        | inr here ↦ inl (ap is_resident (at ∙ here.1) ∙ is)
      ];
  count = omega (arith, ap residents are, count_no_less is_resident items n item is);
}

-- and there is no more than one more
pub one_resident_more : (items new_items : List Item) (n : ℕ) (item : Item) → new_items ≡ set items n item → residents new_items ≤ residents items + 1
one_resident_more items new_items n item are = omega (arith, ap residents are, count_one_more is_resident items n item)

-- the loaded sessions: each stays so, or is gone, or is the one that was saved for its client. Where no more than so many places were
-- free, no more than one is
pub record KeepsLoaded (places : ℕ) (saves : Option ℕ) (items new_items : List (Option sessions.Item)) : Type 0 where
  pub loaded : (number : ℕ) → is_loaded_item (sessions.item_at items number) ≡ true
      → (is_loaded_item (sessions.item_at new_items number) ≡ true) ⊎ ((sessions.item_at new_items number ≡ None) ⊎ (saves ≡ Some number))
  pub gone : (number : ℕ) → sessions.item_at items number ≡ None
      → (is_loaded_item (sessions.item_at new_items number) ≡ true) ⊎ (sessions.item_at new_items number ≡ None)
  pub full : loaded_items items + places ≤ loaded_items new_items + 1

pub loaded_same : (places : ℕ) (saves : Option ℕ) (items : List (Option sessions.Item)) → places ≤ 1 → KeepsLoaded places saves items items
loaded_same places saves items few = record { loaded = λ number is. inl is; gone = λ number none. inr none; full = omega (arith, few) }

-- one was started
loaded_with : (places : ℕ) (saves : Option ℕ) (items : List (Option sessions.Item)) (n : ℕ) (item : Option sessions.Item) → places ≤ 1
    → is_loaded_item item ≡ true → KeepsLoaded places saves items (set items n item)
loaded_with places saves items n item few is = record {
  loaded = λ number loaded.
      elim (set_at items n item None number) [
        | inl same ↦ inl (ap is_loaded_item same ∙ loaded)
        | inr here ↦ inl (ap is_loaded_item here.1 ∙ is)
      ];
  gone = λ number none.
      elim (set_at items n item None number) [
        | inl same ↦ inr (same ∙ none)
        | inr here ↦ inl (ap is_loaded_item here.1 ∙ is)
      ];
  full = omega (arith, few, count_no_less is_loaded_item items n item is);
}

-- one ended
loaded_without : (places : ℕ) (saves : Option ℕ) (items : List (Option sessions.Item)) (n : ℕ) → places ≡ 0
    → KeepsLoaded places saves items (set items n None)
loaded_without places saves items n unfree = record {
  loaded = λ number loaded.
      elim (set_at items n None None number) [
        | inl same ↦ inl (ap is_loaded_item same ∙ loaded)
        | inr here ↦ inr (inl here.1)
      ];
  gone = λ number none.
      elim (set_at items n None None number) [
        | inl same ↦ inr (same ∙ none)
        | inr here ↦ inr here.1
      ];
  full = omega (arith, unfree, count_one_less is_loaded_item items n None);
}

-- one was saved for its client
pub loaded_saved : (places : ℕ) (items new_items : List (Option sessions.Item)) (n : ℕ) (context : List ℕ) → places ≡ 0
    → new_items ≡ set items n (saved_by_client context (sessions.item_at items n)) → KeepsLoaded places (Some n) items new_items
loaded_saved places items new_items n context unfree are =
    let item = saved_by_client context (sessions.item_at items n) in
    subst (KeepsLoaded places (Some n) items) (sym are)
    (record {
      loaded = λ number loaded.
          elim (set_at items n item None number) [
            | inl same ↦ inl (ap is_loaded_item same ∙ loaded)
            | inr here ↦ inr (inr (ap (λ (k : ℕ). Some k) (sym here.0)))
          ];
      gone = λ number none.
          elim (set_at items n item None number) [
            | inl same ↦ inr (same ∙ none)
            | inr here ↦ inr (here.1 ∙ ap (saved_by_client context) (ap (sessions.item_at items) (sym here.0) ∙ none))
          ];
      full = omega (arith, unfree, count_one_less is_loaded_item items n item);
    })

kept_by : (P : List (Option sessions.Item) → Type 0) (starts ends saves : Bool) (items started ended saved : List (Option sessions.Item)) → saves ≡ false
    → P started → (ends ≡ true → P ended) → P items → P (if starts then started else if ends then ended else if saves then saved else items)
kept_by P true ends saves items started ended saved none new gone all = new
kept_by P false true saves items started ended saved none new gone all = gone refl
kept_by P false false true items started ended saved none new gone all = absurd (let no = none in cc)
kept_by P false false false items started ended saved none new gone all = all

-- by what a response tells, where none was saved
pub loaded_after : (places : ℕ) (saves : Option ℕ) (client : ℕ) (a : Admitted) (answer : List ℕ) (items : List (Option sessions.Item))
    → saves_session a answer ≡ false → places ≤ 1 → (ends_session a answer ≡ true → places ≡ 0)
    → KeepsLoaded places saves items (sessions_held_after client a answer items)
loaded_after places saves client a answer items none few last =
    kept_by (KeepsLoaded places saves items) (tells_session a answer) (ends_session a answer) (saves_session a answer) items _ _ _ none
    (loaded_with places saves items (number_of_session (told_handle answer)) (Some (sessions.new_item client (told_handle answer))) few refl)
    (λ ends. loaded_without places saves items (number_of_session (command_auth a.auths).session) (last ends))
    (loaded_same places saves items few)

-- what stayed before a command and stays over it
pub stays_over : (held mid new_held : Held) (places : ℕ) (saves : Option ℕ) → StaysIn 1 places None held mid
    → KeepsResidents mid.objects.items new_held.objects.items → new_held.objects.slots ≡ mid.objects.slots
    → new_held.sessions.numbers ≡ mid.sessions.numbers → KeepsLoaded places saves mid.sessions.items new_held.sessions.items → StaysIn 1 1 saves held new_held
stays_over held mid new_held places saves stays residents slots_are numbers loaded = record {
  objects = λ index resident.
      elim (stays.objects index resident) [
        | inl still ↦ inl (residents.resident index still)
        | inr (inl vacant) ↦ elim (residents.gone index vacant) [
          | inl new ↦ inl new
          | inr gone ↦ inr (inl gone)
        ]
        | inr (inr full) ↦ inr (inr (omega (arith, full, slots_are, residents.count)))
      ];
  sessions = λ number here.
      elim (stays.sessions number here) [
        | inl still ↦ elim (loaded.loaded number still) [
          | inl same ↦ inl same
          | inr (inl gone) ↦ inr (inl gone)
          | inr (inr saved) ↦ inr (inr (inl saved))
        ]
        | inr (inl none) ↦ elim (loaded.gone number none) [
          | inl new ↦ inl new
          | inr gone ↦ inr (inl gone)
        ]
        | inr (inr (inl never)) ↦ absurd (none-some number never)
        | inr (inr (inr full)) ↦ inr (inr (inr (omega (arith, full, loaded.full, ap (λ (n : Numbers). n.loaded) numbers))))
      ];
}

-- what is gone needs no room
pub loses_stays : (held new_held : Held) (saves : Option ℕ) → Loses held new_held → StaysIn 1 1 saves held new_held
loses_stays held new_held saves loses = record {
  objects = λ index resident.
      elim (loses.objects index) [
        | inl same ↦ inl (ap is_resident same ∙ resident)
        | inr gone ↦ inr (inl gone)
      ];
  sessions = λ number here.
      elim (loses.sessions number) [
        | inl same ↦ inl (ap is_loaded_item same ∙ here)
        | inr gone ↦ inr (inl gone)
      ];
}

-- ---- the gap that is kept

gap_less : (next : ℕ) (a b : Option ℕ) → gap_from next b ≤ gap_from next (older a b)
gap_less next None b = omega arith
gap_less next (Some a) None = omega arith
gap_less next (Some a) (Some b) = omega arith

-- it doesn't grow where a session is gone
pub gap_without : (next : ℕ) (items : List (Option sessions.Item)) (n : ℕ) → n < length items
    → gap_from next (oldest_number (set items n None)) ≤ gap_from next (oldest_number items)
gap_without next items n inside =
    omega (
      arith,
      ap (gap_from next) (oldest_less items n None inside refl),
      gap_less next (number_of_item (sessions.item_at items n)) (oldest_number (set items n None)),
    )
