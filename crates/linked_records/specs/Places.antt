-- How records and free places are threaded through an arena. No public clause names this.
use Rattle.std.specs.Prelude.{◌≡◌, ◌+◌, ◌-◌, ◌<◌, ◌^◌, ℕ, zero, suc, Bool, true, false, IsTrue, List, [], ◌∷◌, ◌++◌, Option, Some, None, get_or, length, map}
use Rattle.std.specs.Prelude.{min, set, slice_get}
use Rattle.linked_records.specs.View.{IsListed, RecordsView, first_or, moved, record_count}
use Rattle.linked_records.specs.declared.place.Links.{Links}
use Rattle.linked_records.specs.declared.place.Ends.{Ends}
use Rattle.linked_records.specs.declared.place.Place.{Place}
use Rattle.linked_records.specs.declared.place.Place.TheVariants.{Free, Taken}

-- ---- one place

module _ {T : Type 0} where
  abbrev pub is_taken : Place T → Bool
  is_taken (Free next) = false
  is_taken (Taken links value) = true

  abbrev pub IsTaken : Place T → Type 0
  IsTaken place = IsTrue (is_taken place)

  abbrev pub links_of : Place T → Links
  links_of (Free next) = record { list = 0; prev = None; next = None }
  links_of (Taken links value) = links

  abbrev pub value_of : Place T → Option T
  value_of (Free next) = None
  value_of (Taken links value) = Some value

  -- the place, where the record stands elsewhere
  abbrev pub with_links : Links → Place T → Place T
  with_links links (Free next) = Free next
  with_links links (Taken old value) = Taken links value

  -- the place with another record
  abbrev pub with_value : Place T → T → Place T
  with_value (Free next) value = Free next
  with_value (Taken links old) value = Taken links value

  abbrev pub with_next : Option ℕ → Place T → Place T
  with_next next place = with_links (record (links_of place) { next = next }) place

  abbrev pub with_prev : Option ℕ → Place T → Place T
  with_prev prev place = with_links (record (links_of place) { prev = prev }) place

  -- ---- places

  -- what stands at an index
  abbrev pub place_at : List (Place T) → ℕ → Place T
  place_at places item = get_or places item (Free None)

  -- a record stands at that index, if there is one
  abbrev pub IsTakenAt : List (Place T) → Option ℕ → Type 0
  IsTakenAt places None = Unit {0}
  IsTakenAt places (Some item) = IsTaken (place_at places item)

  -- there is a free place, or room for one more
  abbrev pub CanOpen : List (Place T) → ℕ → Option ℕ → Type 0
  CanOpen places capacity None = (length places < capacity) × (length places + 1 < 2 ^ 32)
  CanOpen places capacity (Some item) = (item < length places) × (is_taken (place_at places item) ≡ false)

  -- a place stands in the first free one, or else after all others
  abbrev pub Opens : List (Place T) → List (Place T) → Option ℕ → Option ℕ → ℕ → Place T → Type 0
  Opens places now None left item new = (item ≡ length places) × (now ≡ places ++ new ∷ []) × (left ≡ None)
  Opens places now (Some free) left item new = (item ≡ free) × (now ≡ set places free new) × (place_at places free ≡ Free left)

  -- what comes after the record at that index, if there is one
  abbrev pub next_written : Option ℕ → Option ℕ → List (Place T) → List (Place T)
  next_written None next places = places
  next_written (Some item) next places = set places item (with_next next (place_at places item))

  -- what comes before the record at that index, if there is one
  abbrev pub prev_written : Option ℕ → Option ℕ → List (Place T) → List (Place T)
  prev_written None prev places = places
  prev_written (Some item) prev places = set places item (with_prev prev (place_at places item))

-- so much where a record is there, and nothing where there is none
abbrev pub if_there : Option ℕ → ℕ → ℕ
if_there None n = 0
if_there (Some item) n = n

-- ---- the ends of lists

abbrev pub no_ends : Ends
no_ends = record { first = None; last = None }

-- the first of a list, where nothing comes before it
abbrev pub first_written : ℕ → Option ℕ → Option ℕ → List Ends → List Ends
first_written list None first ends = set ends list (record (get_or ends list no_ends) { first = first })
first_written list (Some item) first ends = ends

-- the last of a list, where nothing comes after it
abbrev pub last_written : ℕ → Option ℕ → Option ℕ → List Ends → List Ends
last_written list None last ends = set ends list (record (get_or ends list no_ends) { last = last })
last_written list (Some item) last ends = ends

-- ---- lists through places

-- the index that a list ends with, and else another
abbrev pub last_or : {A : Type 0} → Option ℕ → List (ℕ × A) → Option ℕ
last_or other [] = other
last_or other (p ∷ l) = last_or (Some p.0) l

abbrev pub ends_of : {T : Type 0} → List (ℕ × T) → Ends
ends_of l = record { first = first_or None l; last = last_or None l }

module _ {T : Type 0} where
  -- the place of a record of a list, between two others
  abbrev pub taken : ℕ → Option ℕ → Option ℕ → T → Place T
  taken list prev next value = Taken (record { list = list; prev = prev; next = next }) value

  -- a free place
  abbrev pub free_place : Option ℕ → Option ℕ → Unit {0} → Place T
  free_place prev next _ = Free next

  -- each of these stands in its place, between those before and after it
  abbrev pub Chain : {A : Type 0} → (Option ℕ → Option ℕ → A → Place T) → List (Place T) → Option ℕ → List (ℕ × A) → Option ℕ → Type 0
  Chain made places prev [] next = Unit {0}
  Chain made places prev (p ∷ l) next =
      (slice_get places p.0 ≡ Some (made prev (first_or next l) p.1)) × Chain made places (Some p.0) l next

  -- the lists are threaded through these
  pub record Threads (places : List (Place T)) (ends : List Ends) (lists : List (List (ℕ × T))) : Type 0 where
    pub ends_are : ends ≡ map ends_of lists
    pub linked : (list : ℕ) → Chain (taken list) places None (get_or lists list []) None

  -- the lists and the free places are threaded through these, and there is nothing else
  pub record Holds (places : List (Place T)) (ends : List Ends) (free : Option ℕ) (lists : List (List (ℕ × T))) : Type 0 where
    pub threads : Threads places ends lists
    pub vacant : List (ℕ × Unit {0})
    pub free_is : free ≡ first_or None vacant
    pub freed : Chain free_place places None vacant None
    pub total : length vacant + record_count lists ≡ length places
    pub few : length places < 2 ^ 32

  -- where the record of a list stands
  abbrev pub links_at : {lists : List (List (ℕ × T))} {item : ℕ} → IsListed lists item → Links
  links_at at = record { list = at.list; prev = last_or None at.before; next = first_or None at.after }

  -- a record stands there, and a list is there that it may go to
  pub record CanCarry (places : List (Place T)) (ends : List Ends) (free : Option ℕ) (lists : List (List (ℕ × T))) (item : ℕ) (from : Links) (list : ℕ) : Type
      0 where
    pub holds : Holds places ends free lists
    pub at : IsListed lists item
    pub from_is : from ≡ links_at at
    pub there : list < length lists

  -- the lists, after that
  abbrev pub carried : {places : List (Place T)} {ends : List Ends} {free : Option ℕ} {lists : List (List (ℕ × T))} {item : ℕ} {from : Links} {list : ℕ}
      → CanCarry places ends free lists item from list → List (List (ℕ × T))
  carried {lists = lists} {item = item} {list = list} can = moved lists item can.at list

  -- ---- the lists, as they are seen

  -- the record of a place, and those that come after it
  abbrev pub onward : (Option ℕ → List (ℕ × T)) → ℕ → Option (Place T) → List (ℕ × T)
  onward rest item None = []
  onward rest item (Some (Free next)) = []
  onward rest item (Some (Taken links value)) = (item, value) ∷ rest links.next

  -- so many records at most, from an index on
  unfoldable pub walk : List (Place T) → ℕ → Option ℕ → List (ℕ × T)
  walk places zero here = []
  walk places (suc most) None = []
  walk places (suc most) (Some item) = onward (walk places most) item (slice_get places item)

  unfoldable pub lists_of : List (Place T) → List Ends → List (List (ℕ × T))
  lists_of places ends = map (λ e. walk places (length places) e.first) ends

  -- how many more records find room
  abbrev pub room : ℕ → List (List (ℕ × T)) → ℕ
  room capacity lists = min capacity (2 ^ 32 - 1) - record_count lists

  abbrev pub view_of : List (Place T) → List Ends → ℕ → RecordsView T
  view_of places ends capacity = record {
    lists = lists_of places ends;
    spare = room capacity (lists_of places ends);
    given = length places;
  }
