-- What is seen of records, before and after each change.
use Rattle.std.proofs.Common.{◌≡◌, ◌≢◌, ◌+◌, Bool, false, ◌-◌, ◌^◌, ◌<◌, ◌≤◌, ℕ, zero, suc, List, [], ◌∷◌, ◌++◌, Option, Some, None, length, get_or, refl}
use Rattle.std.proofs.Common.{sym, ◌∙◌, ap, subst, arith, length-set}
use Rattle.std.specs.Prelude.{if◌then◌else◌, set, take, map, max, min, replicate, slice_get}
use Rattle.std.proofs.lemmas.List.{get_or_default, length-map, length_push, map_push}
use Rattle.std.proofs.lemmas.List.Sums.{sum_by_push, sum_by-cons}
use Rattle.std.proofs.lemmas.Option.{slice_get_within, get_or_from_slice_get}
use Rattle.std.proofs.lemmas.Bool.{eq-eqb, ne_eqb}
use Rattle.linked_records.specs.View.{IsListed, RecordsView, StandOnce, first_or, record_count, taken_out, put_back, with_record, written}
use Rattle.linked_records.specs.Places.{CanOpen, Chain, Holds, Opens, Threads, ends_of, free_place, is_taken, links_at, links_of, lists_of, value_of, view_of}
use Rattle.linked_records.specs.Places.{next_written, prev_written, with_value, no_ends, place_at, room, taken}
use Rattle.linked_records.specs.declared.place.Ends.{Ends}
use Rattle.linked_records.specs.declared.place.Links.{Links}
use Rattle.linked_records.specs.declared.place.Place.{Place}
use Rattle.linked_records.specs.declared.place.Place.TheVariants.{Free, Taken}
use Rattle.linked_records.proofs.Holding.{count_back, count_out, count_written, holds_written}
use Rattle.linked_records.proofs.Seen.{given_seen, held, lists_seen, spare_seen}
use Rattle.linked_records.proofs.Chains.{IsAbsent, around_length, next_length}
use Rattle.linked_records.proofs.Threading.{around, found_at, once, other_absent}

-- ---- lists

module _ (T : Type 0) where
  abbrev empty : ℕ → List (List (ℕ × T))
  empty n = replicate n []

  no_records : (n j : ℕ) → get_or (empty n) j [] ≡ []
  no_records zero j = refl
  no_records (suc n) zero = refl
  no_records (suc n) (suc j) = no_records n j

  no_count : (n : ℕ) → record_count (empty n) ≡ 0
  no_count zero = refl
  no_count (suc n) = omega (arith, no_count n, sum_by-cons (λ (l : List (ℕ × T)). length l) [] (empty n))

  no_first : (n : ℕ) → replicate n no_ends ≡ map ends_of (empty n)
  no_first zero = refl
  no_first (suc n) = ap (λ (es : List Ends). no_ends ∷ es) (no_first n)

  -- lists that hold no record
  pub holds_none : (n : ℕ) → Holds {T = T} [] (replicate n no_ends) None (replicate n [])
  holds_none n = record {
    threads = record {
      ends_are = no_first n;
      linked = λ j. subst (λ (l : List (ℕ × T)). Chain (taken j) [] None l None) (sym (no_records n j)) tt;
    };
    vacant = [];
    free_is = refl;
    freed = tt;
    total = omega (arith, no_count n);
    few = omega arith;
  }

take_none : (n : ℕ) (es : List Ends) → es ≡ [] → take n es ≡ []
take_none n es is = ap (take n) is ∙ none n
  where
    none : (n : ℕ) → ◌≡◌ {A = List Ends} (take n []) []
    none zero = refl
    none (suc n) = refl

-- the same, as they are made
pub holds_new : (T : Type 0) (n : ℕ) (places : List (Place T)) (old ends : List Ends) (len : ℕ) → places ≡ [] → old ≡ [] → len ≡ 0 → ends
    ≡ take n old ++ replicate (n - len) no_ends
    → Holds places ends None (replicate n [])
holds_new T n places old ends len none first no_len is =
    let count : n - len ≡ n = omega (arith, no_len) in
    let all : ends ≡ replicate n no_ends = is ∙ (λ i. take_none n old first i ++ replicate (count i) no_ends) in
    subst (λ (x : List (Place T) × List Ends). Holds {T = T} x.0 x.1 None (replicate n [])) (sym (λ i. (none i, all i))) (holds_none T n)

module _ {T : Type 0} where
  one_more : (lists : List (List (ℕ × T))) (j : ℕ) → get_or (lists ++ [] ∷ []) j [] ≡ get_or lists j []
  one_more [] zero = refl
  one_more [] (suc j) = refl
  one_more (l ∷ lists) zero = refl
  one_more (l ∷ lists) (suc j) = one_more lists j

  pub count_more : (lists : List (List (ℕ × T))) → record_count (lists ++ [] ∷ []) ≡ record_count lists
  count_more lists = omega (arith, sum_by_push (λ (l : List (ℕ × T)). length l) lists [])

  -- one more list, which holds no record
  pub holds_list : (places : List (Place T)) (ends : List Ends) (free : Option ℕ) (lists : List (List (ℕ × T))) → Holds places ends free lists
      → Holds places (ends ++ no_ends ∷ []) free (lists ++ [] ∷ [])
  holds_list places ends free lists h = record {
    threads = record {
      ends_are = ap (λ (es : List Ends). es ++ no_ends ∷ []) h.threads.ends_are ∙ sym (map_push ends_of lists []);
      linked = λ j. subst (λ (l : List (ℕ × T)). Chain (taken j) places None l None) (sym (one_more lists j)) (h.threads.linked j);
    };
    vacant = h.vacant;
    free_is = h.free_is;
    freed = h.freed;
    total = omega (arith, h.total, count_more lists);
    few = h.few;
  }

  -- the same, as it is added
  pub holds_added : (places : List (Place T)) (ends : List Ends) (free : Option ℕ) (lists : List (List (ℕ × T))) → Holds places ends free lists
      → (e1 e2 : List Ends) → e1 ≡ ends → e2 ≡ e1 ++ no_ends ∷ []
      → Holds places e2 free (lists ++ [] ∷ [])
  holds_added places ends free lists h e1 e2 is1 is2 =
      subst (λ (es : List Ends). Holds places es free (lists ++ [] ∷ [])) (sym (is2 ∙ ap (λ (es : List Ends). es ++ no_ends ∷ []) is1))
      (holds_list places ends free lists h)

-- ---- room

module _ {T : Type 0} (places : List (Place T)) (ends : List Ends) (lists : List (List (ℕ × T))) (capacity : ℕ) where
  pub room_free : (item : ℕ) → Holds places ends (Some item) lists → length places ≤ capacity → 1 ≤ room capacity lists
  room_free item h low = some h.vacant h.free_is h.total
    where
      some : (vacant : List (ℕ × Unit {0})) → Some item ≡ first_or None vacant → length vacant + record_count lists ≡ length places → 1 ≤ room capacity lists
      some [] is total = absurd cc
      some (p ∷ rest) is total = omega (arith, total, h.few, low)

  pub full_count : Holds places ends None lists → record_count lists ≡ length places
  full_count h = none h.vacant h.free_is h.total
    where
      none : (vacant : List (ℕ × Unit {0})) → None ≡ first_or None vacant → length vacant + record_count lists ≡ length places → record_count lists
          ≡ length places
      none (p ∷ rest) is total = absurd cc
      none [] is total = omega arith

-- there is a place for one more, where there is room
pub can_open : {T : Type 0} (places : List (Place T)) (ends : List Ends) (free : Option ℕ) (lists : List (List (ℕ × T))) (capacity : ℕ)
    → Holds places ends free lists → length places ≤ capacity → 1 ≤ room capacity lists
    → CanOpen places capacity free
can_open places ends None lists capacity h low some =
    let full = full_count places ends lists capacity h in
    (omega (arith, full, some), omega (arith, full, some))
can_open {T} places ends (Some item) lists capacity h low some = first h.vacant h.free_is h.freed
  where
    first : (vacant : List (ℕ × Unit {0})) → Some item ≡ first_or None vacant → Chain free_place places None vacant None → (item < length places)
        × (is_taken (place_at places item) ≡ false)
    first [] is chain = absurd cc
    first (p ∷ rest) is chain =
        let index : p.0 ≡ item = cc in
        let found : slice_get places item ≡ Some (Free (first_or None rest)) = ap (slice_get places) (sym index) ∙ chain.0 in (
          slice_get_within places item (Free (first_or None rest)) found,
          ap is_taken
              (get_or_from_slice_get places item (Free (first_or None rest)) (Free None) found),
        )

module _ {T : Type 0} (places : List (Place T)) (ends : List Ends) (free : Option ℕ) (lists : List (List (ℕ × T))) (h : Holds places ends free lists)
    (capacity : ℕ) where
  pub room_out : (item : ℕ) (at : IsListed lists item) → length places ≤ capacity → room capacity (taken_out lists item at) ≡ room capacity lists + 1
  room_out item at low =
      let out = count_out lists item at in
      let total = h.total in
      let few = h.few in
      omega arith

  pub room_back : (list : ℕ) (p : ℕ × T) → list < length lists → 1 ≤ room capacity lists → room capacity (put_back lists list p) + 1 ≡ room capacity lists
  room_back list p low some =
      let back = count_back lists list p low in
      omega arith

-- how many indices were given out, once a place was opened
pub opened_given : {T : Type 0} (places : List (Place T)) (ends : List Ends) (free : Option ℕ) (lists : List (List (ℕ × T))) (capacity : ℕ)
    → Holds places ends free lists → CanOpen places capacity free
    → (now : List (Place T)) (left : Option ℕ) (item : ℕ) (new : Place T) → Opens places now free left item new
    → (record_count lists ≡ length places → item ≡ length places) × (record_count lists < length places → item < length places)
    × (length now ≡ max (length places) (item + 1))
opened_given places ends None lists capacity h can now left item new o =
    let longer : length now ≡ length places + 1 = ap length o.1 ∙ length_push places new in
    let full = full_count places ends lists capacity h in
    (λ _. o.0, λ free. absurd (omega (arith, free, full)), omega (arith, o.0, longer))
opened_given places ends (Some free) lists capacity h can now left item new o =
    let same : length now ≡ length places = ap length o.1 ∙ length-set places free new in
    let some = room_free places ends lists (length places) free h (omega arith) in
    (λ full. absurd (omega (arith, full, some)), λ _. omega (arith, o.0, can.0), omega (arith, o.0, same, can.0))

-- ---- reads

module _ {T : Type 0} (places : List (Place T)) (ends : List Ends) (free : Option ℕ) (lists : List (List (ℕ × T))) (h : Holds places ends free lists) where
  pub list_within : (list : ℕ) → list < length lists → list < length ends
  list_within list low = omega (arith, low, ap length h.threads.ends_are, length-map lists (ends_of {T = T}))

  pub lists_length : length ends ≡ length lists
  lists_length = ap length h.threads.ends_are ∙ length-map lists ends_of

  module _ (item : ℕ) (at : IsListed lists item) where
    pub place_is : place_at places item ≡ Taken (links_at at) at.value
    place_is = get_or_from_slice_get places item (Taken (links_at at) at.value) (Free None) (found_at places ends lists item h.threads at)

    pub item_within : item < length places
    item_within = slice_get_within places item (Taken (links_at at) at.value) (found_at places ends lists item h.threads at)

    -- the place, as it is read
    pub place_read : (read : Place T) → read ≡ get_or places item read → read ≡ Taken (links_at at) at.value
    place_read read is = is ∙ get_or_default places item read (Free None) item_within ∙ place_is

    -- the record, as it is read
    pub value_is : (read : Place T) → read ≡ get_or places item read → (value : T) → value_of read ≡ Some value → value ≡ at.value
    value_is read is value there = value_same (sym there ∙ ap value_of (place_read read is))
      where
        value_same : Some value ≡ Some at.value → value ≡ at.value
        value_same same = cc

    pub links_is : (links : Links) → links ≡ links_of (place_at places item) → links ≡ links_at at
    links_is links is = is ∙ ap links_of place_is

    -- the record that is taken from there
    pub taken_is : (links : Links) (value : T) (old : Place T) → old ≡ place_at places item → old ≡ Taken links value → (links ≡ links_at at)
        × (value ≡ at.value)
    taken_is links value old is taken =
        let same : Taken links value ≡ Taken (links_at at) at.value = sym taken ∙ is ∙ place_is in
        (ap links_of same, value_same same)
      where
        value_same : Taken links value ≡ Taken (links_at at) at.value → value ≡ at.value
        value_same same = cc

    -- a record stands there
    pub not_free : (next : Option ℕ) (old : Place T) → old ≡ place_at places item → old ≡ Free next → ⊥
    not_free next old is free = let same : Free next ≡ Taken (links_at at) at.value = sym free ∙ is ∙ place_is in cc

-- ---- an index stands in one list, and once

split_same : {A : Type 0} (item : ℕ) (xs others : List (ℕ × A)) (p q : ℕ × A) (ys rest : List (ℕ × A)) → p.0 ≡ item → q.0 ≡ item → IsAbsent item xs
    → IsAbsent item others → xs ++ p ∷ ys ≡ others ++ q ∷ rest
    → (xs ≡ others) × (p ≡ q) × (ys ≡ rest)
split_same item [] [] p q ys rest here there front back same = (refl, head_same same, tail_same same)
  where
    head_same : p ∷ ys ≡ q ∷ rest → p ≡ q
    head_same is = cc

    tail_same : p ∷ ys ≡ q ∷ rest → ys ≡ rest
    tail_same is = cc
split_same item [] (o ∷ others) p q ys rest here there front back same = let first : p ≡ o = cc in absurd (back.0 (ap (λ x. x.0) (sym first) ∙ here))
split_same item (x ∷ xs) [] p q ys rest here there front back same = let first : x ≡ q = cc in absurd (front.0 (ap (λ y. y.0) first ∙ there))
split_same item (x ∷ xs) (o ∷ others) p q ys rest here there front back same =
    let first : x ≡ o = cc in
    let tails : xs ++ p ∷ ys ≡ others ++ q ∷ rest = cc in
    let more = split_same item xs others p q ys rest here there front.1 back.1 tails in
    (λ i. first i ∷ more.0 i, more.1, more.2)

pub stand_once : {T : Type 0} (places : List (Place T)) (ends : List Ends) (lists : List (List (ℕ × T))) → Threads places ends lists → StandOnce lists
stand_once {T} places ends lists threads item a b =
    let same : ◌≡◌ {A = Option (Place T)} (Some (Taken (links_at a) a.value)) (Some (Taken (links_at b) b.value)) = sym
    (found_at places ends lists item threads a) ∙ found_at places ends lists item threads b in
    let places_same : Taken (links_at a) a.value ≡ Taken (links_at b) b.value = cc in
    let list : a.list ≡ b.list = ap (λ (p : Place T). (links_of p).list) places_same in
    let whole : a.before ++ (item, a.value) ∷ a.after ≡ b.before ++ (item, b.value) ∷ b.after = sym a.is ∙ ap (λ (k : ℕ). get_or lists k []) list ∙ b.is in
    let parts = split_same item a.before b.before (item, a.value) (item, b.value) a.after b.after refl refl (around places ends lists item threads a).0
    (around places ends lists item threads b).0 whole in
    (list, parts.0, ap (λ p. p.1) parts.1, parts.2)

-- ---- a record is written

module _ {T : Type 0} (item : ℕ) (value : T) where
  same_absent : (l : List (ℕ × T)) → IsAbsent item l → map (with_record item value) l ≡ l
  same_absent [] absent = refl
  same_absent (p ∷ l) absent =
      ap (λ (b : Bool). (if b then (item, value) else p) ∷ map (with_record item value) l) (ne_eqb p.0 item absent.0)
      ∙ ap (λ (m : List (ℕ × T)). p ∷ m) (same_absent l absent.1)

  one_written : (xs : List (ℕ × T)) (old : T) (ys : List (ℕ × T)) → IsAbsent item xs → IsAbsent item ys
      → map (with_record item value) (xs ++ (item, old) ∷ ys) ≡ xs ++ (item, value) ∷ ys
  one_written [] old ys front back =
      ap (λ (b : Bool). (if b then (item, value) else (item, old)) ∷ map (with_record item value) ys) (eq-eqb item item refl)
      ∙ ap (λ (m : List (ℕ × T)). (item, value) ∷ m) (same_absent ys back)
  one_written (p ∷ xs) old ys front back =
      ap (λ (b : Bool). (if b then (item, value) else p) ∷ map (with_record item value) (xs ++ (item, old) ∷ ys)) (ne_eqb p.0 item front.0)
      ∙ ap (λ (m : List (ℕ × T)). p ∷ m) (one_written xs old ys front.1 back)

  all_same : (lists : List (List (ℕ × T))) → ((j : ℕ) → IsAbsent item (get_or lists j [])) → written item value lists ≡ lists
  all_same [] absent = refl
  all_same (l ∷ lists) absent = λ i. same_absent l (absent 0) i ∷ all_same lists (λ j. absent (suc j)) i

  list_written : (lists : List (List (ℕ × T))) (k : ℕ) (new : List (ℕ × T)) → map (with_record item value) (get_or lists k []) ≡ new
      → ((j : ℕ) → j ≢ k → IsAbsent item (get_or lists j []))
      → written item value lists ≡ set lists k new
  list_written [] k new here others = refl
  list_written (l ∷ lists) zero new here others = λ i. here i ∷ all_same lists (λ j. others (suc j) (λ same. cc)) i
  list_written (l ∷ lists) (suc k) new here others =
      λ i. same_absent l (others 0 (λ same. cc)) i ∷ list_written lists k new here (λ j apart. others (suc j) (λ same. apart (suc_same same))) i
    where
      suc_same : {a b : ℕ} → suc a ≡ suc b → a ≡ b
      suc_same same = omega (arith, same)

  pub written_is : (places : List (Place T)) (ends : List Ends) (lists : List (List (ℕ × T))) → Threads places ends lists → (at : IsListed lists item)
      → written item value lists ≡ set lists at.list (at.before ++ (item, value) ∷ at.after)
  written_is places ends lists threads at =
      list_written lists at.list (at.before ++ (item, value) ∷ at.after)
      (ap (map (with_record item value)) at.is
      ∙ one_written at.before at.value at.after (around places ends lists item threads at).0 (once places ends lists item threads at).1.0)
      (other_absent places ends lists item threads at)

-- ---- what is seen afterwards

module _ {T : Type 0} (places : List (Place T)) (ends : List Ends) (capacity : ℕ) (v : RecordsView T) (is : view_of places ends capacity ≡ v)
    (free : Option ℕ) (inv : Holds places ends free (lists_of places ends)) where
  h : Holds places ends free v.lists
  h = held places ends capacity v is free inv

  seen : v.spare ≡ room capacity v.lists
  seen = spare_seen places ends capacity v is

  counted : length places ≡ v.given
  counted = given_seen places ends capacity v is

  -- after a record was taken out
  pub spare_out : (now : List (Place T)) (other : List Ends) (left : Option ℕ) (item : ℕ) (at : IsListed v.lists item) (room_now : ℕ)
      → Holds now other left (taken_out v.lists item at) → length places ≤ capacity → room_now ≡ capacity
      → room room_now (lists_of now other) ≡ v.spare + 1
  spare_out now other left item at room_now new low same =
      (λ i. room (same i) (lists_seen new i)) ∙ room_out places ends free v.lists h capacity item at low ∙ ap (λ n. n + 1) (sym seen)

  pub given_out : (links : Links) (p1 p2 p3 : List (Place T)) (item : ℕ) (new : Place T) → p1 ≡ set places item new
      → p2 ≡ next_written links.prev links.next p1 → p3 ≡ prev_written links.next links.prev p2
      → length p3 ≡ v.given
  given_out links p1 p2 p3 item new is1 is2 is3 =
      around_length links.prev links.next p1 p2 p3 is2 is3 ∙ ap length is1 ∙ length-set places item new ∙ counted

  -- after one was put in
  pub some_room : 1 ≤ v.spare → 1 ≤ room capacity v.lists
  some_room some = omega (arith, seen, some)

  pub spare_back : (now : List (Place T)) (other : List Ends) (left : Option ℕ) (list : ℕ) (p : ℕ × T) (room_now : ℕ)
      → Holds now other left (put_back v.lists list p) → list < length v.lists → 1 ≤ v.spare → room_now ≡ capacity
      → room room_now (lists_of now other) + 1 ≡ v.spare
  spare_back now other left list p room_now new there some same =
      (λ i. room (same i) (lists_seen new i) + 1) ∙ room_back places ends free v.lists h capacity list p there (some_room some) ∙ sym seen

  pub given_back : (opened now : List (Place T)) (left last : Option ℕ) (item : ℕ) (new : Place T) → CanOpen places capacity free
      → Opens places opened free left item new → now ≡ next_written last (Some item) opened
      → (record_count v.lists ≡ v.given → item ≡ v.given) × (record_count v.lists < v.given → item < v.given)
      × (length now ≡ max v.given (item + 1))
  given_back opened now left last item new can o is_now =
      let given = opened_given places ends free v.lists capacity h can opened left item new o in
      subst (λ (n : ℕ). (record_count v.lists ≡ n → item ≡ n) × (record_count v.lists < n → item < n) × (length now ≡ max n (item + 1))) counted
      (given.0, given.1, ap length is_now ∙ next_length last (Some item) opened ∙ given.2)

  -- after a list was added
  pub spare_added : (other : List Ends) → Holds places other free (v.lists ++ [] ∷ []) → room capacity (lists_of places other) ≡ v.spare
  spare_added other new = ap (room capacity) (lists_seen new) ∙ ap (λ n. min capacity (2 ^ 32 - 1) - n) (count_more v.lists) ∙ sym seen

  -- after one was carried
  pub spare_carried : (now : List (Place T)) (other : List Ends) (item : ℕ) (at : IsListed v.lists item) (list : ℕ) (room_now : ℕ)
      → Holds now other free (put_back (taken_out v.lists item at) list (item, at.value)) → list < length v.lists → room_now ≡ capacity
      → room room_now (lists_of now other) ≡ v.spare
  spare_carried now other item at list room_now new there same =
      let out = count_out v.lists item at in
      let low : list < length (taken_out v.lists item at) = omega (arith, there, length-set v.lists at.list (at.before ++ at.after)) in
      let back = count_back (taken_out v.lists item at) list (item, at.value) low in
      let counts : record_count (put_back (taken_out v.lists item at) list (item, at.value)) ≡ record_count v.lists = omega arith in
      (λ i. room (same i) (lists_seen new i)) ∙ ap (λ n. min capacity (2 ^ 32 - 1) - n) counts ∙ sym seen

  -- after one was written
  module _ (item : ℕ) (at : IsListed v.lists item) (read : Place T) (is_read : read ≡ get_or places item read) (value : T) where
    pub written_holds : Holds (set places item (with_value read value)) ends free (set v.lists at.list (at.before ++ (item, value) ∷ at.after))
    written_holds =
        subst (λ (p : Place T). Holds (set places item (with_value p value)) ends free (set v.lists at.list (at.before ++ (item, value) ∷ at.after)))
        (sym (place_read places ends free v.lists h item at read is_read))
        (holds_written places ends free v.lists h item at value)

    pub written_view : view_of (set places item (with_value read value)) ends capacity ≡ record v { lists = written item value v.lists }
    written_view =
        let new : Holds (set places item (with_value read value)) ends free (set v.lists at.list (at.before ++ (item, value) ∷ at.after)) = written_holds in
        let lists : lists_of (set places item (with_value read value)) ends ≡ written item value v.lists = lists_seen new
        ∙ sym (written_is item value places ends v.lists h.threads at) in
        let counts : record_count (set v.lists at.list (at.before ++ (item, value) ∷ at.after))
        ≡ record_count v.lists = count_written v.lists item at value in
        let spare : room capacity (lists_of (set places item (with_value read value)) ends) ≡ v.spare =
        ap (room capacity) (lists_seen new) ∙ ap (λ n. min capacity (2 ^ 32 - 1) - n) counts ∙ sym seen in
        let given : length (set places item (with_value read value)) ≡ v.given = length-set places item (with_value read value) ∙ counted in
        λ i. record { lists = lists i; spare = spare i; given = given i }
