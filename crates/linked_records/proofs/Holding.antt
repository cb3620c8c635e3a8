-- What an arena holds after each change of its records.
use Rattle.std.proofs.Common.{◌≡◌, ◌+◌, ◌^◌, ◌<◌, ℕ, zero, suc, List, [], ◌∷◌, ◌++◌, Option, Some, None, length, get_or, set, refl, sym, ◌∙◌, ap, subst}
use Rattle.std.proofs.Common.{arith, length-append, length-set, true, true≢false}
use Rattle.std.specs.Prelude.{slice_get}
use Rattle.std.proofs.lemmas.List.{get_or-set_other, length_push}
use Rattle.std.proofs.lemmas.List.Sums.{sum_by-set}
use Rattle.std.proofs.lemmas.Option.{slice_get_past, slice_get_within, get_or_from_slice_get, slice_get-get_or}
use Rattle.linked_records.specs.View.{IsListed, first_or, put_back, record_count, taken_out}
use Rattle.linked_records.specs.Places.{CanCarry, CanOpen, Chain, Holds, Opens, IsTakenAt, Threads, carried, first_written, free_place, is_taken, last_or}
use Rattle.linked_records.specs.Places.{last_written}
use Rattle.linked_records.specs.Places.{links_at, next_written, place_at, prev_written, taken, with_links, with_next, with_prev}
use Rattle.linked_records.specs.declared.place.Ends.{Ends}
use Rattle.linked_records.specs.declared.place.Links.{Links}
use Rattle.linked_records.specs.declared.place.Place.{Place}
use Rattle.linked_records.specs.declared.place.Place.TheVariants.{Free, Taken}
use Rattle.linked_records.proofs.Chains.{AreApart, AreOnce, IsAbsent, IsNot, absent_other, apart_parts, chain_front, chain_once, chain_rest, chain_set}
use Rattle.linked_records.proofs.Chains.{chains_apart, first_is_not, last_is_not, found_last, found_more, found_other, found_same, free_next, free_prev}
use Rattle.linked_records.proofs.Chains.{next_length, taken_not_free}
use Rattle.linked_records.proofs.Threading.{Keeps, all, back_ends, back_other, back_places, back_threads, found_at, gap_ends, gap_item, gap_length, gap_other}
use Rattle.linked_records.proofs.Threading.{gap_places, gap_threads, ends_read, loose, around, once, whole, written_threads}

-- ---- where records stand

module _ {T : Type 0} where
  -- a write of links leaves each place as free or taken as it was
  taken_same : (places : List (Place T)) (j i : ℕ) (change : Place T → Place T) → ((place : Place T) → is_taken (change place) ≡ is_taken place)
      → is_taken (place_at (set places j (change (place_at places j))) i) ≡ is_taken (place_at places i)
  taken_same [] j i change same = refl
  taken_same (x ∷ xs) zero zero change same = same x
  taken_same (x ∷ xs) zero (suc i) change same = refl
  taken_same (x ∷ xs) (suc j) zero change same = refl
  taken_same (x ∷ xs) (suc j) (suc i) change same = taken_same xs j i change same

  links_same : (links : Links) (place : Place T) → is_taken (with_links links place) ≡ is_taken place
  links_same links (Free next) = refl
  links_same links (Taken old value) = refl

  next_same : (next : Option ℕ) (place : Place T) → is_taken (with_next next place) ≡ is_taken place
  next_same next (Free after) = refl
  next_same next (Taken old value) = refl

  prev_same : (prev : Option ℕ) (place : Place T) → is_taken (with_prev prev place) ≡ is_taken place
  prev_same prev (Free after) = refl
  prev_same prev (Taken old value) = refl

  pub taken_links : (places : List (Place T)) (item : ℕ) (links : Links) (i : Option ℕ) → IsTakenAt places i
      → IsTakenAt (set places item (with_links links (place_at places item))) i
  taken_links places item links None is = tt
  taken_links places item links (Some i) is = taken_same places item i (with_links links) (links_same links) ∙ is

  pub taken_next_written : (b new : Option ℕ) (places : List (Place T)) (i : Option ℕ) → IsTakenAt places i → IsTakenAt (next_written b new places) i
  taken_next_written b new places None is = tt
  taken_next_written None new places (Some i) is = is
  taken_next_written (Some j) new places (Some i) is = taken_same places j i (with_next new) (next_same new) ∙ is

  pub taken_prev_written : (b new : Option ℕ) (places : List (Place T)) (i : Option ℕ) → IsTakenAt places i → IsTakenAt (prev_written b new places) i
  taken_prev_written b new places None is = tt
  taken_prev_written None new places (Some i) is = is
  taken_prev_written (Some j) new places (Some i) is = taken_same places j i (with_prev new) (prev_same new) ∙ is

  pub taken_found : (places : List (Place T)) (i : ℕ) (links : Links) (value : T) → slice_get places i ≡ Some (Taken links value) → IsTakenAt places (Some i)
  taken_found places i links value is = ap is_taken (get_or_from_slice_get places i (Taken links value) (Free None) is)

  pub taken_apart : (places : List (Place T)) (item : ℕ) (place : Place T) (i : Option ℕ) → IsNot item i → IsTakenAt places i
      → IsTakenAt (set places item place) i
  taken_apart places item place None apart is = tt
  taken_apart places item place (Some i) apart is = ap is_taken (get_or-set_other places item i place (Free None) apart) ∙ is

  taken_put_at : (places : List (Place T)) (item i : ℕ) (place : Place T) → is_taken place ≡ true → is_taken (place_at places i) ≡ true
      → is_taken (place_at (set places item place) i) ≡ true
  taken_put_at [] item i place new is = is
  taken_put_at (x ∷ xs) zero zero place new is = new
  taken_put_at (x ∷ xs) zero (suc i) place new is = is
  taken_put_at (x ∷ xs) (suc item) zero place new is = is
  taken_put_at (x ∷ xs) (suc item) (suc i) place new is = taken_put_at xs item i place new is

  taken_more_at : (places : List (Place T)) (i : ℕ) (place : Place T) → is_taken (place_at places i) ≡ true → is_taken (place_at (places ++ place ∷ []) i)
      ≡ true
  taken_more_at [] i place is = absurd (true≢false (sym is))
  taken_more_at (x ∷ xs) zero place is = is
  taken_more_at (x ∷ xs) (suc i) place is = taken_more_at xs i place is

  pub taken_put : (places : List (Place T)) (item : ℕ) (place : Place T) (i : Option ℕ) → is_taken place ≡ true → IsTakenAt places i
      → IsTakenAt (set places item place) i
  taken_put places item place None new is = tt
  taken_put places item place (Some i) new is = taken_put_at places item i place new is

  pub taken_more : (places : List (Place T)) (place : Place T) (i : Option ℕ) → IsTakenAt places i → IsTakenAt (places ++ place ∷ []) i
  taken_more places place None is = tt
  taken_more places place (Some i) is = taken_more_at places i place is

  pub last_taken : (list : ℕ) (places : List (Place T)) (before : Option ℕ) (l : List (ℕ × T)) (after : Option ℕ) → IsTakenAt places before
      → Chain (taken list) places before l after
      → IsTakenAt places (last_or before l)
  last_taken list places before [] after start chain = start
  last_taken list places before (p ∷ l) after start chain =
      last_taken list places (Some p.0) l after (taken_found places p.0 (record { list = list; prev = before; next = first_or after l }) p.1 chain.0) chain.1

  pub first_taken : (list : ℕ) (places : List (Place T)) (before : Option ℕ) (l : List (ℕ × T)) → Chain (taken list) places before l None
      → IsTakenAt places (first_or None l)
  first_taken list places before [] chain = tt
  first_taken list places before (p ∷ l) chain = taken_found places p.0 (record { list = list; prev = before; next = first_or None l }) p.1 chain.0

  -- an index that stands in no list is listed nowhere
  pub not_listed : (lists : List (List (ℕ × T))) (item : ℕ) → ((j : ℕ) → IsAbsent item (get_or lists j [])) → IsListed lists item → ⊥
  not_listed lists item absent at = there at.before at.value at.after (subst (λ (l : List (ℕ × T)). IsAbsent item l) at.is (absent at.list))
    where
      there : (xs : List (ℕ × T)) (value : T) (ys : List (ℕ × T)) → IsAbsent item (xs ++ (item, value) ∷ ys) → ⊥
      there [] value ys is = is.0 refl
      there (x ∷ xs) value ys is = there xs value ys is.1

  -- ---- how many there are

  pub count_out : (lists : List (List (ℕ × T))) (item : ℕ) (at : IsListed lists item) → record_count (taken_out lists item at) + 1 ≡ record_count lists
  count_out lists item at =
      let there = ap length at.is in
      let changed = sum_by-set (λ (l : List (ℕ × T)). length l) lists at.list (at.before ++ at.after) [] at.within in
      let long : length (at.before ++ (item, at.value) ∷ at.after)
      ≡ length at.before + length ((item, at.value) ∷ at.after) = length-append at.before ((item, at.value) ∷ at.after) in
      let short : length (at.before ++ at.after) ≡ length at.before + length at.after = length-append at.before at.after in
      omega arith

  pub count_back : (lists : List (List (ℕ × T))) (list : ℕ) (p : ℕ × T) → list < length lists → record_count (put_back lists list p) ≡ record_count lists + 1
  count_back lists list p low =
      let changed = sum_by-set (λ (l : List (ℕ × T)). length l) lists list (get_or lists list [] ++ p ∷ []) [] low in
      let longer = length_push (get_or lists list []) p in
      omega arith

  pub count_written : (lists : List (List (ℕ × T))) (item : ℕ) (at : IsListed lists item) (value : T)
      → record_count (set lists at.list (at.before ++ (item, value) ∷ at.after)) ≡ record_count lists
  count_written lists item at value =
      let there = ap length at.is in
      let changed = sum_by-set (λ (l : List (ℕ × T)). length l) lists at.list (at.before ++ (item, value) ∷ at.after) [] at.within in
      let old : length (at.before ++ (item, at.value) ∷ at.after)
      ≡ length at.before + length ((item, at.value) ∷ at.after) = length-append at.before ((item, at.value) ∷ at.after) in
      let new : length (at.before ++ (item, value) ∷ at.after)
      ≡ length at.before + length ((item, value) ∷ at.after) = length-append at.before ((item, value) ∷ at.after) in
      omega arith

-- ---- a record is taken out

module _ {T : Type 0} (places : List (Place T)) (ends : List Ends) (free : Option ℕ) (lists : List (List (ℕ × T))) (h : Holds places ends free lists)
    (item : ℕ) (at : IsListed lists item) where
  apart_vacant : AreApart (all places ends lists item h.threads at) h.vacant
  apart_vacant =
      chains_apart (taken at.list) free_place (taken_not_free at.list) places None (all places ends lists item h.threads at) None None h.vacant None
      (whole places ends lists item h.threads at) h.freed

  pub prev_taken : IsTakenAt places (last_or None at.before)
  prev_taken =
      last_taken at.list places None at.before (Some item) tt
      (chain_front (taken at.list) places None at.before ((item, at.value) ∷ at.after) None (whole places ends lists item h.threads at))

  pub next_taken : IsTakenAt places (first_or None at.after)
  next_taken =
      first_taken at.list places (Some item) at.after
      (chain_rest (taken at.list) places None at.before ((item, at.value) ∷ at.after) None (whole places ends lists item h.threads at)).1

  pub item_taken : IsTakenAt places (Some item)
  item_taken = taken_found places item (links_at at) at.value (found_at places ends lists item h.threads at)

  -- its neighbours stand where they stood, once it is gone
  pub prev_taken_gone : (place : Place T) → IsTakenAt (set places item place) (last_or None at.before)
  prev_taken_gone place = taken_apart places item place (last_or None at.before)
      (last_is_not item None at.before tt (around places ends lists item h.threads at).0) prev_taken

  pub next_taken_gone : (place : Place T) → IsTakenAt (set places item place) (first_or None at.after)
  next_taken_gone place = taken_apart places item place (first_or None at.after) (first_is_not item at.after (once places ends lists item h.threads at).1.0)
      next_taken

  module _ (links : Links) (is : links ≡ links_at at) (p1 : List (Place T)) (is1 : p1 ≡ set places item (Free free)) where
    pub removed_prev : IsTakenAt p1 links.prev
    removed_prev = subst (λ (x : List (Place T) × Links). IsTakenAt x.0 x.1.prev) (sym (λ i. (is1 i, is i))) (prev_taken_gone (Free free))

    pub removed_next : (p2 : List (Place T)) → p2 ≡ next_written links.prev links.next p1 → IsTakenAt p2 links.next
    removed_next p2 is2 =
        subst (λ (ps : List (Place T)). IsTakenAt ps links.next) (sym is2)
        (taken_next_written links.prev links.next p1 links.next
        (subst (λ (x : List (Place T) × Links). IsTakenAt x.0 x.1.next) (sym (λ i. (is1 i, is i))) (next_taken_gone (Free free))))

  pub holds_removed : Holds (gap_places places ends lists item h.threads at (set places item (Free free))) (gap_ends places ends lists item h.threads at)
      (Some item) (taken_out lists item at)
  holds_removed =
      let now : List (Place T) = set places item (Free free) in
      let keeps : Keeps places now item = λ j place apart is. found_other places item j (Free free) apart ∙ is in
      let within = slice_get_within places item (taken at.list (last_or None at.before) (first_or None at.after) at.value)
      (found_at places ends lists item h.threads at) in
      let lengths : length (gap_places places ends lists item h.threads at now) ≡ length places = gap_length places ends lists item h.threads at now
      ∙ length-set places item (Free free) in
      record {
        threads = gap_threads places ends lists item h.threads at now keeps;
        vacant = (item, tt) ∷ h.vacant;
        free_is = refl;
        freed = (
          gap_item places ends lists item h.threads at now ∙ found_same places item (Free free) within ∙ ap (λ (n : Option ℕ). Some (Free n)) h.free_is,
          free_prev (gap_places places ends lists item h.threads at now) None (Some item) h.vacant None
              (gap_other places ends lists item h.threads at now keeps free_place None None h.vacant apart_vacant h.freed),
        );
        total = omega (arith, h.total, count_out lists item at, lengths);
        few = omega (arith, h.few, lengths);
      }

  -- the same, as it is done step by step
  pub holds_removed_then : (links : Links) → links ≡ links_at at → (p1 p2 p3 : List (Place T)) (e1 e2 e3 : List Ends) → p1 ≡ set places item (Free free) → p2
      ≡ next_written links.prev links.next p1
      → p3 ≡ prev_written links.next links.prev p2 → e1 ≡ ends → e2 ≡ first_written links.list links.prev links.next e1 → e3
      ≡ last_written links.list links.next links.prev e2
      → Holds p3 e3 (Some item) (taken_out lists item at)
  holds_removed_then links is p1 p2 p3 e1 e2 e3 is1 is2 is3 es1 es2 es3 =
      let gone : p3 ≡ gap_places places ends lists item h.threads at (set places item (Free free)) =
      is3 ∙ ap (prev_written links.next links.prev) is2
      ∙ (λ k. prev_written (is k).next (is k).prev (next_written (is k).prev (is k).next (is1 k))) in
      let ended : e3 ≡ gap_ends places ends lists item h.threads at =
      es3 ∙ ap (last_written links.list links.next links.prev) es2
      ∙ (λ k. last_written (is k).list (is k).next (is k).prev (first_written (is k).list (is k).prev (is k).next (es1 k))) in
      subst (λ (x : List (Place T) × List Ends). Holds x.0 x.1 (Some item) (taken_out lists item at)) (sym (λ k. (gone k, ended k))) holds_removed

  -- another record stands in its place
  pub holds_written : (value : T)
      → Holds (set places item (taken at.list (last_or None at.before) (first_or None at.after) value)) ends free
      (set lists at.list (at.before ++ (item, value) ∷ at.after))
  holds_written value =
      let place = taken at.list (last_or None at.before) (first_or None at.after) value in
      let lengths : length (set places item place) ≡ length places = length-set places item place in
      record {
        threads = written_threads places ends lists item h.threads at value;
        vacant = h.vacant;
        free_is = h.free_is;
        freed =
            chain_set free_place places item place None h.vacant None
            (apart_parts at.before ((item, at.value) ∷ at.after) h.vacant apart_vacant).1.0 h.freed;
        total = omega (arith, h.total, count_written lists item at value, lengths);
        few = omega (arith, h.few, lengths);
      }

-- ---- a record is put in

module _ {T : Type 0} (places : List (Place T)) (ends : List Ends) (lists : List (List (ℕ × T))) (threads : Threads places ends lists) (list : ℕ)
    (there : list < length lists) where
  pub back_taken : IsTakenAt places (last_or None (get_or lists list []))
  back_taken = last_taken list places None (get_or lists list []) None tt (threads.linked list)

  -- an index at which no record stands is in no list
  pub absent_by : (item : ℕ) (found : Option (Place T)) → slice_get places item ≡ found → ((links : Links) (value : T) → found ≡ Some (Taken links value) → ⊥)
      → (j : ℕ) → IsAbsent item (get_or lists j [])
  absent_by item found is never j =
      absent_other (taken j) places item found is (λ a b x same. never (record { list = j; prev = a; next = b }) x same) None (get_or lists j []) None
      (threads.linked j)

  abbrev pub new_place : T → Place T
  new_place value = taken list (last_or None (get_or lists list [])) None value

  -- in the first free place
  pub holds_reused : (item : ℕ) (next : Option ℕ) (value : T) (vacant : List (ℕ × Unit {0})) → Some item ≡ first_or None vacant
      → Chain free_place places None vacant None
      → length vacant + record_count lists ≡ length places → length places < 2 ^ 32 → slice_get places item ≡ Some (Free next)
      → Holds (back_places places ends lists threads list there item (set places item (new_place value)))
      (back_ends places ends lists threads list there item) next (put_back lists list (item, value))
  holds_reused item next value [] is freed total few found = absurd cc
  holds_reused item next value (p ∷ rest) is freed total few found =
      let now : List (Place T) = set places item (new_place value) in
      let keeps : Keeps places now item = λ j place apart same. found_other places item j (new_place value) apart ∙ same in
      let index : p.0 ≡ item = cc in
      let after : ◌≡◌ {A = Option (Place T)} (Some (Free (first_or None rest))) (Some (Free next)) = sym freed.0 ∙ ap (slice_get places) index ∙ found in
      let absent : (j : ℕ) → IsAbsent item (get_or lists j []) = absent_by item (Some (Free next)) found (λ links x same. cc) in
      let once : AreOnce (p ∷ rest) = chain_once free_place free_next places None (p ∷ rest) freed in
      let apart : AreApart (get_or lists list []) rest =
      chains_apart (taken list) free_place (taken_not_free list) places None (get_or lists list []) None (Some p.0) rest None (threads.linked list) freed.1 in
      let moved : Chain free_place (back_places places ends lists threads list there item now) (Some p.0) rest None =
      back_other places ends lists threads list there item value now keeps free_place (Some p.0) None rest apart
      (subst (λ (i : ℕ). IsAbsent i rest) index once.0) freed.1 in
      let within = slice_get_within places item (Free next) found in
      let lengths : length (back_places places ends lists threads list there item now) ≡ length places =
      next_length (last_or None (get_or lists list [])) (Some item) now ∙ length-set places item (new_place value) in
      record {
        threads = back_threads places ends lists threads list there item value now keeps (found_same places item (new_place value) within) absent;
        vacant = rest;
        free_is = same_next (first_or None rest) next after;
        freed = free_prev (back_places places ends lists threads list there item now) (Some p.0) None rest None moved;
        total = omega (arith, total, count_back lists list (item, value) there, lengths);
        few = omega (arith, few, lengths);
      }
    where
      same_next : (a b : Option ℕ) → ◌≡◌ {A = Option (Place T)} (Some (Free a)) (Some (Free b)) → b ≡ a
      same_next a b same = cc

  -- in a place of its own
  pub holds_pushed : (value : T) (vacant : List (ℕ × Unit {0})) → None ≡ first_or None vacant → length vacant + record_count lists ≡ length places
      → length places + 1 < 2 ^ 32
      → Holds (back_places places ends lists threads list there (length places) (places ++ new_place value ∷ []))
      (back_ends places ends lists threads list there (length places))
      None (put_back lists list (length places, value))
  holds_pushed value (p ∷ rest) is total few = absurd cc
  holds_pushed value [] is total few =
      let now : List (Place T) = places ++ new_place value ∷ [] in
      let keeps : Keeps places now (length places) = λ j place apart same. found_more places (new_place value) j place same in
      let absent : (j : ℕ)
      → IsAbsent (length places) (get_or lists j []) = absent_by (length places) None (slice_get_past places (length places) (omega arith))
      (λ links x same. cc) in
      let lengths : length (back_places places ends lists threads list there (length places) now) ≡ length places + 1 =
      next_length (last_or None (get_or lists list [])) (Some (length places)) now ∙ length_push places (new_place value) in
      record {
        threads = back_threads places ends lists threads list there (length places) value now keeps (found_last places (new_place value)) absent;
        vacant = [];
        free_is = refl;
        freed = tt;
        total = omega (arith, total, count_back lists list (length places, value) there, lengths);
        few = omega (arith, few, lengths);
      }

  -- where a place was opened for it
  opened : (free : Option ℕ) → Holds places ends free lists → (capacity : ℕ) → CanOpen places capacity free
      → (value : T) (now : List (Place T)) (left : Option ℕ) (item : ℕ)
      → Opens places now free left item (new_place value)
      → Holds (next_written (last_or None (get_or lists list [])) (Some item) now) (back_ends places ends lists threads list there item) left
      (put_back lists list (item, value))
  opened None h capacity can value now left item o =
      subst (λ (x : ℕ × List (Place T) × Option ℕ). Holds (next_written (last_or None (get_or lists list [])) (Some x.0) x.1)
      (back_ends places ends lists threads list there x.0) x.2 (put_back lists list (x.0, value)))
      (sym (λ k. (o.0 k, o.1 k, o.2 k)))
      (holds_pushed value h.vacant h.free_is h.total can.1)
  opened (Some free) h capacity can value now left item o =
      subst (λ (x : ℕ × List (Place T)). Holds (next_written (last_or None (get_or lists list [])) (Some x.0) x.1)
      (back_ends places ends lists threads list there x.0) left (put_back lists list (x.0, value)))
      (sym (λ k. (o.0 k, o.1 k)))
      (holds_reused free left value h.vacant h.free_is h.freed h.total h.few
      (slice_get-get_or places free (Free None) can.0 ∙ ap (λ (p : Place T). Some p) o.2))

  -- the same, as it is done step by step
  pub opened_then : (free : Option ℕ) → Holds places ends free lists → (capacity : ℕ) → CanOpen places capacity free → (value : T) (read : Ends) → read
      ≡ get_or ends list read
      → (now p2 : List (Place T)) (e1 e2 : List Ends) (left : Option ℕ) (item : ℕ) → Opens places now free left item (taken list read.last None value) → e1
      ≡ ends
      → p2 ≡ next_written read.last (Some item) now → e2 ≡ last_written list None (Some item) (first_written list read.last (Some item) e1)
      → Holds p2 e2 left (put_back lists list (item, value))
  opened_then free h capacity can value read is now p2 e1 e2 left item o es1 is2 es2 =
      let last : read.last ≡ last_or None (get_or lists list []) = ap (λ (e : Ends). e.last) (ends_read places ends lists threads list there read is) in
      let gone : p2 ≡ next_written (last_or None (get_or lists list [])) (Some item) now = is2 ∙ (λ k. next_written (last k) (Some item) now) in
      let ended : e2 ≡ back_ends places ends lists threads list there item = es2
      ∙ (λ k. last_written list None (Some item) (first_written list (last k) (Some item) (es1 k))) in
      subst (λ (x : List (Place T) × List Ends). Holds x.0 x.1 left (put_back lists list (item, value))) (sym (λ k. (gone k, ended k)))
      (opened free h capacity can value now left item (subst (λ (l : Option ℕ). Opens places now free left item (taken list l None value)) last o))

  opened_taken : (free : Option ℕ) (now : List (Place T)) (left : Option ℕ) (item : ℕ) (value : T) (i : Option ℕ)
      → Opens places now free left item (new_place value) → IsTakenAt places i → IsTakenAt now i
  opened_taken None now left item value i o is = subst (λ (ps : List (Place T)). IsTakenAt ps i) (sym o.1) (taken_more places (new_place value) i is)
  opened_taken (Some free) now left item value i o is = subst (λ (ps : List (Place T)). IsTakenAt ps i) (sym o.1)
      (taken_put places free (new_place value) i refl is)

  pub opened_last : (free : Option ℕ) (read : Ends) → read ≡ get_or ends list read → (now : List (Place T)) (left : Option ℕ) (item : ℕ) (value : T)
      → Opens places now free left item (taken list read.last None value)
      → IsTakenAt now read.last
  opened_last free read is now left item value o =
      let last : read.last ≡ last_or None (get_or lists list []) = ap (λ (e : Ends). e.last) (ends_read places ends lists threads list there read is) in
      subst (IsTakenAt now) (sym last)
      (opened_taken free now left item value (last_or None (get_or lists list []))
      (subst (λ (l : Option ℕ). Opens places now free left item (taken list l None value)) last o) back_taken)

  -- its index stood in no list
  pub opened_fresh : (free : Option ℕ) → Holds places ends free lists → (capacity : ℕ) → CanOpen places capacity free
      → (now : List (Place T)) (left : Option ℕ) (item : ℕ) (new : Place T)
      → Opens places now free left item new → IsListed lists item → ⊥
  opened_fresh None h capacity can now left item new o =
      not_listed lists item (absent_by item None (slice_get_past places item (omega (arith, o.0))) (λ links x same. cc))
  opened_fresh (Some free) h capacity can now left item new o =
      not_listed lists item
      (absent_by item (Some (Free left)) (ap (slice_get places) o.0 ∙ slice_get-get_or places free (Free None) can.0 ∙ ap (λ (p : Place T). Some p) o.2)
      (λ links x same. cc))

-- ---- a record is carried to another list

module _ {T : Type 0} (places : List (Place T)) (ends : List Ends) (free : Option ℕ) (lists : List (List (ℕ × T))) (item : ℕ) (from : Links) (list : ℕ)
    (can : CanCarry places ends free lists item from list) where
  abbrev h : Holds places ends free lists
  h = can.holds

  abbrev at : IsListed lists item
  at = can.at

  stays : Keeps places places item
  stays j place apart is = is

  -- where it was
  abbrev pub left_places : List (Place T)
  left_places = gap_places places ends lists item h.threads at places

  abbrev pub left_ends : List Ends
  left_ends = gap_ends places ends lists item h.threads at

  abbrev left_lists : List (List (ℕ × T))
  left_lists = taken_out lists item at

  pub left_threads : Threads left_places left_ends left_lists
  left_threads = gap_threads places ends lists item h.threads at places stays

  pub left_there : list < length left_lists
  left_there = omega (arith, can.there, length-set lists at.list (at.before ++ at.after))

  abbrev pub left_last : Option ℕ
  left_last = last_or None (get_or left_lists list [])

  pub left_found : slice_get left_places item ≡ Some (taken at.list (last_or None at.before) (first_or None at.after) at.value)
  left_found = gap_item places ends lists item h.threads at places ∙ found_at places ends lists item h.threads at

  -- where it goes
  abbrev pub gone_places : List (Place T)
  gone_places = set left_places item (taken list left_last None at.value)

  gone_keeps : Keeps left_places gone_places item
  gone_keeps j place apart is = found_other left_places item j (taken list left_last None at.value) apart ∙ is

  pub holds_carried : Holds (next_written left_last (Some item) gone_places)
      (last_written list None (Some item) (first_written list left_last (Some item) left_ends)) free (carried can)
  holds_carried =
      let within = slice_get_within left_places item (taken at.list (last_or None at.before) (first_or None at.after) at.value) left_found in
      let apart : AreApart (all places ends lists item h.threads at) h.vacant = apart_vacant places ends free lists h item at in
      let left_freed : Chain free_place left_places None h.vacant None = gap_other places ends lists item h.threads at places stays free_place None None
      h.vacant apart h.freed in
      let left_apart : AreApart (get_or left_lists list []) h.vacant =
      chains_apart (taken list) free_place (taken_not_free list) left_places None (get_or left_lists list []) None None h.vacant None
      (left_threads.linked list) left_freed in
      let lengths : length (next_written left_last (Some item) gone_places) ≡ length places =
      next_length left_last (Some item) gone_places ∙ length-set left_places item (taken list left_last None at.value)
      ∙ gap_length places ends lists item h.threads at places in
      record {
        threads =
            back_threads left_places left_ends left_lists left_threads list left_there item at.value gone_places gone_keeps
            (found_same left_places item (taken list left_last None at.value) within) (loose places ends lists item h.threads at);
        vacant = h.vacant;
        free_is = h.free_is;
        freed =
            back_other left_places left_ends left_lists left_threads list left_there item at.value gone_places gone_keeps free_place None None h.vacant
            left_apart
            (apart_parts at.before ((item, at.value) ∷ at.after) h.vacant apart).1.0 left_freed;
        total = omega (arith, h.total, count_out lists item at, count_back left_lists list (item, at.value) left_there, lengths);
        few = omega (arith, h.few, lengths);
      }

  -- ---- the steps that carry it

  pub from_prev_taken : IsTakenAt places from.prev
  from_prev_taken = subst (IsTakenAt places) (sym (ap (λ (l : Links). l.prev) can.from_is)) (prev_taken places ends free lists h item at)

  pub from_next_taken : IsTakenAt places from.next
  from_next_taken = subst (IsTakenAt places) (sym (ap (λ (l : Links). l.next) can.from_is)) (next_taken places ends free lists h item at)

  pub next_taken_then : (p1 : List (Place T)) → p1 ≡ next_written from.prev from.next places → IsTakenAt p1 from.next
  next_taken_then p1 is1 = subst (λ (ps : List (Place T)). IsTakenAt ps from.next) (sym is1)
      (taken_next_written from.prev from.next places from.next from_next_taken)

  module _ (p1 p2 : List (Place T)) (is1 : p1 ≡ next_written from.prev from.next places) (is2 : p2 ≡ prev_written from.next from.prev p1) where
    pub item_taken_then : IsTakenAt p2 (Some item)
    item_taken_then =
        subst (λ (ps : List (Place T)). IsTakenAt ps (Some item)) (sym (is2 ∙ ap (prev_written from.next from.prev) is1))
        (taken_prev_written from.next from.prev (next_written from.prev from.next places) (Some item)
        (taken_next_written from.prev from.next places (Some item) (item_taken places ends free lists h item at)))

    left_is : p2 ≡ left_places
    left_is = is2 ∙ ap (prev_written from.next from.prev) is1 ∙ ap (λ (l : Links). prev_written l.next l.prev (next_written l.prev l.next places)) can.from_is

    module _ (e1 e2 : List Ends) (read : Ends) (es1 : e1 ≡ first_written from.list from.prev from.next ends)
        (es2 : e2 ≡ last_written from.list from.next from.prev e1) (is : read ≡ get_or e2 list read) where
      left_ends_is : e2 ≡ left_ends
      left_ends_is =
          es2
          ∙ ap (last_written from.list from.next from.prev) es1
          ∙ ap (λ (l : Links). last_written l.list l.next l.prev (first_written l.list l.prev l.next ends)) can.from_is

      last_is : read.last ≡ left_last
      last_is = ap (λ (e : Ends). e.last)
          (ends_read left_places left_ends left_lists left_threads list left_there read (is ∙ ap (λ (es : List Ends). get_or es list read) left_ends_is))

      module _ (p3 : List (Place T)) (is3 : p3 ≡ set p2 item (with_links (record { list = list; prev = read.last; next = None }) (place_at p2 item))) where
        pub last_taken_then : IsTakenAt p3 read.last
        last_taken_then =
            subst (λ (ps : List (Place T)). IsTakenAt ps read.last) (sym is3)
            (taken_links p2 item (record { list = list; prev = read.last; next = None }) read.last
            (subst (IsTakenAt p2) (sym last_is)
            (subst (λ (ps : List (Place T)). IsTakenAt ps left_last) (sym left_is)
            (last_taken list left_places None (get_or left_lists list []) None tt (left_threads.linked list)))))

        gone_is : p3 ≡ gone_places
        gone_is =
            is3
            ∙ (λ i. set (left_is i) item (with_links (record { list = list; prev = last_is i; next = None }) (place_at (left_is i) item)))
            ∙ ap (λ (p : Place T). set left_places item (with_links (record { list = list; prev = left_last; next = None }) p))
            (get_or_from_slice_get left_places item (taken at.list (last_or None at.before) (first_or None at.after) at.value) (Free None) left_found)

        pub holds_then : (p4 : List (Place T)) (e3 e4 : List Ends) → e3 ≡ e2 → p4 ≡ next_written read.last (Some item) p3
            → e4 ≡ last_written list None (Some item) (first_written list read.last (Some item) e3) → Holds p4 e4 free (carried can)
        holds_then p4 e3 e4 es3 is4 es4 =
            let gone : p4 ≡ next_written left_last (Some item) gone_places = is4 ∙ (λ k. next_written (last_is k) (Some item) (gone_is k)) in
            let ended : e4 ≡ last_written list None (Some item) (first_written list left_last (Some item) left_ends) =
            es4 ∙ (λ k. last_written list None (Some item) (first_written list (last_is k) (Some item) ((es3 ∙ left_ends_is) k))) in
            subst (λ (x : List (Place T) × List Ends). Holds x.0 x.1 free (carried can)) (sym (λ k. (gone k, ended k))) holds_carried
