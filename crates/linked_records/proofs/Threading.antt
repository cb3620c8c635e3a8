-- How the lists stay threaded where a record leaves its list, and where one comes to the back of a list.
use Rattle.std.proofs.Common.{◌≡◌, ◌≢◌, ◌<◌, ℕ, List, [], ◌∷◌, ◌++◌, Option, Some, None, length, get_or, set, refl, sym, ◌∙◌, ap, subst, inl, inr, arith}
use Rattle.std.proofs.Common.{append-nil}
use Rattle.std.specs.Prelude.{slice_get, map}
use Rattle.std.proofs.Math.ListN.{get_or-map}
use Rattle.std.proofs.lemmas.Bool.{cases_eq}
use Rattle.std.proofs.lemmas.Option.{slice_get_within}
use Rattle.std.proofs.lemmas.List.{get_or_default, get_or-set_same, get_or-set_other, length-map, map-set, set-get_or, set-set}
use Rattle.linked_records.specs.View.{IsListed, first_or, put_back, taken_out}
use Rattle.linked_records.specs.Places.{Chain, Threads, ends_of, first_written, last_or, last_written, next_written, no_ends, prev_written, taken}
use Rattle.linked_records.specs.declared.place.Ends.{Ends}
use Rattle.linked_records.specs.declared.place.Place.{Place}
use Rattle.linked_records.proofs.Chains.{AreApart, AreOnce, IsAbsent, absent_joined, apart_parts, apart_sym, chain_front, chain_joined, chain_kept}
use Rattle.linked_records.proofs.Chains.{chain_next, chain_once, chain_prev, chain_rest, chain_set, chains_apart, first_joined, found_same}
use Rattle.linked_records.proofs.Chains.{first_is_not, first_not_in, last_is_not, last_joined, last_not_in, lists_differ, next_kept, next_length, once_parts}
use Rattle.linked_records.proofs.Chains.{prev_kept, prev_length, relinked_first, relinked_last, taken_next}

-- what a write leaves where it doesn't write
abbrev pub Keeps : {T : Type 0} → List (Place T) → List (Place T) → ℕ → Type 0
Keeps {T} old new item = (j : ℕ) (place : Place T) → j ≢ item → slice_get old j ≡ Some place → slice_get new j ≡ Some place

-- ---- the ends of lists

-- the new one, where there is nothing beside it
abbrev unless : Option ℕ → Option ℕ → Option ℕ → Option ℕ
unless None new old = new
unless (Some i) new old = old

first_is : (k : ℕ) (b new : Option ℕ) (ends : List Ends)
    → first_written k b new ends ≡ set ends k (record { first = unless b new (get_or ends k no_ends).first; last = (get_or ends k no_ends).last })
first_is k None new ends = refl
first_is k (Some i) new ends = sym (set-get_or ends k no_ends)

last_is : (k : ℕ) (b new : Option ℕ) (ends : List Ends)
    → last_written k b new ends ≡ set ends k (record { first = (get_or ends k no_ends).first; last = unless b new (get_or ends k no_ends).last })
last_is k None new ends = refl
last_is k (Some i) new ends = sym (set-get_or ends k no_ends)

abbrev ends_with : Option ℕ → Option ℕ → Option ℕ → Option ℕ → Ends → Ends
ends_with b first a last e = record { first = unless b first e.first; last = unless a last e.last }

both_ends : (k : ℕ) (b first a last : Option ℕ) (ends : List Ends) → k < length ends
    → last_written k a last (first_written k b first ends) ≡ set ends k (ends_with b first a last (get_or ends k no_ends))
both_ends k b first a last ends low =
    let e = get_or ends k no_ends in
    let one : Ends = record { first = unless b first e.first; last = e.last } in
    ap (last_written k a last) (first_is k b first ends)
    ∙ last_is k a last (set ends k one)
    ∙ ap (λ (x : Ends). set (set ends k one) k (record { first = x.first; last = unless a last x.last })) (get_or-set_same ends k one no_ends low)
    ∙ set-set ends k one (ends_with b first a last e)

module _ {T : Type 0} where
  unless_last : (i : ℕ) (xs : List (ℕ × T)) (new old : Option ℕ) → unless (last_or (Some i) xs) new old ≡ old
  unless_last i [] new old = refl
  unless_last i (x ∷ xs) new old = unless_last x.0 xs new old

  gap_first : (xs : List (ℕ × T)) (p : ℕ × T) (ys : List (ℕ × T)) → unless (last_or None xs) (first_or None ys) (first_or None (xs ++ p ∷ ys))
      ≡ first_or None (xs ++ ys)
  gap_first [] p ys = refl
  gap_first (x ∷ xs) p ys = unless_last x.0 xs (first_or None ys) (Some x.0)

  gap_last : (xs : List (ℕ × T)) (p : ℕ × T) (ys : List (ℕ × T)) → unless (first_or None ys) (last_or None xs) (last_or None (xs ++ p ∷ ys))
      ≡ last_or None (xs ++ ys)
  gap_last xs p [] = ap (last_or None) (sym (append-nil xs))
  gap_last xs p (y ∷ ys) = last_joined None xs (p ∷ y ∷ ys) ∙ sym (last_joined None xs (y ∷ ys))

  back_first : (xs : List (ℕ × T)) (p : ℕ × T) → unless (last_or None xs) (Some p.0) (first_or None xs) ≡ first_or None (xs ++ p ∷ [])
  back_first [] p = refl
  back_first (x ∷ xs) p = unless_last x.0 xs (Some p.0) (Some x.0)

  back_last : (xs : List (ℕ × T)) (p : ℕ × T) → Some p.0 ≡ last_or None (xs ++ p ∷ [])
  back_last xs p = sym (last_joined None xs (p ∷ []))

  -- the ends of one list change
  ends_changed : (k : ℕ) (b first a last : Option ℕ) (ends : List Ends) (lists : List (List (ℕ × T))) (l : List (ℕ × T)) → ends ≡ map ends_of lists
      → k < length lists
      → ends_with b first a last (ends_of (get_or lists k [])) ≡ ends_of l
      → last_written k a last (first_written k b first ends) ≡ map ends_of (set lists k l)
  ends_changed k b first a last ends lists l is low same =
      let there : k < length ends = omega (arith, low, ap length is, length-map lists (ends_of {T = T})) in
      let here : get_or ends k no_ends ≡ ends_of (get_or lists k []) = ap (λ (es : List Ends). get_or es k no_ends) is ∙ get_or-map ends_of lists k [] in
      both_ends k b first a last ends there
      ∙ ap (λ (e : Ends). set ends k (ends_with b first a last e)) here
      ∙ ap (set ends k) same
      ∙ ap (λ (es : List Ends). set es k (ends_of l)) is
      ∙ sym (map-set ends_of lists k l)

-- ---- a record leaves its list

module _ {T : Type 0} (places : List (Place T)) (ends : List Ends) (lists : List (List (ℕ × T))) (item : ℕ) (threads : Threads places ends lists)
    (at : IsListed lists item) where
  abbrev pub all : List (ℕ × T)
  all = at.before ++ (item, at.value) ∷ at.after

  abbrev pub prev : Option ℕ
  prev = last_or None at.before

  abbrev pub next : Option ℕ
  next = first_or None at.after

  pub whole : Chain (taken at.list) places None all None
  whole = subst (λ (l : List (ℕ × T)). Chain (taken at.list) places None l None) at.is (threads.linked at.list)

  rest : Chain (taken at.list) places prev ((item, at.value) ∷ at.after) None
  rest = chain_rest (taken at.list) places None at.before ((item, at.value) ∷ at.after) None whole

  -- where it stands
  pub found_at : slice_get places item ≡ Some (taken at.list prev next at.value)
  found_at = rest.0

  pub once : AreOnce at.before × AreOnce ((item, at.value) ∷ at.after) × AreApart at.before ((item, at.value) ∷ at.after)
  once = once_parts at.before ((item, at.value) ∷ at.after) (chain_once (taken at.list) (taken_next at.list) places None all whole)

  pub around : IsAbsent item at.before × AreApart at.after at.before
  around = apart_sym at.before ((item, at.value) ∷ at.after) once.2

  -- another list has none of its indices
  pub other_apart : (j : ℕ) → j ≢ at.list → AreApart all (get_or lists j [])
  other_apart j apart =
      chains_apart (taken at.list) (taken j) (lists_differ at.list j (λ same. apart (sym same))) places None all None None (get_or lists j []) None whole
      (threads.linked j)

  -- its index stands in no list afterwards
  pub loose : (j : ℕ) → IsAbsent item (get_or (taken_out lists item at) j [])
  loose j =
      elim (cases_eq j at.list) [
        | inl same ↦
            subst (λ (i : ℕ). IsAbsent item (get_or (taken_out lists item at) i [])) (sym same)
            (subst (λ (l : List (ℕ × T)). IsAbsent item l) (sym (get_or-set_same lists at.list (at.before ++ at.after) [] at.within))
            (absent_joined item at.before at.after around.0 once.1.0))
        | inr apart ↦
            subst (λ (l : List (ℕ × T)). IsAbsent item l) (sym (get_or-set_other lists at.list j (at.before ++ at.after) [] apart))
            (apart_parts at.before ((item, at.value) ∷ at.after) (get_or lists j []) (other_apart j apart)).1.0
      ]

  -- another record stands in its place
  pub written_threads : (value : T)
      → Threads (set places item (taken at.list prev next value)) ends (set lists at.list (at.before ++ (item, value) ∷ at.after))
  written_threads value =
      let made = taken {T = T} at.list in
      let now : List (Place T) = set places item (taken at.list prev next value) in
      let new : List (ℕ × T) = at.before ++ (item, value) ∷ at.after in
      let here : slice_get now item ≡ Some (taken at.list prev next value) =
      found_same places item (taken at.list prev next value) (slice_get_within places item (taken at.list prev next at.value) found_at) in
      let list : Chain made now None new None =
      chain_joined made now None at.before ((item, value) ∷ at.after) None
      (chain_set made places item (taken at.list prev next value) None at.before (Some item) around.0
      (chain_front made places None at.before ((item, at.value) ∷ at.after) None whole))
      (here, chain_set made places item (taken at.list prev next value) (Some item) at.after None once.1.0 rest.1) in
      let same_ends : ends_of (get_or lists at.list []) ≡ ends_of new =
      ap (ends_of {T = T}) at.is
      ∙ λ i. record {
        first = (first_joined None at.before ((item, at.value) ∷ at.after) ∙ sym (first_joined None at.before ((item, value) ∷ at.after))) i;
        last = (last_joined None at.before ((item, at.value) ∷ at.after) ∙ sym (last_joined None at.before ((item, value) ∷ at.after))) i;
      } in
      record {
        ends_are =
            threads.ends_are
            ∙ sym (set-get_or (map ends_of lists) at.list no_ends)
            ∙ ap (set (map ends_of lists) at.list) (get_or-map ends_of lists at.list [] ∙ same_ends)
            ∙ sym (map-set ends_of lists at.list new);
        linked = λ j. elim (cases_eq j at.list) [
          | inl same ↦
              subst (λ (i : ℕ). Chain (taken i) now None (get_or (set lists at.list new) i []) None) (sym same)
              (subst (λ (l : List (ℕ × T)). Chain (taken at.list) now None l None) (sym (get_or-set_same lists at.list new [] at.within)) list)
          | inr apart ↦
              subst (λ (l : List (ℕ × T)). Chain (taken j) now None l None) (sym (get_or-set_other lists at.list j new [] apart))
              (chain_set (taken j) places item (taken at.list prev next value) None (get_or lists j []) None
              (apart_parts at.before ((item, at.value) ∷ at.after) (get_or lists j []) (other_apart j apart)).1.0 (threads.linked j))
        ];
      }

  -- its index stands in no other list
  pub other_absent : (j : ℕ) → j ≢ at.list → IsAbsent item (get_or lists j [])
  other_absent j apart = (apart_parts at.before ((item, at.value) ∷ at.after) (get_or lists j []) (other_apart j apart)).1.0

  -- the places where it was, once its neighbours are joined
  abbrev pub gap_places : List (Place T) → List (Place T)
  gap_places now = prev_written next prev (next_written prev next now)

  abbrev pub gap_ends : List Ends
  gap_ends = last_written at.list next prev (first_written at.list prev next ends)

  pub gap_length : (now : List (Place T)) → length (gap_places now) ≡ length now
  gap_length now = prev_length next prev (next_written prev next now) ∙ next_length prev next now

  -- its own place stays as it is
  pub gap_item : (now : List (Place T)) → slice_get (gap_places now) item ≡ slice_get now item
  gap_item now =
      prev_kept next prev (next_written prev next now) item (first_is_not item at.after once.1.0)
      ∙ next_kept prev next now item (last_is_not item None at.before tt around.0)

  module _ (now : List (Place T)) (keeps : Keeps places now item) where
    -- what has no index of its list stays threaded
    pub gap_other : {A : Type 0} (made : Option ℕ → Option ℕ → A → Place T) (before after : Option ℕ) (m : List (ℕ × A)) → AreApart all m
        → Chain made places before m after
        → Chain made (gap_places now) before m after
    gap_other {A} made before after m apart chain =
        let parts : AreApart at.before m × AreApart ((item, at.value) ∷ at.after) m = apart_parts at.before ((item, at.value) ∷ at.after) m apart in
        chain_prev made next prev (next_written prev next now) before m after (first_not_in at.after m parts.1.1)
        (chain_next made prev next now before m after (last_not_in at.before m parts.0)
        (chain_kept made places now item keeps before m after parts.1.0 chain))

    gap_list : Chain (taken at.list) (gap_places now) None (at.before ++ at.after) None
    gap_list =
        let made = taken {T = T} at.list in
        let front : Chain made now None at.before (Some item) =
        chain_kept made places now item keeps None at.before (Some item) around.0
        (chain_front made places None at.before ((item, at.value) ∷ at.after) None whole) in
        let front_linked : Chain made (next_written prev next now) None at.before next = relinked_last at.list now None at.before (Some item) next once.0
        front in
        let back : Chain made now (Some item) at.after None = chain_kept made places now item keeps (Some item) at.after None once.1.0 rest.1 in
        let back_kept : Chain made (next_written prev next now) (Some item) at.after None =
        chain_next made prev next now (Some item) at.after None (last_not_in at.before at.after (apart_sym at.after at.before around.1)) back in
        chain_joined made (gap_places now) None at.before at.after None
        (chain_prev made next prev (next_written prev next now) None at.before next (first_not_in at.after at.before around.1) front_linked)
        (relinked_first at.list (next_written prev next now) (Some item) prev at.after None once.1.1 back_kept)

    -- the lists are threaded without it
    pub gap_threads : Threads (gap_places now) gap_ends (taken_out lists item at)
    gap_threads = record {
      ends_are =
          ends_changed at.list prev next next prev ends lists (at.before ++ at.after) threads.ends_are at.within
          (ap (λ (l : List (ℕ × T)). ends_with prev next next prev (ends_of l)) at.is
          ∙ λ i. record { first = gap_first at.before (item, at.value) at.after i; last = gap_last at.before (item, at.value) at.after i });
      linked = λ j. elim (cases_eq j at.list) [
        | inl same ↦
            subst (λ (i : ℕ). Chain (taken i) (gap_places now) None (get_or (taken_out lists item at) i []) None) (sym same)
            (subst (λ (l : List (ℕ × T)). Chain (taken at.list) (gap_places now) None l None)
            (sym (get_or-set_same lists at.list (at.before ++ at.after) [] at.within)) gap_list)
        | inr apart ↦
            subst (λ (l : List (ℕ × T)). Chain (taken j) (gap_places now) None l None)
            (sym (get_or-set_other lists at.list j (at.before ++ at.after) [] apart))
            (gap_other (taken j) None None (get_or lists j []) (other_apart j apart) (threads.linked j))
      ];
    }

-- ---- a record comes to the back of a list

module _ {T : Type 0} (places : List (Place T)) (ends : List Ends) (lists : List (List (ℕ × T))) (threads : Threads places ends lists) (list : ℕ)
    (there : list < length lists) where
  abbrev pub those : List (ℕ × T)
  those = get_or lists list []

  abbrev pub last : Option ℕ
  last = last_or None those

  -- the ends of that list, as they are read
  pub ends_read : (read : Ends) → read ≡ get_or ends list read → read ≡ ends_of those
  ends_read read is =
      is
      ∙ get_or_default ends list read no_ends (omega (arith, there, ap length threads.ends_are, length-map lists (ends_of {T = T})))
      ∙ ap (λ (es : List Ends). get_or es list no_ends) threads.ends_are
      ∙ get_or-map ends_of lists list []

  pub those_apart : (j : ℕ) → j ≢ list → AreApart those (get_or lists j [])
  those_apart j apart =
      chains_apart (taken list) (taken j) (lists_differ list j (λ same. apart (sym same))) places None those None None (get_or lists j []) None
      (threads.linked list) (threads.linked j)

  -- the places with one more at the back of that list
  abbrev pub back_places : ℕ → List (Place T) → List (Place T)
  back_places item now = next_written last (Some item) now

  abbrev pub back_ends : ℕ → List Ends
  back_ends item = last_written list None (Some item) (first_written list last (Some item) ends)

  module _ (item : ℕ) (value : T) (now : List (Place T)) (keeps : Keeps places now item) where
    -- what has no index of that list stays threaded
    pub back_other : {A : Type 0} (made : Option ℕ → Option ℕ → A → Place T) (before after : Option ℕ) (m : List (ℕ × A)) → AreApart those m → IsAbsent item m
        → Chain made places before m after
        → Chain made (back_places item now) before m after
    back_other made before after m apart absent chain =
        chain_next made last (Some item) now before m after (last_not_in those m apart) (chain_kept made places now item keeps before m after absent chain)

    module _ (found : slice_get now item ≡ Some (taken list last None value)) (absent : (j : ℕ) → IsAbsent item (get_or lists j [])) where
      back_list : Chain (taken list) (back_places item now) None (those ++ (item, value) ∷ []) None
      back_list =
          let made = taken {T = T} list in
          chain_joined made (back_places item now) None those ((item, value) ∷ []) None
          (relinked_last list now None those None (Some item) (chain_once made (taken_next list) places None those (threads.linked list))
          (chain_kept made places now item keeps None those None (absent list) (threads.linked list)))
          (next_kept last (Some item) now item (last_is_not item None those tt (absent list)) ∙ found, tt)

      -- the lists are threaded with it
      pub back_threads : Threads (back_places item now) (back_ends item) (put_back lists list (item, value))
      back_threads = record {
        ends_are =
            ends_changed list last (Some item) None (Some item) ends lists (those ++ (item, value) ∷ []) threads.ends_are there
            (λ i. record { first = back_first those (item, value) i; last = back_last those (item, value) i });
        linked = λ j. elim (cases_eq j list) [
          | inl same ↦
              subst (λ (i : ℕ). Chain (taken i) (back_places item now) None (get_or (put_back lists list (item, value)) i []) None) (sym same)
              (subst (λ (l : List (ℕ × T)). Chain (taken list) (back_places item now) None l None)
              (sym (get_or-set_same lists list (those ++ (item, value) ∷ []) [] there)) back_list)
          | inr apart ↦
              subst (λ (l : List (ℕ × T)). Chain (taken j) (back_places item now) None l None)
              (sym (get_or-set_other lists list j (those ++ (item, value) ∷ []) [] apart))
              (back_other (taken j) None None (get_or lists j []) (those_apart j apart) (absent j) (threads.linked j))
        ];
      }
