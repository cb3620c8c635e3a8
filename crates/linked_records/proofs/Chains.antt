-- A list that is threaded through places: what a write leaves of it, and that no index stands in it twice.
use Rattle.std.proofs.Common.{◌≡◌, ◌≢◌, ◌<◌, ℕ, zero, suc, List, [], ◌∷◌, ◌++◌, Option, Some, None, length, set, refl, sym, ◌∙◌, ap, arith, length-set}
use Rattle.std.specs.Prelude.{slice_get}
use Rattle.std.proofs.lemmas.Option.{slice_get_within, get_or_from_slice_get}
use Rattle.linked_records.specs.View.{first_or}
use Rattle.linked_records.specs.Places.{Chain, first_written, free_place, last_or, links_of, next_written, place_at, prev_written, taken, with_next}
use Rattle.linked_records.specs.Places.{with_prev}
use Rattle.linked_records.specs.declared.place.Ends.{Ends}
use Rattle.linked_records.specs.declared.place.Place.{Place}
use Rattle.linked_records.specs.declared.place.Place.TheVariants.{Free}

-- ---- places

module _ {X : Type 0} where
  pub found_other : (xs : List X) (i j : ℕ) (x : X) → j ≢ i → slice_get (set xs i x) j ≡ slice_get xs j
  found_other [] i j x apart = refl
  found_other (y ∷ ys) zero zero x apart = absurd (apart refl)
  found_other (y ∷ ys) zero (suc j) x apart = refl
  found_other (y ∷ ys) (suc i) zero x apart = refl
  found_other (y ∷ ys) (suc i) (suc j) x apart = found_other ys i j x (λ same. apart (ap suc same))

  pub found_same : (xs : List X) (i : ℕ) (x : X) → i < length xs → slice_get (set xs i x) i ≡ Some x
  found_same [] i x low = absurd (omega (arith, low))
  found_same (y ∷ ys) zero x low = refl
  found_same (y ∷ ys) (suc i) x low = found_same ys i x (omega arith)

  pub found_more : (xs : List X) (y : X) (i : ℕ) (x : X) → slice_get xs i ≡ Some x → slice_get (xs ++ y ∷ []) i ≡ Some x
  found_more [] y i x is = absurd cc
  found_more (z ∷ zs) y zero x is = is
  found_more (z ∷ zs) y (suc i) x is = found_more zs y i x is

  pub found_last : (xs : List X) (y : X) → slice_get (xs ++ y ∷ []) (length xs) ≡ Some y
  found_last [] y = refl
  found_last (z ∷ zs) y = found_last zs y

-- ---- indices

-- no item of a list has this index
abbrev pub IsAbsent : {A : Type 0} → ℕ → List (ℕ × A) → Type 0
IsAbsent item [] = Unit {0}
IsAbsent item (p ∷ l) = (p.0 ≢ item) × IsAbsent item l

abbrev pub IsNotIn : {A : Type 0} → Option ℕ → List (ℕ × A) → Type 0
IsNotIn None l = Unit {0}
IsNotIn (Some item) l = IsAbsent item l

abbrev pub IsNot : ℕ → Option ℕ → Type 0
IsNot item None = Unit {0}
IsNot item (Some other) = other ≢ item

-- no index of the one list stands in the other
abbrev pub AreApart : {A B : Type 0} → List (ℕ × A) → List (ℕ × B) → Type 0
AreApart [] ys = Unit {0}
AreApart (p ∷ xs) ys = IsAbsent p.0 ys × AreApart xs ys

-- no index stands twice in a list
abbrev pub AreOnce : {A : Type 0} → List (ℕ × A) → Type 0
AreOnce [] = Unit {0}
AreOnce (p ∷ l) = IsAbsent p.0 l × AreOnce l

module _ {A B : Type 0} where
  apart_tail : (xs : List (ℕ × A)) (q : ℕ × B) (ys : List (ℕ × B)) → AreApart xs (q ∷ ys) → IsAbsent q.0 xs × AreApart xs ys
  apart_tail [] q ys apart = (tt, tt)
  apart_tail (p ∷ xs) q ys apart =
      let rest : IsAbsent q.0 xs × AreApart xs ys = apart_tail xs q ys apart.1 in
      (((λ same. apart.0.0 (sym same)), rest.0), (apart.0.1, rest.1))

  pub apart_sym : (xs : List (ℕ × A)) (ys : List (ℕ × B)) → AreApart xs ys → AreApart ys xs
  apart_sym xs [] apart = tt
  apart_sym xs (q ∷ ys) apart =
      let parts : IsAbsent q.0 xs × AreApart xs ys = apart_tail xs q ys apart in
      (parts.0, apart_sym xs ys parts.1)

  pub apart_parts : (xs zs : List (ℕ × A)) (ys : List (ℕ × B)) → AreApart (xs ++ zs) ys → AreApart xs ys × AreApart zs ys
  apart_parts [] zs ys apart = (tt, apart)
  apart_parts (p ∷ xs) zs ys apart =
      let rest : AreApart xs ys × AreApart zs ys = apart_parts xs zs ys apart.1 in
      ((apart.0, rest.0), rest.1)

  last_apart : (prev : Option ℕ) (xs : List (ℕ × A)) (ys : List (ℕ × B)) → IsNotIn prev ys → AreApart xs ys → IsNotIn (last_or prev xs) ys
  last_apart prev [] ys start apart = start
  last_apart prev (p ∷ xs) ys start apart = last_apart (Some p.0) xs ys apart.0 apart.1

  -- the last index of the one list doesn't stand in the other
  pub last_not_in : (xs : List (ℕ × A)) (ys : List (ℕ × B)) → AreApart xs ys → IsNotIn (last_or None xs) ys
  last_not_in xs ys apart = last_apart None xs ys tt apart

  -- the first index of the one list doesn't stand in the other
  pub first_not_in : (xs : List (ℕ × A)) (ys : List (ℕ × B)) → AreApart xs ys → IsNotIn (first_or None xs) ys
  first_not_in [] ys apart = tt
  first_not_in (p ∷ xs) ys apart = apart.0

module _ {A : Type 0} where
  pub once_parts : (xs ys : List (ℕ × A)) → AreOnce (xs ++ ys) → AreOnce xs × AreOnce ys × AreApart xs ys
  once_parts [] ys once = (tt, once, tt)
  once_parts (p ∷ xs) ys once =
      let rest : AreOnce xs × AreOnce ys × AreApart xs ys = once_parts xs ys once.1 in
      let here : IsAbsent p.0 xs × IsAbsent p.0 ys = absent_parts p.0 xs ys once.0 in
      ((here.0, rest.0), rest.1, (here.1, rest.2))
    where
      absent_parts : (i : ℕ) (xs ys : List (ℕ × A)) → IsAbsent i (xs ++ ys) → IsAbsent i xs × IsAbsent i ys
      absent_parts i [] ys absent = (tt, absent)
      absent_parts i (q ∷ xs) ys absent =
          let rest : IsAbsent i xs × IsAbsent i ys = absent_parts i xs ys absent.1 in
          ((absent.0, rest.0), rest.1)

  pub absent_joined : (i : ℕ) (xs ys : List (ℕ × A)) → IsAbsent i xs → IsAbsent i ys → IsAbsent i (xs ++ ys)
  absent_joined i [] ys front back = back
  absent_joined i (q ∷ xs) ys front back = (front.0, absent_joined i xs ys front.1 back)

  -- the last of a list is another index than one that doesn't stand there
  pub last_is_not : (i : ℕ) (prev : Option ℕ) (l : List (ℕ × A)) → IsNot i prev → IsAbsent i l → IsNot i (last_or prev l)
  last_is_not i prev [] start absent = start
  last_is_not i prev (q ∷ l) start absent = last_is_not i (Some q.0) l absent.0 absent.1

  pub first_is_not : (i : ℕ) (l : List (ℕ × A)) → IsAbsent i l → IsNot i (first_or None l)
  first_is_not i [] absent = tt
  first_is_not i (q ∷ l) absent = absent.0

  pub first_joined : (next : Option ℕ) (xs ys : List (ℕ × A)) → first_or next (xs ++ ys) ≡ first_or (first_or next ys) xs
  first_joined next [] ys = refl
  first_joined next (p ∷ xs) ys = refl

  pub last_joined : (prev : Option ℕ) (xs ys : List (ℕ × A)) → last_or prev (xs ++ ys) ≡ last_or (last_or prev xs) ys
  last_joined prev [] ys = refl
  last_joined prev (p ∷ xs) ys = last_joined (Some p.0) xs ys

-- ---- writes of links

module _ {T : Type 0} where
  pub next_length : (b next : Option ℕ) (places : List (Place T)) → length (next_written b next places) ≡ length places
  next_length None next places = refl
  next_length (Some j) next places = omega (arith, length-set {A = Place T})

  pub prev_length : (b prev : Option ℕ) (places : List (Place T)) → length (prev_written b prev places) ≡ length places
  prev_length None prev places = refl
  prev_length (Some j) prev places = omega (arith, length-set {A = Place T})

  -- places where links were written around a record
  pub around_length : (prev next : Option ℕ) (places p1 p2 : List (Place T)) → p1 ≡ next_written prev next places → p2 ≡ prev_written next prev p1
      → length p2 ≡ length places
  around_length prev next places p1 p2 is1 is2 = ap length is2 ∙ prev_length next prev p1 ∙ ap length is1 ∙ next_length prev next places

  pub next_kept : (b next : Option ℕ) (places : List (Place T)) (i : ℕ) → IsNot i b → slice_get (next_written b next places) i ≡ slice_get places i
  next_kept None next places i apart = refl
  next_kept (Some j) next places i apart = found_other places j i (with_next next (place_at places j)) (λ same. apart (sym same))

  pub prev_kept : (b prev : Option ℕ) (places : List (Place T)) (i : ℕ) → IsNot i b → slice_get (prev_written b prev places) i ≡ slice_get places i
  prev_kept None prev places i apart = refl
  prev_kept (Some j) prev places i apart = found_other places j i (with_prev prev (place_at places j)) (λ same. apart (sym same))

  next_changed : (places : List (Place T)) (list : ℕ) (prev next new : Option ℕ) (value : T) (i : ℕ) → slice_get places i ≡ Some (taken list prev next value)
      → slice_get (next_written (Some i) new places) i ≡ Some (taken list prev new value)
  next_changed places list prev next new value i is =
      found_same places i (with_next new (place_at places i)) (slice_get_within places i (taken list prev next value) is)
      ∙ ap (λ (p : Place T). Some (with_next new p)) (get_or_from_slice_get places i (taken list prev next value) (Free None) is)

  prev_changed : (places : List (Place T)) (list : ℕ) (prev next new : Option ℕ) (value : T) (i : ℕ) → slice_get places i ≡ Some (taken list prev next value)
      → slice_get (prev_written (Some i) new places) i ≡ Some (taken list new next value)
  prev_changed places list prev next new value i is =
      found_same places i (with_prev new (place_at places i)) (slice_get_within places i (taken list prev next value) is)
      ∙ ap (λ (p : Place T). Some (with_prev new p)) (get_or_from_slice_get places i (taken list prev next value) (Free None) is)

pub first_length : (list : ℕ) (b first : Option ℕ) (ends : List Ends) → length (first_written list b first ends) ≡ length ends
first_length list None first ends = omega (arith, length-set {A = Ends})
first_length list (Some j) first ends = refl

-- ---- chains

module _ {T A : Type 0} (made : Option ℕ → Option ℕ → A → Place T) where
  -- what stands elsewhere doesn't matter
  pub chain_kept : (old new : List (Place T)) (item : ℕ)
      → ((j : ℕ) (place : Place T) → j ≢ item → slice_get old j ≡ Some place → slice_get new j ≡ Some place)
      → (prev : Option ℕ) (l : List (ℕ × A)) (next : Option ℕ) → IsAbsent item l → Chain made old prev l next → Chain made new prev l next
  chain_kept old new item keeps prev [] next absent chain = tt
  chain_kept old new item keeps prev (p ∷ l) next absent chain =
      (keeps p.0 (made prev (first_or next l) p.1) absent.0 chain.0, chain_kept old new item keeps (Some p.0) l next absent.1 chain.1)

  pub chain_set : (places : List (Place T)) (item : ℕ) (place : Place T) (prev : Option ℕ) (l : List (ℕ × A)) (next : Option ℕ) → IsAbsent item l
      → Chain made places prev l next
      → Chain made (set places item place) prev l next
  chain_set places item place =
      chain_kept places (set places item place) item (λ j other apart is. found_other places item j place apart ∙ is)

  pub chain_next : (b new : Option ℕ) (places : List (Place T)) (prev : Option ℕ) (l : List (ℕ × A)) (next : Option ℕ) → IsNotIn b l
      → Chain made places prev l next
      → Chain made (next_written b new places) prev l next
  chain_next None new places prev l next absent chain = chain
  chain_next (Some j) new places prev l next absent chain = chain_set places j (with_next new (place_at places j)) prev l next absent chain

  pub chain_prev : (b new : Option ℕ) (places : List (Place T)) (prev : Option ℕ) (l : List (ℕ × A)) (next : Option ℕ) → IsNotIn b l
      → Chain made places prev l next
      → Chain made (prev_written b new places) prev l next
  chain_prev None new places prev l next absent chain = chain
  chain_prev (Some j) new places prev l next absent chain = chain_set places j (with_prev new (place_at places j)) prev l next absent chain

  pub chain_front : (places : List (Place T)) (prev : Option ℕ) (xs ys : List (ℕ × A)) (next : Option ℕ) → Chain made places prev (xs ++ ys) next
      → Chain made places prev xs (first_or next ys)
  chain_front places prev [] ys next chain = tt
  chain_front places prev (p ∷ xs) ys next chain =
      (chain.0 ∙ ap (λ (n : Option ℕ). Some (made prev n p.1)) (first_joined next xs ys), chain_front places (Some p.0) xs ys next chain.1)

  pub chain_rest : (places : List (Place T)) (prev : Option ℕ) (xs ys : List (ℕ × A)) (next : Option ℕ) → Chain made places prev (xs ++ ys) next
      → Chain made places (last_or prev xs) ys next
  chain_rest places prev [] ys next chain = chain
  chain_rest places prev (p ∷ xs) ys next chain = chain_rest places (Some p.0) xs ys next chain.1

  pub chain_joined : (places : List (Place T)) (prev : Option ℕ) (xs ys : List (ℕ × A)) (next : Option ℕ) → Chain made places prev xs (first_or next ys)
      → Chain made places (last_or prev xs) ys next
      → Chain made places prev (xs ++ ys) next
  chain_joined places prev [] ys next front back = back
  chain_joined places prev (p ∷ xs) ys next front back =
      (front.0 ∙ ap (λ (n : Option ℕ). Some (made prev n p.1)) (sym (first_joined next xs ys)), chain_joined places (Some p.0) xs ys next front.1 back)

  -- an index at which something else is found doesn't stand in a chain
  pub absent_other : (places : List (Place T)) (i : ℕ) (found : Option (Place T)) → slice_get places i ≡ found
      → ((a b : Option ℕ) (x : A) → found ≡ Some (made a b x) → ⊥)
      → (prev : Option ℕ) (l : List (ℕ × A)) (next : Option ℕ) → Chain made places prev l next → IsAbsent i l
  absent_other places i found is never prev [] next chain = tt
  absent_other places i found is never prev (p ∷ l) next chain = (
    λ same. never prev (first_or next l) p.1 (sym is ∙ ap (slice_get places) (sym same) ∙ chain.0),
    absent_other places i found is never (Some p.0) l next chain.1,
  )

  module _ (apart : (a b : Option ℕ) (x : A) (c d : Option ℕ) (y : A) → made a b x ≡ made c d y → b ≡ d) where
    -- where two chains begin at one index, they are equally long
    same_length : (places : List (Place T)) (prev other : Option ℕ) (l m : List (ℕ × A)) → Chain made places prev l None → Chain made places other m None
        → first_or None l ≡ first_or None m
        → length l ≡ length m
    same_length places prev other [] [] first second same = refl
    same_length places prev other [] (q ∷ m) first second same = absurd cc
    same_length places prev other (p ∷ l) [] first second same = absurd cc
    same_length places prev other (p ∷ l) (q ∷ m) first second same =
        let index : p.0 ≡ q.0 = cc in
        let here : ◌≡◌ {A = Option (Place T)} (Some (made prev (first_or None l) p.1)) (Some (made other (first_or None m) q.1)) = sym first.0
        ∙ ap (slice_get places) index ∙ second.0 in
        let place : made prev (first_or None l) p.1 ≡ made other (first_or None m) q.1 = cc in
        ap suc (same_length places (Some p.0) (Some q.0) l m first.1 second.1 (apart prev (first_or None l) p.1 other (first_or None m) q.1 place))

    absent_shorter : (places : List (Place T)) (item : ℕ) (other : Option ℕ) (m : List (ℕ × A)) → Chain made places other m None → first_or None m ≡ Some item
        → (prev : Option ℕ) (l : List (ℕ × A)) → Chain made places prev l None → length l < length m → IsAbsent item l
    absent_shorter places item other m longer first prev [] chain less = tt
    absent_shorter places item other m longer first prev (p ∷ l) chain less = (
      λ same. omega (arith, less, same_length places prev other (p ∷ l) m chain longer (ap (λ (i : ℕ). Some i) same ∙ sym first)),
      absent_shorter places item other m longer first (Some p.0) l chain.1 (omega arith),
    )

    -- no index stands twice in a chain
    pub chain_once : (places : List (Place T)) (prev : Option ℕ) (l : List (ℕ × A)) → Chain made places prev l None → AreOnce l
    chain_once places prev [] chain = tt
    chain_once places prev (p ∷ l) chain =
        (absent_shorter places p.0 prev (p ∷ l) chain refl (Some p.0) l chain.1 (omega arith), chain_once places (Some p.0) l chain.1)

-- chains of different places have no index in common
pub chains_apart : {T A B : Type 0} (made : Option ℕ → Option ℕ → A → Place T) (other : Option ℕ → Option ℕ → B → Place T)
    → ((a b : Option ℕ) (x : A) (c d : Option ℕ) (y : B) → made a b x ≡ other c d y → ⊥)
    → (places : List (Place T)) (prev : Option ℕ) (l : List (ℕ × A)) (next before : Option ℕ) (m : List (ℕ × B)) (after : Option ℕ)
    → Chain made places prev l next → Chain other places before m after → AreApart l m
chains_apart made other differ places prev [] next before m after first second = tt
chains_apart {T} {A} {B} made other differ places prev (p ∷ l) next before m after first second = (
  absent_other other places p.0 (Some (made prev (first_or next l) p.1)) first.0 (λ a b x is. differ prev (first_or next l) p.1 a b x (same_place is)) before
      m after second,
  chains_apart made other differ places (Some p.0) l next before m after first.1 second,
)
  where
    same_place : {X : Type 0} {x y : X} → Some x ≡ Some y → x ≡ y
    same_place is = cc

-- ---- the chain of a list, and that of the free places

module _ {T : Type 0} where
  pub taken_next : (list : ℕ) (a b : Option ℕ) (x : T) (c d : Option ℕ) (y : T) → taken list a b x ≡ taken list c d y → b ≡ d
  taken_next list a b x c d y same = ap (λ (p : Place T). (links_of p).next) same

  pub free_next : (a b : Option ℕ) (x : Unit {0}) (c d : Option ℕ) (y : Unit {0}) → free_place {T = T} a b x ≡ free_place c d y → b ≡ d
  free_next a b x c d y same = cc

  pub lists_differ : (list other : ℕ) → list ≢ other → (a b : Option ℕ) (x : T) (c d : Option ℕ) (y : T) → taken list a b x ≡ taken other c d y → ⊥
  lists_differ list other apart a b x c d y same = apart (ap (λ (p : Place T). (links_of p).list) same)

  pub taken_not_free : (list : ℕ) (a b : Option ℕ) (x : T) (c d : Option ℕ) (y : Unit {0}) → taken list a b x ≡ free_place c d y → ⊥
  taken_not_free list a b x c d y same = cc

  -- what comes before a free place doesn't matter
  pub free_prev : (places : List (Place T)) (prev other : Option ℕ) (l : List (ℕ × Unit {0})) (next : Option ℕ) → Chain free_place places prev l next
      → Chain free_place places other l next
  free_prev places prev other [] next chain = tt
  free_prev places prev other (p ∷ l) next chain = chain

  -- the last of a chain has another after it
  pub relinked_last : (list : ℕ) (places : List (Place T)) (prev : Option ℕ) (l : List (ℕ × T)) (next new : Option ℕ) → AreOnce l
      → Chain (taken list) places prev l next
      → Chain (taken list) (next_written (last_or prev l) new places) prev l new
  relinked_last list places prev [] next new once chain = tt
  relinked_last list places prev (p ∷ []) next new once chain = (next_changed places list prev next new p.1 p.0 chain.0, tt)
  relinked_last list places prev (p ∷ q ∷ l) next new once chain = (
    next_kept (last_or (Some q.0) l) new places p.0 (last_is_not p.0 (Some q.0) l once.0.0 once.0.1) ∙ chain.0,
    relinked_last list places (Some p.0) (q ∷ l) next new once.1 chain.1,
  )

  -- the first of a chain has another before it
  pub relinked_first : (list : ℕ) (places : List (Place T)) (prev new : Option ℕ) (l : List (ℕ × T)) (next : Option ℕ) → AreOnce l
      → Chain (taken list) places prev l next
      → Chain (taken list) (prev_written (first_or None l) new places) new l next
  relinked_first list places prev new [] next once chain = tt
  relinked_first list places prev new (p ∷ l) next once chain = (
    prev_changed places list prev (first_or next l) new p.1 p.0 chain.0,
    chain_prev (taken list) (Some p.0) new places (Some p.0) l next once.0 chain.1,
  )
