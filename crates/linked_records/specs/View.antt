-- What is seen of records in lists.
use Rattle.std.specs.Prelude.{◌≡◌, ◌<◌, ◌==◌, ℕ, List, [], ◌∷◌, ◌++◌, Option, Some, None, get_or, if◌then◌else◌, length, map, set, refl}
use Rattle.std.specs.List.{sum_by}
use Rattle.std.specs.Coded.{Coded, code_by, coded×, coded_ℕ, coded_list}

-- the records of each list in order, each with its index, how many more find room without memory being taken,
-- and how many indices were given out; each is below that
pub record RecordsView (T : Type 0) : Type 0 where
  pub lists : List (List (ℕ × T))
  pub spare : ℕ
  pub given : ℕ

-- it is stored as its fields
abbrev pub view_code : {T : Type 0} → Coded T → Coded (RecordsView T)
view_code {T} code =
    code_by
    (List (List (ℕ × T)) × (ℕ × ℕ))
    (coded× (coded_list (coded_list (coded× coded_ℕ code))) (coded× coded_ℕ coded_ℕ))
    (λ v. (v.lists, (v.spare, v.given)))
    (λ p. record { lists = p.0; spare = p.1.0; given = p.1.1 })
    (λ _. refl)

-- the index that a list begins with, and else another
abbrev pub first_or : {A : Type 0} → Option ℕ → List (ℕ × A) → Option ℕ
first_or other [] = other
first_or other (p ∷ l) = Some p.0

module _ {T : Type 0} where
  -- the index of the first record; nothing where there is none
  abbrev pub first_index : List (ℕ × T) → Option ℕ
  first_index l = first_or None l

  -- how many records there are
  abbrev pub record_count : List (List (ℕ × T)) → ℕ
  record_count lists = sum_by (λ l. length l) lists

  -- a record stands at this index, in this list, between these
  pub record IsListed (lists : List (List (ℕ × T))) (item : ℕ) : Type 0 where
    pub list : ℕ
    pub before : List (ℕ × T)
    pub value : T
    pub after : List (ℕ × T)
    pub within : list < length lists
    pub is : get_or lists list [] ≡ before ++ (item, value) ∷ after

  -- each index stands in one list, and once
  abbrev pub StandOnce : List (List (ℕ × T)) → Type 0
  StandOnce lists = (item : ℕ) (a b : IsListed lists item) → (a.list ≡ b.list) × (a.before ≡ b.before) × (a.value ≡ b.value) × (a.after ≡ b.after)

  -- the record of a list isn't there any more
  abbrev pub taken_out : (lists : List (List (ℕ × T))) (item : ℕ) → IsListed lists item → List (List (ℕ × T))
  taken_out lists item at = set lists at.list (at.before ++ at.after)

  -- one more record stands at the back of a list
  abbrev pub put_back : List (List (ℕ × T)) → ℕ → ℕ × T → List (List (ℕ × T))
  put_back lists list p = set lists list (get_or lists list [] ++ p ∷ [])

  -- a record stands at the back of a list, and not where it stood
  abbrev pub moved : (lists : List (List (ℕ × T))) (item : ℕ) → IsListed lists item → ℕ → List (List (ℕ × T))
  moved lists item at list = put_back (taken_out lists item at) list (item, at.value)

  -- another record stands at an index
  abbrev pub with_record : ℕ → T → ℕ × T → ℕ × T
  with_record item value p = if p.0 == item then (item, value) else p

  abbrev pub written : ℕ → T → List (List (ℕ × T)) → List (List (ℕ × T))
  written item value lists = map (λ l. map (with_record item value) l) lists
