-- How many of the objects that are needed are in no slot, over the flags of the residents.
use Rattle.std.proofs.Common.{◌≡◌, ◌+◌, ◌<◌, ◌≤◌, inl, inr, ℕ, zero, suc, Bool, true, false, List, [], ◌∷◌, length, get_or, set, drop, map, refl, ap, subst, sym, ◌∙◌, arith}
use Rattle.std.specs.Prelude.{◌==◌, ◌||◌, Option, Some, None, is_some, MatchOption, if◌then◌else◌}
use Rattle.std.specs.List.{count_by, remove}
use Rattle.std.proofs.lemmas.Bool.{cases_eq, cases_lt, eq-eqb, false_from_ne_true, ne_eqb}
use Rattle.std.proofs.lemmas.List.Elements.{All-from_recursion}
use Rattle.std.proofs.lemmas.List.{drop_all, get_or-set_same, get_or-set_other, set-get_or, set_past}
use Rattle.object_swap.specs.declared.record.Record.{Record}
use Rattle.device_port.specs.Use.{is_among, next_unneeded, without_unneeded}
use Rattle.object_swap.specs.Items.{AreResident, Item, is_resident, item_at, missing, residents}
use Rattle.object_swap.specs.Records.{AreAmong, ListsFlags, items_of, number, residency}
use Rattle.object_swap.proofs.Counts.{count_set, number_false}
use Rattle.object_swap.proofs.Flags.{flag_among, none_true, not_that, unset_true}
use Rattle.object_swap.proofs.Listed.{counted_flags, flag_at, flags_length}
use Rattle.object_swap.proofs.Order.{next_at, without_at}

abbrev trues : List Bool → ℕ
trues flags = count_by (λ flag. flag) flags

-- the same count over flags
abbrev pub missing_in : List ℕ → List Bool → ℕ
missing_in [] flags = 0
missing_in (n ∷ needed) flags = (if get_or flags n false || is_among needed n then 0 else 1) + missing_in needed flags

pub missing_flags : (needed : List ℕ) (items : List Item) → missing needed items ≡ missing_in needed (map is_resident items)
missing_flags [] items = refl
missing_flags (n ∷ needed) items =
    (λ i. (if sym (flag_at items n) i || is_among needed n then 0 else 1) + missing_flags needed items i)

-- ---- no more than are needed

one_more_by : (flag was among : Bool) (m more : ℕ) → (flag ≡ true → was ≡ true) → m ≤ more
    → (if was || among then 0 else 1) + m ≤ (if flag || among then 0 else 1) + more
one_more_by true true among m more less rest = omega (arith, rest)
one_more_by true false among m more less rest = let no = less refl in absurd cc
one_more_by false true true m more less rest = omega (arith, rest)
one_more_by false true false m more less rest = omega (arith, rest)
one_more_by false false among m more less rest = omega (arith, rest)

-- fewer are missing where more flags are true
missing_less : (needed : List ℕ) (flags more : List Bool) → ((k : ℕ) → get_or flags k false ≡ true → get_or more k false ≡ true)
    → missing_in needed more ≤ missing_in needed flags
missing_less [] flags more less = omega arith
missing_less (n ∷ needed) flags more less =
    one_more_by (get_or flags n false) (get_or more n false) (is_among needed n) (missing_in needed more) (missing_in needed flags) (less n)
    (missing_less needed flags more less)

one_by : (flag among : Bool) → number flag + (if flag || among then 0 else 1) ≤ 1
one_by true among = omega arith
one_by false true = omega arith
one_by false false = omega arith

set_false : (flags : List Bool) (n k : ℕ) → get_or (set flags n false) k false ≡ true → get_or flags k false ≡ true
set_false flags n k is = (unset_true flags n k is).1

trues_unset : (flags : List Bool) (n : ℕ) → trues flags ≤ trues (set flags n false) + number (get_or flags n false)
trues_unset flags n =
    elim (cases_lt n (length flags)) [
      | inl inside ↦ omega (arith, count_set (λ (flag : Bool). flag) flags n false false inside)
      | inr past ↦ omega (arith, ap (count_by (λ (flag : Bool). flag)) (set_past flags n false past))
    ]

-- those that are needed, in slots or not, are no more than that
few_missing : (needed : List ℕ) (flags : List Bool) → ((index : ℕ) → get_or flags index false ≡ true → is_among needed index ≡ true)
    → trues flags + missing_in needed flags ≤ length needed
few_missing [] flags all = omega (arith, none_true flags (λ index. false_from_ne_true (get_or flags index false) (λ is. let no = all index is in absurd cc)))
few_missing (n ∷ needed) flags all =
    omega (
      arith,
      trues_unset flags n,
      one_by (get_or flags n false) (is_among needed n),
      missing_less needed (set flags n false) flags (λ k is. set_false flags n k is),
      few_missing needed (set flags n false) (λ index is.
          let was = unset_true flags n index is in
          not_that needed n index (n == index) refl was.0 (all index was.1)),
    )

-- where only needed ones are left, they fit
pub fit_alone : (needed : List ℕ) (records : List Record) (indices : List ℕ) → ListsFlags (residency records) indices → AreAmong needed indices
    → length indices + missing needed (items_of records) ≤ length needed
fit_alone needed records indices lists among =
    let flags = residency records in
    omega (arith, lists.count, missing_flags needed (items_of records), few_missing needed flags (flag_among needed flags indices lists among))

-- ---- one that is missing is brought in

filled_here : (flag new_flag among among_n same : Bool) (m new_m : ℕ) → flag ≡ false → new_flag ≡ true → among ≡ among_n → same ≡ true
    → m ≡ (if among_n then 1 else 0) + new_m
    → (if flag || among then 0 else 1) + m ≡ (if same || among_n then 1 else 0) + ((if new_flag || among then 0 else 1) + new_m)
filled_here true new_flag among among_n same m new_m out here is this rest = absurd cc
filled_here false false among among_n same m new_m out here is this rest = absurd cc
filled_here false true among among_n false m new_m out here is this rest = absurd cc
filled_here false true true false true m new_m out here is this rest = absurd cc
filled_here false true false true true m new_m out here is this rest = absurd cc
filled_here false true true true true m new_m out here is this rest = omega (arith, rest)
filled_here false true false false true m new_m out here is this rest = omega (arith, rest)

filled_there : (flag new_flag among among_n same : Bool) (m new_m : ℕ) → new_flag ≡ flag → same ≡ false
    → m ≡ (if among_n then 1 else 0) + new_m
    → (if flag || among then 0 else 1) + m ≡ (if same || among_n then 1 else 0) + ((if new_flag || among then 0 else 1) + new_m)
filled_there flag new_flag among among_n true m new_m kept apart rest = absurd cc
filled_there true false among among_n false m new_m kept apart rest = absurd cc
filled_there false true among among_n false m new_m kept apart rest = absurd cc
filled_there true true among among_n false m new_m kept apart rest = omega (arith, rest)
filled_there false false true among_n false m new_m kept apart rest = omega (arith, rest)
filled_there false false false among_n false m new_m kept apart rest = omega (arith, rest)

missing_filled : (needed : List ℕ) (flags : List Bool) (n : ℕ) → n < length flags → get_or flags n false ≡ false
    → missing_in needed flags ≡ (if is_among needed n then 1 else 0) + missing_in needed (set flags n true)
missing_filled [] flags n inside out = refl
missing_filled (x ∷ needed) flags n inside out =
    let rest = missing_filled needed flags n inside out in
    elim (cases_eq x n) [
      | inl same ↦ filled_here (get_or flags x false) (get_or (set flags n true) x false) (is_among needed x) (is_among needed n) (x == n) _ _
          (ap (λ (k : ℕ). get_or flags k false) same ∙ out)
          (ap (λ (k : ℕ). get_or (set flags n true) k false) same ∙ get_or-set_same flags n true false inside)
          (ap (is_among needed) same) (eq-eqb x n same) rest
      | inr apart ↦ filled_there (get_or flags x false) (get_or (set flags n true) x false) (is_among needed x) (is_among needed n) (x == n) _ _
          (get_or-set_other flags n x true false apart) (ne_eqb x n apart) rest
    ]

step_out : (among : Bool) (m new_m t new_t : ℕ) → m ≡ (if among then 1 else 0) + new_m → new_t ≡ t + 1
    → (if among then 0 else 1) + m + t ≡ new_m + new_t
step_out true m new_m t new_t is more = omega (arith, is, more)
step_out false m new_m t new_t is more = omega (arith, is, more)

step_in : (needed : List ℕ) (n : ℕ) (flags : List Bool) (flag : Bool) → n < length flags → get_or flags n false ≡ flag
    → (if flag || is_among needed n then 0 else 1) + missing_in needed flags + trues flags ≡ missing_in needed (set flags n true) + trues (set flags n true)
step_in needed n flags true inside is =
    let same : set flags n true ≡ flags = ap (set flags n) (sym is) ∙ set-get_or flags n false in
    omega (arith, ap (missing_in needed) same, ap (count_by (λ (flag : Bool). flag)) same)
step_in needed n flags false inside is =
    let filled = missing_filled needed flags n inside is in
    let more = count_set (λ (flag : Bool). flag) flags n true false inside in
    let none = number_false (get_or flags n false) is in
    step_out (is_among needed n) (missing_in needed flags) (missing_in needed (set flags n true)) (trues flags) (trues (set flags n true)) filled
    (omega (arith, more, none))

next_in : (needed : List ℕ) (k : ℕ) (flags : List Bool) → k < length needed → get_or needed k 0 < length flags
    → missing_in (drop k needed) flags + trues flags
    ≡ missing_in (drop (suc k) needed) (set flags (get_or needed k 0) true) + trues (set flags (get_or needed k 0) true)
next_in [] k flags inside fits = absurd (omega (arith, inside))
next_in (n ∷ needed) zero flags inside fits = step_in needed n flags (get_or flags n false) fits refl
next_in (n ∷ needed) (suc k) flags inside fits = next_in needed k flags (omega (arith, inside)) fits

-- what is left to be brought in, after one object more
pub brought_next : (needed : List ℕ) (k : ℕ) (records new_records : List Record) → k < length needed → get_or needed k 0 < length records
    → residency new_records ≡ set (residency records) (get_or needed k 0) true
    → missing (drop k needed) (items_of records) + residents (items_of records)
    ≡ missing (drop (k + 1) needed) (items_of new_records) + residents (items_of new_records)
brought_next needed k records new_records inside fits is =
    let items = items_of records in
    let new_items = items_of new_records in
    let one : k + 1 ≡ suc k = omega arith in
    omega (
      arith,
      next_in needed k (residency records) inside (omega (arith, flags_length records, fits)),
      missing_flags (drop k needed) items,
      missing_flags (drop (suc k) needed) new_items,
      ap (λ (n : ℕ). missing (drop n needed) new_items) one,
      ap (missing_in (drop (suc k) needed)) is,
      ap (count_by (λ (flag : Bool). flag)) is,
      counted_flags items,
      counted_flags new_items,
    )

-- one that is in no slot is missing
pub some_missing : (needed : List ℕ) (k : ℕ) (records : List Record) → k < length needed → get_or needed k 0 < length records
    → is_resident (item_at (items_of records) (get_or needed k 0)) ≡ false → 1 ≤ missing (drop k needed) (items_of records)
some_missing needed k records inside fits out =
    let flags = residency records in
    let n = get_or needed k 0 in
    let within : n < length flags = omega (arith, flags_length records, fits) in
    omega (
      arith,
      next_in needed k flags inside within,
      missing_flags (drop k needed) (items_of records),
      count_set (λ (flag : Bool). flag) flags n true false within,
      number_false (get_or flags n false) (flag_at (items_of records) n ∙ out),
    )

-- one more resident
pub residents_more : (records new_records : List Record) (index : ℕ) → index < length records → is_resident (item_at (items_of records) index) ≡ false
    → residency new_records ≡ set (residency records) index true → residents (items_of new_records) ≡ residents (items_of records) + 1
residents_more records new_records index fits out is =
    let flags = residency records in
    omega (
      arith,
      count_set (λ (flag : Bool). flag) flags index true false (omega (arith, flags_length records, fits)),
      number_false (get_or flags index false) (flag_at (items_of records) index ∙ out),
      ap (count_by (λ (flag : Bool). flag)) is,
      counted_flags (items_of records),
      counted_flags (items_of new_records),
    )

pub same_residents : (records new_records : List Record) → residency new_records ≡ residency records
    → residents (items_of new_records) ≡ residents (items_of records)
same_residents records new_records is =
    sym (counted_flags (items_of new_records)) ∙ ap (count_by (λ (flag : Bool). flag)) is ∙ counted_flags (items_of records)

-- ---- what stays

or_true : (a b : Bool) → b ≡ true → (a || b) ≡ true
or_true true b is = refl
or_true false b is = is

pub missing_same : (needed : List ℕ) (items new_items : List Item)
    → ((index : ℕ) → is_among needed index ≡ true → item_at new_items index ≡ item_at items index) → missing needed new_items ≡ missing needed items
missing_same [] items new_items same = refl
missing_same (n ∷ needed) items new_items same =
    let this : item_at new_items n ≡ item_at items n = same n (ap (λ (b : Bool). b || is_among needed n) (eq-eqb n n refl)) in
    let rest = missing_same needed items new_items (λ index is. same index (or_true (n == index) (is_among needed index) is)) in
    λ i. (if is_resident (this i) || is_among needed n then 0 else 1) + rest i

pub missing_none : (needed : List ℕ) (items : List Item) → AreResident needed items → missing needed items ≡ 0
missing_none [] items all = refl
missing_none (n ∷ needed) items all =
    λ i. (if all.0 i || is_among needed n then 0 else 1) + missing_none needed items all.1 i

-- how many residents there are
pub listed_residents : (records : List Record) (indices : List ℕ) → ListsFlags (residency records) indices → length indices ≡ residents (items_of records)
listed_residents records indices lists = omega (arith, lists.count, counted_flags (items_of records))

-- ---- the one that is chosen to leave

-- what is told of it
abbrev pub Chooses : List ℕ → List ℕ → Option ℕ → Type 0
Chooses needed loaded result = MatchOption result (AreAmong needed loaded)
    (λ at. (at < length loaded) × (is_among needed (get_or loaded at 0) ≡ false) × ((k : ℕ) → k < at → is_among needed (get_or loaded k 0) ≡ true))

pub some_chosen : (needed indices : List ℕ) (result : Option ℕ) (lent : List ℕ) → lent ≡ indices → Chooses needed lent result
    → (AreAmong needed indices → ⊥) → is_some result ≡ true
some_chosen needed indices None lent same all never = absurd (never (subst (λ (l : List ℕ). AreAmong needed l) same all))
some_chosen needed indices (Some at) lent same is never = refl

pub chosen : (needed indices : List ℕ) (result : Option ℕ) (lent : List ℕ) (at : ℕ) → lent ≡ indices → Chooses needed lent result → result ≡ Some at
    → (at < length indices) × (is_among needed (get_or indices at 0) ≡ false) × (without_unneeded needed indices ≡ remove indices at)
    × (next_unneeded needed indices ≡ get_or indices at 0 ∷ [])
chosen needed indices result lent at same is some =
    let here : Chooses needed indices (Some at) = subst (λ (l : List ℕ). Chooses needed l (Some at)) same
    (subst (λ (r : Option ℕ). Chooses needed lent r) some is) in
    (here.0, here.1, without_at needed indices at here.0 here.1 here.2, next_at needed indices at here.0 here.1 here.2)

pub resident_needed : (needed : List ℕ) (items : List Item) (k : ℕ) → AreResident needed items → k < length needed
    → is_resident (item_at items (get_or needed k 0)) ≡ true
resident_needed needed items k all inside = All-from_recursion (λ (index : ℕ). is_resident (item_at items index) ≡ true) needed all k 0 inside

pub none_missing_past : (needed : List ℕ) (k : ℕ) (items : List Item) → length needed ≤ k → missing (drop k needed) items ≡ 0
none_missing_past needed k items past = ap (λ (l : List ℕ). missing l items) (drop_all k needed past)
