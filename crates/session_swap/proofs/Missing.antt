-- How many of the sessions that are needed aren't loaded, over the numbers that they have and over flags.
use Rattle.std.proofs.Common.{◌≡◌, ◌≢◌, ◌+◌, ◌<◌, ◌≤◌, inl, inr, ℕ, zero, suc, Bool, true, false, List, [], ◌∷◌, length, get_or, set, drop, map, refl, ap, subst, sym, ◌∙◌, arith}
use Rattle.std.proofs.lemmas.Bool.{false≢true}
use Rattle.std.proofs.lemmas.Option.{get_or_from_slice_get, slice_get_within}
use Rattle.std.specs.Prelude.{◌==◌, ◌||◌, Option, Some, None, is_some, IfSome, MatchOption, if◌then◌else◌, slice_get}
use Rattle.std.specs.List.{count_by}
use Rattle.std.proofs.lemmas.Bool.{cases_eq, cases_lt, eq-eqb, eqb-true, false_from_ne_true, ne_eqb}
use Rattle.std.proofs.lemmas.List.{drop_all, get_or-map, get_or-set_same, get_or-set_other, get_or_past, length-map, map-set, set-get_or, set_past}
use Rattle.std.proofs.lemmas.List.Elements.{All-from_recursion}
use Rattle.tab_spec.specs.Shape.{number_of_session}
use Rattle.tab_spec.specs.declared.contexts.ContextLimits.{ContextLimits}
use Rattle.session_swap.specs.declared.record.Record.{Record}
use Rattle.device_port.specs.Use.{is_among, next_unneeded, without_one, without_unneeded}
use Rattle.session_swap.specs.Items.{AreLoaded, AreNamed, Item, Lists, Names, flag, holders, is_loaded_item, item_at, item_of, loaded_items, missing, numbers_of, with_handle}
use Rattle.session_swap.specs.Records.{AreRecords, IsHandleOf, item_of_record, items_of}
use Rattle.session_swap.specs.Moves.{AllNeeded, handle_at, handle_of, loadedness}
use Rattle.session_swap.proofs.Among.{named_again, named_is, some_by}
use Rattle.session_swap.proofs.Counts.{count_cons, count_set, flag_false, flag_true}
use Rattle.session_swap.proofs.Listing.{listed_loaded}
use Rattle.session_swap.proofs.Uses.{unneeded_at, unneeded_one, without_at}

abbrev trues : List Bool → ℕ
trues flags = count_by (λ flag. flag) flags

-- the same count over flags
abbrev pub missing_in : List ℕ → List Bool → ℕ
missing_in [] flags = 0
missing_in (n ∷ needed) flags = (if get_or flags n false || is_among needed n then 0 else 1) + missing_in needed flags

unset_there : (flags : List Bool) (n index : ℕ) → index ≡ n → get_or (set flags n false) index false ≡ true → ⊥
unset_there flags n index same is =
    elim (cases_lt n (length flags)) [
      | inl inside ↦ let there = get_or-set_same flags n false false inside in let at = ap (λ (i : ℕ). get_or (set flags n false) i false) same in cc
      | inr past ↦ let kept = ap (λ (l : List Bool). get_or l index false) (set_past flags n false past) in
          let none = get_or_past flags index false (omega arith) in cc
    ]

none_true : (flags : List Bool) → ((index : ℕ) → get_or flags index false ≡ false) → count_by (λ flag. flag) flags ≡ 0
none_true [] none = refl
none_true (flag ∷ flags) none =
    omega (arith, count_cons (λ (flag : Bool). flag) flag flags, flag_false flag (none 0), none_true flags (λ index. none (suc index)))

not_that : (needed : List ℕ) (n index : ℕ) (same : Bool) → (n == index) ≡ same → n ≢ index → (same || is_among needed index) ≡ true
    → is_among needed index ≡ true
not_that needed n index true same apart among = absurd (apart (eqb-true n index same))
not_that needed n index false same apart among = among

unset_true : (flags : List Bool) (n index : ℕ) → get_or (set flags n false) index false ≡ true → (n ≢ index) × (get_or flags index false ≡ true)
unset_true flags n index is =
    let apart : index ≢ n = λ same. unset_there flags n index same is in
    ((λ same. apart (sym same)), sym (get_or-set_other flags n index false false apart) ∙ is)

-- ---- no more than are needed

one_more_by : (flag was among : Bool) (m more : ℕ) → (flag ≡ true → was ≡ true) → m ≤ more
    → (if was || among then 0 else 1) + m ≤ (if flag || among then 0 else 1) + more
one_more_by true true among m more less rest = omega (arith, rest)
one_more_by true false among m more less rest = let no = less refl in absurd cc
one_more_by false true true m more less rest = omega (arith, rest)
one_more_by false true false m more less rest = omega (arith, rest)
one_more_by false false among m more less rest = omega (arith, rest)

-- fewer are missing where more flags are true
missing_less : (needed : List ℕ) (flags more : List Bool) → ((k : ℕ) → get_or flags k false ≡ true → get_or more k false ≡ true)
    → missing_in needed more ≤ missing_in needed flags
missing_less [] flags more less = omega arith
missing_less (n ∷ needed) flags more less =
    one_more_by (get_or flags n false) (get_or more n false) (is_among needed n) (missing_in needed more) (missing_in needed flags) (less n)
    (missing_less needed flags more less)

one_by : (test among : Bool) → flag test + (if test || among then 0 else 1) ≤ 1
one_by true among = omega arith
one_by false true = omega arith
one_by false false = omega arith

set_false : (flags : List Bool) (n k : ℕ) → get_or (set flags n false) k false ≡ true → get_or flags k false ≡ true
set_false flags n k is = (unset_true flags n k is).1

trues_unset : (flags : List Bool) (n : ℕ) → trues flags ≤ trues (set flags n false) + flag (get_or flags n false)
trues_unset flags n =
    elim (cases_lt n (length flags)) [
      | inl inside ↦ omega (arith, count_set (λ (flag : Bool). flag) flags n false false inside)
      | inr past ↦ omega (arith, ap (count_by (λ (flag : Bool). flag)) (set_past flags n false past))
    ]

-- those that are needed, loaded or not, are no more than that
few_missing : (needed : List ℕ) (flags : List Bool) → ((index : ℕ) → get_or flags index false ≡ true → is_among needed index ≡ true)
    → trues flags + missing_in needed flags ≤ length needed
few_missing [] flags all = omega (arith, none_true flags (λ index. false_from_ne_true (get_or flags index false) (λ is. let no = all index is in absurd cc)))
few_missing (n ∷ needed) flags all =
    omega (
      arith,
      trues_unset flags n,
      one_by (get_or flags n false) (is_among needed n),
      missing_less needed (set flags n false) flags (λ k is. set_false flags n k is),
      few_missing needed (set flags n false) (λ index is.
          let was = unset_true flags n index is in
          not_that needed n index (n == index) refl was.0 (all index was.1)),
    )

-- ---- one that is missing is brought in

filled_here : (flag new_flag among among_n same : Bool) (m new_m : ℕ) → flag ≡ false → new_flag ≡ true → among ≡ among_n → same ≡ true
    → m ≡ (if among_n then 1 else 0) + new_m
    → (if flag || among then 0 else 1) + m ≡ (if same || among_n then 1 else 0) + ((if new_flag || among then 0 else 1) + new_m)
filled_here true new_flag among among_n same m new_m out here is this rest = absurd cc
filled_here false false among among_n same m new_m out here is this rest = absurd cc
filled_here false true among among_n false m new_m out here is this rest = absurd cc
filled_here false true true false true m new_m out here is this rest = absurd cc
filled_here false true false true true m new_m out here is this rest = absurd cc
filled_here false true true true true m new_m out here is this rest = omega (arith, rest)
filled_here false true false false true m new_m out here is this rest = omega (arith, rest)

filled_there : (flag new_flag among among_n same : Bool) (m new_m : ℕ) → new_flag ≡ flag → same ≡ false
    → m ≡ (if among_n then 1 else 0) + new_m
    → (if flag || among then 0 else 1) + m ≡ (if same || among_n then 1 else 0) + ((if new_flag || among then 0 else 1) + new_m)
filled_there flag new_flag among among_n true m new_m kept apart rest = absurd cc
filled_there true false among among_n false m new_m kept apart rest = absurd cc
filled_there false true among among_n false m new_m kept apart rest = absurd cc
filled_there true true among among_n false m new_m kept apart rest = omega (arith, rest)
filled_there false false true among_n false m new_m kept apart rest = omega (arith, rest)
filled_there false false false among_n false m new_m kept apart rest = omega (arith, rest)

missing_filled : (needed : List ℕ) (flags : List Bool) (n : ℕ) → n < length flags → get_or flags n false ≡ false
    → missing_in needed flags ≡ (if is_among needed n then 1 else 0) + missing_in needed (set flags n true)
missing_filled [] flags n inside out = refl
missing_filled (x ∷ needed) flags n inside out =
    let rest = missing_filled needed flags n inside out in
    elim (cases_eq x n) [
      | inl same ↦ filled_here (get_or flags x false) (get_or (set flags n true) x false) (is_among needed x) (is_among needed n) (x == n) _ _
          (ap (λ (k : ℕ). get_or flags k false) same ∙ out)
          (ap (λ (k : ℕ). get_or (set flags n true) k false) same ∙ get_or-set_same flags n true false inside)
          (ap (is_among needed) same) (eq-eqb x n same) rest
      | inr apart ↦ filled_there (get_or flags x false) (get_or (set flags n true) x false) (is_among needed x) (is_among needed n) (x == n) _ _
          (get_or-set_other flags n x true false apart) (ne_eqb x n apart) rest
    ]

step_out : (among : Bool) (m new_m t new_t : ℕ) → m ≡ (if among then 1 else 0) + new_m → new_t ≡ t + 1
    → (if among then 0 else 1) + m + t ≡ new_m + new_t
step_out true m new_m t new_t is more = omega (arith, is, more)
step_out false m new_m t new_t is more = omega (arith, is, more)

step_in : (needed : List ℕ) (n : ℕ) (flags : List Bool) (flag : Bool) → n < length flags → get_or flags n false ≡ flag
    → (if flag || is_among needed n then 0 else 1) + missing_in needed flags + trues flags ≡ missing_in needed (set flags n true) + trues (set flags n true)
step_in needed n flags true inside is =
    let same : set flags n true ≡ flags = ap (set flags n) (sym is) ∙ set-get_or flags n false in
    omega (arith, ap (missing_in needed) same, ap (count_by (λ (flag : Bool). flag)) same)
step_in needed n flags false inside is =
    let filled = missing_filled needed flags n inside is in
    let more = count_set (λ (flag : Bool). flag) flags n true false inside in
    let none = flag_false (get_or flags n false) is in
    step_out (is_among needed n) (missing_in needed flags) (missing_in needed (set flags n true)) (trues flags) (trues (set flags n true)) filled
    (omega (arith, more, none))

next_in : (needed : List ℕ) (k : ℕ) (flags : List Bool) → k < length needed → get_or needed k 0 < length flags
    → missing_in (drop k needed) flags + trues flags
    ≡ missing_in (drop (suc k) needed) (set flags (get_or needed k 0) true) + trues (set flags (get_or needed k 0) true)
next_in [] k flags inside fits = absurd (omega (arith, inside))
next_in (n ∷ needed) zero flags inside fits = step_in needed n flags (get_or flags n false) fits refl
next_in (n ∷ needed) (suc k) flags inside fits = next_in needed k flags (omega (arith, inside)) fits

-- ---- handles and their numbers

abbrev pub flags_of : List (Option Item) → List Bool
flags_of items = map is_loaded_item items

pub flag_at : (items : List (Option Item)) (number : ℕ) → get_or (flags_of items) number false ≡ is_loaded_item (item_at items number)
flag_at [] number = refl
flag_at (item ∷ items) zero = refl
flag_at (item ∷ items) (suc number) = flag_at items number

pub flags_count : (items : List (Option Item)) → trues (flags_of items) ≡ loaded_items items
flags_count [] = refl
flags_count (item ∷ items) =
    omega (arith, count_cons (λ (flag : Bool). flag) (is_loaded_item item) (flags_of items), count_cons is_loaded_item item items, flags_count items)

handle_test : (item : Item) (handle : ℕ) (test : Bool) → (item.handle == handle) ≡ test → is_some (if test then Some item else None) ≡ true
    → item.handle ≡ handle
handle_test item handle true same is = eqb-true item.handle handle same
handle_test item handle false same is = absurd cc

-- the handle of the session that a handle names
pub handle_by : (handle : ℕ) (item : Option Item) → is_some (with_handle handle item) ≡ true → handle_of item ≡ handle
handle_by handle None is = absurd cc
handle_by handle (Some item) is = handle_test item handle (item.handle == handle) refl is

-- so handles with one number are one handle
same_handle : (items : List (Option Item)) (one other : ℕ) → Names items one → Names items other → number_of_session one ≡ number_of_session other → one ≡ other
same_handle items one other first second same =
    sym (handle_by one (item_at items (number_of_session one)) first)
    ∙ ap (λ (n : ℕ). handle_of (item_at items n)) same
    ∙ handle_by other (item_at items (number_of_session other)) second

same_test : (items : List (Option Item)) (one other : ℕ) → Names items one → Names items other
    → (one == other) ≡ (number_of_session one == number_of_session other)
same_test items one other first second =
    elim (cases_eq one other) [
      | inl same ↦ eq-eqb one other same ∙ sym (eq-eqb (number_of_session one) (number_of_session other) (ap number_of_session same))
      | inr apart ↦ ne_eqb one other apart
          ∙ sym (ne_eqb (number_of_session one) (number_of_session other) (λ same. apart (same_handle items one other first second same)))
    ]

among_numbers : (needed : List ℕ) (items : List (Option Item)) (handle : ℕ) → AreNamed needed items → Names items handle
    → is_among needed handle ≡ is_among (numbers_of needed) (number_of_session handle)
among_numbers [] items handle named names = refl
among_numbers (n ∷ needed) items handle named names =
    λ i. same_test items n handle named.0 names i || among_numbers needed items handle named.1 names i

loaded_flag : (items : List (Option Item)) (handle : ℕ) → Names items handle
    → is_loaded_item (item_of items handle) ≡ get_or (flags_of items) (number_of_session handle) false
loaded_flag items handle names = ap is_loaded_item (named_is items handle names) ∙ sym (flag_at items (number_of_session handle))

pub missing_numbers : (needed : List ℕ) (items : List (Option Item)) → AreNamed needed items
    → missing needed items ≡ missing_in (numbers_of needed) (flags_of items)
missing_numbers [] items named = refl
missing_numbers (n ∷ needed) items named =
    λ i. (if loaded_flag items n named.0 i || among_numbers needed items n named.1 named.0 i then 0 else 1) + missing_numbers needed items named.1 i

pub number_at : (needed : List ℕ) (k : ℕ) → k < length needed → get_or (numbers_of needed) k 0 ≡ number_of_session (get_or needed k 0)
number_at needed k inside = get_or-map number_of_session needed k 0 0 inside

-- ---- only needed ones are left

or_true : (a b : Bool) → b ≡ true → (a || b) ≡ true
or_true true b is = refl
or_true false b is = is

found_by : (x number : ℕ) (xs : List ℕ) (same : Bool) → (x == number) ≡ same
    → (1 ≤ count_by (λ one. one == number) xs → (k : ℕ) × (k < length xs) × (get_or xs k 0 ≡ number))
    → 1 ≤ flag same + count_by (λ one. one == number) xs → (k : ℕ) × (k < length (x ∷ xs)) × (get_or (x ∷ xs) k 0 ≡ number)
found_by x number xs true same rest some = (0, omega arith, eqb-true x number same)
found_by x number xs false same rest some =
    let next = rest (omega (arith, some)) in
    (suc next.0, omega (arith, next.1), next.2)

-- where a number that is counted stands
found : (number : ℕ) (xs : List ℕ) → 1 ≤ count_by (λ one. one == number) xs → (k : ℕ) × (k < length xs) × (get_or xs k 0 ≡ number)
found number [] some = absurd (omega (arith, some))
found number (x ∷ xs) some =
    found_by x number xs (x == number) refl (found number xs) (omega (arith, some, count_cons (λ (one : ℕ). one == number) x xs))

own_number : (number : ℕ) (item : Option Item) → is_loaded_item item ≡ true → IfSome item (λ item. IsHandleOf number item)
    → number_of_session (handle_of item) ≡ number
own_number number None is own = absurd cc
own_number number (Some item) is own = own.number_is

pub flags_length : (records : List Record) → length (loadedness records) ≡ length records
flags_length records = omega (arith, length-map (items_of records) is_loaded_item, length-map records item_of_record)

pub listed_at : (items : List (Option Item)) (indices : List ℕ) → Lists indices items → (number : ℕ) → is_loaded_item (item_at items number) ≡ true
    → (k : ℕ) × (k < length indices) × (get_or indices k 0 ≡ number)
listed_at items indices lists number is = found number indices (omega (arith, lists.each number, flag_true (is_loaded_item (item_at items number)) is))

own_handle : (item : Option Item) → is_loaded_item item ≡ true → is_some (with_handle (handle_of item) item) ≡ true
own_handle None is = absurd cc
own_handle (Some item) is = some_by item (item.handle == item.handle) ∙ eq-eqb item.handle item.handle refl

-- the session of a listed number is needed by its handle or by its number alike
pub among_listed : {contexts : ContextLimits} (needed : List ℕ) (records : List Record) (indices : List ℕ) (k : ℕ) → AreRecords contexts records → AreNamed needed (items_of records)
    → Lists indices (items_of records) → k < length indices
    → is_among needed (handle_at (items_of records) (get_or indices k 0)) ≡ is_among (numbers_of needed) (get_or indices k 0)
among_listed needed records indices k sound named lists inside =
    let items = items_of records in
    let number = get_or indices k 0 in
    let item = item_at items number in
    let handle = handle_of item in
    let loaded = listed_loaded items indices k 0 lists inside in
    let own = own_number number item loaded (sound.handles number) in
    let names : Names items handle =
    ap (λ (n : ℕ). is_some (with_handle handle (item_at items n))) own ∙ own_handle item loaded in
    among_numbers needed items handle named names ∙ ap (is_among (numbers_of needed)) own

-- then they fit
pub fit_alone : {contexts : ContextLimits} (needed : List ℕ) (records : List Record) (indices : List ℕ) → AreRecords contexts records → AreNamed needed (items_of records)
    → Lists indices (items_of records)
    → ((k : ℕ) → k < length indices → is_among needed (handle_at (items_of records) (get_or indices k 0)) ≡ true)
    → length indices + missing needed (items_of records) ≤ length needed
fit_alone needed records indices sound named lists among =
    let items = items_of records in
    omega (
      arith,
      lists.count,
      flags_count items,
      missing_numbers needed items named,
      length-map needed number_of_session,
      few_missing (numbers_of needed) (flags_of items) (λ number is.
          let loaded : is_loaded_item (item_at items number) ≡ true = sym (flag_at items number) ∙ is in
          let there = listed_at items indices lists number loaded in
          ap (is_among (numbers_of needed)) (sym there.2)
          ∙ sym (among_listed needed records indices there.0 sound named lists there.1)
          ∙ among there.0 there.1),
    )

-- ---- one more is loaded

pub brought_next : (needed : List ℕ) (k : ℕ) (records new_records : List Record) → k < length needed
    → number_of_session (get_or needed k 0) < length records
    → loadedness new_records ≡ set (loadedness records) (number_of_session (get_or needed k 0)) true
    → missing_in (drop k (numbers_of needed)) (loadedness records) + loaded_items (items_of records)
    ≡ missing_in (drop (k + 1) (numbers_of needed)) (loadedness new_records) + loaded_items (items_of new_records)
brought_next needed k records new_records inside fits is =
    let n = number_of_session (get_or needed k 0) in
    let at = number_at needed k inside in
    let one : k + 1 ≡ suc k = omega arith in
    let flags = loadedness records in
    let same : loadedness new_records ≡ set flags (get_or (numbers_of needed) k 0) true = is ∙ ap (λ (n : ℕ). set flags n true) (sym at) in
    omega (
      arith,
      next_in (numbers_of needed) k flags (omega (arith, inside, length-map needed number_of_session)) (omega (arith, at, fits, flags_length records)),
      ap (λ (n : ℕ). missing_in (drop n (numbers_of needed)) (loadedness new_records)) one,
      ap (missing_in (drop (suc k) (numbers_of needed))) same,
      ap (count_by (λ (flag : Bool). flag)) same,
      flags_count (items_of records),
      flags_count (items_of new_records),
    )

pub some_missing : (needed : List ℕ) (k : ℕ) (records : List Record) → k < length needed
    → number_of_session (get_or needed k 0) < length records
    → is_loaded_item (item_at (items_of records) (number_of_session (get_or needed k 0))) ≡ false
    → 1 ≤ missing_in (drop k (numbers_of needed)) (loadedness records)
some_missing needed k records inside fits out =
    let flags = loadedness records in
    let at = number_at needed k inside in
    let n = get_or (numbers_of needed) k 0 in
    let within : n < length flags = omega (arith, at, flags_length records, fits) in
    omega (
      arith,
      next_in (numbers_of needed) k flags (omega (arith, inside, length-map needed number_of_session)) within,
      count_set (λ (flag : Bool). flag) flags n true false within,
      flag_false (get_or flags n false) (ap (λ (n : ℕ). get_or flags n false) at ∙ flag_at (items_of records) (number_of_session (get_or needed k 0)) ∙ out),
    )

-- one more is loaded
pub loaded_more : (records new_records : List Record) (number : ℕ) → number < length records → is_loaded_item (item_at (items_of records) number) ≡ false
    → loadedness new_records ≡ set (loadedness records) number true → loaded_items (items_of new_records) ≡ loaded_items (items_of records) + 1
loaded_more records new_records number fits out is =
    let flags = loadedness records in
    omega (
      arith,
      count_set (λ (flag : Bool). flag) flags number true false (omega (arith, flags_length records, fits)),
      flag_false (get_or flags number false) (flag_at (items_of records) number ∙ out),
      ap (count_by (λ (flag : Bool). flag)) is,
      flags_count (items_of records),
      flags_count (items_of new_records),
    )

pub flags_set : (items new_items : List (Option Item)) (number : ℕ) → new_items ≡ set items number (item_at new_items number)
    → is_loaded_item (item_at new_items number) ≡ true → flags_of new_items ≡ set (flags_of items) number true
flags_set items new_items number items_are is =
    ap flags_of items_are ∙ map-set is_loaded_item items number (item_at new_items number) ∙ ap (set (flags_of items) number) is

-- where it is loaded already, its flag is true
pub flags_same : (items : List (Option Item)) (number : ℕ) → is_loaded_item (item_at items number) ≡ true → flags_of items ≡ set (flags_of items) number true
flags_same items number is = sym (set-get_or (flags_of items) number false) ∙ ap (set (flags_of items) number) (flag_at items number ∙ is)

-- that one is loaded
pub brought_loaded : (records new_records : List Record) (handle : ℕ) → Names (items_of records) handle
    → holders (items_of new_records) ≡ holders (items_of records)
    → number_of_session handle < length records → loadedness new_records ≡ set (loadedness records) (number_of_session handle) true
    → is_loaded_item (item_of (items_of new_records) handle) ≡ true
brought_loaded records new_records handle names same fits is =
    let number = number_of_session handle in
    let new_items = items_of new_records in
    ap is_loaded_item (named_is new_items handle (named_again (items_of records) new_items handle same names))
    ∙ sym (flag_at new_items number)
    ∙ ap (λ (l : List Bool). get_or l number false) is
    ∙ get_or-set_same (loadedness records) number true false (omega (arith, flags_length records, fits))

-- ---- what stays

pub missing_same : (needed : List ℕ) (items new_items : List (Option Item)) → AreNamed needed items
    → ((handle : ℕ) → Names items handle → is_among needed handle ≡ true → item_of new_items handle ≡ item_of items handle)
    → missing needed new_items ≡ missing needed items
missing_same [] items new_items named same = refl
missing_same (n ∷ needed) items new_items named same =
    let this : item_of new_items n ≡ item_of items n = same n named.0 (ap (λ (b : Bool). b || is_among needed n) (eq-eqb n n refl)) in
    let rest = missing_same needed items new_items named.1 (λ handle names is. same handle names (or_true (n == handle) (is_among needed handle) is)) in
    λ i. (if is_loaded_item (this i) || is_among needed n then 0 else 1) + rest i

pub loaded_needed : (needed : List ℕ) (items : List (Option Item)) (k : ℕ) → AreLoaded needed items → k < length needed
    → is_loaded_item (item_of items (get_or needed k 0)) ≡ true
loaded_needed needed items k all inside = All-from_recursion (λ (handle : ℕ). is_loaded_item (item_of items handle) ≡ true) needed all k 0 inside

pub none_past : (needed : List ℕ) (k : ℕ) (flags : List Bool) → length needed ≤ k → missing_in (drop k (numbers_of needed)) flags ≡ 0
none_past needed k flags past =
    ap (λ (l : List ℕ). missing_in l flags) (drop_all k (numbers_of needed) (omega (arith, past, length-map needed number_of_session)))

-- ---- the one that is chosen to be saved

abbrev pub Chooses : List ℕ → List (Option Item) → List ℕ → Option ℕ → Type 0
Chooses needed items loaded result = MatchOption result (AllNeeded items loaded needed (length loaded))
    (λ number. (at : ℕ) × (slice_get loaded at ≡ Some number) × (is_among needed (handle_at items number) ≡ false) × AllNeeded items loaded needed at)

pub some_chosen : (needed : List ℕ) (items : List (Option Item)) (indices : List ℕ) (result : Option ℕ) → Chooses needed items indices result
    → (AllNeeded items indices needed (length indices) → ⊥) → is_some result ≡ true
some_chosen needed items indices None all never = absurd (never all)
some_chosen needed items indices (Some number) is never = refl

-- it is the first in the list that isn't needed
pub record Chosen (needed : List ℕ) (items : List (Option Item)) (loaded : List ℕ) (number : ℕ) : Type 0 where
  pub at : ℕ
  pub inside : at < length loaded
  pub here : get_or loaded at 0 ≡ number
  pub out : is_among needed (handle_at items number) ≡ false
  pub before : AllNeeded items loaded needed at

pub chosen : (needed : List ℕ) (items : List (Option Item)) (indices : List ℕ) (result : Option ℕ) (number : ℕ)
    → Chooses needed items indices result → result ≡ Some number → Chosen needed items indices number
chosen needed items indices result number is some =
    let its = subst (λ (r : Option ℕ). Chooses needed items indices r) some is in
    record {
      at = its.0;
      inside = slice_get_within indices its.0 number its.1;
      here = get_or_from_slice_get indices its.0 number 0 its.1;
      out = its.2;
      before = its.3;
    }

pub chosen_gone : {contexts : ContextLimits} (needed : List ℕ) (records : List Record) (indices : List ℕ) (number : ℕ) → AreRecords contexts records → AreNamed needed (items_of records)
    → Lists indices (items_of records) → Chosen needed (items_of records) indices number
    → without_unneeded (numbers_of needed) indices ≡ without_one number indices
chosen_gone needed records indices number sound named lists is =
    let items = items_of records in
    let out : is_among needed (handle_at items (get_or indices is.at 0)) ≡ false = ap (λ (n : ℕ). is_among needed (handle_at items n)) is.here ∙ is.out in
    unneeded_at (numbers_of needed) indices is.at is.inside
    (λ k below. sym (among_listed needed records indices k sound named lists (omega (arith, below, is.inside))) ∙ is.before k below)
    (sym (among_listed needed records indices is.at sound named lists is.inside) ∙ out)
    ∙ sym (without_at number indices is.at is.inside
    (λ k below same. false≢true (sym is.out ∙ ap (λ (n : ℕ). is_among needed (handle_at items n)) (sym same) ∙ is.before k below)) is.here)

pub chosen_one : {contexts : ContextLimits} (needed : List ℕ) (records : List Record) (indices : List ℕ) (number : ℕ) → AreRecords contexts records → AreNamed needed (items_of records)
    → Lists indices (items_of records) → Chosen needed (items_of records) indices number
    → next_unneeded (numbers_of needed) indices ≡ number ∷ []
chosen_one needed records indices number sound named lists is =
    let items = items_of records in
    let out : is_among needed (handle_at items (get_or indices is.at 0)) ≡ false = ap (λ (n : ℕ). is_among needed (handle_at items n)) is.here ∙ is.out in
    unneeded_one (numbers_of needed) indices is.at is.inside
    (λ k below. sym (among_listed needed records indices k sound named lists (omega (arith, below, is.inside))) ∙ is.before k below)
    (sym (among_listed needed records indices is.at sound named lists is.inside) ∙ out)
    ∙ ap (λ (n : ℕ). n ∷ []) is.here
