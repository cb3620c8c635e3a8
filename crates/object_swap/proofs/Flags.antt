-- Lists of the indices of true flags.
use Rattle.std.proofs.Common.{◌≡◌, ◌≢◌, ◌+◌, ◌<◌, ◌≤◌, inl, inr, ℕ, zero, suc, Bool, true, false, List, [], ◌∷◌, ◌++◌, length, get_or, set, take, refl, ap, subst, sym, ◌∙◌, arith, length-set, length-append, set-set}
use Rattle.std.specs.Prelude.{◌==◌, ◌||◌}
use Rattle.std.specs.List.{count_by, remove}
use Rattle.std.proofs.Math.ListN.{drop_of_length-le}
use Rattle.std.proofs.Math.Seq.{take-append_seam}
use Rattle.std.proofs.lemmas.Bool.{eq-eqb, eqb-true, ne_eqb, cases_eq, cases_lt}
use Rattle.std.proofs.lemmas.List.{append-nil, get_or-set_same, get_or-set_other, get_or_past, get_or_push, set-get_or, set_past}
use Rattle.std.proofs.lemmas.List.Edits.{length-remove}
use Rattle.std.proofs.lemmas.List.Sums.{count_by-le-length, sum_by-remove, sum_by_push}
use Rattle.device_port.specs.Use.{is_among}
use Rattle.object_swap.specs.Records.{AreAmong, ListsFlags, number}
use Rattle.object_swap.proofs.Counts.{count_cons, count_one, count_set, number_true, number_false, is_true}

abbrev names : ℕ → ℕ → Bool
names index one = one == index

names_this : (index : ℕ) → number (names index index) ≡ 1
names_this index = number_true (index == index) (eq-eqb index index refl)

names_other : (index one : ℕ) → one ≢ index → number (names index one) ≡ 0
names_other index one apart = number_false (one == index) (ne_eqb one index apart)

-- what is listed is inside, and its flag is true
pub record Listed (flags : List Bool) (index : ℕ) : Type 0 where
  pub inside : index < length flags
  pub flag : get_or flags index false ≡ true

flag_inside : (flags : List Bool) (index : ℕ) → get_or flags index false ≡ true → index < length flags
flag_inside flags index is =
    elim (cases_lt index (length flags)) [
      | inl inside ↦ inside
      | inr past ↦ let none = get_or_past flags index false past in absurd cc
    ]

pub listed : (flags : List Bool) (indices : List ℕ) (at d : ℕ) → ListsFlags flags indices → at < length indices → Listed flags (get_or indices at d)
listed flags indices at d lists inside =
    let index = get_or indices at d in
    let once = count_one (names index) indices at d inside in
    let this = names_this index in
    let is = is_true (get_or flags index false) (omega (arith, lists.each index)) in
    record { inside = flag_inside flags index is; flag = is }

false_past : (flags : List Bool) (n : ℕ) → get_or (flags ++ false ∷ []) n false ≡ get_or flags n false
false_past [] zero = refl
false_past [] (suc n) = refl
false_past (flag ∷ flags) zero = refl
false_past (flag ∷ flags) (suc n) = false_past flags n

unset_there : (flags : List Bool) (n index : ℕ) → index ≡ n → get_or (set flags n false) index false ≡ true → ⊥
unset_there flags n index same is =
    elim (cases_lt n (length flags)) [
      | inl inside ↦ let there = get_or-set_same flags n false false inside in let at = ap (λ (i : ℕ). get_or (set flags n false) i false) same in cc
      | inr past ↦ let kept = ap (λ (l : List Bool). get_or l index false) (set_past flags n false past) in
          let none = get_or_past flags index false (omega arith) in cc
    ]

pub lists_added : (flags : List Bool) (indices : List ℕ) (index : ℕ) → ListsFlags flags indices → index < length flags → get_or flags index false ≡ false
    → ListsFlags (set flags index true) (indices ++ index ∷ [])
lists_added flags indices index lists inside is = record {
  each = λ n. elim (cases_eq n index) [
    | inl same ↦ omega (
      arith,
      lists.each n,
      sum_by_push (λ (one : ℕ). number (names n one)) indices index,
      ap (λ (n : ℕ). number (names n index)) same,
      names_this index,
      ap (λ (n : ℕ). number (get_or flags n false)) same,
      number_false (get_or flags index false) is,
      ap (λ (n : ℕ). number (get_or (set flags index true) n false)) same,
      number_true (get_or (set flags index true) index false) (get_or-set_same flags index true false inside),
    )
    | inr apart ↦ omega (
      arith,
      lists.each n,
      sum_by_push (λ (one : ℕ). number (names n one)) indices index,
      names_other n index (λ e. apart (sym e)),
      ap number (get_or-set_other flags index n true false apart),
    )
  ];
  count = omega (
    arith,
    lists.count,
    length-append indices (index ∷ []),
    count_set (λ (flag : Bool). flag) flags index true false inside,
    number_false (get_or flags index false) is,
  );
}

pub lists_removed : (flags : List Bool) (indices : List ℕ) (at d : ℕ) → ListsFlags flags indices → at < length indices
    → ListsFlags (set flags (get_or indices at d) false) (remove indices at)
lists_removed flags indices at d lists inside =
    let index = get_or indices at d in
    let was = listed flags indices at d lists inside in
    record {
      each = λ n. elim (cases_eq n index) [
        | inl same ↦ omega (
          arith,
          lists.each n,
          sum_by-remove (λ (one : ℕ). number (names n one)) indices at d inside,
          ap (λ (n : ℕ). number (names n index)) same,
          names_this index,
          ap (λ (n : ℕ). number (get_or flags n false)) same,
          number_true (get_or flags index false) was.flag,
          ap (λ (n : ℕ). number (get_or (set flags index false) n false)) same,
          number_false (get_or (set flags index false) index false) (get_or-set_same flags index false false was.inside),
        )
        | inr apart ↦ omega (
          arith,
          lists.each n,
          sum_by-remove (λ (one : ℕ). number (names n one)) indices at d inside,
          names_other n index (λ e. apart (sym e)),
          ap number (get_or-set_other flags index n false false apart),
        )
      ];
      count = omega (
        arith,
        lists.count,
        length-remove indices at inside,
        count_set (λ (flag : Bool). flag) flags index false false was.inside,
        number_true (get_or flags index false) was.flag,
      );
    }

-- the last index goes
pub lists_popped : (flags : List Bool) (indices : List ℕ) (index : ℕ) → ListsFlags flags (indices ++ index ∷ [])
    → ListsFlags (set flags index false) indices
lists_popped flags indices index lists =
    let all = indices ++ index ∷ [] in
    let last = length indices in
    let more = length-append indices (index ∷ []) in
    let rest : remove all last ≡ indices =
    ap (λ (l : List ℕ). take last all ++ l) (drop_of_length-le all {i = suc last} (omega (arith, more))) ∙ append-nil (take last all) ∙ take-append_seam indices (index ∷ []) in
    subst (λ (l : List ℕ). ListsFlags (set flags index false) l) rest
    (subst (λ (n : ℕ). ListsFlags (set flags n false) (remove all last)) (get_or_push indices index 0 last refl)
    (lists_removed flags all last 0 lists (omega (arith, more))))

-- an index that goes to the end
pub lists_moved : (flags : List Bool) (indices : List ℕ) (at : ℕ) → ListsFlags flags indices → at < length indices
    → ListsFlags flags (remove indices at ++ get_or indices at 0 ∷ [])
lists_moved flags indices at lists inside =
    let index = get_or indices at 0 in
    let was = listed flags indices at 0 lists inside in
    let back : set (set flags index false) index true ≡ flags =
    set-set flags index false true ∙ ap (set flags index) (sym was.flag) ∙ set-get_or flags index false in
    subst (λ (f : List Bool). ListsFlags f (remove indices at ++ index ∷ [])) back
    (lists_added (set flags index false) (remove indices at) index (lists_removed flags indices at 0 lists inside)
    (omega (arith, length-set flags index false, was.inside)) (get_or-set_same flags index false false was.inside))

-- one flag more
pub lists_false : (flags : List Bool) (indices : List ℕ) → ListsFlags flags indices → ListsFlags (flags ++ false ∷ []) indices
lists_false flags indices lists = record {
  each = λ n. lists.each n ∙ ap number (sym (false_past flags n));
  count = omega (arith, lists.count, sum_by_push number flags false);
}

-- ---- among those that are needed

among_by : (needed : List ℕ) (index x : ℕ) (xs : List ℕ) (same : Bool) → (x == index) ≡ same → is_among needed x ≡ true
    → (1 ≤ count_by (names index) xs → is_among needed index ≡ true) → 1 ≤ number same + count_by (names index) xs → is_among needed index ≡ true
among_by needed index x xs true same this rest some = subst (λ (n : ℕ). is_among needed n ≡ true) (eqb-true x index same) this
among_by needed index x xs false same this rest some = rest (omega arith)

among_listed : (needed indices : List ℕ) (index : ℕ) → AreAmong needed indices → 1 ≤ count_by (names index) indices → is_among needed index ≡ true
among_listed needed [] index all some = absurd (omega arith)
among_listed needed (x ∷ xs) index all some =
    among_by needed index x xs (x == index) refl all.0 (among_listed needed xs index all.1) (omega (arith, count_cons (names index) x xs))

-- a flag that is true is listed
pub flag_among : (needed : List ℕ) (flags : List Bool) (indices : List ℕ) → ListsFlags flags indices → AreAmong needed indices → (index : ℕ)
    → get_or flags index false ≡ true → is_among needed index ≡ true
flag_among needed flags indices lists all index is =
    among_listed needed indices index all (omega (arith, lists.each index, number_true (get_or flags index false) is))

pub none_true : (flags : List Bool) → ((index : ℕ) → get_or flags index false ≡ false) → count_by (λ flag. flag) flags ≡ 0
none_true [] none = refl
none_true (flag ∷ flags) none =
    omega (arith, count_cons (λ (flag : Bool). flag) flag flags, number_false flag (none 0), none_true flags (λ index. none (suc index)))

pub not_that : (needed : List ℕ) (n index : ℕ) (same : Bool) → (n == index) ≡ same → n ≢ index → (same || is_among needed index) ≡ true
    → is_among needed index ≡ true
not_that needed n index true same apart among = absurd (apart (eqb-true n index same))
not_that needed n index false same apart among = among

pub unset_true : (flags : List Bool) (n index : ℕ) → get_or (set flags n false) index false ≡ true → (n ≢ index) × (get_or flags index false ≡ true)
unset_true flags n index is =
    let apart : index ≢ n = λ same. unset_there flags n index same is in
    ((λ same. apart (sym same)), sym (get_or-set_other flags n index false false apart) ∙ is)

-- there is room for one more, where a flag is false
pub one_unlisted : (flags : List Bool) (indices : List ℕ) (index : ℕ) → ListsFlags flags indices → index < length flags → get_or flags index false ≡ false
    → length indices < length flags
one_unlisted flags indices index lists inside flag =
    omega (
      arith,
      lists.count,
      count_set (λ (flag : Bool). flag) flags index true false inside,
      number_false (get_or flags index false) flag,
      count_by-le-length (λ (flag : Bool). flag) (set flags index true),
      length-set flags index true,
    )

-- an index that is nowhere in a list
pub none_named : (indices : List ℕ) (index : ℕ) → ((k : ℕ) → k < length indices → get_or indices k 0 ≡ index → ⊥) → count_by (λ one. one == index) indices ≡ 0
none_named [] index none = refl
none_named (x ∷ xs) index none =
    omega (arith, count_cons (names index) x xs, names_other index x (none 0 (omega arith)), none_named xs index (λ k inside. none (suc k) (omega arith)))

pub flag_listed : (flags : List Bool) (indices : List ℕ) (index : ℕ) → ListsFlags flags indices → get_or flags index false ≡ true → 1 ≤ count_by (λ one. one == index) indices
flag_listed flags indices index lists is = omega (arith, lists.each index, number_true (get_or flags index false) is)
