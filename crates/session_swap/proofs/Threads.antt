-- Numbers in lists: each stands in one of them, and one goes from where it stands to the back of another list.
use Rattle.std.proofs.Common.{◌≡◌, ◌≢◌, ◌+◌, ◌<◌, ◌≤◌, inl, inr, ℕ, zero, suc, Bool, true, false, ltb, List, [], ◌∷◌, ◌++◌, length, get_or, set, refl, ap, sym, ◌∙◌, arith, length-append, length-set}
use Rattle.std.specs.Prelude.{◌==◌, not, Some, replicate, slice_get, if◌then◌else◌}
use Rattle.std.specs.List.{count_by, sum_by}
use Rattle.std.proofs.lemmas.Bool.{cases_eq, cases_lt, eq-eqb, eqb-true, le-ltb, lt-ltb, ltb-true, ne_eqb}
use Rattle.std.proofs.lemmas.List.{get_or-set_other, get_or-set_same, get_or_past, map_push}
use Rattle.std.proofs.lemmas.Option.{none-some, same_Some}
use Rattle.std.proofs.lemmas.List.Edits.{length-remove}
use Rattle.std.proofs.lemmas.List.Sums.{get_or-le-sum_by, sum_by-append, sum_by-cons, sum_by-set, sum_by_push}
use Rattle.tab_spec.specs.declared.TheConstants.{SESSION_NUMBERS}
use Rattle.device_port.specs.Use.{used_after, without_one}
use Rattle.linked_records.specs.View.{IsListed, first_index, moved, put_back, taken_out}
use Rattle.session_swap.specs.Items.{flag}
use Rattle.session_swap.specs.Records.{HasFirst, names_in, names_of, order_of, stands_in}
use Rattle.session_swap.proofs.Counts.{count_cons, count_one, flag_false, flag_most, flag_true}
use Rattle.session_swap.proofs.Uses.{not_first, stands, without_absent}

abbrev pub Entry : Type 0
Entry = ℕ × Unit {0}

-- ---- one list

names_both : (before after : List Entry) → names_of (before ++ after) ≡ names_of before ++ names_of after
names_both [] after = refl
names_both (p ∷ before) after = ap (λ (l : List ℕ). p.0 ∷ l) (names_both before after)

record Found (number : ℕ) (list : List Entry) : Type 0 where
  before : List Entry
  value : Unit {0}
  after : List Entry
  is : list ≡ before ++ (number, value) ∷ after

found_by : (number : ℕ) (p : Entry) (list : List Entry) (same : Bool) → (p.0 == number) ≡ same → 1 ≤ stands_in number (p ∷ list)
    → (1 ≤ stands_in number list → Found number list) → Found number (p ∷ list)
found_by number p list true same some rest = record {
  before = [];
  value = p.1;
  after = list;
  is = ap (λ (n : ℕ). (n, p.1) ∷ list) (eqb-true p.0 number same);
}
found_by number p list false same some rest =
    let later = rest (omega (arith, some, count_cons (λ (one : ℕ). one == number) p.0 (names_of list), flag_false (p.0 == number) same)) in
    record { before = p ∷ later.before; value = later.value; after = later.after; is = ap (λ (l : List Entry). p ∷ l) later.is }

found : (number : ℕ) (list : List Entry) → 1 ≤ stands_in number list → Found number list
found number [] some = absurd (omega (arith, some))
found number (p ∷ list) some = found_by number p list (p.0 == number) refl some (found number list)

-- a number stands among the others once more than without it
stands_around : (number n : ℕ) (v : Unit {0}) (before after : List Entry)
    → stands_in number (before ++ (n, v) ∷ after) ≡ stands_in number (before ++ after) + flag (n == number)
stands_around number n v before after =
    let f : ℕ → ℕ = λ one. flag (one == number) in
    omega (
      arith,
      ap (sum_by f) (names_both before ((n, v) ∷ after)),
      ap (sum_by f) (names_both before after),
      sum_by-append f (names_of before) (n ∷ names_of after),
      sum_by-append f (names_of before) (names_of after),
      sum_by-cons f n (names_of after),
    )

stands_push : (number n : ℕ) (v : Unit {0}) (list : List Entry)
    → stands_in number (list ++ (n, v) ∷ []) ≡ stands_in number list + flag (n == number)
stands_push number n v list =
    let f : ℕ → ℕ = λ one. flag (one == number) in
    ap (sum_by f) (map_push (λ (p : Entry). p.0) list (n, v)) ∙ sum_by_push f (names_of list) n

without_found : (number : ℕ) (before after : List ℕ) → count_by (λ one. one == number) before ≡ 0
    → without_one number (before ++ number ∷ after) ≡ before ++ after
without_found number [] after none = ap (λ (b : Bool). if b then after else number ∷ without_one number after) (eq-eqb number number refl)
without_found number (x ∷ before) after none =
    let rest = not_first number x before none in
    ap (λ (b : Bool). if b then before ++ number ∷ after else x ∷ without_one number (before ++ number ∷ after)) rest.0
    ∙ ap (λ (l : List ℕ). x ∷ l) (without_found number before after rest.1)

-- ---- all lists

pub listed : (lists : List (List Entry)) (number : ℕ) → 1 ≤ sum_by (stands_in number) lists → IsListed lists number
listed [] number some = absurd (omega (arith, some))
listed (list ∷ lists) number some =
    elim (cases_lt 0 (stands_in number list)) [
      | inl here ↦
          let there = found number list here in
          record { list = 0; before = there.before; value = there.value; after = there.after; within = omega arith; is = there.is }
      | inr none ↦
          let rest = listed lists number (omega (arith, some, none, sum_by-cons (stands_in number) list lists)) in
          record {
            list = suc rest.list;
            before = rest.before;
            value = rest.value;
            after = rest.after;
            within = omega (arith, rest.within);
            is = rest.is;
          }
    ]

pub three : (f : List Entry → ℕ) (lists : List (List Entry)) → length lists ≡ 3
    → sum_by f lists ≡ f (get_or lists 0 []) + f (get_or lists 1 []) + f (get_or lists 2 [])
three f [] is = absurd (omega (arith, is))
three f (a ∷ []) is = absurd (omega (arith, is))
three f (a ∷ b ∷ []) is = absurd (omega (arith, is))
three f (a ∷ b ∷ c ∷ []) is =
    omega (arith, sum_by-cons f a (b ∷ c ∷ []), sum_by-cons f b (c ∷ []), sum_by-cons f c [])
three f (a ∷ b ∷ c ∷ d ∷ rest) is = absurd (omega (arith, is))

-- ---- where one of them is moved

module _ (count : ℕ) (lists : List (List Entry)) (has : HasFirst count lists) (number : ℕ) (at : IsListed lists number) where
  -- it stands nowhere else
  in_list : stands_in number (get_or lists at.list []) ≡ stands_in number (at.before ++ at.after) + 1
  in_list =
      omega (
        arith,
        ap (stands_in number) at.is,
        stands_around number number at.value at.before at.after,
        flag_true (number == number) (eq-eqb number number refl),
      )

  most_once : sum_by (stands_in number) lists ≤ 1
  most_once = omega (arith, has.once number, flag_most (ltb number count))

  around_none : stands_in number (at.before ++ at.after) ≡ 0
  around_none = omega (arith, in_list, most_once, get_or-le-sum_by (stands_in number) lists at.list [] at.within)

  before_none : stands_in number at.before ≡ 0
  before_none =
      let f : ℕ → ℕ = λ one. flag (one == number) in
      omega (
        arith,
        around_none,
        ap (sum_by f) (names_both at.before at.after),
        sum_by-append f (names_of at.before) (names_of at.after),
      )

  others_none : (other : ℕ) → other ≢ at.list → stands_in number (get_or lists other []) ≡ 0
  others_none other apart =
      elim (cases_lt other (length lists)) [
        | inl inside ↦
            let left = set lists at.list [] in
            let set_is : stands_in number (get_or left other []) ≡ stands_in number (get_or lists other []) =
            ap (stands_in number) (get_or-set_other lists at.list other [] [] apart) in
            omega (
              arith,
              set_is,
              in_list,
              most_once,
              sum_by-set (stands_in number) lists at.list [] [] at.within,
              get_or-le-sum_by (stands_in number) left other [] (omega (arith, inside, length-set {A = List Entry} lists at.list [])),
            )
        | inr past ↦ ap (stands_in number) (get_or_past lists other [] past)
      ]

  out : List (List Entry)
  out = taken_out lists number at

  out_length : length (taken_out lists number at) ≡ length lists
  out_length = length-set {A = List Entry} lists at.list (at.before ++ at.after)

  -- without it
  names_out : (other : ℕ) → names_in (taken_out lists number at) other ≡ without_one number (names_in lists other)
  names_out other =
      elim (cases_eq other at.list) [
        | inl same ↦
            ap (names_in (taken_out lists number at)) same
            ∙ ap names_of (get_or-set_same lists at.list (at.before ++ at.after) [] at.within)
            ∙ names_both at.before at.after
            ∙ sym (without_found number (names_of at.before) (names_of at.after) before_none)
            ∙ sym (ap (without_one number) (names_both at.before ((number, at.value) ∷ at.after)))
            ∙ sym (ap (λ (l : List Entry). without_one number (names_of l)) at.is)
            ∙ ap (λ (k : ℕ). without_one number (names_in lists k)) (sym same)
        | inr apart ↦
            ap names_of (get_or-set_other lists at.list other (at.before ++ at.after) [] apart)
            ∙ sym (without_absent number (names_in lists other) (others_none other apart))
      ]

  module _ (list : ℕ) (there : list < 3) where
    within : list < length (taken_out lists number at)
    within = omega (arith, out_length, has.three, there)

    pub moved_back : names_in (moved lists number at list) list ≡ used_after (names_in lists list) number
    moved_back =
        let here = get_or (taken_out lists number at) list [] in
        ap names_of (get_or-set_same (taken_out lists number at) list (here ++ (number, at.value) ∷ []) [] within)
        ∙ map_push (λ (p : Entry). p.0) here (number, at.value)
        ∙ ap (λ (l : List ℕ). l ++ number ∷ []) (names_out list)

    pub moved_others : (other : ℕ) → other ≢ list → names_in (moved lists number at list) other ≡ without_one number (names_in lists other)
    moved_others other apart =
        let here = get_or (taken_out lists number at) list [] in
        ap names_of (get_or-set_other (taken_out lists number at) list other (here ++ (number, at.value) ∷ []) [] apart)
        ∙ names_out other

    pub has_moved : HasFirst count (moved lists number at list)
    has_moved =
        let left = taken_out lists number at in
        let here = get_or left list [] in
        record {
          three = length-set {A = List Entry} left list (here ++ (number, at.value) ∷ []) ∙ out_length ∙ has.three;
          once = λ n. omega (
            arith,
            has.once n,
            sum_by-set (stands_in n) lists at.list (at.before ++ at.after) [] at.within,
            sum_by-set (stands_in n) left list (here ++ (number, at.value) ∷ []) [] within,
            ap (stands_in n) at.is,
            stands_around n number at.value at.before at.after,
            stands_push n number at.value here,
          );
          total =
              let f : List Entry → ℕ = λ l. length l in
              omega (
                arith,
                has.total,
                sum_by-set f lists at.list (at.before ++ at.after) [] at.within,
                sum_by-set f left list (here ++ (number, at.value) ∷ []) [] within,
                ap f at.is,
                length-append at.before ((number, at.value) ∷ at.after),
                length-append at.before at.after,
                length-append here ((number, at.value) ∷ []),
              );
        }

-- ---- the number of each session

-- it stands in a list
pub number_listed : (lists : List (List Entry)) (number : ℕ) → HasFirst SESSION_NUMBERS lists → number < SESSION_NUMBERS → IsListed lists number
number_listed lists number has below =
    listed lists number (omega (arith, has.once number, flag_true (ltb number SESSION_NUMBERS) (lt-ltb number SESSION_NUMBERS below)))

-- how often it stands in each of the lists
pub in_each : (lists : List (List Entry)) (number : ℕ) → HasFirst SESSION_NUMBERS lists
    → stands_in number (get_or lists 0 []) + count_by (λ one. one == number) (order_of lists).loaded
    + count_by (λ one. one == number) (order_of lists).saved ≡ flag (ltb number SESSION_NUMBERS)
in_each lists number has = sym (three (stands_in number) lists has.three) ∙ has.once number

below_by : (number : ℕ) (below : Bool) → ltb number SESSION_NUMBERS ≡ below → 1 ≤ flag below → number < SESSION_NUMBERS
below_by number true is some = ltb-true number SESSION_NUMBERS is
below_by number false is some = absurd (omega (arith, some))

pub below_loaded : (lists : List (List Entry)) (number : ℕ) → HasFirst SESSION_NUMBERS lists
    → 1 ≤ count_by (λ one. one == number) (order_of lists).loaded → number < SESSION_NUMBERS
below_loaded lists number has some =
    below_by number (ltb number SESSION_NUMBERS) refl (omega (arith, some, in_each lists number has))

pub below_saved : (lists : List (List Entry)) (number : ℕ) → HasFirst SESSION_NUMBERS lists
    → 1 ≤ count_by (λ one. one == number) (order_of lists).saved → number < SESSION_NUMBERS
below_saved lists number has some =
    below_by number (ltb number SESSION_NUMBERS) refl (omega (arith, some, in_each lists number has))

pub below_either : (lists : List (List Entry)) (number : ℕ) (is_loaded : Bool) → HasFirst SESSION_NUMBERS lists
    → count_by (λ one. one == number) (order_of lists).loaded ≡ flag is_loaded
    → count_by (λ one. one == number) (order_of lists).saved ≡ flag (not is_loaded) → number < SESSION_NUMBERS
below_either lists number true has loaded saved = below_loaded lists number has (omega (arith, loaded))
below_either lists number false has loaded saved = below_saved lists number has (omega (arith, saved))

-- ---- lengths

pub length_without : (number : ℕ) (xs : List ℕ) → count_by (λ one. one == number) xs ≤ 1
    → length (without_one number xs) + count_by (λ one. one == number) xs ≡ length xs
length_without number xs most =
    elim (stands number xs) [
      | inl none ↦ omega (arith, ap length none.1, none.0)
      | inr there ↦
          let here : flag (get_or xs there.0 0 == number) ≡ 1 = flag_true (get_or xs there.0 0 == number) (eq-eqb (get_or xs there.0 0) number there.2) in
          omega (
            arith,
            most,
            here,
            count_one (λ (one : ℕ). one == number) xs there.0 0 there.1,
            ap length there.3,
            length-remove xs there.0 there.1,
          )
    ]

pub length_used : (number : ℕ) (xs : List ℕ) → count_by (λ one. one == number) xs ≤ 1
    → length (used_after xs number) + count_by (λ one. one == number) xs ≡ length xs + 1
length_used number xs most = omega (arith, length_without number xs most, length-append (without_one number xs) (number ∷ []))

-- ---- the start

pub has_none : HasFirst 0 (replicate 3 [])
has_none = record { three = refl; once = λ number. sym (flag_false (ltb number 0) (le-ltb number 0 (omega arith))); total = refl }

below_more : (number count : ℕ) → flag (ltb number (count + 1)) ≡ flag (ltb number count) + flag (count == number)
below_more number count =
    elim (cases_lt number count) [
      | inl below ↦ omega (
        arith,
        flag_true (ltb number (count + 1)) (lt-ltb number (count + 1) (omega (arith, below))),
        flag_true (ltb number count) (lt-ltb number count below),
        flag_false (count == number) (ne_eqb count number (λ same. absurd (omega (arith, below, same)))),
      )
      | inr past ↦ elim (cases_eq count number) [
        | inl same ↦ omega (
          arith,
          flag_true (ltb number (count + 1)) (lt-ltb number (count + 1) (omega (arith, same))),
          flag_false (ltb number count) (le-ltb number count past),
          flag_true (count == number) (eq-eqb count number same),
        )
        | inr apart ↦ omega (
          arith,
          flag_false (ltb number (count + 1)) (le-ltb number (count + 1) (more_than number count past apart)),
          flag_false (ltb number count) (le-ltb number count past),
          flag_false (count == number) (ne_eqb count number apart),
        )
      ]
    ]
  where
    more_than : (number count : ℕ) → count ≤ number → count ≢ number → count + 1 ≤ number
    more_than number count past apart =
        elim (cases_lt count number) [
          | inl below ↦ omega (arith, below)
          | inr other ↦ absurd (apart (omega (arith, past, other)))
        ]

-- one number more, which no session has
pub has_more : (count : ℕ) (lists : List (List Entry)) (v : Unit {0}) → HasFirst count lists → HasFirst (count + 1) (put_back lists 0 (count, v))
has_more count lists v has =
    let here = get_or lists 0 [] in
    let inside : 0 < length lists = omega (arith, has.three) in
    record {
      three = length-set {A = List Entry} lists 0 (here ++ (count, v) ∷ []) ∙ has.three;
      once = λ number. omega (
        arith,
        has.once number,
        sum_by-set (stands_in number) lists 0 (here ++ (count, v) ∷ []) [] inside,
        stands_push number count v here,
        below_more number count,
      );
      total = omega (
        arith,
        has.total,
        sum_by-set (λ (l : List Entry). length l) lists 0 (here ++ (count, v) ∷ []) [] inside,
        length-append here ((count, v) ∷ []),
      );
    }

-- the order doesn't change
pub order_more : (lists : List (List Entry)) (p : Entry) → order_of (put_back lists 0 p) ≡ order_of lists
order_more [] p = refl
order_more (list ∷ lists) p = refl

-- ---- the first one, and the next

pub first_is : (list : List Entry) → first_index list ≡ slice_get (names_of list) 0
first_is [] = refl
first_is (p ∷ list) = refl

pub next_is : (before after : List Entry) (p : Entry) → first_index after ≡ slice_get (names_of (before ++ p ∷ after)) (length before + 1)
next_is [] after p = first_is after
next_is (x ∷ before) after p =
    let one : suc (length before + 1) ≡ suc (length before) + 1 = omega arith in
    next_is before after p ∙ ap (λ (k : ℕ). slice_get (names_of (x ∷ before ++ p ∷ after)) k) one

pub record StandsAt (list : List Entry) (number at : ℕ) : Type 0 where
  pub before : List Entry
  pub value : Unit {0}
  pub after : List Entry
  pub is : list ≡ before ++ (number, value) ∷ after
  pub place : length before ≡ at

stands_first : (p : Entry) (list : List Entry) (number : ℕ) → p.0 ≡ number → StandsAt (p ∷ list) number 0
stands_first p list number is =
    record { before = []; value = p.1; after = list; is = ap (λ (n : ℕ). (n, p.1) ∷ list) is; place = refl }

pub stands_at : (list : List Entry) (number at : ℕ) → slice_get (names_of list) at ≡ Some number → StandsAt list number at
stands_at [] number at is = absurd (none-some number is)
stands_at (p ∷ list) number zero is = stands_first p list number (same_Some p.0 number is)
stands_at (p ∷ list) number (suc at) is =
    let rest = stands_at list number at is in
    record {
      before = p ∷ rest.before;
      value = rest.value;
      after = rest.after;
      is = ap (λ (l : List Entry). p ∷ l) rest.is;
      place = ap suc rest.place;
    }

pub next_of : (list : List Entry) (number at : ℕ) → (stands : StandsAt list number at)
    → first_index stands.after ≡ slice_get (names_of list) (at + 1)
next_of list number at stands =
    next_is stands.before stands.after (number, stands.value)
    ∙ ap (λ (l : List Entry). slice_get (names_of l) (length stands.before + 1)) (sym stands.is)
    ∙ ap (λ (k : ℕ). slice_get (names_of list) (k + 1)) stands.place

pub loaded_below : (lists : List (List Entry)) (number at : ℕ) → HasFirst SESSION_NUMBERS lists → slice_get (order_of lists).loaded at ≡ Some number
    → number < SESSION_NUMBERS
loaded_below lists number at has is =
    let stands = stands_at (get_or lists 1 []) number at is in
    below_loaded lists number has (omega (
      arith,
      ap (stands_in number) stands.is,
      stands_around number number stands.value stands.before stands.after,
      flag_true (number == number) (eq-eqb number number refl),
    ))

-- the one that is listed there, and the next
pub next_listed : (lists : List (List Entry)) (number at : ℕ) → length lists ≡ 3 → slice_get (order_of lists).loaded at ≡ Some number
    → (listed : IsListed lists number) × (first_index listed.after ≡ slice_get (order_of lists).loaded (at + 1))
next_listed lists number at count is =
    let stands = stands_at (get_or lists 1 []) number at is in (
      record {
        list = 1;
        before = stands.before;
        value = stands.value;
        after = stands.after;
        within = omega (arith, count);
        is = stands.is;
      },
      next_of (get_or lists 1 []) number at stands,
    )
