-- The lists of the clients: where the index of an item stands, and what the calls make of that.
use Rattle.std.proofs.Common.{◌≡◌, ◌≢◌, ◌+◌, ◌<◌, ◌≤◌, inl, inr, ℕ, suc, Bool, true, false, List, [], ◌∷◌, ◌++◌, length, get_or, set, refl, ap, sym, ◌∙◌, arith, length-set}
use Rattle.std.specs.Prelude.{◌==◌, ◌||◌, Option, Some, None}
use Rattle.std.proofs.lemmas.Bool.{cases_eq, cases_lt, eq-eqb, eqb-true, false_from_ne_true, false≢true, ne_eqb}
use Rattle.std.proofs.lemmas.List.{get_or-set_other, get_or-set_same, get_or_past}
use Rattle.linked_records.specs.View.{IsListed, put_back, taken_out}
use Rattle.object_swap.specs.Items.{Item, has_list, is_client, is_nobodys, is_owner, is_vacant, item_at, no_item, owner_at}
use Rattle.object_swap.specs.Records.{AreSomebodys, AreThreaded, IndexLists, is_whose, number, stands_in}
use Rattle.object_swap.proofs.Counts.{count_append, count_cons, count_one, is_true, list_some, number_false, number_most, number_true}

abbrev pub Entry : Type 0
Entry = ℕ × Unit {0}

-- ---- one list

record Found (index : ℕ) (list : List Entry) : Type 0 where
  before : List Entry
  value : Unit {0}
  after : List Entry
  is : list ≡ before ++ (index, value) ∷ after

found_by : (index : ℕ) (p : Entry) (list : List Entry) (same : Bool) → (p.0 == index) ≡ same → 1 ≤ stands_in index (p ∷ list)
    → (1 ≤ stands_in index list → Found index list) → Found index (p ∷ list)
found_by index p list true same some rest = record {
  before = [];
  value = p.1;
  after = list;
  is = ap (λ (n : ℕ). (n, p.1) ∷ list) (eqb-true p.0 index same);
}
found_by index p list false same some rest =
    let later = rest (omega (arith, some, count_cons (λ (q : Entry). q.0 == index) p list, number_false (p.0 == index) same)) in
    record { before = p ∷ later.before; value = later.value; after = later.after; is = ap (λ (l : List Entry). p ∷ l) later.is }

found : (index : ℕ) (list : List Entry) → 1 ≤ stands_in index list → Found index list
found index [] some = absurd (omega (arith, some))
found index (p ∷ list) some = found_by index p list (p.0 == index) refl some (found index list)

-- an index stands among the others once more than without it
stands_around : (index n : ℕ) (v : Unit {0}) (before after : List Entry)
    → stands_in index (before ++ (n, v) ∷ after) ≡ stands_in index (before ++ after) + number (n == index)
stands_around index n v before after =
    let f : Entry → Bool = λ p. p.0 == index in
    omega (arith, count_append f before ((n, v) ∷ after), count_append f before after, count_cons f (n, v) after)

stands_push : (index n : ℕ) (v : Unit {0}) (list : List Entry) → stands_in index (list ++ (n, v) ∷ []) ≡ stands_in index list + number (n == index)
stands_push index n v list =
    let f : Entry → Bool = λ p. p.0 == index in
    omega (arith, count_append f list ((n, v) ∷ []), count_cons f (n, v) [])

this : (index : ℕ) → number (index == index) ≡ 1
this index = number_true (index == index) (eq-eqb index index refl)

other : (index n : ℕ) → n ≢ index → number (index == n) ≡ 0
other index n apart = number_false (index == n) (ne_eqb index n (λ same. apart (sym same)))

-- ---- whose an item is, and whose a list

pub client_owns : (owner : Option ℕ) (client : ℕ) → owner ≡ Some client → is_owner client owner ≡ true
client_owns owner client is = ap (is_owner client) is ∙ eq-eqb client client refl

pub owner_is : (owner : Option ℕ) (client : ℕ) → is_owner client owner ≡ true → owner ≡ Some client
owner_is None client is = absurd cc
owner_is (Some owner) client is = ap (λ (n : ℕ). Some n) (eqb-true owner client is)

same_some : {a b : ℕ} → ◌≡◌ {A = Option ℕ} (Some a) (Some b) → a ≡ b
same_some same = cc

whose_none : (owner : Option ℕ) (item : Item) → item.client ≡ None → is_whose owner item ≡ false
whose_none None item none = refl
whose_none (Some client) item none = ap (is_owner client) none

whose_other : (owner : Option ℕ) (item : Item) (client : ℕ) → item.client ≡ Some client → (owner ≡ Some client → ⊥) → is_whose owner item ≡ false
whose_other None item client is apart = refl
whose_other (Some owner) item client is apart =
    ap (is_owner owner) is ∙ ne_eqb client owner (λ same. apart (ap (λ (n : ℕ). Some n) (sym same)))

pub whose_true : (owner : Option ℕ) (item : Item) (client : ℕ) → owner ≡ Some client → is_whose owner item ≡ is_client client item
whose_true owner item client is = ap (λ (o : Option ℕ). is_whose o item) is

whose_same : (owner : Option ℕ) (item new : Item) → new.client ≡ item.client → is_whose owner item ≡ is_whose owner new
whose_same None item new same = refl
whose_same (Some client) item new same = ap (is_owner client) (sym same)

whose_client : (owner : Option ℕ) (item : Item) → is_whose owner item ≡ true
    → (client : ℕ) × (owner ≡ Some client) × (item.client ≡ Some client)
whose_client None item is = absurd cc
whose_client (Some client) item is = (client, refl, owner_is item.client client is)

-- a list whose owner is known is there
pub owner_inside : (owners : List (Option ℕ)) (list client : ℕ) → owner_at owners list ≡ Some client → list < length owners
owner_inside owners list client is =
    elim (cases_lt list (length owners)) [
      | inl inside ↦ inside
      | inr past ↦ let none = get_or_past owners list None past in absurd cc
    ]

pub has_here : (owners : List (Option ℕ)) (list client : ℕ) → owner_at owners list ≡ Some client → has_list owners client ≡ true
has_here owners list client is =
    let f : Option ℕ → Bool = λ owner. is_owner client owner in
    let one = count_one f owners list None (owner_inside owners list client is) in
    let true_here = number_true (f (owner_at owners list)) (client_owns (owner_at owners list) client is) in
    list_some f owners (omega (arith, one, true_here))

-- a client's list
pub record HasList (owners : List (Option ℕ)) (client : ℕ) : Type 0 where
  pub list : ℕ
  pub is : owner_at owners list ≡ Some client

has_by : (owner : Option ℕ) (owners : List (Option ℕ)) (client : ℕ) (here : Bool) → is_owner client owner ≡ here
    → (has_list owners client ≡ true → HasList owners client) → (here || has_list owners client) ≡ true → HasList (owner ∷ owners) client
has_by owner owners client true here rest has = record { list = 0; is = owner_is owner client here }
has_by owner owners client false here rest has = let later = rest has in record { list = suc later.list; is = later.is }

pub list_of : (owners : List (Option ℕ)) (client : ℕ) → has_list owners client ≡ true → HasList owners client
list_of [] client has = absurd cc
list_of (owner ∷ owners) client has = has_by owner owners client (is_owner client owner) refl (list_of owners client) has

-- ---- where an item stands

pub listed_in : (lists : IndexLists) (list index : ℕ) → 1 ≤ stands_in index (get_or lists list []) → IsListed lists index
listed_in lists list index some =
    let there = found index (get_or lists list []) some in
    record {
      list = list;
      before = there.before;
      value = there.value;
      after = there.after;
      within = elim (cases_lt list (length lists)) [
        | inl inside ↦ inside
        | inr past ↦ absurd (omega (arith, some, ap (stands_in index) (get_or_past lists list [] past)))
      ];
      is = there.is;
    }

somebody : (owner : Option ℕ) → is_nobodys owner ≡ false → (client : ℕ) × (owner ≡ Some client)
somebody None some = absurd cc
somebody (Some client) some = (client, refl)

pub nobody : (owner : Option ℕ) → is_nobodys owner ≡ true → owner ≡ None
nobody None none = refl
nobody (Some client) none = absurd cc

pub vacant_client : (items : List Item) (index : ℕ) → AreSomebodys items → is_vacant (item_at items index) ≡ true → (item_at items index).client ≡ None
vacant_client items index somebodys vacant = nobody (item_at items index).client (sym (somebodys index) ∙ vacant)

module _ (items : List Item) (lists : IndexLists) (owners : List (Option ℕ)) (has : AreThreaded items lists owners) where
  -- an item of a client stands in a list
  pub listed_client : (index client : ℕ) → (item_at items index).client ≡ Some client → IsListed lists index
  listed_client index client is =
      let own = list_of owners client (has.owned index client (client_owns (item_at items index).client client is)) in
      let whose = whose_true (owner_at owners own.list) (item_at items index) client own.is ∙ client_owns (item_at items index).client client is in
      listed_in lists own.list index (omega (arith, has.each own.list index, number_true _ whose))

  pub somewhere : AreSomebodys items → (index : ℕ) → is_vacant (item_at items index) ≡ false → (client : ℕ) × ((item_at items index).client ≡ Some client)
  somewhere somebodys index there = somebody (item_at items index).client (sym (somebodys index) ∙ there)

  -- the list of an index is that of its client
  pub owner_of : (index : ℕ) (at : IsListed lists index) → is_whose (owner_at owners at.list) (item_at items index) ≡ true
  owner_of index at =
      is_true (is_whose (owner_at owners at.list) (item_at items index))
      (omega (arith, has.each at.list index, ap (stands_in index) at.is, stands_around index index at.value at.before at.after, this index))

  -- ---- a list is given to a client, or taken from it

  module _ (new_lists : IndexLists) (new_owners : List (Option ℕ)) (list client : ℕ) (as_many : length new_lists ≡ length new_owners)
      (lists_same : (l : ℕ) → get_or new_lists l [] ≡ get_or lists l []) (others : (l : ℕ) → l ≢ list → owner_at new_owners l ≡ owner_at owners l) where
    pub threaded_given : has_list owners client ≡ false → owner_at owners list ≡ None → owner_at new_owners list ≡ Some client
        → AreThreaded items new_lists new_owners
    threaded_given new free given =
        let none : (index : ℕ) → is_client client (item_at items index) ≡ false = λ index.
        false_from_ne_true (is_client client (item_at items index)) (λ is. false≢true (sym new ∙ has.owned index client is)) in
        let not_client : (l : ℕ) → owner_at owners l ≡ Some client → ⊥ = λ l is. false≢true (sym new ∙ has_here owners l client is) in
        record {
          as_many = as_many;
          each = λ l index. elim (cases_eq l list) [
            | inl same ↦ omega (
              arith,
              ap (stands_in index) (lists_same l),
              has.each l index,
              ap (λ (o : Option ℕ). number (is_whose o (item_at items index))) (ap (owner_at owners) same ∙ free),
              ap (λ (o : Option ℕ). number (is_whose o (item_at items index))) (ap (owner_at new_owners) same ∙ given),
              number_false (is_client client (item_at items index)) (none index),
            )
            | inr apart ↦
                ap (stands_in index) (lists_same l) ∙ has.each l index
                ∙ ap (λ (o : Option ℕ). number (is_whose o (item_at items index))) (sym (others l apart))
          ];
          owned = λ index c is.
              let own = list_of owners c (has.owned index c is) in
              has_here new_owners own.list c (others own.list (λ same. let taken = sym own.is ∙ ap (owner_at owners) same ∙ free in absurd cc) ∙ own.is);
          apart = λ l m c one two. elim (cases_eq l list) [
            | inl first ↦ elim (cases_eq m list) [
              | inl second ↦ first ∙ sym second
              | inr second ↦
                  let same = same_some (sym given ∙ ap (owner_at new_owners) (sym first) ∙ one) in
                  absurd (not_client m (sym (others m second) ∙ two ∙ ap (λ (n : ℕ). Some n) (sym same)))
            ]
            | inr first ↦ elim (cases_eq m list) [
              | inl second ↦
                  let same = same_some (sym given ∙ ap (owner_at new_owners) (sym second) ∙ two) in
                  absurd (not_client l (sym (others l first) ∙ one ∙ ap (λ (n : ℕ). Some n) (sym same)))
              | inr second ↦ has.apart l m c (sym (others l first) ∙ one) (sym (others m second) ∙ two)
            ]
          ];
        }

    pub threaded_ended : ((index : ℕ) → is_client client (item_at items index) ≡ false) → owner_at owners list ≡ Some client
        → owner_at new_owners list ≡ None → AreThreaded items new_lists new_owners
    threaded_ended none owned ended =
        let not_that : (l c : ℕ) → owner_at new_owners l ≡ Some c → l ≢ list = λ l c is same.
        (let taken = sym is ∙ ap (owner_at new_owners) same ∙ ended in absurd cc) in
        record {
          as_many = as_many;
          each = λ l index. elim (cases_eq l list) [
            | inl same ↦ omega (
              arith,
              ap (stands_in index) (lists_same l),
              has.each l index,
              ap (λ (o : Option ℕ). number (is_whose o (item_at items index))) (ap (owner_at owners) same ∙ owned),
              ap (λ (o : Option ℕ). number (is_whose o (item_at items index))) (ap (owner_at new_owners) same ∙ ended),
              number_false (is_client client (item_at items index)) (none index),
            )
            | inr apart ↦
                ap (stands_in index) (lists_same l) ∙ has.each l index
                ∙ ap (λ (o : Option ℕ). number (is_whose o (item_at items index))) (sym (others l apart))
          ];
          owned = λ index c is.
              let own = list_of owners c (has.owned index c is) in
              has_here new_owners own.list c (
              others own.list
              (λ same. let c_is = same_some (sym own.is ∙ ap (owner_at owners) same ∙ owned) in
              false≢true (sym (none index) ∙ ap (λ (n : ℕ). is_client n (item_at items index)) (sym c_is) ∙ is))
              ∙ own.is
              );
          apart = λ l m c one two.
              has.apart l m c (sym (others l (not_that l c one)) ∙ one) (sym (others m (not_that m c two)) ∙ two);
        }

  -- ---- the items change, and not whose they are

  pub threaded_again : (new : List Item) → ((index : ℕ) → (item_at new index).client ≡ (item_at items index).client) → AreThreaded new lists owners
  threaded_again new same = record {
    as_many = has.as_many;
    each = λ l index. has.each l index ∙ ap number (whose_same (owner_at owners l) (item_at items index) (item_at new index) (same index));
    owned = λ index c is. has.owned index c (sym (ap (is_owner c) (same index)) ∙ is);
    apart = has.apart;
  }

  -- ---- an item comes into a list

  module _ (index list client : ℕ) (value : Unit {0}) (item : Item) (inside : index < length items) (free : (item_at items index).client ≡ None)
      (is : item.client ≡ Some client) (owner : owner_at owners list ≡ Some client) where
    put_within : list < length lists
    put_within = omega (arith, has.as_many, owner_inside owners list client owner)

    put_at : (l n : ℕ) → stands_in n (get_or (put_back lists list (index, value)) l []) ≡ number (is_whose (owner_at owners l) (item_at (set items index item) n))
    put_at l n =
        let new = get_or lists list [] ++ (index, value) ∷ [] in
        elim (cases_eq l list) [
          | inl same ↦
              let there = ap (λ (k : ℕ). stands_in n (get_or (put_back lists list (index, value)) k [])) same
              ∙ ap (stands_in n) (get_or-set_same lists list new [] put_within) in
              let owner_here = ap (owner_at owners) same ∙ owner in
              elim (cases_eq n index) [
                | inl here ↦ omega (
                  arith,
                  there,
                  stands_push n index value (get_or lists list []),
                  ap (λ (k : ℕ). number (index == k)) here,
                  this index,
                  has.each list n,
                  ap (λ (k : ℕ). number (is_whose (owner_at owners list) (item_at items k))) here,
                  number_false _ (whose_none (owner_at owners list) (item_at items index) free),
                  ap (λ (k : ℕ). number (is_whose (owner_at owners l) (item_at (set items index item) k))) here,
                  ap (λ (i : Item). number (is_whose (owner_at owners l) i)) (get_or-set_same items index item no_item inside),
                  number_true _ (whose_true (owner_at owners l) item client owner_here ∙ client_owns item.client client is),
                )
                | inr apart ↦ omega (
                  arith,
                  there,
                  stands_push n index value (get_or lists list []),
                  other index n apart,
                  has.each list n,
                  ap (λ (k : ℕ). number (is_whose (owner_at owners k) (item_at items n))) same,
                  ap (λ (i : Item). number (is_whose (owner_at owners l) i)) (get_or-set_other items index n item no_item apart),
                )
              ]
          | inr far ↦
              let there = ap (stands_in n) (get_or-set_other lists list l new [] far) ∙ has.each l n in
              elim (cases_eq n index) [
                | inl here ↦ omega (
                  arith,
                  there,
                  ap (λ (k : ℕ). number (is_whose (owner_at owners l) (item_at items k))) here,
                  number_false _ (whose_none (owner_at owners l) (item_at items index) free),
                  ap (λ (k : ℕ). number (is_whose (owner_at owners l) (item_at (set items index item) k))) here,
                  ap (λ (i : Item). number (is_whose (owner_at owners l) i)) (get_or-set_same items index item no_item inside),
                  number_false _ (whose_other (owner_at owners l) item client is (λ same. far (has.apart l list client same owner))),
                )
                | inr apart ↦ there ∙ ap (λ (i : Item). number (is_whose (owner_at owners l) i)) (sym (get_or-set_other items index n item no_item apart))
              ]
        ]

    pub threaded_put : AreThreaded (set items index item) (put_back lists list (index, value)) owners
    threaded_put = record {
      as_many = length-set {A = List Entry} lists list (get_or lists list [] ++ (index, value) ∷ []) ∙ has.as_many;
      each = put_at;
      owned = λ n c one. elim (cases_eq n index) [
        | inl here ↦
            let new = ap (λ (i : Item). i.client) (get_or-set_same items index item no_item inside) ∙ is in
            let whose = owner_is (item_at (set items index item) index).client c (ap (λ (k : ℕ). is_client c (item_at (set items index item) k)) (sym here) ∙ one) in
            has_here owners list c (owner ∙ sym new ∙ whose)
        | inr apart ↦ has.owned n c (ap (is_client c) (sym (get_or-set_other items index n item no_item apart)) ∙ one)
      ];
      apart = has.apart;
    }

  -- ---- an item leaves its list

  module _ (index : ℕ) (at : IsListed lists index) (inside : index < length items) where
    -- it stands in no other list
    none_else : (l : ℕ) → l ≢ at.list → number (is_whose (owner_at owners l) (item_at items index)) ≡ 0
    none_else l apart =
        let o = owner_at owners at.list in
        let here = owner_of index at in
        let client = whose_client o (item_at items index) here in
        number_false _ (whose_other (owner_at owners l) (item_at items index) client.0 client.2 (λ same. apart (has.apart l at.list client.0 same client.1)))

    out_at : (l n : ℕ) → stands_in n (get_or (taken_out lists index at) l []) ≡ number (is_whose (owner_at owners l) (item_at (set items index no_item) n))
    out_at l n =
        let new = at.before ++ at.after in
        elim (cases_eq l at.list) [
          | inl same ↦
              let there = ap (λ (k : ℕ). stands_in n (get_or (taken_out lists index at) k [])) same
              ∙ ap (stands_in n) (get_or-set_same lists at.list new [] at.within) in
              let was = ap (stands_in n) at.is in
              elim (cases_eq n index) [
                | inl here ↦ omega (
                  arith,
                  there,
                  was,
                  stands_around n index at.value at.before at.after,
                  ap (λ (k : ℕ). number (index == k)) here,
                  this index,
                  has.each at.list n,
                  number_most (is_whose (owner_at owners at.list) (item_at items n)),
                  ap (λ (k : ℕ). number (is_whose (owner_at owners l) (item_at (set items index no_item) k))) here,
                  ap (λ (i : Item). number (is_whose (owner_at owners l) i)) (get_or-set_same items index no_item no_item inside),
                  number_false _ (whose_none (owner_at owners l) no_item refl),
                )
                | inr apart ↦ omega (
                  arith,
                  there,
                  was,
                  stands_around n index at.value at.before at.after,
                  other index n apart,
                  has.each at.list n,
                  ap (λ (k : ℕ). number (is_whose (owner_at owners k) (item_at items n))) same,
                  ap (λ (i : Item). number (is_whose (owner_at owners l) i)) (get_or-set_other items index n no_item no_item apart),
                )
              ]
          | inr far ↦
              let there = ap (stands_in n) (get_or-set_other lists at.list l new [] far) ∙ has.each l n in
              elim (cases_eq n index) [
                | inl here ↦ omega (
                  arith,
                  there,
                  ap (λ (k : ℕ). number (is_whose (owner_at owners l) (item_at items k))) here,
                  none_else l far,
                  ap (λ (k : ℕ). number (is_whose (owner_at owners l) (item_at (set items index no_item) k))) here,
                  ap (λ (i : Item). number (is_whose (owner_at owners l) i)) (get_or-set_same items index no_item no_item inside),
                  number_false _ (whose_none (owner_at owners l) no_item refl),
                )
                | inr apart ↦ there ∙ ap (λ (i : Item). number (is_whose (owner_at owners l) i)) (sym (get_or-set_other items index n no_item no_item apart))
              ]
        ]

    pub threaded_out : AreThreaded (set items index no_item) (taken_out lists index at) owners
    threaded_out = record {
      as_many = length-set {A = List Entry} lists at.list (at.before ++ at.after) ∙ has.as_many;
      each = out_at;
      owned = λ n c one. elim (cases_eq n index) [
        | inl here ↦
            absurd (false≢true (
            sym (ap (is_client c) (get_or-set_same items index no_item no_item inside)) ∙ ap (λ (k : ℕ). is_client c (item_at (set items index no_item) k)) (sym here) ∙ one
            ))
        | inr apart ↦ has.owned n c (ap (is_client c) (sym (get_or-set_other items index n no_item no_item apart)) ∙ one)
      ];
      apart = has.apart;
    }
