-- What holds of the lists of the clients, and what the calls make of it.
use Rattle.std.proofs.Common.{◌≡◌, ◌≢◌, ◌+◌, ◌-◌, ◌<◌, ◌≤◌, inl, inr, ℕ, zero, suc, Bool, true, false, List, [], ◌∷◌, ◌++◌, length, get_or, set, refl, ap, subst, sym, ◌∙◌, arith, length-append, length-set}
use Rattle.std.specs.Prelude.{◌==◌, Option, Some, None, MatchOption}
use Rattle.std.specs.List.{count_by, list_any}
use Rattle.std.proofs.lemmas.List.{get_or-map, get_or-set_other, get_or-set_same, get_or_past, get_or_push, length-map}
use Rattle.std.proofs.lemmas.List.Sums.{sum_by-set, sum_by_push}
use Rattle.std.proofs.lemmas.Bool.{cases_eq, cases_lt, eq-eqb}
use Rattle.linked_records.specs.View.{IsListed, RecordsView, first_index, put_back, record_count, taken_out}
use Rattle.object_swap.specs.declared.TheConstants.{PLACES_MOST}
use Rattle.object_swap.specs.Items as shown
use Rattle.object_swap.specs.Items.{HasNone, Item, Names, has_list, is_client, is_nobodys, is_vacant, item_at, no_item, owner_at}
use Rattle.object_swap.specs.Records.{AreSomebodys, AreThreaded, IndexLists, IsOwnedBy, number, stands_in}
use Rattle.object_swap.proofs.Counts.{count_append, count_cons, count_map, count_set, count_some, is_false, is_true, list_none, list_some, number_false, number_true}
use Rattle.object_swap.proofs.Listed.{same_vacancy}
use Rattle.object_swap.proofs.Threaded.{Entry, listed_client, owner_inside, owner_is, somewhere, threaded_again, threaded_ended, threaded_given, threaded_out, threaded_put, vacant_client, whose_true}

abbrev View : Type 0
View = RecordsView (Unit {0})

-- ---- each item, where one changes or comes

pub past_other : {X : Type 0} (xs : List X) (x d : X) (n : ℕ) → n ≢ length xs → get_or (xs ++ x ∷ []) n d ≡ get_or xs n d
past_other [] x d zero apart = absurd (apart refl)
past_other [] x d (suc n) apart = refl
past_other (y ∷ xs) x d zero apart = refl
past_other (y ∷ xs) x d (suc n) apart = past_other xs x d n (λ same. apart (ap suc same))

past_more : (items : List Item) (n : ℕ) → item_at (items ++ no_item ∷ []) n ≡ item_at items n
past_more items n =
    elim (cases_eq n (length items)) [
      | inl same ↦ get_or_push items no_item no_item n (sym same) ∙ sym (get_or_past items n no_item (omega (arith, same)))
      | inr apart ↦ past_other items no_item no_item n apart
    ]

owner_is_at : (items : List Item) (n : ℕ) → ◌≡◌ {A = Option ℕ × Bool} (get_or (shown.owners items) n (None, true)) ((item_at items n).client, is_vacant (item_at items n))
owner_is_at items n =
    elim (cases_lt n (length items)) [
      | inl inside ↦ get_or-map (λ (item : Item). (item.client, is_vacant item)) items n no_item (None, true) inside
      | inr past ↦
          get_or_past (shown.owners items) n (None, true) (omega (arith, past, length-map {B = Option ℕ × Bool} items (λ (item : Item). (item.client, is_vacant item))))
          ∙ ap (λ (item : Item). (item.client, is_vacant item)) (sym (get_or_past items n no_item past))
    ]

-- where whose each is stays
owner_again : (items new : List Item) → shown.owners new ≡ shown.owners items → (n : ℕ)
    → ◌≡◌ {A = Option ℕ × Bool} ((item_at new n).client, is_vacant (item_at new n)) ((item_at items n).client, is_vacant (item_at items n))
owner_again items new same n = sym (owner_is_at new n) ∙ ap (λ (l : List (Option ℕ × Bool)). get_or l n (None, true)) same ∙ owner_is_at items n

somebodys_set : (items : List Item) (index : ℕ) (item : Item) → AreSomebodys items → index < length items → is_vacant item ≡ is_nobodys item.client
    → AreSomebodys (set items index item)
somebodys_set items index item all inside is n =
    elim (cases_eq n index) [
      | inl same ↦
          let at : item_at (set items index item) n ≡ item = ap (item_at (set items index item)) same ∙ get_or-set_same items index item no_item inside in
          ap is_vacant at ∙ is ∙ ap (λ (i : Item). is_nobodys i.client) (sym at)
      | inr apart ↦
          let at : item_at (set items index item) n ≡ item_at items n = get_or-set_other items index n item no_item apart in
          ap is_vacant at ∙ all n ∙ ap (λ (i : Item). is_nobodys i.client) (sym at)
    ]

-- ---- counts

put_count : (lists : IndexLists) (list : ℕ) (p : Entry) → list < length lists → record_count (put_back lists list p) ≡ record_count lists + 1
put_count lists list p inside =
    let f : List Entry → ℕ = λ l. length l in
    let here = get_or lists list [] in
    omega (arith, sum_by-set f lists list (here ++ p ∷ []) [] inside, length-append here (p ∷ []))

out_count : (lists : IndexLists) (index : ℕ) (at : IsListed lists index) → record_count (taken_out lists index at) + 1 ≡ record_count lists
out_count lists index at =
    let f : List Entry → ℕ = λ l. length l in
    omega (
      arith,
      sum_by-set f lists at.list (at.before ++ at.after) [] at.within,
      ap f at.is,
      length-append at.before ((index, at.value) ∷ at.after),
      length-append at.before at.after,
    )

past_list : (lists : IndexLists) (n : ℕ) → get_or (lists ++ [] ∷ []) n [] ≡ get_or lists n []
past_list lists n =
    elim (cases_eq n (length lists)) [
      | inl same ↦ get_or_push lists [] [] n (sym same) ∙ sym (get_or_past lists n [] (omega (arith, same)))
      | inr apart ↦ past_other lists [] [] n apart
    ]

vacant_by : (vacant : Bool) → (vacant ≡ false → ⊥) → vacant ≡ true
vacant_by true there = refl
vacant_by false there = absurd (there refl)

none_somebody : (item : Item) → item ≡ no_item → is_vacant item ≡ is_nobodys item.client
none_somebody item is = ap is_vacant is ∙ ap (λ (i : Item). is_nobodys i.client) (sym is)

-- an item of a client is there
of_client : (items : List Item) (index client : ℕ) → AreSomebodys items → (item_at items index).client ≡ Some client → Names items index
of_client items index client all is = record {
  inside = elim (cases_lt index (length items)) [
    | inl inside ↦ inside
    | inr past ↦ absurd (let none = sym (ap (λ (i : Item). i.client) (get_or_past items index no_item past)) ∙ is in cc)
  ];
  there = all index ∙ ap is_nobodys is;
}

first_of_list : (items : List Item) (client : ℕ) → AreSomebodys items → (list : List Entry)
    → ((index : ℕ) → stands_in index list ≡ number (is_client client (item_at items index)))
    → MatchOption (first_index list) (HasNone items client) (λ item. Names items item × ((item_at items item).client ≡ Some client))
first_of_list items client all [] each = λ index. is_false (is_client client (item_at items index)) (omega (arith, each index))
first_of_list items client all (p ∷ list) each =
    let one = count_cons (λ (q : Entry). q.0 == p.0) p list in
    let this = number_true (p.0 == p.0) (eq-eqb p.0 p.0 refl) in
    let whose = is_true (is_client client (item_at items p.0)) (omega (arith, each p.0, one, this)) in
    let is = owner_is (item_at items p.0).client client whose in
    (of_client items p.0 client all is, is)

-- ---- what holds of the lists of the clients

module _ (items : List Item) (view : View) (owners : List (Option ℕ)) (vacant : ℕ) (has : IsOwnedBy items view owners vacant) where
  -- where an item is vacant, there is room for one in a list
  pub some_vacant : list_any is_vacant items ≡ true → 1 ≤ vacant
  some_vacant some = omega (arith, has.counted.vacant_is, count_some is_vacant items some)

  pub vacant_some : 1 ≤ vacant → list_any is_vacant items ≡ true
  vacant_some some = list_some is_vacant items (omega (arith, some, has.counted.vacant_is))

  pub none_vacant : vacant ≡ 0 → list_any is_vacant items ≡ false
  none_vacant none = list_none is_vacant items (omega (arith, none, has.counted.vacant_is))

  -- an object stands in the list of its client
  pub item_listed : (index : ℕ) → is_vacant (item_at items index) ≡ false → IsListed view.lists index
  item_listed index there =
      let own = somewhere items view.lists owners has.threaded has.somebodys index there in
      listed_client items view.lists owners has.threaded index own.0 own.1

  -- the items change, and not whose they are
  pub owned_again : (new : List Item) → shown.owners new ≡ shown.owners items → length new ≡ length items → IsOwnedBy new view owners vacant
  owned_again new same count = record {
    threaded = threaded_again items view.lists owners has.threaded new (λ n. ap (λ (p : Option ℕ × Bool). p.0) (owner_again items new same n));
    somebodys = λ n. ap (λ (p : Option ℕ × Bool). p.1) (owner_again items new same n) ∙ has.somebodys n
        ∙ ap (λ (p : Option ℕ × Bool). is_nobodys p.0) (sym (owner_again items new same n));
    counted =
        let vacant_same = sym (count_map is_vacant new) ∙ ap (count_by (λ (flag : Bool). flag)) (same_vacancy items new same) ∙ count_map is_vacant items in
        record {
          vacant_is = has.counted.vacant_is ∙ sym vacant_same;
          all = has.counted.all ∙ sym count;
          given_least = has.counted.given_least;
          given_most = omega (arith, has.counted.given_most, count);
          spare = has.counted.spare;
        };
    few_lists = has.few_lists;
  }

  -- one more place
  pub owned_more : (new : View) → vacant ≡ 0 → new.lists ≡ view.lists → 1 ≤ new.spare → new.given ≡ view.given
      → IsOwnedBy (items ++ no_item ∷ []) new owners 1
  owned_more new none lists spare given = record {
    threaded = subst (λ (l : IndexLists). AreThreaded (items ++ no_item ∷ []) l owners) (sym lists)
        (threaded_again items view.lists owners has.threaded (items ++ no_item ∷ []) (λ n. ap (λ (i : Item). i.client) (past_more items n)));
    somebodys = λ n. ap is_vacant (past_more items n) ∙ has.somebodys n ∙ ap (λ (i : Item). is_nobodys i.client) (sym (past_more items n));
    counted =
        let more = length-append items (no_item ∷ []) in
        record {
          vacant_is = omega (arith, none, has.counted.vacant_is, count_append is_vacant items (no_item ∷ []), count_cons is_vacant no_item []);
          all = omega (arith, none, ap (record_count {T = Unit {0}}) lists, has.counted.all, more);
          given_least = omega (arith, ap (record_count {T = Unit {0}}) lists, has.counted.given_least, given);
          given_most = omega (arith, has.counted.given_most, given, more);
          spare = spare;
        };
    few_lists = has.few_lists;
  }

  -- a list is given to a client, one that was nobody's
  pub owned_reused : (list client : ℕ) → has_list owners client ≡ false → list < length owners → owner_at owners list ≡ None
      → IsOwnedBy items view (set owners list (Some client)) vacant
  owned_reused list client new inside free =
      let count = length-set {A = Option ℕ} owners list (Some client) in
      record {
        threaded = threaded_given items view.lists owners has.threaded view.lists (set owners list (Some client)) list client
            (has.threaded.as_many ∙ sym count) (λ l. refl) (λ l apart. get_or-set_other owners list l (Some client) None apart) new free
            (get_or-set_same owners list (Some client) None inside);
        somebodys = has.somebodys;
        counted = has.counted;
        few_lists = omega (arith, count, has.few_lists);
      }

  -- or one more
  pub owned_added : (new_view : View) (client : ℕ) → has_list owners client ≡ false → length owners < PLACES_MOST
      → new_view.lists ≡ view.lists ++ [] ∷ [] → new_view.spare ≡ view.spare → new_view.given ≡ view.given
      → IsOwnedBy items new_view (owners ++ Some client ∷ []) vacant
  owned_added new_view client new few lists spare given =
      let more = length-append owners (Some client ∷ []) in
      let count : length new_view.lists ≡ length owners + 1 =
      omega (arith, ap (λ (l : IndexLists). length l) lists, length-append view.lists ([] ∷ []), has.threaded.as_many) in
      let records : record_count new_view.lists ≡ record_count view.lists =
      omega (arith, ap (record_count {T = Unit {0}}) lists, sum_by_push (λ (l : List Entry). length l) view.lists []) in
      record {
        threaded = threaded_given items view.lists owners has.threaded new_view.lists (owners ++ Some client ∷ []) (length owners) client
            (omega (arith, more, count)) (λ l. ap (λ (t : IndexLists). get_or t l []) lists ∙ past_list view.lists l)
            (λ l apart. past_other owners (Some client) None l apart) new (get_or_past owners (length owners) None (omega arith))
            (get_or_push owners (Some client) None (length owners) refl);
        somebodys = has.somebodys;
        counted = record {
          vacant_is = has.counted.vacant_is;
          all = omega (arith, has.counted.all, records);
          given_least = omega (arith, has.counted.given_least, records, given);
          given_most = omega (arith, has.counted.given_most, given);
          spare = omega (arith, has.counted.spare, spare);
        };
        few_lists = omega (arith, few, more);
      }

  pub owned_ended : (list client : ℕ) → owner_at owners list ≡ Some client → HasNone items client
      → IsOwnedBy items view (set owners list None) vacant
  owned_ended list client owned none =
      let count = length-set {A = Option ℕ} owners list None in
      record {
        threaded = threaded_ended items view.lists owners has.threaded view.lists (set owners list None) list client
            (has.threaded.as_many ∙ sym count) (λ l. refl) (λ l apart. get_or-set_other owners list l None None apart) none owned
            (get_or-set_same owners list None None (owner_inside owners list client owned));
        somebodys = has.somebodys;
        counted = has.counted;
        few_lists = omega (arith, count, has.few_lists);
      }

  -- ---- an object comes

  module _ (index : ℕ) (fresh : IsListed view.lists index → ⊥) where
    -- the index that is given to it is that of a vacant place
    pub put_vacant : is_vacant (item_at items index) ≡ true
    put_vacant = vacant_by (is_vacant (item_at items index)) (λ there. fresh (item_listed index there))

    pub put_inside : 1 ≤ vacant → (record_count view.lists ≡ view.given → index ≡ view.given)
        → (record_count view.lists < view.given → index < view.given) → index < length items
    put_inside some last before =
        elim (cases_lt (record_count view.lists) view.given) [
          | inl less ↦ omega (arith, before less, has.counted.given_most)
          | inr most ↦ omega (
            arith,
            last (omega (arith, most, has.counted.given_least)),
            has.counted.all,
            most,
            has.counted.given_least,
            some,
          )
        ]

    pub owned_put : (new_view : View) (list client : ℕ) (value : Unit {0}) (item : Item) → index < length items → is_vacant item ≡ false
        → item.client ≡ Some client → owner_at owners list ≡ Some client → 1 ≤ vacant
        → new_view.lists ≡ put_back view.lists list (index, value) → new_view.spare + 1 ≡ view.spare
        → record_count view.lists + 1 ≤ new_view.given → new_view.given ≤ length items
        → IsOwnedBy (set items index item) new_view owners (vacant - 1)
    owned_put new_view list client value item inside there is owner some lists spare least most =
        let old = put_vacant in
        let listed = put_count view.lists list (index, value) (omega (arith, has.threaded.as_many, owner_inside owners list client owner)) in
        let count = length-set {A = Item} items index item in
        record {
          threaded = subst (λ (l : IndexLists). AreThreaded (set items index item) l owners) (sym lists)
              (threaded_put items view.lists owners has.threaded index list client value item inside
              (vacant_client items index has.somebodys old) is owner);
          somebodys = somebodys_set items index item has.somebodys inside (there ∙ sym (ap is_nobodys is));
          counted = record {
            vacant_is = omega (
              arith,
              some,
              has.counted.vacant_is,
              count_set is_vacant items index item no_item inside,
              number_true _ old,
              number_false _ there,
            );
            all = omega (arith, some, has.counted.all, ap (record_count {T = Unit {0}}) lists, listed, count);
            given_least = omega (arith, ap (record_count {T = Unit {0}}) lists, listed, least);
            given_most = omega (arith, most, count);
            spare = omega (arith, has.counted.spare, spare);
          };
          few_lists = has.few_lists;
        }

  -- ---- an object goes

  pub owned_out : (new_view : View) (index : ℕ) (at : IsListed view.lists index) → index < length items → is_vacant (item_at items index) ≡ false
      → new_view.lists ≡ taken_out view.lists index at → new_view.spare ≡ view.spare + 1 → new_view.given ≡ view.given
      → IsOwnedBy (set items index no_item) new_view owners (vacant + 1)
  owned_out new_view index at inside there lists spare given =
      let listed = out_count view.lists index at in
      let count = length-set {A = Item} items index no_item in
      record {
        threaded = subst (λ (l : IndexLists). AreThreaded (set items index no_item) l owners) (sym lists)
            (threaded_out items view.lists owners has.threaded index at inside);
        somebodys = somebodys_set items index no_item has.somebodys inside refl;
        counted = record {
          vacant_is = omega (
            arith,
            has.counted.vacant_is,
            count_set is_vacant items index no_item no_item inside,
            number_false _ there,
          );
          all = omega (arith, has.counted.all, ap (record_count {T = Unit {0}}) lists, listed, count);
          given_least = omega (arith, has.counted.given_least, ap (record_count {T = Unit {0}}) lists, listed, given);
          given_most = omega (arith, has.counted.given_most, given, count);
          spare = omega (arith, has.counted.spare, spare);
        };
        few_lists = has.few_lists;
      }

  -- the first of a client's objects
  pub first_found : (list client : ℕ) → owner_at owners list ≡ Some client → (result : Option ℕ) → result ≡ first_index (get_or view.lists list [])
      → MatchOption result (HasNone items client) (λ item. Names items item × ((item_at items item).client ≡ Some client))
  first_found list client owner result is =
      subst (λ (o : Option ℕ). MatchOption o (HasNone items client) (λ item. Names items item × ((item_at items item).client ≡ Some client))) (sym is)
      (first_of_list items client has.somebodys (get_or view.lists list [])
      (λ index. has.threaded.each list index ∙ ap number (whose_true (owner_at owners list) (item_at items index) client owner)))

  -- it isn't among the vacant ones, of which there are fewer than items
  pub fewer_vacant : (index : ℕ) → is_vacant (item_at items index) ≡ false → vacant + 1 ≤ length items
  fewer_vacant index there =
      let at = item_listed index there in
      omega (arith, has.counted.all, out_count view.lists index at)
