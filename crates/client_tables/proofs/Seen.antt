-- The tables as they are seen, and what one client's opening, change and close leaves of that.
use Rattle.std.proofs.Common.{◌≡◌, ◌+◌, ◌≤◌, ◌<◌, ℕ, zero, suc, Bool, true, false, List, [], ◌∷◌, ◌++◌, Option, Some, None, length, set, get_or, refl, sym, ◌∙◌, ap, inl, inr, arith, MutBor}
use Rattle.std.specs.Prelude.{◌==◌, ◌&&◌, nat_eq, map, cond, is_some}
use Rattle.std.specs.List.{filter, range_with_len}
use Rattle.std.specs.Map.{update}
use Rattle.std.specs.Option.{option_copied_mut}
use Rattle.std.proofs.lemmas.Grind.{get_or-set_at}
use Rattle.std.proofs.lemmas.List.{length-set, get_or-set_other, get_or_past, set_past, map-id}
use Rattle.std.proofs.lemmas.List.FromFn.{length-map-range_with_len, get_or-map-range_with_len, get_or-range_with_len, length-range_with_len, map-range_with_len_more, fill_by_all}
use Rattle.std.proofs.lemmas.List.Elements.{filter-append}
use Rattle.std.proofs.lemmas.List.Folds.{list_any_at}
use Rattle.std.proofs.lemmas.Map.{update_here, update_apart}
use Rattle.std.proofs.lemmas.Map.Views.{any-filter_same}
use Rattle.std.proofs.lemmas.Bool.{and_parts, cases_eq, cases_lt, eqb-true, eq-eqb, ne_eqb, or_cases}
use Rattle.history_spec.specs.Entry.{without}
use Rattle.virtual_handles.specs.View.{TableView}
use Rattle.client_tables.specs.declared.open_client.OpenClient.{OpenClient}
use Rattle.client_tables.specs.Kept.{is_among, items_of, list_of, view_of}
use Rattle.client_tables.specs.Lent.{with_table}
use Rattle.client_tables.specs.View.{TablesView}

-- ---- what is seen of each client

abbrev pub listed : {A B : Type 0} → (Option A → B) → (ℕ → Option A) → ℕ → List B
listed see kept opened = map (λ client. see (kept client)) (range_with_len 0 opened)

module _ {A B : Type 0} (see : Option A → B) (kept : ℕ → Option A) where
  listed_length : (opened : ℕ) → length (listed see kept opened) ≡ opened
  listed_length opened = length-map-range_with_len (λ client. see (kept client)) 0 opened

  listed_at : (opened client : ℕ) (d : B) → client < opened → get_or (listed see kept opened) client d ≡ see (kept client)
  listed_at opened client d low = get_or-map-range_with_len (λ client. see (kept client)) 0 opened client client d low (omega arith)

  listed_set : (client : ℕ) (w : Option A) (opened : ℕ) → listed see (update nat_eq kept client w) opened ≡ set (listed see kept opened) client (see w)
  listed_set client w opened =
      let all : List B = listed see kept opened in
      sym (fill_by_all (λ q. see (update nat_eq kept client w q)) (set all client (see w)) opened (see w) (length-set all client (see w) ∙ listed_length opened)
      (λ k low. elim (cases_eq k client) [
        | inl here ↦
            get_or-set_at all client k (see w) (see w) here (omega (arith, here, low, listed_length opened))
            ∙ sym (ap see (rw here (update_here kept client w)))
        | inr apart ↦
            get_or-set_other all client k (see w) (see w) apart
            ∙ listed_at opened k (see w) low
            ∙ sym (ap see (update_apart kept client w k apart))
      ]))

  listed_more : (w : Option A) (opened : ℕ) → listed see (update nat_eq kept opened w) (opened + 1) ≡ listed see kept opened ++ see w ∷ []
  listed_more w opened =
      map-range_with_len_more (λ client. see (update nat_eq kept opened w client)) 0 opened opened (omega arith)
      ∙ ap (λ x. listed see (update nat_eq kept opened w) opened ++ see x ∷ []) (update_here kept opened w)
      ∙ ap (λ all. all ++ see w ∷ []) (listed_set opened w opened ∙ set_past (listed see kept opened) opened (see w) (omega (arith, listed_length opened)))

  -- a change that isn't seen
  seen_same : (client : ℕ) (w : Option A) → see w ≡ see (kept client) → (q : ℕ) → see (update nat_eq kept client w q) ≡ see (kept q)
  seen_same client w same q = elim (cases_eq q client) [
    | inl here ↦ rw here (ap see (update_here kept client w) ∙ same)
    | inr apart ↦ ap see (update_apart kept client w q apart)
  ]

-- ---- who is open

-- of so many numbers, from one on, those at which something is kept
abbrev pub open_from : {A : Type 0} → (ℕ → Option A) → ℕ → ℕ → List ℕ
open_from kept a n = filter (λ client. is_some (kept client)) (range_with_len a n)

open_same : {A : Type 0} (kept new : ℕ → Option A) (a n : ℕ) → ((k : ℕ) → a ≤ k → k < a + n → new k ≡ kept k) → open_from new a n ≡ open_from kept a n
open_same kept new a zero same = refl
open_same kept new a (suc n) same =
    let rest : open_from new (a + 1) n ≡ open_from kept (a + 1) n = open_same kept new (a + 1) n (λ k up low. same k (omega arith) (omega arith)) in
    λ i. cond (is_some (same a (omega arith) (omega arith) i)) (a ∷ rest i) (rest i)

open_more : {A : Type 0} (kept : ℕ → Option A) (x : A) (opened : ℕ) → open_from (update nat_eq kept opened (Some x)) 0 (opened + 1) ≡ open_from kept 0 opened ++ opened ∷ []
open_more kept x opened =
    let new : ℕ → Option _ = update nat_eq kept opened (Some x) in
    let one_more : range_with_len 0 (opened + 1) ≡ range_with_len 0 opened ++ opened ∷ [] =
    sym (map-id (range_with_len 0 (opened + 1))) ∙ map-range_with_len_more (λ (q : ℕ). q) 0 opened opened (omega arith) ∙ ap (λ l. l ++ opened ∷ []) (map-id (range_with_len 0 opened)) in
    ap (filter (λ q. is_some (new q))) one_more
    ∙ filter-append (λ q. is_some (new q)) (range_with_len 0 opened) (opened ∷ [])
    ∙ (λ i. open_same kept new 0 opened (λ k up low. update_apart kept opened (Some x) k (λ same. omega (arith, same, low))) i
    ++ cond (is_some (update_here kept opened (Some x) i)) (opened ∷ []) [])

first_stays : (b : Bool) (client a : ℕ) (rest : List ℕ) → a == client ≡ false → cond b (a ∷ without client rest) (without client rest) ≡ without client (cond b (a ∷ rest) rest)
first_stays true client a rest apart = sym (ap (λ (b : Bool). cond b rest (a ∷ without client rest)) apart)
first_stays false client a rest apart = refl

open_less : {A : Type 0} (kept : ℕ → Option A) (client a n : ℕ) → is_some (kept client) ≡ true → open_from (update nat_eq kept client None) a n ≡ without client (open_from kept a n)
open_less kept client a zero there = refl
open_less kept client a (suc n) there =
    let new : ℕ → Option _ = update nat_eq kept client None in
    let after : List ℕ = open_from kept (a + 1) n in
    let rest : open_from new (a + 1) n ≡ without client after = open_less kept client (a + 1) n there in
    elim (cases_eq a client) [
      | inl here ↦
          (λ i. cond (is_some ((ap new here ∙ update_here kept client None) i)) (a ∷ open_from new (a + 1) n) (open_from new (a + 1) n))
          ∙ open_same kept new (a + 1) n (λ k up low. update_apart kept client None k (λ same. omega (arith, same, here, up)))
          ∙ sym ((λ i. without client (cond ((ap (λ q. is_some (kept q)) here ∙ there) i) (a ∷ after) after)) ∙ (λ i. cond (eq-eqb a client here i) after (a ∷ without client after)))
      | inr apart ↦
          (λ i. cond (is_some (update_apart kept client None a apart i)) (a ∷ rest i) (rest i))
          ∙ first_stays (is_some (kept a)) client a after (ne_eqb a client apart)
    ]

range_below : (client a n : ℕ) → is_among client (range_with_len a n) ≡ true → client < a + n
range_below client a zero there = absurd cc
range_below client a (suc n) there = elim (or_cases (a == client) (is_among client (range_with_len (a + 1) n)) there) [
  | inl here ↦ omega (arith, eqb-true a client here)
  | inr more ↦ omega (arith, range_below client (a + 1) n more)
]

among_open : {A : Type 0} (kept : ℕ → Option A) (client opened : ℕ) → is_among client (open_from kept 0 opened) ≡ (is_some (kept client) && is_among client (range_with_len 0 opened))
among_open kept client opened =
    any-filter_same (λ other. other == client) (λ q. is_some (kept q)) (is_some (kept client)) (λ k is. ap (λ q. is_some (kept q)) (eqb-true k client is)) (range_with_len 0 opened)

-- ---- all tables

pub seen_length : (kept : ℕ → Option OpenClient) (opened room : ℕ) (v : TablesView) → view_of kept opened room ≡ v → length v.items ≡ opened
seen_length kept opened room v is = ap (λ (v : TablesView). length v.items) (sym is) ∙ listed_length items_of kept opened

nothing : (o : Option OpenClient) (b : Bool) → b ≡ true → (is_some o && b) ≡ false → items_of o ≡ []
nothing None b there none = refl
nothing (Some client) b there none = absurd cc

-- who isn't open holds nothing
pub seen_nothing : (kept : ℕ → Option OpenClient) (opened client : ℕ) → is_among client (open_from kept 0 opened) ≡ false → get_or (listed items_of kept opened) client [] ≡ []
seen_nothing kept opened client none =
    elim (cases_lt client opened) [
      | inl low ↦
          let there : is_among client (range_with_len 0 opened) ≡ true =
          list_any_at (λ other. other == client) (range_with_len 0 opened) client 0 (omega (arith, low, length-range_with_len 0 opened))
          (eq-eqb _ client (get_or-range_with_len 0 opened client 0 low ∙ omega arith)) in
          listed_at items_of kept opened client [] low
          ∙ nothing (kept client) (is_among client (range_with_len 0 opened)) there (sym (among_open kept client opened) ∙ none)
      | inr high ↦ get_or_past (listed items_of kept opened) client [] (omega (arith, high, listed_length items_of kept opened))
    ]

-- who is open is kept, and was opened
pub seen_open : (kept : ℕ → Option OpenClient) (opened room client : ℕ) (v : TablesView) → view_of kept opened room ≡ v → is_among client v.present ≡ true
    → (is_some (kept client) ≡ true) × (client < opened)
seen_open kept opened room client v is among =
    let both = and_parts (is_some (kept client)) (is_among client (range_with_len 0 opened))
    (sym (among_open kept client opened) ∙ ap (λ (v : TablesView). is_among client v.present) is ∙ among) in
    let below : client < 0 + opened = range_below client 0 opened both.1 in
    (both.0, omega (arith, below))

-- what is lent is there if what is kept is
pub lent : {A : Type 0} (r : Option (MutBor A)) → is_some (option_copied_mut r) ≡ true → is_some r ≡ true
lent None there = there
lent (Some x) there = refl

-- the table of an open client, and its list
pub seen_items : (kept : ℕ → Option OpenClient) (opened room client : ℕ) (c : OpenClient) (v : TablesView) → view_of kept opened room ≡ v → is_among client v.present ≡ true → kept client ≡ Some c
    → c.table.items ≡ get_or v.items client []
seen_items kept opened room client c v is among here =
    ap items_of (sym here) ∙ sym (listed_at items_of kept opened client [] (seen_open kept opened room client v is among).1) ∙ ap (λ (v : TablesView). get_or v.items client []) is

pub seen_list : (kept : ℕ → Option OpenClient) (opened room client : ℕ) (c : OpenClient) (v : TablesView) → view_of kept opened room ≡ v → is_among client v.present ≡ true → kept client ≡ Some c
    → c.list ≡ get_or v.lists client 0
seen_list kept opened room client c v is among here =
    ap list_of (sym here) ∙ sym (listed_at list_of kept opened client 0 (seen_open kept opened room client v is among).1) ∙ ap (λ (v : TablesView). get_or v.lists client 0) is

-- after the table of one was changed
pub seen_changed : (kept new : ℕ → Option OpenClient) (opened room left client : ℕ) (c : OpenClient) (t : TableView) (v : TablesView) → view_of kept opened room ≡ v → kept client ≡ Some c
    → ((q : ℕ) → new q ≡ update nat_eq kept client (Some (record c { table = t })) q) → left ≡ room → view_of new opened left ≡ with_table v client t
seen_changed kept new opened room left client c t v is here changed same =
    let w : Option OpenClient = Some (record c { table = t }) in
    let list : list_of w ≡ list_of (kept client) = ap list_of (sym here) in
    let there : is_some w ≡ is_some (kept client) = ap (λ (o : Option OpenClient). is_some o) (sym here) in
    (λ i. view_of (λ q. changed q i) opened (same i))
    ∙ (λ i. record {
      items = listed_set items_of kept client w opened i;
      lists = map (λ q. seen_same list_of kept client w list q i) (range_with_len 0 opened);
      present = filter (λ q. seen_same (λ o. is_some o) kept client w there q i) (range_with_len 0 opened);
      spare = room;
    })
    ∙ ap (λ (v : TablesView). with_table v client t) is

-- after the next one was opened
pub seen_opened : (kept new : ℕ → Option OpenClient) (opened room left list : ℕ) (t : TableView) (v : TablesView) → view_of kept opened room ≡ v → t.items ≡ []
    → ((q : ℕ) → new q ≡ update nat_eq kept opened (Some (record { table = t; list = list })) q)
    → view_of new (opened + 1) left ≡ record { items = v.items ++ [] ∷ []; lists = v.lists ++ list ∷ []; present = v.present ++ opened ∷ []; spare = left }
seen_opened kept new opened room left list t v is empty changed =
    let c : OpenClient = record { table = t; list = list } in
    (λ i. view_of (λ q. changed q i) (opened + 1) left)
    ∙ (λ i. record {
      items = (listed_more items_of kept (Some c) opened ∙ ap (λ x. listed items_of kept opened ++ x ∷ []) empty) i;
      lists = listed_more list_of kept (Some c) opened i;
      present = open_more kept c opened i;
      spare = left;
    })
    ∙ ap (λ (v : TablesView). record { items = v.items ++ [] ∷ []; lists = v.lists ++ list ∷ []; present = v.present ++ opened ∷ []; spare = left }) is

-- after one was closed
pub seen_closed : (kept new : ℕ → Option OpenClient) (opened room left client : ℕ) (v : TablesView) → view_of kept opened room ≡ v → is_among client v.present ≡ true
    → ((q : ℕ) → new q ≡ update nat_eq kept client None q)
    → view_of new opened left ≡ record { items = set v.items client []; lists = set v.lists client 0; present = without client v.present; spare = left }
seen_closed kept new opened room left client v is among changed =
    let there : is_some (kept client) ≡ true = (seen_open kept opened room client v is among).0 in
    (λ i. view_of (λ q. changed q i) opened left)
    ∙ (λ i. record {
      items = listed_set items_of kept client None opened i;
      lists = listed_set list_of kept client None opened i;
      present = open_less kept client 0 opened there i;
      spare = left;
    })
    ∙ ap (λ (v : TablesView). record { items = set v.items client []; lists = set v.lists client 0; present = without client v.present; spare = left }) is
