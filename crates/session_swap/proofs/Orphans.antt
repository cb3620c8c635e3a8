-- Sessions of a client, left ones and orphans: how they are found.
use Rattle.std.proofs.Common.{◌≡◌, ◌<◌, ℕ, Bool, true, false, List, length, get_or, refl, ap, sym, subst, ◌∙◌, arith}
use Rattle.std.specs.Prelude.{slice_get, Option, Some, None, is_some, IfSome}
use Rattle.std.specs.List.{list_any}
use Rattle.std.proofs.lemmas.List.{length-map}
use Rattle.std.proofs.lemmas.List.Elements.{All-from_get_or}
use Rattle.std.proofs.lemmas.List.Folds.{list_any_none}
use Rattle.std.proofs.lemmas.Option.{get_or_from_slice_get, slice_get_within}
use Rattle.tab_spec.specs.Shape.{number_of_session}
use Rattle.tab_spec.specs.declared.numbers.Numbers.{Numbers}
use Rattle.tab_spec.specs.declared.contexts.ContextLimits.{ContextLimits}
use Rattle.session_swap.specs.declared.record.Record.{Record}
use Rattle.session_swap.specs.Items.{IsLeftAt, Item, Names, is_left, is_orphan, is_owned, is_owner, item_at, owner_in}
use Rattle.session_swap.specs.Records.{AreListed, AreRecords, IsHandleOf, OrderView, handed_of, item_of_record, items_of, whole_view}
use Rattle.session_swap.proofs.Among.{some_inside}
use Rattle.session_swap.proofs.Listing.{listed_is}
use Rattle.session_swap.proofs.Making.{own_handle, own_item, own_number, own_there, read_there}

-- ---- a session that is found

owned_some : (client : ℕ) (item : Option Item) → is_owned client item ≡ true → is_some item ≡ true
owned_some client None is = absurd cc
owned_some client (Some item) is = refl

orphan_some : (item : Option Item) → is_orphan item ≡ true → is_some item ≡ true
orphan_some None is = absurd cc
orphan_some (Some item) is = refl

-- a record of a client's session
pub owned_found : {contexts : ContextLimits} (records : List Record) (number client : ℕ) (r : Record) → AreRecords contexts records → number < length records
    → r ≡ get_or records number r → is_owned client (item_of_record r) ≡ true
    → Names (items_of records) r.handle × (is_owner client (owner_in (items_of records) r.handle) ≡ true)
owned_found records number client r sound inside is owned =
    let there = owned_some client (item_of_record r) owned in
    let own = own_item records number r sound inside is there in (
      ap (λ (o : Option Item). is_some o) own ∙ there,
      ap (is_owned client) own ∙ owned,
    )

-- its handle has its number
pub owned_number : {contexts : ContextLimits} (records : List Record) (number client : ℕ) (r : Record) → AreRecords contexts records
    → number < length records → r ≡ get_or records number r → is_owned client (item_of_record r) ≡ true → number_of_session r.handle ≡ number
owned_number records number client r sound inside is owned =
    own_handle records number r sound inside is (owned_some client (item_of_record r) owned)

-- a record of nobody's session
pub orphan_found : {contexts : ContextLimits} (records : List Record) (number : ℕ) (r : Record) → AreRecords contexts records → number < length records
    → r ≡ get_or records number r → is_orphan (item_of_record r) ≡ true
    → Names (items_of records) r.handle × (is_orphan (item_at (items_of records) (number_of_session r.handle)) ≡ true)
orphan_found records number r sound inside is orphan =
    let there = orphan_some (item_of_record r) orphan in (
      ap (λ (o : Option Item). is_some o) (own_item records number r sound inside is there) ∙ there,
      ap is_orphan (own_there records number r sound inside is there) ∙ orphan,
    )

-- where no record's item passes a test, there is none
pub none_found : (records : List Record) (test : Option Item → Bool)
    → ((k : ℕ) → k < length records → test (item_at (items_of records) k) ≡ false) → list_any test (items_of records) ≡ false
none_found records test none =
    let items = items_of records in
    list_any_none test items (All-from_get_or (λ (item : Option Item). test item ≡ false) items None
    (λ k inside. none k (omega (arith, inside, length-map records item_of_record))))

-- ---- a left session

left_some : (item : Option Item) → is_left item ≡ true → is_some item ≡ true
left_some None is = absurd cc
left_some (Some item) is = refl

-- what is listed as left is a left session
left_is : {contexts : ContextLimits} {numbers : Numbers} (records : List Record) (order : OrderView) (left : List ℕ) (held place number : ℕ)
    → AreListed contexts numbers records order left held → slice_get left place ≡ Some number → is_left (item_at (items_of records) number) ≡ true
left_is records order left held place number kept there =
    let items = items_of records in
    ap (λ (n : ℕ). is_left (item_at items n)) (sym (get_or_from_slice_get left place number 0 there))
    ∙ listed_is is_left refl items left place 0 kept.left_are (slice_get_within left place number there)

-- so it has a record
pub left_inside : {contexts : ContextLimits} {numbers : Numbers} (records : List Record) (order : OrderView) (left : List ℕ) (held place number : ℕ)
    → AreListed contexts numbers records order left held → slice_get left place ≡ Some number → is_some (item_at (items_of records) number) ≡ true
left_inside records order left held place number kept there =
    left_some (item_at (items_of records) number) (left_is records order left held place number kept there)

pub left_below : {contexts : ContextLimits} {numbers : Numbers} (records : List Record) (order : OrderView) (left : List ℕ) (held place number : ℕ)
    → AreListed contexts numbers records order left held → slice_get left place ≡ Some number → number < length records
left_below records order left held place number kept there =
    omega (
      arith,
      some_inside (items_of records) number (left_inside records order left held place number kept there),
      length-map records item_of_record,
    )

-- and its handle names it
pub left_named : {contexts : ContextLimits} (numbers : Numbers) (records : List Record) (next : ℕ) (order : OrderView) (left : List ℕ) (held place number : ℕ)
    (r : Record) → AreListed contexts numbers records order left held → slice_get left place ≡ Some number → r ≡ get_or records number r
    → IsLeftAt (whole_view numbers records next order left contexts) place r.handle
left_named numbers records next order left held place number r kept there is =
    let items = items_of records in
    let inside = left_below records order left held place number kept there in
    let here = read_there records number r inside is in
    let some : is_some (item_of_record r) ≡ true =
    ap (λ (o : Option Item). is_some o) (sym here) ∙ left_inside records order left held place number kept there in
    let handle : IfSome (item_of_record r) (λ item. IsHandleOf number item) =
    subst (λ (o : Option Item). IfSome o (λ item. IsHandleOf number item)) here (kept.sound.handles number) in
    let own = own_item records number r kept.sound inside is some in
    record {
      named = ap (λ (o : Option Item). is_some o) own ∙ some;
      left = ap is_left (own ∙ sym here) ∙ left_is records order left held place number kept there;
      place_is = there ∙ ap (λ (n : ℕ). Some n) (sym (own_number r.place r.client r.handle r.context.items (handed_of r) number some handle));
    }
