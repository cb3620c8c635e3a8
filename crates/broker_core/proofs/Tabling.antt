-- The tables of the clients alone, and whose the sessions are: what becomes of them where a client opens, runs a command or closes, and
-- where an item is added.
use Rattle.std.proofs.Common.{◌≡◌, ◌+◌, ◌<◌, ◌≤◌, inl, inr, ℕ, zero, suc, Bool, true, false, cond, List, [], ◌∷◌, ◌++◌, length, set, refl, sym, ap, subst, ◌∙◌, arith}
use Rattle.std.specs.Prelude.{◌==◌, ◌&&◌, not, Option, Some, None, IfSome, is_some}
use Rattle.std.specs.List.{AllByRecursion, count_by, list_any}
use Rattle.std.proofs.lemmas.Bool.{cases_Bool, eqb-false, eqb-true, ne_eqb, or_cases, or_from, or_left, or_parts, or_right, true≢false}
use Rattle.std.proofs.lemmas.List.{get_or-set_other, get_or-set_same, length_push}
use Rattle.std.proofs.lemmas.List.Sums.{sum_by_push}
use Rattle.object_swap.specs.Items.{HasNone, Item, Names, is_vacant, item_at, no_item, is_resident, residents}
use Rattle.session_swap.specs.Items as sessions
use Rattle.session_swap.specs.Items.{is_owned, is_owner, owner_by}
use Rattle.history_laws.proofs.Counts.{count_cons, one_if}
use Rattle.history_spec.specs.Entry.{without}
use Rattle.world_laws.proofs.Clients.{stay}
use Rattle.world_laws.proofs.Histories.{each-weaker}
use Rattle.client_machine.specs.Moves.{GainsNone, KeepsOwners, other_than}
use Rattle.client_machine.proofs.Dropping.{no_table}
use Rattle.client_machine.specs.Tables.{AreOpenOwners, IsOpenOwner, IsTable, IsTablePlace, is_open, naming_in}
use Rattle.broker_core.specs.Tables.{TablesStand, table_of}

-- ---- the table of a client

pub table_pushed : (tables : List (List (Option ℕ))) (client : ℕ) → table_of (tables ++ [] ∷ []) client ≡ table_of tables client
table_pushed [] zero = refl
table_pushed [] (suc client) = refl
table_pushed (table ∷ tables) zero = refl
table_pushed (table ∷ tables) (suc client) = table_pushed tables client

pub table_own : (tables : List (List (Option ℕ))) (client : ℕ) (table : List (Option ℕ)) → client < length tables
    → table_of (set tables client table) client ≡ table
table_own tables client table inside = get_or-set_same tables client table [] inside

pub table_other : (tables : List (List (Option ℕ))) (client other : ℕ) (table : List (Option ℕ)) → (client == other) ≡ false
    → table_of (set tables client table) other ≡ table_of tables other
table_other tables client other table apart = get_or-set_other tables client other table [] (λ same. eqb-false client other apart (sym same))

-- ---- who is open

open_before : (client n : ℕ) (present : List ℕ) → is_open client (present ++ n ∷ []) ≡ false → is_open client present ≡ false
open_before client n [] none = refl
open_before client n (other ∷ present) none =
    let parts = or_parts (other == client) (is_open client (present ++ n ∷ [])) none in
    or_from (other == client) (is_open client present) parts.0 (open_before client n present parts.1)

pub open_inside : (present : List ℕ) (client opened : ℕ) → AllByRecursion (λ c. c < opened) present → is_open client present ≡ true → client < opened
open_inside [] client opened all some = absurd cc
open_inside (other ∷ present) client opened all some =
    elim (or_cases (other == client) (is_open client present) some) [
      | inl here ↦ omega (arith, all.0, eqb-true other client here)
      | inr later ↦ open_inside present client opened all.1 later
    ]

pub open_none : (present : List ℕ) (client opened : ℕ) → AllByRecursion (λ c. c < opened) present → opened ≤ client → is_open client present ≡ false
open_none present client opened all past =
    elim (cases_Bool (is_open client present)) [
      | inl some ↦ absurd (omega (arith, open_inside present client opened all some, past))
      | inr none ↦ none
    ]

-- ---- one more client

pub tables-open : (present : List ℕ) (tables : List (List (Option ℕ))) (items : List Item) → TablesStand present tables items
    → TablesStand (present ++ length tables ∷ []) (tables ++ [] ∷ []) items
tables-open present tables items stand = record {
  closed = λ client none. table_pushed tables client ∙ stand.closed client (open_before client (length tables) present none);
  each = λ client. subst (λ (table : List (Option ℕ)). IsTable items client table) (sym (table_pushed tables client)) (stand.each client);
}

-- ---- a client's command

-- another client is another
pub is_other : (client other : ℕ) → (client == other) ≡ false → other_than client other ≡ true
is_other client other apart = ap not (ne_eqb other client (λ same. eqb-false client other apart (sym same)))

pub place_kept : (client other : ℕ) (items new_items : List Item) → KeepsOwners (other_than client) items new_items → (client == other) ≡ false → (place : Option ℕ)
    → IsTablePlace other items place → IsTablePlace other new_items place
place_kept client other items new_items keeps apart None is = tt
place_kept client other items new_items keeps apart (Some index) is = keeps index other is.0 is.1 (is_other client other apart)

pub table_kept : (client other : ℕ) (items new_items : List Item) (table : List (Option ℕ)) → KeepsOwners (other_than client) items new_items
    → GainsNone (other_than client) items new_items → (client == other) ≡ false → IsTable items other table → IsTable new_items other table
table_kept client other items new_items table keeps gained apart is = record {
  named = each-weaker (λ place. IsTablePlace other items place) (λ place. IsTablePlace other new_items place) table
      (place_kept client other items new_items keeps apart) is.named;
  apart = is.apart;
  all = λ index own. is.all index (gained index other own (is_other client other apart));
  few = is.few;
  short = is.short;
}

-- the table of any client after one has another
each_by : (client other : ℕ) (here : Bool) (tables : List (List (Option ℕ))) (items new_items : List Item) (new_table : List (Option ℕ))
    → (client == other) ≡ here → client < length tables → KeepsOwners (other_than client) items new_items → GainsNone (other_than client) items new_items
    → IsTable new_items client new_table → IsTable items other (table_of tables other) → IsTable new_items other (table_of (set tables client new_table) other)
each_by client other true tables items new_items new_table is inside keeps gained own old =
    subst (λ (c : ℕ). IsTable new_items c (table_of (set tables client new_table) c)) (eqb-true client other is)
    (subst (λ (table : List (Option ℕ)). IsTable new_items client table) (sym (table_own tables client new_table inside)) own)
each_by client other false tables items new_items new_table is inside keeps gained own old =
    subst (λ (table : List (Option ℕ)). IsTable new_items other table) (sym (table_other tables client other new_table is))
    (table_kept client other items new_items (table_of tables other) keeps gained is old)

-- one that isn't open isn't this one
not_open : (client other : ℕ) (here : Bool) (present : List ℕ) → (client == other) ≡ here → is_open client present ≡ true → is_open other present ≡ false
    → (client == other) ≡ false
not_open client other true present is some none =
    absurd (true≢false (sym some ∙ ap (λ (c : ℕ). is_open c present) (eqb-true client other is) ∙ none))
not_open client other false present is some none = is

pub tables-step : (present : List ℕ) (tables : List (List (Option ℕ))) (items new_items : List Item) (client : ℕ) (new_table : List (Option ℕ))
    → TablesStand present tables items → is_open client present ≡ true → client < length tables → KeepsOwners (other_than client) items new_items
    → GainsNone (other_than client) items new_items → IsTable new_items client new_table → TablesStand present (set tables client new_table) new_items
tables-step present tables items new_items client new_table stand some inside keeps gained own = record {
  closed = λ other none.
      table_other tables client other new_table (not_open client other (client == other) present refl some none) ∙ stand.closed other none;
  each = λ other.
      each_by client other (client == other) tables items new_items new_table refl inside keeps gained own (stand.each other);
}

-- ---- a client that closes

closed_by : (client other : ℕ) (here : Bool) (present : List ℕ) (tables : List (List (Option ℕ))) → (client == other) ≡ here → client < length tables
    → (is_open other present ≡ false → table_of tables other ≡ []) → is_open other (without client present) ≡ false
    → table_of (set tables client []) other ≡ []
closed_by client other true present tables is inside closed none =
    sym (ap (λ (c : ℕ). table_of (set tables client []) c) (eqb-true client other is)) ∙ table_own tables client [] inside
closed_by client other false present tables is inside closed none =
    table_other tables client other [] is ∙ closed (sym (stay client other present is) ∙ none)

pub tables-close : (present : List ℕ) (tables : List (List (Option ℕ))) (items new_items : List Item) (client : ℕ) → TablesStand present tables items
    → client < length tables → KeepsOwners (other_than client) items new_items → GainsNone (other_than client) items new_items → HasNone new_items client
    → TablesStand (without client present) (set tables client []) new_items
tables-close present tables items new_items client stand inside keeps gained none = record {
  closed = λ other none. closed_by client other (client == other) present tables refl inside (stand.closed other) none;
  each = λ other.
      each_by client other (client == other) tables items new_items [] refl inside keeps gained (no_table new_items client none) (stand.each other);
}

-- ---- one more item

pub item_pushed : (items : List Item) (index : ℕ) → item_at (items ++ no_item ∷ []) index ≡ item_at items index
item_pushed [] zero = refl
item_pushed [] (suc index) = refl
item_pushed (item ∷ items) zero = refl
item_pushed (item ∷ items) (suc index) = item_pushed items index

pub names_pushed : (items : List Item) (index : ℕ) → Names items index → Names (items ++ no_item ∷ []) index
names_pushed items index names = record {
  inside = omega (arith, names.inside, length_push items no_item);
  there = ap is_vacant (item_pushed items index) ∙ names.there;
}

place_pushed : (items : List Item) (client : ℕ) (place : Option ℕ) → IsTablePlace client items place → IsTablePlace client (items ++ no_item ∷ []) place
place_pushed items client None is = tt
place_pushed items client (Some index) is =
    (names_pushed items index is.0, ap (λ (item : Item). item.client) (item_pushed items index) ∙ is.1)

pub tables-more : (present : List ℕ) (tables : List (List (Option ℕ))) (items : List Item) → TablesStand present tables items
    → TablesStand present tables (items ++ no_item ∷ [])
tables-more present tables items stand = record {
  closed = stand.closed;
  each = λ client. record {
    named = each-weaker (λ place. IsTablePlace client items place) (λ place. IsTablePlace client (items ++ no_item ∷ []) place) (table_of tables client)
        (place_pushed items client) (stand.each client).named;
    apart = (stand.each client).apart;
    all = λ index own. (stand.each client).all index (sym (ap (λ (item : Item). item.client) (item_pushed items index)) ∙ own);
    few = (stand.each client).few;
    short = (stand.each client).short;
  };
}

-- ---- where no client is open

pub residents-more : (items : List Item) → residents (items ++ no_item ∷ []) ≡ residents items
residents-more items = omega (arith, sum_by_push (λ (item : Item). cond (is_resident item) 1 0) items no_item)

-- no item is anybody's
none_owned : (tables : List (List (Option ℕ))) (items : List Item) (index : ℕ) (owner : Option ℕ) → TablesStand [] tables items → (item_at items index).client ≡ owner
    → owner ≡ None
none_owned tables items index None stand is = refl
none_owned tables items index (Some client) stand is =
    let named = (stand.each client).all index is in
    let least : naming_in index (table_of tables client) ≡ 0 = ap (naming_in index) (stand.closed client refl) in
    absurd (omega (arith, named, least))

vacant_rests : (slot blob : Bool) → (not slot && not blob) ≡ true → slot ≡ false
vacant_rests true blob is = absurd cc
vacant_rests false blob is = refl

-- so none is in a slot, where one that is nobody's is nowhere
abbrev pub AreNowhere : List Item → Type 0
AreNowhere items = (index : ℕ) → (item_at items index).client ≡ None → is_vacant (item_at items index) ≡ true

pub none_rests : (tables : List (List (Option ℕ))) (items : List Item) → TablesStand [] tables items → AreNowhere items
    → (index : ℕ) → is_resident (item_at items index) ≡ false
none_rests tables items stand vacant = λ index.
    let item = item_at items index in
    vacant_rests (is_some item.slot) (is_some item.blob) (vacant index (none_owned tables items index item.client stand refl))

-- ---- whose the sessions are

pub open_after : (client n : ℕ) (present : List ℕ) → is_open client present ≡ true → is_open client (present ++ n ∷ []) ≡ true
open_after client n [] some = absurd cc
open_after client n (other ∷ present) some =
    elim (or_cases (other == client) (is_open client present) some) [
      | inl here ↦ or_left (other == client) (is_open client (present ++ n ∷ [])) here
      | inr later ↦ or_right (other == client) (is_open client (present ++ n ∷ [])) (open_after client n present later)
    ]

-- an owner that is open stays so
owner_weaker : (present more : List ℕ) → ((client : ℕ) → is_open client present ≡ true → is_open client more ≡ true) → (owner : Option ℕ)
    → IfSome owner (λ client. is_open client present ≡ true) → IfSome owner (λ client. is_open client more ≡ true)
owner_weaker present more keeps None is = tt
owner_weaker present more keeps (Some client) is = keeps client is

session_weaker : (present more : List ℕ) → ((client : ℕ) → is_open client present ≡ true → is_open client more ≡ true)
    → (item : Option sessions.Item) → IsOpenOwner present item → IsOpenOwner more item
session_weaker present more keeps None is = tt
session_weaker present more keeps (Some item) is = owner_weaker present more keeps item.client is

pub owners-open : (present : List ℕ) (n : ℕ) (items : List (Option sessions.Item)) → AreOpenOwners present items
    → AreOpenOwners (present ++ n ∷ []) items
owners-open present n items are =
    each-weaker (λ item. IsOpenOwner present item) (λ item. IsOpenOwner (present ++ n ∷ []) item) items
    (session_weaker present (present ++ n ∷ []) (λ client some. open_after client n present some)) are

-- whose client isn't this one
owner_left : (client : ℕ) (present : List ℕ) (used : Bool) (owner : Option ℕ) → is_owner client (owner_by used owner) ≡ false
    → IfSome owner (λ other. is_open other present ≡ true) → IfSome owner (λ other. is_open other (without client present) ≡ true)
owner_left client present used None apart is = tt
owner_left client present used (Some other) apart is =
    stay client other present (ne_eqb client other (λ same. eqb-false other client apart (sym same))) ∙ is

session_left : (client : ℕ) (present : List ℕ) (item : Option sessions.Item) → is_owned client item ≡ false → IsOpenOwner present item
    → IsOpenOwner (without client present) item
session_left client present None apart is = tt
session_left client present (Some item) apart is = owner_left client present (not (is_some item.handed)) item.client apart is

pub owners-close : (client : ℕ) (present : List ℕ) (items : List (Option sessions.Item)) → list_any (is_owned client) items ≡ false
    → AreOpenOwners present items → AreOpenOwners (without client present) items
owners-close client present [] none are = tt
owners-close client present (item ∷ items) none are =
    let parts = or_parts (is_owned client item) (list_any (is_owned client) items) none in
    (session_left client present item parts.0 are.0, owners-close client present items parts.1 are.1)

-- where no client is open, each session was left, or is an orphan
nobodys : (owner : Option ℕ) (handed : Bool) → IfSome owner (λ client. is_open client [] ≡ true)
    → one_if (not (is_some owner) && not handed) + one_if (not (is_some owner) && handed) ≡ 1
nobodys None true is = refl
nobodys None false is = refl
nobodys (Some client) handed is = absurd cc

nobodys_session : (item : Option sessions.Item) → IsOpenOwner [] item → one_if (sessions.is_orphan item) + one_if (sessions.is_left item) ≡ one_if (is_some item)
nobodys_session None is = refl
nobodys_session (Some item) is = nobodys item.client (is_some item.handed) is

pub nobodys_sessions : (items : List (Option sessions.Item)) → AreOpenOwners [] items
    → count_by (λ (item : Option sessions.Item). is_some item) items ≡ count_by sessions.is_orphan items + count_by sessions.is_left items
nobodys_sessions [] are = refl
nobodys_sessions (item ∷ items) are =
    omega (
      arith,
      count_cons (λ (item : Option sessions.Item). is_some item) item items,
      count_cons sessions.is_orphan item items,
      count_cons sessions.is_left item items,
      nobodys_session item are.0,
      nobodys_sessions items are.1,
    )

left_by : (owner : Option ℕ) (handed : Bool) → IfSome owner (λ client. is_open client [] ≡ true) → (not (is_some owner) && not handed) ≡ false
    → true ≡ (not (is_some owner) && handed)
left_by None true is held = refl
left_by None false is held = absurd cc
left_by (Some client) handed is held = absurd cc

pub left_there : (item : Option sessions.Item) → IsOpenOwner [] item → sessions.is_orphan item ≡ false → is_some item ≡ sessions.is_left item
left_there None is held = refl
left_there (Some item) is held = left_by item.client (is_some item.handed) is held
