-- The lists of objects of the clients: what becomes of them where a client opens or closes.
use Rattle.std.proofs.Common.{◌≡◌, ◌<◌, ◌≤◌, ◌⊎◌, inl, inr, ℕ, zero, suc, Bool, true, false, List, [], ◌∷◌, ◌++◌, length, set, refl, sym, ap, subst, ◌∙◌, arith}
use Rattle.std.specs.Prelude.{◌==◌, Option, Some, None}
use Rattle.std.specs.List.{AllByRecursion}
use Rattle.std.proofs.lemmas.Bool.{cases_Bool, cases_eq, eq-eqb, eqb-true, ne_eqb, or_cases, or_left, or_right, true≢false}
use Rattle.std.proofs.lemmas.List.{get_or-set_other, get_or-set_same, get_or_append_left, get_or_past}
use Rattle.object_swap.specs.Items.{ObjectsView, has_list, owner_at}
use Rattle.history_spec.specs.Entry.{without}
use Rattle.world_laws.proofs.Clients.{gone, stay}
use Rattle.client_machine.specs.Tables.{is_open}
use Rattle.broker_core.specs.Broker.{times_open}
use Rattle.broker_core.specs.Tables.{ListsStand, list_of}
use Rattle.broker_core.proofs.Tabling.{open_after, open_inside}

-- ---- whose a list is

not_both : (owner : Option ℕ) (client : ℕ) → owner ≡ None → owner ≡ Some client → ⊥
not_both owner client none some = let both : ◌≡◌ {A = Option ℕ} None (Some client) = sym none ∙ some in cc

same_owner : (one other : ℕ) (owner : Option ℕ) → owner ≡ Some one → owner ≡ Some other → one ≡ other
same_owner one other owner is also = let both : Some one ≡ Some other = sym is ∙ also in cc

owner_inside : (owners : List (Option ℕ)) (list client : ℕ) → owner_at owners list ≡ Some client → list < length owners
owner_inside [] list client is = absurd cc
owner_inside (owner ∷ owners) zero client is = omega arith
owner_inside (owner ∷ owners) (suc list) client is = omega (arith, owner_inside owners list client is)

-- a client that has a list has this one
pub list_had : (owners : List (Option ℕ)) (client : ℕ) → has_list owners client ≡ true → (list : ℕ) × (owner_at owners list ≡ Some client)
list_had [] client some = absurd cc
list_had (None ∷ owners) client some = let rest = list_had owners client some in (suc rest.0, rest.1)
list_had (Some other ∷ owners) client some =
    elim (or_cases (other == client) (has_list owners client) some) [
      | inl here ↦ (0, ap Some (eqb-true other client here))
      | inr later ↦ let rest = list_had owners client later in (suc rest.0, rest.1)
    ]

-- one that isn't open has none
pub no_list : (present lists : List ℕ) (owners : List (Option ℕ)) (client : ℕ) → ListsStand present lists owners → is_open client present ≡ false
    → has_list owners client ≡ false
no_list present lists owners client stand none =
    elim (cases_Bool (has_list owners client)) [
      | inl some ↦ absurd (let had = list_had owners client some in true≢false (sym (stand.owned had.0 client had.1).0 ∙ none))
      | inr is ↦ is
    ]

-- ---- a client gets a list

-- one that was nobody's, and the others stay whose they are
pub record Gives (owners new_owners : List (Option ℕ)) (list client : ℕ) : Type 0 where
  pub owner : owner_at new_owners list ≡ Some client
  pub free : owner_at owners list ≡ None
  pub others : (other : ℕ) → (other ≡ list → ⊥) → owner_at new_owners other ≡ owner_at owners other

pub gives_again : (owners : List (Option ℕ)) (list client : ℕ) → list < length owners → owner_at owners list ≡ None → Gives owners (set owners list (Some client)) list client
gives_again owners list client inside free = record {
  owner = get_or-set_same owners list (Some client) None inside;
  free = free;
  others = λ other apart. get_or-set_other owners list other (Some client) None apart;
}

last_owner : (owners : List (Option ℕ)) (owner : Option ℕ) → owner_at (owners ++ owner ∷ []) (length owners) ≡ owner
last_owner [] owner = refl
last_owner (other ∷ owners) owner = last_owner owners owner

owner_pushed : (owners : List (Option ℕ)) (owner : Option ℕ) (list : ℕ) → (list ≡ length owners → ⊥) → owner_at (owners ++ owner ∷ []) list ≡ owner_at owners list
owner_pushed [] owner zero apart = absurd (apart refl)
owner_pushed [] owner (suc list) apart = refl
owner_pushed (other ∷ owners) owner zero apart = refl
owner_pushed (other ∷ owners) owner (suc list) apart = owner_pushed owners owner list (λ same. apart (ap suc same))

pub gives_more : (owners : List (Option ℕ)) (client : ℕ) → Gives owners (owners ++ Some client ∷ []) (length owners) client
gives_more owners client = record {
  owner = last_owner owners (Some client);
  free = get_or_past owners (length owners) None (omega arith);
  others = λ other apart. owner_pushed owners (Some client) other apart;
}

-- ---- a client opens

open_cases : (client n : ℕ) (present : List ℕ) → is_open client (present ++ n ∷ []) ≡ true → (is_open client present ≡ true) ⊎ (client ≡ n)
open_cases client n [] some =
    elim (or_cases (n == client) false some) [
      | inl here ↦ inr (sym (eqb-true n client here))
      | inr later ↦ absurd cc
    ]
open_cases client n (other ∷ present) some =
    elim (or_cases (other == client) (is_open client (present ++ n ∷ [])) some) [
      | inl here ↦ inl (or_left (other == client) (is_open client present) here)
      | inr later ↦ elim (open_cases client n present later) [
        | inl before ↦ inl (or_right (other == client) (is_open client present) before)
        | inr last ↦ inr last
      ]
    ]

open_last : (n : ℕ) (present : List ℕ) → is_open n (present ++ n ∷ []) ≡ true
open_last n [] = or_left (n == n) false (eq-eqb n n refl)
open_last n (other ∷ present) = or_right (other == n) (is_open n (present ++ n ∷ [])) (open_last n present)

last_list : (lists : List ℕ) (list : ℕ) → list_of (lists ++ list ∷ []) (length lists) ≡ list
last_list [] list = refl
last_list (other ∷ lists) list = last_list lists list

list_before : (lists : List ℕ) (list client : ℕ) → client < length lists → list_of (lists ++ list ∷ []) client ≡ list_of lists client
list_before lists list client inside = get_or_append_left lists (list ∷ []) 0 client inside

own_after : (present lists : List ℕ) (owners new_owners : List (Option ℕ)) (list client : ℕ) → AllByRecursion (λ c. c < length lists) present → ListsStand present lists owners
    → Gives owners new_owners list (length lists) → (is_open client present ≡ true) ⊎ (client ≡ length lists) → owner_at new_owners (list_of (lists ++ list ∷ []) client) ≡ Some client
own_after present lists owners new_owners list client below stand gives (inl before) =
    let inside = open_inside present client (length lists) below before in
    ap (owner_at new_owners) (list_before lists list client inside)
    ∙ gives.others (list_of lists client) (λ same. not_both (owner_at owners list) client gives.free (ap (owner_at owners) (sym same) ∙ stand.own client before))
    ∙ stand.own client before
own_after present lists owners new_owners list client below stand gives (inr last) =
    subst (λ (c : ℕ). owner_at new_owners (list_of (lists ++ list ∷ []) c) ≡ Some c) (sym last) (ap (owner_at new_owners) (last_list lists list) ∙ gives.owner)

pub lists-open : (present lists : List ℕ) (owners new_owners : List (Option ℕ)) (list : ℕ) → AllByRecursion (λ c. c < length lists) present → ListsStand present lists owners
    → Gives owners new_owners list (length lists) → ListsStand (present ++ length lists ∷ []) (lists ++ list ∷ []) new_owners
lists-open present lists owners new_owners list below stand gives = record {
  own = λ client some. own_after present lists owners new_owners list client below stand gives (open_cases client (length lists) present some);
  owned = λ other client is.
      elim (cases_eq other list) [
        | inl same ↦
            let last = same_owner (length lists) client (owner_at new_owners other) (ap (owner_at new_owners) same ∙ gives.owner) is in (
              subst (λ (c : ℕ). is_open c (present ++ length lists ∷ []) ≡ true) last (open_last (length lists) present),
              same ∙ sym (last_list lists list) ∙ ap (list_of (lists ++ list ∷ [])) last,
            )
        | inr apart ↦
            let before = stand.owned other client (sym (gives.others other apart) ∙ is) in (
              open_after client (length lists) present before.0,
              before.1 ∙ sym (list_before lists list client (open_inside present client (length lists) below before.0)),
            )
      ];
}

-- ---- a client closes

other_open : (client other : ℕ) (present : List ℕ) → times_open client present ≤ 1 → is_open other (without client present) ≡ true → other ≡ client → ⊥
other_open client other present once some same =
    true≢false (sym some ∙ ap (λ (c : ℕ). is_open c (without client present)) same ∙ gone client present once)

apart_test : (client other : ℕ) → (other ≡ client → ⊥) → (client == other) ≡ false
apart_test client other apart = ne_eqb client other (λ same. apart (sym same))

own_left : (present lists : List ℕ) (owners : List (Option ℕ)) (client other : ℕ) → ListsStand present lists owners → is_open client present ≡ true
    → (other ≡ client → ⊥) → is_open other present ≡ true → owner_at (set owners (list_of lists client) None) (list_of (set lists client 0) other) ≡ Some other
own_left present lists owners client other stand opened apart some =
    ap (owner_at (set owners (list_of lists client) None)) (get_or-set_other lists client other 0 0 apart)
    ∙ get_or-set_other owners (list_of lists client) (list_of lists other) None None
    (λ same. apart (same_owner other client (owner_at owners (list_of lists other)) (stand.own other some) (ap (owner_at owners) same ∙ stand.own client opened)))
    ∙ stand.own other some

pub lists-close : (present lists : List ℕ) (owners : List (Option ℕ)) (client : ℕ) → ListsStand present lists owners → times_open client present ≤ 1 → is_open client present ≡ true
    → ListsStand (without client present) (set lists client 0) (set owners (list_of lists client) None)
lists-close present lists owners client stand once opened = record {
  own = λ other some.
      let apart = other_open client other present once some in
      own_left present lists owners client other stand opened apart (sym (stay client other present (apart_test client other apart)) ∙ some);
  owned = λ list other is.
      let mine = list_of lists client in
      let inside = owner_inside owners mine client (stand.own client opened) in
      elim (cases_eq list mine) [
        | inl same ↦
            absurd (not_both (owner_at (set owners mine None) list) other (ap (owner_at (set owners mine None)) same ∙ get_or-set_same owners mine None None inside) is)
        | inr apart ↦
            let before = stand.owned list other (sym (get_or-set_other owners mine list None None apart) ∙ is) in
            let differs : other ≡ client → ⊥ = λ same. apart (before.1 ∙ ap (list_of lists) same) in
            (stay client other present (apart_test client other differs) ∙ before.0, before.1 ∙ sym (get_or-set_other lists client other 0 0 differs))
      ];
}

-- ---- the same of numbers and lists that are known by themselves

pub lists-opened : (present lists : List ℕ) (owners new_owners : List (Option ℕ)) (list number : ℕ) → number ≡ length lists → AllByRecursion (λ c. c < number) present
    → ListsStand present lists owners → Gives owners new_owners list number → ListsStand (present ++ number ∷ []) (lists ++ list ∷ []) new_owners
lists-opened present lists owners new_owners list number is below stand gives =
    subst (λ (n : ℕ). AllByRecursion (λ c. c < n) present → Gives owners new_owners list n → ListsStand (present ++ n ∷ []) (lists ++ list ∷ []) new_owners) (sym is)
    (λ below gives. lists-open present lists owners new_owners list below stand gives) below gives

pub lists_same : {present others lists : List ℕ} {owners new_owners : List (Option ℕ)} → others ≡ present → new_owners ≡ owners → ListsStand present lists owners
    → ListsStand others lists new_owners
lists_same {present} {others} {lists} {owners} {new_owners} same is stand =
    subst (λ (p : List ℕ). ListsStand p lists new_owners) (sym same) (subst (λ (o : List (Option ℕ)). ListsStand present lists o) (sym is) stand)

-- a list that is given, as it is told
pub given : (old new : ObjectsView) (list client : ℕ) (has_free : Bool)
    → (has_free ≡ true → (list < length old.owners) × (owner_at old.owners list ≡ None) × (new ≡ record old { owners = set old.owners list (Some client) }))
    → (has_free ≡ false → (list ≡ length old.owners) × (new ≡ record old { owners = old.owners ++ Some client ∷ [] }))
    → Gives old.owners new.owners list client × (new ≡ record old { owners = new.owners })
given old new list client true again more =
    let is = again refl in
    let owners : new.owners ≡ set old.owners list (Some client) = ap (λ (v : ObjectsView). v.owners) is.2 in (
      subst (λ (o : List (Option ℕ)). Gives old.owners o list client) (sym owners) (gives_again old.owners list client is.0 is.1),
      is.2 ∙ ap (λ (o : List (Option ℕ)). record old { owners = o }) (sym owners),
    )
given old new list client false again more =
    let is = more refl in
    let owners : new.owners ≡ old.owners ++ Some client ∷ [] = ap (λ (v : ObjectsView). v.owners) is.1 in (
      subst (λ (o : List (Option ℕ)). Gives old.owners o list client) (sym owners)
          (subst (λ (l : ℕ). Gives old.owners (old.owners ++ Some client ∷ []) l client) (sym is.0) (gives_more old.owners client)),
      is.1 ∙ ap (λ (o : List (Option ℕ)). record old { owners = o }) (sym owners),
    )
