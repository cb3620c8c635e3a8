use Rattle.std.proofs.Common.{◌≡◌, ◌<◌, ◌∙◌, ◌∷◌, ◌++◌, [], ℕ, List, length, set, refl, ap, sym, subst, arith, true}
use Rattle.std.specs.Prelude.{None, Option, Some, is_some}
use Rattle.std.specs.List.{count_by}
use Rattle.std.proofs.lemmas.List.{length-map, map-set}
use Rattle.session_swap.specs.declared.record.Place.TheVariants as places
use Rattle.session_swap.specs.declared.record.Record.{Record}
use Rattle.session_swap.specs.Items.{Item, ListsThose, SessionsView, flag, is_held, is_left, is_loaded_item, is_saved_item, item_at, loaded_items, new_item}
use Rattle.session_swap.specs.Records.{IsHandleOf, IsRecord, OrderView, item_of_record, items_of}
use Rattle.session_swap.proofs.Counts.{count_set}
use Rattle.session_swap.proofs.Listing.{listed_in, lists_same, not_listed}
use Rattle.session_swap.proofs.Making.{records_set}
use Rattle.session_swap.proofs.Uses.{without_absent}
use Rattle.session_swap.proofs.sessions.Sessions.adopt_session.Goals as goal

pub invariant_of-self : goal.invariant_of-self
invariant_of-self c =
    let records = c.self.inside.records.items in
    let items = items_of records in
    let number = c.number_of-number.result in
    let d = c.index_mut-record.result.now in
    let inside : number < length records = omega (arith, c.requires.number, c.self.invariant.sound.count, c.number_of-number.ensures) in
    let was : IsRecord c.self.inside.contexts d =
    subst (λ (r : Record). IsRecord c.self.inside.contexts r) (sym c.index_mut-record.ensures.value) (c.self.invariant.sound.each number d inside) in
    let n : Record =
    record d { client = Some c.args.client; handle = c.args.handle; place = places.Loaded; in_use = true } in
    let handle : IsHandleOf number (new_item c.args.client c.args.handle) =
    record { session = c.requires.session; number_is = sym c.number_of-number.ensures } in
    let listed = c.self.invariant.listed in
    let few : length c.self.inside.order.loaded < c.self.inside.numbers.loaded =
    omega (
      arith,
      c.requires.place,
      listed.lists.count,
      ap (λ (v : SessionsView). loaded_items v.items) c.self.view_is,
      ap (λ (v : SessionsView). v.numbers.loaded) c.self.view_is,
    ) in
    let none : item_at items number ≡ None =
    ap (λ (v : SessionsView). item_at v.items number) c.self.view_is ∙ ap (item_at c.args.self.now.items) c.number_of-number.ensures
    ∙ c.requires.unused in
    let same = map-set item_of_record records number n in
    record {
      sound = records_set records number n c.self.invariant.sound inside
          (record { room = was.room; handed_room = was.handed_room; context = tt }) handle;
      listed = listed_in records (set records number n) c.self.inside.order c.start.new.self number (item_of_record n) listed few inside same refl
          c.start.ensures;
      left_are = subst (λ (l : List (Option Item)). ListsThose is_left c.self.inside.left l) (sym same)
          (lists_same is_left refl items c.self.inside.left number (item_of_record n) c.self.invariant.left_are (ap is_left (sym none)));
      held_is = omega (
        arith,
        c.self.invariant.held_is,
        ap (λ l. count_by is_held l) same,
        count_set is_held items number (item_of_record n) None (omega (arith, inside, length-map records item_of_record)),
        ap (λ o. flag (is_held o)) none,
      );
      few = omega (
        arith,
        c.requires.few,
        ap (λ (v : SessionsView). count_by is_some v.items) c.self.view_is,
        ap (λ (v : SessionsView). v.numbers.active) c.self.view_is,
        ap (λ (l : List (Option Item)). count_by is_some l) same,
        count_set is_some items number (item_of_record n) None (omega (arith, inside, length-map records item_of_record)),
        ap (λ (o : Option Item). flag (is_some o)) none,
      );
    }

pub start-requires-clause-none : goal.start-requires-clause-none
start-requires-clause-none c =
    let items = items_of c.self.inside.records.items in
    let number = c.number_of-number.result in
    let listed = c.self.invariant.listed in
    let none : item_at items number ≡ None =
    ap (λ (v : SessionsView). item_at v.items number) c.self.view_is ∙ ap (item_at c.args.self.now.items) c.number_of-number.ensures
    ∙ c.requires.unused in (
      not_listed is_loaded_item refl items c.self.inside.order.loaded number listed.lists (ap is_loaded_item none),
      not_listed is_saved_item refl items c.self.inside.order.saved number listed.saved (ap is_saved_item none),
    )

pub returns : goal.returns
returns c =
    let records = c.self.inside.records.items in
    let items = items_of records in
    let number = c.number_of-number.result in
    let d = c.index_mut-record.result.now in
    let n : Record =
    record d { client = Some c.args.client; handle = c.args.handle; place = places.Loaded; in_use = true } in
    let this = Some (new_item c.args.client c.args.handle) in
    let same = map-set item_of_record records number n ∙ ap (λ (v : SessionsView). set v.items number this) c.self.view_is
    ∙ ap (λ (n : ℕ). set c.args.self.now.items n this) c.number_of-number.ensures in
    let next = ap (λ (v : SessionsView). v.next) c.self.view_is in
    let order = c.self.inside.order in
    let listed = c.self.invariant.listed in
    let none : item_at items number ≡ None =
    ap (λ (v : SessionsView). item_at v.items number) c.self.view_is ∙ ap (item_at c.args.self.now.items) c.number_of-number.ensures
    ∙ c.requires.unused in
    let loaded = not_listed is_loaded_item refl items order.loaded number listed.lists (ap is_loaded_item none) in
    let saved = not_listed is_saved_item refl items order.saved number listed.saved (ap is_saved_item none) in
    let order_is = ap (λ (o : OrderView). o.loaded) c.start.ensures ∙ ap (λ (l : List ℕ). l ++ number ∷ []) (without_absent number order.loaded loaded)
    ∙ ap (λ (v : SessionsView). v.order ++ number ∷ []) c.self.view_is
    ∙ ap (λ (n : ℕ). c.args.self.now.order ++ n ∷ []) c.number_of-number.ensures in
    let saved_is = ap (λ (o : OrderView). o.saved) c.start.ensures ∙ without_absent number order.saved saved
    ∙ ap (λ (v : SessionsView). v.saved) c.self.view_is in
    let numbers = ap (λ (v : SessionsView). v.numbers) c.self.view_is in
    let left = ap (λ (v : SessionsView). v.left) c.self.view_is in
    let room = ap (λ (v : SessionsView). v.contexts) c.self.view_is in
    λ i. record { numbers = numbers i; items = same i; next = next i; order = order_is i; saved = saved_is i; left = left i; contexts = room i }
