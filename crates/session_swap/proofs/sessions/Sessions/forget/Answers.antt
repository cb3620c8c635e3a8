use Rattle.std.proofs.Common.{◌∙◌, ℕ, List, set, ap, sym, subst, refl, arith}
use Rattle.std.specs.Prelude.{None, Option, is_some, not}
use Rattle.std.specs.List.{count_by}
use Rattle.std.proofs.lemmas.List.{length-map, map-set}
use Rattle.device_port.specs.Use.{without_one}
use Rattle.session_swap.specs.declared.record.Place.TheVariants as places
use Rattle.session_swap.specs.declared.record.Record.{Record}
use Rattle.session_swap.specs.Items.{Item, ListsThose, SessionsView, flag, is_held, is_left, is_loaded_item, item_at}
use Rattle.session_swap.specs.Records.{IsRecord, OrderView, item_of_record, items_of}
use Rattle.session_swap.proofs.Moved.{record_inside}
use Rattle.session_swap.proofs.Making.{read_there, records_set}
use Rattle.session_swap.proofs.Listing.{listed_gone, lists_without}
use Rattle.session_swap.proofs.Counts.{count_set}
use Rattle.session_swap.proofs.Owners.{held_less, held_most, saved_else}
use Rattle.session_swap.proofs.sessions.Sessions.forget.Goals as goal

pub less_one-self-inside-requires : goal.less_one-self-inside-requires
less_one-self-inside-requires c =
    let records = c.self.inside.records.items in
    let number = c.args.number in
    let there = ap (λ (v : SessionsView). is_some (item_at v.items number)) c.self.view_is ∙ c.requires in
    let inside = record_inside records number there in
    let was = ap is_held (read_there records number c.index_mut-record.result.now inside c.index_mut-record.ensures.value) in
    omega (
      arith,
      c.self.invariant.held_is,
      held_most (items_of records) number c.is_held-was_held.result (omega (arith, inside, length-map records item_of_record))
          (was ∙ sym c.is_held-was_held.ensures),
    )

pub end-requires-clause-loaded : goal.end-requires-clause-loaded
end-requires-clause-loaded c =
    let records = c.self.inside.records.items in
    let number = c.args.number in
    let there = ap (λ (v : SessionsView). is_some (item_at v.items number)) c.self.view_is ∙ c.requires in
    let inside = record_inside records number there in
    let here = read_there records number c.index_mut-record.result.now inside c.index_mut-record.ensures.value in
    c.self.invariant.listed.lists.each number ∙ ap flag (ap is_loaded_item here ∙ sym c.is_loaded-is_loaded.ensures)

pub end-requires-clause-saved : goal.end-requires-clause-saved
end-requires-clause-saved c =
    let records = c.self.inside.records.items in
    let number = c.args.number in
    let there = ap (λ (v : SessionsView). is_some (item_at v.items number)) c.self.view_is ∙ c.requires in
    let inside = record_inside records number there in
    let here = read_there records number c.index_mut-record.result.now inside c.index_mut-record.ensures.value in
    c.self.invariant.listed.saved.each number
    ∙ ap flag (saved_else (item_at (items_of records) number) there ∙ ap not (ap is_loaded_item here ∙ sym c.is_loaded-is_loaded.ensures))

pub invariant_of-self : goal.invariant_of-self
invariant_of-self c =
    let records = c.self.inside.records.items in
    let items = items_of records in
    let number = c.args.number in
    let there = ap (λ (v : SessionsView). is_some (item_at v.items number)) c.self.view_is ∙ c.requires in
    let inside = record_inside records number there in
    let d = c.index_mut-record.result.now in
    let is = c.index_mut-record.ensures.value in
    let its : IsRecord c.self.inside.contexts d = subst (λ (r : Record). IsRecord c.self.inside.contexts r) (sym is) (c.self.invariant.sound.each number d inside) in
    let n : Record = record d { place = places.Unused } in
    let was = ap is_held (read_there records number d inside is) ∙ sym c.is_held-was_held.ensures in
    let none : Option Item = None in
    let same = map-set item_of_record records number n in
    record {
      sound = records_set records number n c.self.invariant.sound inside
          (record { room = its.room; handed_room = its.handed_room; context = tt }) tt;
      listed = listed_gone records (set records number n) c.self.inside.order c.end.new.self number c.self.invariant.listed same c.end.ensures;
      left_are = subst (λ (l : List (Option Item)). ListsThose is_left c.remove.new.self l) (sym same)
          (subst (λ (l : List ℕ). ListsThose is_left l (set items number none)) (sym c.remove.ensures)
          (lists_without is_left refl items c.self.inside.left number none c.self.invariant.left_are refl));
      held_is = omega (
        arith,
        c.less_one-self-inside.ensures,
        c.self.invariant.held_is,
        ap (λ (l : List (Option Item)). count_by is_held l) same,
        held_less items number none c.is_held-was_held.result (omega (arith, inside, length-map records item_of_record)) was refl,
      );
      few = omega (
        arith,
        c.self.invariant.few,
        ap (λ (l : List (Option Item)). count_by is_some l) same,
        count_set is_some items number None None (omega (arith, inside, length-map records item_of_record)),
      );
    }

pub returns : goal.returns
returns c =
    let records = c.self.inside.records.items in
    let number = c.args.number in
    let n : Record = record c.index_mut-record.result.now { place = places.Unused } in
    let none : Option Item = None in
    let same = map-set item_of_record records number n ∙ ap (λ (v : SessionsView). set v.items number none) c.self.view_is in
    let next = ap (λ (v : SessionsView). v.next) c.self.view_is in
    let order = ap (λ (o : OrderView). o.loaded) c.end.ensures ∙ ap (λ (v : SessionsView). without_one number v.order) c.self.view_is in
    let saved = ap (λ (o : OrderView). o.saved) c.end.ensures ∙ ap (λ (v : SessionsView). without_one number v.saved) c.self.view_is in
    let numbers = ap (λ (v : SessionsView). v.numbers) c.self.view_is in
    let left = c.remove.ensures ∙ ap (λ (v : SessionsView). without_one number v.left) c.self.view_is in
    let room = ap (λ (v : SessionsView). v.contexts) c.self.view_is in
    λ i. record { numbers = numbers i; items = same i; next = next i; order = order i; saved = saved i; left = left i; contexts = room i }
