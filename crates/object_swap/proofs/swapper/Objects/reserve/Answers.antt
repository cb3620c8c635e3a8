use Rattle.std.proofs.Common.{◌+◌, ◌<◌, ◌≤◌, ◌^◌, inr, ◌++◌, ◌∷◌, [], List, ℕ, false, ap, sym, ◌∙◌, subst, refl, arith, length}
use Rattle.std.specs.Prelude.{None, OnErr, Result, Ok, Err, vec_capacity}
use Rattle.std.specs.List.{list_any}
use Rattle.std.proofs.lemmas.Bool.{false≢true}
use Rattle.std.proofs.lemmas.List.{map_push}
use Rattle.object_swap.specs.declared.record.Record.{Record}
use Rattle.object_swap.specs.Items.{Item, ObjectsView, is_vacant, no_item}
use Rattle.object_swap.specs.Records.{HoldsResidents, IsOwnedBy, IsRecord, item_of, items_of}
use Rattle.object_swap.proofs.Owned.{none_vacant, owned_more, vacant_some}
use Rattle.object_swap.proofs.Vacancies.{held_more}
use Rattle.object_swap.proofs.swapper.Objects.reserve.Goals as goal

pub returns-then-self-gt0-clause-ok : goal.returns-then-self-gt0-clause-ok
returns-then-self-gt0-clause-ok c =
    let inside = c.self.inside in
    ap (λ (v : ObjectsView). list_any is_vacant v.items) (sym c.self.view_is)
    ∙ vacant_some (items_of inside.records.items) inside.lists inside.owners.owners inside.vacant c.self.invariant.owned (omega (arith, c.if-self-gt0.true))

pub invariant_of-self-2 : goal.invariant_of-self-2
invariant_of-self-2 c =
    let inside = c.self.inside in
    let records = inside.records.items in
    let items = items_of records in
    let n : Record = record { client = None; handle = None; blob = c.in_ok-blob.blob; kept = false } in
    let few : length records + 1 < 2 ^ 32 = omega (arith, c.len.ensures, c.if-len.false) in
    let sound : IsRecord inside.contexts n = record { handle = tt; room = omega (arith, c.in_ok-blob.ensures.exact); context = λ kept. absurd (false≢true kept) } in
    let room : length records + 1 ≤ vec_capacity c.reserve-2.new.self = omega (arith, c.in_ok-reserve-2.ensures.ok) in
    let left = c.in_ok-reserve.ensures in
    let more = owned_more items inside.lists inside.owners.owners inside.vacant c.self.invariant.owned c.reserve.new.self (omega (arith, c.if-self-gt0.false))
    left.lists left.ok left.spare.1 in
    let held = held_more records inside.loaded.items inside.left.items (vec_capacity inside.loaded) (vec_capacity c.reserve-2.new.self) (vec_capacity inside.left)
    inside.slots n c.self.invariant.held sound refl room few in
    record {
      owned = subst (λ (l : List Item). IsOwnedBy l c.reserve.new.self inside.owners.owners 1)
          (sym (ap items_of c.in_ok-push.ensures.items ∙ map_push item_of records n)) more;
      held = subst (λ (l : List Record). HoldsResidents inside.contexts l c.reserve-2.new.self.items inside.left.items (vec_capacity c.reserve-2.new.self)
          (vec_capacity inside.left) inside.slots) (sym c.in_ok-push.ensures.items)
          (subst (λ (l : List ℕ). HoldsResidents inside.contexts (records ++ n ∷ []) l inside.left.items (vec_capacity c.reserve-2.new.self) (vec_capacity inside.left)
          inside.slots) (sym c.reserve-2.ensures.items) held);
    }

pub returns-clause-same : goal.returns-clause-same
returns-clause-same c =
    let inside = c.self.inside in
    let records = inside.records.items in
    let view = ap (λ (v : ObjectsView). v.items) c.self.view_is in
    let n : Record = record { client = None; handle = None; blob = c.in_ok-blob.blob; kept = false } in
    inr (
      ap (list_any is_vacant) (sym view)
          ∙ none_vacant (items_of records) inside.lists inside.owners.owners inside.vacant c.self.invariant.owned (omega (arith, c.if-self-gt0.false)),
      ap items_of c.in_ok-push.ensures.items ∙ map_push item_of records n ∙ ap (λ (l : List Item). l ++ no_item ∷ []) view,
    )

of_error : {A E P : Type 0} (r : Result A E) → P → OnErr r P
of_error (Ok a) p = tt
of_error (Err e) p = p

pub returns-then-len-clause-grows : goal.returns-then-len-clause-grows
returns-then-len-clause-grows c =
    let inside = c.self.inside in
    (ap (λ (v : ObjectsView). list_any is_vacant v.items) (sym c.self.view_is)
    ∙ none_vacant (items_of inside.records.items) inside.lists inside.owners.owners inside.vacant c.self.invariant.owned (omega (arith, c.if-self-gt0.false)))

pub returns-in_err-reserve-clause-grows : goal.returns-in_err-reserve-clause-grows
returns-in_err-reserve-clause-grows c =
    let inside = c.self.inside in
    of_error _ (ap (λ (v : ObjectsView). list_any is_vacant v.items) (sym c.self.view_is)
    ∙ none_vacant (items_of inside.records.items) inside.lists inside.owners.owners inside.vacant c.self.invariant.owned (omega (arith, c.if-self-gt0.false)))

pub returns-in_err-reserve-2-clause-grows : goal.returns-in_err-reserve-2-clause-grows
returns-in_err-reserve-2-clause-grows c =
    let inside = c.self.inside in
    of_error _ (ap (λ (v : ObjectsView). list_any is_vacant v.items) (sym c.self.view_is)
    ∙ none_vacant (items_of inside.records.items) inside.lists inside.owners.owners inside.vacant c.self.invariant.owned (omega (arith, c.if-self-gt0.false)))

pub returns-in_err-blob-clause-grows : goal.returns-in_err-blob-clause-grows
returns-in_err-blob-clause-grows c =
    let inside = c.self.inside in
    of_error _ (ap (λ (v : ObjectsView). list_any is_vacant v.items) (sym c.self.view_is)
    ∙ none_vacant (items_of inside.records.items) inside.lists inside.owners.owners inside.vacant c.self.invariant.owned (omega (arith, c.if-self-gt0.false)))

pub returns-in_err-push-clause-grows : goal.returns-in_err-push-clause-grows
returns-in_err-push-clause-grows c =
    let inside = c.self.inside in
    of_error _ (ap (λ (v : ObjectsView). list_any is_vacant v.items) (sym c.self.view_is)
    ∙ none_vacant (items_of inside.records.items) inside.lists inside.owners.owners inside.vacant c.self.invariant.owned (omega (arith, c.if-self-gt0.false)))
