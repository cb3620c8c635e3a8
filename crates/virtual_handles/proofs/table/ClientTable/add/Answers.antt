-- The client has fewer objects than it may, so the number is below 4,096.
use Rattle.std.proofs.Common.{◌≡◌, ◌+◌, ◌≤◌, ◌<◌, ◌/◌, ℕ, false, List, Option, arith, rules, ap, sym, subst, ◌∙◌}
use Rattle.std.specs.Prelude.{set, get_or}
use Rattle.history_spec.specs.Table.{is_full, least_free, put_least}
use Rattle.virtual_handles.specs.View.{TableView}
use Rattle.virtual_handles.specs.Blocks.{PlacesAreCounted}
use Rattle.virtual_handles.proofs.Kept.{few_held, room_for_one, count_most, counted_put}
use Rattle.virtual_handles.proofs.table.ClientTable.add.Goals as goal

pub bounds-self-inside-number : goal.bounds-self-inside-number
bounds-self-inside-number c =
    let open_still : is_full c.self.inside.places.items ≡ false = subst (λ (v : TableView). is_full v.items ≡ false) (sym c.self.view_is) c.requires.open in
    let room : least_free c.self.inside.places.items < 4096 =
    room_for_one c.self.inside.places.items c.self.inside.taken c.self.inside.held c.self.invariant (few_held c.self.inside.places.items c.self.inside.taken c.self.inside.held c.self.invariant open_still) in
    let number : c.first_free-number.result ≡ least_free c.self.inside.places.items = c.first_free-number.ensures.least ∙ ap least_free c.deref.ensures.value in
    omega arith

pub overflow_add-self : goal.overflow_add-self
overflow_add-self c =
    let open_still : is_full c.self.inside.places.items ≡ false = subst (λ (v : TableView). is_full v.items ≡ false) (sym c.self.view_is) c.requires.open in
    let room : least_free c.self.inside.places.items < 4096 =
    room_for_one c.self.inside.places.items c.self.inside.taken c.self.inside.held c.self.invariant (few_held c.self.inside.places.items c.self.inside.taken c.self.inside.held c.self.invariant open_still) in
    let number : c.first_free-number.result ≡ least_free c.self.inside.places.items = c.first_free-number.ensures.least ∙ ap least_free c.deref.ensures.value in
    let most : get_or c.self.inside.taken (c.first_free-number.result / 64) 0 ≤ 64 =
    count_most c.self.inside.places.items c.self.inside.taken c.self.inside.held (c.first_free-number.result / 64) c.self.invariant (omega (arith, c.self.told)) in
    omega arith

pub bounds-self-inside-number-2 : goal.bounds-self-inside-number-2
bounds-self-inside-number-2 c =
    let open_still : is_full c.self.inside.places.items ≡ false = subst (λ (v : TableView). is_full v.items ≡ false) (sym c.self.view_is) c.requires.open in
    let room : least_free c.self.inside.places.items < 4096 =
    room_for_one c.self.inside.places.items c.self.inside.taken c.self.inside.held c.self.invariant (few_held c.self.inside.places.items c.self.inside.taken c.self.inside.held c.self.invariant open_still) in
    let number : c.first_free-number.result ≡ least_free c.self.inside.places.items = c.first_free-number.ensures.least ∙ ap least_free c.deref.ensures.value in
    omega arith

pub invariant_of-self : goal.invariant_of-self
invariant_of-self c =
    let open_still : is_full c.self.inside.places.items ≡ false = subst (λ (v : TableView). is_full v.items ≡ false) (sym c.self.view_is) c.requires.open in
    let number : c.first_free-number.result ≡ least_free c.self.inside.places.items = c.first_free-number.ensures.least ∙ ap least_free c.deref.ensures.value in
    let taken_after : ℕ → List ℕ = λ n. set c.self.inside.taken (n / 64) (get_or c.self.inside.taken (n / 64) 0 + 1) in
    subst (λ (places : List (Option ℕ)). PlacesAreCounted places (taken_after c.first_free-number.result) (c.self.inside.held + 1)) (sym c.put.ensures.items)
    (subst (λ (n : ℕ). PlacesAreCounted (put_least c.args.item c.self.inside.places.items) (taken_after n) (c.self.inside.held + 1)) (sym number)
    (counted_put c.args.item c.self.inside.places.items c.self.inside.taken c.self.inside.held c.self.invariant c.self.told
    (few_held c.self.inside.places.items c.self.inside.taken c.self.inside.held c.self.invariant open_still)))

pub returns-clause-handle : goal.returns-clause-handle
returns-clause-handle c = search rules
