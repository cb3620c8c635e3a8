use Rattle.std.proofs.Common.{◌≡◌, ◌<◌, ◌-◌, ◌++◌, ◌∷◌, [], List, ℕ, true, false, refl, ap, sym, ◌∙◌, subst, arith, length, set, length-set, length-append}
use Rattle.std.specs.List.{list_any}
use Rattle.tab_spec.specs.declared.TheConstants.{TRANSIENT_FIRST}
use Rattle.object_swap.specs.Items.{Item, ObjectsView, is_vacant, item_at, new_item, no_item}
use Rattle.broker_tests.proofs.Full.{filled, from_err, from_ok, full_again, one_more, same_count}
use Rattle.broker_tests.proofs.objects.add.Goals as goal

pub returns-then-is_err-clause-full : goal.returns-then-is_err-clause-full
returns-then-is_err-clause-full c = full_again c.args.objects.now.items c.make_objects.new.self.items c.make_objects.ensures.moved.objects.owners c.requires.full

pub returns-in_default-clause-full : goal.returns-in_default-clause-full
returns-in_default-clause-full c = full_again c.args.objects.now.items c.make_objects.new.self.items c.make_objects.ensures.moved.objects.owners c.requires.full

pub returns-then-handle-ne128-clause-full : goal.returns-then-handle-ne128-clause-full
returns-then-handle-ne128-clause-full c = full_again c.args.objects.now.items c.make_objects.new.self.items c.make_objects.ensures.moved.objects.owners c.requires.full

pub returns-then-is_err-2-clause-full : goal.returns-then-is_err-2-clause-full
returns-then-is_err-2-clause-full c =
    let kept = from_err c.reserve.result _ c.reserve.ensures.err (sym c.is_err-2.ensures.value ∙ c.if-is_err-2.true) in
    ap (λ (v : ObjectsView). list_any is_vacant v.items) kept
    ∙ full_again c.args.objects.now.items c.make_objects.new.self.items c.make_objects.ensures.moved.objects.owners c.requires.full

pub returns-clause-full : goal.returns-clause-full
returns-clause-full c =
    let before = c.make_objects.new.self.items in
    let full = full_again c.args.objects.now.items before c.make_objects.ensures.moved.objects.owners c.requires.full in
    let room = from_ok c.reserve.result _ c.reserve.ensures.ok (sym c.is_err-2.ensures.value ∙ c.if-is_err-2.false) in
    let more : c.reserve.new.self.items ≡ before ++ no_item ∷ [] = one_more before c.reserve.new.self.items full room c.reserve.ensures.same in
    let at = c.adopt-item.result in
    let inside : at < length (before ++ no_item ∷ []) = omega (arith, c.adopt-item.ensures.inside, ap (λ (l : List Item). length l) more) in
    let vacant = ap (λ (l : List Item). is_vacant (item_at l at)) (sym more) ∙ c.adopt-item.ensures.vacant in
    ap (λ (v : ObjectsView). list_any is_vacant v.items) c.adopt-item.ensures.held
    ∙ ap (λ (l : List Item). list_any is_vacant (set l at (new_item 7 (c.in-Some.handle - TRANSIENT_FIRST)))) more
    ∙ filled before at (new_item 7 (c.in-Some.handle - TRANSIENT_FIRST)) full inside vacant refl

pub returns-clause-count : goal.returns-clause-count
returns-clause-count c held =
    let before = c.make_objects.new.self.items in
    let full = full_again c.args.objects.now.items before c.make_objects.ensures.moved.objects.owners c.requires.full in
    let room = from_ok c.reserve.result _ c.reserve.ensures.ok (sym c.is_err-2.ensures.value ∙ c.if-is_err-2.false) in
    let more : c.reserve.new.self.items ≡ before ++ no_item ∷ [] = one_more before c.reserve.new.self.items full room c.reserve.ensures.same in
    omega (
      arith,
      ap (λ (v : ObjectsView). length v.items) c.adopt-item.ensures.held,
      length-set c.reserve.new.self.items c.adopt-item.result (new_item 7 (c.in-Some.handle - TRANSIENT_FIRST)),
      ap (λ (l : List Item). length l) more,
      length-append before (no_item ∷ []),
      same_count c.args.objects.now.items before c.make_objects.ensures.moved.objects.owners,
    )
