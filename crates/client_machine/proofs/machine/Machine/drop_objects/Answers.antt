use Rattle.std.proofs.Common.{◌≡◌, ◌+◌, ◌*◌, ℕ, List, Some, Ok, refl, ap, ◌∙◌, subst, arith}
use Rattle.std.specs.Prelude.{◌-◌, Option}
use Rattle.std.proofs.lemmas.Result.{err_from_is_err_and}
use Rattle.object_swap.specs.Items.{owner_at}
use Rattle.session_swap.specs.Items.{SessionsView, is_orphan}
use Rattle.std.specs.List.{count_by}
use Rattle.client_machine.specs.Dropping.{Drops}
use Rattle.client_machine.proofs.Dropping.{disowns_failed, disowns_none, disowns_ok, disowns_then, drops_none, drops_then, none_owned, objects_left, some_object}
use Rattle.client_machine.proofs.machine.Machine.drop_objects.Goals as goal

pub loop-item-init : goal.loop-item-init
loop-item-init g c = record {
  drops = λ client owner. (0, drops_none _ client _ c.args.self.now.held c.requires.settled);
  settled = c.requires.settled;
  lists = refl;
  rest = refl;
  disowns = disowns_none _ _ _ 0;
  costs = λ client owner. omega arith;
  steps = λ client owner. omega arith;
  counted = λ client owner. omega arith;
}

-- the client has one fewer
pub loop-item-smaller : goal.loop-item-smaller
loop-item-smaller g c =
    let client = c.requires.list.0 in
    let owner = c.requires.list.1 in
    let items = c.loop-item.self.held.objects.items in
    let new_items = c.drop_object.new.self.held.objects.items in
    let here = ap (λ (owners : List (Option ℕ)). owner_at owners c.args.list) c.loop-item.invariant.lists ∙ owner in
    let gone = c.in_ok-drop_object.ensures.ok client (c.in-Some.ensures.first client here).1 in
    omega (arith, gone.fewer, ap (λ (o : Option ℕ). objects_left o items) owner, ap (λ (o : Option ℕ). objects_left o new_items) owner)

pub loop-item-preserved : goal.loop-item-preserved
loop-item-preserved g c =
    let held = c.args.self.now.held in
    let between = c.loop-item.self.held in
    let so_far = c.loop-item.invariant in
    let next = c.in_ok-drop_object.ensures in
    let here = λ (client : ℕ) (owner : owner_at held.objects.owners c.args.list ≡ Some client).
    next.ok client
    (c.in-Some.ensures.first client (ap (λ (owners : List (Option ℕ)). owner_at owners c.args.list) so_far.lists ∙ owner)).1 in
    let first = c.requires.list in
    record {
      drops = λ client owner.
          let before = so_far.drops client owner in
          let one = here client owner in
          (before.0 + one.failed, drops_then _ client _ c.loop-item.self.device _ held between _ before.0 one.failed before.1 one.drops);
      settled = (here first.0 first.1).drops.settled;
      lists = next.rest.1 ∙ so_far.lists;
      rest = next.rest.0 ∙ so_far.rest;
      disowns = disowns_then _ _ _ _ held between _ 0 (Ok 0) so_far.lists so_far.disowns (disowns_ok _ _ _ _ _ tt 0 next.disowns);
      costs = λ client owner. omega (arith, so_far.costs client owner, (here client owner).costs);
      steps = λ client owner. omega (
        arith,
        so_far.steps client owner,
        (here client owner).fewer,
        c.first_by.ensures.few,
        c.drop_object.ensures.steps.0,
      );
      counted = λ client owner. omega (
        arith,
        so_far.counted client owner,
        ap (λ (n : ℕ). g.C.Visits.weight * n) (here client owner).fewer,
        c.in-Some.ensures.steps,
        c.in_ok-drop_object.ensures.steps.1,
      );
    }

pub returns-in_err-drop_object-clause-disowns : goal.returns-in_err-drop_object-clause-disowns
returns-in_err-drop_object-clause-disowns g c =
    let returned = c.from_residual in
    disowns_then _ _ _ _ c.args.self.now.held c.loop-item.self.held _ 0 returned.result c.loop-item.invariant.lists c.loop-item.invariant.disowns
    (disowns_failed _ _ _ _ _ _ returned.result (err_from_is_err_and returned.result returned.ensures.1) c.in_err-drop_object.ensures.disowns)

pub returns-in_err-drop_object-clause-costs : goal.returns-in_err-drop_object-clause-costs
returns-in_err-drop_object-clause-costs g c =
    λ client owner.
    let here = ap (λ (owners : List (Option ℕ)). owner_at owners c.args.list) c.loop-item.invariant.lists ∙ owner in
    omega (
      arith,
      c.loop-item.invariant.costs client owner,
      c.drop_object.ensures.costs client (c.in-Some.ensures.first client here).1,
    )

pub returns-in_err-drop_object-clause-steps : goal.returns-in_err-drop_object-clause-steps
returns-in_err-drop_object-clause-steps g c =
    λ client owner.
    let here = ap (λ (owners : List (Option ℕ)). owner_at owners c.args.list) c.loop-item.invariant.lists ∙ owner in
    let found = c.in-Some.ensures.first client here in
    omega (
      arith,
      c.loop-item.invariant.steps client owner,
      c.first_by.ensures.few,
      c.drop_object.ensures.steps.0,
      some_object c.loop-item.self.held.objects.items client c.in-Some.item (record { names = found.0; own = found.1 }),
    )

-- how many more orphans there are
pub returns-clause-ok : goal.returns-clause-ok
returns-clause-ok g c =
    λ client owner.
    let held = c.args.self.now.held in
    let so_far = c.loop-item.invariant.drops client owner in
    let failed : so_far.0 ≡ c.orphans.result - c.orphans-before.result =
    omega (
      arith,
      so_far.1.orphans,
      ap (λ (v : SessionsView). count_by is_orphan v.items) c.loop-item.invariant.rest,
      c.orphans.ensures,
      c.orphans-before.ensures,
    ) in
    subst (λ (n : ℕ). Drops g.D.Device.CONTEXTS g.D.Device.seen client c.args.self.now.device c.loop-item.self.device held c.loop-item.self.held held.objects.owners n)
    failed so_far.1

pub returns-clause-none : goal.returns-clause-none
returns-clause-none g c =
    λ client owner.
    c.in_default.ensures.first client (ap (λ (owners : List (Option ℕ)). owner_at owners c.args.list) c.loop-item.invariant.lists ∙ owner)

pub returns-clause-disowns : goal.returns-clause-disowns
returns-clause-disowns g c = disowns_ok _ _ _ _ _ 0 _ c.loop-item.invariant.disowns

pub returns-clause-costs : goal.returns-clause-costs
returns-clause-costs g c = λ client owner. omega (arith, c.loop-item.invariant.costs client owner)

pub returns-clause-steps : goal.returns-clause-steps
returns-clause-steps g c = λ client owner. omega (arith, c.loop-item.invariant.steps client owner, c.in_default.ensures.steps)

pub returns-clause-counted : goal.returns-clause-counted
returns-clause-counted g c =
    λ client owner.
    let here = ap (λ (owners : List (Option ℕ)). owner_at owners c.args.list) c.loop-item.invariant.lists ∙ owner in
    omega (
      arith,
      c.loop-item.invariant.counted client owner,
      ap (λ (n : ℕ). g.C.Visits.weight * n) (none_owned c.loop-item.self.held.objects.items client (c.in_default.ensures.first client here)),
      c.in_default.ensures.steps,
    )

pub overflow_sub-result : goal.overflow_sub-result
overflow_sub-result g c =
    let first = c.requires.list in
    omega (
      arith,
      (c.loop-item.invariant.drops first.0 first.1).1.orphans,
      ap (λ (v : SessionsView). count_by is_orphan v.items) c.loop-item.invariant.rest,
      c.orphans.ensures,
      c.orphans-before.ensures,
    )
