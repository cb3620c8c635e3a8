use Rattle.std.proofs.Common.{arith, refl, ◌∙◌}
use Rattle.std.specs.Prelude.{Ok}
use Rattle.std.proofs.lemmas.List.Sums.{count_by-le-length}
use Rattle.std.proofs.lemmas.Result.{err_from_is_err_and}
use Rattle.session_swap.specs.Items.{is_held, is_owned}
use Rattle.history_laws.proofs.Counts.{list_none}
use Rattle.client_machine.proofs.Disowning.{ended_owned, others_same, others_then, own_at, owned_few}
use Rattle.client_machine.proofs.Dropping.{disowns_failed, disowns_none, disowns_ok, disowns_then, drops_none, drops_then}
use Rattle.client_machine.proofs.machine.Machine.drop_sessions.Goals as goal

pub loop-number-init : goal.loop-number-init
loop-number-init g c = record {
  drops = drops_none _ _ _ c.args.self.now.held c.requires.may.settled;
  left = omega (arith, owned_few c.args.self.now.held.sessions.items c.args.client);
  few = omega arith;
  disowns = disowns_none _ _ _ 0;
  rest = refl;
  costs = omega arith;
  others = others_same c.args.client c.args.self.now.held.sessions.items;
}

pub loop-number-preserved : goal.loop-number-preserved
loop-number-preserved g c =
    let so_far = c.loop-number.invariant in
    let next = c.in_ok-failed.ensures in
    let client = c.args.client in
    record {
      drops = drops_then _ _ _ _ _ _ _ _ _ _ so_far.drops next.ok;
      left = omega (arith, so_far.left, next.closes.count);
      few = omega (arith, so_far.few, next.closes.few);
      disowns = disowns_then _ _ _ _ _ _ _ 0 (Ok 0) so_far.drops.lists so_far.disowns (disowns_ok _ _ _ _ _ _ 0 next.disowns);
      rest = next.closes.rest ∙ so_far.rest;
      costs = omega (arith, so_far.costs, next.costs, next.closes.count);
      others = others_then client _ _ _ so_far.others next.closes.others;
    }

pub returns-clause-none : goal.returns-clause-none
returns-clause-none g c =
    list_none (is_owned c.args.client) c.loop-number.self.held.sessions.items
    (omega (arith, c.loop-number.invariant.left, c.active-number-end.ensures, c.loop-number-test.false))

pub returns-in_default-clause-few : goal.returns-in_default-clause-few
returns-in_default-clause-few g c =
    let so_far = c.loop-number.invariant in
    omega (
      arith,
      so_far.few,
      so_far.left,
      c.active-number-end.ensures.numbers,
      count_by-le-length is_held c.args.self.now.held.sessions.items,
    )

pub returns-clause-few : goal.returns-clause-few
returns-clause-few g c =
    let so_far = c.loop-number.invariant in
    omega (
      arith,
      so_far.few,
      so_far.left,
      c.active-number-end.ensures.numbers,
      count_by-le-length is_held c.args.self.now.held.sessions.items,
    )

pub returns-in_default-clause-disowns : goal.returns-in_default-clause-disowns
returns-in_default-clause-disowns g c = disowns_ok _ _ _ _ _ 0 _ c.loop-number.invariant.disowns

pub returns-clause-disowns : goal.returns-clause-disowns
returns-clause-disowns g c = disowns_ok _ _ _ _ _ 0 _ c.loop-number.invariant.disowns

pub returns-in_err-failed-clause-disowns : goal.returns-in_err-failed-clause-disowns
returns-in_err-failed-clause-disowns g c =
    let returned = c.from_residual in
    disowns_then _ _ _ _ _ _ _ 0 returned.result c.loop-number.invariant.drops.lists c.loop-number.invariant.disowns
    (disowns_failed _ _ _ _ _ _ returned.result (err_from_is_err_and returned.result returned.ensures.1) c.in_err-failed.ensures.disowns)

pub returns-in_err-failed-clause-others : goal.returns-in_err-failed-clause-others
returns-in_err-failed-clause-others g c =
    others_then c.args.client _ _ _ c.loop-number.invariant.others c.in_err-failed.ensures.closes.others

pub returns-clause-costs : goal.returns-clause-costs
returns-clause-costs g c = omega (arith, c.loop-number.invariant.costs)

pub returns-in_default-clause-costs : goal.returns-in_default-clause-costs
returns-in_default-clause-costs g c = omega (arith, c.loop-number.invariant.costs)

pub returns-in_err-failed-clause-costs : goal.returns-in_err-failed-clause-costs
returns-in_err-failed-clause-costs g c =
    let items = c.loop-number.self.held.sessions.items in
    omega (
      arith,
      c.loop-number.invariant.costs,
      c.in_err-failed.ensures.costs,
      ended_owned items c.args.client _ (own_at items c.args.client c.in-Some.handle c.in-Some.ensures.0 c.in-Some.ensures.1),
    )
