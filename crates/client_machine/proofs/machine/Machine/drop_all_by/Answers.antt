use Rattle.std.proofs.Common.{◌+◌, ℕ, List, Ok, ap, sym, ◌∙◌, subst, arith, rules}
use Rattle.std.specs.Prelude.{None, set}
use Rattle.std.proofs.lemmas.Result.{err_from_is_err_and}
use Rattle.object_swap.specs.Items.{HasNone, Item, ObjectsView, owner_at}
use Rattle.session_swap.specs.Items.{SessionsView}
use Rattle.client_machine.specs.Costs.{own_objects, own_residents}
use Rattle.client_machine.specs.Dropping.{Disowns, Drops, KeepsOthers}
use Rattle.client_machine.proofs.Dropping.{disowns_ended, disowns_failed, disowns_then, drops_ended, drops_then, with_objects}
use Rattle.client_machine.proofs.LeftOnes.{saved_left}
use Rattle.client_machine.proofs.Remaining.{leaves_them}
use Rattle.client_machine.proofs.machine.Machine.drop_all_by.Goals as goal

pub drop_objects-requires-clause-list : goal.drop_objects-requires-clause-list
drop_objects-requires-clause-list g c =
    (c.args.client, ap (λ (v : ObjectsView). owner_at v.owners c.args.list) c.drop_sessions.ensures.rest ∙ c.requires.list)

pub end_client-requires : goal.end_client-requires
end_client-requires g c =
    let owner = ap (λ (v : ObjectsView). owner_at v.owners c.args.list) c.drop_sessions.ensures.rest ∙ c.requires.list in (
      c.args.client,
      ap (λ owners. owner_at owners c.args.list) c.drop_objects.ensures.rest.1 ∙ owner,
      c.in_ok-of_objects.ensures.none c.args.client owner,
    )

pub returns-in_err-of_sessions-clause-drops : goal.returns-in_err-of_sessions-clause-drops
returns-in_err-of_sessions-clause-drops g c =
    record {
      ok = search rules;
      none = search rules;
      others = search rules;
      disowns =
          let returned = c.from_residual in
          disowns_failed _ _ _ _ _ _ returned.result (err_from_is_err_and returned.result returned.ensures.1) c.in_err-of_sessions.ensures.disowns;
      costs = search rules;
    }

pub returns-in_err-of_objects-clause-drops : goal.returns-in_err-of_objects-clause-drops
returns-in_err-of_objects-clause-drops g c =
    record {
      ok = search rules;
      none = search rules;
      others = subst (λ (v : SessionsView). KeepsOthers c.args.client c.args.self.now.held.sessions.items v.items) (sym c.drop_objects.ensures.rest.0)
          c.drop_sessions.ensures.others;
      disowns =
          let returned = c.from_residual-in_err-of_objects in
          disowns_then _ _ _ _ _ _ _ _ returned.result (ap (λ (v : ObjectsView). v.owners) c.drop_sessions.ensures.rest) c.in_ok-of_sessions.ensures.disowns
          (disowns_failed _ _ _ _ _ _ returned.result (err_from_is_err_and returned.result returned.ensures.1) c.in_err-of_objects.ensures.disowns);
      costs =
          let owner = ap (λ (v : ObjectsView). owner_at v.owners c.args.list) c.drop_sessions.ensures.rest ∙ c.requires.list in
          omega (
            arith,
            c.in_ok-of_sessions.ensures.costs,
            c.in_err-of_objects.ensures.costs c.args.client owner,
            ap (λ (v : ObjectsView). own_residents c.args.client v.items) c.drop_sessions.ensures.rest,
          );
    }

pub returns-clause-drops : goal.returns-clause-drops
returns-clause-drops g c =
    let disowns : Disowns {A = ℕ} g.D.Device.CONTEXTS g.D.Device.seen c.args.self.now.device c.drop_objects.new.self.device c.args.self.now.held
    (with_objects c.drop_objects.new.self.held c.end_client.new.self) (Ok _) =
    disowns_ended _ _ _ _ c.drop_objects.new.self.held c.end_client.new.self c.args.list _ _
    (disowns_then _ _ _ _ _ _ _ _ (Ok _) (ap (λ (v : ObjectsView). v.owners) c.drop_sessions.ensures.rest) c.in_ok-of_sessions.ensures.disowns
    c.in_ok-of_objects.ensures.disowns)
    c.end_client.ensures in
    record {
      ok =
          let client = c.args.client in
          let held = c.args.self.now.held in
          let between = c.drop_sessions.new.self.held in
          let new_held = c.drop_objects.new.self.held in
          let of_sessions = c.in_ok-of_sessions.of_sessions in
          let owner = ap (λ (v : ObjectsView). owner_at v.owners c.args.list) c.drop_sessions.ensures.rest ∙ c.requires.list in
          subst (λ (n : ℕ). Drops g.D.Device.CONTEXTS g.D.Device.seen client c.args.self.now.device c.drop_objects.new.self.device held
          (with_objects new_held c.end_client.new.self) (set held.objects.owners c.args.list None) (of_sessions + n))
          (sym c.from.ensures)
          (drops_ended _ client _ _ held new_held c.end_client.new.self c.args.list _
          (drops_then _ client _ c.drop_sessions.new.self.device _ held between new_held of_sessions _ c.in_ok-of_sessions.ensures.ok
          (c.in_ok-of_objects.ensures.ok client owner))
          c.end_client.ensures);
      none =
          let owner = ap (λ (v : ObjectsView). owner_at v.owners c.args.list) c.drop_sessions.ensures.rest ∙ c.requires.list in
          record {
            objects = subst (λ (l : List Item). HasNone l c.args.client) (sym (ap (λ (v : ObjectsView). v.items) c.end_client.ensures))
                (c.in_ok-of_objects.ensures.none c.args.client owner);
            sessions = search rules;
            left = λ few.
                ap (λ (v : SessionsView). v.left) c.drop_objects.ensures.rest.0
                ∙ saved_left c.in_ok-of_sessions.ensures.ok c.in_ok-of_sessions.ensures.none few;
            behind = leaves_them g.D.Device.CONTEXTS disowns.sent.sent _ _ disowns.sent.flushed;
          };
      others = subst (λ (v : SessionsView). KeepsOthers c.args.client c.args.self.now.held.sessions.items v.items) (sym c.drop_objects.ensures.rest.0)
          c.drop_sessions.ensures.others;
      disowns = disowns;
      costs =
          let owner = ap (λ (v : ObjectsView). owner_at v.owners c.args.list) c.drop_sessions.ensures.rest ∙ c.requires.list in
          omega (
            arith,
            c.in_ok-of_sessions.ensures.costs,
            c.in_ok-of_objects.ensures.costs c.args.client owner,
            ap (λ (v : ObjectsView). own_residents c.args.client v.items) c.drop_sessions.ensures.rest,
          );
    }

pub returns-in_err-of_objects-clause-steps : goal.returns-in_err-of_objects-clause-steps
returns-in_err-of_objects-clause-steps g c =
    let owner = ap (λ (v : ObjectsView). owner_at v.owners c.args.list) c.drop_sessions.ensures.rest ∙ c.requires.list in
    omega (
      arith,
      c.in_err-of_objects.ensures.steps c.args.client owner,
      ap (λ (v : ObjectsView). own_objects c.args.client v.items) c.drop_sessions.ensures.rest,
    )

pub returns-clause-steps : goal.returns-clause-steps
returns-clause-steps g c =
    let owner = ap (λ (v : ObjectsView). owner_at v.owners c.args.list) c.drop_sessions.ensures.rest ∙ c.requires.list in
    omega (
      arith,
      c.in_ok-of_objects.ensures.steps c.args.client owner,
      ap (λ (v : ObjectsView). own_objects c.args.client v.items) c.drop_sessions.ensures.rest,
    )
