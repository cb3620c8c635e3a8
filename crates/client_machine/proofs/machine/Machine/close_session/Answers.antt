use Rattle.std.proofs.Common.{◌+◌, ◌≤◌, inl, inr, ℕ, Ok, length, refl, ap, sym, subst, ◌∙◌, arith}
use Rattle.std.specs.List.{count_by}
use Rattle.std.proofs.lemmas.Result.{on_ok_weaker}
use Rattle.tab_spec.specs.Shape.{number_of_session}
use Rattle.tab_spec.specs.Numbers.{leave_limit}
use Rattle.session_swap.specs.Items.{SessionsView, is_left, is_owned, item_at, left_behind}
use Rattle.session_swap.proofs.Among.{named_is}
use Rattle.session_swap.proofs.Counts.{flag_false, flag_true}
use Rattle.client_machine.specs.Dropping.{KeepsOthers}
use Rattle.client_machine.proofs.Disowning.{behind_owned, others_but, others_but_left, others_set, others_then, own_at}
use Rattle.client_machine.proofs.Dropping.{disowns_none, drops_none}
use Rattle.client_machine.proofs.DroppingSessions.{behind_settled, disowns_behind, drops_passed, leaves_dropped, leaves_then, with_sessions}
use Rattle.client_machine.proofs.Leaving.{leaving, left_unowned, saved_owner}
use Rattle.client_machine.proofs.machine.Machine.close_session.Goals as goal

-- ---- one that is in use

pub returns-then-is_in_use-clause-ok : goal.returns-then-is_in_use-clause-ok
returns-then-is_in_use-clause-ok g c =
    drops_passed _ g.D.Device.seen c.args.client c.args.handle _ _ c.args.self.now.held c.drop_session.new.self.held c.drop_session.result
    (inl (c.requires.least.own, sym c.is_in_use.ensures ∙ c.if-is_in_use.true)) c.drop_session.ensures.ok

pub returns-then-is_in_use-clause-closes : goal.returns-then-is_in_use-clause-closes
returns-then-is_in_use-clause-closes g c =
    let client = c.args.client in
    let items = c.args.self.now.held.sessions.items in
    let n = number_of_session c.args.handle in
    let dropped = c.drop_session.ensures.drops in
    let own = (own_at items client c.args.handle c.requires.least.named c.requires.least.own).own in
    record {
      count = on_ok_weaker c.drop_session.result (λ count. omega (arith, count client, flag_true (is_owned client (item_at items n)) own)) dropped.count;
      few = dropped.few;
      rest = dropped.rest;
      others = others_but items c.drop_session.new.self.held.sessions.items client n own dropped.others;
    }

-- ---- one that was saved

pub leave-requires : goal.leave-requires
leave-requires g c = record {
  saved = saved_owner c.args.client _ c.requires.least.own (sym c.is_in_use.ensures ∙ c.if-is_in_use.false);
}

pub drop_session-requires-in-Some-clause-slots : goal.drop_session-requires-in-Some-clause-slots
drop_session-requires-in-Some-clause-slots g c = c.requires.slots ∙ sym (ap (λ (v : SessionsView). v.numbers.slots) c.leave.ensures.left)

pub drop_session-requires-in-Some-clause-settled : goal.drop_session-requires-in-Some-clause-settled
drop_session-requires-in-Some-clause-settled g c =
    behind_settled _ c.args.self.now.held c.leave.new.self c.args.handle c.leave.ensures.left c.requires.settled c.requires.least.named

pub returns-in-Some-clause-ok : goal.returns-in-Some-clause-ok
returns-in-Some-clause-ok g c =
    let seen = g.D.Device.seen in
    let client = c.args.client in
    let held = c.args.self.now.held in
    let view = c.leave.new.self in
    let first = c.in-Some.ensures.first in
    let is = leaving client held.sessions c.args.handle c.requires.least (sym c.is_in_use.ensures ∙ c.if-is_in_use.false) in
    leaves_dropped _ seen client _ _ held view c.drop_session-in-Some.new.self.held (number_of_session c.args.handle) (number_of_session c.in-Some.first)
    c.drop_session-in-Some.result c.leave.ensures.left is c.requires.settled first.1.place_is c.drop_session-in-Some.ensures.drops.gone
    (drops_passed _ seen client c.in-Some.first _ _ (with_sessions held view) c.drop_session-in-Some.new.self.held c.drop_session-in-Some.result
    (inr (first.0, first.1.place_is)) c.drop_session-in-Some.ensures.ok)

pub returns-in-Some-clause-closes : goal.returns-in-Some-clause-closes
returns-in-Some-clause-closes g c =
    let client = c.args.client in
    let items = c.args.self.now.held.sessions.items in
    let view = c.leave.new.self in
    let new_items = c.drop_session-in-Some.new.self.held.sessions.items in
    let n = number_of_session c.args.handle in
    let first = number_of_session c.in-Some.first in
    let dropped = c.drop_session-in-Some.ensures.drops in
    let own = own_at items client c.args.handle c.requires.least.named c.requires.least.own in
    let found = c.in-Some.ensures.first.1 in
    let left = ap is_left (sym (named_is view.items c.in-Some.first found.named)) ∙ found.left in
    record {
      count = on_ok_weaker c.drop_session-in-Some.result
          (λ count. omega (
            arith,
            count client,
            flag_false (is_owned client (item_at view.items first)) (left_unowned client (item_at view.items first) left),
            ap (λ (v : SessionsView). count_by (is_owned client) v.items) c.leave.ensures.left,
            behind_owned items client n own,
          ))
          dropped.count;
      few = dropped.few;
      rest = dropped.rest;
      others = others_then client items view.items new_items
          (subst (λ (l : _). KeepsOthers client items l) (sym (ap (λ (v : SessionsView). v.items) c.leave.ensures.left))
          (others_set items client n (left_behind (item_at items n)) own.own))
          (others_but_left view.items new_items client first left dropped.others);
    }

pub returns-in-Some-clause-disowns : goal.returns-in-Some-clause-disowns
returns-in-Some-clause-disowns g c =
    let held = c.args.self.now.held in
    disowns_behind g.D.Device.seen c.args.client _ _ held c.leave.new.self c.drop_session-in-Some.new.self.held (number_of_session c.args.handle)
    c.drop_session-in-Some.result c.leave.ensures.left
    (leaving c.args.client held.sessions c.args.handle c.requires.least (sym c.is_in_use.ensures ∙ c.if-is_in_use.false))
    c.drop_session-in-Some.ensures.disowns

-- ---- and no more are left than may be

pub returns-in-None-clause-ok : goal.returns-in-None-clause-ok
returns-in-None-clause-ok g c =
    let seen = g.D.Device.seen in
    let client = c.args.client in
    let held = c.args.self.now.held in
    let view = c.leave.new.self in
    let active = ap (λ (v : SessionsView). v.numbers.active) c.leave.ensures.left in
    leaves_then seen client _ _ held view (with_sessions held view) (number_of_session c.args.handle) 0 c.leave.ensures.left
    (leaving client held.sessions c.args.handle c.requires.least (sym c.is_in_use.ensures ∙ c.if-is_in_use.false))
    c.requires.settled (λ few. subst (λ (n : ℕ). length view.left ≤ leave_limit n) active c.in-None.ensures.first)
    (drops_none seen client _ (with_sessions held view)
    (behind_settled _ held view c.args.handle c.leave.ensures.left c.requires.settled c.requires.least.named))

pub returns-in-None-clause-closes : goal.returns-in-None-clause-closes
returns-in-None-clause-closes g c =
    let client = c.args.client in
    let items = c.args.self.now.held.sessions.items in
    let n = number_of_session c.args.handle in
    let own = own_at items client c.args.handle c.requires.least.named c.requires.least.own in
    record {
      count = ap (λ (v : SessionsView). count_by (is_owned client) v.items + 1) c.leave.ensures.left ∙ behind_owned items client n own;
      few = omega arith;
      rest = refl;
      others = subst (λ (l : _). KeepsOthers client items l) (sym (ap (λ (v : SessionsView). v.items) c.leave.ensures.left))
          (others_set items client n (left_behind (item_at items n)) own.own);
    }

pub returns-in-None-clause-disowns : goal.returns-in-None-clause-disowns
returns-in-None-clause-disowns g c =
    let seen = g.D.Device.seen in
    let held = c.args.self.now.held in
    let view = c.leave.new.self in
    disowns_behind seen c.args.client _ _ held view (with_sessions held view) (number_of_session c.args.handle) (Ok 0) c.leave.ensures.left
    (leaving c.args.client held.sessions c.args.handle c.requires.least (sym c.is_in_use.ensures ∙ c.if-is_in_use.false))
    (disowns_none seen _ (with_sessions held view) 0)
