use Rattle.std.proofs.Common.{[], Ok, Err, set, ap, arith, refl, rules, ◌∙◌}
use Rattle.std.specs.Prelude.{None}
use Rattle.std.specs.List.{count_by}
use Rattle.std.proofs.lemmas.Bool.{eqb-false}
use Rattle.std.proofs.lemmas.List.{get_or-set_other}
use Rattle.tab_spec.specs.Shape.{number_of_session}
use Rattle.device_port.specs.Use.{without_one}
use Rattle.session_swap.specs.Items.{SessionsView, disowned, is_owned, item_at}
use Rattle.session_swap.proofs.Among.{named_inside}
use Rattle.client_machine.proofs.Costs.{sent_one}
use Rattle.client_machine.proofs.Disowning.{owned_gone, owned_orphaned}
use Rattle.client_machine.proofs.DroppingSessions.{ended, none_left, one_left, orphaned}
use Rattle.client_machine.proofs.Keeping.{failed_cause}
use Rattle.client_machine.proofs.Leaving.{going}
use Rattle.client_machine.proofs.Settling.{gap_settled, sessions_settled}
use Rattle.client_machine.proofs.Tried.{tried_failed, tried_ok, tried_over, tried_wrong}
use Rattle.client_machine.proofs.machine.Machine.drop_session.Goals as goal

pub returns-in-Ok-clause-ok : goal.returns-in-Ok-clause-ok
returns-in-Ok-clause-ok g c =
    λ client dropped.
    let done = c.in-Ok.ensures in
    ended _ client _ _ c.args.self.now.held c.drop_session.new.self (number_of_session c.args.handle)
    (record {
      numbers = ap (λ (v : SessionsView). v.numbers) done.ok.view_is;
      items_are = ap (λ (v : SessionsView). v.items) done.ok.view_is;
      left_is = ap (λ (v : SessionsView). v.left) done.ok.view_is;
      sessions = done.ok.sessions;
      stand = done.stands.stand [] (sessions_settled _ _ c.requires.settled);
      room = done.counts.room (gap_settled _ _ c.requires.settled);
      counter = done.counts.counter;
      rest = done.stands.rest;
      answered = done.asks.answered;
      made_for = ap (λ (v : SessionsView). v.contexts) done.ok.view_is;
    })
    (going client c.args.self.now.held.sessions c.args.handle c.requires.named done.listed dropped) c.requires.settled

pub returns-in-Ok-clause-drops : goal.returns-in-Ok-clause-drops
returns-in-Ok-clause-drops g c =
    let items = c.args.self.now.held.sessions.items in
    let n = number_of_session c.args.handle in
    let done = c.in-Ok.ensures in
    record {
      gone = ap (λ (v : SessionsView). v.left) done.ok.view_is;
      count = λ client. omega (
        arith,
        ap (λ (v : SessionsView). count_by (is_owned client) v.items) done.ok.view_is,
        owned_gone items client n (named_inside items c.args.handle c.requires.named),
      );
      few = omega arith;
      rest = refl;
      others = λ number apart.
          ap (λ (v : SessionsView). item_at v.items number) done.ok.view_is
          ∙ get_or-set_other items n number None None (eqb-false number n apart);
    }

pub returns-in-Err-Failed-clause-ok : goal.returns-in-Err-Failed-clause-ok
returns-in-Err-Failed-clause-ok g c =
    λ client dropped.
    let failed = c.in-Err-Failed.ensures in
    let cause = failed_cause g.D.Device.CONTEXTS g.D.Device.seen _ c.in-Err-Failed.field-0-0 _ _ c.in-Err-Failed.field-0-is failed.asks.cause in
    let n = number_of_session c.args.handle in
    orphaned _ client _ _ c.args.self.now.held c.orphan_session.new.self c.args.handle
    (c.orphan_session.ensures
    ∙ ap (λ (v : SessionsView). record v { items = set v.items n (disowned (item_at v.items n)); left = without_one n v.left }) failed.err)
    failed.asks.err failed.stands.rest cause.0 cause.1 c.requires.named
    (going client c.args.self.now.held.sessions c.args.handle c.requires.named failed.listed dropped) c.requires.settled

pub returns-in-Err-Failed-clause-drops : goal.returns-in-Err-Failed-clause-drops
returns-in-Err-Failed-clause-drops g c =
    let items = c.args.self.now.held.sessions.items in
    let n = number_of_session c.args.handle in
    let failed = c.in-Err-Failed.ensures in
    record {
      gone = ap (λ (v : SessionsView). v.left) c.orphan_session.ensures ∙ ap (λ (v : SessionsView). without_one n v.left) failed.err;
      count = λ client. omega (
        arith,
        ap (λ (v : SessionsView). count_by (is_owned client) v.items) c.orphan_session.ensures,
        ap (λ (v : SessionsView). count_by (is_owned client) (set v.items n (disowned (item_at v.items n)))) failed.err,
        owned_orphaned items client n (named_inside items c.args.handle c.requires.named),
      );
      few = omega arith;
      rest = refl;
      others = λ number apart.
          ap (λ (v : SessionsView). item_at v.items number) c.orphan_session.ensures
          ∙ ap (λ (v : SessionsView). item_at (set v.items n (disowned (item_at v.items n))) number) failed.err
          ∙ get_or-set_other items n number (disowned (item_at items n)) None (eqb-false number n apart);
    }

pub returns-in-Ok-clause-costs : goal.returns-in-Ok-clause-costs
returns-in-Ok-clause-costs g c = sent_one g.D.Device.seen _ _ _ (Ok _) c.in-Ok.ensures.asks

pub returns-in-Err-Failed-clause-costs : goal.returns-in-Err-Failed-clause-costs
returns-in-Err-Failed-clause-costs g c = sent_one g.D.Device.seen _ _ _ (Err _) c.in-Err-Failed.ensures.asks

pub returns-in-Err-Answer-clause-costs : goal.returns-in-Err-Answer-clause-costs
returns-in-Err-Answer-clause-costs g c = sent_one g.D.Device.seen _ _ _ (Err _) c.in-Err-Answer.ensures.asks

pub returns-in-Ok-clause-disowns : goal.returns-in-Ok-clause-disowns
returns-in-Ok-clause-disowns g c = record {
  keeps = search rules;
  made_for = record { objects = refl; sessions = ap (λ (v : SessionsView). v.contexts) c.in-Ok.ensures.ok.view_is };
  slots = search rules;
  numbers = search rules;
  length_is = search rules;
  lists = tt;
  left = none_left _ _ c.args.self.now.held c.drop_session.new.self c.args.handle c.requires.named
      (ap (λ (v : SessionsView). v.items) c.in-Ok.ensures.ok.view_is) c.in-Ok.ensures.asks.count;
  err = tt;
  sent = tried_over (ap (λ (v : SessionsView). v.items) c.in-Ok.ensures.ok.view_is)
      (tried_ok g.D.Device.seen _ _ c.args.self.now.held.sessions.items c.args.handle tt c.requires.named c.in-Ok.ensures.asks);
}

pub returns-in-Err-Failed-clause-disowns : goal.returns-in-Err-Failed-clause-disowns
returns-in-Err-Failed-clause-disowns g c =
    let failed = c.in-Err-Failed.ensures in
    let n = number_of_session c.args.handle in
    let cause = failed_cause g.D.Device.CONTEXTS g.D.Device.seen _ c.in-Err-Failed.field-0-0 _ _ c.in-Err-Failed.field-0-is failed.asks.cause in
    record {
      keeps = search rules;
      made_for = record { objects = refl; sessions = ap (λ (v : SessionsView). v.contexts) c.orphan_session.ensures ∙ ap (λ (v : SessionsView). v.contexts) failed.err };
      slots = search rules;
      numbers = search rules;
      length_is = search rules;
      lists = tt;
      left = one_left _ _ c.args.self.now.held c.orphan_session.new.self c.args.handle c.requires.named
          (ap (λ (v : SessionsView). v.items) c.orphan_session.ensures
          ∙ ap (λ (v : SessionsView). set v.items n (disowned (item_at v.items n))) failed.err)
          cause.0;
      err = tt;
      sent = tried_over
          (ap (λ (v : SessionsView). v.items) c.orphan_session.ensures
          ∙ ap (λ (v : SessionsView). set v.items n (disowned (item_at v.items n))) failed.err)
          (tried_failed g.D.Device.seen _ _ c.args.self.now.held.sessions.items c.args.handle _ cause.1 failed.asks);
    }

pub returns-in-Err-Answer-clause-disowns : goal.returns-in-Err-Answer-clause-disowns
returns-in-Err-Answer-clause-disowns g c = record {
  keeps = search rules;
  made_for = record { objects = refl; sessions = ap (λ (v : SessionsView). v.contexts) c.in-Err-Answer.ensures.err };
  slots = search rules;
  numbers = search rules;
  length_is = search rules;
  lists = search rules;
  left = search rules;
  err = search rules;
  sent = tried_over (ap (λ (v : SessionsView). v.items) c.in-Err-Answer.ensures.err)
      (tried_wrong g.D.Device.seen _ _ c.args.self.now.held.sessions.items c.args.handle _ c.in-Err-Answer.ensures.asks);
}
