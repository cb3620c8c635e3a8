use Rattle.std.proofs.Common.{◌≡◌, ◌∙◌, ◌++◌, ℕ, List, length, take, drop, ap, sym, subst, arith, rules}
use Rattle.std.specs.Prelude.{Option}
use Rattle.std.proofs.lemmas.List.{take_at}
use Rattle.std.proofs.lemmas.Result.{on_ok_weaker}
use Rattle.tab_spec.specs.Shape.{number_of_session}
use Rattle.device_port.specs.Device.{asked_of, last_of}
use Rattle.session_swap.specs.declared.record.Record.{Record}
use Rattle.session_swap.specs.Items.{AreKept, Item, Names, Renews, SessionsView, full_kept}
use Rattle.session_swap.specs.Moves.{IsOldestAt, RenewsAt}
use Rattle.session_swap.specs.Records.{IsSoundView, items_of, view_of}
use Rattle.session_swap.proofs.Listing.{sound_view}
use Rattle.session_swap.proofs.Making.{kept_lent, lent_in, made_for, moved_lent}
use Rattle.session_swap.proofs.Firsts.{oldest_at, saved_again}
use Rattle.session_swap.proofs.Renewed.{sent_named}
use Rattle.session_swap.proofs.sessions.Sessions.renew_by.Goals as goal

pub invariant_of-self : goal.invariant_of-self
invariant_of-self g c =
    let records = c.self.inside.records.items in
    let new = c.renew_session.new.records in
    let left = c.renew_session.ensures in
    let count : length new ≡ length records = left.ready.ready.sound.count ∙ sym c.self.invariant.sound.count in
    let whole : take c.self.inside.records.len (new ++ drop (length new) records) ≡ new =
    take_at new (drop (length new) records) c.self.inside.records.len (omega arith) in
    kept_lent c.self.inside.numbers records c.deref_mut.result.now new (take c.self.inside.records.len (new ++ drop (length new) records)) c.self.inside.order
    c.renew_session.new.order c.self.inside.left c.self.inside.held c.self.invariant (made_for c.self.view_is c.requires.may.made_for)
    c.deref_mut.ensures.value whole left.ready.ready.sound left.ready.listed
    left.swaps.sessions.holders

pub renew_session-requires-clause-ready : goal.renew_session-requires-clause-ready
renew_session-requires-clause-ready g c =
    lent_in c.self.inside.numbers (g.D.Device.seen c.args.device.now).state c.self.inside.records.items c.deref_mut.result.now c.self.inside.next c.self.inside.held
    c.self.inside.order c.self.inside.left c.args.self.now c.deref_mut.ensures.value c.self.invariant c.self.view_is c.requires.may.made_for c.requires.may.stand

pub renew_session-requires-clause-oldest : goal.renew_session-requires-clause-oldest
renew_session-requires-clause-oldest g c =
    let state = (g.D.Device.seen c.args.device.now).state in
    let view = c.args.self.now in
    let n = number_of_session c.args.handle in
    let before = ap (λ (l : List Record). items_of l) c.deref_mut.ensures.value ∙ ap (λ (v : SessionsView). v.items) c.self.view_is in
    let sound = subst (λ (v : SessionsView). IsSoundView v) c.self.view_is
    (sound_view c.self.inside.numbers c.self.inside.records.items c.self.inside.next c.self.inside.held c.self.inside.order c.self.inside.left c.self.invariant) in
    let is : IsOldestAt state view.items n = oldest_at state view c.args.handle sound c.requires.may.stand c.requires.oldest in
    subst (λ (l : List (Option Item)). IsOldestAt state l c.number_of.result) (sym before)
    (subst (λ (n : ℕ). IsOldestAt state view.items n) (sym c.number_of.ensures) is)

pub returns-clause-renews : goal.returns-clause-renews
returns-clause-renews g c = record {
  ok =
      let seen = g.D.Device.seen in
      let old = c.deref_mut.result.now in
      let records = c.self.inside.records.items in
      let new = c.renew_session.new.records in
      let device = c.renew_session.new.device in
      let handle = c.args.handle in
      let last = last_of (seen device) in
      let left = c.renew_session.ensures in
      let before = ap (λ (l : List Record). items_of l) c.deref_mut.ensures.value ∙ ap (λ (v : SessionsView). v.items) c.self.view_is in
      let names : Names (items_of old) handle = subst (λ (items : List (Option Item)). Names items handle) (sym before) c.requires.oldest.named in
      let count : length new ≡ length records = left.ready.ready.sound.count ∙ sym c.self.invariant.sound.count in
      let whole : take c.self.inside.records.len (new ++ drop (length new) records) ≡ new =
      take_at new (drop (length new) records) c.self.inside.records.len (omega arith) in
      let count_is = ap (λ (l : List Record). full_kept (view_of c.self.inside.numbers l c.self.inside.next)) c.deref_mut.ensures.value
      ∙ ap full_kept c.self.view_is in
      on_ok_weaker c.renew_session.result
      (λ at.
      let its = subst (λ (n : ℕ). RenewsAt g.D.Device.CONTEXTS (seen c.args.device.now) (seen device) (items_of old) (items_of new) n) c.number_of.ensures at.0 in
      let sent = sent_named (items_of old) (items_of new) handle (asked_of (seen device)) last names left.swaps.sessions.holders its.sent in (
        subst (λ (l : List Record). Renews g.D.Device.CONTEXTS (seen c.args.device.now) (seen device) handle c.args.self.now.items (items_of l)) (sym whole)
            (subst (λ (items : List (Option Item)). Renews g.D.Device.CONTEXTS (seen c.args.device.now) (seen device) handle items (items_of new)) before (record {
              renewed = its.renewed;
              fresh = its.fresh;
              asked = sent.0;
              context = sent.1;
              answered = its.answered;
              free = its.free;
              saved = its.saved;
              exact = its.exact;
            })),
        saved_again c.self.inside.numbers c.self.inside.order c.renew_session.new.order c.self.inside.left (items_of records)
            (items_of (take c.self.inside.records.len (new ++ drop (length new) records)))
            c.args.self.now _ c.renew_session.new.next c.self.inside.next c.number_of.result c.args.handle count_is c.self.view_is
            c.number_of.ensures at.1,
      )) left.ok;
  others =
      let records = c.self.inside.records.items in
      let old = items_of c.deref_mut.result.now in
      let new = c.renew_session.new.records in
      let n = number_of_session c.args.handle in
      let left = c.renew_session.ensures in
      let before = ap (λ (l : List Record). items_of l) c.deref_mut.ensures.value ∙ ap (λ (v : SessionsView). v.items) c.self.view_is in
      let count : length new ≡ length records = left.ready.ready.sound.count ∙ sym c.self.invariant.sound.count in
      let whole : take c.self.inside.records.len (new ++ drop (length new) records) ≡ new =
      take_at new (drop (length new) records) c.self.inside.records.len (omega arith) in
      subst (λ (l : List Record). AreKept n c.args.self.now.items (items_of l)) (sym whole)
      (subst (λ (l : List (Option Item)). AreKept n l (items_of new)) before
      (subst (λ (n : ℕ). AreKept n old (items_of new)) c.number_of.ensures left.kept.0));
  moved =
      let records = c.self.inside.records.items in
      let new = c.renew_session.new.records in
      let left = c.renew_session.ensures in
      let count : length new ≡ length records = left.ready.ready.sound.count ∙ sym c.self.invariant.sound.count in
      let whole : take c.self.inside.records.len (new ++ drop (length new) records) ≡ new =
      take_at new (drop (length new) records) c.self.inside.records.len (omega arith) in
      moved_lent c.self.inside.numbers g.D.Device.seen c.args.device.now c.renew_session.new.device records c.deref_mut.result.now new _ c.self.inside.next
      c.renew_session.new.next c.self.inside.order c.renew_session.new.order c.self.inside.left c.args.self.now c.deref_mut.ensures.value c.self.view_is whole
      left.swaps left.ready;
  counts =
      let seen = g.D.Device.seen in
      let kept = c.renew_session.ensures.kept in
      let count_is = ap (λ (l : List Record). full_kept (view_of c.self.inside.numbers l c.self.inside.next)) c.deref_mut.ensures.value
      ∙ ap full_kept c.self.view_is in record {
        room = kept.1.room;
        counter = kept.1.counter;
        counter_free = kept.1.counter_free;
        sent = omega (arith, kept.1.sent, count_is);
      };
  asks = search rules;
}

pub returns-clause-steps : goal.returns-clause-steps
returns-clause-steps g c =
    let count_is = ap (λ (l : List Record). full_kept (view_of c.self.inside.numbers l c.self.inside.next)) c.deref_mut.ensures.value
    ∙ ap full_kept c.self.view_is in
    omega (arith, c.renew_session.ensures.kept.2, count_is)
