use Rattle.std.proofs.Common.{◌≡◌, ℕ, true, false, [], inr, refl, ap, sym, ◌∙◌, arith, rules}
use Rattle.std.proofs.lemmas.Bool.{false≢true}
use Rattle.std.specs.Prelude.{Err, Ok, Option, is_some, not}
use Rattle.std.proofs.lemmas.Result.{err_from_is_err_and}
use Rattle.tab_spec.specs.Shape.{number_of_session}
use Rattle.object_swap.specs.Items.{ObjectsView, handle_in, item_at}
use Rattle.session_swap.specs.Items.{SessionsView}
use Rattle.session_swap.proofs.Among.{named_inside}
use Rattle.device_port.proofs.Sending.{asks_some, asks_then, cause_then}
use Rattle.world_spec.specs.World.{ClientState, without_named}
use Rattle.client_machine.specs.Settled.{orphan_count}
use Rattle.client_machine.proofs.Before.{fails_asking}
use Rattle.client_machine.proofs.Dropping.{dropped, drops_object, held_named, table_after}
use Rattle.client_machine.proofs.DroppingSessions.{forgets}
use Rattle.client_machine.proofs.Flushing.{leaves_after, moves_after, not_transient, object_leaves, object_sent, object_unsent, none_without_object, none_without_session, transient}
use Rattle.client_machine.proofs.FlushingSessions.{may_flush_session, owned_stays, owner_again, owner_named, owner_unleft, session_leaves, session_owners}
use Rattle.client_machine.proofs.Keeping.{rightly}
use Rattle.client_machine.proofs.Orphans.{prepares_failed, prepares_same, prepares_then}
use Rattle.client_machine.proofs.Staying.{loses_object, loses_session, loses_then}
use Rattle.client_machine.proofs.Costs.{one_most, sent_slot}
use Rattle.client_machine.proofs.Ran.{prepares_stays, prepares_table, serves_failed}
use Rattle.client_machine.proofs.Settling.{gap_settled, keeps_over_objects, keeps_over_sessions, objects_settled, sessions_settled}
use Rattle.client_machine.proofs.machine.Machine.flush.Goals as goal

-- what failed before anything of the client's was flushed
pub returns-in_err-flush_orphans-clause-serves : goal.returns-in_err-flush_orphans-clause-serves
returns-in_err-flush_orphans-clause-serves g c = λ client may.
    let returned = c.from_residual in
    serves_failed client c.args.table.now.items returned.result (err_from_is_err_and returned.result returned.ensures.1) (omega arith)
    c.flush_orphans.ensures.clears.prepared may.own_table c.in_err-flush_orphans.ensures.asks.cause
    (omega (arith, c.flush_orphans.ensures.costs)) (fails_asking g.D.Device.seen _ _ _ c.in_err-flush_orphans.ensures.asks)

pub returns-in_err-flush_orphans-2-clause-serves : goal.returns-in_err-flush_orphans-2-clause-serves
returns-in_err-flush_orphans-2-clause-serves g c = λ client may.
    let returned = c.from_residual-in_err-flush_orphans-2 in
    serves_failed client c.args.table.now.items returned.result (err_from_is_err_and returned.result returned.ensures.1) (omega arith)
    c.flush_orphans-2.ensures.clears.prepared may.own_table c.in_err-flush_orphans-2.ensures.asks.cause
    (omega (arith, c.flush_orphans-2.ensures.costs)) (fails_asking g.D.Device.seen _ _ _ c.in_err-flush_orphans-2.ensures.asks)

-- a session of the client's whose flush failed
pub returns-in_err-drop_session-clause-serves : goal.returns-in_err-drop_session-clause-serves
returns-in_err-drop_session-clause-serves g c = λ client may.
    let seen = g.D.Device.seen in
    let between = c.flush_orphans.new.held in
    let before = c.flush_orphans.ensures.clears.prepared in
    let failed = c.in_err-drop_session.ensures in
    let returned = c.from_residual-in_err-drop_session in
    serves_failed {most = 0} client c.args.table.now.items returned.result (err_from_is_err_and returned.result returned.ensures.1) (omega arith)
    (prepares_then seen _ c.flush_orphans.new.device _ _ between _ (omega arith) before
    (prepares_failed seen c.flush_orphans.new.device _ between _ (keeps_over_sessions _ _ _ failed.stands.rest) failed.asks.err
    (ap (λ (v : SessionsView). record { objects = between.objects; sessions = v }) failed.err) before.settled))
    may.own_table
    (cause_then g.D.Device.CONTEXTS seen _ c.flush_orphans.new.device _ _ c.in_ok-flush_orphans.ensures.asks.count failed.asks.cause)
    (omega (arith, c.flush_orphans.ensures.costs, failed.asks.once))
    (fails_asking seen _ _ _
    (asks_then g.D.Device.CONTEXTS seen _ c.flush_orphans.new.device _ tt (Err _) c.in_ok-flush_orphans.ensures.asks (asks_some g.D.Device.CONTEXTS seen _ _ _ (Err _) failed.asks)))

-- a session of the client's that was flushed
pub returns-then-octet_of-ne-HT_TRANSIENT-clause-serves : goal.returns-then-octet_of-ne-HT_TRANSIENT-clause-serves
returns-then-octet_of-ne-HT_TRANSIENT-clause-serves g c = λ client may.
    let seen = g.D.Device.seen in
    let handle = c.args.handle in
    let n = number_of_session handle in
    let held = c.args.self.now.held in
    let between = c.flush_orphans.new.held in
    let before = c.flush_orphans.ensures.clears in
    let settled = before.prepared.settled in
    let done = c.in_ok-drop_session.ensures in
    let plain = not_transient c.octet_of.result handle c.octet_of.ensures c.if-octet_of-ne-HT_TRANSIENT.true in
    let own = may_flush_session client handle c.args.table.now.items held.sessions.items may.there plain in
    let same = before.sessions n (owned_stays client handle held.sessions.items own) in
    let still = owner_again client handle held.sessions.items between.sessions.items own same in
    record {
      moves = moves_after seen client _ c.flush_orphans.new.device _ _ between _ _ before.prepared
          (forgets g.D.Device.CONTEXTS _ client _ _ between c.drop_session.new.self n
          (record {
            numbers = ap (λ (v : SessionsView). v.numbers) done.ok.view_is;
            items_are = ap (λ (v : SessionsView). v.items) done.ok.view_is;
            left_is = ap (λ (v : SessionsView). v.left) done.ok.view_is;
            sessions = done.ok.sessions;
            stand = done.stands.stand [] (sessions_settled (seen c.flush_orphans.new.device).state between settled);
            room = done.counts.room (gap_settled (seen c.flush_orphans.new.device).state between settled);
            counter = done.counts.counter;
            rest = done.stands.rest;
            answered = done.asks.answered;
            made_for = ap (λ (v : SessionsView). v.contexts) done.ok.view_is;
          })
          (named_inside between.sessions.items handle (owner_named client handle between.sessions.items still))
          (owned_stays client handle between.sessions.items still) settled)
          (prepares_table client c.args.table.now.items before.prepared may.own_table);
      right = rightly g.D.Device.CONTEXTS seen _ _ (inr done.asks.answered);
      stays = tt;
      costs = omega (arith, c.flush_orphans.ensures.costs, done.asks.once);
      cause = tt;
      fails = tt;
    }

pub returns-then-octet_of-ne-HT_TRANSIENT-clause-flushes : goal.returns-then-octet_of-ne-HT_TRANSIENT-clause-flushes
returns-then-octet_of-ne-HT_TRANSIENT-clause-flushes g c =
    let handle = c.args.handle in
    let items = c.args.self.now.held.sessions.items in
    let between = c.flush_orphans.new.held.sessions in
    let before = c.flush_orphans.ensures.clears in
    let plain = not_transient c.octet_of.result handle c.octet_of.ensures c.if-octet_of-ne-HT_TRANSIENT.true in
    let items_are = ap (λ (v : SessionsView). v.items) c.in_ok-drop_session.ensures.ok.view_is in
    let left_is = ap (λ (v : SessionsView). v.left) c.in_ok-drop_session.ensures.ok.view_is in
    let client = c.requires.there.0 in
    let own = may_flush_session client handle c.args.table.now.items items c.requires.there.1.there plain in
    let still = owner_again client handle items between.items own (before.sessions (number_of_session handle) (owned_stays client handle items own)) in
    record {
      sent_is = search rules;
      nobodys = λ sent. none_without_session c.flush_orphans.new.held c.drop_session.new.self (number_of_session c.args.handle) items_are
          c.in_ok-flush_orphans.ensures.none;
      table_is = search rules;
      owners = session_owners c.args.self.now.held.sessions.items c.flush_orphans.new.held.sessions.items c.drop_session.new.self.items c.args.handle
          c.flush_orphans.ensures.clears.prepared.session_owners items_are plain;
      left = left_is ∙ owner_unleft client handle between.items between.left c.in_ok-drop_session.ensures.listed still ∙ before.prepared.left;
      loses = loses_then _ c.flush_orphans.new.held _ c.flush_orphans.ensures.clears.loses
          (loses_session c.flush_orphans.new.held c.drop_session.new.self (number_of_session c.args.handle) items_are);
    }

pub returns-then-octet_of-ne-HT_TRANSIENT-clause-left : goal.returns-then-octet_of-ne-HT_TRANSIENT-clause-left
returns-then-octet_of-ne-HT_TRANSIENT-clause-left g c = λ client may.
    let before = c.flush_orphans.ensures.clears.prepared in
    let done = c.in_ok-drop_session.ensures in
    let held = c.args.self.now.held in
    let between = c.flush_orphans.new.held in
    let table = c.args.table.now.items in
    let handle = c.args.handle in
    let plain = not_transient c.octet_of.result handle c.octet_of.ensures c.if-octet_of-ne-HT_TRANSIENT.true in
    let own = may_flush_session client handle table held.sessions.items may.there plain in
    let still = owner_again client handle held.sessions.items between.sessions.items own
    (c.flush_orphans.ensures.clears.sessions (number_of_session handle) (owned_stays client handle held.sessions.items own)) in
    leaves_after g.D.Device.seen (λ (s : ClientState). without_named s c.args.handle) c.args.self.now.device c.flush_orphans.new.device
    c.drop_session.new.device held between (record { objects = between.objects; sessions = c.drop_session.new.self }) table table
    before.keeps.tells (prepares_stays client table before may.own_table)
    (session_leaves g.D.Device.seen _ _ between c.drop_session.new.self
    table c.args.handle done.ok.sessions (ap (λ (v : SessionsView). v.numbers) done.ok.view_is) (ap (λ (v : SessionsView). v.items) done.ok.view_is)
    (ap (λ (v : SessionsView). v.left) done.ok.view_is
    ∙ owner_unleft client handle between.sessions.items between.sessions.left done.listed still)
    done.stands.rest plain)

-- an object of the client's that is in no slot
pub returns-then-is_none-clause-serves : goal.returns-then-is_none-clause-serves
returns-then-is_none-clause-serves g c = λ client may.
    let held = c.args.self.now.held in
    let done = c.in_ok-drop_object.ensures in
    let settled = c.requires.may.settled in
    let here = sym c.find.ensures ∙ c.unwrap-item.ensures in
    record {
      moves = moves_after g.D.Device.seen client _ c.args.self.now.device _ _ held _ _
          (prepares_same g.D.Device.seen c.args.self.now.device held settled)
          (drops_object _ client _ _ held c.drop_object.new.self
          (dropped {contexts = g.D.Device.CONTEXTS} _ client _ _ held c.drop_object.new.self c.unwrap-item.result
          (record {
            items_are = done.ok.0.items;
            objects = done.ok.0.objects;
            stand = done.dropped.stand held.objects.left (objects_settled (g.D.Device.seen c.args.self.now.device).state held settled);
            counter = done.dropped.counter;
            rest = done.dropped.rest;
            taken = done.asks.answered;
            slots = done.dropped.slots;
            owners = done.dropped.owners;
            left = done.dropped.left;
            made_for = done.dropped.contexts;
          })
          (held_named held.objects.items client c.args.table.now.items c.args.handle c.unwrap-item.result may.own_table here) settled))
          (table_after held.objects.items c.drop_object.new.self.items client c.args.table.now.items c.remove.new.self.items c.args.handle
          c.unwrap-item.result may.own_table here done.ok.0.items c.remove.ensures.items);
      right = rightly g.D.Device.CONTEXTS g.D.Device.seen _ _ done.asks.answered;
      stays = tt;
      costs = omega (
        arith,
        sent_slot _ g.D.Device.seen (item_at held.objects.items c.unwrap-item.result).slot tt _ _ (Ok tt) done.sent,
        one_most (is_some (handle_in (item_at held.objects.items c.unwrap-item.result).slot)),
      );
      cause = tt;
      fails = tt;
    }

pub returns-then-is_none-clause-left : goal.returns-then-is_none-clause-left
returns-then-is_none-clause-left g c = λ client may.
    let done = c.in_ok-drop_object.ensures in
    let here = sym c.find.ensures ∙ c.unwrap-item.ensures in
    object_leaves g.D.Device.seen client _ _ c.args.self.now.held c.drop_object.new.self
    c.args.table.now.items c.remove.new.self.items c.args.handle c.unwrap-item.result done.ok.0.objects done.ok.0.items done.dropped.rest
    c.requires.may.settled may.own_table here
    (transient c.octet_of.result c.args.handle c.octet_of.ensures c.if-octet_of-ne-HT_TRANSIENT.false) c.remove.ensures.items

pub drop_object-requires-clause-stand : goal.drop_object-requires-clause-stand
drop_object-requires-clause-stand g c = (c.args.self.now.held.objects.left, objects_settled _ _ c.requires.may.settled)

pub returns-then-is_none-clause-flushes : goal.returns-then-is_none-clause-flushes
returns-then-is_none-clause-flushes g c =
    let held = c.args.self.now.held in
    let item = c.unwrap-item.result in
    let done = c.in_ok-drop_object.ensures in
    let out : is_some (handle_in (item_at held.objects.items item).slot) ≡ false =
    ap (λ (slot : Option ℕ). is_some slot) (sym c.slot_of.ensures) ∙ c.is_none.ensures ∙ ap not c.if-is_none.true in
    let unsent = object_unsent _ _ _ g.D.Device.seen (orphan_count held) c.args.table.now.items held.objects.items c.args.handle item _ c.drop_object.new.device
    (transient c.octet_of.result c.args.handle c.octet_of.ensures c.if-octet_of-ne-HT_TRANSIENT.false) (sym c.find.ensures ∙ c.unwrap-item.ensures) out done.sent in
    record {
      sent_is = unsent.0;
      nobodys = λ sent. absurd (false≢true (sym unsent.1 ∙ sent));
      table_is = search rules;
      owners = search rules;
      left = refl;
      loses = loses_object held c.drop_object.new.self item done.ok.0.items;
    }

-- one that is in a slot
pub drop_object-requires-2-clause-stand : goal.drop_object-requires-2-clause-stand
drop_object-requires-2-clause-stand g c =
    (c.flush_orphans-2.new.held.objects.left, objects_settled _ _ c.flush_orphans-2.ensures.clears.prepared.settled)

pub drop_object-requires-2-clause-named : goal.drop_object-requires-2-clause-named
drop_object-requires-2-clause-named g c =
    let may = c.requires.there in
    let is = prepares_table may.0 c.args.table.now.items c.flush_orphans-2.ensures.clears.prepared may.1.own_table in
    (held_named c.flush_orphans-2.new.held.objects.items may.0 c.args.table.now.items c.args.handle c.unwrap-item.result is
    (sym c.find.ensures ∙ c.unwrap-item.ensures)).names

pub returns-in_err-drop_object-2-clause-serves : goal.returns-in_err-drop_object-2-clause-serves
returns-in_err-drop_object-2-clause-serves g c = λ client may.
    let seen = g.D.Device.seen in
    let between = c.flush_orphans-2.new.held in
    let before = c.flush_orphans-2.ensures.clears.prepared in
    let failed = c.in_err-drop_object-2.ensures in
    let returned = c.from_residual-in_err-drop_object-2 in
    serves_failed {most = 0} client c.args.table.now.items returned.result (err_from_is_err_and returned.result returned.ensures.1) (omega arith)
    (prepares_then seen _ c.flush_orphans-2.new.device _ _ between _ (omega arith) before
    (prepares_failed seen c.flush_orphans-2.new.device _ between _ (keeps_over_objects _ _ _ failed.dropped.rest) failed.err.1
    (ap (λ (v : ObjectsView). record { objects = v; sessions = between.sessions }) failed.err.0) before.settled))
    may.own_table (cause_then g.D.Device.CONTEXTS seen _ c.flush_orphans-2.new.device _ _ c.in_ok-flush_orphans-2.ensures.asks.count failed.asks.cause)
    (omega (
      arith,
      c.flush_orphans-2.ensures.costs,
      sent_slot _ seen (item_at between.objects.items c.unwrap-item.result).slot tt _ _ (Err _) failed.sent,
      one_most (is_some (handle_in (item_at between.objects.items c.unwrap-item.result).slot)),
    ))
    (fails_asking seen _ _ _ (asks_then g.D.Device.CONTEXTS seen _ c.flush_orphans-2.new.device _ tt (Err _) c.in_ok-flush_orphans-2.ensures.asks failed.asks))

pub returns-clause-serves : goal.returns-clause-serves
returns-clause-serves g c = λ client may.
    let seen = g.D.Device.seen in
    let between = c.flush_orphans-2.new.held in
    let before = c.flush_orphans-2.ensures.clears.prepared in
    let done = c.in_ok-drop_object-2.ensures in
    let here = sym c.find.ensures ∙ c.unwrap-item.ensures in
    let is = prepares_table client c.args.table.now.items before may.own_table in
    record {
      moves = moves_after seen client _ c.flush_orphans-2.new.device _ _ between _ _ before
          (drops_object _ client _ _ between c.drop_object-2.new.self
          (dropped {contexts = g.D.Device.CONTEXTS} _ client _ _ between c.drop_object-2.new.self c.unwrap-item.result
          (record {
            items_are = done.ok.0.items;
            objects = done.ok.0.objects;
            stand = done.dropped.stand between.objects.left (objects_settled (seen c.flush_orphans-2.new.device).state between before.settled);
            counter = done.dropped.counter;
            rest = done.dropped.rest;
            taken = done.asks.answered;
            slots = done.dropped.slots;
            owners = done.dropped.owners;
            left = done.dropped.left;
            made_for = done.dropped.contexts;
          })
          (held_named between.objects.items client c.args.table.now.items c.args.handle c.unwrap-item.result is here) before.settled))
          (table_after between.objects.items c.drop_object-2.new.self.items client c.args.table.now.items c.remove-2.new.self.items c.args.handle
          c.unwrap-item.result is here done.ok.0.items c.remove-2.ensures.items);
      right = rightly g.D.Device.CONTEXTS seen _ _ (asks_then g.D.Device.CONTEXTS seen _ c.flush_orphans-2.new.device _ tt (Ok tt) c.in_ok-flush_orphans-2.ensures.asks done.asks).answered;
      stays = tt;
      costs = omega (
        arith,
        c.flush_orphans-2.ensures.costs,
        sent_slot _ seen (item_at between.objects.items c.unwrap-item.result).slot tt _ _ (Ok tt) done.sent,
        one_most (is_some (handle_in (item_at between.objects.items c.unwrap-item.result).slot)),
      );
      cause = tt;
      fails = tt;
    }

pub returns-clause-flushes : goal.returns-clause-flushes
returns-clause-flushes g c =
    let items = c.args.self.now.held.objects.items in
    let item = c.unwrap-item.result in
    let done = c.in_ok-drop_object-2.ensures in
    let here = sym c.find.ensures ∙ c.unwrap-item.ensures in
    let there : is_some (handle_in (item_at items item).slot) ≡ true =
    ap (λ (slot : Option ℕ). is_some slot) (sym c.slot_of.ensures) ∙ c.is_none.ensures ∙ ap not c.if-is_none.false in
    record {
      sent_is = object_sent _ g.D.Device.seen (orphan_count c.args.self.now.held) c.args.table.now.items items
          c.flush_orphans-2.new.held.objects.items
          c.args.handle item c.args.self.now.device c.flush_orphans-2.new.device c.drop_object-2.new.device
          (transient c.octet_of.result c.args.handle c.octet_of.ensures c.if-octet_of-ne-HT_TRANSIENT.false) here there
          (ap (λ (v : ObjectsView). item_at v.items item) c.flush_orphans-2.ensures.clears.objects) c.in_ok-flush_orphans-2.ensures.flushed
          (λ none. (c.flush_orphans-2.ensures.clears.still none).0) done.sent;
      nobodys = λ sent. none_without_object c.flush_orphans-2.new.held c.drop_object-2.new.self done.dropped.left c.in_ok-flush_orphans-2.ensures.none;
      table_is = search rules;
      owners = search rules;
      left = c.flush_orphans-2.ensures.clears.prepared.left;
      loses = loses_then _ c.flush_orphans-2.new.held _ c.flush_orphans-2.ensures.clears.loses
          (loses_object c.flush_orphans-2.new.held c.drop_object-2.new.self item done.ok.0.items);
    }

pub returns-clause-left : goal.returns-clause-left
returns-clause-left g c = λ client may.
    let before = c.flush_orphans-2.ensures.clears.prepared in
    let done = c.in_ok-drop_object-2.ensures in
    let held = c.args.self.now.held in
    let between = c.flush_orphans-2.new.held in
    let table = c.args.table.now.items in
    let here = sym c.find.ensures ∙ c.unwrap-item.ensures in
    leaves_after g.D.Device.seen (λ (s : ClientState). without_named s c.args.handle) c.args.self.now.device c.flush_orphans-2.new.device
    c.drop_object-2.new.device held between (record { objects = c.drop_object-2.new.self; sessions = between.sessions }) table
    c.remove-2.new.self.items before.keeps.tells (prepares_stays client table before may.own_table)
    (object_leaves g.D.Device.seen client _ _ between c.drop_object-2.new.self
    table c.remove-2.new.self.items c.args.handle c.unwrap-item.result done.ok.0.objects done.ok.0.items done.dropped.rest before.settled
    (prepares_table client table before may.own_table) here
    (transient c.octet_of.result c.args.handle c.octet_of.ensures c.if-octet_of-ne-HT_TRANSIENT.false) c.remove-2.ensures.items)

-- ---- what they cost

pub returns-in_err-flush_orphans-clause-costs : goal.returns-in_err-flush_orphans-clause-costs
returns-in_err-flush_orphans-clause-costs g c = omega (arith, c.flush_orphans.ensures.costs)

pub returns-in_err-flush_orphans-2-clause-costs : goal.returns-in_err-flush_orphans-2-clause-costs
returns-in_err-flush_orphans-2-clause-costs g c = omega (arith, c.flush_orphans-2.ensures.costs)

pub returns-in_err-drop_session-clause-costs : goal.returns-in_err-drop_session-clause-costs
returns-in_err-drop_session-clause-costs g c = omega (arith, c.flush_orphans.ensures.costs, c.in_err-drop_session.ensures.asks.once)

pub returns-then-octet_of-ne-HT_TRANSIENT-clause-costs : goal.returns-then-octet_of-ne-HT_TRANSIENT-clause-costs
returns-then-octet_of-ne-HT_TRANSIENT-clause-costs g c = omega (arith, c.flush_orphans.ensures.costs, c.in_ok-drop_session.ensures.asks.once)

pub returns-in_err-drop_object-2-clause-costs : goal.returns-in_err-drop_object-2-clause-costs
returns-in_err-drop_object-2-clause-costs g c =
    let slot = (item_at c.flush_orphans-2.new.held.objects.items c.unwrap-item.result).slot in
    omega (
      arith,
      c.flush_orphans-2.ensures.costs,
      sent_slot _ g.D.Device.seen slot tt _ _ (Err _) c.in_err-drop_object-2.ensures.sent,
      one_most (is_some (handle_in slot)),
    )

pub returns-clause-costs : goal.returns-clause-costs
returns-clause-costs g c =
    let slot = (item_at c.flush_orphans-2.new.held.objects.items c.unwrap-item.result).slot in
    omega (
      arith,
      c.flush_orphans-2.ensures.costs,
      sent_slot _ g.D.Device.seen slot tt _ _ (Ok tt) c.in_ok-drop_object-2.ensures.sent,
      one_most (is_some (handle_in slot)),
    )
