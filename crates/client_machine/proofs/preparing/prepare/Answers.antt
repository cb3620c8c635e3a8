use Rattle.std.proofs.Common.{◌≡◌, inl, true, false, ap, sym, ◌∙◌, subst, arith, rules, ℕ, List, Ok}
use Rattle.std.specs.Prelude.{IfSome}
use Rattle.std.proofs.lemmas.Result.{err_from_is_err_and}
use Rattle.tab_spec.specs.declared.contexts.ContextLimits.{ContextLimits}
use Rattle.tab_spec.specs.Shape.{needs_slot}
use Rattle.client_laws.specs.Ready.{named_sessions, sent_for}
use Rattle.object_swap.specs.Items as objects
use Rattle.object_swap.specs.Items.{ObjectsView, is_resident, item_at}
use Rattle.session_swap.specs.Items.{AreLoaded, IsNarrow, SessionsView}
use Rattle.device_port.proofs.Sending.{asks_then, some_failed}
use Rattle.client_machine.specs.declared.held.Held.{Held}
use Rattle.client_machine.specs.Moves.{NeedsNoSession, first_handle, named_objects, slots_of}
use Rattle.client_machine.specs.Tables.{tables_seen}
use Rattle.client_machine.proofs.Before.{before_then, ready_failed}
use Rattle.client_machine.proofs.Bringing.{command_placed, command_shape, free_for, handle_written, named_kept, placed_resident, room_kept}
use Rattle.client_laws.proofs.NameSessions.{named_none, named_own}
use Rattle.client_machine.proofs.Orphans.{prepares_more, prepares_then}
use Rattle.client_machine.proofs.Prepared.{may_then}
use Rattle.client_machine.proofs.PreparedSessions.{sessions_named}
use Rattle.client_machine.proofs.Staying.{prepared_stays}
use Rattle.client_machine.proofs.Costs.{sent_none}
use Rattle.client_machine.proofs.Moving.{moved_from, objects_moved_from, sent_more, session_moves, sessions_moved_from, slots_are, used_from}
use Rattle.client_machine.proofs.Settling.{gap_over_objects, narrow_over_objects}
use Rattle.client_machine.proofs.preparing.prepare.Goals as goal

pub returns-in_err-renew-clause-prepared : goal.returns-in_err-renew-clause-prepared
returns-in_err-renew-clause-prepared g c = prepares_more g.D.Device.seen _ _ _ _ (omega arith) c.renew.ensures.prepared

pub returns-in_err-renew-clause-sends : goal.returns-in_err-renew-clause-sends
returns-in_err-renew-clause-sends g c =
    let seen = g.D.Device.seen in
    let failed = err_from_is_err_and c.from_residual.result c.from_residual.ensures.1 in
    ready_failed seen _ _ _ _ c.from_residual.result failed (some_failed g.D.Device.CONTEXTS seen _ _ _ c.from_residual.result failed c.in_err-renew.ensures.sends.asks)

pub load_sessions-requires-clause-may : goal.load_sessions-requires-clause-may
load_sessions-requires-clause-may g c =
    may_then g.D.Device.seen 65 1000 2000 c.args.device.now _ c.args.held.now _ (omega arith) c.requires.may c.renew.ensures.prepared

pub load_sessions-requires-clause-named : goal.load_sessions-requires-clause-named
load_sessions-requires-clause-named g c =
    let client = c.requires.admitted.0 in
    let items = c.args.held.now.sessions.items in
    sessions_named client (named_sessions c.args.admitted.now) items _ c.renew.ensures.prepared.session_owners
    (named_own (tables_seen g.D.Device.CONTEXTS client c.args.table.now.items items) c.args.bytes.now c.args.admitted.now c.requires.admitted.2)

pub load_sessions-requires-clause-starts : goal.load_sessions-requires-clause-starts
load_sessions-requires-clause-starts g c =
    let tables = tables_seen g.D.Device.CONTEXTS c.requires.admitted.0 c.args.table.now.items c.args.held.now.sessions.items in
    named_none tables c.args.bytes.now c.args.admitted.now c.requires.admitted.2

pub returns-in_err-load_sessions-clause-prepared : goal.returns-in_err-load_sessions-clause-prepared
returns-in_err-load_sessions-clause-prepared g c =
    prepares_then g.D.Device.seen _ c.renew.new.device _ _ c.renew.new.held _ (omega arith) c.renew.ensures.prepared c.load_sessions.ensures.prepared

pub returns-in_err-load_sessions-clause-sends : goal.returns-in_err-load_sessions-clause-sends
returns-in_err-load_sessions-clause-sends g c =
    let seen = g.D.Device.seen in
    let returned = c.from_residual-in_err-load_sessions in
    let failed = err_from_is_err_and returned.result returned.ensures.1 in
    ready_failed seen _ _ _ _ returned.result failed
    (asks_then g.D.Device.CONTEXTS seen _ c.renew.new.device _ tt returned.result c.in_ok-renew.ensures.sends.asks
    (some_failed g.D.Device.CONTEXTS seen c.renew.new.device _ _ returned.result failed c.in_err-load_sessions.ensures.asks))

pub bring-requires-clause-named : goal.bring-requires-clause-named
bring-requires-clause-named g c =
    named_kept c.requires.admitted.0 c.args.held.now.objects.items c.load_sessions.new.held.objects.items c.args.table.now.items
    (first_handle c.args.admitted.now) c.item_of-named.result c.item_of-named.ensures c.requires.admitted.1
    (prepares_then {most = 68} g.D.Device.seen c.args.device.now c.renew.new.device c.load_sessions.new.device c.args.held.now c.renew.new.held
    c.load_sessions.new.held (omega arith) c.renew.ensures.prepared c.load_sessions.ensures.prepared).owners

pub bring-requires-clause-may : goal.bring-requires-clause-may
bring-requires-clause-may g c =
    let seen = g.D.Device.seen in
    may_then seen 68 1000 2000 c.args.device.now _ c.args.held.now _ (omega arith) c.requires.may
    (prepares_then seen _ c.renew.new.device _ _ c.renew.new.held _ (omega arith) c.renew.ensures.prepared c.load_sessions.ensures.prepared)

pub bring-requires-clause-nobodys : goal.bring-requires-clause-nobodys
bring-requires-clause-nobodys g c = omega (arith, c.in_ok-renew.ensures.clear.nobodys, c.load_sessions.ensures.prepared.orphans)

pub returns-in_err-bring-clause-prepared : goal.returns-in_err-bring-clause-prepared
returns-in_err-bring-clause-prepared g c =
    let seen = g.D.Device.seen in
    prepares_then {n = 68} seen _ c.load_sessions.new.device _ _ c.load_sessions.new.held _ (omega arith)
    (prepares_then seen _ c.renew.new.device _ _ c.renew.new.held _ (omega arith) c.renew.ensures.prepared c.load_sessions.ensures.prepared)
    c.bring.ensures.prepared

pub returns-in_err-bring-clause-sends : goal.returns-in_err-bring-clause-sends
returns-in_err-bring-clause-sends g c =
    let seen = g.D.Device.seen in
    let returned = c.from_residual-in_err-bring in
    let failed = err_from_is_err_and returned.result returned.ensures.1 in
    ready_failed seen _ _ _ _ returned.result failed
    (asks_then g.D.Device.CONTEXTS seen _ c.load_sessions.new.device _ tt returned.result
    (asks_then g.D.Device.CONTEXTS seen _ c.renew.new.device _ tt (Ok tt) c.in_ok-renew.ensures.sends.asks c.in_ok-load_sessions.ensures.asks)
    (some_failed g.D.Device.CONTEXTS seen c.load_sessions.new.device _ _ returned.result failed c.in_err-bring.ensures.asks))

pub with_handles-requires : goal.with_handles-requires
with_handles-requires g c =
    let tables = tables_seen g.D.Device.CONTEXTS c.requires.admitted.0 c.args.table.now.items c.args.held.now.sessions.items in
    command_shape tables c.args.bytes.now c.args.admitted.now c.requires.admitted.2

pub returns-clause-prepared : goal.returns-clause-prepared
returns-clause-prepared g c =
    let seen = g.D.Device.seen in
    prepares_then {n = 68} seen _ c.load_sessions.new.device _ _ c.load_sessions.new.held _ (omega arith)
    (prepares_then seen _ c.renew.new.device _ _ c.renew.new.held _ (omega arith) c.renew.ensures.prepared c.load_sessions.ensures.prepared)
    c.bring.ensures.prepared

pub returns-clause-sends : goal.returns-clause-sends
returns-clause-sends g c =
    let seen = g.D.Device.seen in
    let renewed = c.in_ok-renew.ensures.sends in
    let loaded = c.in_ok-load_sessions.ensures.asks in
    let brought = c.in_ok-bring.ensures.asks in
    record {
      asks = asks_then g.D.Device.CONTEXTS seen _ c.load_sessions.new.device _ tt (Ok tt) (asks_then g.D.Device.CONTEXTS seen _ c.renew.new.device _ tt (Ok tt) renewed.asks loaded) brought;
      before = before_then seen _ _ c.load_sessions.new.device _ tt (before_then seen _ _ c.renew.new.device _ tt renewed.before loaded) brought;
    }

pub returns-clause-ready : goal.returns-clause-ready
returns-clause-ready g c =
    let seen = g.D.Device.seen in
    let loaded = (seen c.load_sessions.new.device).state in
    let state = (seen c.bring.new.device).state in
    let a = c.args.admitted.now in
    let ready = c.in_ok-load_sessions.ensures.ok.0 in
    let rest = c.bring.ensures.rest.0 in
    let sessions_are = c.bring.ensures.rest.1 in
    record {
      nobodys = omega (arith, c.in_ok-renew.ensures.clear.nobodys, c.load_sessions.ensures.prepared.orphans, c.bring.ensures.prepared.orphans);
      gap = gap_over_objects loaded state rest c.in_ok-load_sessions.ensures.ok.1;
      narrow = λ none starts_none.
          let all : AreLoaded (named_sessions a) c.renew.new.held.sessions.items =
          subst (λ (l : List ℕ). AreLoaded l c.renew.new.held.sessions.items) (sym none) tt in
          let still = c.load_sessions.ensures.still (inl (starts_none, all)) in
          narrow_over_objects loaded state rest
          (subst (λ d. IsNarrow (seen d).state) (sym still) c.in_ok-renew.ensures.clear.narrow);
      placed = command_placed _ c.requires.admitted.0 c.args.held.now.sessions.items c.args.table.now.items c.bring.new.held.objects.items c.args.bytes.now
          a c.item_of-named.result c.requires.admitted.2 c.item_of-named.ensures c.in_ok-bring.ensures.ok.0;
      sessions = record {
        loaded = subst (λ (v : SessionsView). AreLoaded (named_sessions a) v.items) (sym sessions_are) ready.loaded;
        room = λ starts.
            room_kept loaded state c.load_sessions.new.held.sessions c.bring.new.held.sessions rest sessions_are (ready.room starts);
      };
      free = λ makes.
          let is : c.needs_slot.result ≡ true = c.needs_slot.ensures ∙ ap (λ (read : ContextLimits). needs_slot read a.shape c.args.bytes.now) c.CONTEXTS.ensures ∙ makes in
          let one : c.from-new_slots.result ≡ 1 = rw is at c.from-new_slots.ensures in
          (free_for state c.from-new_slots.result (omega arith) c.in_ok-bring.ensures.ok.1, omega (arith, one, c.in_ok-bring.ensures.ok.2));
      written = c.with_handles.ensures
          ∙ ap (λ (handle : ℕ). sent_for c.args.bytes.now a handle)
          (c.device_handle-handle.ensures
          ∙ handle_written c.args.table.now.items c.bring.new.held.objects.items (first_handle a) c.item_of-named.result c.item_of-named.ensures);
    }

pub returns-clause-still : goal.returns-clause-still
returns-clause-still g c = λ hand.
    let held = c.args.held.now in
    let renewed = c.renew.ensures.still hand.nobodys hand.narrow in
    let loaded = c.load_sessions.ensures.still
    (subst (λ (h : Held). NeedsNoSession h.sessions c.args.admitted.now) (sym renewed.1) (inl (hand.starts_none, hand.loaded))) in
    let objects_are : c.load_sessions.new.held.objects ≡ held.objects = c.load_sessions.ensures.rest ∙ ap (λ (h : Held). h.objects) renewed.1 in
    let none : c.needs_slot.result ≡ false = c.needs_slot.ensures
    ∙ ap (λ (read : ContextLimits). needs_slot read c.args.admitted.now.shape c.args.bytes.now) c.CONTEXTS.ensures ∙ hand.makes_none in
    let zero : c.from-new_slots.result ≡ 0 = rw none at c.from-new_slots.ensures in
    let here : IfSome c.item_of-named.result (λ item. is_resident (item_at held.objects.items item) ≡ true) =
    placed_resident c.args.table.now.items held.objects.items (first_handle c.args.admitted.now) c.item_of-named.result c.item_of-named.ensures hand.placed in
    let brought =
    c.bring.ensures.still zero
    (subst (λ (v : ObjectsView). IfSome c.item_of-named.result (λ item. is_resident (item_at v.items item) ≡ true)) (sym objects_are) here) in
    brought ∙ loaded ∙ renewed.0

pub returns-in_err-load_sessions-clause-costs : goal.returns-in_err-load_sessions-clause-costs
returns-in_err-load_sessions-clause-costs g c =
    let loads = c.load_sessions.ensures.costs in
    omega (arith, c.renew.ensures.costs, loads.sent, loads.most)

pub returns-in_err-bring-clause-costs : goal.returns-in_err-bring-clause-costs
returns-in_err-bring-clause-costs g c =
    let loads = c.load_sessions.ensures.costs in
    let brings = c.bring.ensures.costs in
    omega (arith, c.renew.ensures.costs, loads.sent, loads.most, brings.sent, brings.most)

pub returns-clause-costs : goal.returns-clause-costs
returns-clause-costs g c =
    let loads = c.load_sessions.ensures.costs in
    let brings = c.bring.ensures.costs in
    omega (arith, c.renew.ensures.costs, loads.sent, loads.most, brings.sent, brings.most)

pub returns-clause-stays : goal.returns-clause-stays
returns-clause-stays g c = λ narrow.
    prepared_stays c.args.held.now c.renew.new.held c.load_sessions.new.held c.bring.new.held 1 (search rules) (c.renew.ensures.stays narrow)
    c.in_ok-load_sessions.ensures.costs.stays c.load_sessions.ensures.rest c.load_sessions.ensures.prepared.gone
    c.in_ok-bring.ensures.costs.stays c.bring.ensures.rest.1 c.bring.ensures.prepared.gone

-- ---- where there are no orphans, and no renewal is due

pub returns-in_err-renew-clause-few : goal.returns-in_err-renew-clause-few
returns-in_err-renew-clause-few g c = λ calm. sent_none g.D.Device.seen _ _ _ (c.renew.ensures.still calm.nobodys calm.narrow).0

pub returns-in_err-load_sessions-clause-few : goal.returns-in_err-load_sessions-clause-few
returns-in_err-load_sessions-clause-few g c = λ calm.
    let a = c.args.admitted.now in
    let held = c.args.held.now in
    sent_more g.D.Device.seen (session_moves a held.sessions)
    (objects.moves_of (named_objects c.args.table.now.items a) (slots_of g.D.Device.CONTEXTS a c.args.bytes.now) held.objects) _ _
    (sessions_moved_from g.D.Device.seen c.args.device.now c.renew.new.device c.load_sessions.new.device held c.renew.new.held a
    (c.renew.ensures.still calm.nobodys calm.narrow) c.load_sessions.ensures.costs.sent)

pub returns-in_err-bring-clause-few : goal.returns-in_err-bring-clause-few
returns-in_err-bring-clause-few g c = λ calm.
    let seen = g.D.Device.seen in
    let a = c.args.admitted.now in
    let bytes = c.args.bytes.now in
    let table = c.args.table.now.items in
    let held = c.args.held.now in
    let still = c.renew.ensures.still calm.nobodys calm.narrow in
    moved_from g.D.Device.CONTEXTS seen c.args.device.now c.load_sessions.new.device c.bring.new.device held table a bytes
    (sessions_moved_from seen c.args.device.now c.renew.new.device c.load_sessions.new.device held c.renew.new.held a still
    c.load_sessions.ensures.costs.sent)
    (objects_moved_from g.D.Device.CONTEXTS seen c.load_sessions.new.device c.bring.new.device held c.renew.new.held c.load_sessions.new.held table a bytes
    c.item_of-named.result c.from-new_slots.result still.1 c.load_sessions.ensures.rest c.item_of-named.ensures
    (slots_are g.D.Device.CONTEXTS a bytes c.needs_slot.result c.from-new_slots.result c.from-new_slots.ensures
    (c.needs_slot.ensures ∙ ap (λ (read : ContextLimits). needs_slot read a.shape bytes) c.CONTEXTS.ensures)) c.bring.ensures.costs.sent)

pub returns-clause-few : goal.returns-clause-few
returns-clause-few g c = λ calm.
    let seen = g.D.Device.seen in
    let a = c.args.admitted.now in
    let bytes = c.args.bytes.now in
    let table = c.args.table.now.items in
    let held = c.args.held.now in
    let still = c.renew.ensures.still calm.nobodys calm.narrow in
    moved_from g.D.Device.CONTEXTS seen c.args.device.now c.load_sessions.new.device c.bring.new.device held table a bytes
    (sessions_moved_from seen c.args.device.now c.renew.new.device c.load_sessions.new.device held c.renew.new.held a still
    c.load_sessions.ensures.costs.sent)
    (objects_moved_from g.D.Device.CONTEXTS seen c.load_sessions.new.device c.bring.new.device held c.renew.new.held c.load_sessions.new.held table a bytes
    c.item_of-named.result c.from-new_slots.result still.1 c.load_sessions.ensures.rest c.item_of-named.ensures
    (slots_are g.D.Device.CONTEXTS a bytes c.needs_slot.result c.from-new_slots.result c.from-new_slots.ensures
    (c.needs_slot.ensures ∙ ap (λ (read : ContextLimits). needs_slot read a.shape bytes) c.CONTEXTS.ensures)) c.bring.ensures.costs.sent)

pub returns-clause-used : goal.returns-clause-used
returns-clause-used g c = λ calm.
    let a = c.args.admitted.now in
    let bytes = c.args.bytes.now in
    let still = c.renew.ensures.still calm.nobodys calm.narrow in
    used_from c.args.held.now c.renew.new.held c.load_sessions.new.held c.bring.new.held c.args.table.now.items a bytes c.item_of-named.result
    c.from-new_slots.result still.1 c.load_sessions.ensures.rest c.bring.ensures.rest.1 c.item_of-named.ensures
    (slots_are g.D.Device.CONTEXTS a bytes c.needs_slot.result c.from-new_slots.result c.from-new_slots.ensures
    (c.needs_slot.ensures ∙ ap (λ (read : ContextLimits). needs_slot read a.shape bytes) c.CONTEXTS.ensures))
    c.in_ok-load_sessions.ensures.costs.order c.in_ok-bring.ensures.costs.order
