use Rattle.std.proofs.Common.{◌≡◌, ◌∙◌, ◌++◌, true, List, length, take, drop, ap, sym, subst, arith}
use Rattle.std.specs.Prelude.{Option}
use Rattle.std.proofs.lemmas.List.{take_at}
use Rattle.std.proofs.lemmas.Result.{on_ok_weaker}
use Rattle.tab_spec.specs.declared.contexts.ContextLimits.{ContextLimits}
use Rattle.session_swap.specs.declared.record.Record.{Record}
use Rattle.session_swap.specs.Items.{AreNeeded, HavePlaces, Item, MakesRoom, SessionsView, is_loaded_item, item_of}
use Rattle.session_swap.specs.Records.{items_of, view_with, whole_view}
use Rattle.session_swap.proofs.Bringing.{room_whole}
use Rattle.session_swap.proofs.Making.{gap_below, kept_lent, lent_in, made_for, moved_lent}
use Rattle.session_swap.proofs.sessions.Sessions.make_sessions.Goals as goal

pub invariant_of-self : goal.invariant_of-self
invariant_of-self g c =
    let records = c.self.inside.records.items in
    let new = c.swap_sessions.new.records in
    let left = c.swap_sessions.ensures in
    let count : length new ≡ length records = left.ready.ready.sound.count ∙ sym c.self.invariant.sound.count in
    let whole : take c.self.inside.records.len (new ++ drop (length new) records) ≡ new =
    take_at new (drop (length new) records) c.self.inside.records.len (omega arith) in
    kept_lent c.self.inside.numbers records c.deref_mut.result.now new (take c.self.inside.records.len (new ++ drop (length new) records)) c.self.inside.order
    c.swap_sessions.new.order c.self.inside.left c.self.inside.held c.self.invariant (made_for c.self.view_is c.requires.contexts)
    c.deref_mut.ensures.value whole left.ready.ready.sound left.ready.listed
    left.swaps.swaps.sessions.holders

pub swap_sessions-requires-clause-needed : goal.swap_sessions-requires-clause-needed
swap_sessions-requires-clause-needed g c =
    let same = ap (λ (l : List Record). items_of l) c.deref_mut.ensures.value ∙ ap (λ (v : SessionsView). v.items) c.self.view_is in
    subst (λ (items : List (Option Item)). AreNeeded c.args.needed.now c.args.new_places items) (sym same) c.requires.needed

pub swap_sessions-requires-clause-ready : goal.swap_sessions-requires-clause-ready
swap_sessions-requires-clause-ready g c =
    lent_in c.self.inside.numbers (g.D.Device.seen c.args.device.now).state c.self.inside.records.items c.deref_mut.result.now c.self.inside.next c.self.inside.held
    c.self.inside.order c.self.inside.left c.args.self.now c.deref_mut.ensures.value c.self.invariant c.self.view_is c.requires.contexts c.requires.stand

pub returns-clause-ok : goal.returns-clause-ok
returns-clause-ok g c =
    let records = c.self.inside.records.items in
    let new = c.swap_sessions.new.records in
    let left = c.swap_sessions.ensures in
    let count : length new ≡ length records = left.ready.ready.sound.count ∙ sym c.self.invariant.sound.count in
    let whole : take c.self.inside.records.len (new ++ drop (length new) records) ≡ new =
    take_at new (drop (length new) records) c.self.inside.records.len (omega arith) in
    on_ok_weaker c.swap_sessions.result
    (λ ok.
    subst (λ (l : List Record). HavePlaces c.args.needed.now c.args.new_places (g.D.Device.seen c.swap_sessions.new.device).state
    (whole_view c.self.inside.numbers l c.swap_sessions.new.next c.swap_sessions.new.order c.self.inside.left c.self.inside.contexts))
    (sym whole) (record { loaded = ok.loaded; few = ok.few; free = ok.free })) left.ok

pub returns-clause-stay : goal.returns-clause-stay
returns-clause-stay g c handle any is =
    let records = c.self.inside.records.items in
    let new = c.swap_sessions.new.records in
    let left = c.swap_sessions.ensures in
    let old = c.deref_mut.ensures.value in
    let count : length new ≡ length records = left.ready.ready.sound.count ∙ sym c.self.invariant.sound.count in
    let whole : take c.self.inside.records.len (new ++ drop (length new) records) ≡ new =
    take_at new (drop (length new) records) c.self.inside.records.len (omega arith) in
    let was : is_loaded_item (item_of (items_of c.deref_mut.result.now) handle) ≡ true =
    ap (λ (l : List Record). is_loaded_item (item_of (items_of l) handle)) old
    ∙ ap (λ (v : SessionsView). is_loaded_item (item_of v.items handle)) c.self.view_is ∙ is in
    ap (λ (l : List Record). item_of (items_of l) handle) whole ∙ left.swaps.stay handle any was
    ∙ ap (λ (l : List Record). item_of (items_of l) handle) old ∙ ap (λ (v : SessionsView). item_of v.items handle) c.self.view_is

pub returns-clause-room : goal.returns-clause-room
returns-clause-room g c =
    let seen = g.D.Device.seen in
    let old = c.args.device.now in
    let device = c.swap_sessions.new.device in
    let records = c.self.inside.records.items in
    let new = c.swap_sessions.new.records in
    let next = c.swap_sessions.new.next in
    let new_order = c.swap_sessions.new.order in
    let left = c.swap_sessions.ensures in
    let result = c.swap_sessions.result in
    let count : length new ≡ length records = left.ready.ready.sound.count ∙ sym c.self.invariant.sound.count in
    let whole : take c.self.inside.records.len (new ++ drop (length new) records) ≡ new =
    take_at new (drop (length new) records) c.self.inside.records.len (omega arith) in
    let gone = c.self.inside.left in
    let numbers = c.self.inside.numbers in
    let contexts = c.self.inside.contexts in
    let lent = whole_view numbers c.deref_mut.result.now c.self.inside.next c.self.inside.order gone contexts in
    let same = ap (λ (l : List Record). whole_view numbers l c.self.inside.next c.self.inside.order gone contexts) c.deref_mut.ensures.value
    ∙ c.self.view_is in
    subst
    (λ (l : List Record). MakesRoom seen old device c.args.needed.now c.args.new_places c.args.self.now (whole_view numbers l next new_order gone contexts) result)
    (sym whole)
    (subst
    (λ (v : SessionsView). MakesRoom seen old device c.args.needed.now c.args.new_places v (whole_view numbers new next new_order gone contexts) result)
    same
    (room_whole seen old device c.args.needed.now c.args.new_places lent (whole_view numbers new next new_order gone contexts) result
    (subst (λ (made : ContextLimits). MakesRoom seen old device c.args.needed.now c.args.new_places
    (view_with numbers c.deref_mut.result.now c.self.inside.next c.self.inside.order made)
    (view_with numbers new next new_order made) result) (sym (made_for c.self.view_is c.requires.contexts)) left.room)))

pub returns-clause-moved : goal.returns-clause-moved
returns-clause-moved g c =
    let seen = g.D.Device.seen in
    let old = c.args.device.now in
    let device = c.swap_sessions.new.device in
    let records = c.self.inside.records.items in
    let new = c.swap_sessions.new.records in
    let left = c.swap_sessions.ensures in
    let count : length new ≡ length records = left.ready.ready.sound.count ∙ sym c.self.invariant.sound.count in
    let whole : take c.self.inside.records.len (new ++ drop (length new) records) ≡ new =
    take_at new (drop (length new) records) c.self.inside.records.len (omega arith) in (
      moved_lent c.self.inside.numbers seen old device records c.deref_mut.result.now new _ c.self.inside.next c.swap_sessions.new.next c.self.inside.order
          c.swap_sessions.new.order c.self.inside.left c.args.self.now c.deref_mut.ensures.value c.self.view_is whole left.swaps.swaps left.ready,
      gap_below (seen old).state (seen device).state c.args.self.now c.requires.stand c.requires.may.0 left.swaps.swaps.rest left.swaps.swaps.gap left.swaps.counter,
      left.swaps.counter,
    )
