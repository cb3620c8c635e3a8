use Rattle.std.proofs.Common.{◌≡◌, ◌≤◌, ◌∙◌, ◌++◌, ◌∷◌, [], true, ℕ, List, length, take, drop, set, ap, sym, subst, arith, refl}
use Rattle.std.specs.Prelude.{Option, is_some}
use Rattle.std.specs.List.{count_by}
use Rattle.std.proofs.lemmas.List.{take_at}
use Rattle.std.proofs.lemmas.Result.{on_ok_weaker}
use Rattle.tab_spec.specs.Shape.{number_of_session}
use Rattle.tab_spec.specs.declared.TheConstants.{HEADER_BYTES}
use Rattle.tab_spec.specs.declared.contexts.ContextLimits.{ContextLimits}
use Rattle.device_port.specs.Use.{without_one}
use Rattle.session_swap.specs.declared.record.Record.{Record}
use Rattle.session_swap.specs.Items.{Item, ListsThose, MayHandOut, SavesTold, SessionsView, has_owner, is_held, is_left, is_loaded_item, is_saved_item, item_at, saved_by_client}
use Rattle.session_swap.specs.Records.{AreListed, AreRecords, ListsIn, OrderView, items_of, view_of, whole_view}
use Rattle.session_swap.specs.Moves.{RiseIn}
use Rattle.session_swap.proofs.Asking.{on_ok_both}
use Rattle.session_swap.proofs.Bringing.{saved_apart}
use Rattle.session_swap.proofs.Among.{loaded_whole}
use Rattle.session_swap.proofs.Listing.{listed_once, listed_saved, lists_same, on_err_both, on_err_weaker}
use Rattle.session_swap.proofs.Owners.{Handed, count_unchanged, held_saved, left_saved, owner_whole, rise_handed, rise_kept, some_saved}
use Rattle.session_swap.proofs.Making.{either_way, made_for, ready_lent}
use Rattle.session_swap.proofs.Moved.{stand_alike}
use Rattle.session_swap.proofs.sessions.Sessions.client_save.Goals as goal

pub save_for_client-saved-requires-clause-may : goal.save_for_client-saved-requires-clause-may
save_for_client-saved-requires-clause-may g c =
    let same = ap (λ (l : List Record). items_of l) c.deref_mut.ensures.value ∙ ap (λ (v : SessionsView). v.items) c.self.view_is in
    subst (λ (items : List (Option Item)). MayHandOut (g.D.Device.seen c.args.device.now).state c.args.handle items) (sym same) c.requires.may

pub save_for_client-saved-requires-clause-ready : goal.save_for_client-saved-requires-clause-ready
save_for_client-saved-requires-clause-ready g c = (
  c.self.inside.numbers,
  c.requires.stand.0,
  ready_lent c.self.inside.numbers (g.D.Device.seen c.args.device.now).state c.self.inside.records.items c.deref_mut.result.now c.self.inside.next
      c.self.inside.order c.self.inside.left c.args.self.now c.requires.stand.0 c.deref_mut.ensures.value c.self.invariant.sound c.self.view_is
      c.requires.contexts c.requires.stand.1,
)

pub list_saved-requires : goal.list_saved-requires
list_saved-requires g c =
    let view = c.args.self.now in
    let items = items_of c.self.inside.records.items in
    let there : is_loaded_item (item_at items c.number_of.result) ≡ true =
    ap (λ (v : SessionsView). is_loaded_item (item_at v.items c.number_of.result)) c.self.view_is
    ∙ ap (λ (n : ℕ). is_loaded_item (item_at view.items n)) c.number_of.ensures
    ∙ loaded_whole c.args.handle (item_at view.items (number_of_session c.args.handle)) c.requires.may.loaded in
    listed_once is_loaded_item refl items c.self.inside.order.loaded c.number_of.result c.self.invariant.listed.lists there

pub invariant_of-self : goal.invariant_of-self
invariant_of-self g c =
    let records = c.self.inside.records.items in
    let out = c.save_for_client-saved in
    let left = out.new in
    let new = left.records in
    let same = c.deref_mut.ensures.value in
    let order = c.self.inside.order in
    let ready = ready_lent c.self.inside.numbers (g.D.Device.seen c.args.device.now).state records c.deref_mut.result.now c.self.inside.next order
    c.self.inside.left c.args.self.now c.requires.stand.0 c.deref_mut.ensures.value c.self.invariant.sound c.self.view_is c.requires.contexts
    c.requires.stand.1 in
    let sound = (out.ensures.ready c.self.inside.numbers c.requires.stand.0 ready).sound in
    let count : length new ≡ length records = sound.count ∙ sym c.self.invariant.sound.count in
    let whole : take c.self.inside.records.len (new ++ drop (length new) records) ≡ new =
    take_at new (drop (length new) records) c.self.inside.records.len (omega arith) in
    let told = c.list_saved.ensures in
    let lent = c.deref_mut.result.now in
    let number = c.number_of.result in
    let n = number_of_session c.args.handle in
    let bytes = drop HEADER_BYTES left.reply in
    let listed = subst (λ (l : List Record). ListsIn c.self.inside.numbers l order) (sym same) c.self.invariant.listed in
    let held = c.self.invariant.held_is ∙ ap (λ (l : List Record). count_by is_held (items_of l)) (sym same) in
    let gone = subst (λ (l : List Record). ListsThose is_left c.self.inside.left (items_of l)) (sym same) c.self.invariant.left_are in
    let owned : has_owner (item_at (items_of lent) n) ≡ true =
    ap (λ (l : List Record). has_owner (item_at (items_of l) n)) same
    ∙ ap (λ (v : SessionsView). has_owner (item_at v.items n)) c.self.view_is
    ∙ owner_whole c.args.self.now.items c.args.handle c.requires.may.owned in
    let item = saved_by_client bytes (item_at (items_of lent) n) in
    let few = ap (λ (l : List Record). count_by is_some (items_of l)) same in
    let there : is_loaded_item (item_at (items_of lent) number) ≡ true =
    ap (λ (l : List Record). is_loaded_item (item_at (items_of l) number)) same
    ∙ ap (λ (v : SessionsView). is_loaded_item (item_at v.items number)) c.self.view_is
    ∙ ap (λ (k : ℕ). is_loaded_item (item_at c.args.self.now.items k)) c.number_of.ensures
    ∙ loaded_whole c.args.handle (item_at c.args.self.now.items n) c.requires.may.loaded in
    subst
    (λ (l : List Record). AreListed c.self.inside.contexts c.self.inside.numbers l c.list_saved.new.order c.self.inside.left c.self.inside.held)
    (sym whole) (record {
      sound = subst (λ (contexts : ContextLimits). AreRecords contexts new) (sym (made_for c.self.view_is c.requires.contexts)) sound;
      listed = listed_saved out.result lent new order c.list_saved.new.order number listed there
          (on_ok_weaker out.result
          (λ saves. saved_apart (items_of lent) (items_of new) number c.args.handle bytes c.number_of.ensures there
          (ap (λ (v : SessionsView). v.items) (saves.0 c.self.inside.numbers).view_is)) out.ensures.ok)
          (on_err_weaker out.result (λ stays. stays.0) out.ensures.err) told.ok told.err;
      left_are = either_way out.result _ _ (ListsThose is_left c.self.inside.left (items_of new)) out.ensures.ok out.ensures.err
          (λ saves.
          subst (λ (v : SessionsView). ListsThose is_left c.self.inside.left v.items) (sym (saves.0 c.self.inside.numbers).view_is)
          (lists_same is_left refl (items_of lent) c.self.inside.left n item gone (left_saved bytes (item_at (items_of lent) n) owned)))
          (λ stays. subst (λ (l : List (Option Item)). ListsThose is_left c.self.inside.left l) (sym stays.0) gone);
      held_is = either_way out.result _ _ (c.self.inside.held ≡ count_by is_held (items_of new)) out.ensures.ok out.ensures.err
          (λ saves.
          held ∙ sym (count_unchanged is_held (items_of lent) n item (held_saved bytes (item_at (items_of lent) n) owned))
          ∙ ap (λ (v : SessionsView). count_by is_held v.items) (sym (saves.0 c.self.inside.numbers).view_is))
          (λ stays. held ∙ ap (count_by is_held) (sym stays.0));
      few = either_way out.result _ _ (count_by is_some (items_of new) ≤ c.self.inside.numbers.active) out.ensures.ok out.ensures.err
          (λ saves.
          omega (
            arith,
            c.self.invariant.few,
            few,
            count_unchanged is_some (items_of lent) n item (some_saved bytes (item_at (items_of lent) n)),
            ap (λ (v : SessionsView). count_by is_some v.items) (saves.0 c.self.inside.numbers).view_is,
          ))
          (λ stays. omega (arith, c.self.invariant.few, few, ap (λ (l : List (Option Item)). count_by is_some l) stays.0));
    })

pub returns-clause-ok : goal.returns-clause-ok
returns-clause-ok g c =
    let seen = g.D.Device.seen in
    let records = c.self.inside.records.items in
    let out = c.save_for_client-saved in
    let left = out.new in
    let new = left.records in
    let handle = c.args.handle in
    let n = number_of_session handle in
    let bytes = drop HEADER_BYTES left.reply in
    let order = c.self.inside.order in
    let view = c.args.self.now in
    let before = ap (λ (l : List Record). items_of l) c.deref_mut.ensures.value ∙ ap (λ (v : SessionsView). v.items) c.self.view_is in
    let ready = ready_lent c.self.inside.numbers (g.D.Device.seen c.args.device.now).state records c.deref_mut.result.now c.self.inside.next c.self.inside.order
    c.self.inside.left c.args.self.now c.requires.stand.0 c.deref_mut.ensures.value c.self.invariant.sound c.self.view_is c.requires.contexts
    c.requires.stand.1 in
    let sound = (out.ensures.ready c.self.inside.numbers c.requires.stand.0 ready).sound in
    let count : length new ≡ length records = sound.count ∙ sym c.self.invariant.sound.count in
    let whole : take c.self.inside.records.len (new ++ drop (length new) records) ≡ new =
    take_at new (drop (length new) records) c.self.inside.records.len (omega arith) in
    on_ok_both out.result _ _
    (λ saves gone.
    let its = saves.0 c.self.inside.numbers in
    let after = its.view_is in
    let numbers_are = ap (λ (v : SessionsView). v.numbers) c.self.view_is in
    let left_are = ap (λ (v : SessionsView). v.left) c.self.view_is in
    let room_is = ap (λ (v : SessionsView). v.contexts) c.self.view_is in
    let items_are = ap (λ (l : List Record). items_of l) whole ∙ ap (λ (v : SessionsView). v.items) after
    ∙ ap (λ (l : List (Option Item)). set l n (saved_by_client bytes (item_at l n))) before in
    let order_is = ap (λ (o : OrderView). o.loaded) gone ∙ ap (λ (k : ℕ). without_one k order.loaded) c.number_of.ensures
    ∙ ap (λ (v : SessionsView). without_one n v.order) c.self.view_is in
    let saved_is = ap (λ (o : OrderView). o.saved) gone ∙ ap (λ (k : ℕ). order.saved ++ k ∷ []) c.number_of.ensures
    ∙ ap (λ (v : SessionsView). v.saved ++ n ∷ []) c.self.view_is in (
      record {
        last_is = its.last_is;
        frame = its.frame;
        success = its.success;
        view_is = λ i. record {
          numbers = numbers_are i;
          items = items_are i;
          next = (after i).next;
          order = order_is i;
          saved = saved_is i;
          left = left_are i;
          contexts = room_is i;
        };
      },
      subst (λ (items : List (Option Item)). SavesTold (seen c.args.device.now).state (seen left.device).state left.reply handle items) before saves.1,
    )) out.ensures.ok c.list_saved.ensures.ok

pub returns-clause-err : goal.returns-clause-err
returns-clause-err g c =
    let records = c.self.inside.records.items in
    let out = c.save_for_client-saved in
    let new = out.new.records in
    let ready = ready_lent c.self.inside.numbers (g.D.Device.seen c.args.device.now).state records c.deref_mut.result.now c.self.inside.next c.self.inside.order
    c.self.inside.left c.args.self.now c.requires.stand.0 c.deref_mut.ensures.value c.self.invariant.sound c.self.view_is c.requires.contexts
    c.requires.stand.1 in
    let sound = (out.ensures.ready c.self.inside.numbers c.requires.stand.0 ready).sound in
    let count : length new ≡ length records = sound.count ∙ sym c.self.invariant.sound.count in
    let whole : take c.self.inside.records.len (new ++ drop (length new) records) ≡ new =
    take_at new (drop (length new) records) c.self.inside.records.len (omega arith) in
    let before = ap (λ (l : List Record). items_of l) c.deref_mut.ensures.value ∙ ap (λ (v : SessionsView). v.items) c.self.view_is in
    on_err_both out.result _ _
    (λ stays still.
    let items_are = ap (λ (l : List Record). items_of l) whole ∙ stays.0 ∙ before in
    let next_is = stays.1 ∙ ap (λ (v : SessionsView). v.next) c.self.view_is in
    let order_is = ap (λ (o : OrderView). o.loaded) still ∙ ap (λ (v : SessionsView). v.order) c.self.view_is in
    let saved_is = ap (λ (o : OrderView). o.saved) still ∙ ap (λ (v : SessionsView). v.saved) c.self.view_is in
    let numbers_are = ap (λ (v : SessionsView). v.numbers) c.self.view_is in
    let left_are = ap (λ (v : SessionsView). v.left) c.self.view_is in
    let room_is = ap (λ (v : SessionsView). v.contexts) c.self.view_is in
    λ i. record {
      numbers = numbers_are i;
      items = items_are i;
      next = next_is i;
      order = order_is i;
      saved = saved_is i;
      left = left_are i;
      contexts = room_is i;
    }) out.ensures.err c.list_saved.ensures.err

pub returns-clause-stands : goal.returns-clause-stands
returns-clause-stands g c =
    let records = c.self.inside.records.items in
    let out = c.save_for_client-saved in
    let left = out.new in
    let new = left.records in
    let lent = c.deref_mut.ensures.value in
    let ready = ready_lent c.self.inside.numbers (g.D.Device.seen c.args.device.now).state records c.deref_mut.result.now c.self.inside.next c.self.inside.order
    c.self.inside.left c.args.self.now c.requires.stand.0 c.deref_mut.ensures.value c.self.invariant.sound c.self.view_is c.requires.contexts
    c.requires.stand.1 in
    let sound = (out.ensures.ready c.self.inside.numbers c.requires.stand.0 ready).sound in
    let count : length new ≡ length records = sound.count ∙ sym c.self.invariant.sound.count in
    let whole : take c.self.inside.records.len (new ++ drop (length new) records) ≡ new =
    take_at new (drop (length new) records) c.self.inside.records.len (omega arith) in
    let whole_records = take c.self.inside.records.len (new ++ drop (length new) records) in
    let state = (g.D.Device.seen c.args.device.now).state in
    let new_state = (g.D.Device.seen left.device).state in
    let view = c.args.self.now in
    let n = number_of_session c.args.handle in
    let bytes = drop HEADER_BYTES left.reply in
    let before = ap (λ (l : List Record). items_of l) lent ∙ ap (λ (v : SessionsView). v.items) c.self.view_is in
    let listed = subst (λ (v : SessionsView). ListsThose is_saved_item v.saved v.items) c.self.view_is c.self.invariant.listed.saved in
    let there = loaded_whole c.args.handle (item_at view.items n) c.requires.may.loaded in
    let handed = on_ok_both out.result _ _
    (λ saves gone.
    let its : Handed state view.items (items_of whole_records) view.saved c.list_saved.new.order.saved n bytes = record {
      items_are = ap (λ (l : List Record). items_of l) whole ∙ ap (λ (v : SessionsView). v.items) (saves.0 c.self.inside.numbers).view_is
          ∙ ap (λ (l : List (Option Item)). set l n (saved_by_client bytes (item_at l n))) before;
      number = saves.1.number;
      order = ap (λ (o : OrderView). o.saved) gone ∙ ap (λ (k : ℕ). c.self.inside.order.saved ++ k ∷ []) c.number_of.ensures
          ∙ ap (λ (v : SessionsView). v.saved ++ n ∷ []) c.self.view_is;
    } in its) out.ensures.ok c.list_saved.ensures.ok in
    let kept = on_err_both out.result _ _
    (λ stays still.
    let its : (items_of whole_records ≡ view.items) × (c.list_saved.new.order.saved ≡ view.saved) = (
      ap (λ (l : List Record). items_of l) whole ∙ stays.0 ∙ before,
      ap (λ (o : OrderView). o.saved) still ∙ ap (λ (v : SessionsView). v.saved) c.self.view_is,
    ) in its) out.ensures.err c.list_saved.ensures.err in
    record {
      stand = λ others stand.
          stand_alike new_state (view_of c.self.inside.numbers new left.next)
          (whole_view c.self.inside.numbers whole_records left.next c.list_saved.new.order c.self.inside.left c.self.inside.contexts) others
          refl (ap (λ (l : List Record). items_of l) (sym whole)) refl
          (either_way out.result _ _ (RiseIn new_state (items_of whole_records) c.list_saved.new.order.saved) handed kept
          (λ its. rise_handed state new_state view others (items_of whole_records) c.list_saved.new.order.saved n bytes stand out.ensures.keeps.0.rest
          listed there its)
          (λ its. rise_kept state new_state view others (items_of whole_records) c.list_saved.new.order.saved stand out.ensures.keeps.0.rest
          its.0 its.1))
          (out.ensures.ready c.self.inside.numbers others
          (ready_lent c.self.inside.numbers state records c.deref_mut.result.now c.self.inside.next c.self.inside.order
          c.self.inside.left view others lent c.self.invariant.sound c.self.view_is c.requires.contexts stand)).stand;
      rest = out.ensures.keeps.0;
    }
