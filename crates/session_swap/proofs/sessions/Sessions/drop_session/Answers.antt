use Rattle.std.proofs.Common.{◌∙◌, subst, set, arith, ℕ, List, [], Option, refl, ap, sym}
use Rattle.std.specs.Prelude.{IfSome, None, is_some}
use Rattle.tab_spec.specs.Shape.{number_of_session}
use Rattle.device_spec.specs.Slots.{SlotState}
use Rattle.device_port.specs.Use.{without_one}
use Rattle.session_swap.specs.Items.{HasGapRoom, Item, ListsThose, SessionsView, Stand, counter_of, gap_in, is_left, item_at, rest_of, sessions_of}
use Rattle.tab_spec.specs.Admission.{is_session_handle}
use Rattle.tab_spec.specs.declared.contexts.TheConstants.{PROFILE_CONTEXTS}
use Rattle.session_swap.specs.Records.{IsHandleOf}
use Rattle.session_swap.proofs.Among.{named_some}
use Rattle.session_swap.proofs.Moved.{ended_drops, ended_room, has_item, stand_alike}
use Rattle.session_swap.proofs.Rising.{rise_ended}
use Rattle.session_swap.proofs.sessions.Sessions.drop_session.Goals as goal

pub flush-requires-clause-session : goal.flush-requires-clause-session
flush-requires-clause-session g c =
    let items = c.args.self.now.items in
    let n = number_of_session c.args.handle in
    let has = has_item items c.args.handle c.requires.named in
    let handles = subst (λ (l : List (Option Item)). IfSome (item_at l n) (λ item. IsHandleOf n item))
    (ap (λ (v : SessionsView). v.items) c.self.view_is) (c.self.invariant.sound.handles n) in
    let its : IsHandleOf n has.item = subst (λ (o : Option Item). IfSome o (λ item. IsHandleOf n item)) has.was handles in
    ap is_session_handle (sym has.handle_is) ∙ its.session

pub forget-requires : goal.forget-requires
forget-requires g c =
    ap (λ (n : ℕ). is_some (item_at c.args.self.now.items n)) c.number_of.ensures ∙ named_some c.args.self.now.items c.args.handle c.requires.named

abbrev forgotten : SessionsView → ℕ → SessionsView
forgotten view n = record {
  numbers = view.numbers;
  items = set view.items n None;
  next = view.next;
  order = without_one n view.order;
  saved = without_one n view.saved;
  left = without_one n view.left;
  contexts = view.contexts;
}

-- the lists aside
abbrev view_ended : SessionsView → ℕ → SessionsView
view_ended view handle = record {
  numbers = view.numbers;
  items = set view.items (number_of_session handle) None;
  next = view.next;
  order = [];
  saved = [];
  left = [];
  contexts = PROFILE_CONTEXTS;
}

pub returns-clause-ok : goal.returns-clause-ok
returns-clause-ok g c =
    let view_is = c.forget.ensures ∙ ap (forgotten c.args.self.now) c.number_of.ensures in
    let has = has_item c.args.self.now.items c.args.handle c.requires.named in
    record {
      view_is = view_is;
      sessions = (λ i. sessions_of (c.in_ok-flush.ensures.state i) ((view_is i).items))
          ∙ (ended_drops _ c.args.self.now c.requires.stand.0 c.args.handle has.item c.requires.stand.1 has.was).sessions;
    }

pub returns-clause-stands : goal.returns-clause-stands
returns-clause-stands g c =
    let view = c.args.self.now in
    let n = number_of_session c.args.handle in
    let has = has_item view.items c.args.handle c.requires.named in
    let view_is = c.forget.ensures ∙ ap (forgotten view) c.number_of.ensures in
    let drops = ended_drops _ view c.requires.stand.0 c.args.handle has.item c.requires.stand.1 has.was in
    let state_is = c.in_ok-flush.ensures.state in
    record {
      stand = λ others stand.
          let after = (ended_drops _ view others c.args.handle has.item stand has.was).stand in
          let ends : Stand (g.D.Device.seen c.flush.new.device).state (view_ended view c.args.handle) others =
          subst (λ (s : Option SlotState). Stand s (view_ended view c.args.handle) others) (sym state_is) after in
          subst (λ (v : SessionsView). Stand (g.D.Device.seen c.flush.new.device).state v others) (sym view_is)
          (stand_alike (g.D.Device.seen c.flush.new.device).state (view_ended view c.args.handle) (forgotten view n) others refl refl refl
          (rise_ended (g.D.Device.seen c.args.device.now).state (g.D.Device.seen c.flush.new.device).state view others n stand
          (ap rest_of state_is ∙ drops.rest)) ends);
      rest = record {
        base_is = c.in_ok-flush.ensures.asks.base;
        rest = ap rest_of state_is ∙ drops.rest;
        rises = omega (arith, ap counter_of state_is, drops.counter);
        count = c.in_ok-flush.ensures.asks.count;
      };
    }

pub returns-clause-counts : goal.returns-clause-counts
returns-clause-counts g c =
    let has = has_item c.args.self.now.items c.args.handle c.requires.named in
    let drops = ended_drops _ c.args.self.now c.requires.stand.0 c.args.handle has.item c.requires.stand.1 has.was in
    record {
      counter = ap counter_of c.in_ok-flush.ensures.state ∙ drops.counter;
      gap = omega (arith, ap gap_in c.in_ok-flush.ensures.state, drops.gap);
      room = λ room. subst (λ (s : Option SlotState). HasGapRoom s) (sym c.in_ok-flush.ensures.state)
          (ended_room _ c.args.self.now c.requires.stand.0 c.args.handle has.item c.requires.stand.1 has.was room);
    }

pub returns-in_err-flush-clause-listed : goal.returns-in_err-flush-clause-listed
returns-in_err-flush-clause-listed g c = subst (λ (v : SessionsView). ListsThose is_left v.left v.items) c.self.view_is c.self.invariant.left_are

pub returns-clause-listed : goal.returns-clause-listed
returns-clause-listed g c = subst (λ (v : SessionsView). ListsThose is_left v.left v.items) c.self.view_is c.self.invariant.left_are
