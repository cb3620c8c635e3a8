use Rattle.std.proofs.Common.{sym, ap, subst, arith, ◌∙◌, length}
use Rattle.object_swap.specs.Items.{has_free_list}
use Rattle.tab_laws.proofs.Outcomes.{from_ok}
use Rattle.broker_core.proofs.Holding.{none_listed, view_opened}
use Rattle.broker_core.proofs.Listing.{Gives, given}
use Rattle.broker_core.proofs.Placing.{kept_opened}
use Rattle.broker_core.proofs.broker.Broker.open_client.Goals as goal

pub has_room_for_client-requires-clause-opened : goal.has_room_for_client-requires-clause-opened
has_room_for_client-requires-clause-opened g c = c.len-opened.ensures.count ∙ c.self.invariant.0.journal.opened_is

pub invariant_of-self : goal.invariant_of-self
invariant_of-self g c =
    let left = c.reserve.ensures in
    rw (left.items, left.lists) (c.self.invariant.0, left.present ∙ c.self.invariant.1)

pub add_client-requires : goal.add_client-requires
add_client-requires g c =
    record { new = none_listed c.len-opened.result c.self.invariant.0 (sym c.is_some.ensures ∙ c.if-is_some.false) c.len-opened.ensures.count }

pub open-client-requires-clause-room : goal.open-client-requires-clause-room
open-client-requires-clause-room g c = from_ok c.reserve.result _ c.reserve.ensures.ok (sym c.is_err.ensures.value ∙ c.if-is_err.false)

pub open-client-requires-clause-few : goal.open-client-requires-clause-few
open-client-requires-clause-few g c =
    let has_room = c.has_room_for_client.ensures.0 c.if-not-has_room_for_client.false in
    omega (arith, ap length c.reserve.ensures.items, has_room.number, c.self.invariant.0.journal.opened_is)

pub invariant_of-self-2 : goal.invariant_of-self-2
invariant_of-self-2 g c =
    let left = c.reserve.ensures in
    let has_room = c.has_room_for_client.ensures.0 c.if-not-has_room_for_client.false in
    let old = c.self.inside.machine.held.objects in
    let told = given old c.add_client.new.self c.in-Ok.list c.len-opened.result (has_free_list old.owners) c.in-Ok.ensures.again c.in-Ok.ensures.more in
    let number = c.open-client.ensures.number ∙ ap length left.items in
    rw (c.push.ensures.pushed, c.push.ensures.limit, c.open-client.ensures.items, c.open-client.ensures.lists, left.items, left.lists) (
      view_opened _ c.in-Ok.list c.add_client.new.self c.self.invariant.0 number has_room (subst (Gives old.owners c.add_client.new.self.owners c.in-Ok.list) (c.len-opened.ensures.count ∙ sym number) told.0) told.1,
      kept_opened c.self.inside.journal.entries c.open-client.result (left.present ∙ c.self.invariant.1) c.open-client.ensures.present,
    )
