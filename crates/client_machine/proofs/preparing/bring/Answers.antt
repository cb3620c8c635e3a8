use Rattle.std.proofs.Common.{ap, ◌≡◌, ◌≤◌, ◌+◌, ℕ, true, [], ◌∷◌, subst, arith}
use Rattle.std.specs.Prelude.{Option, IfSome}
use Rattle.object_swap.specs.Items.{counter_of, is_resident, item_at}
use Rattle.client_machine.specs.Moves.{listed}
use Rattle.client_machine.proofs.Bringing.{brings_few, brings_none, none_left, objects_moved}
use Rattle.client_machine.proofs.preparing.bring.Goals as goal

pub returns-in-None-clause-prepared : goal.returns-in-None-clause-prepared
returns-in-None-clause-prepared g c =
    let D = g.D.Device in
    let left = c.make_objects-in-None.ensures in
    let counter : counter_of (D.seen c.make_objects-in-None.new.device).state ≤ counter_of (D.seen c.args.device.now).state + 3 =
    omega (arith, left.room.counter, c.requires.few) in
    objects_moved D.seen 3 c.args.device.now c.make_objects-in-None.new.device c.args.held.now c.make_objects-in-None.new.self left.moved
    (none_left c.args.held.now c.requires.nobodys) counter c.requires.may.settled

pub returns-in-None-clause-still : goal.returns-in-None-clause-still
returns-in-None-clause-still g c = λ zero resident.
    brings_none g.D.Device.seen _ _ [] c.args.new_slots c.args.held.now.objects c.make_objects-in-None.new.self c.make_objects-in-None.result
    c.make_objects-in-None.ensures.room tt zero

pub returns-in-None-clause-costs : goal.returns-in-None-clause-costs
returns-in-None-clause-costs g c =
    brings_few g.D.Device.seen _ _ c.args.held.now c.make_objects-in-None.new.self c.args.named [] c.args.new_slots c.make_objects-in-None.result
    c.make_objects-in-None.ensures.room c.make_objects-in-None.ensures.moved.slots (omega arith) c.requires.few (ap listed c.in-None.is)

pub returns-in-Some-clause-prepared : goal.returns-in-Some-clause-prepared
returns-in-Some-clause-prepared g c =
    let D = g.D.Device in
    let left = c.make_objects.ensures in
    let counter : counter_of (D.seen c.make_objects.new.device).state ≤ counter_of (D.seen c.args.device.now).state + 3 =
    omega (arith, left.room.counter, c.requires.few) in
    objects_moved D.seen 3 c.args.device.now c.make_objects.new.device c.args.held.now c.make_objects.new.self left.moved
    (none_left c.args.held.now c.requires.nobodys) counter c.requires.may.settled

pub returns-in-Some-clause-still : goal.returns-in-Some-clause-still
returns-in-Some-clause-still g c = λ zero resident.
    let items = c.args.held.now.objects.items in
    let item = c.in-Some.item in
    let here : is_resident (item_at items item) ≡ true =
    subst (λ (named : Option ℕ). IfSome named (λ n. is_resident (item_at items n) ≡ true)) c.in-Some.is resident in
    brings_none g.D.Device.seen _ _ (item ∷ []) c.args.new_slots c.args.held.now.objects c.make_objects.new.self c.make_objects.result
    c.make_objects.ensures.room (here, tt) zero

pub returns-in-Some-clause-costs : goal.returns-in-Some-clause-costs
returns-in-Some-clause-costs g c =
    brings_few g.D.Device.seen _ _ c.args.held.now c.make_objects.new.self c.args.named (c.in-Some.item ∷ []) c.args.new_slots c.make_objects.result
    c.make_objects.ensures.room c.make_objects.ensures.moved.slots (omega arith) c.requires.few (ap listed c.in-Some.is)
