use Rattle.std.proofs.Common.{◌≡◌, ◌∙◌, ℕ, true, None, Some, List, set, refl, ap, sym, subst, arith}
use Rattle.std.specs.Prelude.{Err, OnOk, ◌↔◌}
use Rattle.world_spec.specs.World.{ClientState, World, plain_step}
use Rattle.plain_machine.specs.declared.step_error.StepError.TheVariants.{PickRefused}
use Rattle.plain_machine.specs.Clients.{is_open_in, place_in}
use Rattle.plain_machine.specs.Owners.{owners_of}
use Rattle.plain_machine.specs.Views.{StepRan, state_of}
use Rattle.plain_machine.proofs.OpenClients.{open_within, ran_of, same_open, told_ok, told_refused, world_left}
use Rattle.plain_machine.proofs.world.World.step.Goals as goal

pub index_mut-requires : goal.index_mut-requires
index_mut-requires c =
    let client = c.args.client in
    let clients = c.self.inside.clients.items in
    let place = c.place_of-place.result in
    let there : is_open_in clients client ≡ true =
    subst (λ (w : World). is_open_in w.clients client ≡ true) (sym c.self.view_is) c.requires.open in
    let at : place ≡ place_in clients client =
    c.place_of-place.ensures ∙ ap (λ cs. place_in cs client) c.deref.ensures.value in
    omega (arith, at, open_within clients client there, c.self.inside.clients.ok)

pub returns-clause-ok : goal.returns-clause-ok
returns-clause-ok c =
    let inside = c.self.inside in
    let client = c.args.client in
    let command = c.args.command.now in
    let clients = inside.clients.items in
    let place = c.place_of-place.result in
    let there : is_open_in clients client ≡ true =
    subst (λ (w : World). is_open_in w.clients client ≡ true) (sym c.self.view_is) c.requires.open in
    let at : place ≡ place_in clients client =
    c.place_of-place.ensures ∙ ap (λ cs. place_in cs client) c.deref.ensures.value in
    let before : World = record {
      persist = inside.shared.persist;
      most = inside.shared.most;
      opened = inside.opened;
      clients = clients;
      sessions = owners_of inside.shared.sessions.items;
      left = inside.shared.left;
      object_sequence = inside.shared.object_sequence;
      session_sequence = inside.shared.session_sequence;
    } in
    let left : ClientState = state_of c.step.new.shared (c.step.new.self).objects in
    let after : World × List ℕ = (world_left before left (set clients place c.step.new.self), c.step.new.reply) in
    let ran : StepRan c.step.result (plain_step before client command c.args.pick) after =
    ran_of c.step.result before client place command c.args.pick left c.index_mut.result.now c.step.new.self c.step.new.reply
    there at c.index_mut.ensures.value c.step.ensures.number refl c.step.ensures.ran in
    subst (λ (w : World). OnOk c.step.result (plain_step w client command c.args.pick ≡ Some after)) c.self.view_is
    (told_ok c.step.result (plain_step before client command c.args.pick) after ran)

pub returns-clause-refused : goal.returns-clause-refused
returns-clause-refused c =
    let inside = c.self.inside in
    let client = c.args.client in
    let command = c.args.command.now in
    let clients = inside.clients.items in
    let place = c.place_of-place.result in
    let there : is_open_in clients client ≡ true =
    subst (λ (w : World). is_open_in w.clients client ≡ true) (sym c.self.view_is) c.requires.open in
    let at : place ≡ place_in clients client =
    c.place_of-place.ensures ∙ ap (λ cs. place_in cs client) c.deref.ensures.value in
    let before : World = record {
      persist = inside.shared.persist;
      most = inside.shared.most;
      opened = inside.opened;
      clients = clients;
      sessions = owners_of inside.shared.sessions.items;
      left = inside.shared.left;
      object_sequence = inside.shared.object_sequence;
      session_sequence = inside.shared.session_sequence;
    } in
    let left : ClientState = state_of c.step.new.shared (c.step.new.self).objects in
    let after : World × List ℕ = (world_left before left (set clients place c.step.new.self), c.step.new.reply) in
    let ran : StepRan c.step.result (plain_step before client command c.args.pick) after =
    ran_of c.step.result before client place command c.args.pick left c.index_mut.result.now c.step.new.self c.step.new.reply
    there at c.index_mut.ensures.value c.step.ensures.number refl c.step.ensures.ran in
    subst (λ (w : World). (c.step.result ≡ Err PickRefused) ↔ (plain_step w client command c.args.pick ≡ None)) c.self.view_is
    (told_refused c.step.result (plain_step before client command c.args.pick) after ran)

pub returns-clause-clients : goal.returns-clause-clients
returns-clause-clients c = λ other.
    let client = c.args.client in
    let clients = c.self.inside.clients.items in
    let place = c.place_of-place.result in
    let there : is_open_in clients client ≡ true =
    subst (λ (w : World). is_open_in w.clients client ≡ true) (sym c.self.view_is) c.requires.open in
    let at : place ≡ place_in clients client =
    c.place_of-place.ensures ∙ ap (λ cs. place_in cs client) c.deref.ensures.value in
    same_open clients client place other c.index_mut.result.now c.step.new.self there at c.index_mut.ensures.value c.step.ensures.number
    ∙ ap (λ (w : World). is_open_in w.clients other) c.self.view_is
