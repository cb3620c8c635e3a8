use Rattle.std.proofs.Common.{◌≡◌, ◌∙◌, None, Option, refl, ap, sym, subst}
use Rattle.std.specs.Prelude.{Err, Ok}
use Rattle.tab_spec.specs.Admission.{Tables, client_admitted}
use Rattle.world_spec.specs.World.{Client, ClientState, ClientStep, client_step, refused_step, tables_of}
use Rattle.plain_machine.specs.Owners.{owners_of}
use Rattle.plain_machine.specs.Views.{StepRan, objects_of, state_of}
use Rattle.plain_machine.proofs.Admitted.{bare, has_room, seen_tables}
use Rattle.plain_machine.proofs.Loading.{room_to_load}
use Rattle.plain_machine.proofs.Running.{admitted_runs, nothing_refused, refused_runs}
use Rattle.plain_machine.proofs.client.OpenClient.step.Goals as goal

pub run-requires-clause-few : goal.run-requires-clause-few
run-requires-clause-few c =
    let client = c.self.inside.number in
    let command = c.args.command.now in
    let state : ClientState = state_of c.args.shared.now (objects_of c.self.inside.places.items) in
    let tables : tables_of client state ≡ tables_of client (record state { objects = objects_of c.deref.result.now; sessions = owners_of c.deref-2.result.now }) =
    sym (seen_tables client state (objects_of c.deref.result.now) (owners_of c.deref-2.result.now) (ap objects_of c.deref.ensures.value)
    (ap owners_of c.deref-2.ensures.value)) in
    let is : client_admitted (tables_of client state) command ≡ Ok c.in-Ok.admitted =
    ap (λ (t : Tables). client_admitted t command) tables ∙ sym c.in-Ok.ensures.value in
    has_room (tables_of client state) command c.in-Ok.admitted is

pub run-requires-clause-bare : goal.run-requires-clause-bare
run-requires-clause-bare c =
    let client = c.self.inside.number in
    let command = c.args.command.now in
    let state : ClientState = state_of c.args.shared.now (objects_of c.self.inside.places.items) in
    let tables : tables_of client state ≡ tables_of client (record state { objects = objects_of c.deref.result.now; sessions = owners_of c.deref-2.result.now }) =
    sym (seen_tables client state (objects_of c.deref.result.now) (owners_of c.deref-2.result.now) (ap objects_of c.deref.ensures.value)
    (ap owners_of c.deref-2.ensures.value)) in
    let is : client_admitted (tables_of client state) command ≡ Ok c.in-Ok.admitted =
    ap (λ (t : Tables). client_admitted t command) tables ∙ sym c.in-Ok.ensures.value in
    bare (tables_of client state) command c.in-Ok.admitted is c.in-Ok.ensures.shape

pub returns-in-Ok-clause-ran : goal.returns-in-Ok-clause-ran
returns-in-Ok-clause-ran c =
    let client = c.self.inside.number in
    let command = c.args.command.now in
    let state : ClientState = state_of c.args.shared.now (objects_of c.self.inside.places.items) in
    let tables : tables_of client state ≡ tables_of client (record state { objects = objects_of c.deref.result.now; sessions = owners_of c.deref-2.result.now }) =
    sym (seen_tables client state (objects_of c.deref.result.now) (owners_of c.deref-2.result.now) (ap objects_of c.deref.ensures.value)
    (ap owners_of c.deref-2.ensures.value)) in
    let is : client_admitted (tables_of client state) command ≡ Ok c.in-Ok.admitted =
    ap (λ (t : Tables). client_admitted t command) tables ∙ sym c.in-Ok.ensures.value in
    let after : ClientStep = (state_of c.run.new.shared (objects_of c.run.new.places.items), c.run.new.reply) in
    subst (λ (v : Client). StepRan c.run.result (client_step v.number (state_of c.args.shared.now v.objects) command c.args.pick) after) c.self.view_is
    (subst (λ (step : Option ClientStep). StepRan c.run.result step after)
    (sym (admitted_runs client state command c.in-Ok.admitted c.args.pick is)) c.run.ensures.ran)

pub run-requires-clause-loads : goal.run-requires-clause-loads
run-requires-clause-loads c =
    let client = c.self.inside.number in
    let command = c.args.command.now in
    let objects = objects_of c.self.inside.places.items in
    let state : ClientState = state_of c.args.shared.now objects in
    let tables : tables_of client state ≡ tables_of client (record state { objects = objects_of c.deref.result.now; sessions = owners_of c.deref-2.result.now }) =
    sym (seen_tables client state (objects_of c.deref.result.now) (owners_of c.deref-2.result.now) (ap objects_of c.deref.ensures.value)
    (ap owners_of c.deref-2.ensures.value)) in
    let is : client_admitted (tables_of client state) command ≡ Ok c.in-Ok.admitted =
    ap (λ (t : Tables). client_admitted t command) tables ∙ sym c.in-Ok.ensures.value in
    room_to_load (tables_of client state) command c.in-Ok.admitted objects is c.in-Ok.ensures.shape refl

pub returns-then-not-is_nothing-clause-ran : goal.returns-then-not-is_nothing-clause-ran
returns-then-not-is_nothing-clause-ran c =
    let client = c.self.inside.number in
    let command = c.args.command.now in
    let state : ClientState = state_of c.args.shared.now (objects_of c.self.inside.places.items) in
    let tables : tables_of client state ≡ tables_of client (record state { objects = objects_of c.deref.result.now; sessions = owners_of c.deref-2.result.now }) =
    sym (seen_tables client state (objects_of c.deref.result.now) (owners_of c.deref-2.result.now) (ap objects_of c.deref.ensures.value)
    (ap owners_of c.deref-2.ensures.value)) in
    let is : client_admitted (tables_of client state) command ≡ Err c.in-Err.code =
    ap (λ (t : Tables). client_admitted t command) tables ∙ sym c.in-Err.ensures.value in
    let none : ◌≡◌ {A = Option ClientStep} (client_step client state command c.args.pick) None =
    refused_runs client state command c.in-Err.code c.args.pick is
    ∙ nothing_refused (refused_step state c.in-Err.code) c.args.pick (sym c.if-not-is_nothing.ensures) in
    subst (λ (v : Client). client_step v.number (state_of c.args.shared.now v.objects) command c.args.pick ≡ None) c.self.view_is none
