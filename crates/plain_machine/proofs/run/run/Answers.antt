use Rattle.std.proofs.Common.{◌≡◌, ◌∙◌, ◌-◌, ℕ, List, Option, length, take, drop, ap, sym, subst}
use Rattle.std.proofs.lemmas.List.{take_rest}
use Rattle.tab_values.specs.declared.object.Object.{Object}
use Rattle.world_spec.specs.World.{ClientState, ClientStep, capability_step, choosing_nothing, client_capability, load_parameters, load_step, run_step}
use Rattle.plain_machine.specs.Views.{StepRan, objects_of, state_of}
use Rattle.plain_machine.proofs.Running.{capability_runs, load_runs}
use Rattle.plain_machine.proofs.run.run.Goals as goal

pub returns-in-353-clause-ran : goal.returns-in-353-clause-ran
returns-in-353-clause-ran c =
    let client = c.args.client in
    let shape = c.args.admitted.now.shape in
    let auths = c.args.admitted.now.auths in
    let command = c.args.command.now in
    let state : ClientState = state_of c.args.shared.now (objects_of c.args.places.now.items) in
    let after : ClientStep = (state_of c.context_load.new.shared (objects_of c.context_load.new.places.items), c.context_load.new.reply) in
    let read : List ℕ = take (length command - auths.params) (drop auths.params command) in
    let same : choosing_nothing (load_step client state read (load_parameters read)) c.args.pick ≡ run_step client state shape auths command c.args.pick =
    ap (λ (params : List ℕ). choosing_nothing (load_step client state params (load_parameters params)) c.args.pick) (take_rest command auths.params)
    ∙ sym (load_runs client state shape auths command c.args.pick c.in-353.is) in
    subst (λ (step : Option ClientStep). StepRan c.context_load.result step after) same c.context_load.ensures.ran

pub returns-in-378-clause-ran : goal.returns-in-378-clause-ran
returns-in-378-clause-ran c =
    let client = c.args.client in
    let shape = c.args.admitted.now.shape in
    let auths = c.args.admitted.now.auths in
    let command = c.args.command.now in
    let state : ClientState = state_of c.args.shared.now (objects_of c.args.places.now.items) in
    let after : ClientStep = (state, c.get_capability.new.reply) in
    let read : List ℕ = take (length command - auths.params) (drop auths.params command) in
    let same : choosing_nothing (capability_step state (client_capability client state read)) c.args.pick ≡ run_step client state shape auths command c.args.pick =
    ap (λ (params : List ℕ). choosing_nothing (capability_step state (client_capability client state params)) c.args.pick) (take_rest command auths.params)
    ∙ sym (capability_runs client state shape auths command c.args.pick c.in-378.is) in
    subst (λ (step : Option ClientStep). StepRan c.get_capability.result step after) same
    (subst (λ (places : List (Option Object)).
    let seen : ClientState = state_of c.args.shared.now (objects_of places) in
    StepRan c.get_capability.result (choosing_nothing (capability_step seen (client_capability client seen read)) c.args.pick) (seen, c.get_capability.new.reply))
    c.deref-in-378.ensures.value c.get_capability.ensures.ran)
