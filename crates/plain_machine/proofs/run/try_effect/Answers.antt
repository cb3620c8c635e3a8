use Rattle.std.proofs.Common.{◌≡◌, ◌∙◌, true, false, drop, ap, sym}
use Rattle.std.proofs.lemmas.List.{take_rest}
use Rattle.world_spec.specs.World.{ClientState}
use Rattle.plain_machine.specs.Owners.{owners_of}
use Rattle.plain_machine.specs.Picks.{effect_run, may_have}
use Rattle.plain_machine.specs.Views.{objects_of, state_of}
use Rattle.plain_machine.proofs.Running.{is_started, may_is, none_there, runs_where}
use Rattle.plain_machine.proofs.run.try_effect.Goals as goal

pub returns-then-not-may_have-clause-ran : goal.returns-then-not-may_have-clause-ran
returns-then-not-may_have-clause-ran c =
    let shape = c.args.admitted.now.shape in
    let auths = c.args.admitted.now.auths in
    let command = c.args.command.now in
    let state : ClientState = state_of c.args.shared.now (objects_of c.args.places.now.items) in
    let code = shape.row.code in
    let params = drop auths.params command in
    let may : false ≡ may_have (is_started state code params) state.sessions c.args.pick =
    may_is state code params _ c.args.pick (owners_of c.deref.result.now) (owners_of c.deref-2.result.now) c.lacks_number-lacks.result
    c.is_started-starts.result false (take_rest command auths.params) (ap owners_of c.deref.ensures.value)
    (ap owners_of c.deref-2.ensures.value) c.lacks_number-lacks.ensures c.is_started-starts.ensures c.if-not-may_have.ensures in
    none_there (effect_run c.args.client state shape auths command c.args.pick)
    (runs_where c.args.client state shape auths command c.args.pick c.requires.shape c.requires.few c.requires.bare ∙ sym may)

pub returns-then-is_err-clause-ran : goal.returns-then-is_err-clause-ran
returns-then-is_err-clause-ran c =
    let shape = c.args.admitted.now.shape in
    let auths = c.args.admitted.now.auths in
    let command = c.args.command.now in
    let state : ClientState = state_of c.args.shared.now (objects_of c.args.places.now.items) in
    let code = shape.row.code in
    let params = drop auths.params command in
    let may : true ≡ may_have (is_started state code params) state.sessions c.args.pick =
    may_is state code params _ c.args.pick (owners_of c.deref.result.now) (owners_of c.deref-2.result.now) c.lacks_number-lacks.result
    c.is_started-starts.result true (take_rest command auths.params) (ap owners_of c.deref.ensures.value)
    (ap owners_of c.deref-2.ensures.value) c.lacks_number-lacks.ensures c.is_started-starts.ensures c.if-not-may_have.ensures in
    runs_where c.args.client state shape auths command c.args.pick c.requires.shape c.requires.few c.requires.bare ∙ sym may
