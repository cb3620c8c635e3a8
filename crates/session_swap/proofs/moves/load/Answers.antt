use Rattle.std.proofs.Common.{◌∙◌}
use Rattle.std.proofs.lemmas.Result.{on_ok_weaker}
use Rattle.session_swap.proofs.Commands.{few_bytes, load_is_own}
use Rattle.session_swap.proofs.Sent.{load_answered, load_told}
use Rattle.session_swap.proofs.moves.load.Goals as goal

pub load_command-command-requires : goal.load_command-command-requires
load_command-command-requires g c =
    let kept = c.requires.kept in
    few_bytes g.D.Device.CONTEXTS c.args.handle kept.0 c.args.context.now g.met.D.Device.short c.requires.session kept.1

pub ask-requires-clause-own : goal.ask-requires-clause-own
ask-requires-clause-own g c =
    let kept = c.requires.kept in
    let is = c.as_slice.ensures.same ∙ c.load_command-command.ensures in
    load_is_own g.D.Device.CONTEXTS c.args.handle kept.0 c.args.context.now c.as_slice.result.now g.met.D.Device.short c.requires.session kept.1 is

pub ask-requires-clause-told : goal.ask-requires-clause-told
ask-requires-clause-told g c =
    let kept = c.requires.kept in
    let is = c.as_slice.ensures.same ∙ c.load_command-command.ensures in
    load_told _ c.args.handle c.args.context.now c.as_slice.result.now c.ranges.handle.fits c.requires.session
    (few_bytes g.D.Device.CONTEXTS c.args.handle kept.0 c.args.context.now g.met.D.Device.short c.requires.session kept.1) c.requires.told is

pub returns-clause-state : goal.returns-clause-state
returns-clause-state g c =
    let kept = c.requires.kept in
    let is = c.as_slice.ensures.same ∙ c.load_command-command.ensures in
    on_ok_weaker c.ask.result
    (load_answered _ _ c.args.handle c.args.context.now _ c.ask.new.scratch c.ranges.handle.fits c.requires.session
    (few_bytes g.D.Device.CONTEXTS c.args.handle kept.0 c.args.context.now g.met.D.Device.short c.requires.session kept.1) c.requires.told is) c.ask.ensures.ok
