use Rattle.std.proofs.Common.{ap, ◌∙◌}
use Rattle.std.proofs.lemmas.Result.{on_ok_weaker}
use Rattle.tab_spec.specs.declared.TheConstants.{CC_FLUSH_CONTEXT}
use Rattle.device_spec.specs.ContextCommands.{command_bytes}
use Rattle.session_swap.proofs.Sent.{flush_answered, flush_told}
use Rattle.session_swap.proofs.moves.flush.Goals as goal

pub ask-requires-clause-told : goal.ask-requires-clause-told
ask-requires-clause-told g c =
    let bytes = ap (command_bytes CC_FLUSH_CONTEXT) c.to_be_bytes.ensures in
    let is = c.as_slice.ensures.same ∙ c.command_of-command.ensures ∙ bytes in
    flush_told _ c.args.handle c.as_slice.result.now c.ranges.handle.fits c.requires.session c.requires.told is

pub returns-clause-state : goal.returns-clause-state
returns-clause-state g c =
    let bytes = ap (command_bytes CC_FLUSH_CONTEXT) c.to_be_bytes.ensures in
    let is = c.as_slice.ensures.same ∙ c.command_of-command.ensures ∙ bytes in
    on_ok_weaker c.ask.result
    (flush_answered _ _ c.args.handle _ c.ask.new.scratch c.ranges.handle.fits c.requires.session c.requires.told is)
    c.ask.ensures.ok
