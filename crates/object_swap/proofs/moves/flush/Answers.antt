use Rattle.std.proofs.Common.{◌≡◌, ap, sym, ◌∙◌, subst, List, ℕ, true}
use Rattle.std.specs.Prelude.{IfSome}
use Rattle.std.proofs.lemmas.Result.{on_ok_weaker}
use Rattle.tab_spec.specs.declared.TheConstants.{CC_FLUSH_CONTEXT}
use Rattle.device_spec.specs.Answers.{profile_takes as takes}
use Rattle.device_spec.specs.ContextCommands.{command_bytes}
use Rattle.device_spec.specs.Slots.{slot_step}
use Rattle.device_port.specs.Device.{Answered}
use Rattle.device_port.specs.Own.{IsOwn}
use Rattle.object_swap.proofs.Commands.{flush_is_own}
use Rattle.object_swap.proofs.Told.{flush_answered, flush_told}
use Rattle.object_swap.proofs.moves.flush.Goals as goal

pub ask-requires-clause-own : goal.ask-requires-clause-own
ask-requires-clause-own g c =
    let is = c.as_slice.ensures.same ∙ c.command_of-command.ensures ∙ ap (command_bytes CC_FLUSH_CONTEXT) c.to_be_bytes.ensures in
    subst (λ (bytes : List ℕ). IsOwn g.D.Device.CONTEXTS bytes) (sym is) (flush_is_own g.D.Device.CONTEXTS c.args.handle)

pub ask-requires-clause-told : goal.ask-requires-clause-told
ask-requires-clause-told g c =
    let is = c.as_slice.ensures.same ∙ c.command_of-command.ensures ∙ ap (command_bytes CC_FLUSH_CONTEXT) c.to_be_bytes.ensures in
    subst (λ (bytes : List ℕ). IfSome (g.D.Device.seen c.args.device.now).state (λ slots. takes true true bytes (slot_step slots bytes).1 ≡ true)) (sym is)
    (flush_told _ c.args.handle c.ranges.handle.fits c.requires.transient c.requires.told)

pub returns-clause-state : goal.returns-clause-state
returns-clause-state g c =
    let is = c.as_slice.ensures.same ∙ c.command_of-command.ensures ∙ ap (command_bytes CC_FLUSH_CONTEXT) c.to_be_bytes.ensures in
    on_ok_weaker c.ask.result (λ answered. flush_answered _ _ c.args.handle c.ask.new.scratch c.ranges.handle.fits c.requires.transient c.requires.told
    (subst (λ (bytes : List ℕ). Answered (g.D.Device.seen c.args.device.now).state bytes (g.D.Device.seen c.ask.new.device).state c.ask.new.scratch) is answered)) c.ask.ensures.ok
