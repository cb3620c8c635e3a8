use Rattle.std.proofs.Common.{◌≡◌, ◌≤◌, ap, sym, ◌∙◌, subst, arith, List, ℕ, true, length, drop}
use Rattle.std.proofs.lemmas.List.{take_rest}
use Rattle.std.specs.Prelude.{IfSome, None, Some, is_ok}
use Rattle.tab_spec.specs.declared.TheConstants.{CC_CONTEXT_SAVE}
use Rattle.device_spec.specs.Answers.{profile_takes as takes}
use Rattle.device_spec.specs.ContextCommands.{command_bytes}
use Rattle.device_spec.specs.Slots.{in_slot, object_at, slot_step}
use Rattle.device_port.specs.Device.{Answered}
use Rattle.device_port.specs.Own.{IsOwn, Succeeds}
use Rattle.object_swap.specs.Records.{IsContext}
use Rattle.object_swap.proofs.Commands.{copied, last_context, long_reply, save_is_own, saved, saved_context}
use Rattle.object_swap.proofs.Told.{save_answered, save_told}
use Rattle.object_swap.proofs.moves.save.Goals as goal

pub ask-requires-clause-own : goal.ask-requires-clause-own
ask-requires-clause-own g c =
    let is = c.as_slice.ensures.same ∙ c.command_of-command.ensures ∙ ap (command_bytes CC_CONTEXT_SAVE) c.to_be_bytes.ensures in
    subst (λ (bytes : List ℕ). IsOwn g.D.Device.CONTEXTS bytes) (sym is) (save_is_own g.D.Device.CONTEXTS c.args.handle)

pub ask-requires-clause-told : goal.ask-requires-clause-told
ask-requires-clause-told g c =
    let is = c.as_slice.ensures.same ∙ c.command_of-command.ensures ∙ ap (command_bytes CC_CONTEXT_SAVE) c.to_be_bytes.ensures in
    subst (λ (bytes : List ℕ). IfSome (g.D.Device.seen c.args.device.now).state (λ slots. takes true true bytes (slot_step slots bytes).1 ≡ true)) (sym is)
    (save_told _ c.args.handle c.ranges.handle.fits c.requires.transient c.requires.told)

pub slice_bounds-extend_from_slice-count : goal.slice_bounds-extend_from_slice-count
slice_bounds-extend_from_slice-count g c =
    let is = c.as_slice.ensures.same ∙ c.command_of-command.ensures ∙ ap (command_bytes CC_CONTEXT_SAVE) c.to_be_bytes.ensures in
    long_reply g.D.Device.CONTEXTS c.as_slice-2.result.now (subst (λ (bytes : List ℕ). IsContext g.D.Device.CONTEXTS (drop 10 bytes)) (sym c.as_slice-2.ensures.value)
    (saved_context g.D.Device.CONTEXTS c.args.handle c.ask.new.scratch c.ranges.handle.fits c.requires.transient
    (subst (λ (bytes : List ℕ). Succeeds g.D.Device.CONTEXTS bytes c.ask.new.scratch) is c.in_ok-ask.ensures.success)))

pub slice_bounds-extend_from_slice-start : goal.slice_bounds-extend_from_slice-start
slice_bounds-extend_from_slice-start g c =
    let is = c.as_slice.ensures.same ∙ c.command_of-command.ensures ∙ ap (command_bytes CC_CONTEXT_SAVE) c.to_be_bytes.ensures in
    let long : 10 ≤ length c.as_slice-2.result.now =
    long_reply g.D.Device.CONTEXTS c.as_slice-2.result.now (subst (λ (bytes : List ℕ). IsContext g.D.Device.CONTEXTS (drop 10 bytes)) (sym c.as_slice-2.ensures.value)
    (saved_context g.D.Device.CONTEXTS c.args.handle c.ask.new.scratch c.ranges.handle.fits c.requires.transient
    (subst (λ (bytes : List ℕ). Succeeds g.D.Device.CONTEXTS bytes c.ask.new.scratch) is c.in_ok-ask.ensures.success))) in
    long

pub unwrap-requires : goal.unwrap-requires
unwrap-requires g c =
    let is = c.as_slice.ensures.same ∙ c.command_of-command.ensures ∙ ap (command_bytes CC_CONTEXT_SAVE) c.to_be_bytes.ensures in
    let reply = c.as_slice-2.result.now in
    let context = subst (λ (bytes : List ℕ). IsContext g.D.Device.CONTEXTS (drop 10 bytes)) (sym c.as_slice-2.ensures.value)
    (saved_context g.D.Device.CONTEXTS c.args.handle c.ask.new.scratch c.ranges.handle.fits c.requires.transient
    (subst (λ (bytes : List ℕ). Succeeds g.D.Device.CONTEXTS bytes c.ask.new.scratch) is c.in_ok-ask.ensures.success)) in
    c.extend_from_slice.ensures.succeeds (omega (arith, c.clear.ensures.len, c.clear.ensures.capacity, c.requires.room, ap length (take_rest reply 10), (saved g.D.Device.CONTEXTS (drop 10 reply) context).most))

pub returns-clause-state : goal.returns-clause-state
returns-clause-state g c =
    let is = c.as_slice.ensures.same ∙ c.command_of-command.ensures ∙ ap (command_bytes CC_CONTEXT_SAVE) c.to_be_bytes.ensures in
    (save_answered _ _ c.args.handle c.ask.new.scratch c.ranges.handle.fits c.requires.transient c.requires.told
    (subst (λ (bytes : List ℕ). Answered (g.D.Device.seen c.args.device.now).state bytes (g.D.Device.seen c.ask.new.device).state c.ask.new.scratch) is c.in_ok-ask.ensures.ok)).state_is

pub returns-clause-same : goal.returns-clause-same
returns-clause-same g c =
    let is = c.as_slice.ensures.same ∙ c.command_of-command.ensures ∙ ap (command_bytes CC_CONTEXT_SAVE) c.to_be_bytes.ensures in
    let told = save_answered _ _ c.args.handle c.ask.new.scratch c.ranges.handle.fits c.requires.transient c.requires.told
    (subst (λ (bytes : List ℕ). Answered (g.D.Device.seen c.args.device.now).state bytes (g.D.Device.seen c.ask.new.device).state c.ask.new.scratch) is c.in_ok-ask.ensures.ok) in
    let kept = copied (is_ok c.extend_from_slice.result) c.clear.new.self.items c.extend_from_slice.new.self.items c.as_slice-2.result.now (ap is_ok c.unwrap.ensures)
    c.extend_from_slice.ensures.items c.clear.ensures.items ∙ ap (drop 10) c.as_slice-2.ensures.value in
    subst (λ (context : List ℕ). IfSome (g.D.Device.seen c.args.device.now).state (λ slots. object_at slots None (Some context) ≡ in_slot slots c.args.handle)) (sym kept) told.same

pub returns-clause-kept : goal.returns-clause-kept
returns-clause-kept g c =
    let is = c.as_slice.ensures.same ∙ c.command_of-command.ensures ∙ ap (command_bytes CC_CONTEXT_SAVE) c.to_be_bytes.ensures in
    let kept = copied (is_ok c.extend_from_slice.result) c.clear.new.self.items c.extend_from_slice.new.self.items c.as_slice-2.result.now (ap is_ok c.unwrap.ensures)
    c.extend_from_slice.ensures.items c.clear.ensures.items ∙ ap (drop 10) c.as_slice-2.ensures.value in
    let context = saved_context g.D.Device.CONTEXTS c.args.handle c.ask.new.scratch c.ranges.handle.fits c.requires.transient
    (subst (λ (bytes : List ℕ). Succeeds g.D.Device.CONTEXTS bytes c.ask.new.scratch) is c.in_ok-ask.ensures.success) in (
      subst (λ (context : List ℕ). IsContext g.D.Device.CONTEXTS context) (sym kept) context,
      last_context _ c.ask.new.scratch _ c.in_ok-ask.ensures.last kept,
    )
