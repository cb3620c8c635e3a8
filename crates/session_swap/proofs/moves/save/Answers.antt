use Rattle.std.proofs.Common.{◌≡◌, ◌-◌, ap, sym, ◌∙◌, subst, arith, List, ℕ, length, take, drop}
use Rattle.std.specs.Int.{w64, from_be_bytes}
use Rattle.std.specs.Prelude.{IfSome, is_ok}
use Rattle.tab_spec.specs.declared.TheConstants.{CC_CONTEXT_SAVE}
use Rattle.device_spec.specs.ContextCommands.{command_bytes}
use Rattle.device_port.specs.Own.{Succeeds}
use Rattle.session_swap.specs.Items.{context_number}
use Rattle.session_swap.specs.Records.{IsContext}
use Rattle.session_swap.proofs.Commands.{copied, number_in, save_reply}
use Rattle.session_swap.proofs.Sent.{IsSavedIn, save_answered, save_told}
use Rattle.session_swap.proofs.moves.save.Goals as goal

pub ask-requires-clause-told : goal.ask-requires-clause-told
ask-requires-clause-told g c =
    let bytes = ap (command_bytes CC_CONTEXT_SAVE) c.to_be_bytes.ensures in
    let is = c.as_slice.ensures.same ∙ c.command_of-command.ensures ∙ bytes in
    save_told _ c.args.handle c.as_slice.result.now c.ranges.handle.fits c.requires.session c.requires.told is

pub slice_bounds-saved-count : goal.slice_bounds-saved-count
slice_bounds-saved-count g c =
    let bytes = ap (command_bytes CC_CONTEXT_SAVE) c.to_be_bytes.ensures in
    let is = c.as_slice.ensures.same ∙ c.command_of-command.ensures ∙ bytes in
    let reply = save_reply g.D.Device.CONTEXTS c.args.handle _ c.ask.new.scratch c.as_slice-2.result.now c.ranges.handle.fits c.requires.session is
    c.in_ok-ask.ensures.success c.as_slice-2.ensures.value in
    reply.long

pub slice_bounds-saved-start : goal.slice_bounds-saved-start
slice_bounds-saved-start g c =
    let bytes = ap (command_bytes CC_CONTEXT_SAVE) c.to_be_bytes.ensures in
    let is = c.as_slice.ensures.same ∙ c.command_of-command.ensures ∙ bytes in
    let reply = save_reply g.D.Device.CONTEXTS c.args.handle _ c.ask.new.scratch c.as_slice-2.result.now c.ranges.handle.fits c.requires.session is
    c.in_ok-ask.ensures.success c.as_slice-2.ensures.value in
    reply.long

pub unwrap-requires : goal.unwrap-requires
unwrap-requires g c =
    let bytes = ap (command_bytes CC_CONTEXT_SAVE) c.to_be_bytes.ensures in
    let is = c.as_slice.ensures.same ∙ c.command_of-command.ensures ∙ bytes in
    let reply = save_reply g.D.Device.CONTEXTS c.args.handle _ c.ask.new.scratch c.as_slice-2.result.now c.ranges.handle.fits c.requires.session is
    c.in_ok-ask.ensures.success c.as_slice-2.ensures.value in
    c.extend_from_slice.ensures.succeeds
    (omega (arith, c.clear.ensures.len, c.clear.ensures.capacity, c.requires.room, ap length reply.rest, reply.known.most))

pub number_of-requires : goal.number_of-requires
number_of-requires g c =
    let bytes = ap (command_bytes CC_CONTEXT_SAVE) c.to_be_bytes.ensures in
    let is = c.as_slice.ensures.same ∙ c.command_of-command.ensures ∙ bytes in
    let reply = save_reply g.D.Device.CONTEXTS c.args.handle _ c.ask.new.scratch c.as_slice-2.result.now c.ranges.handle.fits c.requires.session is
    c.in_ok-ask.ensures.success c.as_slice-2.ensures.value in
    omega (arith, ap length reply.rest, reply.known.long)

pub returns-clause-saved : goal.returns-clause-saved
returns-clause-saved g c =
    let state = (g.D.Device.seen c.args.device.now).state in
    let handle = c.args.handle in
    let last = c.ask.new.scratch in
    let answer = c.as_slice-2.result.now in
    let bytes = ap (command_bytes CC_CONTEXT_SAVE) c.to_be_bytes.ensures in
    let is = c.as_slice.ensures.same ∙ c.command_of-command.ensures ∙ bytes in
    let reply = save_reply g.D.Device.CONTEXTS handle _ last answer c.ranges.handle.fits c.requires.session is c.in_ok-ask.ensures.success
    c.as_slice-2.ensures.value in
    let told = save_answered _ _ handle _ last c.ranges.handle.fits c.requires.session c.requires.told is c.in_ok-ask.ensures.ok in
    let number = c.number_of.ensures ∙ ap (λ (bytes : List ℕ). from_be_bytes w64 (take 8 bytes)) reply.rest in
    let kept = copied (is_ok c.extend_from_slice.result) c.clear.new.self.items c.extend_from_slice.new.self.items
    (take (length answer - 10) (drop 10 answer)) (ap is_ok c.unwrap.ensures) c.extend_from_slice.ensures.items c.clear.ensures.items
    ∙ reply.rest in
    record {
      state = told.state_is;
      counted = subst (λ (n : ℕ). IfSome state (λ slots. n ≡ slots.counter)) (sym number) told.number;
      same = subst (λ (n : ℕ). IfSome state (IsSavedIn handle n c.extend_from_slice.new.self.items)) (sym number)
          (subst (λ (context : List ℕ). IfSome state (IsSavedIn handle (number_in last) context)) (sym kept) told.same);
      told = told.context;
      kept = subst (λ (n : ℕ). IsContext g.D.Device.CONTEXTS handle n c.extend_from_slice.new.self.items) (sym number)
          (subst (λ (context : List ℕ). IsContext g.D.Device.CONTEXTS handle (number_in last) context) (sym kept) reply.context);
      last = c.in_ok-ask.ensures.last;
      success = subst (λ (asked : List ℕ). Succeeds g.D.Device.CONTEXTS asked last) is c.in_ok-ask.ensures.success;
      bytes = kept;
      begins = c.number_of.ensures ∙ ap context_number reply.rest;
    }
