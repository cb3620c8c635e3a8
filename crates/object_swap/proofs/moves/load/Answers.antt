use Rattle.std.proofs.Common.{◌≡◌, ap, sym, ◌∙◌, subst, arith, List, ℕ, true, length, take, drop}
use Rattle.std.specs.Prelude.{IfSome, Ok, ◌==◌}
use Rattle.std.specs.Int.{w32, from_be_bytes}
use Rattle.tab_spec.specs.declared.TheConstants.{HT_TRANSIENT}
use Rattle.tab_spec.specs.Shape.{octet_of}
use Rattle.device_spec.specs.Answers.{profile_takes as takes}
use Rattle.device_spec.specs.Slots.{slot_step}
use Rattle.device_port.specs.Device.{Answered}
use Rattle.device_port.specs.Own.{Asks, IsOwn, Succeeds}
use Rattle.device_port.proofs.Sending.{asks_ok}
use Rattle.object_swap.specs.Moves.{IsLeast}
use Rattle.object_swap.proofs.Commands.{few_bytes, last_handle, load_is_own, loaded_handle}
use Rattle.object_swap.proofs.Told.{load_answered, load_told}
use Rattle.object_swap.proofs.moves.load.Goals as goal

pub load_command-command-requires : goal.load_command-command-requires
load_command-command-requires g c = few_bytes g.D.Device.CONTEXTS c.args.context.now g.met.D.Device.short c.requires.kept

pub ask-requires-clause-own : goal.ask-requires-clause-own
ask-requires-clause-own g c =
    let is = c.as_slice.ensures.same ∙ c.load_command-command.ensures in
    subst (λ (bytes : List ℕ). IsOwn g.D.Device.CONTEXTS bytes) (sym is) (load_is_own g.D.Device.CONTEXTS c.args.context.now g.met.D.Device.short c.requires.kept)

pub ask-requires-clause-told : goal.ask-requires-clause-told
ask-requires-clause-told g c =
    let is = c.as_slice.ensures.same ∙ c.load_command-command.ensures in
    subst (λ (bytes : List ℕ). IfSome (g.D.Device.seen c.args.device.now).state (λ slots. takes true true bytes (slot_step slots bytes).1 ≡ true)) (sym is)
    (load_told _ c.args.context.now (few_bytes g.D.Device.CONTEXTS c.args.context.now g.met.D.Device.short c.requires.kept) c.requires.told)

pub handle_of-requires : goal.handle_of-requires
handle_of-requires g c =
    let is = c.as_slice.ensures.same ∙ c.load_command-command.ensures in
    let handled = loaded_handle g.D.Device.CONTEXTS c.args.context.now c.ask.new.scratch c.requires.kept
    (subst (λ (bytes : List ℕ). Succeeds g.D.Device.CONTEXTS bytes c.ask.new.scratch) is c.in_ok-ask.ensures.success) in
    omega (arith, handled.long, ap length c.as_slice-2.ensures.value)

pub returns-clause-state : goal.returns-clause-state
returns-clause-state g c =
    let is = c.as_slice.ensures.same ∙ c.load_command-command.ensures in
    (load_answered _ _ c.args.context.now c.ask.new.scratch
    (few_bytes g.D.Device.CONTEXTS c.args.context.now g.met.D.Device.short c.requires.kept) c.requires.told
    (subst (λ (bytes : List ℕ). Answered (g.D.Device.seen c.args.device.now).state bytes (g.D.Device.seen c.ask.new.device).state c.ask.new.scratch) is c.in_ok-ask.ensures.ok)).state_is

pub returns-clause-last : goal.returns-clause-last
returns-clause-last g c =
    let is = c.as_slice.ensures.same ∙ c.load_command-command.ensures in
    let handled = loaded_handle g.D.Device.CONTEXTS c.args.context.now c.ask.new.scratch c.requires.kept
    (subst (λ (bytes : List ℕ). Succeeds g.D.Device.CONTEXTS bytes c.ask.new.scratch) is c.in_ok-ask.ensures.success) in
    last_handle _ c.ask.new.scratch _ c.in_ok-ask.ensures.last handled.long
    (c.handle_of.ensures ∙ ap (λ (reply : List ℕ). from_be_bytes w32 (take 4 (drop 10 reply))) c.as_slice-2.ensures.value)

pub returns-clause-least : goal.returns-clause-least
returns-clause-least g c =
    let is = c.as_slice.ensures.same ∙ c.load_command-command.ensures in
    let told = load_answered _ _ c.args.context.now c.ask.new.scratch
    (few_bytes g.D.Device.CONTEXTS c.args.context.now g.met.D.Device.short c.requires.kept) c.requires.told
    (subst (λ (bytes : List ℕ). Answered (g.D.Device.seen c.args.device.now).state bytes (g.D.Device.seen c.ask.new.device).state c.ask.new.scratch) is c.in_ok-ask.ensures.ok) in
    subst (λ (handle : ℕ). IsLeast (g.D.Device.seen c.args.device.now).state handle)
    (sym (c.handle_of.ensures ∙ ap (λ (reply : List ℕ). from_be_bytes w32 (take 4 (drop 10 reply))) c.as_slice-2.ensures.value)) told.least

pub returns-clause-transient : goal.returns-clause-transient
returns-clause-transient g c =
    let is = c.as_slice.ensures.same ∙ c.load_command-command.ensures in
    let handled = loaded_handle g.D.Device.CONTEXTS c.args.context.now c.ask.new.scratch c.requires.kept
    (subst (λ (bytes : List ℕ). Succeeds g.D.Device.CONTEXTS bytes c.ask.new.scratch) is c.in_ok-ask.ensures.success) in
    subst (λ (handle : ℕ). (octet_of handle == HT_TRANSIENT) ≡ true)
    (sym (c.handle_of.ensures ∙ ap (λ (reply : List ℕ). from_be_bytes w32 (take 4 (drop 10 reply))) c.as_slice-2.ensures.value)) handled.transient

pub returns-clause-asks : goal.returns-clause-asks
returns-clause-asks g c =
    let seen = g.D.Device.seen in
    let is = c.as_slice.ensures.same ∙ c.load_command-command.ensures in
    subst (λ (bytes : List ℕ). Asks g.D.Device.CONTEXTS seen c.args.device.now c.ask.new.device bytes (Ok c.handle_of.result)) is
    (asks_ok g.D.Device.CONTEXTS seen _ _ _ tt c.handle_of.result c.in_ok-ask.ensures.asks)
