-- What the device of a target tells at first.
use Rattle.std.specs.Prelude.{[], Option, None}
use Rattle.tab_spec.specs.Numbers.{profile_numbers}
use Rattle.tab_spec.specs.declared.contexts.ContextLimits.{ContextLimits}
use Rattle.tab_spec.specs.declared.contexts.TheConstants.{PROFILE_CONTEXTS, TPM_CONTEXTS}
use Rattle.device_port.specs.Device.{Seen}
use Rattle.device_memory.specs.Memory.{fresh_device, told_by}
use Rattle.broker_lock.specs.Known.{Origin}
use Rattle.broker_core.specs.Broker.{told_origin}
use Rattle.daemon_ends.specs.declared.target.Target.{Target}
use Rattle.daemon_ends.specs.declared.target.Target.TheVariants as targets

-- what the contexts may be of the device that is run for it: those of the profile, and larger ones
-- of a TPM that needn't be of the profile
abbrev pub contexts_of : {S K : Type 0} → Target S K → ContextLimits
contexts_of (targets.Memory seed) = PROFILE_CONTEXTS
contexts_of (targets.Link source sink) = PROFILE_CONTEXTS
contexts_of (targets.Tpm source sink) = TPM_CONTEXTS
contexts_of targets.Unreachable = PROFILE_CONTEXTS

-- what a device tells that shows no state, before its first command
abbrev pub unseen : Seen
unseen = record { base = None; state = None; faults = 0; trace = [] }

-- what the device of a target tells at first. One in memory was never used, and has the profile's
-- numbers
abbrev pub seen_at : {S K : Type 0} → Target S K → Seen
seen_at (targets.Memory seed) = told_by (fresh_device profile_numbers seed [])
seen_at (targets.Link source sink) = unseen
seen_at (targets.Tpm source sink) = unseen
seen_at targets.Unreachable = unseen

-- what its history begins from, where that is told
abbrev pub origin_at : {S K : Type 0} → Target S K → Option Origin
origin_at target = told_origin (seen_at target).base (seen_at target).state
