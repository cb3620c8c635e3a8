-- How the reading of a response fails, step by step.
use Rattle.std.specs.Prelude.{◌≡◌, ℕ, true, List, Option}
use Rattle.tab_spec.specs.Count.{Rose}
use Rattle.device_link.specs.Link.{IsBadStart, IsEndOfSource, is_part}
use Rattle.device_link.specs.declared.fault.LinkFault.{LinkFault}
use Rattle.device_link.specs.declared.fault.LinkFault.TheVariants as causes

-- why no more bytes could be read: the source's count rose, or nothing is left there
abbrev pub PullFails : LinkFault → (old_faults new_faults : ℕ) → Option (List ℕ) → Type 0
PullFails causes.Absent old_faults new_faults left = ⊥
PullFails causes.Source old_faults new_faults left = Rose old_faults new_faults
PullFails causes.Sink old_faults new_faults left = ⊥
PullFails causes.End old_faults new_faults left = IsEndOfSource left × (new_faults ≡ old_faults)
PullFails (causes.Size size) old_faults new_faults left = ⊥

-- why these bytes are all that was read of a response
abbrev pub ReceiveFails : LinkFault → (old_faults new_faults : ℕ) → Option (List ℕ) → List ℕ → Type 0
ReceiveFails causes.Absent old_faults new_faults left bytes = ⊥
ReceiveFails causes.Source old_faults new_faults left bytes = Rose old_faults new_faults × (is_part bytes ≡ true)
ReceiveFails causes.Sink old_faults new_faults left bytes = ⊥
ReceiveFails causes.End old_faults new_faults left bytes = IsEndOfSource left × (new_faults ≡ old_faults) × (is_part bytes ≡ true)
ReceiveFails (causes.Size size) old_faults new_faults left bytes = IsBadStart size bytes × (new_faults ≡ old_faults)
