use Rattle.std.proofs.Common.{◌≡◌, ◌≤◌, ◌++◌, length, take, drop}
use Rattle.std.specs.List.{filter}
use Rattle.tab_spec.specs.Admission.{is_session_handle}
use Rattle.client_machine.proofs.preparing.sessions_of.Given as goal

abbrev pub invariant-loop-handle : goal.invariant-loop-handle
invariant-loop-handle l =
    (l.count ≤ l.handle-index) × (length l.named ≡ 3)
    × (take l.count l.named ++ filter is_session_handle (drop l.handle-index l.handle-items) ≡ filter is_session_handle l.handle-items)
