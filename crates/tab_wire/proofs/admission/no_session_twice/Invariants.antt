use Rattle.std.proofs.Common.{◌≡◌}
use Rattle.tab_spec.specs.Admission.{repeated_session}
use Rattle.tab_wire.proofs.Sessions.{repeated_from}
use Rattle.tab_wire.proofs.admission.no_session_twice.Given as goal

-- whether a session is repeated is seen by what is left
abbrev pub invariant-loop-index : goal.invariant-loop-index
invariant-loop-index l = repeated_session l.handles 1 l.auths ≡ repeated_from l.handles l.auths l.index
