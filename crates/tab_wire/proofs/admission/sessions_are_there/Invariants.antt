use Rattle.std.proofs.Common.{◌≡◌, drop}
use Rattle.tab_spec.specs.Admission.{missing_session}
use Rattle.tab_wire.proofs.admission.sessions_are_there.Given as goal

-- whether a session is missing is seen by what is left
abbrev pub invariant-loop-index : goal.invariant-loop-index
invariant-loop-index g l = missing_session (g.T.Tables.tables l.tables) 0 l.auths ≡ missing_session (g.T.Tables.tables l.tables) l.index (drop l.index l.auths)
