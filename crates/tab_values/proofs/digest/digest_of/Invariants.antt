use Rattle.tab_hash.specs.Adding.{HasAdded}
use Rattle.tab_values.proofs.Selecting.{values_below}
use Rattle.tab_values.proofs.digest.digest_of.Given as goal

-- the selected PCRs so far were added
abbrev pub invariant-loop-pcr : goal.invariant-loop-pcr
invariant-loop-pcr l = HasAdded l.sum (values_below l.p.pcrs l.bits l.pcr)
