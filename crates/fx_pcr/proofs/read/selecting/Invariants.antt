use Rattle.std.proofs.Common.{◌≡◌, take}
use Rattle.effect_spec.specs.Pcr.{selecting}
use Rattle.fx_pcr.proofs.read.selecting.Given as goal

-- the PCRs so far are selected
abbrev pub invariant-loop-pcr : goal.invariant-loop-pcr
invariant-loop-pcr l = l.bits ≡ selecting (take l.pcr-index l.pcrs)
