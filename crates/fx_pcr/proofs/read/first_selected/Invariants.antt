use Rattle.std.proofs.Common.{◌≡◌, ◌≤◌, length, take}
use Rattle.tab_spec.specs.declared.TheConstants.{PCRS}
use Rattle.tab_spec.specs.Values.{selected_below}
use Rattle.fx_pcr.proofs.read.first_selected.Given as goal

-- the selected PCRs below this one stand at the front
abbrev pub invariant-loop-pcr : goal.invariant-loop-pcr
invariant-loop-pcr l = record {
  size : length l.pcrs ≡ PCRS;
  few : l.count ≤ l.pcr;
  found : take l.count l.pcrs ≡ selected_below l.bits l.pcr;
}
