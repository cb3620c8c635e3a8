use Rattle.std.proofs.Common.{◌≡◌, ◌+◌, ◌*◌, ◌++◌, length, take}
use Rattle.effect_spec.specs.Pcr.{digests}
use Rattle.fx_pcr.proofs.read.put_digests.Given as goal

-- the digests of the PCRs so far were put, of 34 bytes each
abbrev pub invariant-loop-pcr : goal.invariant-loop-pcr
invariant-loop-pcr l = record {
  put : l.reply ≡ l.fn.reply ++ digests l.fn.p.pcrs (take l.pcr-index l.pcrs);
  size : length l.reply ≡ length l.fn.reply + 34 * l.pcr-index;
}
