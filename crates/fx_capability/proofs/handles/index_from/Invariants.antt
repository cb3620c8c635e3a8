use Rattle.std.proofs.Common.{◌≡◌, map, take}
use Rattle.tab_spec.specs.NvIndex.{NvIndex}
use Rattle.effect_spec.specs.Capabilities.{upwards}
use Rattle.fx_capability.specs.Lists.{number_from}
use Rattle.fx_capability.proofs.handles.index_from.Given as goal

-- the least of the indexes so far that isn't below `least`
abbrev pub invariant-loop-item : goal.invariant-loop-item
invariant-loop-item l = l.found ≡ number_from l.least (upwards (take l.item-index (map (λ (item : NvIndex). item.public.index) l.p.nv)))
