-- Which value a struct is.
use Rattle.effect_spec.specs.Capabilities as capabilities
use Rattle.fx_capability.specs.declared.limits.Limits.{Limits}
use Rattle.fx_capability.specs.declared.holdings.HeldSession.{HeldSession}
use Rattle.fx_capability.specs.declared.asked.Asked.{Asked}

abbrev pub limits_of : Limits → capabilities.CapabilityLimits
limits_of l = record { objects = l.objects; loaded = l.loaded; active = l.active; gap = l.gap; counts_active = l.counts_active }

abbrev pub listed_of : HeldSession → capabilities.Listed
listed_of s = record { handle = s.handle; in_use = s.in_use }

abbrev pub asked_of : Asked → capabilities.Asked
asked_of a = record { capability = a.capability; property = a.property; count = a.count }
