-- What the contexts of a device may be (Part 2, "TPMS_CONTEXT").
use Rattle.std.specs.Prelude.{ℕ, ◌==◌, ◌||◌, ◌&&◌, nat_le, Bool}
use Rattle.tab_spec.specs.declared.TheConstants.{MOST_CONTEXT_BYTES, TRANSIENT_FIRST, TRANSIENT_ST_CLEAR}
use Rattle.tab_spec.specs.declared.contexts.ContextLimits.{ContextLimits}

-- whether a savedHandle is that of an object
abbrev pub is_saved_object : ContextLimits → ℕ → Bool
is_saved_object contexts handle = (contexts.st_clear && handle == TRANSIENT_ST_CLEAR) || handle == TRANSIENT_FIRST

-- whether a broker can keep the longest of them, and load it again
abbrev pub are_short : ContextLimits → Bool
are_short contexts = nat_le contexts.object_bytes MOST_CONTEXT_BYTES && nat_le contexts.session_bytes MOST_CONTEXT_BYTES
