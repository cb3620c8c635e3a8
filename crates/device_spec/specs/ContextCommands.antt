-- The bytes of the commands that move objects and sessions out of a device and into it (Part 3, "Context Management"), as a broker
-- sends them: without authorizations.
use Rattle.std.specs.Prelude.{ℕ, ◌+◌, List, ◌++◌, length}
use Rattle.std.specs.Int.{w16, w32, to_be_bytes}
use Rattle.tab_spec.specs.declared.TheConstants.{HEADER_BYTES, ST_NO_SESSIONS, CC_CONTEXT_SAVE, CC_CONTEXT_LOAD, CC_FLUSH_CONTEXT}

-- tag, size and code, and what follows them
abbrev pub command_bytes : ℕ → List ℕ → List ℕ
command_bytes code body = to_be_bytes w16 ST_NO_SESSIONS ++ to_be_bytes w32 (HEADER_BYTES + length body) ++ to_be_bytes w32 code ++ body

abbrev pub context_save_command : ℕ → List ℕ
context_save_command handle = command_bytes CC_CONTEXT_SAVE (to_be_bytes w32 handle)

abbrev pub flush_context_command : ℕ → List ℕ
flush_context_command handle = command_bytes CC_FLUSH_CONTEXT (to_be_bytes w32 handle)

-- with the bytes of a TPMS_CONTEXT
abbrev pub context_load_command : List ℕ → List ℕ
context_load_command context = command_bytes CC_CONTEXT_LOAD context
