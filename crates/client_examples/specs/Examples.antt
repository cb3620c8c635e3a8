-- Worked examples: which commands are sent, by their bytes.
use Rattle.std.specs.Prelude.{ℕ, Bool, true, false, List, ◌++◌, Option, Some, None, Result, Ok, Err}
use Rattle.tab_spec.specs.declared.TheConstants.{CC_CONTEXT_LOAD}
use Rattle.tab_spec.specs.declared.Admitted.{Admitted}
use Rattle.tab_spec.specs.Admission.{Tables, client_admitted}
use Rattle.tab_examples.specs.Examples.{frame, u32}
use Rattle.tab_spec.specs.declared.contexts.TheConstants.{PROFILE_CONTEXTS}
use Rattle.tab_spec.specs.declared.contexts.ContextLimits.{ContextLimits}
use Rattle.client_laws.specs.Ready.{is_sent}

-- a client with an object and a session under each handle, and room for another object
abbrev pub everything : Tables
everything = record { has_object = λ handle. true; has_session = λ handle. true; is_full = false; contexts = PROFILE_CONTEXTS }

abbrev pub sent_where : ContextLimits → Result Admitted ℕ → List ℕ → Option Bool
sent_where contexts (Err code) bytes = None
sent_where contexts (Ok a) bytes = Some (is_sent contexts a bytes)

-- whether this client's command is sent to a device with these contexts, where it is admitted
abbrev pub is_sent_to : ContextLimits → List ℕ → Option Bool
is_sent_to contexts bytes = sent_where contexts (client_admitted (record everything { contexts = contexts }) bytes) bytes

-- the same of a device of the profile
abbrev pub is_sent_for : List ℕ → Option Bool
is_sent_for bytes = is_sent_to PROFILE_CONTEXTS bytes

-- ContextLoad, with this savedHandle and what follows it
abbrev pub load_of : ℕ → List ℕ → List ℕ
load_of saved_handle more = frame 0x8001 CC_CONTEXT_LOAD (u32 0 ++ u32 7 ++ u32 saved_handle ++ more)
