-- What a client has, what it may name, and what a command leaves.
use Rattle.std.specs.Prelude.{◌≡◌, ◌≤◌, ℕ, true, false, List, length, Option, Some, None, is_some, Result, Ok, map, option_map, MatchResult}
use Rattle.tab_spec.specs.Admission.{Tables}
use Rattle.tab_spec.specs.Object as object
use Rattle.tab_spec.specs.Session.{Session}
use Rattle.tab_spec.specs.declared.TheConstants.{TRANSIENT_FIRST}
use Rattle.tab_spec.specs.declared.contexts.TheConstants.{PROFILE_CONTEXTS}
use Rattle.effect_spec.specs.Contexts.{Context}
use Rattle.effect_spec.specs.Operands.{Created, nothing, new_object, new_session}
use Rattle.history_spec.specs.Table.{held_under, is_full}
use Rattle.world_spec.specs.World.{ClientState, Owned, load_parameters, owned_under, session_of}
use Rattle.tab_values.specs.declared.object.Object.{Object}
use Rattle.tab_values.specs.Views.{object_of}
use Rattle.plain_machine.specs.declared.seen.Seen.{Seen}
use Rattle.plain_machine.specs.declared.shared.Shared.{Shared}
use Rattle.plain_machine.specs.declared.step_error.StepError.{StepError}
use Rattle.plain_machine.specs.declared.step_error.StepError.TheVariants.{PickRefused, Memory}
use Rattle.plain_machine.specs.Owners.{owners_of}

abbrev pub objects_of : List (Option Object) → List (Option object.Object)
objects_of places = map (option_map object_of) places

-- what a command of a client with these objects is run over
abbrev pub state_of : Shared → List (Option object.Object) → ClientState
state_of shared objects = record {
  persist = shared.persist;
  most = shared.most;
  objects = objects;
  sessions = owners_of shared.sessions.items;
  left = shared.left;
  object_sequence = shared.object_sequence;
  session_sequence = shared.session_sequence;
}

-- ---- what a client may name

abbrev pub object_seen : Seen → ℕ → Option object.Object
object_seen seen handle = held_under (objects_of seen.places.now) handle

-- of a handle, a session in use or saved, and a session in use
abbrev pub owned_seen : Seen → ℕ → Option Owned
owned_seen seen handle = owned_under (owners_of seen.sessions.now) seen.client handle

abbrev pub session_seen : Seen → ℕ → Option Session
session_seen seen handle = session_of (owners_of seen.sessions.now) seen.client handle

abbrev pub tables_seen : Seen → Tables
tables_seen seen = record {
  has_object = λ handle. is_some (object_seen seen handle);
  has_session = λ handle. is_some (session_seen seen handle);
  is_full = is_full (objects_of seen.places.now);
  contexts = PROFILE_CONTEXTS;
}

-- ---- what a command leaves

-- where a command made something, there is a place for its handle in the response, and for an object one in the table
abbrev pub HasPlaceForMade : Created → List (Option object.Object) → List ℕ → Type 0
HasPlaceForMade nothing objects reply = Unit {0}
HasPlaceForMade (new_object o) objects reply = (is_full objects ≡ false) × (14 ≤ length reply)
HasPlaceForMade (new_session s) objects reply = 14 ≤ length reply

-- where these parameters of ContextLoad have the context of an object, there is room for the object
abbrev pub HasLoadRoom : List ℕ → List (Option object.Object) → Type 0
HasLoadRoom params objects = (context : Context) → load_parameters params ≡ Ok context → context.saved_handle ≡ TRANSIENT_FIRST
    → is_full objects ≡ false

-- the step isn't one that the command may have, or there is one and it was for want of memory that it wasn't done
abbrev pub StepFails : {S : Type 0} → StepError → Option S → Type 0
StepFails PickRefused step = step ≡ None
StepFails Memory step = is_some step ≡ true

-- the step was done, and left this; or it failed
abbrev pub StepRan : {A S : Type 0} → Result A StepError → Option S → S → Type 0
StepRan result step after =
    MatchResult result (λ done. step ≡ Some after) (λ error. StepFails error step)
