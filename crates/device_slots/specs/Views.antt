-- Which objects stand in slots, and what the session numbers are.
use Rattle.std.specs.Prelude.{ℕ, ◌==◌, ◌&&◌, not, Bool, List, Option, None, get_or, map, option_map}
use Rattle.tab_spec.specs.declared.Auths.{Auths}
use Rattle.tab_spec.specs.declared.Shape.{Shape}
use Rattle.tab_spec.specs.declared.TheConstants.{HT_TRANSIENT}
use Rattle.tab_spec.specs.Admission.{is_session_handle}
use Rattle.tab_spec.specs.Object as object
use Rattle.tab_spec.specs.Session as session
use Rattle.tab_spec.specs.Shape.{number_of_session, octet_of}
use Rattle.effect_spec.specs.Operands.{command_auth}
use Rattle.device_spec.specs.Slots as slots
use Rattle.fx_table.specs.Views.{creates}
use Rattle.tab_values.specs.declared.object.Object.{Object}
use Rattle.tab_values.specs.Views.{object_of, session_of}
use Rattle.device_slots.specs.declared.sessions.Place.{Place}
use Rattle.device_slots.specs.declared.sessions.Place.TheVariants.{Inactive, Loaded, Saved}

abbrev pub slots_of : List (Option Object) → List (Option object.Object)
slots_of slots = map (option_map object_of) slots

abbrev pub place_of : Place → slots.SessionPlace
place_of Inactive = slots.inactive
place_of (Loaded octet s) = slots.loaded octet (session_of s)
place_of (Saved octet number) = slots.saved octet number

abbrev pub places_of : List Place → List slots.SessionPlace
places_of places = map place_of places

-- the object of a handle, by what stands in the slots
abbrev pub object_under : List (Option object.Object) → ℕ → Option object.Object
object_under held handle = get_or held (slots.slot_of handle) None

-- the loaded session of a handle, by what the session numbers are
abbrev pub session_under : List slots.SessionPlace → ℕ → Option session.Session
session_under places handle =
    slots.loaded_in (octet_of handle) (get_or places (number_of_session handle) slots.inactive)

-- whether a handle is none of an object or a session
abbrev pub is_plain : ℕ → Bool
is_plain handle = not (octet_of handle == HT_TRANSIENT) && not (is_session_handle handle)

-- whether a command names only what all clients share, and creates nothing
abbrev pub is_shared : Shape → Auths → Bool
is_shared shape auths =
    not (creates shape.row.code) && is_plain (get_or shape.handles 0 0) && is_plain (get_or shape.handles 1 0)
    && not (is_session_handle (command_auth auths).session)
