-- The sessions of clients, as they are kept and as they are seen.
use Rattle.std.specs.Prelude.{List, ℕ, Option, Some, None, map, option_map, if◌then◌else◌}
use Rattle.tab_spec.specs.Session.{Session}
use Rattle.world_spec.specs.World as worlds
use Rattle.tab_values.specs.Views.{session_of}
use Rattle.plain_machine.specs.declared.sessions.Owned.{Owned}

abbrev pub owned_of : Owned → worlds.Owned
owned_of o = record { client = o.client; octet = o.octet; session = session_of o.session; handed = o.handed }

abbrev pub owners_of : List (Option Owned) → List (Option worlds.Owned)
owners_of places = map (option_map owned_of) places

-- a session that was saved, where these bytes are the context that was handed out for it
abbrev pub saved_as : List ℕ → Option worlds.Owned → Option Session
saved_as bytes None = None
saved_as bytes (Some place) = if worlds.is_handed bytes place.handed then Some place.session else None
