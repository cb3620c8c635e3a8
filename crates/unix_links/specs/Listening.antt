-- What an acceptor over a Unix socket shows, and the ends of a new connection.
use Rattle.std.specs.Prelude.{◌≡◌, ℕ, Bool, List, Option, None}
use Rattle.link_port.specs.Standard.{Counted}
use Rattle.unix_links.specs.declared.link.LinkStream.{LinkStream}

-- whether there is a socket, and how often the acceptor has failed
pub record Listening : Type 0 where
  pub is_bound : Bool
  pub faults : ℕ

-- one that hasn't failed yet
abbrev pub new_listening : Bool → Listening
new_listening is_bound = record { is_bound = is_bound; faults = 0 }

-- neither end has failed yet
abbrev pub HaveNoFaults : {S : Type 0} → {K : Type 0} → Counted S → Counted K → Type 0
HaveNoFaults source sink = (source.faults ≡ 0) × (sink.faults ≡ 0)

-- what an acceptor tells that tells no connection
abbrev pub untold : Option (List (Counted LinkStream × Counted LinkStream))
untold = None
