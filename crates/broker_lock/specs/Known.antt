-- What is known of a history: what it stands on, and the entries of some clients.
use Rattle.std.specs.Prelude.{◌≡◌, ℕ, ◌==◌, Bool, true, List, Option, Some, None}
use Rattle.std.specs.List.{list_any, filter}
use Rattle.tab_spec.specs.declared.numbers.Numbers.{Numbers}
use Rattle.tab_spec.specs.Persist.{Persist}
use Rattle.tab_spec.specs.declared.contexts.ContextLimits.{ContextLimits}
use Rattle.history_spec.specs.Entry.{Entry, is_close_kind, own}
use Rattle.history_spec.specs.Told.{Limits}

-- what a history begins from: what its device keeps, and the numbers that this has
pub record Origin : Type 0 where
  pub persist : Persist
  pub numbers : Numbers

-- the same, where the device tells what it keeps
abbrev pub origin_of : Option Persist → Numbers → Option Origin
origin_of None numbers = None
origin_of (Some persist) numbers = Some (record { persist = persist; numbers = numbers })

-- what stays as it is while a value keeps its history
pub record Fixed : Type 0 where
  -- what the history begins from, where that is told
  pub base : Option Origin
  -- the most bytes that the history may keep
  pub limit : ℕ
  -- the device's fault count at the start
  pub began : ℕ
  -- what the contexts of the device may be
  pub contexts : ContextLimits

-- what a client may be told by these
abbrev pub limits_of : Fixed → Limits
limits_of fixed = record { bytes = fixed.limit; contexts = fixed.contexts }

-- legal over what it begins from, where that is told. Which histories are legal is said by what keeps the history
abbrev pub IsLegalOver : (legal : Origin → List Entry → Type 0) → Option Origin → List Entry → Type 0
IsLegalOver legal base history = (o : Origin) → base ≡ Some o → legal o history

-- what it begins from isn't told
abbrev pub IsUntold : Fixed → Type 0
IsUntold fixed = fixed.base ≡ None

-- whether a client is known by these entries: one of them is its own
abbrev pub knows : List Entry → ℕ → Bool
knows known client = list_any (λ e. e.client == client) known

-- whether one of them is the client's Close
abbrev pub has_closed : List Entry → ℕ → Bool
has_closed known client = list_any (λ e. is_close_kind e.kind) (own known client)

-- what a history has of all clients that are known by these entries
abbrev pub of_known : List Entry → List Entry → List Entry
of_known known history = filter (λ e. knows known e.client) history

-- of each client that is known, the history has just the known entries, in their order
abbrev pub HasJustKnown : List Entry → List Entry → Type 0
HasJustKnown known history = (client : ℕ) → knows known client ≡ true → own history client ≡ own known client
