-- What is seen of a watched device at a link.
use Rattle.std.specs.Prelude.{ℕ, List, length, Option, None}
use Rattle.tab_spec.specs.Frame.{code_of}
use Rattle.device_link.specs.Link.{DeviceAtLink}
use Rattle.device_link.specs.declared.answered.Answered.{Answered}

-- the device, and what it answered to the newest command, if it did
pub record WatchedAtLink (S K : Type 0) : Type 0 where
  pub device : DeviceAtLink S K
  pub newest : Option Answered

-- one before the first transmission that is watched
abbrev pub new_watched : {S K : Type 0} → DeviceAtLink S K → WatchedAtLink S K
new_watched device = record { device = device; newest = None }

-- a command that was answered by this response
abbrev pub answer_of : List ℕ → List ℕ → Answered
answer_of command response = record { command = code_of command; response = code_of response; size = length response }
