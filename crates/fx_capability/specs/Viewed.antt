-- What a client is told of its own, whatever the device keeps.
use Rattle.std.specs.Prelude.{◌≡◌, ℕ, Bool, List, ◌++◌, Result, Ok, Err, MatchBool}
use Rattle.tab_spec.specs.Persist.{Persist}
use Rattle.fx_capability.specs.declared.viewed.Viewed.{Viewed}
use Rattle.fx_capability.specs.declared.viewed.Viewed.TheVariants.{Answered, Refused, Device}

-- appends what is told, which is the same over all that may be kept
abbrev pub AppendsAlways : (Persist → Result (List ℕ) ℕ) → List ℕ → List ℕ → Type 0
AppendsAlways told reply reply_new = (params : List ℕ) × ((persist : Persist) → told persist ≡ Ok params) × (reply_new ≡ reply ++ params)

-- appends it where a test holds, and else nothing
abbrev pub AppendsWhere : Bool → (Persist → Result (List ℕ) ℕ) → List ℕ → List ℕ → Type 0
AppendsWhere holds told reply reply_new = MatchBool holds (AppendsAlways told reply reply_new) (reply_new ≡ reply)

-- what is told is appended or refused over whatever is kept; or it's left to the device, and nothing is appended
abbrev pub IsViewed : Viewed → (Persist → Result (List ℕ) ℕ) → List ℕ → List ℕ → Type 0
IsViewed Answered told reply reply_new = AppendsAlways told reply reply_new
IsViewed (Refused code) told reply reply_new = ((persist : Persist) → told persist ≡ Err code) × (reply_new ≡ reply)
IsViewed Device told reply reply_new = reply_new ≡ reply
