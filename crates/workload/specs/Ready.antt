-- What stays true of a workload's source.
use Rattle.std.specs.Prelude.{◌≡◌, ◌<◌, ◌≤◌, ℕ, ◌+◌, ◌*◌, ◌^◌}

-- so many bytes of a line of this length were given, and so many lines are to come from a place of stream 0 on: the
-- line isn't given whole unless it is the last
pub record IsLineGiven (length given stream place lines : ℕ) : Type 0 where
  pub within : given ≤ length
  pub more : given ≡ length → lines ≡ 0
  pub stream_is : stream ≡ 0
  pub room : place + 3 * lines < 2 ^ 68
