-- What either thread of a connection needs to use what both share.
use Rattle.std.specs.Prelude.{◌≡◌, true, []}
use Rattle.crossbeam_channel.specs.Claims.{IsSeatAt, view}
use Rattle.crossbeam_channel.specs.Ends.{sends_on}
use Rattle.cancel_words.specs.View.{Role, of_reader, of_worker}
use Rattle.connection_core.specs.declared.between.Between.{Between}
use Rattle.connection_core.specs.declared.between.Side.{Side}
use Rattle.connection_core.specs.Line.{sending, taking}

-- its passes and its seat are of what this connection shares
pub record IsSideOf (between : Between) (role : Role) (side : Side) : Type 0 where
  pub line : IsSeatAt (sends_on between.line.sender) side.pass
  pub spares : IsSeatAt (sends_on between.spares.sender) side.spare_pass
  pub word : side.seat.word ≡ between.word
  pub role_is : side.seat.role ≡ role

-- the reader's, and the worker's
pub record IsReaders (between : Between) (side : Side) : Type 0 where
  pub of : IsSideOf between of_reader side
  pub sends : (view side.pass).sends ≡ true

pub record IsWorkers (between : Between) (side : Side) : Type 0 where
  pub of : IsSideOf between of_worker side
  pub takes : (view side.pass).takes ≡ true

-- before either did anything
pub record IsFreshReaders (between : Between) (side : Side) : Type 0 where
  pub of : IsSideOf between of_reader side
  pub unsent : view side.pass ≡ sending []
  pub unraised : side.seat.raised ≡ []

pub record IsFreshWorkers (between : Between) (side : Side) : Type 0 where
  pub of : IsSideOf between of_worker side
  pub untaken : view side.pass ≡ taking []
  pub unloaded : side.seat.loaded ≡ []
