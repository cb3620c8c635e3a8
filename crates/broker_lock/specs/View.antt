-- What a seat at a lock's table knows.
use Rattle.std.specs.Prelude.{ℕ, Bool, false, List, [], None}
use Rattle.tab_spec.specs.declared.contexts.TheConstants.{PROFILE_CONTEXTS}
use Rattle.history_spec.specs.Entry.{Entry}
use Rattle.broker_lock.specs.Known.{Fixed}

pub record SeatView : Type 0 where
  pub fixed : Fixed
  -- a beginning of the history
  pub front : List Entry
  -- the shorter front, of a seat that was joined with another and hasn't settled yet
  pub met : List Entry
  -- the entries of its clients
  pub known : List Entry
  -- how many of the lock's parts it has; one that was joined to another has none
  pub parts : ℕ
  -- whether it has the turn
  pub acting : Bool
  -- whether it knows that a wrong answer came
  pub wrong : Bool

-- the first seat
abbrev pub first_view : Fixed → SeatView
first_view fixed = record { fixed = fixed; front = []; met = []; known = []; parts = 1024; acting = false; wrong = false }

-- a seat that was joined to another
abbrev pub spent_view : SeatView
spent_view = record {
  fixed = record { base = None; limit = 0; began = 0; contexts = PROFILE_CONTEXTS };
  front = [];
  met = [];
  known = [];
  parts = 0;
  acting = false;
  wrong = false;
}
