-- What is known of an open client's worker, and what taking up a command makes of it.
use Rattle.std.specs.Prelude.{◌≡◌, ℕ, ◌+◌, List}
use Rattle.atomic_table.specs.Seated.{TableId}
use Rattle.history_spec.specs.Entry.{Entry}
use Rattle.broker_lock.specs.Examples.{HasCommandsUpTo}
use Rattle.broker_lock.specs.Known.{Origin}
use Rattle.connection_core.specs.declared.between.Between.{Between}
use Rattle.connection_core.specs.declared.worker.Worker.{Worker}
use Rattle.connection_core.specs.Sides.{IsWorkers}
use Rattle.connection_core.specs.Turns.{AsksNext}

-- its client is open, under this lock
pub record IsOpenWorker {B K : Type 0} (lock : TableId) (worker : Worker B K) : Type 0 where
  pub lock_is : worker.pass.lock ≡ lock
  pub present : HasCommandsUpTo worker.pass.known worker.client worker.done

-- a word was loaded, and the client's next command was asked in one turn
pub record TookUp {B K : Type 0} (legal : Origin → List Entry → Type 0) (between : Between)
    (worker worker_new : Worker B K) (command reply : List ℕ) : Type 0 where
  pub side : IsWorkers between worker_new.side
  pub line : worker_new.side.pass ≡ worker.side.pass
  pub client : worker_new.client ≡ worker.client
  pub done : worker_new.done ≡ worker.done + 1
  pub acts : AsksNext legal worker.pass worker.client (worker.done + 1) worker.side.seat
      worker_new.side.seat command reply worker_new.pass
