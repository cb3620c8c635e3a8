-- What a pass knows of a client that is served.
use Rattle.std.specs.Prelude.{◌≡◌, ◌≤◌, ℕ, List, true, false}
use Rattle.std.specs.List.{AllByRecursion}
use Rattle.history_spec.specs.Entry.{Entry, own}
use Rattle.broker_lock.specs.Known.{has_closed, knows}

-- a client's commands so far have numbers up to this one, and it isn't closed
pub record HasCommandsUpTo (known : List Entry) (client done : ℕ) : Type 0 where
  pub client_known : knows known client ≡ true
  pub not_closed : has_closed known client ≡ false
  pub numbers : AllByRecursion (λ e. e.number ≤ done) (own known client)
