-- What holds of the clients of a broker that close in the order in which they were opened.
use Rattle.std.specs.Prelude.{◌≡◌, ◌≤◌, ◌<◌, ◌^◌, ℕ, List}
use Rattle.std.specs.List.{AllByRecursion}
use Rattle.history_spec.specs.Entry.{Entry, clients_of, IsOpen}

-- so many clients were opened, and those before `closed` are closed again. The next number is above that of each command
pub record IsDriven (history : List Entry) (closed opened next : ℕ) : Type 0 where
  pub opened_is : (clients_of history).opened ≡ opened
  pub behind : closed ≤ opened
  pub few : opened ≤ 2 ^ 32
  pub are_open : (client : ℕ) → closed ≤ client → client < opened → IsOpen history client
  pub positive : 1 ≤ next
  pub above : AllByRecursion (λ e. e.number < next) history
