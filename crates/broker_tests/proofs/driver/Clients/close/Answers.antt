use Rattle.std.proofs.Common.{◌≡◌, ◌<◌, ◌+◌, ◌++◌, ◌∷◌, [], List, ℕ, ap, sym, subst, ◌∙◌, arith}
use Rattle.history_spec.specs.Entry.{Entry, close_entry}
use Rattle.broker_tests.specs.Driven.{IsDriven}
use Rattle.broker_tests.proofs.Driving.{closed}
use Rattle.broker_tests.proofs.driver.Clients.close.Goals as goal

pub invariant_of-self : goal.invariant_of-self
invariant_of-self c =
    let inside = c.self.inside in
    let journal = inside.broker.journal in
    let lt : inside.closed < inside.opened = omega (arith, c.if-self.false) in
    subst (λ (h : List Entry). IsDriven h (inside.closed + 1) inside.opened inside.next) (sym c.close_client.ensures.closed.0)
    (closed journal lt c.self.invariant)
