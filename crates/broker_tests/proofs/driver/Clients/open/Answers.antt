use Rattle.std.proofs.Common.{◌≡◌, ◌<◌, ◌+◌, ◌^◌, ◌++◌, ◌∷◌, [], List, ℕ, ap, sym, subst, ◌∙◌, arith}
use Rattle.history_spec.specs.Entry.{Entry, open_entry}
use Rattle.broker_tests.specs.Driven.{IsDriven}
use Rattle.broker_tests.proofs.Driving.{opened}
use Rattle.broker_tests.proofs.driver.Clients.open.Goals as goal

pub invariant_of-self-2 : goal.invariant_of-self-2
invariant_of-self-2 c =
    let inside = c.self.inside in
    let journal = inside.broker.journal in
    let done = c.in_ok-client.ensures.ok in
    let entered = ap (λ (v : _). v.journal) done.2
    ∙ ap (λ (n : ℕ). journal ++ open_entry n ∷ []) (done.0 ∙ c.self.invariant.opened_is) in
    let lt : inside.opened < 2 ^ 32 = omega (arith, c.if-self-from.false, c.from.ensures) in
    subst (λ (h : List Entry). IsDriven h inside.closed (inside.opened + 1) inside.next) (sym entered)
    (opened journal lt c.self.invariant)
