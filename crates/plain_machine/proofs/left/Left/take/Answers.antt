use Rattle.std.proofs.Common.{◌≡◌, ◌∙◌, ℕ, List, ap, subst, sym, arith}
use Rattle.history_spec.specs.Entry.{without}
use Rattle.plain_machine.specs.Left.{place_in}
use Rattle.plain_machine.proofs.Numbers.{not_there}
use Rattle.plain_machine.proofs.left.Left.take.Goals as goal

pub returns-else-place-len : goal.returns-else-place-len
returns-else-place-len c =
    let number = c.args.number in
    let numbers = c.self.inside.numbers.items in
    let place : c.place_of-place.result ≡ place_in numbers number =
    c.place_of-place.ensures ∙ ap (λ (ns : List ℕ). place_in ns number) c.deref.ensures.value in
    sym (subst (λ (ns : List ℕ). without number ns ≡ ns) c.self.view_is (not_there numbers number (omega (arith, place))))
