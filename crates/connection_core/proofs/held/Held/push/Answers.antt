use Rattle.std.proofs.Common.{◌≤◌, ℕ, List, length, ◌∷◌, [], ◌++◌, ap, ◌∙◌, arith}
use Rattle.connection_core.proofs.Holding.{held_grown, held_grows}
use Rattle.connection_core.proofs.held.Held.push.Goals as goal

pub invariant_of-self : goal.invariant_of-self
invariant_of-self c =
    let within : c.self.inside.start ≤ length c.self.inside.bytes.items = omega (arith, c.self.invariant.0, c.self.inside.bytes.ok.0) in (
      omega (arith, c.self.invariant.0, rw c.unwrap.ensures at c.extend_from_slice.ensures.len),
      held_grows c.self.inside.start c.self.inside.bytes.items _ c.self.inside.lengths.items _ c.as_slice-command.result.now within c.as_slice-command.ensures.bound c.self.invariant.1
          (rw c.unwrap.ensures at c.extend_from_slice.ensures.items) (rw c.unwrap-2.ensures at c.push_back.ensures.items),
    )

pub returns-clause-room : goal.returns-clause-room
returns-clause-room c is =
    let within : c.self.inside.start ≤ length c.self.inside.bytes.items = omega (arith, c.self.invariant.0, c.self.inside.bytes.ok.0) in
    held_grown c.self.inside.start c.self.inside.bytes.items _ c.self.inside.lengths.items _ c.as_slice-command.result.now within c.self.invariant.1
    (rw c.unwrap.ensures at c.extend_from_slice.ensures.items) (rw c.unwrap-2.ensures at c.push_back.ensures.items)
    ∙ ap (λ (l : List (List ℕ)). l ++ c.as_slice-command.result.now ∷ []) c.self.view_is
    ∙ ap (λ (b : List ℕ). c.args.self.now ++ b ∷ []) c.as_slice-command.ensures.value
