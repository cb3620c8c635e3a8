use Rattle.std.proofs.Common.{◌∙◌, ap}
use Rattle.script_spec.specs.Summary.{has_code_0}
use Rattle.workload.specs.Reading.{counted_if}
use Rattle.workload.proofs.Tallying.{of_byte, of_digit, of_label, of_newline}
use Rattle.workload.proofs.tally.Tally.take.Goals as goal

pub invariant_of-self : goal.invariant_of-self
invariant_of-self c = of_label _ _ _ _ _ _ _ _ _ c.self.invariant c.with-self-inside.ensures c.after-self-inside.ensures c.in-Label.is

pub invariant_of-self-then-byte-eq10 : goal.invariant_of-self-then-byte-eq10
invariant_of-self-then-byte-eq10 c =
    let code = c.counted_if-self-inside.ensures ∙ ap (λ b. counted_if b c.self.inside.with_code_0) (c.has_code_0.ensures ∙ ap has_code_0 c.as_slice.ensures.same) in
    of_newline _ _ _ _ _ _ _ _ _ _ _ _ c.self.invariant c.with-self-inside.ensures c.after-self-inside.ensures c.in-High.is c.if-byte-eq10.true c.new-self-inside.ensures c.saturating_add-self-inside.ensures code

pub invariant_of-self-else-byte-eq10 : goal.invariant_of-self-else-byte-eq10
invariant_of-self-else-byte-eq10 c =
    of_digit _ _ _ _ _ _ _ _ _ c.self.invariant c.with-self-inside.ensures c.after-self-inside.ensures c.in-High.is c.if-byte-eq10.false

pub invariant_of-self-in-Low : goal.invariant_of-self-in-Low
invariant_of-self-in-Low c =
    of_byte _ _ _ _ _ _ _ _ _ _ _ _ _ c.self.invariant c.with-self-inside.ensures c.after-self-inside.ensures c.in-Low.is c.byte_of-spelled.ensures c.add.ensures c.add_front.ensures
