use Rattle.std.proofs.Common.{ℕ, ◌==◌, length, sym, ap, ◌∙◌}
use Rattle.connection_core.proofs.Holding.{spelled_count}
use Rattle.connection_core.proofs.held.Held.is_empty.Goals as goal

pub returns : goal.returns
returns c = c.is_empty.ensures ∙ ap (λ (n : ℕ). n == 0) (c.self.inside.lengths.ok.0 ∙ sym (spelled_count _ c.self.inside.lengths.items) ∙ ap length c.self.view_is)
