use Rattle.std.proofs.Common.{◌≡◌, ◌+◌, ◌≤◌, true, length}
use Rattle.std.specs.List.{count_by}
use Rattle.tab_spec.specs.Shape.{number_of_session}
use Rattle.effect_spec.specs.Capabilities.{Listed}
use Rattle.fx_capability.proofs.Lists.{left_from}
use Rattle.fx_capability.proofs.properties.count_sessions.Given as goal

-- those with the numbers so far were counted, and the others are left
abbrev pub invariant-loop-number : goal.invariant-loop-number
invariant-loop-number g l = record {
  in_use : l.in_use + length (left_from (λ (s : Listed). s.in_use) (λ s. number_of_session s.handle) l.number (g.H.Holdings.sessions l.held))
      ≡ count_by (λ (s : Listed). s.in_use) (g.H.Holdings.sessions l.held);
  all : l.all + length (left_from (λ (s : Listed). true) (λ s. number_of_session s.handle) l.number (g.H.Holdings.sessions l.held))
      ≡ length (g.H.Holdings.sessions l.held);
  few : l.in_use ≤ l.number;
  less : l.all ≤ l.number;
}
