use Rattle.std.proofs.Common.{◌≡◌, ◌≤◌, ◌<◌, ◌-◌, ℕ, None, length}
use Rattle.script_lines.specs.Places.{item_at}
use Rattle.script_lines.proofs.labels.first_open.Given as goal

abbrev pub invariant-loop-place : goal.invariant-loop-place
invariant-loop-place l = (l.initial.place ≤ l.place) × (l.place ≤ length l.items) × ((p : ℕ) → l.initial.place ≤ p → p < l.place → item_at l.items p ≡ None)

abbrev pub decreases-loop-place : goal.decreases-loop-place
decreases-loop-place l = length l.items - l.place
