use Rattle.std.proofs.Common.{◌≡◌, ℕ, ◌<◌, false}
use Rattle.session_swap.specs.Items.{is_orphan, item_at}
use Rattle.session_swap.specs.Records.{items_of}
use Rattle.session_swap.proofs.kept.find_orphan.Given as goal

-- none so far is of nobody
abbrev pub invariant-loop-record : goal.invariant-loop-record
invariant-loop-record l = (k : ℕ) → k < l.record-index → is_orphan (item_at (items_of l.records) k) ≡ false
