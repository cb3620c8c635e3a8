use Rattle.std.proofs.Common.{◌≡◌, ℕ, ◌<◌, false}
use Rattle.session_swap.specs.Items.{is_owned, item_at}
use Rattle.session_swap.specs.Records.{items_of}
use Rattle.session_swap.proofs.kept.find_owned.Given as goal

-- none so far is this client's
abbrev pub invariant-loop-record : goal.invariant-loop-record
invariant-loop-record l = (k : ℕ) → k < l.record-index → is_owned l.client (item_at (items_of l.records) k) ≡ false
