-- A run stands to the end of its script as its stop says.
use Rattle.std.proofs.Common.{ℕ, Bool, List, Option, Some, None, refl, inl, inr, arith}
use Rattle.history_spec.specs.Entry.{Entry}
use Rattle.history_spec.specs.Told.{Limits}
use Rattle.script_player.specs.declared.stop.Stop.{Stop}
use Rattle.script_player.specs.declared.stop.Stop.TheVariants as stops
use Rattle.script_player.specs.Ends.{LeavesBy}
use Rattle.tab_server.specs.Status.{cause_of, status_of}
use Rattle.tab_server.specs.Endings.{StandsToEnd, is_end}

pub stands_to_end : (stop : Stop) (code : Option ℕ) (limit : Limits) (wrong : Bool) (given left written written_new : Option (List ℕ)) (history : List Entry) → LeavesBy stop limit wrong given left written written_new history
    → StandsToEnd (is_end stop) limit (status_of (cause_of stop code)) given written written_new history
stands_to_end stops.End None limit wrong given left written written_new history leaves = (inl refl, leaves.0)
stands_to_end stops.End (Some code) limit wrong given left written written_new history leaves = (inr refl, leaves.0)
stands_to_end (stops.BadLine n) code limit wrong given left written written_new history leaves = (λ is. omega arith, λ is. absurd (omega arith))
stands_to_end stops.Memory code limit wrong given left written written_new history leaves = (λ is. omega arith, λ is. absurd (omega arith))
stands_to_end (stops.Full n) code limit wrong given left written written_new history leaves = (λ is. omega arith, λ is. absurd (omega arith))
stands_to_end (stops.Output n) code limit wrong given left written written_new history leaves = (λ is. omega arith, λ is. absurd (omega arith))
stands_to_end (stops.Input n) code limit wrong given left written written_new history leaves = (λ is. omega arith, λ is. absurd (omega arith))
stands_to_end stops.Answer None limit wrong given left written written_new history leaves = (λ is. omega arith, λ is. leaves)
stands_to_end stops.Answer (Some code) limit wrong given left written written_new history leaves = (λ is. omega arith, λ is. leaves)
