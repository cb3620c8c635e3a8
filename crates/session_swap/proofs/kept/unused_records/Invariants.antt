use Rattle.std.proofs.Common.{◌≡◌, ◌≤◌, replicate}
use Rattle.std.specs.Prelude.{None, vec_capacity}
use Rattle.std.specs.List.{All}
use Rattle.tab_spec.specs.declared.TheConstants.{SESSION_NUMBERS}
use Rattle.session_swap.specs.Records.{IsRecord, items_of}
use Rattle.session_swap.proofs.kept.unused_records.Given as goal

abbrev pub invariant-loop : goal.invariant-loop
invariant-loop l = record {
  none : items_of l.records.items ≡ replicate l.counter None;
  each : All (λ r. IsRecord l.contexts r) l.records.items;
  room : SESSION_NUMBERS ≤ vec_capacity l.records;
}
