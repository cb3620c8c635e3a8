-- What a write of text to a sink leaves.
use Rattle.std.specs.Prelude.{◌≡◌, ◌<◌, ◌≤◌, ℕ, List, [], length, take, slice_get, Option, Result, OnOk, OnErr}
use Rattle.std.specs.Option.{option_map_or}
use Rattle.tab_spec.specs.Count.{Rose}
use Rattle.link_port.specs.Port.{with_more}
use Rattle.link_port.specs.declared.port.Failed.{Failed}
use Rattle.history_spec.specs.Entry.{Entry}
use Rattle.history_spec.specs.AuditText.{audit_line}

-- the line of the entry at a place
abbrev pub line_at : List Entry → ℕ → List ℕ
line_at history place = option_map_or audit_line (slice_get history place) []

-- some of these bytes were written, from the first one on, and not all
abbrev pub WroteFrontOf : List ℕ → Option (List ℕ) → Option (List ℕ) → Type 0
WroteFrontOf bytes written written_new = (k : ℕ) × (k < length bytes) × (written_new ≡ with_more written (take k bytes))

-- these bytes were written, or a front of them up to a failure; and what became of the sink's fault count
pub record Writes (result : Result (Unit {0}) Failed) (bytes : List ℕ) (written written_new : Option (List ℕ)) (faults faults_new : ℕ) : Type 0 where
  pub ok : OnOk result (written_new ≡ with_more written bytes)
  pub front : OnErr result (WroteFrontOf bytes written written_new)
  pub cause : OnErr result (Rose faults faults_new)
  pub quiet : OnOk result (faults_new ≡ faults)
  pub count : faults ≤ faults_new
