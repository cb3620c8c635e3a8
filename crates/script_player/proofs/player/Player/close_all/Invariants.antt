use Rattle.std.proofs.Common.{◌≡◌, ◌++◌, ℕ, List, length, map, []}
use Rattle.std.specs.Prelude.{IsTrue}
use Rattle.broker_lock.specs.Known.{limits_of}
use Rattle.script_spec.specs.Calls.{closing}
use Rattle.script_player.specs.Play.{Leads}
use Rattle.script_player.specs.Steps.{KeepsFit}
use Rattle.script_player.proofs.player.Player.close_all.Given as goal

abbrev pub invariant-loop-client : goal.invariant-loop-client
invariant-loop-client g l = record {
  kept : KeepsFit (g.B.Recorded.fixed l.initial.self.value) (g.B.Recorded.fixed l.self.value) l.self.labels (g.B.Recorded.history l.self.value);
  stays : IsTrue (g.B.Recorded.wrong l.initial.self.value) → IsTrue (g.B.Recorded.wrong l.self.value);
  closed : (done : List ℕ) × (map (λ x. x.label) l.initial.self.labels.present ≡ done ++ map (λ x. x.label) l.self.labels.present)
      × Leads (limits_of (g.B.Recorded.fixed l.initial.self.value)) l.initial.self.labels.present (g.B.Recorded.history l.initial.self.value) (map closing done) l.self.labels.present (g.B.Recorded.history l.self.value) [];
}

abbrev pub decreases-loop-client : goal.decreases-loop-client
decreases-loop-client g l = length l.self.labels.present
