use Rattle.std.proofs.Common.{ap, refl, sym, ◌∙◌}
use Rattle.std.proofs.Common.{◌∷◌}
use Rattle.tab_spec.specs.Count.{one_more}
use Rattle.device_link.specs.Carried.{failed}
use Rattle.device_link.specs.Link.{ends_of}
use Rattle.device_link.proofs.Carrying.{failed_first, failed_later, told_by_all}
use Rattle.device_link.proofs.device.LinkDeviceDevice.transmit.Goals.{in-Absent, in_default}
use Rattle.device_link.proofs.device.LinkDeviceDevice.transmit.Goals as goal

pub invariant_of-self-in-Err : goal.invariant_of-self-in-Err
invariant_of-self-in-Err g c =
    let ends = ends_of g.S.Source.left g.S.Source.faults g.K.Sink.written g.K.Sink.faults in
    elim c.match-self.branch [
      | in-Absent w ↦ told_by_all _ _ g.J.Began.began _ _ _ _ _ _ refl
          (c.saturating_add-self-inside.ensures ∙ ap (λ s. one_more s.faults) w.self-inside-is)
          (c.failed.ensures ∙ ap (λ s. failed c.args.command.now ∷ s.trace) w.self-inside-is)
          (ap (λ s. ends s.source s.sink) w.self-inside-is)
          (failed_first g.J.Began.began c.self.inside.fault c.in-Err.fault _ _ c.self.inside.faults
          c.self.inside.trace c.args.command.now _
          c.self.invariant w.in-Absent.is (sym w.outcome-is ∙ c.in-Err.is)
          w.exchange-outcome.ensures.err)
      | in_default w ↦ told_by_all _ _ g.J.Began.began _ _ _ _ _ _ refl
          (c.saturating_add-self-inside.ensures ∙ ap (λ s. one_more s.faults) w.self-inside-is)
          (c.failed.ensures ∙ ap (λ s. failed c.args.command.now ∷ s.trace) w.self-inside-is)
          (ap (λ s. ends s.source s.sink) w.self-inside-is)
          (failed_later g.J.Began.began c.self.inside.fault c.in-Err.fault _ c.self.inside.faults
          c.self.inside.trace c.args.command.now _
          c.self.invariant w.in_default.not-Absent w.outcome-is c.in-Err.is)
    ]
