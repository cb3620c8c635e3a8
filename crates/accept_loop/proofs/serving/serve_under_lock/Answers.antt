use Rattle.std.proofs.Common.{◌≡◌, ◌∙◌, ap, rules}
use Rattle.accept_loop.specs.Connections.{client_of, ends_of}
use Rattle.accept_loop.specs.declared.serving.AcceptError.{AcceptError}
use Rattle.accept_loop.specs.declared.serving.AcceptError.TheVariants as errors
use Rattle.accept_loop.proofs.Closing.{all_closed, enough_mapped, failed_mapped, legal_at_end}
use Rattle.accept_loop.proofs.Closing.{never_mapped, quiet_mapped, served_at_end, served_nothing}
use Rattle.accept_loop.proofs.serving.serve_under_lock.Goals as goal

pub returns-in-Err : goal.returns-in-Err
returns-in-Err g c = record {
  fixed_is = search rules;
  is_legal = search rules;
  served = served_nothing _ _ _ _ _ _
      (ap (λ v. g.B.Recorded.history v) c.in-Err.ensures.err ∙ c.requires.empty)
      c.new-in-Err.ensures.items;
  closed = search rules;
  enough = search rules;
  quiet = search rules;
  failed = search rules;
  memory = search rules;
}

pub returns : goal.returns
returns g c =
    let back : c.serve_coming-coming.result.0.acceptor.acceptor.now ≡ c.acceptor-1.given.0 = search rules in
    let all = c.serve_coming-coming.ensures.served in
    let served = served_at_end
    (λ given. ends_of g.A.In.Source.left g.A.Out.Sink.written g.A.In.Source.faults g.A.Out.Sink.faults given.0 given.1)
    (λ link. ends_of g.A.In.Source.left g.A.Out.Sink.written g.A.In.Source.faults g.A.Out.Sink.faults link.source link.sink)
    client_of (λ link. link.done) (λ link. link.ending) (λ link. link.word)
    _ _ _ _ _ _ _ _ _ _ _ _ _ _ _
    (ap (λ v. v.fixed) c.in-Ok-new.ensures.ok) (ap (λ a. g.A.Acceptor.coming a) back)
    c.from.ensures.0 all c.close.ensures in
    record {
      fixed_is = search rules;
      is_legal = legal_at_end g.B.Recorded.legal _ _ (g.B.Recorded.fixed c.args.value)
          (g.B.Recorded.history c.args.value) (g.B.Recorded.history c.close.result)
          (ap (λ v. v.fixed) c.in-Ok-new.ensures.ok) (ap (λ v. v.front) c.in-Ok-new.ensures.ok)
          c.requires.empty c.requires.legal all.goes_on c.close.ensures.front;
      served = served;
      closed = all_closed
          (λ given. ends_of g.A.In.Source.left g.A.Out.Sink.written g.A.In.Source.faults
          g.A.Out.Sink.faults given.0 given.1)
          (λ link. ends_of g.A.In.Source.left g.A.Out.Sink.written g.A.In.Source.faults
          g.A.Out.Sink.faults link.source link.sink)
          client_of (λ link. link.done) (λ link. link.ending) (λ link. link.word)
          _ _ _ _ _ _ _ served;
      enough = enough_mapped _ c.serve_coming-coming.result.1 c.outcome.result c.outcome.ensures _ _
          _ _ _
          (ap (λ a. g.A.Acceptor.coming a) back) c.from.ensures.0 all.enough;
      quiet = quiet_mapped _ c.serve_coming-coming.result.1 c.outcome.result c.outcome.ensures _ _ _
          (ap (λ a. g.A.Acceptor.faults a) back) all.quiet;
      failed = λ err. failed_mapped _ c.serve_coming-coming.result.1 c.outcome.result
          c.outcome.ensures _ _ _ _
          (ap (λ a. g.A.Acceptor.faults a) back) err all.fault;
      memory = λ err. absurd (never_mapped c.serve_coming-coming.result.1 c.outcome.result
          errors.Failed errors.Memory c.outcome.ensures
          (λ (no : ◌≡◌ {A = AcceptError} errors.Failed errors.Memory). cc no) err);
    }
