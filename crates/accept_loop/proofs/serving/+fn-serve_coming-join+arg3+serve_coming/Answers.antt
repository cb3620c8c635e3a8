use Rattle.std.proofs.Common.{arith}
use Rattle.accept_loop.specs.Connections.{client_of, ends_of}
use Rattle.accept_loop.proofs.Linking.{served_all, served_failed, served_nobody, served_on, served_within}
use Rattle.accept_loop.proofs.serving.+fn-serve_coming-join+arg3+serve_coming.Goals as goal

pub returns-then-most-eq0-clause-served : goal.returns-then-most-eq0-clause-served
returns-then-most-eq0-clause-served g t c = served_nobody _ _ _ _ _ _ _ _ c.requires.none c.requires.nobody c.if-most-eq0.true

pub returns-in-Ok-None-clause-served : goal.returns-in-Ok-None-clause-served
returns-in-Ok-None-clause-served g t c =
    served_all _ _ _ _ _ _ _ _ _ _ _ c.requires.none c.requires.nobody c.in-Ok-None.field-0-is c.in-Ok-None.ensures.accepted c.in-Ok-None.ensures.quiet

pub returns-in-Err-clause-served : goal.returns-in-Err-clause-served
returns-in-Err-clause-served g t c =
    served_failed _ _ _ _ _ _ _ _ _ _ c.requires.none c.requires.nobody c.in-Err.ensures.err c.in-Err.ensures.fault

pub push_front_reserved-requires : goal.push_front_reserved-requires
push_front_reserved-requires g t c =
    omega (
      arith,
      c.join-pass.result.1.0.links.ok.0,
      served_within _ _ _ _ _ _ _ _ _ _ _
          c.join-pass.ensures.second.2,
      c.join-pass.ensures.second.0,
      c.requires.room,
      c.if-most-eq0.false,
    )

pub returns-clause-served : goal.returns-clause-served
returns-clause-served g t c = served_on
    (λ given. ends_of g.A.In.Source.left g.A.Out.Sink.written g.A.In.Source.faults g.A.Out.Sink.faults given.0 given.1)
    (λ link. ends_of g.A.In.Source.left g.A.Out.Sink.written g.A.In.Source.faults g.A.Out.Sink.faults link.source link.sink)
    client_of (λ link. link.done) (λ link. link.ending) (λ link. link.word)
    _ _ _ _ _ _ _ _ _ _ _ _ _ _ _ _ _ _ _ c.push_front_reserved.ensures.items
    c.if-most-eq0.false c.requires.parts c.split-pass.ensures.left c.split-pass.ensures.given c.in-Ok-Some.field-0-is
    c.in-Ok-Some.ensures.accepted c.in-Ok-Some.ensures.quiet c.join-pass.ensures.second.2
    c.join-pass.ensures.first c.join.ensures
