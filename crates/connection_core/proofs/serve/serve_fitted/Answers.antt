use Rattle.std.proofs.Common.{ℕ, Option, Some, refl, sym, subst}
use Rattle.std.specs.Prelude.{IfSome}
use Rattle.connection_core.specs.Keeps.{start_of}
use Rattle.connection_core.specs.Links.{IsClosedLink}
use Rattle.connection_core.proofs.Leaving.{not_none}
use Rattle.connection_core.proofs.Taking.{keeps_first}
use Rattle.connection_core.proofs.serve.serve_fitted.Goals as goal

pub serve_open-end-requires-clause-may_read : goal.serve_open-end-requires-clause-may_read
serve_open-end-requires-clause-may_read g c κs lives = record {
  begins = record {
    start = start_of c.args.outfit.between c.args.pass (g.K.Sink.written c.args.sink)
        (g.K.Sink.ended c.args.sink) (g.K.Sink.faults c.args.sink);
    is = c.requires.begun;
    between_is = sym c.in-Ok.ensures.between;
    lock_is = c.requires.lock;
  };
  keeps = record {
    hand = c.in-Ok.ensures.reader;
    duty = keeps_first g.K.Sink.written g.K.Sink.ended g.K.Sink.faults g.J.Begins.begun
        c.args.outfit.between c.args.pass _ c.requires.begun refl refl c.requires.fresh.worker
        c.in-Ok-open_client.ensures.ok c.open_client.ensures.goes_on;
  };
  side = rw c.in-Ok.ensures.between c.requires.fresh.reader;
  empty = c.requires.fresh.empty;
  unheld = c.requires.fresh.unheld;
}

pub returns : goal.returns
returns g c =
    let served = c.serve_open-end.ensures (start_of c.args.outfit.between c.args.pass (g.K.Sink.written c.args.sink) (g.K.Sink.ended c.args.sink) (g.K.Sink.faults c.args.sink)) c.requires.begun in
    let end = c.serve_open-end.result.0 in
    record {
      goes_on = served.goes_on;
      closed = subst (λ (o : Option ℕ). IfSome o
          (λ client. IsClosedLink g.B.Recorded.legal end.ending end.pass client end.done
          (g.S.Source.left c.args.source) (g.S.Source.left end.source)
          (g.K.Sink.written c.args.sink) (g.K.Sink.written end.sink)
          (Some c.serve_open-end.result.1)))
          (sym served.client_is) served.closed;
      refused = λ none. absurd (not_none _ _ served.client_is none);
      no_word = λ none. absurd (not_none _ _ served.client_is none);
      source_is = λ none. absurd (not_none _ _ served.client_is none);
      written_is = λ none. absurd (not_none _ _ served.client_is none);
      sink_ended = served.sink_ended;
      cause = served.cause;
    }
