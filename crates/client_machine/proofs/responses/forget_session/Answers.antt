use Rattle.std.proofs.Common.{◌∙◌, List, ℕ, ap, set}
use Rattle.std.specs.Prelude.{None}
use Rattle.tab_spec.specs.Shape.{number_of_session}
use Rattle.device_port.specs.Use.{without_one}
use Rattle.client_machine.proofs.FlushingSessions.{owner_named, owner_unleft}
use Rattle.client_machine.proofs.responses.forget_session.Goals as goal

pub end_session-requires : goal.end_session-requires
end_session-requires c = owner_named c.requires.0 c.args.handle c.args.sessions.now.items c.requires.1

pub returns : goal.returns
returns c =
    let view = c.args.sessions.now in
    let n = number_of_session c.args.handle in
    c.end_session.ensures.ended
    ∙ ap
    (λ (left : List ℕ).
    record view { items = set view.items n None; order = without_one n view.order; saved = without_one n view.saved; left = left })
    (owner_unleft c.requires.0 c.args.handle view.items view.left c.end_session.ensures.listed c.requires.1)
