use Rattle.tab_laws.proofs.Behind.{drop_behind}
use Rattle.std.proofs.Common.{[], ◌∷◌}
use Rattle.tab_spec.specs.Shape.{with_handles}
use Rattle.tab_laws.proofs.Handled.{handled_admitted, handled_is}
use Rattle.tab_laws.proofs.handles.handles_may_be_others.Goals as goal

pub returns-clause-admitted : goal.returns-clause-admitted
returns-clause-admitted c = handled_admitted

pub returns-clause-frame : goal.returns-clause-frame
returns-clause-frame c = λ tables bytes a first second e. (handled_is tables bytes a first second e).frame

pub returns-clause-size : goal.returns-clause-size
returns-clause-size c = λ tables bytes a first second e. (handled_is tables bytes a first second e).agree.size

pub returns-clause-tag : goal.returns-clause-tag
returns-clause-tag c = λ tables bytes a first second e. (handled_is tables bytes a first second e).tag

pub returns-clause-code : goal.returns-clause-code
returns-clause-code c = λ tables bytes a first second e. (handled_is tables bytes a first second e).code

pub returns-clause-behind : goal.returns-clause-behind
returns-clause-behind c =
    λ tables bytes a first second place e later.
    drop_behind a.shape.rest place bytes (with_handles bytes a.shape (first ∷ second ∷ [])) (handled_is tables bytes a first second e).agree later
