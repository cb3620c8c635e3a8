use Rattle.std.proofs.Common.{refl}
use Rattle.tab_spec.specs.Shape.{shape_of}
use Rattle.tab_examples.proofs.some_commands_make_objects.Goals as goal

pub returns-clause-primary : goal.returns-clause-primary
unfolding shape_of
returns-clause-primary c = refl

pub returns-clause-of_null : goal.returns-clause-of_null
unfolding shape_of
returns-clause-of_null c = refl

pub returns-clause-create : goal.returns-clause-create
unfolding shape_of
returns-clause-create c = refl

pub returns-clause-load : goal.returns-clause-load
unfolding shape_of
returns-clause-load c = refl

pub returns-clause-context : goal.returns-clause-context
unfolding shape_of
returns-clause-context c = refl

pub returns-clause-session_context : goal.returns-clause-session_context
unfolding shape_of
returns-clause-session_context c = refl

pub returns-clause-short_context : goal.returns-clause-short_context
unfolding shape_of
returns-clause-short_context c = refl
