use Rattle.std.proofs.Common.{arith}
use Rattle.script_spec.specs.Script.{script}
use Rattle.script_spec.specs.Workload.{workload_key, workload_text}
use Rattle.workload.proofs.Few.{calls_few}
use Rattle.workload.proofs.GoodLines.{IsWhole, lines_are_good}
use Rattle.workload.proofs.laws.workloads_have_few_replies.Goals as goal

pub returns : goal.returns
returns c = λ start lines few.
    let whole : IsWhole lines (script (workload_text start lines)) = lines_are_good lines (workload_key start) 0 1 1073741824 (omega arith) in
    omega (arith, calls_few (script (workload_text start lines)).items (omega (arith, whole.bytes)), whole.items)
