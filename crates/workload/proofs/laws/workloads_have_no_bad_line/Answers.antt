use Rattle.std.proofs.Common.{arith}
use Rattle.script_spec.specs.Workload.{workload_key}
use Rattle.workload.proofs.GoodLines.{lines_are_good, lines_are_short}
use Rattle.workload.proofs.laws.workloads_have_no_bad_line.Goals as goal

pub returns-clause-ending : goal.returns-clause-ending
returns-clause-ending c = λ start lines few. (lines_are_good lines (workload_key start) 0 1 1073741824 (omega arith)).ending

pub returns-clause-items : goal.returns-clause-items
returns-clause-items c = λ start lines few. (lines_are_good lines (workload_key start) 0 1 1073741824 (omega arith)).items

pub returns-clause-short : goal.returns-clause-short
returns-clause-short c = λ start lines. lines_are_short lines (workload_key start) 0
