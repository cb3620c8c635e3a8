-- What a plan leaves that was carried out, by its command.
use Rattle.std.specs.Prelude.{ℕ, List, Option}
use Rattle.history_spec.specs.Entry.{Entry}
use Rattle.command_line.specs.declared.words.Verb.{Verb}
use Rattle.command_line.specs.declared.words.Verb.TheVariants.{Run, Workload, Serve}
use Rattle.command_line.specs.declared.words.Plan.{Plan}
use Rattle.tab_server.specs.Run.{Before, After, Leaves}
use Rattle.tab_server.specs.Workload.{LeavesWorkload}

-- of a command that serves none; what those leave is `LeavesServe`
abbrev pub LeavesByVerb : Verb → Plan → Before → After → (status detail : ℕ) → Option (List Entry) → Type 0
LeavesByVerb Run plan before after status detail journal = Leaves plan.limit plan.audit before after status detail journal
LeavesByVerb Workload plan before after status detail journal =
    LeavesWorkload plan.limit plan.audit plan.start plan.lines before after status detail journal
LeavesByVerb Serve plan before after status detail journal = ⊥

abbrev pub LeavesPlan : Plan → Before → After → (status detail : ℕ) → Option (List Entry) → Type 0
LeavesPlan plan before after status detail journal = LeavesByVerb plan.job plan before after status detail journal
