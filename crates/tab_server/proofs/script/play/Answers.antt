use Rattle.tab_server.proofs.script.play.Goals as goal

pub returns-in-Run-clause-leaves : goal.returns-in-Run-clause-leaves
returns-in-Run-clause-leaves g c = rw c.in-Run.is c.play_input.ensures.leaves

pub returns-in-Workload-clause-leaves : goal.returns-in-Workload-clause-leaves
returns-in-Workload-clause-leaves g c =
    rw c.in-Workload.is (c.play_workload.ensures.leaves (g.I.Source.left c.args.input.now) (g.I.Source.faults c.args.input.now))
