use Rattle.plan_runs.proofs.resources.make_with.Goals as goal

pub returns-in-Ok-clause-resources : goal.returns-in-Ok-clause-resources
returns-in-Ok-clause-resources g c = record { buffers = c.in-Ok.ensures.buffers; workers = c.in-Ok.ensures.workers; tester = c.requires.tester }
