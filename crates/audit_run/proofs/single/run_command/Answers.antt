use Rattle.audit_run.proofs.single.run_command.Goals as goal

pub returns-in-Check-clause-finishes : goal.returns-in-Check-clause-finishes
returns-in-Check-clause-finishes g c = λ words before after prepared. c.write_check.ensures _ words before after prepared

pub returns-in-Trace-clause-finishes : goal.returns-in-Trace-clause-finishes
returns-in-Trace-clause-finishes g c = λ words before after prepared. c.trace_job.ensures _ words before after prepared

pub returns-in-Run-clause-finishes : goal.returns-in-Run-clause-finishes
returns-in-Run-clause-finishes g c = c.run_job.ensures.finishes
