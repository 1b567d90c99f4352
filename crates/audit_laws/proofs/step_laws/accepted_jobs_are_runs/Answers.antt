use Rattle.audit_laws.proofs.Running.{accepted_jobs_are_runs}
use Rattle.audit_laws.proofs.step_laws.accepted_jobs_are_runs.Goals as goal

pub returns : goal.returns
returns c = accepted_jobs_are_runs
