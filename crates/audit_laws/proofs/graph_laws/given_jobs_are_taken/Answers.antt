use Rattle.audit_laws.proofs.Taking.{given_jobs_are_taken}
use Rattle.audit_laws.proofs.graph_laws.given_jobs_are_taken.Goals as goal

pub returns : goal.returns
returns c = given_jobs_are_taken
