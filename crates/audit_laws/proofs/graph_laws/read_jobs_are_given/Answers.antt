use Rattle.audit_laws.proofs.Read.{read_jobs_are_given}
use Rattle.audit_laws.proofs.graph_laws.read_jobs_are_given.Goals as goal

pub returns : goal.returns
returns c = read_jobs_are_given
