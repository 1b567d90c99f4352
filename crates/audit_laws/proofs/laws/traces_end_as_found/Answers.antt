use Rattle.audit_laws.proofs.Tracing.{traces_end_as_found}
use Rattle.audit_laws.proofs.laws.traces_end_as_found.Goals as goal

pub returns : goal.returns
returns c = traces_end_as_found
