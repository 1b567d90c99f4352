use Rattle.audit_laws.proofs.One.{reports_are_one}
use Rattle.audit_laws.proofs.plain_laws.reports_are_one.Goals as goal

pub returns : goal.returns
returns c = reports_are_one
