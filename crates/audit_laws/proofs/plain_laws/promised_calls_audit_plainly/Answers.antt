use Rattle.audit_laws.proofs.Plainly.{promised_calls_audit_plainly}
use Rattle.audit_laws.proofs.plain_laws.promised_calls_audit_plainly.Goals as goal

pub returns : goal.returns
returns c = promised_calls_audit_plainly
