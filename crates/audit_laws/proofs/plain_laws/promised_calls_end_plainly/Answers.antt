use Rattle.audit_laws.proofs.Ending.{promised_calls_end_plainly}
use Rattle.audit_laws.proofs.plain_laws.promised_calls_end_plainly.Goals as goal

pub returns : goal.returns
returns c = promised_calls_end_plainly
