use Rattle.audit_laws.proofs.Folders.{gatherings_reach}
use Rattle.audit_laws.proofs.laws.gatherings_reach.Goals as goal

pub returns : goal.returns
returns c = gatherings_reach
