use Rattle.audit_laws.proofs.Folders.{cut_gatherings_reach}
use Rattle.audit_laws.proofs.laws.cut_gatherings_reach.Goals as goal

pub returns : goal.returns
returns c = cut_gatherings_reach
