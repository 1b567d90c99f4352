use Rattle.audit_laws.proofs.Reruns.{reruns_are_alike}
use Rattle.audit_laws.proofs.laws.reruns_are_alike.Goals as goal

pub returns : goal.returns
returns c = reruns_are_alike
