use Rattle.audit_model.proofs.Connected.{path_is_reached, reached_has_path}
use Rattle.audit_model.proofs.laws.reached_decides.Goals as goal

pub returns : goal.returns
returns c = λ g inside x v i. (reached_has_path g inside x v, path_is_reached g inside x v i)
