use Rattle.audit_model.proofs.Digits.{greatest}
use Rattle.audit_model.proofs.laws.largest_change_is_greatest.Goals as goal

pub returns : goal.returns
returns c = greatest
