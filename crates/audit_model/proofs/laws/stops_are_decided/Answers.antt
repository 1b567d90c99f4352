use Rattle.audit_model.proofs.Stopped.{stop_is_decided}
use Rattle.audit_model.proofs.laws.stops_are_decided.Goals as goal

pub returns : goal.returns
returns c = stop_is_decided
