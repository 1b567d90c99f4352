use Rattle.audit_laws.proofs.Lasting.{ends_are_stops}
use Rattle.audit_laws.proofs.laws.ends_are_stops.Goals as goal

pub returns : goal.returns
returns c = ends_are_stops
