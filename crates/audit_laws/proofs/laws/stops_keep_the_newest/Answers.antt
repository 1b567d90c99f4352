use Rattle.audit_laws.proofs.Lasting.{stops_keep_the_newest}
use Rattle.audit_laws.proofs.laws.stops_keep_the_newest.Goals as goal

pub returns : goal.returns
returns c = stops_keep_the_newest c.saves_keep_the_newest.ensures c.outcomes_fit_without_histogram.ensures
