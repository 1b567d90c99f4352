use Rattle.audit_laws.proofs.Lasting.{stops_lose_nothing}
use Rattle.audit_laws.proofs.laws.stops_lose_nothing.Goals as goal

pub returns : goal.returns
returns c = stops_lose_nothing c.saves_keep_the_newest.ensures c.checkpoints_are_ours.ensures c.outcomes_fit_without_histogram.ensures
