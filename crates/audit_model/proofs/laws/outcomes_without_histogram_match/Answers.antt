use Rattle.audit_model.proofs.Histogram.{whole_without_histogram}
use Rattle.audit_model.proofs.laws.outcomes_without_histogram_match.Goals as goal

pub returns : goal.returns
returns c = whole_without_histogram
