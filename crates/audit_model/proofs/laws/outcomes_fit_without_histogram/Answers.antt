use Rattle.audit_model.proofs.Histogram.{fits_without_histogram}
use Rattle.audit_model.proofs.laws.outcomes_fit_without_histogram.Goals as goal

pub returns : goal.returns
returns c = fits_without_histogram
