use Rattle.audit_model.proofs.Fitting.{found_fits}
use Rattle.audit_model.proofs.laws.what_is_found_fits.Goals as goal

pub returns : goal.returns
returns c = λ with_histogram job draws id few below. found_fits job draws with_histogram few id below
