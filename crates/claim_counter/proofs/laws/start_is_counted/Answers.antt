use Rattle.claim_counter.proofs.Keeping.{start_counted}
use Rattle.claim_counter.proofs.laws.start_is_counted.Goals as goal

pub returns : goal.returns
returns c = start_counted
