use Rattle.claim_counter.proofs.Keeping.{all_claims}
use Rattle.claim_counter.proofs.laws.claims_are_drawn.Goals as goal

pub returns : goal.returns
returns c = all_claims
