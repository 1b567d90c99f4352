use Rattle.claim_counter.proofs.laws.different_are_few.Goals as goal
use Rattle.audit_model.proofs.Times.{length-apart}

pub returns : goal.returns
returns c = length-apart
