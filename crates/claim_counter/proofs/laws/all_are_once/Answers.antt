use Rattle.claim_counter.proofs.laws.all_are_once.Goals as goal
use Rattle.audit_model.proofs.Times.{times_below, permutation_below}

pub returns : goal.returns
returns c = λ n xs. (times_below n xs, permutation_below n xs)
