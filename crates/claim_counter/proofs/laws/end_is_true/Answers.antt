use Rattle.claim_counter.proofs.Keeping.{end_true}
use Rattle.claim_counter.proofs.laws.end_is_true.Goals as goal

pub returns : goal.returns
returns c = λ limit count word ps i p h ended. end_true limit count word ps i p h.counted h.at h.weighs ended
