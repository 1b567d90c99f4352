use Rattle.std.proofs.Common.{ℕ, ◌≤◌, sym, subst}
use Rattle.claim_counter.proofs.Keeping.{claims_differ}
use Rattle.claim_counter.proofs.laws.claims_differ.Goals as goal
use Rattle.audit_model.specs.Times.{once_below}
use Rattle.audit_model.proofs.Times.{times-append}

pub returns : goal.returns
returns c = λ limit count word ps i p j q counted other at at_other x. subst (λ (n : ℕ). n ≤ once_below x limit) (sym (times-append x p.claims q.claims)) (claims_differ limit count word ps i p j q counted other at at_other x)
