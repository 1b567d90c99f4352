use Rattle.std.proofs.Common.{◌≡◌, IfOk, subst}
use Rattle.audit_statement.specs.Jobs.{Jobs}
use Rattle.plan_runs.specs.Plans.{round_pairs}
use Rattle.plan_runs.proofs.plans.prepare_rounds.Goals as goal

pub returns-clause-pairs : goal.returns-clause-pairs
returns-clause-pairs g c = subst (λ (jobs : Jobs). IfOk c.make_rounds.result (λ r. round_pairs r.items ≡ jobs)) c.in_ok-walks.ensures.pairs c.make_rounds.ensures.pairs
