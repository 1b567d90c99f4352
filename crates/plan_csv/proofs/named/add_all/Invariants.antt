use Rattle.plan_csv.proofs.Naming.{AreNamed}
use Rattle.plan_csv.proofs.named.add_all.Given as goal

abbrev pub invariant-loop-plan : goal.invariant-loop-plan
invariant-loop-plan l = AreNamed l.job l.plans l.plan-index l.named.items
