use Rattle.std.proofs.Common.{take}
use Rattle.audit_run.specs.JudgeSets.{AreRuledJudgeSets}
use Rattle.audit_run.proofs.judge_sets.ruled_judge_sets.Given as goal

abbrev pub invariant-loop-plan : goal.invariant-loop-plan
invariant-loop-plan g l = AreRuledJudgeSets l.cut l.test l.count (take l.plan-index l.plans) l.judge_sets.items
