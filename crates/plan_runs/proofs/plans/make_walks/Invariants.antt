use Rattle.std.proofs.Common.{◌≡◌, ◌++◌, All, length, map}
use Rattle.std.specs.Vec.Iter.{into_iter_items, into_iter_len}
use Rattle.plan_csv.specs.Named.{jobs_of}
use Rattle.plan_runs.specs.Plans.{AreJudgeSets, IsWalkOf, RunsAlone, walk_pair}
use Rattle.plan_runs.proofs.plans.make_walks.Given as goal

abbrev pub invariant-loop-plan : goal.invariant-loop-plan
invariant-loop-plan g l = record {
  judge_sets : AreJudgeSets g.J.Judge.judging (into_iter_items l.plan-iterator) l.judges.items;
  runs : All (λ n. RunsAlone n.job) (into_iter_items l.plan-iterator);
  pairs : jobs_of l.fn.plans.items ≡ map walk_pair l.walks.items ++ jobs_of (into_iter_items l.plan-iterator);
  each : All (IsWalkOf) l.walks.items;
  counted : into_iter_len l.plan-iterator ≡ length (into_iter_items l.plan-iterator);
}
