use Rattle.std.proofs.Common.{◌∙◌, ◌++◌, All, List, map, length, ap, subst, sym, arith}
use Rattle.std.specs.Vec.Iter.{into_iter_items}
use Rattle.std.proofs.lemmas.List.{append-nil, nil_from_length}
use Rattle.std.proofs.lemmas.List.Elements.{All-nil, All-push}
use Rattle.plan_csv.specs.declared.named.Named.{Named}
use Rattle.plan_csv.specs.Named.{jobs_of, pair_of}
use Rattle.plan_runs.specs.Resources.{IsJudgeSet}
use Rattle.plan_runs.specs.declared.plans.PlanWalk.{PlanWalk}
use Rattle.plan_runs.specs.Plans.{AreJudgeSets, IsWalkOf, RunsAlone, walk_pair}
use Rattle.plan_runs.proofs.Turning.{moved_on, next_of, seat_taken, seat_there}
use Rattle.plan_runs.proofs.plans.make_walks.Goals as goal

pub remove-here-requires : goal.remove-here-requires
remove-here-requires g c = omega (arith, seat_there (λ (n : Named) judges. IsJudgeSet g.J.Judge.judging n.job judges) _ _ c.in-Some.plan c.loop-plan.judges.items c.loop-plan.invariant.judge_sets c.in-Some.ensures.steps.0, c.loop-plan.judges.ok.0)

pub make_walk-requires-clause-run : goal.make_walk-requires-clause-run
make_walk-requires-clause-run g c = (next_of (λ (n : Named). RunsAlone n.job) _ _ c.in-Some.plan c.loop-plan.invariant.runs c.in-Some.ensures.steps.0).0

pub make_walk-requires-clause-judges : goal.make_walk-requires-clause-judges
make_walk-requires-clause-judges g c = (seat_taken (λ (n : Named) judges. IsJudgeSet g.J.Judge.judging n.job judges) _ _ c.in-Some.plan c.loop-plan.judges.items c.remove-here.new.self.items c.remove-here.result c.loop-plan.invariant.judge_sets c.in-Some.ensures.steps.0 c.remove-here.ensures.items c.remove-here.ensures.value).0

pub loop-plan-preserved : goal.loop-plan-preserved
loop-plan-preserved g c = record {
  judge_sets = (seat_taken (λ (n : Named) judges. IsJudgeSet g.J.Judge.judging n.job judges) _ _ c.in-Some.plan c.loop-plan.judges.items c.remove-here.new.self.items c.remove-here.result c.loop-plan.invariant.judge_sets c.in-Some.ensures.steps.0 c.remove-here.ensures.items c.remove-here.ensures.value).1;
  runs = (next_of (λ (n : Named). RunsAlone n.job) _ _ c.in-Some.plan c.loop-plan.invariant.runs c.in-Some.ensures.steps.0).1;
  pairs = moved_on pair_of walk_pair (jobs_of c.args.plans.items) c.loop-plan.walks.items _ _ _ c.in-Some.plan _ c.loop-plan.invariant.pairs c.in-Some.ensures.steps.0 c.in_ok-push.ensures.items c.in_ok-walk.ensures.pair;
  each = subst (All (IsWalkOf)) (sym c.in_ok-push.ensures.items) (All-push (IsWalkOf) c.loop-plan.walks.items _ c.loop-plan.invariant.each c.in_ok-walk.ensures.walk);
  counted = omega (arith, c.in-Some.ensures.steps.1, c.loop-plan.invariant.counted, ap length c.in-Some.ensures.steps.0);
}

pub returns : goal.returns
returns g c = record {
  pairs = sym (c.loop-plan.invariant.pairs ∙ ap (λ (left : List Named). map walk_pair c.loop-plan.walks.items ++ jobs_of left) (nil_from_length _ (omega (arith, c.loop-plan.invariant.counted, c.in-None.ensures.steps.0))) ∙ append-nil (map walk_pair c.loop-plan.walks.items));
  each = c.loop-plan.invariant.each;
}

pub loop-plan-init : goal.loop-plan-init
loop-plan-init g c =
    let gives = c.into_iter-plan-iterator.ensures.into_iter_gives in
    record {
      judge_sets = subst (λ (ns : List Named). AreJudgeSets g.J.Judge.judging ns c.args.judges.items) (sym gives.0) c.requires.judges;
      runs = subst (All (λ (n : Named). RunsAlone n.job)) (sym gives.0) c.requires.plans;
      pairs = ap jobs_of (sym gives.0) ∙ ap (λ (ws : List (PlanWalk _)). map walk_pair ws ++ jobs_of (into_iter_items c.into_iter-plan-iterator.result)) (sym c.new-walks.ensures.items);
      each = subst (All (IsWalkOf)) (sym c.new-walks.ensures.items) (All-nil (IsWalkOf));
      counted = omega (arith, gives.1, ap length gives.0, c.args.plans.ok.0);
    }
