use Rattle.std.proofs.Common.{◌∙◌, ◌++◌, ◌∷◌, [], List, nat_le, take, sym, ap, subst, arith}
use Rattle.std.proofs.lemmas.List.{take_more}
use Rattle.audit_model.specs.declared.rules.Rules.{Rules}
use Rattle.plan_csv.specs.declared.named.Named.{Named}
use Rattle.plan_runs.specs.Paired.{ArePaired}
use Rattle.audit_run.specs.JudgeSets.{IsCutBy, IsCutJudgeSet}
use Rattle.audit_run.proofs.Pairing.{paired_push}
use Rattle.audit_run.proofs.judge_sets.cut_judge_sets.Goals as goal

pub guards-requires-clause-answers : goal.guards-requires-clause-answers
guards-requires-clause-answers g c = λ sums answer few ret.
    let here = (subst (IsCutBy c.args.rules.now) (sym c.plan-item.is) (c.requires.plans c.loop-plan.plan-index c.plan-item.result (omega arith))) in
    c.requires.answers sums answer few ret ∙ ap (λ m. nat_le sums.cut m) (sym (ap (λ (r : Rules). r.max_cut) c.rules.ensures.value ∙ here.cut_is))

pub guards-requires-clause-no_regions : goal.guards-requires-clause-no_regions
guards-requires-clause-no_regions g c =
    let here = (subst (IsCutBy c.args.rules.now) (sym c.plan-item.is) (c.requires.plans c.loop-plan.plan-index c.plan-item.result (omega arith))) in
    ap (λ (r : Rules). r.regions) c.rules.ensures.value ∙ here.no_regions

pub guards-requires-clause-no_group : goal.guards-requires-clause-no_group
guards-requires-clause-no_group g c =
    let here = (subst (IsCutBy c.args.rules.now) (sym c.plan-item.is) (c.requires.plans c.loop-plan.plan-index c.plan-item.result (omega arith))) in
    ap (λ (r : Rules). r.group_districts) c.rules.ensures.value ∙ here.no_group

pub guards-requires-clause-no_frozen : goal.guards-requires-clause-no_frozen
guards-requires-clause-no_frozen g c =
    let here = (subst (IsCutBy c.args.rules.now) (sym c.plan-item.is) (c.requires.plans c.loop-plan.plan-index c.plan-item.result (omega arith))) in
    ap (λ (r : Rules). r.frozen) c.rules.ensures.value ∙ here.no_frozen

pub loop-plan-preserved : goal.loop-plan-preserved
loop-plan-preserved g c =
    let judge_set = IsCutJudgeSet c.args.test c.args.count in
    let taken = take_more c.args.plans.now c.loop-plan.plan-index c.plan-item.result (omega arith) in
    let same = ap (λ (n : Named). take c.loop-plan.plan-index c.args.plans.now ++ n ∷ []) (sym c.plan-item.is) in
    subst (λ (plans : List Named). ArePaired judge_set plans c.push.new.self.items) (sym (taken ∙ same))
    (subst (λ judge_sets. ArePaired judge_set (take c.loop-plan.plan-index c.args.plans.now ++ c.plan-item.result ∷ []) judge_sets) (sym c.in_ok-push.ensures.items)
    (paired_push judge_set (take c.loop-plan.plan-index c.args.plans.now) c.loop-plan.judge_sets.items c.plan-item.result _ c.loop-plan.invariant
    (record {
      each = rw (← c.rules.ensures.value) c.in_ok-judges.ensures.each;
      count_is = c.in_ok-judges.ensures.count;
    })))
