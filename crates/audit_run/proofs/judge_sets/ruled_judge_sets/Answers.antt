use Rattle.std.proofs.Common.{◌∙◌, ◌++◌, ◌∷◌, [], List, nat_le, take, sym, ap, subst, arith}
use Rattle.std.proofs.lemmas.List.{take_more}
use Rattle.audit_model.specs.declared.rules.Rules.{Rules}
use Rattle.plan_csv.specs.declared.named.Named.{Named}
use Rattle.plan_runs.specs.Paired.{ArePaired}
use Rattle.audit_run.specs.JudgeSets.{IsRuledBy, IsRuledJudgeSet}
use Rattle.plan_core.proofs.Freezing.{frozen_home}
use Rattle.plan_runs.proofs.Splitting.{own_group}
use Rattle.audit_run.proofs.Pairing.{paired_push}
use Rattle.audit_run.proofs.judge_sets.ruled_judge_sets.Goals as goal

pub region_guards-requires-clause-cut_answers : goal.region_guards-requires-clause-cut_answers
region_guards-requires-clause-cut_answers g c = λ sums answer few ret.
    let here = (subst (IsRuledBy c.args.rules.now) (sym c.plan-item.is) (c.requires.plans c.loop-plan.plan-index c.plan-item.result (omega arith))) in
    c.requires.cut_answers sums answer few ret ∙ ap (λ m. nat_le sums.cut m) (sym (ap (λ (r : Rules). r.max_cut) c.rules.ensures.value ∙ here.cut_is))

pub region_guards-requires-clause-answers : goal.region_guards-requires-clause-answers
region_guards-requires-clause-answers g c = λ width answer few ret.
    let here = (subst (IsRuledBy c.args.rules.now) (sym c.plan-item.is) (c.requires.plans c.loop-plan.plan-index c.plan-item.result (omega arith))) in
    c.requires.answers width answer few ret ∙ ap (λ m. nat_le width m) (sym (ap (λ (r : Rules). r.max_split) c.rules.ensures.value ∙ here.split_is))

pub region_guards-requires-clause-few_regions : goal.region_guards-requires-clause-few_regions
region_guards-requires-clause-few_regions g c =
    let here = (subst (IsRuledBy c.args.rules.now) (sym c.plan-item.is) (c.requires.plans c.loop-plan.plan-index c.plan-item.result (omega arith))) in
    rw c.rules.ensures.value here.sound.within.regions.few

pub region_guards-requires-clause-group : goal.region_guards-requires-clause-group
region_guards-requires-clause-group g c =
    let here = (subst (IsRuledBy c.args.rules.now) (sym c.plan-item.is) (c.requires.plans c.loop-plan.plan-index c.plan-item.result (omega arith))) in
    rw c.rules.ensures.value (own_group _ _ here.sound.within.group).0

pub region_guards-requires-clause-few_units : goal.region_guards-requires-clause-few_units
region_guards-requires-clause-few_units g c =
    let here = (subst (IsRuledBy c.args.rules.now) (sym c.plan-item.is) (c.requires.plans c.loop-plan.plan-index c.plan-item.result (omega arith))) in
    rw c.rules.ensures.value (omega (arith, (own_group _ _ here.sound.within.group).1, here.sound.within.input.units))

pub region_guards-requires-clause-share : goal.region_guards-requires-clause-share
region_guards-requires-clause-share g c =
    let here = (subst (IsRuledBy c.args.rules.now) (sym c.plan-item.is) (c.requires.plans c.loop-plan.plan-index c.plan-item.result (omega arith))) in
    rw c.rules.ensures.value here.sound.within.setting.few_shares

pub region_guards-requires-clause-homes : goal.region_guards-requires-clause-homes
region_guards-requires-clause-homes g c =
    let here = (subst (IsRuledBy c.args.rules.now) (sym c.plan-item.is) (c.requires.plans c.loop-plan.plan-index c.plan-item.result (omega arith))) in
    rw c.rules.ensures.value (frozen_home _ here.sound.within)

pub region_guards-requires-clause-districts : goal.region_guards-requires-clause-districts
region_guards-requires-clause-districts g c =
    let here = (subst (IsRuledBy c.args.rules.now) (sym c.plan-item.is) (c.requires.plans c.loop-plan.plan-index c.plan-item.result (omega arith))) in
    (omega (arith, c.districts.ensures.value, here.sound.within.input.two), omega (arith, c.districts.ensures.value, here.sound.within.input.few))

pub loop-plan-preserved : goal.loop-plan-preserved
loop-plan-preserved g c =
    let judge_set = IsRuledJudgeSet c.args.cut c.args.test c.args.count in
    let taken = take_more c.args.plans.now c.loop-plan.plan-index c.plan-item.result (omega arith) in
    let same = ap (λ (n : Named). take c.loop-plan.plan-index c.args.plans.now ++ n ∷ []) (sym c.plan-item.is) in
    subst (λ (plans : List Named). ArePaired judge_set plans c.push.new.self.items) (sym (taken ∙ same))
    (subst (λ judge_sets. ArePaired judge_set (take c.loop-plan.plan-index c.args.plans.now ++ c.plan-item.result ∷ []) judge_sets) (sym c.in_ok-push.ensures.items)
    (paired_push judge_set (take c.loop-plan.plan-index c.args.plans.now) c.loop-plan.judge_sets.items c.plan-item.result _ c.loop-plan.invariant
    (record {
      each = rw (← c.rules.ensures.value, ← c.districts.ensures.value) c.in_ok-judges.ensures.each;
      count_is = c.in_ok-judges.ensures.count;
    })))
