use Rattle.std.proofs.Common.{◌≡◌, ◌∙◌, ◌+◌, [], arith, ap, refl, rules, sym, length}
use Rattle.std.proofs.lemmas.Grind.{common_steps}
use Rattle.audit_model.specs.declared.rules.Rules.{Rules}
use Rattle.audit_model.specs.declared.setting.Setting.{Setting}
use Rattle.audit_model.specs.Job.{Job}
use Rattle.plan_csv.specs.declared.named.Named.{Named}
use Rattle.audit_laws.proofs.Running.{run_setting}
use Rattle.plan_runs.specs.Plans.{RunsAlone}
use Rattle.audit_run.proofs.Likeness.{IsLike, all_like, of_first}
use Rattle.audit_run.proofs.Pairing.{paired_with}
use Rattle.audit_run.proofs.plan_reports.report_cut.Goals as goal

pub first_of-first-requires : goal.first_of-first-requires
first_of-first-requires g c = omega (arith, ap length c.as_slice.ensures.value, c.requires.plans.shared.some)

pub overflow_add-workers : goal.overflow_add-workers
overflow_add-workers g c =
    let of = run_setting c.first_of-first.ensures.0.job (of_first (λ (n : Named). RunsAlone n.job) c.args.plans.items c.first_of-first.ensures.0 (rw c.as_slice.ensures.value at c.first_of-first.ensures.1) c.requires.plans.shared.some c.requires.plans.alone).run in
    let workers = ap (λ (s : Setting). s.workers) (c.setting.ensures.value ∙ ap (λ (j : Job). j.setting) c.first_of-first.ensures.2) in
    omega (arith, workers, of.few_workers)

pub cut_judge_sets-requires-clause-plans : goal.cut_judge_sets-requires-clause-plans
cut_judge_sets-requires-clause-plans g c =
    let cut = ap (λ (r : Rules). r.max_cut) c.rules-rules.ensures.value ∙ ap (λ (j : Job). j.setting.max_cut) c.first_of-first.ensures.2 in
    rw c.as_slice-2.ensures.value (λ k d inside.
    let like = (all_like c.args.plans.items c.first_of-first.ensures.0 (rw c.as_slice.ensures.value at c.first_of-first.ensures.1) c.requires.plans) k d inside in
    record {
      cut_is = ap (λ (s : Setting). s.max_cut) like.set ∙ sym cut;
      no_regions = c.requires.no_regions k d inside;
      no_group = c.requires.no_group k d inside;
      no_frozen = c.requires.no_frozen k d inside;
    })

pub report_plans-requires-clause-judges : goal.report_plans-requires-clause-judges
report_plans-requires-clause-judges g c κs within =
    let cut = ap (λ (r : Rules). r.max_cut) c.rules-rules.ensures.value ∙ ap (λ (j : Job). j.setting.max_cut) c.first_of-first.ensures.2 in
    let workers = ap (λ (s : Setting). s.workers) c.setting.ensures.value ∙ ap (λ (j : Job). j.setting.workers) c.first_of-first.ensures.2 in
    paired_with (λ n. IsLike c.first_of-first.ensures.0 n × (n.job.regions ≡ []) × (n.job.setting.group_districts ≡ 0) × (n.job.frozen ≡ [])) _ _ (λ n judges each judge_set.
    let same = each.0.set in
    record {
      judges_are = λ i e within_judges.
          let is = judge_set.each i e within_judges in
          let limit_cut = ap (λ (s : Setting). s.max_cut) same ∙ sym cut in
          record {
            kept = (
              rw is.test_is (first_of (search rules, grind (arith, common_steps))),
              rw (is.test_is, is.rules_are, limit_cut) (first_of (search rules, grind (arith, common_steps))),
              ap (λ (r : Rules). r.regions) is.rules_are ∙ each.1,
              ap (λ (r : Rules). r.group_districts) is.rules_are ∙ each.2,
              ap (λ (r : Rules). r.frozen) is.rules_are ∙ each.3,
            );
            ruled = is.rules_are;
            taken = λ districts few. refl;
          };
      count_is = judge_set.count_is ∙ ap (λ n. n + 1) (workers ∙ sym (ap (λ (s : Setting). s.workers) same));
    }) c.args.plans.items c.in-Ok.judge_sets.items (λ k d inside. (
      (all_like c.args.plans.items c.first_of-first.ensures.0 (rw c.as_slice.ensures.value at c.first_of-first.ensures.1) c.requires.plans) k d inside,
      c.requires.no_regions k d inside,
      c.requires.no_group k d inside,
      c.requires.no_frozen k d inside,
    )) (rw c.as_slice-2.ensures.value at c.in-Ok.ensures)

pub returns-in-Err-clause-reports : goal.returns-in-Err-clause-reports
returns-in-Err-clause-reports g c = λ key all. refl

pub report_plans-requires-clause-plans : goal.report_plans-requires-clause-plans
report_plans-requires-clause-plans g c κs within = c.requires.plans.alone
