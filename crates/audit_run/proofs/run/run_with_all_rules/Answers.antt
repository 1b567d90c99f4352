use Rattle.std.proofs.Common.{◌∙◌, ap, arith, rules, sym}
use Rattle.std.proofs.lemmas.Grind.{common_steps}
use Rattle.audit_model.specs.declared.rules.Rules.{Rules}
use Rattle.audit_model.specs.declared.setting.Setting.{Setting}
use Rattle.plan_core.proofs.Freezing.{frozen_home}
use Rattle.plan_runs.proofs.Splitting.{own_group, takes_plans}
use Rattle.audit_laws.proofs.Running.{run_setting}
use Rattle.audit_run.proofs.run.run_with_all_rules.Goals as goal

pub overflow_add-workers : goal.overflow_add-workers
overflow_add-workers g c =
    let workers = ap (λ (s : Setting). s.workers) c.setting.ensures.value in
    let few = (run_setting c.args.job.now c.requires.opened.run).few_workers in
    omega (arith, workers, few)

pub region_guards-requires-clause-group : goal.region_guards-requires-clause-group
region_guards-requires-clause-group g c = rw c.rules-rules.ensures.value (own_group _ _ c.requires.opened.run.sound.within.group).0

pub region_guards-requires-clause-few_units : goal.region_guards-requires-clause-few_units
region_guards-requires-clause-few_units g c =
    rw c.rules-rules.ensures.value (omega (arith, (own_group _ _ c.requires.opened.run.sound.within.group).1, c.requires.opened.run.sound.within.input.units))

pub region_guards-requires-clause-share : goal.region_guards-requires-clause-share
region_guards-requires-clause-share g c = rw c.rules-rules.ensures.value c.requires.opened.run.sound.within.setting.few_shares

pub region_guards-requires-clause-homes : goal.region_guards-requires-clause-homes
region_guards-requires-clause-homes g c = rw c.rules-rules.ensures.value (frozen_home c.args.job.now c.requires.opened.run.sound.within)

pub run_with_judges-requires-clause-judges : goal.run_with_judges-requires-clause-judges
run_with_judges-requires-clause-judges g c κs within = record {
  judges_are = λ k d inside.
      let is = c.in-Ok.ensures.each k d inside in
      let ruled = is.rules_are ∙ c.rules-rules.ensures.value in
      record {
        kept = (
          rw is.cut_is (first_of (search rules, grind (arith, common_steps))),
          rw (is.cut_is, is.same_cut) (first_of (search rules, grind (arith, common_steps))),
          is.same_cut ∙ sym (ap (λ (r : Rules). r.max_cut) is.rules_are),
          rw is.test_is (first_of (search rules, grind (arith, common_steps))),
          rw (is.test_is, is.rules_are) (first_of (search rules, grind (arith, common_steps))),
          rw (is.rules_are, is.districts_are) is.table,
          rw (is.rules_are, is.districts_are) is.group_table,
          is.share_is ∙ ap (λ (r : Rules). r.group_share) (sym is.rules_are),
          rw is.rules_are is.homes,
        );
        ruled = ruled;
        taken = takes_plans c.args.job.now _ _ c.requires.opened.run.sound.within ruled (is.districts_are ∙ c.districts.ensures.value);
      };
  count_is = omega (arith, c.in-Ok.ensures.count, ap (λ (s : Setting). s.workers) c.setting.ensures.value);
}
