use Rattle.std.proofs.Common.{◌∙◌, ap, arith, refl, rules}
use Rattle.std.proofs.lemmas.Grind.{common_steps}
use Rattle.audit_model.specs.declared.rules.Rules.{Rules}
use Rattle.audit_model.specs.declared.setting.Setting.{Setting}
use Rattle.audit_laws.proofs.Running.{run_setting}
use Rattle.audit_run.proofs.run.run_with_cut_limit.Goals as goal

pub overflow_add-workers : goal.overflow_add-workers
overflow_add-workers g c =
    let workers = ap (λ (s : Setting). s.workers) c.setting.ensures.value in
    let few = (run_setting c.args.job.now c.requires.opened.run).few_workers in
    omega (arith, workers, few)

pub guards-requires-clause-no_regions : goal.guards-requires-clause-no_regions
guards-requires-clause-no_regions g c = ap (λ (r : Rules). r.regions) c.rules-rules.ensures.value ∙ c.requires.no_regions

pub guards-requires-clause-no_group : goal.guards-requires-clause-no_group
guards-requires-clause-no_group g c = ap (λ (r : Rules). r.group_districts) c.rules-rules.ensures.value ∙ c.requires.no_group

pub guards-requires-clause-no_frozen : goal.guards-requires-clause-no_frozen
guards-requires-clause-no_frozen g c = ap (λ (r : Rules). r.frozen) c.rules-rules.ensures.value ∙ c.requires.no_frozen

pub run_with_judges-requires-clause-judges : goal.run_with_judges-requires-clause-judges
run_with_judges-requires-clause-judges g c κs within =
    record {
      judges_are = λ k d inside.
          let is = c.in-Ok.ensures.each k d inside in
          record {
            kept = (
              rw is.test_is (first_of (search rules, grind (arith, common_steps))),
              rw (is.test_is, is.rules_are) (first_of (search rules, grind (arith, common_steps))),
              ap (λ (r : Rules). r.regions) (is.rules_are ∙ c.rules-rules.ensures.value) ∙ c.requires.no_regions,
              ap (λ (r : Rules). r.group_districts) (is.rules_are ∙ c.rules-rules.ensures.value) ∙ c.requires.no_group,
              ap (λ (r : Rules). r.frozen) (is.rules_are ∙ c.rules-rules.ensures.value) ∙ c.requires.no_frozen,
            );
            ruled = is.rules_are ∙ c.rules-rules.ensures.value;
            taken = λ districts few. refl;
          };
      count_is = omega (arith, c.in-Ok.ensures.count, ap (λ (s : Setting). s.workers) c.setting.ensures.value);
    }
