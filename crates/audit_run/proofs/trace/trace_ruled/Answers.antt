use Rattle.std.proofs.Common.{◌∙◌, ap, arith, rules, sym}
use Rattle.std.proofs.lemmas.Grind.{common_steps}
use Rattle.audit_model.specs.declared.rules.Rules.{Rules}
use Rattle.plan_core.proofs.Freezing.{frozen_home}
use Rattle.plan_runs.proofs.Splitting.{own_group, takes_plans}
use Rattle.audit_run.proofs.trace.trace_ruled.Goals as goal

pub region_guards-requires-clause-group : goal.region_guards-requires-clause-group
region_guards-requires-clause-group g c = rw c.rules-rules.ensures.value (own_group _ _ c.rules-rules.ensures.sound.within.group).0

pub region_guards-requires-clause-few_units : goal.region_guards-requires-clause-few_units
region_guards-requires-clause-few_units g c =
    let within = c.rules-rules.ensures.sound.within in
    rw c.rules-rules.ensures.value (omega (arith, (own_group _ _ within.group).1, within.input.units))

pub region_guards-requires-clause-share : goal.region_guards-requires-clause-share
region_guards-requires-clause-share g c = rw c.rules-rules.ensures.value c.rules-rules.ensures.sound.within.setting.few_shares

pub region_guards-requires-clause-homes : goal.region_guards-requires-clause-homes
region_guards-requires-clause-homes g c = rw c.rules-rules.ensures.value (frozen_home c.args.job.now c.rules-rules.ensures.sound.within)

pub trace-requires-clause-judge : goal.trace-requires-clause-judge
trace-requires-clause-judge g c =
    let is = c.in-Ok.ensures.each 0 c.remove.result (omega (arith, c.in-Ok.ensures.count)) in
    let ruled = is.rules_are ∙ c.rules-rules.ensures.value in
    rw c.remove.ensures.value (record {
      kept = (
        rw is.cut_is (first_of (search rules, grind (arith, common_steps))),
        rw (is.cut_is, is.same_cut) (first_of (search rules, grind (arith, common_steps))),
        is.same_cut ∙ sym (ap (λ (r : Rules). r.max_cut) is.rules_are),
        rw is.test_is (first_of (search rules, grind (arith, common_steps))),
        rw (is.test_is, is.rules_are) (first_of (search rules, grind (arith, common_steps))),
        rw (is.rules_are, is.districts_are) is.table,
        rw (is.rules_are, is.districts_are) is.group_table,
        is.share_is ∙ ap (λ (r : Rules). r.group_share) (sym is.rules_are),
        rw is.rules_are is.homes,
      );
      ruled = ruled;
      taken = takes_plans c.args.job.now _ _ c.rules-rules.ensures.sound.within ruled (is.districts_are ∙ c.districts.ensures.value);
    })
