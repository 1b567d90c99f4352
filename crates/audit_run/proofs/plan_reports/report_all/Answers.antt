use Rattle.std.proofs.Common.{◌∙◌, arith, ap, sym, length}
use Rattle.std.proofs.lemmas.List.{nil_from_length}
use Rattle.audit_model.specs.declared.rules.Rules.{Rules}
use Rattle.audit_model.specs.declared.setting.Setting.{Setting}
use Rattle.audit_model.specs.Job.{Job}
use Rattle.audit_run.proofs.Likeness.{all_like}
use Rattle.audit_run.proofs.plan_reports.report_all.Goals as goal

pub first_of-requires : goal.first_of-requires
first_of-requires g c = omega (arith, ap length c.as_slice.ensures.value, c.requires.plans.shared.some)

pub report_cut-requires-clause-no_regions : goal.report_cut-requires-clause-no_regions
report_cut-requires-clause-no_regions g c κs within = λ k d inside.
    let regions = ap (λ (r : Rules). r.regions) c.rules-rules.ensures.value ∙ ap (λ (j : Job). j.regions) c.first_of.ensures.2 in
    ((all_like c.args.plans.items c.first_of.ensures.0 (rw c.as_slice.ensures.value at c.first_of.ensures.1) c.requires.plans) k d inside).regioned ∙ nil_from_length c.first_of.ensures.0.job.regions (sym (ap length regions) ∙ sym c.len.ensures ∙ c.if-len-eq0.true)

pub report_cut-requires-clause-no_group : goal.report_cut-requires-clause-no_group
report_cut-requires-clause-no_group g c κs within = λ k d inside.
    let least = ap (λ (r : Rules). r.group_districts) c.rules-rules.ensures.value ∙ ap (λ (j : Job). j.setting.group_districts) c.first_of.ensures.2 in
    let like = (all_like c.args.plans.items c.first_of.ensures.0 (rw c.as_slice.ensures.value at c.first_of.ensures.1) c.requires.plans) k d inside in
    ap (λ (s : Setting). s.group_districts) like.set ∙ sym least ∙ c.if-rules-eq0.true

pub report_cut-requires-clause-no_frozen : goal.report_cut-requires-clause-no_frozen
report_cut-requires-clause-no_frozen g c κs within = λ k d inside.
    let frozen = ap (λ (r : Rules). r.frozen) c.rules-rules.ensures.value ∙ ap (λ (j : Job). j.frozen) c.first_of.ensures.2 in
    ((all_like c.args.plans.items c.first_of.ensures.0 (rw c.as_slice.ensures.value at c.first_of.ensures.1) c.requires.plans) k d inside).freezing ∙ nil_from_length c.first_of.ensures.0.job.frozen (sym (ap length frozen) ∙ sym c.len-then-rules-eq0.ensures ∙ c.if-len-eq0-2.true)
