use Rattle.std.proofs.Common.{◌≡◌, ℕ, List, Ok, Err, ap, refl, subst, sym}
use Rattle.std.proofs.lemmas.List.Elements.{All-map}
use Rattle.audit_model.specs.Job.{Job}
use Rattle.report.specs.AddedText.{WritesAllOf}
use Rattle.audit_statement.specs.Draw.{draw}
use Rattle.plan_csv.specs.Named.{pair_of}
use Rattle.audit_statement.specs.Jobs.{Jobs}
use Rattle.audit_statement.specs.Report.{plans_text}
use Rattle.plan_runs.specs.Plans.{HaveKey}
use Rattle.report.proofs.Letting.{lets_as}
use Rattle.plan_runs.proofs.plans.report_plans.Goals as goal

pub returns-in-Err-clause-reports : goal.returns-in-Err-clause-reports
returns-in-Err-clause-reports g c = λ key all. refl

pub returns-in-Ok-report_each-clause-reports : goal.returns-in-Ok-report_each-clause-reports
returns-in-Ok-report_each-clause-reports g c = λ key all.
    subst (λ (jobs : Jobs). WritesAllOf (g.K.Sink.state c.args.out.now) (g.K.Sink.state c.report_each.new.out) (plans_text (draw key) jobs) (Ok tt)) c.in-Ok.ensures.pairs
    (c.in-Ok-report_each.ensures key (subst (HaveKey key) (sym c.in-Ok.ensures.pairs) (All-map (λ (plan : List ℕ × Job). plan.1.setting.key ≡ key) pair_of c.args.plans.items all)))

pub returns-in-Err-report_each-clause-reports : goal.returns-in-Err-report_each-clause-reports
returns-in-Err-report_each-clause-reports g c = λ key all.
    subst (λ (jobs : Jobs). WritesAllOf (g.K.Sink.state c.args.out.now) (g.K.Sink.state c.report_each.new.out) (plans_text (draw key) jobs) (Err c.in-Err-report_each.field-0)) c.in-Ok.ensures.pairs
    (c.in-Err-report_each.ensures key (subst (HaveKey key) (sym c.in-Ok.ensures.pairs) (All-map (λ (plan : List ℕ × Job). plan.1.setting.key ≡ key) pair_of c.args.plans.items all)))

pub report_each-requires-clause-text : goal.report_each-requires-clause-text
report_each-requires-clause-text g c κs within =
    let due = c.requires.text in
    record {
      key = due.key;
      have_key = subst (HaveKey due.key) (sym c.in-Ok.ensures.pairs) (All-map (λ (plan : List ℕ × Job). plan.1.setting.key ≡ due.key) pair_of c.args.plans.items due.have_key);
      permitted = lets_as due.permitted (ap (λ (jobs : Jobs). plans_text (draw due.key) jobs) (sym c.in-Ok.ensures.pairs));
    }
