use Rattle.std.proofs.Common.{◌≡◌, ◌∙◌, All, length, map, ap, rules, subst, sym}
use Rattle.std.proofs.lemmas.List.{with_items_is}
use Rattle.report.proofs.Letting.{lets_as}
use Rattle.report.specs.AddedText.{WritesAllOf}
use Rattle.audit_statement.specs.Draw.{draw}
use Rattle.audit_statement.specs.Jobs.{Jobs}
use Rattle.audit_statement.specs.Report.{plans_text}
use Rattle.plan_runs.specs.Plans.{HasReport, HaveKey, walk_pair}
use Rattle.plan_runs.proofs.plans.report_round.Goals as goal

pub write_reports-requires-clause-reports : goal.write_reports-requires-clause-reports
write_reports-requires-clause-reports g c =
    let long : length c.walk_round.new.walks ≡ c.args.round.len = search rules in
    subst (All (HasReport)) (sym (with_items_is c.args.round c.walk_round.new.walks long)) c.walk_round.ensures.reports

pub write_reports-requires-clause-text : goal.write_reports-requires-clause-text
write_reports-requires-clause-text g c =
    let due = c.requires.text in
    let long : length c.walk_round.new.walks ≡ c.args.round.len = search rules in
    let pairs = ap (map walk_pair) (with_items_is c.args.round c.walk_round.new.walks long) ∙ c.walk_round.ensures.pairs ∙ ap (map walk_pair) c.as_mut_slice.ensures.value in
    record {
      key = due.key;
      have_key = subst (HaveKey due.key) (sym pairs) due.have_key;
      permitted = lets_as due.permitted (ap (plans_text (draw due.key)) (sym pairs));
    }

pub returns : goal.returns
returns g c = λ key all.
    let long : length c.walk_round.new.walks ≡ c.args.round.len = search rules in
    let pairs = ap (map walk_pair) (with_items_is c.args.round c.walk_round.new.walks long) ∙ c.walk_round.ensures.pairs ∙ ap (map walk_pair) c.as_mut_slice.ensures.value in
    subst (λ (jobs : Jobs). WritesAllOf (g.K.Sink.state c.args.out.now) (g.K.Sink.state c.write_reports.new.out) (plans_text (draw key) jobs) c.write_reports.result) pairs
    (c.write_reports.ensures key (subst (HaveKey key) (sym pairs) all))
