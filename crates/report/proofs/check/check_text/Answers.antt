use Rattle.std.proofs.Common.{◌++◌, ◌∙◌, List, ℕ, ap}
use Rattle.std.proofs.lemmas.Result.{on_ok_weaker}
use Rattle.audit_statement.specs.Report.{check_text}
use Rattle.report.proofs.check.check_text.Goals as goal

pub returns-clause-ok : goal.returns-clause-ok
returns-clause-ok c =
    let text = check_text c.args.job.now in
    let items = c.in_ok-push_check.ensures.ok ∙ ap (λ (start : List ℕ). start ++ text) c.new-text.ensures in
    on_ok_weaker c.append.result (λ e. e ∙ ap (λ t. c.args.out.now.items ++ t) (c.as_slice.ensures ∙ items)) c.append.ensures.ok
