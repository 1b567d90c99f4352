use Rattle.audit_statement.specs.Report.{columns_line}
use Rattle.report.specs.Parts.{source_line}
use Rattle.std.proofs.lemmas.Result.{err_from_is_err_and}
use Rattle.report.proofs.Written.{appends-two, appends-err}
use Rattle.report.proofs.origin.push_origin.Goals as goal

pub returns-in_err-push_source_line : goal.returns-in_err-push_source_line
returns-in_err-push_source_line c =
    let p = err_from_is_err_and c.from_residual.result c.from_residual.ensures.1 in
    rw (p.1, p.2) (appends-err c.args.out.now c.push_source_line.new.out (source_line c.args.origin.now) (columns_line c.args.setting.now.columns c.args.setting.now.region) c.in_err-push_source_line.field-0.0 c.in_err-push_source_line.ensures)

pub returns : goal.returns
returns c = appends-two c.args.out.now c.push_source_line.new.out c.push_columns_line.new.out (source_line c.args.origin.now) (columns_line c.args.setting.now.columns c.args.setting.now.region) c.push_columns_line.result c.in_ok-push_source_line.ensures c.push_columns_line.ensures
