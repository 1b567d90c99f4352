use Rattle.report.specs.Parts.{first_columns, last_columns}
use Rattle.std.proofs.lemmas.Result.{err_from_is_err_and}
use Rattle.report.proofs.Written.{appends-two, appends-err}
use Rattle.report.proofs.origin.push_columns.Goals as goal

pub returns-in_err-push_first_columns : goal.returns-in_err-push_first_columns
returns-in_err-push_first_columns c =
    let p = err_from_is_err_and c.from_residual.result c.from_residual.ensures.1 in
    rw (p.1, p.2) (appends-err c.args.out.now c.push_first_columns.new.out (first_columns c.args.columns.now c.args.region.now) (last_columns c.args.columns.now) c.in_err-push_first_columns.field-0.0 c.in_err-push_first_columns.ensures)

pub returns : goal.returns
returns c = appends-two c.args.out.now c.push_first_columns.new.out c.push_last_columns.new.out (first_columns c.args.columns.now c.args.region.now) (last_columns c.args.columns.now) c.push_last_columns.result c.in_ok-push_first_columns.ensures c.push_last_columns.ensures
