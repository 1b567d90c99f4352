use Rattle.audit_model.specs.Length.{cut_length}
use Rattle.audit_statement.specs.Report.{length_line, start_length_line}
use Rattle.std.proofs.lemmas.Result.{err_from_is_err_and}
use Rattle.report.proofs.Written.{appends-two, appends-err}
use Rattle.report.proofs.rules.push_length_lines.Goals as goal

pub returns-in_err-push_cut_length_line : goal.returns-in_err-push_cut_length_line
returns-in_err-push_cut_length_line c =
    let p = err_from_is_err_and c.from_residual.result c.from_residual.ensures.1 in
    rw (p.1, p.2) (appends-err c.args.out.now c.push_cut_length_line.new.out (start_length_line c.args.job.now.setting.blind (cut_length c.args.job.now.graph c.args.job.now.counts.lengths c.args.job.now.start) c.args.job.now.setting.columns.length) (length_line c.args.job.now.setting.max_length) c.in_err-push_cut_length_line.field-0.0 c.in_err-push_cut_length_line.ensures)

pub returns : goal.returns
returns c = appends-two c.args.out.now c.push_cut_length_line.new.out c.push_length_line.new.out (start_length_line c.args.job.now.setting.blind (cut_length c.args.job.now.graph c.args.job.now.counts.lengths c.args.job.now.start) c.args.job.now.setting.columns.length) (length_line c.args.job.now.setting.max_length) c.push_length_line.result c.in_ok-push_cut_length_line.ensures c.push_length_line.ensures
