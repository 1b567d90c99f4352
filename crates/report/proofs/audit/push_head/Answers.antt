use Rattle.audit_statement.specs.Report.{stop_line, title_by}
use Rattle.report.specs.Parts.{head, job_lines}
use Rattle.report.proofs.Heads.{report_head}
use Rattle.std.proofs.lemmas.Result.{err_from_is_err_and}
use Rattle.report.proofs.Written.{three-first, three-second, three-all}
use Rattle.report.proofs.audit.push_head.Goals as goal

pub returns-in_err-push_title_line : goal.returns-in_err-push_title_line
returns-in_err-push_title_line c =
    let job = c.args.job.now in
    let p = err_from_is_err_and c.from_residual.result c.from_residual.ensures.1 in
    rw (p.1, p.2) (three-first c.args.out.now (title_by job.setting.blind job.setting.shift) (job_lines job) (stop_line job.setting.stop) (head job) (report_head job) c.push_title_line.new.out c.in_err-push_title_line.field-0.0 c.in_err-push_title_line.ensures)

pub returns-in_err-push_job_lines : goal.returns-in_err-push_job_lines
returns-in_err-push_job_lines c =
    let job = c.args.job.now in
    let p = err_from_is_err_and c.from_residual-in_err-push_job_lines.result c.from_residual-in_err-push_job_lines.ensures.1 in
    rw (p.1, p.2)
    (three-second c.args.out.now (title_by job.setting.blind job.setting.shift) (job_lines job) (stop_line job.setting.stop) (head job) (report_head job) c.push_title_line.new.out c.push_job_lines.new.out c.in_err-push_job_lines.field-0.0
    c.in_ok-push_title_line.ensures c.in_err-push_job_lines.ensures)

pub returns : goal.returns
returns c =
    let job = c.args.job.now in
    three-all c.args.out.now (title_by job.setting.blind job.setting.shift) (job_lines job) (stop_line job.setting.stop) (head job) (report_head job) c.push_title_line.new.out c.push_job_lines.new.out c.push_stop_line.new.out c.push_stop_line.result
    c.in_ok-push_title_line.ensures c.in_ok-push_job_lines.ensures c.push_stop_line.ensures
