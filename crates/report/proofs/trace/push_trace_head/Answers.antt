use Rattle.std.proofs.Common.{◌∷◌, [], codes, flat_map}
use Rattle.audit_model.specs.Stopping.{placed_asks}
use Rattle.audit_statement.specs.Report.{line}
use Rattle.audit_statement.specs.Trace.{ask_line, trace_head}
use Rattle.report.specs.Parts.{job_lines}
use Rattle.report.proofs.Heads.{trace_head_is}
use Rattle.std.proofs.lemmas.Result.{err_from_is_err_and}
use Rattle.report.proofs.Written.{three-first, three-second, three-all}
use Rattle.report.proofs.trace.push_trace_head.Goals as goal

pub returns-in_err-push_line : goal.returns-in_err-push_line
returns-in_err-push_line c =
    let job = c.args.job.now in
    let p = err_from_is_err_and c.from_residual.result c.from_residual.ensures.1 in
    rw (p.1, p.2) (three-first c.args.out.now (line (codes "district-trace 1" ∷ [])) (job_lines job) (flat_map (ask_line job) (placed_asks job)) (trace_head job) (trace_head_is job) c.push_line.new.out c.in_err-push_line.field-0.0 c.in_err-push_line.ensures)

pub returns-in_err-push_job_lines : goal.returns-in_err-push_job_lines
returns-in_err-push_job_lines c =
    let job = c.args.job.now in
    let p = err_from_is_err_and c.from_residual-in_err-push_job_lines.result c.from_residual-in_err-push_job_lines.ensures.1 in
    rw (p.1, p.2)
    (three-second c.args.out.now (line (codes "district-trace 1" ∷ [])) (job_lines job) (flat_map (ask_line job) (placed_asks job)) (trace_head job) (trace_head_is job) c.push_line.new.out c.push_job_lines.new.out c.in_err-push_job_lines.field-0.0
    c.in_ok-push_line.ensures c.in_err-push_job_lines.ensures)

pub returns : goal.returns
returns c =
    let job = c.args.job.now in
    three-all c.args.out.now (line (codes "district-trace 1" ∷ [])) (job_lines job) (flat_map (ask_line job) (placed_asks job)) (trace_head job) (trace_head_is job) c.push_line.new.out c.push_job_lines.new.out c.push_ask_lines.new.out c.push_ask_lines.result
    c.in_ok-push_line.ensures c.in_ok-push_job_lines.ensures c.push_ask_lines.ensures
