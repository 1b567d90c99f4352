use Rattle.std.proofs.Common.{◌++◌, Err, refl}
use Rattle.audit_statement.specs.Report.{origin_lines, setting_line}
use Rattle.report.specs.Parts.{job_lines, key_line, plan_lines}
use Rattle.std.proofs.lemmas.Result.{err_from_is_err_and}
use Rattle.report.proofs.Written.{appends-by, appends-err, appends-two}
use Rattle.report.proofs.audit.push_job_lines.Goals as goal

pub returns-in_err-push_origin_lines : goal.returns-in_err-push_origin_lines
returns-in_err-push_origin_lines c =
    let job = c.args.job.now in
    let out = c.args.out.now in
    let t1 = origin_lines job job.origin in
    let t2 = t1 ++ (key_line job) in
    let t3 = t2 ++ (plan_lines job) in
    let e = c.in_err-push_origin_lines.field-0.0 in
    let p = err_from_is_err_and c.from_residual.result c.from_residual.ensures.1 in
    let new = c.push_origin_lines.new.out in
    let f2 = appends-err out new t1 (key_line job) e c.in_err-push_origin_lines.ensures in
    let f3 = appends-err out new t2 (plan_lines job) e f2 in
    rw (p.1, p.2) (appends-by out new (t3 ++ (setting_line job)) (job_lines job) (Err e) refl (appends-err out new t3 (setting_line job) e f3))

pub returns-in_err-push_key_line : goal.returns-in_err-push_key_line
returns-in_err-push_key_line c =
    let job = c.args.job.now in
    let out = c.args.out.now in
    let t1 = origin_lines job job.origin in
    let t2 = t1 ++ (key_line job) in
    let t3 = t2 ++ (plan_lines job) in
    let e = c.in_err-push_key_line.field-0.0 in
    let p = err_from_is_err_and c.from_residual-in_err-push_key_line.result c.from_residual-in_err-push_key_line.ensures.1 in
    let new = c.push_key_line.new.out in
    let f2 = appends-two out c.push_origin_lines.new.out new t1 (key_line job) (Err e) c.in_ok-push_origin_lines.ensures c.in_err-push_key_line.ensures in
    let f3 = appends-err out new t2 (plan_lines job) e f2 in
    rw (p.1, p.2) (appends-by out new (t3 ++ (setting_line job)) (job_lines job) (Err e) refl (appends-err out new t3 (setting_line job) e f3))

pub returns-in_err-push_plan_lines : goal.returns-in_err-push_plan_lines
returns-in_err-push_plan_lines c =
    let job = c.args.job.now in
    let out = c.args.out.now in
    let t1 = origin_lines job job.origin in
    let t2 = t1 ++ (key_line job) in
    let t3 = t2 ++ (plan_lines job) in
    let e = c.in_err-push_plan_lines.field-0.0 in
    let p = err_from_is_err_and c.from_residual-in_err-push_plan_lines.result c.from_residual-in_err-push_plan_lines.ensures.1 in
    let new = c.push_plan_lines.new.out in
    let d2 = appends-two out c.push_origin_lines.new.out c.push_key_line.new.out t1 (key_line job) _ c.in_ok-push_origin_lines.ensures c.in_ok-push_key_line.ensures in
    let f3 = appends-two out c.push_key_line.new.out new t2 (plan_lines job) (Err e) d2 c.in_err-push_plan_lines.ensures in
    rw (p.1, p.2) (appends-by out new (t3 ++ (setting_line job)) (job_lines job) (Err e) refl (appends-err out new t3 (setting_line job) e f3))

pub returns : goal.returns
returns c =
    let job = c.args.job.now in
    let out = c.args.out.now in
    let t1 = origin_lines job job.origin in
    let t2 = t1 ++ (key_line job) in
    let t3 = t2 ++ (plan_lines job) in
    let d2 = appends-two out c.push_origin_lines.new.out c.push_key_line.new.out t1 (key_line job) _ c.in_ok-push_origin_lines.ensures c.in_ok-push_key_line.ensures in
    let d3 = appends-two out c.push_key_line.new.out c.push_plan_lines.new.out t2 (plan_lines job) _ d2 c.in_ok-push_plan_lines.ensures in
    appends-by out c.push_setting_line.new.out (t3 ++ (setting_line job)) (job_lines job) c.push_setting_line.result refl (appends-two out c.push_plan_lines.new.out c.push_setting_line.new.out t3 (setting_line job) _ d3 c.push_setting_line.ensures)
