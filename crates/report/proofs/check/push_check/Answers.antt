use Rattle.std.proofs.Common.{◌++◌, ◌∷◌, [], codes, Err}
use Rattle.audit_statement.specs.Report.{check_text, line, origin_lines}
use Rattle.report.specs.Parts.{plan_lines}
use Rattle.report.proofs.Heads.{check_text_is}
use Rattle.std.proofs.lemmas.Result.{err_from_is_err_and}
use Rattle.report.proofs.Written.{appends-by, appends-err, appends-two}
use Rattle.report.proofs.check.push_check.Goals as goal

pub returns-in_err-push_line : goal.returns-in_err-push_line
returns-in_err-push_line c =
    let job = c.args.job.now in
    let out = c.args.out.now in
    let t1 = line (codes "plan-check 1" ∷ []) in
    let t2 = t1 ++ (origin_lines job job.origin) in
    let t3 = t2 ++ (plan_lines job) in
    let e = c.in_err-push_line.field-0.0 in
    let p = err_from_is_err_and c.from_residual.result c.from_residual.ensures.1 in
    let new = c.push_line.new.out in
    let f2 = appends-err out new t1 (origin_lines job job.origin) e c.in_err-push_line.ensures in
    let f3 = appends-err out new t2 (plan_lines job) e f2 in
    rw (p.1, p.2) (appends-by out new (t3 ++ (line (codes "end" ∷ []))) (check_text job) (Err e) (check_text_is job) (appends-err out new t3 (line (codes "end" ∷ [])) e f3))

pub returns-in_err-push_origin_lines : goal.returns-in_err-push_origin_lines
returns-in_err-push_origin_lines c =
    let job = c.args.job.now in
    let out = c.args.out.now in
    let t1 = line (codes "plan-check 1" ∷ []) in
    let t2 = t1 ++ (origin_lines job job.origin) in
    let t3 = t2 ++ (plan_lines job) in
    let e = c.in_err-push_origin_lines.field-0.0 in
    let p = err_from_is_err_and c.from_residual-in_err-push_origin_lines.result c.from_residual-in_err-push_origin_lines.ensures.1 in
    let new = c.push_origin_lines.new.out in
    let f2 = appends-two out c.push_line.new.out new t1 (origin_lines job job.origin) (Err e) c.in_ok-push_line.ensures c.in_err-push_origin_lines.ensures in
    let f3 = appends-err out new t2 (plan_lines job) e f2 in
    rw (p.1, p.2) (appends-by out new (t3 ++ (line (codes "end" ∷ []))) (check_text job) (Err e) (check_text_is job) (appends-err out new t3 (line (codes "end" ∷ [])) e f3))

pub returns-in_err-push_plan_lines : goal.returns-in_err-push_plan_lines
returns-in_err-push_plan_lines c =
    let job = c.args.job.now in
    let out = c.args.out.now in
    let t1 = line (codes "plan-check 1" ∷ []) in
    let t2 = t1 ++ (origin_lines job job.origin) in
    let t3 = t2 ++ (plan_lines job) in
    let e = c.in_err-push_plan_lines.field-0.0 in
    let p = err_from_is_err_and c.from_residual-in_err-push_plan_lines.result c.from_residual-in_err-push_plan_lines.ensures.1 in
    let new = c.push_plan_lines.new.out in
    let d2 = appends-two out c.push_line.new.out c.push_origin_lines.new.out t1 (origin_lines job job.origin) _ c.in_ok-push_line.ensures c.in_ok-push_origin_lines.ensures in
    let f3 = appends-two out c.push_origin_lines.new.out new t2 (plan_lines job) (Err e) d2 c.in_err-push_plan_lines.ensures in
    rw (p.1, p.2) (appends-by out new (t3 ++ (line (codes "end" ∷ []))) (check_text job) (Err e) (check_text_is job) (appends-err out new t3 (line (codes "end" ∷ [])) e f3))

pub returns : goal.returns
returns c =
    let job = c.args.job.now in
    let out = c.args.out.now in
    let t1 = line (codes "plan-check 1" ∷ []) in
    let t2 = t1 ++ (origin_lines job job.origin) in
    let t3 = t2 ++ (plan_lines job) in
    let d2 = appends-two out c.push_line.new.out c.push_origin_lines.new.out t1 (origin_lines job job.origin) _ c.in_ok-push_line.ensures c.in_ok-push_origin_lines.ensures in
    let d3 = appends-two out c.push_origin_lines.new.out c.push_plan_lines.new.out t2 (plan_lines job) _ d2 c.in_ok-push_plan_lines.ensures in
    appends-by out c.push_line-2.new.out (t3 ++ (line (codes "end" ∷ []))) (check_text job) c.push_line-2.result (check_text_is job) (appends-two out c.push_plan_lines.new.out c.push_line-2.new.out t3 (line (codes "end" ∷ [])) _ d3 c.push_line-2.ensures)
