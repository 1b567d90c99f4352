use Rattle.std.proofs.Common.{◌++◌, ◌∷◌, [], codes, Err}
use Rattle.audit_statement.specs.Report.{line, moved_lines}
use Rattle.report.specs.Parts.{head}
use Rattle.std.proofs.lemmas.Result.{err_from_is_err_and}
use Rattle.report.proofs.Written.{appends-err, appends-two}
use Rattle.report.proofs.audit.push_blind_report.Goals as goal

pub returns-in_err-push_head : goal.returns-in_err-push_head
returns-in_err-push_head c =
    let job = c.args.job.now in
    let out = c.args.out.now in
    let os = c.args.sorted.now in
    let t1 = head job in
    let t2 = t1 ++ (moved_lines job os) in
    let e = c.in_err-push_head.field-0.0 in
    let p = err_from_is_err_and c.from_residual.result c.from_residual.ensures.1 in
    let f2 = appends-err out c.push_head.new.out t1 (moved_lines job os) e c.in_err-push_head.ensures in
    rw (p.1, p.2) (appends-err out c.push_head.new.out t2 (line (codes "end" ∷ [])) e f2)

pub returns-in_err-push_moved_lines : goal.returns-in_err-push_moved_lines
returns-in_err-push_moved_lines c =
    let job = c.args.job.now in
    let out = c.args.out.now in
    let os = c.args.sorted.now in
    let t1 = head job in
    let t2 = t1 ++ (moved_lines job os) in
    let e = c.in_err-push_moved_lines.field-0.0 in
    let p = err_from_is_err_and c.from_residual-in_err-push_moved_lines.result c.from_residual-in_err-push_moved_lines.ensures.1 in
    let f2 = appends-two out c.push_head.new.out c.push_moved_lines.new.out t1 (moved_lines job os) (Err e) c.in_ok-push_head.ensures c.in_err-push_moved_lines.ensures in
    rw (p.1, p.2) (appends-err out c.push_moved_lines.new.out t2 (line (codes "end" ∷ [])) e f2)

pub returns : goal.returns
returns c =
    let job = c.args.job.now in
    let out = c.args.out.now in
    let os = c.args.sorted.now in
    let t1 = head job in
    let t2 = t1 ++ (moved_lines job os) in
    let d2 = appends-two out c.push_head.new.out c.push_moved_lines.new.out t1 (moved_lines job os) _ c.in_ok-push_head.ensures c.in_ok-push_moved_lines.ensures in
    appends-two out c.push_moved_lines.new.out c.push_line.new.out t2 (line (codes "end" ∷ [])) _ d2 c.push_line.ensures
