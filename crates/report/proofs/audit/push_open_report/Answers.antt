use Rattle.std.proofs.Common.{◌++◌, ◌∷◌, [], codes, Err}
use Rattle.audit_statement.specs.Report.{line, pair_lines, serial_lines, shift_line, test_lines, walk_lines}
use Rattle.report.specs.Parts.{head}
use Rattle.std.proofs.lemmas.Result.{err_from_is_err_and}
use Rattle.report.proofs.Written.{appends-err, appends-two}
use Rattle.report.proofs.audit.push_open_report.Goals as goal

pub returns-in_err-push_head : goal.returns-in_err-push_head
returns-in_err-push_head c =
    let job = c.args.job.now in
    let out = c.args.out.now in
    let os = c.args.sorted.now in
    let t1 = head job in
    let t2 = t1 ++ (walk_lines job os) in
    let t3 = t2 ++ (pair_lines job.setting.pairs job os) in
    let t4 = t3 ++ (shift_line job.setting.shift os) in
    let t5 = t4 ++ (test_lines job.setting.stop job os c.args.stops.now) in
    let t6 = t5 ++ (serial_lines job c.args.serial) in
    let e = c.in_err-push_head.field-0.0 in
    let p = err_from_is_err_and c.from_residual.result c.from_residual.ensures.1 in
    let f2 = appends-err out c.push_head.new.out t1 (walk_lines job os) e c.in_err-push_head.ensures in
    let f3 = appends-err out c.push_head.new.out t2 (pair_lines job.setting.pairs job os) e f2 in
    let f4 = appends-err out c.push_head.new.out t3 (shift_line job.setting.shift os) e f3 in
    let f5 = appends-err out c.push_head.new.out t4 (test_lines job.setting.stop job os c.args.stops.now) e f4 in
    let f6 = appends-err out c.push_head.new.out t5 (serial_lines job c.args.serial) e f5 in
    rw (p.1, p.2) (appends-err out c.push_head.new.out t6 (line (codes "end" ∷ [])) e f6)

pub returns-in_err-push_walk_lines : goal.returns-in_err-push_walk_lines
returns-in_err-push_walk_lines c =
    let job = c.args.job.now in
    let out = c.args.out.now in
    let os = c.args.sorted.now in
    let t1 = head job in
    let t2 = t1 ++ (walk_lines job os) in
    let t3 = t2 ++ (pair_lines job.setting.pairs job os) in
    let t4 = t3 ++ (shift_line job.setting.shift os) in
    let t5 = t4 ++ (test_lines job.setting.stop job os c.args.stops.now) in
    let t6 = t5 ++ (serial_lines job c.args.serial) in
    let e = c.in_err-push_walk_lines.field-0.0 in
    let p = err_from_is_err_and c.from_residual-in_err-push_walk_lines.result c.from_residual-in_err-push_walk_lines.ensures.1 in
    let f2 = appends-two out c.push_head.new.out c.push_walk_lines.new.out t1 (walk_lines job os) (Err e) c.in_ok-push_head.ensures c.in_err-push_walk_lines.ensures in
    let f3 = appends-err out c.push_walk_lines.new.out t2 (pair_lines job.setting.pairs job os) e f2 in
    let f4 = appends-err out c.push_walk_lines.new.out t3 (shift_line job.setting.shift os) e f3 in
    let f5 = appends-err out c.push_walk_lines.new.out t4 (test_lines job.setting.stop job os c.args.stops.now) e f4 in
    let f6 = appends-err out c.push_walk_lines.new.out t5 (serial_lines job c.args.serial) e f5 in
    rw (p.1, p.2) (appends-err out c.push_walk_lines.new.out t6 (line (codes "end" ∷ [])) e f6)

pub returns-in_err-push_pair_lines : goal.returns-in_err-push_pair_lines
returns-in_err-push_pair_lines c =
    let job = c.args.job.now in
    let out = c.args.out.now in
    let os = c.args.sorted.now in
    let t1 = head job in
    let t2 = t1 ++ (walk_lines job os) in
    let t3 = t2 ++ (pair_lines job.setting.pairs job os) in
    let t4 = t3 ++ (shift_line job.setting.shift os) in
    let t5 = t4 ++ (test_lines job.setting.stop job os c.args.stops.now) in
    let t6 = t5 ++ (serial_lines job c.args.serial) in
    let e = c.in_err-push_pair_lines.field-0.0 in
    let p = err_from_is_err_and c.from_residual-in_err-push_pair_lines.result c.from_residual-in_err-push_pair_lines.ensures.1 in
    let d2 = appends-two out c.push_head.new.out c.push_walk_lines.new.out t1 (walk_lines job os) _ c.in_ok-push_head.ensures c.in_ok-push_walk_lines.ensures in
    let f3 = appends-two out c.push_walk_lines.new.out c.push_pair_lines.new.out t2 (pair_lines job.setting.pairs job os) (Err e) d2 c.in_err-push_pair_lines.ensures in
    let f4 = appends-err out c.push_pair_lines.new.out t3 (shift_line job.setting.shift os) e f3 in
    let f5 = appends-err out c.push_pair_lines.new.out t4 (test_lines job.setting.stop job os c.args.stops.now) e f4 in
    let f6 = appends-err out c.push_pair_lines.new.out t5 (serial_lines job c.args.serial) e f5 in
    rw (p.1, p.2) (appends-err out c.push_pair_lines.new.out t6 (line (codes "end" ∷ [])) e f6)

pub returns-in_err-push_shift_line : goal.returns-in_err-push_shift_line
returns-in_err-push_shift_line c =
    let job = c.args.job.now in
    let out = c.args.out.now in
    let os = c.args.sorted.now in
    let t1 = head job in
    let t2 = t1 ++ (walk_lines job os) in
    let t3 = t2 ++ (pair_lines job.setting.pairs job os) in
    let t4 = t3 ++ (shift_line job.setting.shift os) in
    let t5 = t4 ++ (test_lines job.setting.stop job os c.args.stops.now) in
    let t6 = t5 ++ (serial_lines job c.args.serial) in
    let e = c.in_err-push_shift_line.field-0.0 in
    let p = err_from_is_err_and c.from_residual-in_err-push_shift_line.result c.from_residual-in_err-push_shift_line.ensures.1 in
    let d2 = appends-two out c.push_head.new.out c.push_walk_lines.new.out t1 (walk_lines job os) _ c.in_ok-push_head.ensures c.in_ok-push_walk_lines.ensures in
    let d3 = appends-two out c.push_walk_lines.new.out c.push_pair_lines.new.out t2 (pair_lines job.setting.pairs job os) _ d2 c.in_ok-push_pair_lines.ensures in
    let f4 = appends-two out c.push_pair_lines.new.out c.push_shift_line.new.out t3 (shift_line job.setting.shift os) (Err e) d3 c.in_err-push_shift_line.ensures in
    let f5 = appends-err out c.push_shift_line.new.out t4 (test_lines job.setting.stop job os c.args.stops.now) e f4 in
    let f6 = appends-err out c.push_shift_line.new.out t5 (serial_lines job c.args.serial) e f5 in
    rw (p.1, p.2) (appends-err out c.push_shift_line.new.out t6 (line (codes "end" ∷ [])) e f6)

pub returns-in_err-push_test_lines : goal.returns-in_err-push_test_lines
returns-in_err-push_test_lines c =
    let job = c.args.job.now in
    let out = c.args.out.now in
    let os = c.args.sorted.now in
    let t1 = head job in
    let t2 = t1 ++ (walk_lines job os) in
    let t3 = t2 ++ (pair_lines job.setting.pairs job os) in
    let t4 = t3 ++ (shift_line job.setting.shift os) in
    let t5 = t4 ++ (test_lines job.setting.stop job os c.args.stops.now) in
    let t6 = t5 ++ (serial_lines job c.args.serial) in
    let e = c.in_err-push_test_lines.field-0.0 in
    let p = err_from_is_err_and c.from_residual-in_err-push_test_lines.result c.from_residual-in_err-push_test_lines.ensures.1 in
    let d2 = appends-two out c.push_head.new.out c.push_walk_lines.new.out t1 (walk_lines job os) _ c.in_ok-push_head.ensures c.in_ok-push_walk_lines.ensures in
    let d3 = appends-two out c.push_walk_lines.new.out c.push_pair_lines.new.out t2 (pair_lines job.setting.pairs job os) _ d2 c.in_ok-push_pair_lines.ensures in
    let d4 = appends-two out c.push_pair_lines.new.out c.push_shift_line.new.out t3 (shift_line job.setting.shift os) _ d3 c.in_ok-push_shift_line.ensures in
    let f5 = appends-two out c.push_shift_line.new.out c.push_test_lines.new.out t4 (test_lines job.setting.stop job os c.args.stops.now) (Err e) d4 c.in_err-push_test_lines.ensures in
    let f6 = appends-err out c.push_test_lines.new.out t5 (serial_lines job c.args.serial) e f5 in
    rw (p.1, p.2) (appends-err out c.push_test_lines.new.out t6 (line (codes "end" ∷ [])) e f6)

pub returns-in_err-push_serial_lines : goal.returns-in_err-push_serial_lines
returns-in_err-push_serial_lines c =
    let job = c.args.job.now in
    let out = c.args.out.now in
    let os = c.args.sorted.now in
    let t1 = head job in
    let t2 = t1 ++ (walk_lines job os) in
    let t3 = t2 ++ (pair_lines job.setting.pairs job os) in
    let t4 = t3 ++ (shift_line job.setting.shift os) in
    let t5 = t4 ++ (test_lines job.setting.stop job os c.args.stops.now) in
    let t6 = t5 ++ (serial_lines job c.args.serial) in
    let e = c.in_err-push_serial_lines.field-0.0 in
    let p = err_from_is_err_and c.from_residual-in_err-push_serial_lines.result c.from_residual-in_err-push_serial_lines.ensures.1 in
    let d2 = appends-two out c.push_head.new.out c.push_walk_lines.new.out t1 (walk_lines job os) _ c.in_ok-push_head.ensures c.in_ok-push_walk_lines.ensures in
    let d3 = appends-two out c.push_walk_lines.new.out c.push_pair_lines.new.out t2 (pair_lines job.setting.pairs job os) _ d2 c.in_ok-push_pair_lines.ensures in
    let d4 = appends-two out c.push_pair_lines.new.out c.push_shift_line.new.out t3 (shift_line job.setting.shift os) _ d3 c.in_ok-push_shift_line.ensures in
    let d5 = appends-two out c.push_shift_line.new.out c.push_test_lines.new.out t4 (test_lines job.setting.stop job os c.args.stops.now) _ d4 c.in_ok-push_test_lines.ensures in
    let f6 = appends-two out c.push_test_lines.new.out c.push_serial_lines.new.out t5 (serial_lines job c.args.serial) (Err e) d5 c.in_err-push_serial_lines.ensures in
    rw (p.1, p.2) (appends-err out c.push_serial_lines.new.out t6 (line (codes "end" ∷ [])) e f6)

pub returns : goal.returns
returns c =
    let job = c.args.job.now in
    let out = c.args.out.now in
    let os = c.args.sorted.now in
    let t1 = head job in
    let t2 = t1 ++ (walk_lines job os) in
    let t3 = t2 ++ (pair_lines job.setting.pairs job os) in
    let t4 = t3 ++ (shift_line job.setting.shift os) in
    let t5 = t4 ++ (test_lines job.setting.stop job os c.args.stops.now) in
    let t6 = t5 ++ (serial_lines job c.args.serial) in
    let d2 = appends-two out c.push_head.new.out c.push_walk_lines.new.out t1 (walk_lines job os) _ c.in_ok-push_head.ensures c.in_ok-push_walk_lines.ensures in
    let d3 = appends-two out c.push_walk_lines.new.out c.push_pair_lines.new.out t2 (pair_lines job.setting.pairs job os) _ d2 c.in_ok-push_pair_lines.ensures in
    let d4 = appends-two out c.push_pair_lines.new.out c.push_shift_line.new.out t3 (shift_line job.setting.shift os) _ d3 c.in_ok-push_shift_line.ensures in
    let d5 = appends-two out c.push_shift_line.new.out c.push_test_lines.new.out t4 (test_lines job.setting.stop job os c.args.stops.now) _ d4 c.in_ok-push_test_lines.ensures in
    let d6 = appends-two out c.push_test_lines.new.out c.push_serial_lines.new.out t5 (serial_lines job c.args.serial) _ d5 c.in_ok-push_serial_lines.ensures in
    appends-two out c.push_serial_lines.new.out c.push_line.new.out t6 (line (codes "end" ∷ [])) _ d6 c.push_line.ensures
