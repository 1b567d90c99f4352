use Rattle.std.proofs.Common.{◌++◌, Err}
use Rattle.audit_statement.specs.Report.{graph_line, population_line, rule_lines, weight_line}
use Rattle.std.proofs.lemmas.Result.{err_from_is_err_and}
use Rattle.report.proofs.Written.{appends-err, appends-two}
use Rattle.report.proofs.check.push_plan_lines.Goals as goal

pub returns-in_err-push_graph_line : goal.returns-in_err-push_graph_line
returns-in_err-push_graph_line c =
    let job = c.args.job.now in
    let out = c.args.out.now in
    let t1 = graph_line job in
    let t2 = t1 ++ (population_line job) in
    let t3 = t2 ++ (rule_lines job) in
    let e = c.in_err-push_graph_line.field-0.0 in
    let p = err_from_is_err_and c.from_residual.result c.from_residual.ensures.1 in
    let f2 = appends-err out c.push_graph_line.new.out t1 (population_line job) e c.in_err-push_graph_line.ensures in
    let f3 = appends-err out c.push_graph_line.new.out t2 (rule_lines job) e f2 in
    rw (p.1, p.2) (appends-err out c.push_graph_line.new.out t3 (weight_line job) e f3)

pub returns-in_err-push_population_line : goal.returns-in_err-push_population_line
returns-in_err-push_population_line c =
    let job = c.args.job.now in
    let out = c.args.out.now in
    let t1 = graph_line job in
    let t2 = t1 ++ (population_line job) in
    let t3 = t2 ++ (rule_lines job) in
    let e = c.in_err-push_population_line.field-0.0 in
    let p = err_from_is_err_and c.from_residual-in_err-push_population_line.result c.from_residual-in_err-push_population_line.ensures.1 in
    let f2 = appends-two out c.push_graph_line.new.out c.push_population_line.new.out t1 (population_line job) (Err e) c.in_ok-push_graph_line.ensures c.in_err-push_population_line.ensures in
    let f3 = appends-err out c.push_population_line.new.out t2 (rule_lines job) e f2 in
    rw (p.1, p.2) (appends-err out c.push_population_line.new.out t3 (weight_line job) e f3)

pub returns-in_err-push_rule_lines : goal.returns-in_err-push_rule_lines
returns-in_err-push_rule_lines c =
    let job = c.args.job.now in
    let out = c.args.out.now in
    let t1 = graph_line job in
    let t2 = t1 ++ (population_line job) in
    let t3 = t2 ++ (rule_lines job) in
    let e = c.in_err-push_rule_lines.field-0.0 in
    let p = err_from_is_err_and c.from_residual-in_err-push_rule_lines.result c.from_residual-in_err-push_rule_lines.ensures.1 in
    let d2 = appends-two out c.push_graph_line.new.out c.push_population_line.new.out t1 (population_line job) _ c.in_ok-push_graph_line.ensures c.in_ok-push_population_line.ensures in
    let f3 = appends-two out c.push_population_line.new.out c.push_rule_lines.new.out t2 (rule_lines job) (Err e) d2 c.in_err-push_rule_lines.ensures in
    rw (p.1, p.2) (appends-err out c.push_rule_lines.new.out t3 (weight_line job) e f3)

pub returns : goal.returns
returns c =
    let job = c.args.job.now in
    let out = c.args.out.now in
    let t1 = graph_line job in
    let t2 = t1 ++ (population_line job) in
    let t3 = t2 ++ (rule_lines job) in
    let d2 = appends-two out c.push_graph_line.new.out c.push_population_line.new.out t1 (population_line job) _ c.in_ok-push_graph_line.ensures c.in_ok-push_population_line.ensures in
    let d3 = appends-two out c.push_population_line.new.out c.push_rule_lines.new.out t2 (rule_lines job) _ d2 c.in_ok-push_rule_lines.ensures in
    appends-two out c.push_rule_lines.new.out c.push_weight_line.new.out t3 (weight_line job) _ d3 c.push_weight_line.ensures
