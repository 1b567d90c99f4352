use Rattle.std.proofs.Common.{◌+◌, arith}
use Rattle.audit_statement.specs.Report.{columns_line}
use Rattle.report.proofs.Longest.{length-columns_line, observed}
use Rattle.report.proofs.room.columns_room.Goals as goal

pub returns-clause-enough : goal.returns-clause-enough
returns-clause-enough c =
    let setting = c.args.setting.now in
    let line = length-columns_line setting.columns setting.region in
    let names = c.in_ok-names_len.ensures.value in
    observed (columns_line setting.columns setting.region) (c.in_ok-checked_mul.field-0 + 70) _ c.checked_add.result
    (omega (arith, line, names, c.in_ok-checked_mul.ensures.1)) c.checked_add.ensures
