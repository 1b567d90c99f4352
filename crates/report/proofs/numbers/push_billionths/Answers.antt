use Rattle.std.proofs.Common.{◌∷◌, decimal, ◌/◌, ◌%◌, ◌^◌}
use Rattle.std.proofs.lemmas.Result.{err_from_is_err_and}
use Rattle.audit_statement.specs.Report.{nine_digits}
use Rattle.report.proofs.Written.{appends-two, appends-err}
use Rattle.report.proofs.numbers.push_billionths.Goals as goal

pub returns-in_err-push_number : goal.returns-in_err-push_number
returns-in_err-push_number c =
    let p = err_from_is_err_and c.from_residual.result c.from_residual.ensures.1 in
    rw (p.1, p.2) (appends-err c.args.out.now c.push_number.new.out (decimal (c.args.number / 10 ^ 9)) (46 ∷ nine_digits (c.args.number % 10 ^ 9)) c.in_err-push_number.field-0.0 c.in_err-push_number.ensures)

pub returns : goal.returns
returns c = appends-two c.args.out.now c.push_number.new.out c.push_decimals.new.out (decimal (c.args.number / 10 ^ 9)) (46 ∷ nine_digits (c.args.number % 10 ^ 9)) c.push_decimals.result c.in_ok-push_number.ensures c.push_decimals.ensures
