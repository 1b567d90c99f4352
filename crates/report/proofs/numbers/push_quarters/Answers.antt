use Rattle.std.proofs.Common.{decimal, ◌/◌, ◌%◌}
use Rattle.std.proofs.lemmas.Result.{err_from_is_err_and}
use Rattle.audit_statement.specs.Words.{quarter_digits}
use Rattle.report.proofs.Written.{appends-err}
use Rattle.report.proofs.numbers.push_quarters.Goals as goal

pub returns-in_err-push_number : goal.returns-in_err-push_number
returns-in_err-push_number c =
    let p = err_from_is_err_and c.from_residual.result c.from_residual.ensures.1 in
    rw (p.1, p.2) (appends-err c.args.out.now c.push_number.new.out (decimal (c.args.number / 4)) (quarter_digits (c.args.number % 4)) c.in_err-push_number.field-0.0 (rw c.from.ensures at c.in_err-push_number.ensures))
