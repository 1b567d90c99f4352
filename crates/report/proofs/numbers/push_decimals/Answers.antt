use Rattle.std.proofs.Common.{◌∷◌, []}
use Rattle.std.proofs.lemmas.Result.{err_from_is_err_and}
use Rattle.audit_statement.specs.Report.{nine_digits}
use Rattle.report.proofs.Written.{appends-two, appends-err}
use Rattle.report.proofs.numbers.push_decimals.Goals as goal

pub returns-in_err-push : goal.returns-in_err-push
returns-in_err-push c =
    let p = err_from_is_err_and c.from_residual.result c.from_residual.ensures.1 in
    rw (p.1, p.2) (appends-err c.args.out.now c.push.new.self (46 ∷ []) (nine_digits c.args.number) c.in_err-push.field-0.0 (record { ok = tt; room = c.in_err-push.ensures.room }))

pub returns : goal.returns
returns c = appends-two c.args.out.now c.push.new.self c.push_nine_digits.new.out (46 ∷ []) (nine_digits c.args.number) c.push_nine_digits.result (record { ok = c.in_ok-push.ensures.ok; room = c.in_ok-push.ensures.room }) c.push_nine_digits.ensures
