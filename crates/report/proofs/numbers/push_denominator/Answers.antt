use Rattle.std.proofs.Common.{◌∷◌, [], decimal}
use Rattle.std.proofs.lemmas.Result.{err_from_is_err_and}
use Rattle.report.proofs.Written.{appends-two, appends-err}
use Rattle.report.proofs.numbers.push_denominator.Goals as goal

pub returns-in_err-push : goal.returns-in_err-push
returns-in_err-push c =
    let p = err_from_is_err_and c.from_residual.result c.from_residual.ensures.1 in
    rw (p.1, p.2) (appends-err c.args.out.now c.push.new.self (47 ∷ []) (decimal c.args.bottom) c.in_err-push.field-0.0 (record { ok = tt; room = c.in_err-push.ensures.room }))

pub returns : goal.returns
returns c = appends-two c.args.out.now c.push.new.self c.push_number.new.out (47 ∷ []) (decimal c.args.bottom) c.push_number.result (record { ok = c.in_ok-push.ensures.ok; room = c.in_ok-push.ensures.room }) c.push_number.ensures
