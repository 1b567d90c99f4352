use Rattle.std.proofs.Common.{◌∷◌, decimal, w64}
use Rattle.std.proofs.Math.Facts.{to_z-of_z}
use Rattle.std.proofs.lemmas.Result.{err_from_is_err_and}
use Rattle.std.specs.Fmt.{signed_decimal}
use Rattle.report.proofs.Written.{appends-two, appends-err}
use Rattle.report.proofs.numbers.push_fraction.Goals as goal

pub returns-in_err-push_signed : goal.returns-in_err-push_signed
returns-in_err-push_signed c =
    let p = err_from_is_err_and c.from_residual.result c.from_residual.ensures.1 in
    rw (p.1, p.2) (appends-err c.args.out.now c.push_signed.new.out (signed_decimal c.args.top) (47 ∷ decimal c.args.bottom) c.in_err-push_signed.field-0.0 (rw (to_z-of_z {w = w64} {z = c.args.top} c.ranges.top) at c.in_err-push_signed.ensures))

pub returns : goal.returns
returns c = appends-two c.args.out.now c.push_signed.new.out c.push_denominator.new.out (signed_decimal c.args.top) (47 ∷ decimal c.args.bottom) c.push_denominator.result (rw (to_z-of_z {w = w64} {z = c.args.top} c.ranges.top) at c.in_ok-push_signed.ensures) c.push_denominator.ensures
