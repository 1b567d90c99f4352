use Rattle.std.proofs.Common.{refl, arith}
use Rattle.std.proofs.lemmas.Result.{err_from_is_err_and}
use Rattle.json.specs.Print.{escape_byte}
use Rattle.report.proofs.Pieces.{pieces-err, pieces-more}
use Rattle.report.proofs.quoted.push_escaped.Goals as goal

pub loop-byte-preserved : goal.loop-byte-preserved
loop-byte-preserved c =
    pieces-more escape_byte c.args.bytes.now c.loop-byte.byte-index _ 0 c.args.out.now c.loop-byte.out c.push_byte.new.out
    (omega arith) refl c.loop-byte.invariant c.in_ok-push_byte.ensures

pub returns-in_err-push_byte : goal.returns-in_err-push_byte
returns-in_err-push_byte c =
    let p = err_from_is_err_and c.from_residual.result c.from_residual.ensures.1 in
    rw (p.1, p.2)
    (pieces-err escape_byte c.args.bytes.now c.loop-byte.byte-index _ 0 c.args.out.now c.loop-byte.out c.push_byte.new.out
    c.in_err-push_byte.field-0.0 (omega arith) refl c.loop-byte.invariant c.in_err-push_byte.ensures)
