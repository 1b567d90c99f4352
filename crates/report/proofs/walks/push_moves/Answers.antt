use Rattle.std.proofs.Common.{[], refl, arith}
use Rattle.std.proofs.lemmas.Result.{err_from_is_err_and}
use Rattle.audit_model.specs.declared.outcome.Outcome.{Outcome}
use Rattle.audit_statement.specs.Report.{moved_line}
use Rattle.report.proofs.Pieces.{pieces-more, pieces-err}
use Rattle.report.proofs.walks.push_moves.Goals as goal

blank : Outcome
blank = record { id = 0; moved = 0; values = []; bins = [] }

pub loop-found-preserved : goal.loop-found-preserved
unfolding blank
loop-found-preserved c =
    pieces-more moved_line c.args.walks.now c.loop-found.found-index _ blank c.args.out.now c.loop-found.out c.push_moved_line.new.out
    (omega arith) refl c.loop-found.invariant c.in_ok-push_moved_line.ensures

pub returns-in_err-push_moved_line : goal.returns-in_err-push_moved_line
unfolding blank
returns-in_err-push_moved_line c =
    let p = err_from_is_err_and c.from_residual.result c.from_residual.ensures.1 in
    rw (p.1, p.2)
    (pieces-err moved_line c.args.walks.now c.loop-found.found-index _ blank c.args.out.now c.loop-found.out c.push_moved_line.new.out
    c.in_err-push_moved_line.field-0.0 (omega arith) refl c.loop-found.invariant c.in_err-push_moved_line.ensures)
