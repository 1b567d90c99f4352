use Rattle.std.proofs.Common.{[], refl, arith}
use Rattle.std.proofs.lemmas.Result.{err_from_is_err_and}
use Rattle.audit_model.specs.declared.outcome.Outcome.{Outcome}
use Rattle.report.specs.Parts.{lines_of}
use Rattle.report.proofs.Pieces.{pieces-more, pieces-err}
use Rattle.report.proofs.walks.push_walks.Goals as goal

blank : Outcome
blank = record { id = 0; moved = 0; values = []; bins = [] }

pub loop-found-preserved : goal.loop-found-preserved
unfolding blank
loop-found-preserved c =
    pieces-more (lines_of c.args.job.now) c.args.walks.now c.loop-found.found-index _ blank c.args.out.now c.loop-found.out c.push_walk.new.out
    (omega arith) refl c.loop-found.invariant c.in_ok-push_walk.ensures

pub returns-in_err-push_walk : goal.returns-in_err-push_walk
unfolding blank
returns-in_err-push_walk c =
    let p = err_from_is_err_and c.from_residual.result c.from_residual.ensures.1 in
    rw (p.1, p.2)
    (pieces-err (lines_of c.args.job.now) c.args.walks.now c.loop-found.found-index _ blank c.args.out.now c.loop-found.out c.push_walk.new.out
    c.in_err-push_walk.field-0.0 (omega arith) refl c.loop-found.invariant c.in_err-push_walk.ensures)
