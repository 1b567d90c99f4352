use Rattle.std.proofs.Common.{[], ◌<◌, ◌≤◌, length, arith}
use Rattle.std.proofs.lemmas.Result.{err_from_is_err_and}
use Rattle.audit_model.specs.declared.outcome.Outcome.{Outcome}
use Rattle.audit_statement.specs.Report.{by_twos}
use Rattle.report.specs.Parts.{lines_of_pair}
use Rattle.report.proofs.Pieces.{get_or-by_twos, length-by_twos, pieces-more, pieces-err, pieces-all}
use Rattle.report.proofs.pairs.push_pairs.Goals as goal

blank : Outcome
blank = record { id = 0; moved = 0; values = []; bins = [] }

pub loop-pair-preserved : goal.loop-pair-preserved
unfolding blank
loop-pair-preserved c =
    let walks = c.args.walks.now in
    let k = c.loop-pair.pair in
    let inside : k < length (by_twos walks) = omega (arith, c.loop-pair-test.true, length-by_twos walks) in
    pieces-more (lines_of_pair c.args.job.now) (by_twos walks) k _ (blank, blank) c.args.out.now c.loop-pair.out c.push_pair.new.out
    inside (get_or-by_twos walks k (blank, blank) inside) c.loop-pair.invariant c.in_ok-push_pair.ensures

pub returns-in_err-push_pair : goal.returns-in_err-push_pair
unfolding blank
returns-in_err-push_pair c =
    let walks = c.args.walks.now in
    let k = c.loop-pair.pair in
    let inside : k < length (by_twos walks) = omega (arith, c.loop-pair-test.true, length-by_twos walks) in
    let p = err_from_is_err_and c.from_residual.result c.from_residual.ensures.1 in
    rw (p.1, p.2)
    (pieces-err (lines_of_pair c.args.job.now) (by_twos walks) k _ (blank, blank) c.args.out.now c.loop-pair.out c.push_pair.new.out
    c.in_err-push_pair.field-0.0 inside (get_or-by_twos walks k (blank, blank) inside) c.loop-pair.invariant c.in_err-push_pair.ensures)

pub returns : goal.returns
returns c =
    let walks = c.args.walks.now in
    let over : length (by_twos walks) ≤ c.loop-pair.pair = omega (arith, c.loop-pair-test.false, length-by_twos walks) in
    pieces-all (lines_of_pair c.args.job.now) (by_twos walks) c.loop-pair.pair c.args.out.now c.loop-pair.out over c.loop-pair.invariant
