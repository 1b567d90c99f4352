use Rattle.std.proofs.Common.{◌<◌, ◌≤◌, subst, arith}
use Rattle.std.proofs.lemmas.Result.{err_from_is_err_and}
use Rattle.audit_statement.specs.Report.{ends_line}
use Rattle.report.proofs.Pieces.{asks-more, asks-err, asks-all}
use Rattle.report.proofs.ends.push_ends.Goals as goal

pub push_ends_line-requires-clause-asked : goal.push_ends_line-requires-clause-asked
push_ends_line-requires-clause-asked c = subst (λ n. c.loop-place.place < n) c.ask_count-place-end.ensures.value c.loop-place-test.true

pub push_ends_line-requires-clause-few : goal.push_ends_line-requires-clause-few
push_ends_line-requires-clause-few c = omega arith

pub loop-place-preserved : goal.loop-place-preserved
loop-place-preserved c =
    let job = c.args.job.now in
    asks-more job (ends_line job c.args.ends.now) c.loop-place.place c.args.out.now c.loop-place.out c.loop-place.invariant c.push_ends_line.new.out
    (subst (λ n. c.loop-place.place < n) c.ask_count-place-end.ensures.value c.loop-place-test.true) c.in_ok-push_ends_line.ensures

pub returns-in_err-push_ends_line : goal.returns-in_err-push_ends_line
returns-in_err-push_ends_line c =
    let job = c.args.job.now in
    let p = err_from_is_err_and c.from_residual.result c.from_residual.ensures.1 in
    rw (p.1, p.2)
    (asks-err job (ends_line job c.args.ends.now) c.loop-place.place c.args.out.now c.loop-place.out c.loop-place.invariant c.push_ends_line.new.out
    c.in_err-push_ends_line.field-0.0 (subst (λ n. c.loop-place.place < n) c.ask_count-place-end.ensures.value c.loop-place-test.true) c.in_err-push_ends_line.ensures)

pub returns : goal.returns
returns c =
    let job = c.args.job.now in
    asks-all job (ends_line job c.args.ends.now) c.loop-place.place c.args.out.now c.loop-place.out c.loop-place.invariant
    (subst (λ n. n ≤ c.loop-place.place) c.ask_count-place-end.ensures.value c.loop-place-test.false)
