use Rattle.std.proofs.Common.{◌<◌, ◌≤◌, subst, arith}
use Rattle.std.proofs.lemmas.Result.{err_from_is_err_and}
use Rattle.audit_statement.specs.Report.{pair_line}
use Rattle.report.proofs.Pieces.{asks-more, asks-err, asks-all}
use Rattle.report.proofs.pairs.push_pair.Goals as goal

pub push_pair_line-requires-clause-asked : goal.push_pair_line-requires-clause-asked
push_pair_line-requires-clause-asked c = subst (λ n. c.loop-place.place < n) c.ask_count-place-end.ensures.value c.loop-place-test.true

pub push_pair_line-requires-clause-few : goal.push_pair_line-requires-clause-few
push_pair_line-requires-clause-few c = omega arith

pub push_pair_line-requires-clause-first : goal.push_pair_line-requires-clause-first
push_pair_line-requires-clause-first c = c.requires.first c.loop-place.place (subst (λ n. c.loop-place.place < n) c.ask_count-place-end.ensures.value c.loop-place-test.true)

pub push_pair_line-requires-clause-second : goal.push_pair_line-requires-clause-second
push_pair_line-requires-clause-second c = c.requires.second c.loop-place.place (subst (λ n. c.loop-place.place < n) c.ask_count-place-end.ensures.value c.loop-place-test.true)

pub loop-place-preserved : goal.loop-place-preserved
loop-place-preserved c =
    let job = c.args.job.now in
    asks-more job (pair_line job (c.args.first.now, c.args.second.now)) c.loop-place.place c.args.out.now c.loop-place.out c.loop-place.invariant c.push_pair_line.new.out
    (subst (λ n. c.loop-place.place < n) c.ask_count-place-end.ensures.value c.loop-place-test.true) c.in_ok-push_pair_line.ensures

pub returns-in_err-push_pair_line : goal.returns-in_err-push_pair_line
returns-in_err-push_pair_line c =
    let job = c.args.job.now in
    let p = err_from_is_err_and c.from_residual.result c.from_residual.ensures.1 in
    rw (p.1, p.2)
    (asks-err job (pair_line job (c.args.first.now, c.args.second.now)) c.loop-place.place c.args.out.now c.loop-place.out c.loop-place.invariant c.push_pair_line.new.out
    c.in_err-push_pair_line.field-0.0 (subst (λ n. c.loop-place.place < n) c.ask_count-place-end.ensures.value c.loop-place-test.true) c.in_err-push_pair_line.ensures)

pub returns : goal.returns
returns c =
    let job = c.args.job.now in
    asks-all job (pair_line job (c.args.first.now, c.args.second.now)) c.loop-place.place c.args.out.now c.loop-place.out c.loop-place.invariant
    (subst (λ n. n ≤ c.loop-place.place) c.ask_count-place-end.ensures.value c.loop-place-test.false)
