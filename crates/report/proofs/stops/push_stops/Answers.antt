use Rattle.std.proofs.Common.{[], ◌<◌, ◌≤◌, subst, arith}
use Rattle.std.specs.Prelude.{zip}
use Rattle.std.proofs.lemmas.Result.{err_from_is_err_and}
use Rattle.audit_statement.specs.Report.{stopped_line}
use Rattle.report.proofs.Pieces.{no_ask, zipped, zipped_within, zipped_all, pieces-more, pieces-err, pieces-all}
use Rattle.report.proofs.stops.push_stops.Goals as goal

pub push_stopped_line-requires-clause-asked : goal.push_stopped_line-requires-clause-asked
push_stopped_line-requires-clause-asked c = subst (λ n. c.loop-k.k < n) c.ask_count-k-end.ensures.value c.loop-k-test.true

pub push_stopped_line-requires-clause-stop : goal.push_stopped_line-requires-clause-stop
push_stopped_line-requires-clause-stop c = c.requires.each c.loop-k.k [] (omega (arith, c.requires.count))

pub loop-k-preserved : goal.loop-k-preserved
loop-k-preserved c =
    let job = c.args.job.now in
    let stops = c.args.stops.now in
    let k = c.loop-k.k in
    let l = subst (λ n. k < n) c.ask_count-k-end.ensures.value c.loop-k-test.true in
    pieces-more (stopped_line job) (zip job.setting.asks stops) k _ (no_ask, []) c.args.out.now c.loop-k.out c.push_stopped_line.new.out
    (zipped_within job stops k c.requires.count l) (zipped job stops k c.requires.count l) c.loop-k.invariant c.in_ok-push_stopped_line.ensures

pub returns-in_err-push_stopped_line : goal.returns-in_err-push_stopped_line
returns-in_err-push_stopped_line c =
    let job = c.args.job.now in
    let stops = c.args.stops.now in
    let k = c.loop-k.k in
    let l = subst (λ n. k < n) c.ask_count-k-end.ensures.value c.loop-k-test.true in
    let p = err_from_is_err_and c.from_residual.result c.from_residual.ensures.1 in
    rw (p.1, p.2)
    (pieces-err (stopped_line job) (zip job.setting.asks stops) k _ (no_ask, []) c.args.out.now c.loop-k.out c.push_stopped_line.new.out c.in_err-push_stopped_line.field-0.0
    (zipped_within job stops k c.requires.count l) (zipped job stops k c.requires.count l) c.loop-k.invariant c.in_err-push_stopped_line.ensures)

pub returns : goal.returns
returns c =
    let job = c.args.job.now in
    pieces-all (stopped_line job) (zip job.setting.asks c.args.stops.now) c.loop-k.k c.args.out.now c.loop-k.out
    (zipped_all job c.args.stops.now c.loop-k.k c.requires.count (subst (λ n. n ≤ c.loop-k.k) c.ask_count-k-end.ensures.value c.loop-k-test.false)) c.loop-k.invariant
