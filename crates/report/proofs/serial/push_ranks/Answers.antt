use Rattle.std.proofs.Common.{◌<◌, ◌≤◌, subst}
use Rattle.std.proofs.lemmas.Result.{err_from_is_err_and}
use Rattle.audit_statement.specs.Report.{serial_line}
use Rattle.report.proofs.Pieces.{asks-more, asks-err, asks-all}
use Rattle.report.proofs.serial.push_ranks.Goals as goal

pub push_serial_line-requires-clause-asked : goal.push_serial_line-requires-clause-asked
push_serial_line-requires-clause-asked c = subst (λ n. c.loop-k.k < n) c.ask_count-k-end.ensures.value c.loop-k-test.true

pub push_serial_line-requires-clause-rank : goal.push_serial_line-requires-clause-rank
push_serial_line-requires-clause-rank c = c.requires c.loop-k.k (subst (λ n. c.loop-k.k < n) c.ask_count-k-end.ensures.value c.loop-k-test.true)

pub loop-k-preserved : goal.loop-k-preserved
loop-k-preserved c =
    let job = c.args.job.now in
    asks-more job (serial_line job c.args.place c.args.ranks.now) c.loop-k.k c.args.out.now c.loop-k.out c.loop-k.invariant c.push_serial_line.new.out
    (subst (λ n. c.loop-k.k < n) c.ask_count-k-end.ensures.value c.loop-k-test.true) c.in_ok-push_serial_line.ensures

pub returns-in_err-push_serial_line : goal.returns-in_err-push_serial_line
returns-in_err-push_serial_line c =
    let job = c.args.job.now in
    let p = err_from_is_err_and c.from_residual.result c.from_residual.ensures.1 in
    rw (p.1, p.2)
    (asks-err job (serial_line job c.args.place c.args.ranks.now) c.loop-k.k c.args.out.now c.loop-k.out c.loop-k.invariant c.push_serial_line.new.out
    c.in_err-push_serial_line.field-0.0 (subst (λ n. c.loop-k.k < n) c.ask_count-k-end.ensures.value c.loop-k-test.true) c.in_err-push_serial_line.ensures)

pub returns : goal.returns
returns c =
    let job = c.args.job.now in
    asks-all job (serial_line job c.args.place c.args.ranks.now) c.loop-k.k c.args.out.now c.loop-k.out c.loop-k.invariant
    (subst (λ n. n ≤ c.loop-k.k) c.ask_count-k-end.ensures.value c.loop-k-test.false)
