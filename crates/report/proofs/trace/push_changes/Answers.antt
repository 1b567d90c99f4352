use Rattle.std.proofs.Common.{◌≡◌, true, arith, length}
use Rattle.std.specs.Prelude.{◌==◌, not, slice_index}
use Rattle.std.proofs.lemmas.Bool.{ne_eqb, not_from_false}
use Rattle.std.proofs.lemmas.Result.{err_from_is_err_and}
use Rattle.audit_statement.specs.Trace.{change_word}
use Rattle.report.proofs.Changes.{appends-none, observed_err}
use Rattle.report.proofs.trace.push_changes.Goals as goal

pub loop-unit-init : goal.loop-unit-init
loop-unit-init c = appends-none c.args.out.now

pub returns-in_err-push_change : goal.returns-in_err-push_change
returns-in_err-push_change c =
    let p = err_from_is_err_and c.from_residual.result c.from_residual.ensures.1 in
    let plan = c.args.plan.now in
    let before = c.args.before.now in
    let unit = c.loop-unit.unit in
    let differs : not (slice_index plan unit == slice_index before unit) ≡ true =
    not_from_false (slice_index plan unit == slice_index before unit) (ne_eqb (slice_index plan unit) (slice_index before unit) c.if-plan-unit.true) in
    rw (p.1, p.2)
    (observed_err (change_word plan) (λ u. not (slice_index plan u == slice_index before u)) c.args.out.now c.loop-unit.out c.push_change.new.out unit (length plan) c.in_err-push_change.field-0.0
    (omega arith) differs c.loop-unit.invariant c.in_err-push_change.ensures)
