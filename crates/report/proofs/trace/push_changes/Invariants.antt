use Rattle.std.proofs.Common.{Ok}
use Rattle.std.specs.Prelude.{◌==◌, not, slice_index}
use Rattle.audit_statement.specs.Trace.{change_word}
use Rattle.report.specs.Lines.{AppendsText}
use Rattle.report.proofs.Changes.{observed}
use Rattle.report.proofs.trace.push_changes.Given as goal

abbrev pub invariant-loop-unit : goal.invariant-loop-unit
invariant-loop-unit l = AppendsText l.fn.out l.out (observed (change_word l.plan) (λ u. not (slice_index l.plan u == slice_index l.before u)) l.unit) (Ok tt)
