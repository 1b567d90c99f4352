use Rattle.std.proofs.Common.{◌≡◌, ◌≤◌, false}
use Rattle.std.specs.List.{slice_index_or}
use Rattle.audit_model.specs.Below.{count_below}
use Rattle.report.proofs.rules.count_marked.Given as goal

abbrev pub invariant-loop-number : goal.invariant-loop-number
invariant-loop-number l = record {
  count : l.count ≡ count_below l.number (λ r. slice_index_or l.seen r false);
  few : l.count ≤ l.number;
}
