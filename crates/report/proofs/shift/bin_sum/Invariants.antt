use Rattle.std.proofs.Common.{◌≡◌, ◌≤◌, ◌*◌, take}
use Rattle.std.specs.Prelude.{slice_index, sum_by}
use Rattle.report.proofs.shift.bin_sum.Given as goal

abbrev pub invariant-loop-found : goal.invariant-loop-found
invariant-loop-found l = record {
  sum : l.sum ≡ sum_by (λ o. slice_index o.bins l.bin) (take l.found-index l.sorted);
  few : l.sum ≤ l.found-index * 4294967296;
}
