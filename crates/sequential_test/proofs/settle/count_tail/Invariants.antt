use Rattle.std.proofs.Common.{◌≡◌, ◌≤◌, take}
use Rattle.sequential_test.specs.Ranks.{tails_below}
use Rattle.sequential_test.proofs.settle.count_tail.Given as goal

abbrev pub invariant-loop-o : goal.invariant-loop-o
invariant-loop-o l = record {
  counted : l.count ≡ tails_below l.test.walks l.test.place l.test.tail l.test.start (take l.o-index l.posted) l.n;
  few : l.count ≤ l.o-index;
}
