use Rattle.std.proofs.Common.{◌≡◌, ◌*◌, ◌^◌, ◌≤◌, sum, take}
use Rattle.scores.proofs.total.Given as goal

abbrev pub invariant-loop-share : goal.invariant-loop-share
invariant-loop-share l = record {
  value : l.total ≡ sum (take l.share-index l.shares);
  small : l.total ≤ l.share-index * 10 ^ 9;
}
