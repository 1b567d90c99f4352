use Rattle.std.proofs.Common.{◌≡◌, ◌≤◌, take}
use Rattle.std.specs.Prelude.{count_by}
use Rattle.contig.specs.Counts.{is_before}
use Rattle.contig.proofs.counts.mates_in.Given as goal

abbrev pub invariant-loop-other : goal.invariant-loop-other
invariant-loop-other l = record {
  counted : l.count ≡ count_by (is_before l.plan l.end l.district) (take l.other-index l.other-items);
  few : l.count ≤ l.other-index;
}
