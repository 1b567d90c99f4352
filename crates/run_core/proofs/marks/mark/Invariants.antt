use Rattle.std.proofs.Common.{◌≡◌, length, take}
use Rattle.run_core.proofs.Marking.{AreMarked}
use Rattle.run_core.proofs.marks.mark.Given as goal

abbrev pub invariant-loop-id : goal.invariant-loop-id
invariant-loop-id l = record {
  width : length l.marks ≡ length l.initial.marks;
  marked : AreMarked l.initial.marks l.marks (take l.id-index l.ids);
}
