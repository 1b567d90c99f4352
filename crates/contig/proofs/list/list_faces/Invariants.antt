use Rattle.std.proofs.Common.{◌≡◌, ◌≤◌, length, take}
use Rattle.contig.specs.Listed.{AreListed, listed}
use Rattle.contig.proofs.list.list_faces.Given as goal

abbrev pub invariant-loop-place : goal.invariant-loop-place
invariant-loop-place l = record {
  width : length l.faces.items ≡ length l.initial.faces.items;
  upto : l.end ≤ l.place;
  listed : AreListed l.graph l.long (listed (take l.end l.faces.items)) l.marks.items;
}
