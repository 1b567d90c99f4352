use Rattle.std.proofs.Common.{◌≡◌, ℕ, ◌<◌, true, length, get_or}
use Rattle.contig.specs.Listed.{is_marked, side}
use Rattle.contig.specs.Cycles.{next_place}
use Rattle.contig.proofs.list.mark_around.Given as goal

abbrev pub invariant-loop-place : goal.invariant-loop-place
invariant-loop-place l = record {
  width : length l.marks.items ≡ length l.initial.marks.items;
  kept : (q : ℕ × ℕ) → is_marked l.graph l.initial.marks.items q ≡ true → is_marked l.graph l.marks.items q ≡ true;
  there : (i : ℕ) → i < l.place → is_marked l.graph l.marks.items (side (get_or l.ring i 0) (get_or l.ring (next_place (length l.ring) i) 0)) ≡ true;
}
