use Rattle.std.proofs.Common.{◌≡◌, ℕ, true, length, take}
use Rattle.std.specs.List.{list_any}
use Rattle.contig.specs.Faces.{has_side}
use Rattle.contig.specs.Listed.{is_marked, side}
use Rattle.contig.specs.Long.{units_on}
use Rattle.contig.specs.declared.long.LongRing.{LongRing}
use Rattle.contig.proofs.list.mark_long.Given as goal

abbrev pub invariant-loop-place : goal.invariant-loop-place
invariant-loop-place l = record {
  width : length l.marks.items ≡ length l.initial.marks.items;
  there : (x y : ℕ) → list_any (λ (ring : LongRing). has_side (units_on ring) x y) (take l.place l.rings) ≡ true → is_marked l.graph l.marks.items (side x y) ≡ true;
}
