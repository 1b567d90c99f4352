use Rattle.std.proofs.Common.{◌≡◌, ℕ, ◌<◌, ◌≤◌, cond, eqb, get_or}
use Rattle.contig.proofs.classes.join.Given as goal

abbrev pub invariant-loop-class : goal.invariant-loop-class
invariant-loop-class l = record {
  before : (k : ℕ) → k < l.class-index → get_or l.classes k 0 ≡ cond (eqb (get_or l.initial.classes k 0) l.old) l.new (get_or l.initial.classes k 0);
  after : (k : ℕ) → l.class-index ≤ k → get_or l.classes k 0 ≡ get_or l.initial.classes k 0;
}
