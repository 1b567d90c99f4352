use Rattle.std.proofs.Common.{◌≡◌, ℕ, ◌<◌, length, get_or}
use Rattle.flip_kernel.specs.Fitting.{Fits}
use Rattle.flip_kernel.proofs.replacing.replace_units.Given as goal

abbrev pub invariant-loop-unit : goal.invariant-loop-unit
invariant-loop-unit l = record {
  before : (v : ℕ) → v < l.unit → get_or l.plan v 0 ≡ get_or l.target.plan.now v 0;
  fits : Fits l.target.graph.now l.target.columns.now l.target.faces.now.faces l.target.districts l.plan l.sums l.near l.counts;
  width : length l.near ≡ length l.initial.near;
}
