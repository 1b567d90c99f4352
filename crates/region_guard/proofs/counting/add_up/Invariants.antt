use Rattle.std.proofs.Common.{◌≡◌, ℕ, ◌<◌, length, get_or}
use Rattle.audit_model.proofs.ColumnFacts.{part_of}
use Rattle.region_guard.proofs.counting.add_up.Given as goal

abbrev pub invariant-loop-unit : goal.invariant-loop-unit
invariant-loop-unit l = (d : ℕ) → d < length l.sums → get_or l.sums d 0 ≡ part_of l.column l.plan l.unit d
