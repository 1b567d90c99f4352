use Rattle.std.proofs.Common.{◌≡◌, ℕ, ◌<◌, true, length, get_or}
use Rattle.audit_model.specs.Graph.{adjacent}
use Rattle.contig.specs.Cycles.{next_place}
use Rattle.contig.proofs.long.goes_round.Given as goal

abbrev pub invariant-loop-place : goal.invariant-loop-place
invariant-loop-place l = (i : ℕ) → i < l.place → adjacent l.graph (get_or l.ring i 0) (get_or l.ring (next_place (length l.ring) i) 0) ≡ true
