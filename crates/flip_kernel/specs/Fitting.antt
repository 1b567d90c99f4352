-- Sums and tables of a plan that need not be legal.
use Rattle.std.specs.Prelude.{◌≡◌, ℕ, List}
use Rattle.audit_model.specs.declared.outcome.Counts.{Counts}
use Rattle.audit_model.specs.Graph.{Graph}
use Rattle.contig.specs.Counts.{AreCounts, Counted}
use Rattle.contig.specs.Faces.{SparedFace}
use Rattle.district_sums.specs.Following.{AreInputs, Following, StandsFor, districts_in}
use Rattle.flip_kernel.specs.Nearby.{CountsNeighbors}

-- the sums, and the counts of neighbors and faces, are those of the plan
pub record Fits (g : Graph) (columns : Counts) (faces : List SparedFace) (districts : ℕ) (plan : List ℕ) (sums : Following) (nearby : List ℕ) (counted : Counted) : Type 0 where
  pub inputs : AreInputs g columns districts plan
  pub places : districts_in sums ≡ districts
  pub stands : StandsFor g columns plan sums
  pub near : CountsNeighbors g plan districts nearby
  pub counts : AreCounts g faces districts plan counted
