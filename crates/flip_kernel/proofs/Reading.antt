-- The board's tables, for equal graphs, plans and numbers of districts.
use Rattle.std.proofs.Common.{◌≡◌, ℕ, Bool, List, sym, subst}
use Rattle.audit_model.specs.declared.outcome.Counts.{Counts}
use Rattle.audit_model.specs.Graph.{Graph}
use Rattle.audit_model.specs.Job.{Job}
use Rattle.audit_model.specs.JobOf.{IsJob}
use Rattle.audit_model.specs.Plan.{IsLegal}
use Rattle.contig.specs.Counts.{AreCounts, Counted}
use Rattle.contig.specs.Faces.{SparedFace}
use Rattle.district_sums.specs.Following.{AreInputs, Following, StandsFor}
use Rattle.flip_kernel.specs.Nearby.{CountsNeighbors}
use Rattle.flip_kernel.specs.OpenPairs.{MarksOpenPairs}

module _ (g h : Graph) (p q : List ℕ) (m n : ℕ) (graphs : h ≡ g) (plans : q ≡ p) (numbers : n ≡ m) where
  pub near_for : (table : List ℕ) → CountsNeighbors g p m table → CountsNeighbors h q n table
  near_for table is =
      subst (λ (x : Graph). CountsNeighbors x q n table) (sym graphs)
      (subst (λ (x : List ℕ). CountsNeighbors g x n table) (sym plans) (subst (λ (x : ℕ). CountsNeighbors g p x table) (sym numbers) is))

  pub counts_for : (faces : List SparedFace) (counted : Counted) → AreCounts g faces m p counted → AreCounts h faces n q counted
  counts_for faces counted is =
      subst (λ (x : Graph). AreCounts x faces n q counted) (sym graphs)
      (subst (λ (x : List ℕ). AreCounts g faces n x counted) (sym plans) (subst (λ (x : ℕ). AreCounts g faces x p counted) (sym numbers) is))

  pub opened_for : (table : List Bool) → MarksOpenPairs g p m table → MarksOpenPairs h q n table
  opened_for table is =
      subst (λ (x : Graph). MarksOpenPairs x q n table) (sym graphs)
      (subst (λ (x : List ℕ). MarksOpenPairs g x n table) (sym plans) (subst (λ (x : ℕ). MarksOpenPairs g p x table) (sym numbers) is))

-- a legal plan of a sound job can be summed up, for an equal graph, equal counts and an equal number of districts
pub inputs_for : (job : Job) (plan : List ℕ) (g : Graph) (counts : Counts) (n : ℕ) → IsJob job → IsLegal job plan → g ≡ job.graph → counts ≡ job.counts → n ≡ job.districts
    → AreInputs g counts n plan
inputs_for job plan g counts n sound legal graphs columns numbers =
    let input = sound.within.input in
    subst (λ (x : Graph). AreInputs x counts n plan) (sym graphs)
    (subst (λ (x : Counts). AreInputs job.graph x n plan) (sym columns)
    (subst (λ (x : ℕ). AreInputs job.graph job.counts x plan) (sym numbers)
    (record {
      population = input.population;
      first = input.first;
      second = input.second;
      complete = legal.complete;
      in_range = legal.in_range;
      lengths = input.lengths;
    })))

-- the sums, for an equal graph and equal counts
pub stands_for : (g h : Graph) (counts columns : Counts) (plan : List ℕ) (sums : Following) → h ≡ g → columns ≡ counts → StandsFor g counts plan sums → StandsFor h columns plan sums
stands_for g h counts columns plan sums graphs same is =
    subst (λ (x : Graph). StandsFor x columns plan sums) (sym graphs) (subst (λ (x : Counts). StandsFor g x plan sums) (sym same) is)
