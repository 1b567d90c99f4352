-- The state of the chain: a job, and a plan that is legal for it.
use Rattle.std.specs.Prelude.{◌≡◌, ◌≢◌, ℕ, ◌+◌, ◌<◌, ◌≤◌, ◌&&◌, nat_le, Bool, IsTrue, Some, List, length, slice_index, slice_set}
use Rattle.audit_model.specs.declared.outcome.SumsView.{SumsView}
use Rattle.audit_model.specs.Job.{Job, rules}
use Rattle.audit_model.specs.JobOf.{IsJob}
use Rattle.audit_model.specs.Length.{cut_length}
use Rattle.audit_model.specs.Meets.{meets_rules}
use Rattle.audit_model.specs.District.{district_sum}
use Rattle.audit_model.specs.Plan.{IsLegal, cut_edges, least_population, greatest_population}
use Rattle.audit_model.specs.Proposal.{proposal}
use Rattle.audit_model.specs.Score.{sums_of}
use Rattle.audit_model.specs.Weight.{is_taken}
use Rattle.district_sums.specs.Following.{Following, StandsFor, districts_in}
use Rattle.contig.specs.Counts.{Counted, AreCounts}
use Rattle.contig.specs.Table.{Faced}
use Rattle.flip_kernel.specs.declared.proposal.Pairs.{Pairs}
use Rattle.flip_kernel.specs.Blocks.{AreNumbersOf}
use Rattle.flip_kernel.specs.Nearby.{CountsNeighbors}
use Rattle.flip_kernel.specs.OpenPairs.{is_open, MarksWithoutCounts}

pub record ChainState : Type 0 where
  pub job : Job
  pub plan : List ℕ

-- the sums of a plan of the job
abbrev pub sums_in : Job → List ℕ → SumsView
sums_in job plan = sums_of job.graph job.counts job.districts plan

-- the plan is legal, and the sums are its sums
pub record IsSummed (job : Job) (plan : List ℕ) (sums : Following) : Type 0 where
  pub legal : IsLegal job plan
  pub places : districts_in sums ≡ job.districts
  pub stands : StandsFor job.graph job.counts plan sums

-- the plan is legal, and the sums, open pairs, numbers, faces, and counts of faces and neighbors are those of the job
-- and the plan
pub record IsUpToDate (job : Job) (plan : List ℕ) (sums : Following) (marks : ℕ) (table : List Bool) (pairs : Pairs) (low high : ℕ)
    (faced : Faced) (counted : Counted) (nearby : List ℕ) : Type 0 where
  pub summed : IsSummed job plan sums
  pub marked : marks ≡ job.graph.units
  pub opened : MarksWithoutCounts job.graph plan job.districts nearby table
  pub numbers : AreNumbersOf job pairs low high
  pub made : faced.graph ≡ job.graph
  pub counts : AreCounts job.graph faced.faces job.districts plan counted
  pub near : CountsNeighbors job.graph plan job.districts nearby

-- the draw proposes the unit for the district, the pair is open, and the job is sound
pub record ProposesOpen (job : Job) (plan : List ℕ) (draw unit district : ℕ) : Type 0 where
  pub sound : IsJob job
  pub proposed : proposal job.graph.units job.districts draw ≡ Some (unit, district)
  pub unit_below : unit < job.graph.units
  pub inside : unit < length plan
  pub district_below : district < job.districts
  pub beside : IsTrue (is_open job.graph plan unit district)

-- a plan of the job meets the rules, and its cut edges are not too long in all
abbrev pub allows : Job → List ℕ → Bool
allows job plan = nat_le (cut_length job.graph job.counts.lengths plan) job.setting.max_length && meets_rules (rules job) (cut_edges job.graph plan) plan

-- the unit is in another district, and the plan with it in this one is legal
pub record IsMove (job : Job) (plan : List ℕ) (unit district : ℕ) : Type 0 where
  pub elsewhere : slice_index plan unit ≢ district
  pub legal : IsLegal job (slice_set plan unit district)

-- the move, whose change of cut edges the draw takes
pub record IsStep (job : Job) (plan : List ℕ) (draw unit district : ℕ) : Type 0 where
  pub move : IsMove job plan unit district
  pub taken : IsTrue (is_taken job plan (slice_set plan unit district) draw)

-- the district that people leave keeps the least population, and the one they join the greatest
pub record KeepsBounds (low high people from to : ℕ) : Type 0 where
  pub left : low + people ≤ from
  pub joined : to + people ≤ high

-- both districts stay within the job's population bounds when the unit moves
abbrev pub KeepsBoundsIn : Job → List ℕ → ℕ → ℕ → Type 0
KeepsBoundsIn job plan unit district =
    KeepsBounds (least_population job) (greatest_population job) (slice_index job.counts.population unit)
    (district_sum job.counts.population plan (slice_index plan unit)) (district_sum job.counts.population plan district)
