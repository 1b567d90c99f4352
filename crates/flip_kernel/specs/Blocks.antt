-- Draws in blocks, with one draw per pair of a unit and a district.
use Rattle.std.specs.Prelude.{◌≡◌, ℕ, ◌+◌, ◌*◌, ◌/◌, ◌%◌, ◌^◌, ◌<◌, ◌≤◌, nat_lt, if◌then◌else◌, Option, Some, None}
use Rattle.audit_model.specs.Job.{Job}
use Rattle.audit_model.specs.JobOf.{IsJob}
use Rattle.audit_model.specs.Plan.{least_population, greatest_population}
use Rattle.audit_model.specs.Weight.{largest_change, weighed_draws}
use Rattle.flip_kernel.specs.declared.proposal.Pairs.{Pairs}

-- the place of a draw in its block of this size; draws after the last whole block have none
abbrev pub place_in : ℕ → ℕ → Option ℕ
place_in size draw = if nat_lt draw (2 ^ 64 / size * size) then Some (draw % size) else None

-- The greatest draw at which a whole block can begin, and 2^64 - 1 divided by both counts and rounded down. With a
-- weight, also the largest change of the number of cut edges in one step, and the greatest draw that counts.
pub record AreBlocks (pairs : Pairs) : Type 0 where
  pub some : 0 < pairs.count
  pub last : pairs.last + pairs.count ≡ 2 ^ 64
  pub enough : pairs.inverse * pairs.count < 2 ^ 64
  pub most : 2 ^ 64 ≤ pairs.inverse * pairs.count + pairs.count
  pub some_districts : 0 < pairs.districts
  pub enough_districts : pairs.district_inverse * pairs.districts < 2 ^ 64
  pub most_districts : 2 ^ 64 ≤ pairs.district_inverse * pairs.districts + pairs.districts
  pub largest : pairs.largest_change ≡ largest_change pairs.count
  pub last_weighed : pairs.last_weighed + 1 ≡ weighed_draws pairs.count (largest_change pairs.count)

-- the numbers that steps of a job need: its pairs and its population bounds
pub record AreNumbersOf (job : Job) (pairs : Pairs) (low high : ℕ) : Type 0 where
  pub sound : IsJob job
  pub districts : pairs.districts ≡ job.districts
  pub count : pairs.count ≡ job.graph.units * job.districts
  pub blocks : AreBlocks pairs
  pub least : low ≡ least_population job
  pub greatest : high ≡ greatest_population job
