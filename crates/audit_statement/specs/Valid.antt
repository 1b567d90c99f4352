-- Valid plans. GerryChain's constraints `contiguous` and `within_percent_of_ideal_population`, of the whole plan.
use Rattle.std.specs.Prelude.{◌≡◌, ℕ, ◌<◌, List, length, slice_index}
use Rattle.audit_model.specs.Job.{Job}
use Rattle.audit_model.specs.Path.{IsConnected}
use Rattle.audit_model.specs.District.{district_sum, in_district}
use Rattle.audit_model.specs.Plan.{IsBalanced}

-- each unit has a district, and each district is nonempty, connected and within the population bounds
pub record IsValid (job : Job) (plan : List ℕ) : Type 0 where
  pub complete : length plan ≡ job.graph.units
  pub in_range : (u : ℕ) → u < job.graph.units → slice_index plan u < job.districts
  pub connected : (d : ℕ) → d < job.districts → IsConnected job.graph (in_district plan d)
  pub balanced : (d : ℕ) → d < job.districts → IsBalanced job (district_sum job.counts.population plan d)
