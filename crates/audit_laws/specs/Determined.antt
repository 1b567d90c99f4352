-- JSON gives one graph.
use Rattle.std.specs.Prelude.{◌≡◌, ℕ, ◌<◌, []}
use Rattle.serde_json.specs.Data.{Data}
use Rattle.audit_model.specs.declared.setting.Columns.{Columns}
use Rattle.audit_model.specs.Graph.{adjacent}
use Rattle.audit_model.specs.Job.{Job}
use Rattle.audit_statement.specs.Given.{IsGiven}
use Rattle.audit_statement.specs.Valid.{IsValid}

-- population, votes and districts are read by the same columns, and no lengths of edges are read
pub record ReadAlike (a b : Columns) : Type 0 where
  pub population : a.population ≡ b.population
  pub first : a.first ≡ b.first
  pub second : a.second ≡ b.second
  pub district : a.district ≡ b.district
  pub no_lengths : (a.length ≡ []) × (b.length ≡ [])

-- the jobs have the same units, edges, counts, districts and start plan
pub record AreOfOneGraph (a b : Job) : Type 0 where
  pub units : a.graph.units ≡ b.graph.units
  pub edges : (u v : ℕ) → u < a.graph.units → v < a.graph.units → adjacent a.graph u v ≡ adjacent b.graph u v
  pub counts : a.counts ≡ b.counts
  pub districts : a.districts ≡ b.districts
  pub start : a.start ≡ b.start

-- the law that two jobs with valid start plans have one graph, if one JSON gives both by the same columns of
-- population, votes and districts, and no lengths
abbrev pub GivenJobsAreOfOneGraph : Type 0
GivenJobsAreOfOneGraph = (root : Data) (a b : Job) → ReadAlike a.setting.columns b.setting.columns → IsGiven root a → IsGiven root b
    → IsValid a a.start → IsValid b b.start → AreOfOneGraph a b
