-- Plain runs that end well: a graph within the limits cannot be refused. This project's claim. It is the converse of
-- the claim on status 0.
use Rattle.std.specs.Prelude.{◌≡◌, ◌⊎◌, ℕ, ◌≤◌, IsTrue, List, ◌∷◌, length, codes, Some, Ok, true, Bool, IsFalse}
use Rattle.std.specs.Str.{is_utf8}
use Rattle.serde_json.specs.Data.{Data, boolean}
use Rattle.serde_json.specs.Read.{read}
use Rattle.audit_model.specs.Faults.{Rose}
use Rattle.audit_model.specs.Job.{Job}
use Rattle.audit_statement.specs.Accepted.{most_bytes}
use Rattle.audit_statement.specs.World.{World}
use Rattle.audit_statement.specs.Given.{IsGiven}
use Rattle.audit_statement.specs.Valid.{IsValid}
use Rattle.audit_statement.specs.PlainArguments.{ArePlain, IsNotGiven}
use Rattle.audit_statement.specs.Words.{setting_of}
use Rattle.std.specs.List.{All}
use Rattle.serde_json.specs.Find.{get}
use Rattle.audit_model.specs.Graph.{count_edges}
use Rattle.audit_model.specs.JobOf.{has_no_votes}
use Rattle.audit_model.specs.Limits.{most_districts, most_edges, most_people, most_units}

-- the value at the key, if any, is a Boolean
abbrev pub IsFlag : List ℕ → Data → Type 0
IsFlag key root = (value : Data) → get key root ≡ Some value → (b : Bool) × (value ≡ boolean b)

-- The limits: at most 100,000 units, 400,000 edges and 2 to 200 districts, and at most 10 ^ 9 people or votes per unit.
-- The flags that networkx writes are Booleans. There are votes if the efficiency gap is asked for.
pub record IsAllowed (root : Data) (job : Job) : Type 0 where
  pub directed : IsFlag (codes "directed") root
  pub multigraph : IsFlag (codes "multigraph") root
  pub units : job.graph.units ≤ most_units
  pub edges : count_edges job.graph (λ u v. true) ≤ most_edges
  pub two : 2 ≤ job.districts
  pub districts : job.districts ≤ most_districts
  pub population : All (λ n. n ≤ most_people) job.counts.population
  pub first : All (λ n. n ≤ most_people) job.counts.first
  pub second : All (λ n. n ≤ most_people) job.counts.second
  pub votes : IsFalse (has_no_votes job)

-- the arguments are accepted, and the bytes are JSON within the limits that gives a job of their setting with a valid
-- start plan
pub record AreWellFormed (words : List (List ℕ)) (bytes : List ℕ) : Type 0 where
  pub job : Job
  pub words_are : setting_of words ≡ Ok job.setting
  pub few_bytes : length bytes ≤ most_bytes
  pub root : Data
  pub is_text : IsTrue (is_utf8 bytes)
  pub is_json : read bytes ≡ Some root
  pub given : IsGiven root job
  pub start : IsValid job job.start
  pub allowed : IsAllowed root job

-- no read, write, load or save failed
pub record NoneFailed (before after : World) : Type 0 where
  pub reads : Rose before.source.faults after.source.faults → ⊥
  pub writes : Rose before.out.faults after.out.faults → ⊥
  pub loads : Rose before.keeper.load_faults.all after.keeper.load_faults.all → ⊥
  pub saves : Rose before.keeper.save_faults after.keeper.save_faults → ⊥

-- a call with the word `run` and plain arguments that saves nothing, over an observable, well-formed source, in which
-- nothing failed, ends with status 0, or with 3 if memory ran out
abbrev pub EndsPlainly : List (List ℕ) → World → World → ℕ → Type 0
EndsPlainly words before after status = (rest : List (List ℕ)) (bytes : List ℕ) → words ≡ codes "run" ∷ rest → ArePlain rest
    → IsNotGiven rest (codes "--save") → before.source.bytes ≡ Some bytes → AreWellFormed words bytes → NoneFailed before after → (status ≡ 0) ⊎ (status ≡ 3)
