-- Running sums of a plan as its units move.
use Rattle.std.specs.Prelude.{◌≡◌, ◌≢◌, ℕ, ◌<◌, ◌==◌, ◌&&◌, cond, not, List, length, slice_index}
use Rattle.audit_model.specs.declared.outcome.Counts.{Counts}
use Rattle.audit_model.specs.declared.outcome.SumsView.{SumsView}
use Rattle.audit_model.specs.Below.{count_below, map_below, sum_below}
use Rattle.audit_model.specs.Graph.{Graph, adjacent}
use Rattle.audit_model.specs.Length.{AreLengths, edge_length}
use Rattle.audit_model.specs.Limits.{IsColumn}
use Rattle.audit_model.specs.District.{in_district, district_sum}
use Rattle.audit_model.specs.Score.{sums_of}

-- the sums of the districts
pub record Following : Type 0 where
  pub view : SumsView

-- the number of the unit's neighbors in the district
abbrev pub count_near : Graph → List ℕ → ℕ → ℕ → ℕ
count_near g plan unit district = count_below g.units (λ v. adjacent g unit v && in_district plan district v)

-- the number of districts
abbrev pub districts_in : Following → ℕ
districts_in sums = length sums.view.population

-- the unit moves from one of the districts to another
pub record MovesWithin (districts : ℕ) (plan : List ℕ) (unit into : ℕ) : Type 0 where
  pub home : slice_index plan unit < districts
  pub target : into < districts
  pub elsewhere : slice_index plan unit ≢ into

-- the populations and votes are those of the plan
pub record AreAdded (counts : Counts) (districts : ℕ) (plan : List ℕ) (view : SumsView) : Type 0 where
  pub population : view.population ≡ map_below districts (district_sum counts.population plan)
  pub first : view.first ≡ map_below districts (district_sum counts.first plan)
  pub second : view.second ≡ map_below districts (district_sum counts.second plan)

-- the sums are those of the plan
pub record StandsFor (g : Graph) (counts : Counts) (plan : List ℕ) (sums : Following) : Type 0 where
  pub view : sums.view ≡ sums_of g counts (districts_in sums) plan

-- the sums are those of some plan
abbrev pub StandsForSome : Graph → Counts → Following → Type 0
StandsForSome g counts sums = (plan : List ℕ) × StandsFor g counts plan sums

-- each unit has a population, votes of both parties and a district, and each count is at most 10 ^ 9; edges have lengths
-- or there are none
pub record AreInputs (g : Graph) (counts : Counts) (districts : ℕ) (plan : List ℕ) : Type 0 where
  pub population : IsColumn g.units counts.population
  pub first : IsColumn g.units counts.first
  pub second : IsColumn g.units counts.second
  pub complete : length plan ≡ g.units
  pub in_range : (u : ℕ) → u < g.units → slice_index plan u < districts
  pub lengths : AreLengths g counts.lengths

-- the sum of the lengths from a unit to its neighbors below a bound that are not in a district
abbrev pub length_apart : Graph → List ℕ → List ℕ → ℕ → ℕ → ℕ → ℕ
length_apart g lengths plan unit bound district =
    sum_below bound (λ v. cond (adjacent g unit v && not (slice_index plan v == district)) (edge_length g lengths unit v) 0)
