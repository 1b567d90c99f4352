-- `StandsFor`, from its parts.
use Rattle.std.proofs.Common.{◌≡◌, ℕ, List, length, sym, ap, ◌∙◌}
use Rattle.audit_model.specs.declared.outcome.Counts.{Counts}
use Rattle.audit_model.specs.declared.outcome.SumsView.{SumsView}
use Rattle.audit_model.specs.Below.{map_below}
use Rattle.audit_model.specs.Graph.{Graph}
use Rattle.audit_model.specs.District.{district_sum}
use Rattle.audit_model.specs.Length.{cut_length}
use Rattle.audit_model.specs.Plan.{cut_edges}
use Rattle.audit_model.specs.Score.{sums_of}
use Rattle.district_sums.specs.Following.{Following, AreAdded, StandsFor, districts_in}
use Rattle.district_sums.proofs.Shifted.{places}

module _ (g : Graph) (counts : Counts) (plan : List ℕ) (sums : Following) (stands : StandsFor g counts plan sums) where
  pub first_width : length sums.view.first ≡ length sums.view.population
  first_width = places (districts_in sums) (district_sum counts.first plan) sums.view.first (ap (λ (v : SumsView). v.first) stands.view)

  pub second_width : length sums.view.second ≡ length sums.view.population
  second_width = places (districts_in sums) (district_sum counts.second plan) sums.view.second (ap (λ (v : SumsView). v.second) stands.view)

  pub cut_is : sums.view.cut ≡ cut_edges g plan
  cut_is = ap (λ (v : SumsView). v.cut) stands.view

  pub length_is : sums.view.length ≡ cut_length g counts.lengths plan
  length_is = ap (λ (v : SumsView). v.length) stands.view

-- sums of n districts have n entries
pub as_many : (g : Graph) (counts : Counts) (n : ℕ) (plan : List ℕ) (view : SumsView) → view ≡ sums_of g counts n plan → length view.population ≡ n
as_many g counts n plan view is = places n (district_sum counts.population plan) view.population (ap (λ (v : SumsView). v.population) is)

-- sums computed from scratch stand for their plan
pub stand_anew : (g : Graph) (counts : Counts) (n : ℕ) (plan : List ℕ) (view : SumsView) → view ≡ sums_of g counts n plan
    → StandsFor g counts plan (record { view = view })
stand_anew g counts n plan view is = record { view = is ∙ ap (λ (k : ℕ). sums_of g counts k plan) (sym (as_many g counts n plan view is)) }

abbrev view_of : List ℕ → List ℕ → List ℕ → ℕ → ℕ → SumsView
view_of population first second cut long = record { population = population; first = first; second = second; cut = cut; length = long }

-- updated parts stand for the plan
pub all_stand : (g : Graph) (counts : Counts) (n : ℕ) (plan : List ℕ) (view : SumsView) → AreAdded counts n plan view
    → view.cut ≡ cut_edges g plan → view.length ≡ cut_length g counts.lengths plan → StandsFor g counts plan (record { view = view })
all_stand g counts n plan view added cut_is long_is =
    let population : List ℕ = map_below n (district_sum counts.population plan) in
    let first : List ℕ = map_below n (district_sum counts.first plan) in
    let second : List ℕ = map_below n (district_sum counts.second plan) in
    stand_anew g counts n plan view
    (ap (λ (x : List ℕ). view_of x view.first view.second view.cut view.length) added.population
    ∙ ap (λ (x : List ℕ). view_of population x view.second view.cut view.length) added.first
    ∙ ap (λ (x : List ℕ). view_of population first x view.cut view.length) added.second
    ∙ ap (λ (x : ℕ). view_of population first second x view.length) cut_is
    ∙ ap (λ (x : ℕ). view_of population first second (cut_edges g plan) x) long_is)
