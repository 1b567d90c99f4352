-- Facts about the state's job and plan.
use Rattle.std.proofs.Common.{◌≡◌, ℕ, ◌+◌, ◌*◌, ◌^◌, ◌<◌, ◌≤◌, Bool, List, get_or, set, ap, ◌∙◌, subst, arith}
use Rattle.std.specs.Prelude.{◌↔◌, IsTrue}
use Rattle.std.proofs.lemmas.List.{set-set, set-get_or}
use Rattle.std.proofs.lemmas.Nat.{mul-le}
use Rattle.std.proofs.Math.Nat.{div-le_self}
use Rattle.audit_model.specs.declared.outcome.SumsView.{SumsView}
use Rattle.audit_model.specs.Job.{Job, total_population}
use Rattle.audit_model.specs.JobOf.{IsJob}
use Rattle.audit_model.specs.District.{district_sum}
use Rattle.audit_model.specs.Plan.{greatest_population}
use Rattle.audit_model.proofs.Below.{get_or-map_below}
use Rattle.district_sums.specs.Following.{Following, districts_in}
use Rattle.plan_core.proofs.Bounded.{sum_small}
use Rattle.contig.specs.Counts.{Counted}
use Rattle.contig.specs.Table.{Faced}
use Rattle.flip_kernel.specs.declared.proposal.Pairs.{Pairs}
use Rattle.flip_kernel.specs.ChainState.{IsUpToDate, KeepsBounds}

-- the invariant, for equal jobs and plans
pub up_to_date_for : (j job : Job) (p plan : List ℕ) (sums : Following) (marks : ℕ) (table : List Bool) (pairs : Pairs) (low high : ℕ) (faced : Faced) (counted : Counted) (nearby : List ℕ) → j ≡ job → p ≡ plan
    → IsUpToDate j p sums marks table pairs low high faced counted nearby → IsUpToDate job plan sums marks table pairs low high faced counted nearby
up_to_date_for j job p plan sums marks table pairs low high faced counted nearby made at current =
    subst (λ (x : Job). IsUpToDate x plan sums marks table pairs low high faced counted nearby) made (subst (λ (x : List ℕ). IsUpToDate j x sums marks table pairs low high faced counted nearby) at current)

module _ (job : Job) (plan : List ℕ) (sums : Following) (marks : ℕ) (table : List Bool) (pairs : Pairs) (low high : ℕ) (faced : Faced) (counted : Counted) (nearby : List ℕ)
    (current : IsUpToDate job plan sums marks table pairs low high faced counted nearby) where
  -- the population of a district
  pub population_at : (view : SumsView) (populations : List ℕ) (e : ℕ) → view ≡ sums.view → populations ≡ view.population → e < job.districts
      → get_or populations e 0 ≡ district_sum job.counts.population plan e
  population_at view populations e seen is l =
      ap (λ (xs : List ℕ). get_or xs e 0) (is ∙ ap (λ (v : SumsView). v.population) seen ∙ ap (λ (v : SumsView). v.population) current.summed.stands.view)
      ∙ get_or-map_below (districts_in sums) (district_sum job.counts.population plan) e 0 (omega (arith, l, current.summed.places))

-- kept bounds, for equal numbers
pub keeps_same : (result : Bool) (low high people from to a b c d e : ℕ) → low ≡ a → high ≡ b → people ≡ c → from ≡ d → to ≡ e
    → IsTrue result ↔ KeepsBounds low high people from to → IsTrue result ↔ KeepsBounds a b c d e
keeps_same result low high people from to a b c d e is_low is_high is_people is_from is_to kept = (
  λ yes-kept. let h = kept.0 yes-kept in record { left = omega (arith, h.left, is_low, is_people, is_from); joined = omega (arith, h.joined, is_high, is_people, is_to) },
  λ h. kept.1 (record { left = omega (arith, h.left, is_low, is_people, is_from); joined = omega (arith, h.joined, is_high, is_people, is_to) }),
)

-- putting a unit back restores the plan
pub put_back : (plan after : List ℕ) (unit district home : ℕ) → after ≡ set plan unit district → home ≡ get_or plan unit 0 → set after unit home ≡ plan
put_back plan after unit district home is was =
    ap (λ (p : List ℕ). set p unit home) is ∙ set-set plan unit district home ∙ ap (λ (e : ℕ). set plan unit e) was ∙ set-get_or plan unit 0

-- a job has at least one unit
pub some_units : (job : Job) → IsJob job → 0 < job.graph.units
some_units job sound =
    let two : 2 ≤ job.districts = sound.within.input.two in
    let first = (sound.legal.connected 0 (omega (arith, two))).inhabited in
    omega (arith, first.1.0)

-- the greatest population within the bounds is below 2^63
pub greatest_small : (job : Job) → IsJob job → greatest_population job < 2 ^ 63
greatest_small job sound =
    let total : total_population job ≤ 10 ^ 14 =
    sum_small job.counts.population (omega (arith, sound.within.input.population.width, sound.within.input.units)) sound.within.input.population.small in
    let product : (10000 + job.setting.slack) * total_population job ≤ 20000 * 10 ^ 14 = mul-le _ _ 20000 (10 ^ 14) (omega (arith, sound.within.setting.slack)) total in
    omega (arith, product, div-le_self ((10000 + job.setting.slack) * total_population job) (10000 * job.districts))
