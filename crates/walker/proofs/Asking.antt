-- Values and counts of a job's asks.
use Rattle.std.proofs.Common.{◌≡◌, ℕ, ◌^◌, ◌<◌, ◌≤◌, List, [], ◌∷◌, map, Option, Some, None, pos, ℤ, refl, sym, ap, ◌∙◌, arith}
use Rattle.std.specs.List.{slice_get}
use Rattle.audit_model.specs.declared.setting.Ask.{Ask}
use Rattle.audit_model.specs.Below.{count_below}
use Rattle.audit_model.specs.Job.{Job}
use Rattle.audit_model.specs.JobOf.{IsJob}
use Rattle.audit_model.specs.District.{district_sum}
use Rattle.audit_model.specs.Plan.{IsLegal}
use Rattle.audit_model.specs.Trajectory.{visit, four_values}
use Rattle.audit_model.proofs.Below.{count_below_le, length-map_below}
use Rattle.audit_model.proofs.ColumnFacts.{column_small}
use Rattle.audit_model.proofs.Lengths.{cut_length_few}
use Rattle.flip_kernel.specs.ChainState.{sums_in}
use Rattle.scores.specs.Votes.{AreVotes}
use Rattle.walker.specs.Asked.{each, is_inside, visits_inside}

-- four values of a list are those at the four places
pub each_is_four : (f : Option Ask → ℤ) (asks : List Ask) → f None ≡ pos 0 → four_values (map (λ ask. f (Some ask)) asks) ≡ each f asks
each_is_four f [] none = rw none refl
each_is_four f (a ∷ []) none = rw none refl
each_is_four f (a ∷ b ∷ []) none = rw none refl
each_is_four f (a ∷ b ∷ c ∷ []) none = rw none refl
each_is_four f (a ∷ b ∷ c ∷ d ∷ rest) none = refl

module _ (job : Job) (draws : ℕ → ℕ) where
  pub visits_inside_le : (visits : ℕ) (o : Option Ask) → visits_inside job draws visits o ≤ visits
  unfolding visits_inside
  visits_inside_le visits None = omega arith
  visits_inside_le visits (Some ask) = count_below_le visits (λ i. is_inside job (visit job draws job.start i) ask)

  pub visits_inside_none : (o : Option Ask) → visits_inside job draws 0 o ≡ 0
  unfolding visits_inside count_below
  visits_inside_none None = refl
  visits_inside_none (Some ask) = refl

-- functions that agree have equal values at the four places
pub each_same : (f g : Option Ask → ℕ) (asks : List Ask) → ((o : Option Ask) → f o ≡ g o) → each f asks ≡ each g asks
each_same f g asks same =
    ap (λ (n : ℕ). n ∷ f (slice_get asks 1) ∷ f (slice_get asks 2) ∷ f (slice_get asks 3) ∷ []) (same (slice_get asks 0))
    ∙ ap (λ (n : ℕ). g (slice_get asks 0) ∷ n ∷ f (slice_get asks 2) ∷ f (slice_get asks 3) ∷ []) (same (slice_get asks 1))
    ∙ ap (λ (n : ℕ). g (slice_get asks 0) ∷ g (slice_get asks 1) ∷ n ∷ f (slice_get asks 3) ∷ []) (same (slice_get asks 2))
    ∙ ap (λ (n : ℕ). g (slice_get asks 0) ∷ g (slice_get asks 1) ∷ g (slice_get asks 2) ∷ n ∷ []) (same (slice_get asks 3))

-- the sums of a legal plan are within the bounds for scores
pub legal_votes : (job : Job) (plan : List ℕ) → IsJob job → IsLegal job plan → AreVotes (sums_in job plan).first (sums_in job plan).second
legal_votes job plan sound legal =
    let first = length-map_below job.districts (district_sum job.counts.first plan) in
    let second = length-map_below job.districts (district_sum job.counts.second plan) in
    let input = sound.within.input in
    record {
      some = omega (arith, first, input.two);
      few = omega (arith, first, input.few);
      as_many = second ∙ sym first;
      small_first = column_small job.districts job.graph.units job.counts.first plan legal.complete input.first input.units;
      small_second = column_small job.districts job.graph.units job.counts.second plan legal.complete input.second input.units;
    }

-- the length of a plan's cut edges is within the bound for scores
pub legal_short : (job : Job) (plan : List ℕ) → IsJob job → (sums_in job plan).length < 2 ^ 63
legal_short job plan sound =
    let few = cut_length_few job.graph job.counts.lengths plan sound.within.input.lengths.small sound.within.input.edges in
    omega (arith, few)
