-- The population bounds as two numbers, and accepted start plans.
use Rattle.std.proofs.Common.{◌≡◌, ℕ, ◌+◌, ◌-◌, ◌*◌, ◌/◌, ◌<◌, ◌≤◌, false, List, [], ◌∷◌, length, Option, Some, None, ap, ◌∙◌, arith}
use Rattle.std.specs.Prelude.{◌↔◌, nat_lt, slice_index, option_map}
use Rattle.std.specs.Option.{option_or}
use Rattle.std.proofs.Math.Nat.{mul_comm}
use Rattle.std.proofs.lemmas.Bool.{cond-false, leb-true, le-leb, le-ltb, ltb-false, not-false, not_from_true}
use Rattle.std.proofs.lemmas.Nat.{mul-le, div-add-mod', le-div}
use Rattle.audit_model.specs.Below.{above_all}
use Rattle.audit_model.specs.First.{first_some, first_below}
use Rattle.audit_model.specs.Job.{Job, total_population}
use Rattle.audit_model.specs.JobOf.{has_no_votes, is_unbalanced, is_disconnected, cuts_too_many, is_oversplit, votes_fault, bounds_fault, path_fault, cut_fault, split_fault, splits_fault, split_regions_fault, group_fault, length_fault, out_of_bounds, disconnected, oversplit, plan_fault}
use Rattle.audit_model.specs.declared.fault.PlanFault.{PlanFault}
use Rattle.audit_model.specs.declared.fault.PlanFault.TheVariants.{NoVotes, TooManyCut, TooManySplits, TooManySplitRegions, TooFewMajorities, TooLong}
use Rattle.audit_model.specs.Length.{cut_length}
use Rattle.audit_model.specs.Meets.{majorities, split_of, split_regions, splits_in_all}
use Rattle.audit_model.specs.Path.{is_connected}
use Rattle.audit_model.specs.District.{in_district, district_sum}
use Rattle.audit_model.specs.Plan.{cut_edges, IsBalanced, IsLegal, is_balanced, least_population, greatest_population}
use Rattle.audit_model.specs.Rounded.{quotient_up}
use Rattle.audit_model.proofs.Connected.{connected_passes, passes_connected}
use Rattle.audit_model.proofs.Least.{quotient_up_is_least}
use Rattle.audit_model.proofs.Legal.{balanced_passes, passes_balanced}
use Rattle.audit_model.proofs.Meeting.{own_keeps, splits_from}
use Rattle.audit_model.proofs.Options.{option_map_none, option_or_none, cond_some_none}
use Rattle.audit_model.proofs.First.{first_below_none, none_first_below}

-- ---- the bounds

-- a product is enough exactly from the rounded-up quotient on
pub enough_from : (a b p : ℕ) → 0 < b → (a ≤ b * p) ↔ (quotient_up a b ≤ p)
enough_from a b p above =
    let least = quotient_up_is_least a b above in (
      λ h. least.least p (le-leb a (p * b) (omega (arith, h, mul_comm b p))),
      λ h.
          let reached : a ≤ quotient_up a b * b = leb-true a (quotient_up a b * b) least.passes in
          let more : quotient_up a b * b ≤ p * b = mul-le (quotient_up a b) b p b h (omega arith) in
          omega (arith, reached, more, mul_comm b p),
    )

-- a product is small enough exactly up to the quotient
pub small_up_to : (b c p : ℕ) → 0 < b → (b * p ≤ c) ↔ (p ≤ c / b)
small_up_to b c p above = (
  λ h. le-div p c b above (omega (arith, h, mul_comm b p)),
  λ h.
      let more : p * b ≤ c / b * b = mul-le p b (c / b) b h (omega arith) in
      omega (arith, more, mul_comm b p, div-add-mod' c b),
)

-- a population is balanced exactly from the least to the greatest that the slack allows
pub balanced_between : (job : Job) (population : ℕ) → 0 < job.districts
    → IsBalanced job population ↔ ((least_population job ≤ population) × (population ≤ greatest_population job))
balanced_between job population above =
    let low = enough_from ((10000 - job.setting.slack) * total_population job) (10000 * job.districts) population (omega arith) in
    let high = small_up_to (10000 * job.districts) ((10000 + job.setting.slack) * total_population job) population (omega arith) in
    (λ h. (low.0 h.0, high.0 h.1), λ h. (low.1 h.0, high.1 h.1))

-- ---- the first of several

-- ---- accepted start plans

-- the faults from the group on
after_split_regions : Job → List (Option PlanFault)
after_split_regions job = group_fault job ∷ length_fault job ∷ []

after_splits : Job → List (Option PlanFault)
after_splits job = split_regions_fault job ∷ after_split_regions job

after_regions : Job → List (Option PlanFault)
after_regions job = splits_fault job ∷ after_splits job

after_cut : Job → List (Option PlanFault)
after_cut job = split_fault job ∷ after_regions job

-- a job without a fault passes each test
no_fault_parts : (job : Job) → plan_fault job ≡ None
    → (votes_fault job ≡ None) × (bounds_fault job ≡ None) × (path_fault job ≡ None) × (cut_fault job ≡ None) × (split_fault job ≡ None)
    × (splits_fault job ≡ None) × (split_regions_fault job ≡ None) × (group_fault job ≡ None) × (length_fault job ≡ None)
unfolding after_cut after_regions after_splits after_split_regions
no_fault_parts job h =
    let first = option_or_none (votes_fault job) (first_some (bounds_fault job ∷ path_fault job ∷ cut_fault job ∷ after_cut job)) h in
    let second = option_or_none (bounds_fault job) (first_some (path_fault job ∷ cut_fault job ∷ after_cut job)) first.1 in
    let third = option_or_none (path_fault job) (first_some (cut_fault job ∷ after_cut job)) second.1 in
    let fourth = option_or_none (cut_fault job) (first_some (after_cut job)) third.1 in
    let fifth = option_or_none (split_fault job) (first_some (after_regions job)) fourth.1 in
    let sixth = option_or_none (splits_fault job) (first_some (after_splits job)) fifth.1 in
    let seventh = option_or_none (split_regions_fault job) (first_some (after_split_regions job)) sixth.1 in
    let eighth = option_or_none (group_fault job) (first_some (length_fault job ∷ [])) seventh.1 in
    let ninth = option_or_none (length_fault job) (first_some []) eighth.1 in
    (first.0, second.0, third.0, fourth.0, fifth.0, sixth.0, seventh.0, eighth.0, ninth.0)

-- without a fault, there are votes if needed, and the start plan is legal
pub accepted_is_legal : (job : Job) → length job.start ≡ job.graph.units
    → ((u : ℕ) → u < job.graph.units → slice_index job.start u < job.districts)
    → plan_fault job ≡ None → (has_no_votes job ≡ false) × IsLegal job job.start
accepted_is_legal job complete in_range h =
    let parts = no_fault_parts job h in (
      cond_some_none (has_no_votes job) NoVotes parts.0,
      record {
        complete = complete;
        in_range = in_range;
        connected = λ d l. passes_connected job.graph (in_district job.start d)
            (not-false (is_connected job.graph (in_district job.start d))
            (first_below_none job.districts (is_disconnected job) d (option_map_none (disconnected job) (first_below job.districts (is_disconnected job)) parts.2) l));
        balanced = λ d l. passes_balanced job (district_sum job.counts.population job.start d)
            (not-false (is_balanced job (district_sum job.counts.population job.start d))
            (first_below_none job.districts (is_unbalanced job) d (option_map_none (out_of_bounds job) (first_below job.districts (is_unbalanced job)) parts.1) l));
        meeting = record {
          few_cuts = ltb-false job.setting.max_cut (cut_edges job.graph job.start)
              (cond_some_none (cuts_too_many job) (TooManyCut (cut_edges job.graph job.start) job.setting.max_cut) parts.3);
          few_splits = splits_from job.regions job.start job.setting.max_split (λ region l.
              ltb-false job.setting.max_split (split_of job.regions job.start region)
              (first_below_none (above_all job.regions) (is_oversplit job) region
              (option_map_none (oversplit job) (first_below (above_all job.regions) (is_oversplit job)) parts.4) l));
          few_in_all = ltb-false job.setting.max_splits (splits_in_all job.regions job.start)
              (cond_some_none (nat_lt job.setting.max_splits (splits_in_all job.regions job.start))
              (TooManySplits (splits_in_all job.regions job.start) job.setting.max_splits) parts.5);
          few_regions = ltb-false job.setting.max_split_regions (split_regions job.regions job.start)
              (cond_some_none (nat_lt job.setting.max_split_regions (split_regions job.regions job.start))
              (TooManySplitRegions (split_regions job.regions job.start) job.setting.max_split_regions) parts.6);
          enough = ltb-false (majorities job.setting.group_share job.group job.start) job.setting.group_districts
              (cond_some_none (nat_lt (majorities job.setting.group_share job.group job.start) job.setting.group_districts)
              (TooFewMajorities (majorities job.setting.group_share job.group job.start) job.setting.group_districts job.setting.group_share) parts.7);
          keeps = own_keeps job.frozen job.start;
        };
        short = ltb-false job.setting.max_length (cut_length job.graph job.counts.lengths job.start)
            (cond_some_none (nat_lt job.setting.max_length (cut_length job.graph job.counts.lengths job.start))
            (TooLong (cut_length job.graph job.counts.lengths job.start) job.setting.max_length) parts.8);
      },
    )

-- with votes if needed and a legal start plan, there is no fault
pub legal_is_accepted : (job : Job) → has_no_votes job ≡ false → IsLegal job job.start → plan_fault job ≡ None
unfolding after_cut after_regions after_splits after_split_regions
legal_is_accepted job votes legal =
    ap (λ o. option_or o (first_some (bounds_fault job ∷ path_fault job ∷ cut_fault job ∷ after_cut job)))
    (cond-false (has_no_votes job) (Some NoVotes) None votes)
    ∙ ap (λ o. option_or (option_map (out_of_bounds job) o) (first_some (path_fault job ∷ cut_fault job ∷ after_cut job)))
    (none_first_below job.districts (is_unbalanced job) (λ d l. not_from_true (is_balanced job (district_sum job.counts.population job.start d))
    (balanced_passes job (district_sum job.counts.population job.start d) (legal.balanced d l))))
    ∙ ap (λ o. option_or (option_map (disconnected job) o) (first_some (cut_fault job ∷ after_cut job)))
    (none_first_below job.districts (is_disconnected job) (λ d l. not_from_true (is_connected job.graph (in_district job.start d))
    (connected_passes job.graph (in_district job.start d) (legal.connected d l))))
    ∙ ap (λ o. option_or o (first_some (after_cut job)))
    (cond-false (cuts_too_many job) (Some (TooManyCut (cut_edges job.graph job.start) job.setting.max_cut)) None
    (le-ltb job.setting.max_cut (cut_edges job.graph job.start) legal.meeting.few_cuts))
    ∙ ap (λ o. option_or (option_map (oversplit job) o) (first_some (after_regions job)))
    (none_first_below (above_all job.regions) (is_oversplit job) (λ region l.
    le-ltb job.setting.max_split (split_of job.regions job.start region) (legal.meeting.few_splits region)))
    ∙ ap (λ o. option_or o (first_some (after_splits job)))
    (cond-false (nat_lt job.setting.max_splits (splits_in_all job.regions job.start))
    (Some (TooManySplits (splits_in_all job.regions job.start) job.setting.max_splits)) None
    (le-ltb job.setting.max_splits (splits_in_all job.regions job.start) legal.meeting.few_in_all))
    ∙ ap (λ o. option_or o (first_some (after_split_regions job)))
    (cond-false (nat_lt job.setting.max_split_regions (split_regions job.regions job.start))
    (Some (TooManySplitRegions (split_regions job.regions job.start) job.setting.max_split_regions)) None
    (le-ltb job.setting.max_split_regions (split_regions job.regions job.start) legal.meeting.few_regions))
    ∙ ap (λ o. option_or o (first_some (length_fault job ∷ [])))
    (cond-false (nat_lt (majorities job.setting.group_share job.group job.start) job.setting.group_districts)
    (Some (TooFewMajorities (majorities job.setting.group_share job.group job.start) job.setting.group_districts job.setting.group_share)) None
    (le-ltb (majorities job.setting.group_share job.group job.start) job.setting.group_districts legal.meeting.enough))
    ∙ ap (λ o. option_or o (first_some []))
    (cond-false (nat_lt job.setting.max_length (cut_length job.graph job.counts.lengths job.start))
    (Some (TooLong (cut_length job.graph job.counts.lengths job.start) job.setting.max_length)) None
    (le-ltb job.setting.max_length (cut_length job.graph job.counts.lengths job.start) legal.short))
