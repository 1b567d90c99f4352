-- The faults of a plan and its legality.
use Rattle.std.proofs.Common.{◌≡◌, ℕ, ◌<◌, [], ◌∷◌, Bool, true, false, not, ◌&&◌, List, length, get_or, Option, Some, None, refl, sym, ap, ◌∙◌, subst, inl, inr}
use Rattle.std.specs.Prelude.{◌↔◌, nat_lt, is_none, is_some, option_map, unwrap_or, ◌⊎◌, Result, Ok, Err, MatchResult}
use Rattle.std.proofs.lemmas.Bool.{and_parts, and_from, cases_Bool, cond-true, cond-false, le-ltb, ltb-false, not-false, not_from_true, not_from_false, and_left, false_from_ne_true, true≢false, false≢true}
use Rattle.audit_model.specs.declared.fault.PlanFault.{PlanFault}
use Rattle.audit_model.specs.declared.fault.PlanFault.TheVariants.{Disconnected, TooManyCut, TooManySplits, TooManySplitRegions, TooFewMajorities, TooLong, Memory}
use Rattle.audit_model.specs.declared.setting.Label.{Label}
use Rattle.audit_model.specs.declared.setting.Setting.{Setting}
use Rattle.audit_model.specs.Below.{above_all}
use Rattle.audit_model.specs.First.{first_some, first_below}
use Rattle.audit_model.specs.Graph.{Graph}
use Rattle.audit_model.specs.Job.{Job, home_of}
use Rattle.audit_model.specs.JobOf.{IsJob, job_from, job_of, job_or, job_with, restarted, is_unbalanced, is_disconnected, cuts_too_many, is_oversplit, out_of_bounds, disconnected, oversplit, bounds_fault, path_fault, cut_fault, split_fault, splits_fault, split_regions_fault, group_fault, length_fault, plan_fault}
use Rattle.audit_model.specs.Length.{cut_length}
use Rattle.audit_model.specs.Limits.{IsWithinLimits}
use Rattle.audit_model.specs.Meets.{KeepsFrozen, keeps_frozen, majorities, split_of, split_regions, splits_in_all}
use Rattle.audit_model.specs.Parsed.{Parsed}
use Rattle.audit_model.specs.Path.{is_connected}
use Rattle.audit_model.specs.District.{in_district, district_sum}
use Rattle.audit_model.specs.Plan.{IsLegal, is_legal, cut_edges, is_balanced}
use Rattle.audit_model.proofs.Accepted.{accepted_is_legal}
use Rattle.audit_model.proofs.Connected.{connected_passes, passes_connected}
use Rattle.audit_model.proofs.Legal.{balanced_passes, passes_balanced, legal_passes, passes_legal}
use Rattle.audit_model.proofs.Meeting.{keeps_passes, passes_keeps, splits_from}
use Rattle.audit_model.proofs.Bools.{same_bool}
use Rattle.audit_model.proofs.Options.{none_or, option_or_none, cond_some_none, some_is_not_none, option_map_none}
use Rattle.audit_model.proofs.First.{first_below_here, first_below_none, none_first_below}
use Rattle.plan_core.specs.Input.{with_start, shape_fault}
use Rattle.dual_graph.specs.DisconnectedPair.{least_in, disconnected_unit_in, disconnected_pair_of}

-- ---- the fault of a disconnected district

-- the two units show that the set is not connected: its least unit, and the least one not connected to it
pub parting_parts : (g : Graph) (inside : ℕ → Bool) (one other : ℕ) → Some (one, other) ≡ disconnected_pair_of g inside
    → (is_connected g inside ≡ false) × (one ≡ least_in g inside) × (other ≡ disconnected_unit_in g inside)
parting_parts g inside one other h = elim (cases_Bool (is_connected g inside)) [
  | inl yes-connected ↦ absurd (some_is_not_none (one, other) (h ∙ cond-true (is_connected g inside) None (Some (least_in g inside, disconnected_unit_in g inside)) yes-connected))
  | inr off ↦
      let same : Some (one, other) ≡ Some (least_in g inside, disconnected_unit_in g inside) =
      h ∙ cond-false (is_connected g inside) None (Some (least_in g inside, disconnected_unit_in g inside)) off in
      (off, ap (λ (o : Option (ℕ × ℕ)). (unwrap_or o (0, 0)).0) same, ap (λ (o : Option (ℕ × ℕ)). (unwrap_or o (0, 0)).1) same)
]

-- the least disconnected district is the one that the fault names
pub parted_is_fault : (job : Job) (d one other : ℕ) → first_below d (is_disconnected job) ≡ None → d < job.districts
    → Some (one, other) ≡ disconnected_pair_of job.graph (in_district job.start d) → Some (Disconnected d one other) ≡ path_fault job
parted_is_fault job d one other none l h =
    let parts = parting_parts job.graph (in_district job.start d) one other h in
    let here : first_below job.districts (is_disconnected job) ≡ Some d =
    first_below_here job.districts d (is_disconnected job) none l (not_from_false (is_connected job.graph (in_district job.start d)) parts.0) in
    ap (λ (k : ℕ). Some (Disconnected d k other)) parts.1
    ∙ ap (λ (k : ℕ). Some (Disconnected d (least_in job.graph (in_district job.start d)) k)) parts.2
    ∙ ap (option_map (disconnected job)) (sym here)

-- ---- a plan without a fault is legal

-- an option that is none equals `None`
none_passes : {A : Type 0} (o : Option A) → is_none o ≡ true → o ≡ None
none_passes None h = refl
none_passes (Some x) h = cc

-- `None` is none
passes_none : {A : Type 0} (o : Option A) → o ≡ None → is_none o ≡ true
passes_none None h = refl
passes_none (Some x) h = cc

-- negation is symmetric
turned : (b r : Bool) → b ≡ not r → r ≡ not b
turned b true h = sym (ap not h)
turned b false h = sym (ap not h)

-- a conjunction with a true first part is its second part
and_second : (a b : Bool) → a ≡ true → (a && b) ≡ b
and_second true b h = refl
and_second false b h = cc

-- the faults from the group on
after_split_regions : Job → List (Option PlanFault)
after_split_regions job = group_fault job ∷ length_fault job ∷ []

-- the faults from the region splits on
after_splits : Job → List (Option PlanFault)
after_splits job = split_regions_fault job ∷ after_split_regions job

after_regions : Job → List (Option PlanFault)
after_regions job = splits_fault job ∷ after_splits job

after_cut : Job → List (Option PlanFault)
after_cut job = split_fault job ∷ after_regions job

-- no fault of shape means no fault of each kind
shape_parts : (job : Job) → shape_fault job ≡ None
    → (path_fault job ≡ None) × (cut_fault job ≡ None) × (split_fault job ≡ None)
    × (splits_fault job ≡ None) × (split_regions_fault job ≡ None) × (group_fault job ≡ None) × (length_fault job ≡ None)
unfolding after_cut after_regions after_splits after_split_regions
shape_parts job h =
    let first = option_or_none (path_fault job) (first_some (cut_fault job ∷ after_cut job)) h in
    let second = option_or_none (cut_fault job) (first_some (after_cut job)) first.1 in
    let third = option_or_none (split_fault job) (first_some (after_regions job)) second.1 in
    let fourth = option_or_none (splits_fault job) (first_some (after_splits job)) third.1 in
    let fifth = option_or_none (split_regions_fault job) (first_some (after_split_regions job)) fourth.1 in
    let sixth = option_or_none (group_fault job) (first_some (length_fault job ∷ [])) fifth.1 in
    (first.0, second.0, third.0, fourth.0, fifth.0, sixth.0, (option_or_none (length_fault job) (first_some []) sixth.1).0)

-- no fault of each kind means no fault of shape
parts_shape : (job : Job) → path_fault job ≡ None → cut_fault job ≡ None → split_fault job ≡ None
    → splits_fault job ≡ None → split_regions_fault job ≡ None → group_fault job ≡ None → length_fault job ≡ None → shape_fault job ≡ None
unfolding after_cut after_regions after_splits after_split_regions
parts_shape job paths cut split splits regions group long =
    none_or (path_fault job) (first_some (cut_fault job ∷ after_cut job)) paths
    ∙ none_or (cut_fault job) (first_some (after_cut job)) cut
    ∙ none_or (split_fault job) (first_some (after_regions job)) split
    ∙ none_or (splits_fault job) (first_some (after_splits job)) splits
    ∙ none_or (split_regions_fault job) (first_some (after_split_regions job)) regions
    ∙ none_or (group_fault job) (first_some (length_fault job ∷ [])) group
    ∙ none_or (length_fault job) (first_some []) long

-- a plan that passes the test of frozen units keeps their districts
pub keeps_of : (job : Job) (plan : List ℕ) → keeps_frozen job.frozen (home_of job.frozen job.start) plan ≡ true → KeepsFrozen job.frozen (home_of job.frozen job.start) plan
keeps_of job plan h = passes_keeps job.frozen (home_of job.frozen job.start) plan h

-- a plan that fails the test of frozen units is not legal
pub strayed_same : (job : Job) (plan : List ℕ) → keeps_frozen job.frozen (home_of job.frozen job.start) plan ≡ false → false ≡ is_legal job plan
strayed_same job plan off = sym (false_from_ne_true (is_legal job plan) (λ h.
    true≢false (sym (keeps_passes job.frozen (home_of job.frozen job.start) plan (passes_legal job plan h).meeting.keeps) ∙ off)))

pub strayed_decides : (job : Job) (plan : List ℕ) → keeps_frozen job.frozen (home_of job.frozen job.start) plan ≡ false → (false ≡ true) ↔ IsLegal job plan
strayed_decides job plan off = (
  λ h. absurd (false≢true h),
  λ legal. absurd (true≢false (sym (keeps_passes job.frozen (home_of job.frozen job.start) plan legal.meeting.keeps) ∙ off)),
)

module _ (job : Job) (plan : List ℕ) (complete : length plan ≡ job.graph.units) (in_range : (u : ℕ) → u < job.graph.units → get_or plan u 0 < job.districts)
    (keeps : KeepsFrozen job.frozen (home_of job.frozen job.start) plan) where
  accepted : bounds_fault (with_start job plan) ≡ None → shape_fault (with_start job plan) ≡ None → IsLegal job plan
  accepted bounds shape =
      let parts = shape_parts (with_start job plan) shape in
      record {
        complete = complete;
        in_range = in_range;
        connected = λ d l. passes_connected job.graph (in_district plan d)
            (not-false (is_connected job.graph (in_district plan d))
            (first_below_none job.districts (is_disconnected (with_start job plan)) d
            (option_map_none (disconnected (with_start job plan)) (first_below job.districts (is_disconnected (with_start job plan))) parts.0) l));
        balanced = λ d l. passes_balanced job (district_sum job.counts.population plan d)
            (not-false (is_balanced job (district_sum job.counts.population plan d))
            (first_below_none job.districts (is_unbalanced (with_start job plan)) d
            (option_map_none (out_of_bounds (with_start job plan)) (first_below job.districts (is_unbalanced (with_start job plan))) bounds) l));
        meeting = record {
          few_cuts = ltb-false job.setting.max_cut (cut_edges job.graph plan)
              (cond_some_none (cuts_too_many (with_start job plan)) (TooManyCut (cut_edges job.graph plan) job.setting.max_cut) parts.1);
          few_splits = splits_from job.regions plan job.setting.max_split (λ region l.
              ltb-false job.setting.max_split (split_of job.regions plan region)
              (first_below_none (above_all job.regions) (is_oversplit (with_start job plan)) region
              (option_map_none (oversplit (with_start job plan)) (first_below (above_all job.regions) (is_oversplit (with_start job plan))) parts.2) l));
          few_in_all = ltb-false job.setting.max_splits (splits_in_all job.regions plan)
              (cond_some_none (nat_lt job.setting.max_splits (splits_in_all job.regions plan))
              (TooManySplits (splits_in_all job.regions plan) job.setting.max_splits) parts.3);
          few_regions = ltb-false job.setting.max_split_regions (split_regions job.regions plan)
              (cond_some_none (nat_lt job.setting.max_split_regions (split_regions job.regions plan))
              (TooManySplitRegions (split_regions job.regions plan) job.setting.max_split_regions) parts.4);
          enough = ltb-false (majorities job.setting.group_share job.group plan) job.setting.group_districts
              (cond_some_none (nat_lt (majorities job.setting.group_share job.group plan) job.setting.group_districts)
              (TooFewMajorities (majorities job.setting.group_share job.group plan) job.setting.group_districts job.setting.group_share) parts.5);
          keeps = keeps;
        };
        short = ltb-false job.setting.max_length (cut_length job.graph job.counts.lengths plan)
            (cond_some_none (nat_lt job.setting.max_length (cut_length job.graph job.counts.lengths plan))
            (TooLong (cut_length job.graph job.counts.lengths plan) job.setting.max_length) parts.6);
      }

  unrefused : IsLegal job plan → (bounds_fault (with_start job plan) ≡ None) × (shape_fault (with_start job plan) ≡ None)
  unrefused legal = (
    ap (option_map (out_of_bounds (with_start job plan)))
        (none_first_below job.districts (is_unbalanced (with_start job plan)) (λ d l. not_from_true (is_balanced job (district_sum job.counts.population plan d))
        (balanced_passes job (district_sum job.counts.population plan d) (legal.balanced d l)))),
    parts_shape (with_start job plan)
        (ap (option_map (disconnected (with_start job plan)))
        (none_first_below job.districts (is_disconnected (with_start job plan)) (λ d l. not_from_true (is_connected job.graph (in_district plan d))
        (connected_passes job.graph (in_district plan d) (legal.connected d l)))))
        (cond-false (cuts_too_many (with_start job plan)) (Some (TooManyCut (cut_edges job.graph plan) job.setting.max_cut)) None
        (le-ltb job.setting.max_cut (cut_edges job.graph plan) legal.meeting.few_cuts))
        (ap (option_map (oversplit (with_start job plan)))
        (none_first_below (above_all job.regions) (is_oversplit (with_start job plan)) (λ region l.
        le-ltb job.setting.max_split (split_of job.regions plan region) (legal.meeting.few_splits region))))
        (cond-false (nat_lt job.setting.max_splits (splits_in_all job.regions plan))
        (Some (TooManySplits (splits_in_all job.regions plan) job.setting.max_splits)) None
        (le-ltb job.setting.max_splits (splits_in_all job.regions plan) legal.meeting.few_in_all))
        (cond-false (nat_lt job.setting.max_split_regions (split_regions job.regions plan))
        (Some (TooManySplitRegions (split_regions job.regions plan) job.setting.max_split_regions)) None
        (le-ltb job.setting.max_split_regions (split_regions job.regions plan) legal.meeting.few_regions))
        (cond-false (nat_lt (majorities job.setting.group_share job.group plan) job.setting.group_districts)
        (Some (TooFewMajorities (majorities job.setting.group_share job.group plan) job.setting.group_districts job.setting.group_share)) None
        (le-ltb (majorities job.setting.group_share job.group plan) job.setting.group_districts legal.meeting.enough))
        (cond-false (nat_lt job.setting.max_length (cut_length job.graph job.counts.lengths plan))
        (Some (TooLong (cut_length job.graph job.counts.lengths plan) job.setting.max_length)) None
        (le-ltb job.setting.max_length (cut_length job.graph job.counts.lengths plan) legal.short)),
  )

  judged : (r : Bool) → r ≡ (is_none (bounds_fault (with_start job plan)) && is_none (shape_fault (with_start job plan))) → (r ≡ true) ↔ IsLegal job plan
  judged r is = (
    λ h.
        let parts = and_parts (is_none (bounds_fault (with_start job plan))) (is_none (shape_fault (with_start job plan))) (sym is ∙ h) in
        accepted (none_passes (bounds_fault (with_start job plan)) parts.0) (none_passes (shape_fault (with_start job plan)) parts.1),
    λ legal.
        let parts = unrefused legal in
        is ∙ and_from (is_none (bounds_fault (with_start job plan))) (is_none (shape_fault (with_start job plan)))
        (passes_none (bounds_fault (with_start job plan)) parts.0) (passes_none (shape_fault (with_start job plan)) parts.1),
  )

  judged_same : (r : Bool) → r ≡ (is_none (bounds_fault (with_start job plan)) && is_none (shape_fault (with_start job plan))) → r ≡ is_legal job plan
  judged_same r is =
      same_bool r (is_legal job plan) (λ h. legal_passes job plan ((judged r is).0 h)) (λ h. (judged r is).1 (passes_legal job plan h))

  -- there is a fault of bounds
  module _ (bounds : Option PlanFault) (bounds_is : bounds ≡ bounds_fault (with_start job plan)) (r : Bool) (some : is_some bounds ≡ not r) where
    module _ (off : r ≡ false) where
      refused : r ≡ (is_none (bounds_fault (with_start job plan)) && is_none (shape_fault (with_start job plan)))
      refused =
          let none : is_none (bounds_fault (with_start job plan)) ≡ false = sym (ap is_none bounds_is) ∙ sym (turned (is_some bounds) r some) ∙ off in
          off ∙ sym (and_left (is_none (bounds_fault (with_start job plan))) (is_none (shape_fault (with_start job plan))) none)

      pub refused_decides : (r ≡ true) ↔ IsLegal job plan
      refused_decides = judged r refused

      pub refused_same : r ≡ is_legal job plan
      refused_same = judged_same r refused

    -- there is none, and the second check decides
    module _ (on : r ≡ true) (paths : Option PlanFault) (paths_is : paths ≡ shape_fault (with_start job plan)) (q : Bool) (other : is_some paths ≡ not q) where
      attempted : q ≡ (is_none (bounds_fault (with_start job plan)) && is_none (shape_fault (with_start job plan)))
      attempted =
          let none : is_none (bounds_fault (with_start job plan)) ≡ true = sym (ap is_none bounds_is) ∙ sym (turned (is_some bounds) r some) ∙ on in
          turned (is_some paths) q other ∙ ap is_none paths_is
          ∙ sym (and_second (is_none (bounds_fault (with_start job plan))) (is_none (shape_fault (with_start job plan))) none)

      pub attempted_decides : (q ≡ true) ↔ IsLegal job plan
      attempted_decides = judged q attempted

      pub attempted_same : q ≡ is_legal job plan
      attempted_same = judged_same q attempted

-- ---- the job

-- an input within the limits and without a fault is a job
pub accepted_is_job : (job : Job) → IsWithinLimits job → plan_fault job ≡ None → IsJob job
accepted_is_job job within none =
    let parts = accepted_is_legal job within.input.complete within.input.in_range none in
    record { within = within; votes = parts.0; legal = parts.1 }

module _ (parsed : Parsed) (setting : Setting) (regions : List ℕ) where
  pub job_of_none : plan_fault (job_from parsed setting regions) ≡ None → job_of parsed setting regions ≡ Ok (job_from parsed setting regions)
  unfolding job_of
  job_of_none none = ap (job_or (job_from parsed setting regions)) none

  pub job_of_some : (fault : PlanFault) → plan_fault (job_from parsed setting regions) ≡ Some fault → job_of parsed setting regions ≡ Err fault
  unfolding job_of
  job_of_some fault some = ap (job_or (job_from parsed setting regions)) some

-- an input with another start plan is the job that starts from it
pub restarted_is : (inside job : Job) (start : List ℕ) (labels : List Label) (districts : ℕ) (input : Job)
    → input ≡ record inside { start = start; districts = districts } → districts ≡ length labels → inside ≡ job → input ≡ restarted job start labels
restarted_is inside job start labels districts input is count same =
    is ∙ ap (λ (n : ℕ). record inside { start = start; districts = n }) count ∙ ap (λ (j : Job). restarted j start labels) same

module _ (job : Job) (start : List ℕ) (labels : List Label) (input : Job) (is : input ≡ restarted job start labels) where
  pub job_with_none : plan_fault input ≡ None → job_with job start labels ≡ Ok input
  unfolding job_with
  job_with_none none =
      subst (λ (j : Job). job_with job start labels ≡ Ok j) (sym is)
      (ap (job_or (restarted job start labels)) (subst (λ (j : Job). plan_fault j ≡ None) is none))

  pub job_with_some : (fault : PlanFault) → plan_fault input ≡ Some fault → job_with job start labels ≡ Err fault
  unfolding job_with
  job_with_some fault some = ap (job_or (restarted job start labels)) (subst (λ (j : Job). plan_fault j ≡ Some fault) is some)

-- the result for an input is the one that the definition gives
module _ (input : Job) (judged : Result Job PlanFault) (accepted_as : plan_fault input ≡ None → judged ≡ Ok input) (refused_as : (f : PlanFault) → plan_fault input ≡ Some f → judged ≡ Err f) where
  pub given_job : (made : Result Job PlanFault) → MatchResult made (λ given. (given ≡ input) × (plan_fault input ≡ None)) (λ fault. (fault ≡ Memory) ⊎ (plan_fault input ≡ Some fault))
      → MatchResult made (λ given. judged ≡ Ok given) (λ fault. (fault ≡ Memory) ⊎ (judged ≡ Err fault))
  given_job (Ok given) h = accepted_as h.1 ∙ ap (λ (j : Job). Ok j) (sym h.0)
  given_job (Err fault) (inl memory) = inl memory
  given_job (Err fault) (inr some) = inr (refused_as fault some)
