-- The test of the rules decides if a plan meets them.
use Rattle.std.proofs.Common.{◌≡◌, ℕ, zero, suc, ◌<◌, ◌≤◌, true, false, not, ◌&&◌, List, [], ◌∷◌, length, refl, sym, ap, ◌∙◌, inl, inr, arith}
use Rattle.std.specs.Prelude.{◌==◌, ◌-◌, ◌*◌, ◌||◌, Bool, nat_le, nat_lt, slice_index}
use Rattle.std.proofs.lemmas.Bool.{and_left, and_parts, and_from, cases_lt, eq-eqb, eqb-true, false_from_ne_true, leb-true, le-leb, ne_eqb, or_left, or_right}
use Rattle.audit_model.specs.declared.rules.Rules.{Rules}
use Rattle.audit_model.specs.Below.{above_all, count_below, sum_below}
use Rattle.audit_model.specs.Graph.{Graph, adjacent, count_edges}
use Rattle.audit_model.specs.Job.{Job, home_of, rules}
use Rattle.audit_model.specs.Limits.{IsWithinLimits, most_districts, most_edges, most_regions, most_splits}
use Rattle.audit_model.specs.Meets.{KeepsFrozen, Meets, are_whole, keeps_frozen, lies_in, majorities, meets_rules, split_of, split_regions, splits_in_all}
use Rattle.audit_model.specs.Plan.{cut_edges}
use Rattle.audit_model.proofs.Below.{all_below_at, all_below_from, any_below_none, count_below_le, count_below_none, count_below_more, sum_below_more}
use Rattle.audit_model.proofs.ListFacts.{above_all_most}

-- each number of a list is below its bound
pub below_above_all : (xs : List ℕ) (u : ℕ) → u < length xs → slice_index xs u < above_all xs
below_above_all [] u l = absurd (omega arith)
below_above_all (x ∷ xs) zero l = omega arith
below_above_all (x ∷ xs) (suc u) l = let rest = below_above_all xs u (omega arith) in omega (arith, rest)

-- a region without units lies in no district
pub no_split : (regions plan : List ℕ) (region : ℕ) → above_all regions ≤ region → split_of regions plan region ≡ 0
no_split regions plan region past = count_below_none (above_all plan) (lies_in regions plan region) (λ district below.
    any_below_none (length regions) (λ u. (slice_index regions u == region) && (slice_index plan u == district)) (λ u l.
    and_left (slice_index regions u == region) (slice_index plan u == district)
    (ne_eqb (slice_index regions u) region (λ e. omega (arith, e, below_above_all regions u l)))))

-- the test of frozen units decides `KeepsFrozen`
module _ (frozen home plan : List ℕ) where
  stays : ℕ → Bool
  stays u = (slice_index frozen u == 0) || (slice_index plan u == slice_index home u)

  pub keeps_passes : KeepsFrozen frozen home plan → keeps_frozen frozen home plan ≡ true
  unfolding stays
  keeps_passes h = all_below_from (length frozen) stays (λ u l. elim (cases_lt 0 (slice_index frozen u)) [
    | inl some ↦ or_right (slice_index frozen u == 0) (slice_index plan u == slice_index home u) (eq-eqb (slice_index plan u) (slice_index home u) (h u l some))
    | inr none ↦ or_left (slice_index frozen u == 0) (slice_index plan u == slice_index home u) (eq-eqb (slice_index frozen u) 0 (omega (arith, none)))
  ])

  pub passes_keeps : keeps_frozen frozen home plan ≡ true → KeepsFrozen frozen home plan
  unfolding stays
  passes_keeps h u l some = eqb-true (slice_index plan u) (slice_index home u)
      (sym (ap (λ test. test || (slice_index plan u == slice_index home u)) (ne_eqb (slice_index frozen u) 0 (λ e. omega (arith, e, some))))
      ∙ all_below_at (length frozen) stays u h l)

  -- a frozen unit with another district fails the test
  pub strayed : (u : ℕ) → u < length frozen → (slice_index frozen u ≡ 0 → ⊥) → (slice_index plan u ≡ slice_index home u → ⊥) → keeps_frozen frozen home plan ≡ false
  strayed u l some off = false_from_ne_true (keeps_frozen frozen home plan) (λ h. off (passes_keeps h u l (omega (arith, some))))

-- the six tests of the rules, one by one
module _ (rules : Rules) (cut : ℕ) (plan : List ℕ) where
  kept : Bool
  kept = keeps_frozen rules.frozen rules.home plan

  cuts : Bool
  cuts = nat_le cut rules.max_cut

  whole : Bool
  whole = are_whole rules.regions rules.max_split plan

  in_all : Bool
  in_all = nat_le (splits_in_all rules.regions plan) rules.max_splits

  of_regions : Bool
  of_regions = nat_le (split_regions rules.regions plan) rules.max_split_regions

  of_group : Bool
  of_group = nat_le rules.group_districts (majorities rules.group_share rules.group plan)

-- a plan that meets the rules passes the test
pub meets_passes : (rules : Rules) (cut : ℕ) (plan : List ℕ) → Meets rules cut plan → meets_rules rules cut plan ≡ true
unfolding kept cuts whole in_all of_regions of_group
meets_passes rules cut plan h =
    and_from (kept rules cut plan && cuts rules cut plan && whole rules cut plan && in_all rules cut plan && of_regions rules cut plan) (of_group rules cut plan)
    (and_from (kept rules cut plan && cuts rules cut plan && whole rules cut plan && in_all rules cut plan) (of_regions rules cut plan)
    (and_from (kept rules cut plan && cuts rules cut plan && whole rules cut plan) (in_all rules cut plan)
    (and_from (kept rules cut plan && cuts rules cut plan) (whole rules cut plan)
    (and_from (kept rules cut plan) (cuts rules cut plan)
    (keeps_passes rules.frozen rules.home plan h.keeps)
    (le-leb cut rules.max_cut h.few_cuts))
    (all_below_from (above_all rules.regions) (λ region. nat_le (split_of rules.regions plan region) rules.max_split)
    (λ region l. le-leb (split_of rules.regions plan region) rules.max_split (h.few_splits region))))
    (le-leb (splits_in_all rules.regions plan) rules.max_splits h.few_in_all))
    (le-leb (split_regions rules.regions plan) rules.max_split_regions h.few_regions))
    (le-leb rules.group_districts (majorities rules.group_share rules.group plan) h.enough)

-- a limit on the regions below the bound holds of all
pub splits_from : (regions plan : List ℕ) (most : ℕ) → ((region : ℕ) → region < above_all regions → split_of regions plan region ≤ most)
    → (region : ℕ) → split_of regions plan region ≤ most
splits_from regions plan most each region = elim (cases_lt region (above_all regions)) [
  | inl l ↦ each region l
  | inr past ↦ omega (arith, no_split regions plan region past)
]

-- a plan that passes the test meets the rules
pub passes_meets : (rules : Rules) (cut : ℕ) (plan : List ℕ) → meets_rules rules cut plan ≡ true → Meets rules cut plan
unfolding kept cuts whole in_all of_regions of_group
passes_meets rules cut plan h =
    let last = and_parts (kept rules cut plan && cuts rules cut plan && whole rules cut plan && in_all rules cut plan && of_regions rules cut plan) (of_group rules cut plan) h in
    let fourth = and_parts (kept rules cut plan && cuts rules cut plan && whole rules cut plan && in_all rules cut plan) (of_regions rules cut plan) last.0 in
    let third = and_parts (kept rules cut plan && cuts rules cut plan && whole rules cut plan) (in_all rules cut plan) fourth.0 in
    let parts = and_parts (kept rules cut plan && cuts rules cut plan) (whole rules cut plan) third.0 in
    let first = and_parts (kept rules cut plan) (cuts rules cut plan) parts.0 in
    record {
      few_cuts = leb-true cut rules.max_cut first.1;
      few_splits = splits_from rules.regions plan rules.max_split (λ region l. leb-true (split_of rules.regions plan region) rules.max_split
          (all_below_at (above_all rules.regions) (λ region. nat_le (split_of rules.regions plan region) rules.max_split) region parts.1 l));
      few_in_all = leb-true (splits_in_all rules.regions plan) rules.max_splits third.1;
      few_regions = leb-true (split_regions rules.regions plan) rules.max_split_regions fourth.1;
      enough = leb-true rules.group_districts (majorities rules.group_share rules.group plan) last.1;
      keeps = passes_keeps rules.frozen rules.home plan first.0;
    }

-- ---- default rules

-- at most all edges are cut
pub cut_edges_few : (g : Graph) (plan : List ℕ) → cut_edges g plan ≤ count_edges g (λ u v. true)
cut_edges_few g plan = sum_below_more g.units
    (λ v. count_below v (λ u. adjacent g u v && not (slice_index plan u == slice_index plan v)))
    (λ v. count_below v (λ u. adjacent g u v && true))
    (λ v. count_below_more v (λ u. adjacent g u v && not (slice_index plan u == slice_index plan v)) (λ u. adjacent g u v && true)
    (λ u h. and_from (adjacent g u v) true (and_parts (adjacent g u v) (not (slice_index plan u == slice_index plan v)) h).0 refl))

-- without regions, none is split
count_below_nothing : (plan : List ℕ) → split_regions [] plan ≡ 0
unfolding count_below
count_below_nothing plan = refl

-- the start plan keeps the frozen units in their districts
pub own_keeps : (frozen plan : List ℕ) → KeepsFrozen frozen (home_of frozen plan) plan
own_keeps [] plan u l some = absurd (omega (arith, l))
own_keeps (f ∷ frozen) plan u l some = refl

-- without frozen units every plan keeps them
pub none_frozen : (frozen home plan : List ℕ) → frozen ≡ [] → KeepsFrozen frozen home plan
none_frozen frozen home plan none u l some = absurd (omega (arith, l, ap (λ (xs : List ℕ). length xs) none))

-- the default rules allow every plan: no regions, no group majority, no frozen unit, and a high enough limit on cut edges
pub default_meets : (job : Job) (plan : List ℕ) → count_edges job.graph (λ u v. true) ≤ job.setting.max_cut → job.regions ≡ []
    → job.setting.group_districts ≡ 0 → job.frozen ≡ [] → Meets (rules job) (cut_edges job.graph plan) plan
default_meets job plan enough none no_group unfrozen =
    let few = cut_edges_few job.graph plan in
    let no_region : above_all job.regions ≡ 0 = ap above_all none in
    let no_splits : splits_in_all job.regions plan ≡ 0 = ap (λ regions. splits_in_all regions plan) none in
    let none_split : split_regions job.regions plan ≡ 0 = ap (λ regions. split_regions regions plan) none ∙ count_below_nothing plan in
    record {
      few_cuts = omega (arith, few, enough);
      few_splits = λ region. let split = no_split job.regions plan region (omega (arith, no_region)) in omega (arith, split);
      few_in_all = omega (arith, no_splits);
      few_regions = omega (arith, none_split);
      enough = omega (arith, no_group);
      keeps = none_frozen job.frozen (rules job).home plan unfrozen;
    }

-- a region lies in at most all districts
split_few : (regions plan : List ℕ) (districts region : ℕ) → ((u : ℕ) → u < length plan → slice_index plan u < districts) → split_of regions plan region ≤ districts
split_few regions plan districts region inside =
    let counted = count_below_le (above_all plan) (lies_in regions plan region) in
    omega (arith, counted, above_all_most plan districts inside)

-- a bound on each term bounds the sum
sum_few : (n most : ℕ) (f : ℕ → ℕ) → ((k : ℕ) → f k ≤ most) → sum_below n f ≤ n * most
sum_few zero most f each = omega arith
sum_few (suc n) most f each = omega (arith, sum_few n most f each, each n)

-- rules with each limit at its default and no frozen unit allow every plan
pub unlimited_meets : (job : Job) (plan : List ℕ) → IsWithinLimits job → ((u : ℕ) → u < length plan → slice_index plan u < job.districts)
    → job.setting.max_cut ≡ most_edges → job.setting.max_split ≡ most_districts → job.setting.max_splits ≡ most_splits
    → job.setting.max_split_regions ≡ most_regions → job.setting.group_districts ≡ 0 → job.frozen ≡ [] → Meets (rules job) (cut_edges job.graph plan) plan
unlimited_meets job plan within inside cut split splits split_count no_group unfrozen =
    let few : job.districts ≤ most_districts = within.input.few in
    let rows : above_all job.regions ≤ most_regions = above_all_most job.regions most_regions (λ u l. within.regions.few u 0 l) in
    let less : (region : ℕ) → split_of job.regions plan region - 1 ≤ 199 = λ region.
    omega (arith, split_few job.regions plan job.districts region inside, few) in
    let sum : splits_in_all job.regions plan ≤ above_all job.regions * 199 =
    sum_few (above_all job.regions) 199 (λ region. split_of job.regions plan region - 1) less in
    let counted : split_regions job.regions plan ≤ above_all job.regions =
    count_below_le (above_all job.regions) (λ region. nat_lt 1 (split_of job.regions plan region)) in
    record {
      few_cuts = omega (arith, cut_edges_few job.graph plan, within.input.edges, cut);
      few_splits = λ region. omega (arith, split_few job.regions plan job.districts region inside, few, split);
      few_in_all = omega (arith, sum, rows, splits);
      few_regions = omega (arith, counted, rows, split_count);
      enough = omega (arith, no_group);
      keeps = none_frozen job.frozen (rules job).home plan unfrozen;
    }
