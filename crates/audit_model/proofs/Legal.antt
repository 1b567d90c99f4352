-- The test of legality decides if a plan is legal.
use Rattle.std.proofs.Common.{◌≡◌, ℕ, ◌*◌, ◌+◌, ◌-◌, Bool, true, ◌&&◌, List, length}
use Rattle.std.specs.Prelude.{◌==◌, nat_lt, nat_le, slice_index}
use Rattle.std.proofs.lemmas.Bool.{and_parts, and_from, eqb-true, eq-eqb, ltb-true, lt-ltb, leb-true, le-leb}
use Rattle.audit_model.specs.Below.{all_below}
use Rattle.audit_model.specs.Job.{Job, total_population, rules}
use Rattle.audit_model.specs.Length.{cut_length}
use Rattle.audit_model.specs.Meets.{meets_rules}
use Rattle.audit_model.specs.Path.{is_connected}
use Rattle.audit_model.specs.District.{in_district, district_sum}
use Rattle.audit_model.specs.Plan.{cut_edges, IsBalanced, IsLegal, is_balanced, is_legal}
use Rattle.audit_model.proofs.Below.{all_below_at, all_below_from}
use Rattle.audit_model.proofs.Connected.{connected_passes, passes_connected}
use Rattle.audit_model.proofs.Meeting.{meets_passes, passes_meets}

module _ (job : Job) where
  pub balanced_passes : (population : ℕ) → IsBalanced job population → is_balanced job population ≡ true
  balanced_passes population h = and_from _ _ (le-leb _ _ h.0) (le-leb _ _ h.1)

  pub passes_balanced : (population : ℕ) → is_balanced job population ≡ true → IsBalanced job population
  passes_balanced population h =
      let parts = and_parts
      (nat_le ((10000 - job.setting.slack) * total_population job) (10000 * job.districts * population))
      (nat_le (10000 * job.districts * population) ((10000 + job.setting.slack) * total_population job)) h in
      (leb-true _ _ parts.0, leb-true _ _ parts.1)

  module _ (plan : List ℕ) where
    complete : Bool
    complete = length plan == job.graph.units

    in_range : Bool
    in_range = all_below job.graph.units (λ u. nat_lt (slice_index plan u) job.districts)

    connected : Bool
    connected = all_below job.districts (λ d. is_connected job.graph (in_district plan d))

    balanced : Bool
    balanced = all_below job.districts (λ d. is_balanced job (district_sum job.counts.population plan d))

    meeting : Bool
    meeting = meets_rules (rules job) (cut_edges job.graph plan) plan

    short : Bool
    short = nat_le (cut_length job.graph job.counts.lengths plan) job.setting.max_length

    pub legal_passes : IsLegal job plan → is_legal job plan ≡ true
    unfolding is_legal complete in_range connected balanced meeting short
    legal_passes h =
        and_from (complete && in_range && connected && balanced && meeting) short
        (and_from (complete && in_range && connected && balanced) meeting
        (and_from (complete && in_range && connected) balanced
        (and_from (complete && in_range) connected
        (and_from complete in_range
        (eq-eqb (length plan) job.graph.units h.complete)
        (all_below_from job.graph.units (λ u. nat_lt (slice_index plan u) job.districts) (λ u l. lt-ltb _ _ (h.in_range u l))))
        (all_below_from job.districts (λ d. is_connected job.graph (in_district plan d)) (λ d l. connected_passes job.graph (in_district plan d) (h.connected d l))))
        (all_below_from job.districts (λ d. is_balanced job (district_sum job.counts.population plan d)) (λ d l. balanced_passes (district_sum job.counts.population plan d) (h.balanced d l))))
        (meets_passes (rules job) (cut_edges job.graph plan) plan h.meeting))
        (le-leb (cut_length job.graph job.counts.lengths plan) job.setting.max_length h.short)

    pub passes_legal : is_legal job plan ≡ true → IsLegal job plan
    unfolding is_legal complete in_range connected balanced meeting short
    passes_legal h =
        let within = and_parts (complete && in_range && connected && balanced && meeting) short h in
        let met = and_parts (complete && in_range && connected && balanced) meeting within.0 in
        let last = and_parts (complete && in_range && connected) balanced met.0 in
        let third = and_parts (complete && in_range) connected last.0 in
        let second = and_parts complete in_range third.0 in
        record {
          complete = eqb-true (length plan) job.graph.units second.0;
          in_range = λ u l. ltb-true _ _ (all_below_at job.graph.units (λ u. nat_lt (slice_index plan u) job.districts) u second.1 l);
          connected = λ d l. passes_connected job.graph (in_district plan d) (all_below_at job.districts (λ d. is_connected job.graph (in_district plan d)) d third.1 l);
          balanced = λ d l. passes_balanced (district_sum job.counts.population plan d) (all_below_at job.districts (λ d. is_balanced job (district_sum job.counts.population plan d)) d last.1 l);
          meeting = passes_meets (rules job) (cut_edges job.graph plan) plan met.1;
          short = leb-true (cut_length job.graph job.counts.lengths plan) job.setting.max_length within.1;
        }
