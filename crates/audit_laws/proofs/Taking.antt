-- JSON that gives a graph with a valid start plan within the limits is accepted.
use Rattle.std.proofs.Common.{◌≡◌, ℕ, ◌<◌, Bool, not, cond, List, [], ◌∷◌, length, Ok, None, refl, sym, ap, ◌∙◌, subst, arith}
use Rattle.std.specs.Prelude.{◌==◌, slice_index}
use Rattle.serde_json.specs.Data.{Data}
use Rattle.audit_model.specs.declared.outcome.Counts.{Counts}
use Rattle.audit_model.specs.Below.{map_below}
use Rattle.audit_model.specs.Graph.{Graph, IsIn, adjacent}
use Rattle.audit_model.specs.Job.{Job}
use Rattle.audit_model.specs.JobOf.{job_from, job_of, job_or, plan_fault}
use Rattle.audit_model.specs.Path.{IsConnected, IsPath}
use Rattle.audit_model.specs.District.{in_district}
use Rattle.audit_model.specs.Plan.{IsLegal}
use Rattle.audit_statement.specs.Reading.{Document, district_at, document, flag_at, graph, label_count, node_count, parsed}
use Rattle.audit_model.proofs.Accepted.{legal_is_accepted}
use Rattle.audit_model.proofs.Below.{get_or-map_below, length-map_below}
use Rattle.audit_model.proofs.Meeting.{default_meets}
use Rattle.audit_laws.proofs.Determining.{IsNumbered, one_graph, valid_is_numbered}
use Rattle.audit_laws.proofs.Lengthless.{cut_length_none}
use Rattle.audit_laws.proofs.Labels.{districts_onto}
use Rattle.audit_laws.proofs.Reading.{given_is}
use Rattle.audit_laws.proofs.Sound.{edges_same, read_so, shape, sound}
use Rattle.audit_laws.specs.Determined.{AreOfOneGraph}
use Rattle.audit_statement.specs.Given.{IsGiven}
use Rattle.audit_laws.specs.Taken.{GivenJobsAreTaken, LimitsNothing}
use Rattle.audit_statement.specs.PlainlyEnded.{IsAllowed}
use Rattle.audit_statement.specs.Valid.{IsValid}

-- ---- a path of a graph is a path of another with the same edges

module _ (a b : Graph) (inside : ℕ → Bool) (units : a.units ≡ b.units)
    (same : (u v : ℕ) → u < a.units → v < a.units → adjacent a u v ≡ adjacent b u v) where
  in_same : (u : ℕ) → IsIn a inside u → IsIn b inside u
  in_same u h = (omega (arith, h.0, units), h.1)

  first_in : (v : ℕ) (rest : List ℕ) (x y : ℕ) → IsPath a inside (v ∷ rest) x y → v < a.units
  first_in v [] x y h = h.2.0
  first_in v (w ∷ rest) x y h = h.1.0

  path_same : (path : List ℕ) (x y : ℕ) → IsPath a inside path x y → IsPath b inside path x y
  path_same [] x y h = h
  path_same (u ∷ []) x y h = (h.0, h.1, in_same u h.2)
  path_same (u ∷ v ∷ rest) x y h = (
    h.0,
    in_same u h.1,
    sym (same u v h.1.0 (first_in v rest v y h.3)) ∙ h.2,
    path_same (v ∷ rest) v y h.3,
  )

  pub connected_same : IsConnected a inside → IsConnected b inside
  connected_same h = record {
    inhabited = (h.inhabited.0, in_same h.inhabited.0 h.inhabited.1);
    joined = λ x y p q.
        let path = h.joined x y (omega (arith, p.0, units), p.1) (omega (arith, q.0, units), q.1) in
        (path.0, path_same path.0 x y path.1);
  }

module _ (root : Data) (job : Job) (g : IsGiven root job) (fit : IsAllowed root job) (valid : IsValid job job.start) (free : LimitsNothing job.setting) where
  abbrev d : Document
  d = document root

  abbrev made : Job
  made = job_from (parsed d job.setting.columns) job.setting []

  number_at : (u : ℕ) → u < node_count d → slice_index made.start u ≡ district_at d job.setting.columns u
  number_at u l = get_or-map_below (node_count d) (district_at d job.setting.columns) u 0 l

  bound : made.districts ≡ label_count d job.setting.columns
  bound = length-map_below (label_count d job.setting.columns) _

  numbered : IsNumbered made
  numbered =
      let onto = districts_onto d job.setting.columns in
      record {
        complete = length-map_below (node_count d) (district_at d job.setting.columns);
        onto = record {
          within = λ u l. omega (arith, onto.within u l, number_at u l, bound);
          each = λ k l. let unit = onto.each k (omega (arith, l, bound)) in (unit.0, unit.1, number_at unit.0 unit.1 ∙ unit.2);
        };
      }

  pub same : AreOfOneGraph made job
  same = one_graph root made job (record { population = refl; first = refl; second = refl; district = refl; no_lengths = (free.no_lengths, free.no_lengths) })
      (given_is job.setting root (shape root job g fit valid free.no_group free.no_frozen free.no_lengths) (sound root job g fit valid free.no_group free.no_frozen free.no_lengths)) g numbered (valid_is_numbered job valid)

  -- the job with the parsed graph
  abbrev with : Counts → List ℕ → ℕ → Job
  with counts start districts = record {
    graph = graph d;
    counts = counts;
    start = start;
    districts = districts;
    setting = job.setting;
    regions = [];
    group = made.group;
    frozen = made.frozen;
    origin = None;
  }

  made_is : made ≡ with job.counts job.start job.districts
  made_is =
      ap (λ (counts : Counts). with counts made.start made.districts) same.counts
      ∙ ap (λ (start : List ℕ). with job.counts start made.districts) same.start
      ∙ ap (with job.counts job.start) same.districts

  legal : IsLegal (with job.counts job.start job.districts) job.start
  legal =
      let units : job.graph.units ≡ node_count d = sym same.units in
      record {
        complete = valid.complete ∙ units;
        in_range = λ u l. valid.in_range u (omega (arith, l, units));
        connected = λ k l. connected_same job.graph (graph d) (in_district job.start k) units
            (λ u v p q. sym (same.edges u v (omega (arith, p, units)) (omega (arith, q, units)))) (valid.connected k l);
        balanced = valid.balanced;
        meeting = default_meets (with job.counts job.start job.districts) job.start
            (omega (arith, free.any_cut, edges_same root job g fit valid free.no_group free.no_frozen free.no_lengths, fit.edges)) refl free.none_due
            (ap (λ (key : List ℕ). cond (not (length key == 0)) (map_below (node_count d) (flag_at d job.setting.columns)) []) free.no_frozen);
        short = let none = cut_length_none (graph d) job.counts.lengths job.start (g.no_lengths free.no_lengths) in omega (arith, none);
      }

  pub accepted : job_of (parsed d job.setting.columns) job.setting [] ≡ Ok made
  unfolding job_of
  accepted = ap (job_or made) (subst (λ (j : Job). plan_fault j ≡ None) (sym made_is)
      (legal_is_accepted (with job.counts job.start job.districts) fit.votes legal))

-- the law that bytes of a job with a valid start plan within the limits are accepted
pub given_jobs_are_taken : GivenJobsAreTaken
given_jobs_are_taken bytes root job text json g valid fit free = record {
  parsed = parsed (document root) job.setting.columns;
  read_so = read_so root job g fit valid free.no_group free.no_frozen free.no_lengths bytes text json;
  accepted = accepted root job g fit valid free;
  same = same root job g fit valid free;
}
