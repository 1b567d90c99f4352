-- The start plan of an accepted job is legal, and so is each visited plan.
use Rattle.std.proofs.Common.{◌≡◌, ℕ, zero, suc, ◌<◌, ◌≤◌, ◌&&◌, Bool, true, false, List, length, Option, Some, None, Result, Ok, Err, refl, sym, ap, ◌∙◌, subst, inl, inr, cond, arith}
use Rattle.std.specs.Prelude.{nat_lt, slice_index}
use Rattle.std.specs.Str.{is_utf8}
use Rattle.std.proofs.lemmas.Bool.{and_parts, cases_Bool, both_ways, not_from_false}
use Rattle.serde_json.specs.Data.{Data}
use Rattle.serde_json.specs.Read.{read}
use Rattle.audit_model.specs.declared.fault.GraphFault.{GraphFault}
use Rattle.audit_model.specs.declared.fault.Part.{Part}
use Rattle.audit_model.specs.declared.fault.PlanFault.{PlanFault}
use Rattle.audit_model.specs.declared.fault.RegionFault.{RegionFault}
use Rattle.audit_model.specs.declared.origin.Origin.{Origin}
use Rattle.audit_model.specs.declared.setting.Columns.{Columns}
use Rattle.audit_model.specs.declared.setting.Label.{Label}
use Rattle.audit_model.specs.declared.setting.Setting.{Setting}
use Rattle.audit_model.specs.Below.{any_below, map_below}
use Rattle.audit_model.specs.Job.{Job}
use Rattle.audit_model.specs.JobOf.{job_from, job_of, job_or, plan_fault}
use Rattle.audit_model.specs.Label.{same_label, label_before}
use Rattle.audit_model.specs.Parsed.{Parsed}
use Rattle.audit_model.specs.Plan.{IsLegal}
use Rattle.audit_model.specs.Trajectory.{hub}
use Rattle.audit_model.proofs.Accepted.{accepted_is_legal}
use Rattle.audit_model.proofs.Connected.{grows}
use Rattle.audit_model.proofs.Mirror.{visit_stays_legal}
use Rattle.audit_model.proofs.Below.{length-map_below, get_or-map_below, any_below_some}
use Rattle.audit_model.proofs.Labels.{same_equal}
use Rattle.audit_laws.proofs.Judged.{from_job_is}
use Rattle.audit_laws.proofs.Reading.{not_before_itself}
use Rattle.audit_statement.specs.Draw.{draw}
use Rattle.audit_statement.specs.Reading.{Document, node_count, label_at, label_count, is_new_label, district_at, parsed, document, refusal, bad_part, accepted_or, of_root, of_json, reading}
use Rattle.audit_statement.specs.Accepted.{IsAccepted, from_regions, from_parsed, from_bytes, judged, most_bytes}
use Rattle.audit_statement.specs.Origin.{origin_of, with_origin}
use Rattle.audit_statement.specs.Regions.{regions_by}
use Rattle.audit_statement.specs.Visits.{VisitsLegal}

-- ---- labels

-- ---- the districts of the start plan

-- a place below the bound is a place of the table
below_length : (x n : ℕ) (f : ℕ → Label) → x < n → x < length (map_below n f)
below_length x n f l = omega (arith, l, length-map_below n f)

module _ (d : Document) (columns : Columns) where
  -- each node has a first node with its label
  first_with : (most i : ℕ) → i < most → (j : ℕ) × (j ≤ i) × (is_new_label d columns j ≡ true) × (label_at d columns j ≡ label_at d columns i)
  first_with zero i l = absurd (omega arith)
  first_with (suc most) i l = elim (cases_Bool (any_below i (λ j. same_label (label_at d columns j) (label_at d columns i)))) [
    | inl some ↦
        let before = any_below_some i (λ j. same_label (label_at d columns j) (label_at d columns i)) some in
        let first = first_with most before.0 (omega (arith, before.1)) in
        (first.0, omega (arith, first.1, before.1), first.2, first.3 ∙ same_equal _ _ before.2)
    | inr none ↦ (i, omega arith, not_from_false _ none, refl)
  ]

  -- each node's district is below the count of labels
  district_in_range : (i : ℕ) → i < node_count d → district_at d columns i < label_count d columns
  district_in_range i l =
      let first = first_with (suc i) i (omega arith) in
      let before : Bool = label_before (label_at d columns first.0) (label_at d columns i) in
      let out : before ≡ false = ap (λ (a : Label). label_before a (label_at d columns i)) first.3 ∙ not_before_itself (label_at d columns i) in
      elim (grows (node_count d) (λ j. is_new_label d columns j && label_before (label_at d columns j) (label_at d columns i)) (is_new_label d columns)
      (λ v below h. (and_parts _ _ h).0)) [
        | inl fewer ↦ fewer
        | inr all ↦ absurd (both_ways before out (and_parts (is_new_label d columns first.0) before (all.1 first.0 (omega (arith, first.1)) first.2)).1)
      ]

  start_is_complete : length (parsed d columns).start ≡ (parsed d columns).graph.units
  start_is_complete = length-map_below (node_count d) (district_at d columns)

  start_in_range : (u : ℕ) → u < (parsed d columns).graph.units → slice_index (parsed d columns).start u < length (parsed d columns).labels
  start_in_range u l =
      let place : slice_index (parsed d columns).start u ≡ district_at d columns u = get_or-map_below (node_count d) (district_at d columns) u 0 l in
      below_length (slice_index (parsed d columns).start u) (label_count d columns) _ (subst (λ (x : ℕ). x < label_count d columns) (sym place) (district_in_range u l))

  -- the start plan of a parsed graph is legal if it has no fault
  read_start_is_legal : (setting : Setting) (regions : List ℕ) → plan_fault (job_from (parsed d columns) setting regions) ≡ None → IsLegal (job_from (parsed d columns) setting regions) (parsed d columns).start
  read_start_is_legal setting regions none = (accepted_is_legal (job_from (parsed d columns) setting regions) start_is_complete start_in_range none).1

-- a parsed graph comes from a document
pub record IsReadOf (p : Parsed) (columns : Columns) : Type 0 where
  pub of : Document
  pub same : parsed of columns ≡ p

-- an accepted graph is the parsed one
accepted_is : (p q : Parsed) (fault : Option GraphFault) → accepted_or p fault ≡ Ok q → p ≡ q
accepted_is p q None e = cc
accepted_is p q (Some f) e = cc

-- a graph read from a root is read by these columns
of_root_is : (columns : Columns) (root : Data) (part : Option Part) (p : Parsed) → of_root columns root part ≡ Ok p → IsReadOf p columns
of_root_is columns root None p e = record { of = document root; same = accepted_is _ p (refusal (document root) columns) e }
of_root_is columns root (Some f) p e = cc

-- a graph read from JSON is read by these columns
of_json_is : (columns : Columns) (root : Option Data) (p : Parsed) → of_json columns root ≡ Ok p → IsReadOf p columns
of_json_is columns None p e = cc
of_json_is columns (Some root) p e = of_root_is columns root (bad_part root) p e

-- an accepted graph is read by these columns
read_is : (bytes : List ℕ) (columns : Columns) (p : Parsed) → reading bytes columns ≡ Ok p → IsReadOf p columns
unfolding reading
read_is bytes columns p e = of_json_is columns (cond (is_utf8 bytes) (read bytes) None) p e

-- ---- the job

-- a job without a fault is the one that was made
made_is : (made job : Job) (fault : Option PlanFault) → job_or made fault ≡ Ok job → (fault ≡ None) × (made ≡ job)
made_is made job None e = (refl, cc)
made_is made job (Some f) e = cc

-- the start plan of a job made from a parsed graph is legal
job_is_legal : (p : Parsed) (setting : Setting) (regions : List ℕ) (job : Job) → IsReadOf p setting.columns → job_of p setting regions ≡ Ok job → IsLegal job job.start
unfolding job_of
job_is_legal p setting regions job r e =
    let made = made_is (job_from p setting regions) job (plan_fault (job_from p setting regions)) e in
    let none = subst (λ (q : Parsed). plan_fault (job_from q setting regions) ≡ None) (sym r.same) made.0 in
    subst (λ (j : Job). IsLegal j j.start) made.1
    (subst (λ (q : Parsed). IsLegal (job_from q setting regions) q.start) r.same (read_start_is_legal r.of setting.columns setting regions none))

-- the legal plans do not depend on a job's origin
legal_from : (job : Job) (origin : Option Origin) (plan : List ℕ) → IsLegal job plan → IsLegal (with_origin origin job) plan
legal_from job origin plan h = record {
  complete = h.complete;
  in_range = h.in_range;
  connected = h.connected;
  balanced = h.balanced;
  meeting = h.meeting;
  short = h.short;
}

-- the start plan of an accepted job with regions is legal
from_regions_is : (setting : Setting) (origin : Option Origin) (p : Parsed) (r : Result (List ℕ) RegionFault) (job : Job) → IsReadOf p setting.columns
    → from_regions setting origin p r ≡ Ok job → IsLegal job job.start
from_regions_is setting origin p (Ok regions) job read e =
    let kept = from_job_is origin (job_of p setting regions) job e in
    subst (λ (j : Job). IsLegal j j.start) kept.2 (legal_from kept.0 origin kept.0.start (job_is_legal p setting regions kept.0 read kept.1))
from_regions_is setting origin p (Err f) job read e = cc

-- the start plan of an accepted job of a reading is legal
from_parsed_is : (setting : Setting) (bytes : List ℕ) (r : Result Parsed GraphFault) (job : Job) → reading bytes setting.columns ≡ r → from_parsed setting bytes r ≡ Ok job
    → IsLegal job job.start
from_parsed_is setting bytes (Ok p) job is e = from_regions_is setting (origin_of setting bytes) p (regions_by setting.region bytes) job (read_is bytes setting.columns p is) e
from_parsed_is setting bytes (Err f) job is e = cc

-- the start plan of an accepted job of bytes is legal
from_bytes_is : (setting : Setting) (bytes : List ℕ) (many : Bool) (job : Job) → from_bytes setting bytes many ≡ Ok job → IsLegal job job.start
from_bytes_is setting bytes true job e = cc
from_bytes_is setting bytes false job e = from_parsed_is setting bytes (reading bytes setting.columns) job refl e

-- the start plan of each accepted job is legal
accepted_start_is_legal : (setting : Setting) (bytes : List ℕ) (job : Job) → judged setting bytes ≡ Ok job → IsLegal job job.start
unfolding judged
accepted_start_is_legal setting bytes job e = from_bytes_is setting bytes (nat_lt most_bytes (length bytes)) job e

-- each plan visited by an accepted job's trajectories is legal
pub visits_legal : (words : List (List ℕ)) (left : Option (List ℕ)) → VisitsLegal words left
visits_legal words left = record {
  from_start = λ job a stream step. visit_stays_legal job (draw job.setting.key stream) job.start step (start job a);
  from_hub = λ job a stream step. visit_stays_legal job (draw job.setting.key stream) (hub job (draw job.setting.key)) step
      (visit_stays_legal job (draw job.setting.key 1) job.start job.setting.hub_steps (start job a));
}
  where
    start : (job : Job) → IsAccepted words left job → IsLegal job job.start
    start job a = accepted_start_is_legal job.setting a.bytes job a.judged_so
