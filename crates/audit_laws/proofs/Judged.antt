-- If the bytes of a run without regions are accepted, no test has refused them.
use Rattle.std.proofs.Common.{◌≡◌, ℕ, Bool, true, false, List, [], length, Option, Some, None, Result, Ok, Err, refl, ap, ◌∙◌, subst}
use Rattle.std.specs.Prelude.{nat_lt}
use Rattle.serde_json.specs.Data.{Data}
use Rattle.audit_model.specs.declared.fault.GraphFault.{GraphFault}
use Rattle.audit_model.specs.declared.fault.PlanFault.{PlanFault}
use Rattle.audit_model.specs.declared.origin.Origin.{Origin}
use Rattle.audit_model.specs.declared.setting.Setting.{Setting}
use Rattle.audit_model.specs.Job.{Job}
use Rattle.audit_model.specs.JobOf.{job_from, job_of, job_or, plan_fault}
use Rattle.audit_model.specs.Parsed.{Parsed}
use Rattle.audit_statement.specs.Reading.{reading}
use Rattle.audit_statement.specs.Given.{IsGiven}
use Rattle.audit_statement.specs.Accepted.{from_job, from_regions, from_parsed, from_bytes, judged, most_bytes}
use Rattle.audit_statement.specs.Origin.{origin_of, with_origin}
use Rattle.audit_statement.specs.Regions.{regions_by}

-- the job of such bytes
pub record IsJudged (setting : Setting) (bytes : List ℕ) (job : Job) : Type 0 where
  pub parsed : Parsed
  pub read_so : reading bytes setting.columns ≡ Ok parsed
  pub made : with_origin (origin_of setting bytes) (job_from parsed setting []) ≡ job

-- a job without a fault is the one that was made
made_is : (made job : Job) (fault : Option PlanFault) → job_or made fault ≡ Ok job → made ≡ job
made_is made job None e = cc
made_is made job (Some f) e = cc

-- an accepted job is the one that was made, with this origin
pub from_job_is : (origin : Option Origin) (r : Result Job PlanFault) (job : Job) → from_job origin r ≡ Ok job
    → (made : Job) × (r ≡ Ok made) × (with_origin origin made ≡ job)
from_job_is origin (Ok made) job e = (made, refl, cc)
from_job_is origin (Err f) job e = cc

-- bytes that give a job give it with any origin
pub given_with : (root : Data) (origin : Option Origin) (job : Job) → IsGiven root job → IsGiven root (with_origin origin job)
given_with root origin job h = record {
  nodes = h.nodes;
  lists = h.lists;
  nodes_are = h.nodes_are;
  lists_are = h.lists_are;
  undirected = h.undirected;
  units = h.units;
  ids = h.ids;
  ids_are = h.ids_are;
  apart = h.apart;
  known = h.known;
  edges = h.edges;
  population = h.population;
  first = h.first;
  second = h.second;
  no_lengths = h.no_lengths;
  labels = h.labels;
  labels_are = h.labels_are;
  order = h.order;
}

-- the job of a parsed graph without regions is the one made of it
job_is : (p : Parsed) (setting : Setting) (job : Job) → job_of p setting [] ≡ Ok job → job_from p setting [] ≡ job
unfolding job_of
job_is p setting job e = made_is (job_from p setting []) job (plan_fault (job_from p setting [])) e

-- an accepted job of a reading is the job of these bytes
from_parsed_is : (setting : Setting) (bytes : List ℕ) (r : Result Parsed GraphFault) (job : Job) → setting.region ≡ [] → reading bytes setting.columns ≡ r
    → from_parsed setting bytes r ≡ Ok job → IsJudged setting bytes job
from_parsed_is setting bytes (Ok p) job none is e =
    let plain : from_regions setting (origin_of setting bytes) p (Ok []) ≡ Ok job =
    subst (λ (region : List ℕ). from_regions setting (origin_of setting bytes) p (regions_by region bytes) ≡ Ok job) none e in
    let kept = from_job_is (origin_of setting bytes) (job_of p setting []) job plain in
    record {
      parsed = p;
      read_so = is;
      made = ap (with_origin (origin_of setting bytes)) (job_is p setting kept.0 kept.1) ∙ kept.2;
    }
from_parsed_is setting bytes (Err f) job none is e = cc

-- an accepted job of bytes is the job of these bytes
from_bytes_is : (setting : Setting) (bytes : List ℕ) (many : Bool) (job : Job) → setting.region ≡ [] → from_bytes setting bytes many ≡ Ok job
    → IsJudged setting bytes job
from_bytes_is setting bytes true job none e = cc
from_bytes_is setting bytes false job none e = from_parsed_is setting bytes (reading bytes setting.columns) job none refl e

-- an accepted job of a setting and bytes is the job of these bytes
pub judged_is : (setting : Setting) (bytes : List ℕ) (job : Job) → setting.region ≡ [] → judged setting bytes ≡ Ok job → IsJudged setting bytes job
unfolding judged
judged_is setting bytes job none e = from_bytes_is setting bytes (nat_lt most_bytes (length bytes)) job none e
