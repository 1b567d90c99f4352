-- The job of bytes, refusal by refusal.
use Rattle.std.proofs.Common.{◌≡◌, ◌⊎◌, inl, inr, ℕ, ◌<◌, ◌≤◌, Bool, false, List, [], length, Option, Some, None, Ok, Err, refl, sym, ap, ◌∙◌, subst, arith}
use Rattle.audit_model.specs.declared.fault.GraphFault.TheVariants as graph
use Rattle.audit_model.specs.declared.fault.PlanFault.TheVariants as plan
use Rattle.audit_model.specs.declared.fault.RegionFault.TheVariants as region
use Rattle.report.specs.Ended.{graph_ended, plan_ended, region_ended}
use Rattle.audit_start.specs.Steps.{IsJudged, JudgedSo}
use Rattle.std.proofs.lemmas.Bool.{lt-ltb, le-ltb}
use Rattle.audit_model.specs.declared.fault.GraphFault.{GraphFault}
use Rattle.audit_model.specs.declared.fault.PlanFault.{PlanFault}
use Rattle.audit_model.specs.declared.fault.RegionFault.{RegionFault}
use Rattle.audit_model.specs.declared.setting.Setting.{Setting}
use Rattle.audit_model.specs.Job.{Job}
use Rattle.audit_model.specs.JobOf.{IsJob, job_from, job_of, job_or, plan_fault}
use Rattle.audit_model.specs.Limits.{AreFrozen, AreRegions, AreWithin, IsGroup, IsSetting, IsWithinLimits}
use Rattle.audit_model.specs.Parsed.{Parsed}
use Rattle.audit_model.proofs.Jobs.{setting_of_job}
use Rattle.audit_statement.specs.Note.{too_many_bytes, bad_graph, bad_regions, bad_plan}
use Rattle.audit_statement.specs.Reading.{reading}
use Rattle.audit_statement.specs.Accepted.{judged, most_bytes}
use Rattle.audit_statement.specs.Origin.{origin_if, origin_of, with_origin}
use Rattle.audit_statement.specs.Regions.{regions_by}

-- too many bytes are refused before they are read
pub judged_many : (setting : Setting) (bytes : List ℕ) → most_bytes < length bytes → judged setting bytes ≡ Err too_many_bytes
unfolding judged
judged_many setting bytes many = rw (lt-ltb most_bytes (length bytes) many)

-- few enough bytes that are no graph are refused as such
pub judged_graph : (setting : Setting) (bytes : List ℕ) (f : GraphFault) → length bytes ≤ most_bytes
    → reading bytes setting.columns ≡ Err f → judged setting bytes ≡ Err (bad_graph f)
unfolding judged
judged_graph setting bytes f few r = rw (le-ltb most_bytes (length bytes) few, r)

-- a graph whose regions are refused is refused for them
pub judged_regions : (setting : Setting) (bytes : List ℕ) (p : Parsed) (f : RegionFault) → length bytes ≤ most_bytes
    → reading bytes setting.columns ≡ Ok p → regions_by setting.region bytes ≡ Err f → judged setting bytes ≡ Err (bad_regions setting.region f)
unfolding judged
judged_regions setting bytes p f few r q = rw (le-ltb most_bytes (length bytes) few, r, q)

-- a graph whose job is refused is refused for its plan
pub judged_plan : (setting : Setting) (bytes : List ℕ) (p : Parsed) (regions : List ℕ) (f : PlanFault) → length bytes ≤ most_bytes
    → reading bytes setting.columns ≡ Ok p → regions_by setting.region bytes ≡ Ok regions → job_of p setting regions ≡ Err f → judged setting bytes ≡ Err (bad_plan f)
unfolding judged
judged_plan setting bytes p regions f few r q j = rw (le-ltb most_bytes (length bytes) few, r, q, j)

-- bytes that are accepted give the job, with its origin
pub judged_job : (setting : Setting) (bytes : List ℕ) (p : Parsed) (regions : List ℕ) (job : Job) → length bytes ≤ most_bytes
    → reading bytes setting.columns ≡ Ok p → regions_by setting.region bytes ≡ Ok regions → job_of p setting regions ≡ Ok job
    → judged setting bytes ≡ Ok (with_origin (origin_of setting bytes) job)
unfolding judged
judged_job setting bytes p regions job few r q j = rw (le-ltb most_bytes (length bytes) few, r, q, j)

-- the ending of a refused plan, or of out of memory
pub judged_plan_end : (setting : Setting) (bytes : List ℕ) (p : Parsed) (regions : List ℕ) (f : PlanFault) → length bytes ≤ most_bytes
    → reading bytes setting.columns ≡ Ok p → regions_by setting.region bytes ≡ Ok regions → (f ≡ plan.Memory) ⊎ (job_of p setting regions ≡ Err f) → JudgedSo setting bytes (plan_ended f)
judged_plan_end setting bytes p regions plan.Memory few r q j = tt
judged_plan_end setting bytes p regions f few r q (inl e) = cc
judged_plan_end setting bytes p regions f few r q (inr j) = judged_plan setting bytes p regions f few r q j

-- the ending of refused regions, or of out of memory
pub judged_regions_end : (setting : Setting) (bytes : List ℕ) (p : Parsed) (f : RegionFault) → length bytes ≤ most_bytes
    → reading bytes setting.columns ≡ Ok p → (f ≡ region.Memory) ⊎ (regions_by setting.region bytes ≡ Err f) → JudgedSo setting bytes (region_ended setting.region f)
judged_regions_end setting bytes p region.Memory few r q = tt
judged_regions_end setting bytes p f few r (inl e) = cc
judged_regions_end setting bytes p f few r (inr q) = judged_regions setting bytes p f few r q

-- the ending of a refused graph, or of out of memory
pub judged_graph_end : (setting : Setting) (bytes : List ℕ) (f : GraphFault) → length bytes ≤ most_bytes
    → (f ≡ graph.Memory) ⊎ (reading bytes setting.columns ≡ Err f) → JudgedSo setting bytes (graph_ended setting.columns f)
judged_graph_end setting bytes graph.Memory few r = tt
judged_graph_end setting bytes f few (inl e) = cc
judged_graph_end setting bytes f few (inr r) = (judged_graph setting bytes f few r, refl)

-- a job without a fault is the parsed graph with the setting and the regions
job_made : (p : Parsed) (setting : Setting) (regions : List ℕ) (job : Job) → job_of p setting regions ≡ Ok job → job_from p setting regions ≡ job
unfolding job_of
job_made p setting regions job e = by (plan_fault (job_from p setting regions)) e
  where
    by : (fault : Option PlanFault) → job_or (job_from p setting regions) fault ≡ Ok job → job_from p setting regions ≡ job
    by None e = cc
    by (Some f) e = cc

-- an empty list is a list of regions of any graph
pub no_regions : (units : ℕ) → AreRegions units []
no_regions units = record { width = inl refl; few = λ k d inside. absurd (omega arith) }

-- the parsed graph, the setting and the regions are within the limits
pub within_limits : (p : Parsed) (setting : Setting) (regions : List ℕ) → AreWithin p.graph p.counts p.start (length p.labels) → IsSetting setting → AreRegions p.graph.units regions
    → IsGroup p.graph.units p.group → AreFrozen p.graph.units p.frozen → IsWithinLimits (job_from p setting regions)
within_limits p setting regions input within are group frozen = record { input = input; setting = within; regions = are; group = group; frozen = frozen }

-- the job with the requested origin is the one that the bytes give
pub is_judged : (setting : Setting) (bytes : List ℕ) (p : Parsed) (regions : List ℕ) (job sourced : Job) → length bytes ≤ most_bytes
    → reading bytes setting.columns ≡ Ok p → regions_by setting.region bytes ≡ Ok regions → job_of p setting regions ≡ Ok job
    → sourced ≡ with_origin (origin_of job.setting bytes) job → IsJob sourced → IsJudged setting bytes sourced
is_judged setting bytes p regions job sourced few r q j is sound =
    let same : job.setting ≡ setting = setting_of_job p setting regions job j in
    record {
      judged_so = judged_job setting bytes p regions job few r q j
          ∙ ap (λ (s : Setting). Ok (with_origin (origin_of s bytes) job)) (sym same) ∙ ap Ok (sym is);
      same = ap (λ (j : Job). j.setting) is ∙ same;
      sound = sound;
    }

-- if no origin is requested, the job without one is the one that the bytes give
pub is_sourced : (p : Parsed) (setting : Setting) (regions : List ℕ) (job : Job) (bytes : List ℕ) → setting.source ≡ false → job_of p setting regions ≡ Ok job
    → job ≡ with_origin (origin_of job.setting bytes) job
is_sourced p setting regions job bytes none j =
    let made : job_from p setting regions ≡ job = job_made p setting regions job j in
    subst (λ (j : Job). j ≡ with_origin (origin_of j.setting bytes) j) made
    (ap (λ (b : Bool). with_origin (origin_if b bytes) (job_from p setting regions)) (sym none))
