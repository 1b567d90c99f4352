-- The job of a graph, a setting and regions, or the first fault of the start plan. This project's faults, in their
-- order. Each is defined by itself, at its least place; the code stops at the first.
use Rattle.std.specs.Prelude.{ℕ, ◌==◌, ◌&&◌, Bool, true, false, IsFalse, not, cond, nat_lt, List, [], ◌∷◌, length, Option, Some, None, option_map, unwrap_or, Result, Ok, Err}
use Rattle.std.specs.List.{list_any}
use Rattle.audit_model.specs.declared.fault.PlanFault.{PlanFault}
use Rattle.audit_model.specs.declared.fault.PlanFault.TheVariants.{NoVotes, OutOfBounds, Disconnected, TooManyCut, TooManySplit, TooManySplits, TooManySplitRegions, TooFewMajorities, TooLong}
use Rattle.audit_model.specs.declared.setting.Label.{Label}
use Rattle.audit_model.specs.declared.setting.Score.{Score}
use Rattle.audit_model.specs.declared.setting.Score.TheVariants.{Seats, MeanMedian, Gap, CutEdges, CutLength}
use Rattle.audit_model.specs.declared.setting.Setting.{Setting}
use Rattle.audit_model.specs.Below.{above_all}
use Rattle.audit_model.specs.First.{first_some, first_below}
use Rattle.audit_model.specs.Graph.{has}
use Rattle.audit_model.specs.Job.{Job, total_votes}
use Rattle.audit_model.specs.Length.{cut_length}
use Rattle.audit_model.specs.Limits.{IsWithinLimits}
use Rattle.audit_model.specs.Meets.{split_of, splits_in_all, split_regions, majorities}
use Rattle.audit_model.specs.Parsed.{Parsed}
use Rattle.audit_model.specs.Path.{is_connected, reached}
use Rattle.audit_model.specs.District.{in_district, district_sum}
use Rattle.audit_model.specs.Plan.{IsLegal, cut_edges, is_balanced, least_population, greatest_population}

abbrev pub is_gap : Score → Bool
is_gap Seats = false
is_gap MeanMedian = false
is_gap Gap = true
is_gap CutEdges = false
is_gap CutLength = false

-- the least unit of a district
abbrev pub least_unit : Job → ℕ → ℕ
least_unit job d = unwrap_or (first_below job.graph.units (in_district job.start d)) 0

-- the least unit of a district that no path within it connects to its least unit
abbrev pub parted_unit : Job → ℕ → ℕ
parted_unit job d = unwrap_or
    (first_below job.graph.units (λ u. in_district job.start d u && not (has (reached job.graph (in_district job.start d) (least_unit job d)) u))) 0

-- the efficiency gap is asked for, and there are no votes
abbrev pub has_no_votes : Job → Bool
has_no_votes job = list_any (λ ask. is_gap ask.score) job.setting.asks && (total_votes job == 0)

-- a district's population is outside the bounds
abbrev pub is_unbalanced : Job → ℕ → Bool
is_unbalanced job d = not (is_balanced job (district_sum job.counts.population job.start d))

-- a district is not connected
abbrev pub is_disconnected : Job → ℕ → Bool
is_disconnected job d = not (is_connected job.graph (in_district job.start d))

-- the start plan cuts too many edges
abbrev pub cuts_too_many : Job → Bool
cuts_too_many job = nat_lt job.setting.max_cut (cut_edges job.graph job.start)

-- the start plan splits a region among too many districts
abbrev pub is_oversplit : Job → ℕ → Bool
is_oversplit job region = nat_lt job.setting.max_split (split_of job.regions job.start region)

-- each fault, at its least district or region
abbrev pub votes_fault : Job → Option PlanFault
votes_fault job = cond (has_no_votes job) (Some NoVotes) None

abbrev pub out_of_bounds : Job → ℕ → PlanFault
out_of_bounds job d = OutOfBounds d (district_sum job.counts.population job.start d) (least_population job) (greatest_population job)

abbrev pub bounds_fault : Job → Option PlanFault
bounds_fault job = option_map (out_of_bounds job) (first_below job.districts (is_unbalanced job))

abbrev pub disconnected : Job → ℕ → PlanFault
disconnected job d = Disconnected d (least_unit job d) (parted_unit job d)

abbrev pub path_fault : Job → Option PlanFault
path_fault job = option_map (disconnected job) (first_below job.districts (is_disconnected job))

abbrev pub cut_fault : Job → Option PlanFault
cut_fault job = cond (cuts_too_many job) (Some (TooManyCut (cut_edges job.graph job.start) job.setting.max_cut)) None

abbrev pub oversplit : Job → ℕ → PlanFault
oversplit job region = TooManySplit region (split_of job.regions job.start region) job.setting.max_split

abbrev pub split_fault : Job → Option PlanFault
split_fault job = option_map (oversplit job) (first_below (above_all job.regions) (is_oversplit job))

abbrev pub splits_fault : Job → Option PlanFault
splits_fault job =
    cond (nat_lt job.setting.max_splits (splits_in_all job.regions job.start)) (Some (TooManySplits (splits_in_all job.regions job.start) job.setting.max_splits)) None

abbrev pub split_regions_fault : Job → Option PlanFault
split_regions_fault job =
    cond (nat_lt job.setting.max_split_regions (split_regions job.regions job.start))
    (Some (TooManySplitRegions (split_regions job.regions job.start) job.setting.max_split_regions)) None

abbrev pub group_fault : Job → Option PlanFault
group_fault job =
    cond (nat_lt (majorities job.setting.group_share job.group job.start) job.setting.group_districts)
    (Some (TooFewMajorities (majorities job.setting.group_share job.group job.start) job.setting.group_districts job.setting.group_share)) None

-- the start plan's cut edges are longer in all than allowed
abbrev pub length_fault : Job → Option PlanFault
length_fault job =
    cond (nat_lt job.setting.max_length (cut_length job.graph job.counts.lengths job.start))
    (Some (TooLong (cut_length job.graph job.counts.lengths job.start) job.setting.max_length)) None

-- the first fault of the start plan
abbrev pub plan_fault : Job → Option PlanFault
plan_fault job = first_some (
    votes_fault job ∷ bounds_fault job ∷ path_fault job ∷ cut_fault job ∷ split_fault job
    ∷ splits_fault job ∷ split_regions_fault job ∷ group_fault job ∷ length_fault job ∷ [])

abbrev pub job_or : Job → Option PlanFault → Result Job PlanFault
job_or job None = Ok job
job_or job (Some f) = Err f

-- the data of a parsed source, a setting and regions, with no origin; it is a job if its start plan has no fault
abbrev pub job_from : Parsed → Setting → List ℕ → Job
job_from parsed setting regions = record {
  graph = parsed.graph;
  counts = parsed.counts;
  start = parsed.start;
  districts = length parsed.labels;
  setting = setting;
  regions = regions;
  group = parsed.group;
  frozen = parsed.frozen;
  origin = None;
}

-- the job, or the first fault of its start plan
unfoldable pub job_of : Parsed → Setting → List ℕ → Result Job PlanFault
job_of parsed setting regions = job_or (job_from parsed setting regions) (plan_fault (job_from parsed setting regions))

-- the job's data with another start plan, given as the index of each unit's label among these
abbrev pub restarted : Job → List ℕ → List Label → Job
restarted job start labels = record job { start = start; districts = length labels }

-- the job with that plan, or its first fault
unfoldable pub job_with : Job → List ℕ → List Label → Result Job PlanFault
job_with job start labels = job_or (restarted job start labels) (plan_fault (restarted job start labels))

-- all is within the limits, there are votes if the efficiency gap is asked for, and the start plan is legal
pub record IsJob (job : Job) : Type 0 where
  pub within : IsWithinLimits job
  pub votes : IsFalse (has_no_votes job)
  pub legal : IsLegal job job.start
