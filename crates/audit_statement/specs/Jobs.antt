-- The jobs of several plans on one graph, or the first fault. The input is the graph up to its first line feed, then
-- the table. This project's format. Faults are tested in the order graph, regions, table, the graph's own plan, the
-- table's plans.
use Rattle.std.specs.Prelude.{ℕ, List, ◌∷◌, Option, Result, Ok, Err}
use Rattle.audit_model.specs.declared.fault.GraphFault.{GraphFault}
use Rattle.audit_model.specs.declared.fault.PlanFault.{PlanFault}
use Rattle.audit_model.specs.declared.fault.RegionFault.{RegionFault}
use Rattle.audit_model.specs.declared.fault.TableFault.{TableFault}
use Rattle.audit_model.specs.declared.origin.Origin.{Origin}
use Rattle.audit_model.specs.declared.plans.Assigned.{Assigned}
use Rattle.audit_model.specs.declared.setting.Setting.{Setting}
use Rattle.audit_model.specs.Job.{Job}
use Rattle.audit_model.specs.JobOf.{job_of}
use Rattle.audit_model.specs.Parsed.{Parsed}
use Rattle.audit_model.specs.Several.{named_jobs}
use Rattle.audit_statement.specs.Origin.{origin_of, with_origin}
use Rattle.audit_statement.specs.Reading.{reading}
use Rattle.audit_statement.specs.Regions.{id_reading, regions_by}
use Rattle.audit_statement.specs.Table.{graph_part, table_part, table_reading}
use Rattle.audit_model.specs.declared.fault.PlansFault.{PlansFault}
use Rattle.audit_model.specs.declared.fault.PlansFault.TheVariants as fault

-- each job with the name of its plan; the first is the graph's own plan, named after its district column
abbrev pub Jobs : Type 0
Jobs = List (List ℕ × Job)

-- the jobs with the graph's own first, or the fault of a named plan
abbrev pub from_others : List ℕ → Job → Result Jobs (List ℕ × PlanFault) → Result Jobs PlansFault
from_others name job (Ok others) = Ok ((name, job) ∷ others)
from_others name job (Err refused) = Err (fault.Other refused.0 refused.1)

-- the jobs over the graph's own job, whose origin they share, or the fault of its plan
abbrev pub from_own : List ℕ → Option Origin → List Assigned → Result Job PlanFault → Result Jobs PlansFault
from_own name origin plans (Ok job) = from_others name (with_origin origin job) (named_jobs (with_origin origin job) plans)
from_own name origin plans (Err f) = Err (fault.Own f)

-- the jobs over the plans of the table, or the table's fault
abbrev pub from_table : Setting → Option Origin → Parsed → List ℕ → Result (List Assigned) TableFault → Result Jobs PlansFault
from_table setting origin parsed regions (Ok plans) = from_own setting.columns.district origin plans (job_of parsed setting regions)
from_table setting origin parsed regions (Err f) = Err (fault.Table f)

-- the jobs over the regions, or their fault
abbrev pub jobs_over_regions : Setting → Option Origin → List ℕ → List ℕ → Parsed → Result (List ℕ) RegionFault → Result Jobs PlansFault
jobs_over_regions setting origin graph table parsed (Ok regions) = from_table setting origin parsed regions (table_reading table (id_reading graph))
jobs_over_regions setting origin graph table parsed (Err f) = Err (fault.Regions f)

-- the jobs over the graph, or its fault
abbrev pub from_graph : Setting → Option Origin → List ℕ → List ℕ → Result Parsed GraphFault → Result Jobs PlansFault
from_graph setting origin graph table (Ok parsed) = jobs_over_regions setting origin graph table parsed (regions_by setting.region graph)
from_graph setting origin graph table (Err f) = Err (fault.Graph f)

-- the jobs of these bytes, or the first fault
unfoldable pub jobs_reading : Setting → List ℕ → Result Jobs PlansFault
jobs_reading setting bytes =
    from_graph setting (origin_of setting bytes) (graph_part bytes) (table_part bytes) (reading (graph_part bytes) setting.columns)
