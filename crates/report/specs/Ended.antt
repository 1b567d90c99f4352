-- The reasons why a call ended, from the code's type to the definitions.
use Rattle.std.specs.Prelude.{ℕ, List, Option, Some, None}
use Rattle.audit_model.specs.declared.fault.GraphFault.{GraphFault}
use Rattle.audit_model.specs.declared.fault.GraphFault.TheVariants as graph
use Rattle.audit_model.specs.declared.fault.PlanFault.{PlanFault}
use Rattle.audit_model.specs.declared.fault.PlanFault.TheVariants as plan
use Rattle.audit_model.specs.declared.fault.RegionFault.{RegionFault}
use Rattle.audit_model.specs.declared.fault.RegionFault.TheVariants as region
use Rattle.audit_model.specs.declared.fault.WordFault.{WordFault}
use Rattle.audit_model.specs.declared.fault.WordFault.TheVariants as word
use Rattle.report.specs.declared.ended.Ended.{Ended}
use Rattle.report.specs.declared.ended.Ended.TheVariants as ended
use Rattle.audit_statement.specs.Note.{Ending, bad_words, too_many_bytes, bad_graph, bad_regions, bad_table, bad_plan, bad_plan_named, no_memory, read_fault, write_fault, load_fault, folder_taken, stopped, damaged, other_job, save_fault}
use Rattle.audit_model.specs.declared.setting.Columns.{Columns}
use Rattle.ckpt_store.specs.View.{slot_view}
use Rattle.audit_statement.specs.Accepted.{no_columns}

-- the ending of refused arguments. Out of memory has the same ending in every layer.
abbrev pub word_ended : WordFault → Ended
word_ended word.Memory = ended.NoMemory
word_ended f = ended.BadWords f

abbrev pub graph_ended : Columns → GraphFault → Ended
graph_ended columns graph.Memory = ended.NoMemory
graph_ended columns f = ended.BadGraph f columns

abbrev pub region_ended : List ℕ → RegionFault → Ended
region_ended column region.Memory = ended.NoMemory
region_ended column f = ended.BadRegions f column

abbrev pub plan_ended : PlanFault → Ended
plan_ended plan.Memory = ended.NoMemory
plan_ended f = ended.BadPlan f

-- the reason, or none if the call did all its work
abbrev pub ending_of : Ended → Option Ending
ending_of ended.Done = None
ending_of (ended.BadWords f) = Some (bad_words f)
ending_of ended.TooManyBytes = Some too_many_bytes
ending_of (ended.BadGraph f columns) = Some (bad_graph f)
ending_of (ended.BadRegions f column) = Some (bad_regions column f)
ending_of (ended.BadPlan f) = Some (bad_plan f)
ending_of (ended.BadTable f) = Some (bad_table f)
ending_of (ended.BadPlanNamed name f) = Some (bad_plan_named name f)
ending_of ended.NoMemory = Some no_memory
ending_of ended.ReadFault = Some read_fault
ending_of ended.WriteFault = Some write_fault
ending_of ended.LoadFault = Some load_fault
ending_of ended.FolderTaken = Some folder_taken
ending_of (ended.Stopped done total) = Some (stopped done total)
ending_of (ended.Damaged slots) = Some (damaged (slot_view slots.zero) (slot_view slots.one))
ending_of (ended.OtherJob found wanted) = Some (other_job found wanted)
ending_of ended.SaveFault = Some save_fault

-- the columns that the code keeps for the diagnostic
abbrev pub columns_kept : Ended → Columns
columns_kept ended.Done = no_columns
columns_kept (ended.BadWords f) = no_columns
columns_kept ended.TooManyBytes = no_columns
columns_kept (ended.BadGraph f columns) = columns
columns_kept (ended.BadRegions f column) = no_columns
columns_kept (ended.BadPlan f) = no_columns
columns_kept (ended.BadTable f) = no_columns
columns_kept (ended.BadPlanNamed name f) = no_columns
columns_kept ended.NoMemory = no_columns
columns_kept ended.ReadFault = no_columns
columns_kept ended.WriteFault = no_columns
columns_kept ended.LoadFault = no_columns
columns_kept ended.FolderTaken = no_columns
columns_kept (ended.Stopped done total) = no_columns
columns_kept (ended.Damaged slots) = no_columns
columns_kept (ended.OtherJob found wanted) = no_columns
columns_kept ended.SaveFault = no_columns
