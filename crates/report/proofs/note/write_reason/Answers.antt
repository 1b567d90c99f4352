use Rattle.std.proofs.Common.{◌++◌, List, ℕ, ap, codes}
use Rattle.report.proofs.NoteLines.{adds_line}
use Rattle.report.proofs.note.write_reason.Goals as goal

pub returns-in-BadWords : goal.returns-in-BadWords
returns-in-BadWords g c = rw c.in-BadWords.is (adds_line c.write_fault.ensures (ap (λ (t : List ℕ). codes "words: " ++ t) c.word_line.ensures))

pub returns-in-BadGraph : goal.returns-in-BadGraph
returns-in-BadGraph g c = rw c.in-BadGraph.is (adds_line c.write_fault-in-BadGraph.ensures (ap (λ (t : List ℕ). codes "graph: " ++ t) c.graph_line.ensures))

pub returns-in-BadRegions : goal.returns-in-BadRegions
returns-in-BadRegions g c = rw c.in-BadRegions.is (adds_line c.write_fault-in-BadRegions.ensures (ap (λ (t : List ℕ). codes "graph: " ++ t) c.region_line.ensures))

pub returns-in-BadPlan : goal.returns-in-BadPlan
returns-in-BadPlan g c = rw c.in-BadPlan.is (adds_line c.write_fault-in-BadPlan.ensures (ap (λ (t : List ℕ). codes "plan: " ++ t) c.plan_line.ensures))

pub returns-in-BadTable : goal.returns-in-BadTable
returns-in-BadTable g c = rw c.in-BadTable.is (adds_line c.write_fault-in-BadTable.ensures (ap (λ (t : List ℕ). codes "table: " ++ t) c.table_line.ensures))

pub returns-in-OtherJob : goal.returns-in-OtherJob
returns-in-OtherJob g c = rw c.in-OtherJob.is c.write_other_job.ensures

pub returns-in-TooManyBytes : goal.returns-in-TooManyBytes
returns-in-TooManyBytes g c = rw c.in-TooManyBytes.is c.write_text.ensures

pub returns-in-BadPlanNamed : goal.returns-in-BadPlanNamed
returns-in-BadPlanNamed g c = rw c.in-BadPlanNamed.is c.write_named.ensures

pub returns-in-NoMemory : goal.returns-in-NoMemory
returns-in-NoMemory g c = rw c.in-NoMemory.is c.write_text-in-NoMemory.ensures

pub returns-in-ReadFault : goal.returns-in-ReadFault
returns-in-ReadFault g c = rw c.in-ReadFault.is c.write_text-in-ReadFault.ensures

pub returns-in-WriteFault : goal.returns-in-WriteFault
returns-in-WriteFault g c = rw c.in-WriteFault.is c.write_text-in-WriteFault.ensures

pub returns-in-LoadFault : goal.returns-in-LoadFault
returns-in-LoadFault g c = rw c.in-LoadFault.is c.write_text-in-LoadFault.ensures

pub returns-in-FolderTaken : goal.returns-in-FolderTaken
returns-in-FolderTaken g c = rw c.in-FolderTaken.is c.write_text-in-FolderTaken.ensures

pub returns-in-Stopped : goal.returns-in-Stopped
returns-in-Stopped g c = rw c.in-Stopped.is c.write_stopped.ensures

pub returns-in-Damaged : goal.returns-in-Damaged
returns-in-Damaged g c = rw c.in-Damaged.is c.write_damaged.ensures

pub returns-in-SaveFault : goal.returns-in-SaveFault
returns-in-SaveFault g c = rw c.in-SaveFault.is c.write_text-in-SaveFault.ensures
