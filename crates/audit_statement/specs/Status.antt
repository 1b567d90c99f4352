-- The status of a call, and the line of its diagnostic, by the reason why it ended. This project's: 0 if all was done,
-- and a status for each kind of reason.
use Rattle.std.specs.Prelude.{ℕ, List, [], Option, Some, None}
use Rattle.audit_model.specs.declared.setting.Columns.{Columns}
use Rattle.audit_statement.specs.Note.{Ending, bad_words, too_many_bytes, bad_graph, bad_regions, bad_table, bad_plan, bad_plan_named, no_memory, read_fault, write_fault, load_fault, folder_taken, stopped, damaged, other_job, save_fault, note}

-- the status for an ending
abbrev pub status_of : Option Ending → ℕ
status_of None = 0
status_of (Some (bad_words f)) = 1
status_of (Some too_many_bytes) = 2
status_of (Some (bad_graph f)) = 2
status_of (Some (bad_regions column f)) = 2
status_of (Some (bad_table f)) = 2
status_of (Some (bad_plan f)) = 2
status_of (Some (bad_plan_named name f)) = 2
status_of (Some no_memory) = 3
status_of (Some read_fault) = 4
status_of (Some write_fault) = 5
status_of (Some load_fault) = 6
status_of (Some folder_taken) = 6
status_of (Some (stopped done total)) = 7
status_of (Some (damaged zero one)) = 8
status_of (Some (other_job found wanted)) = 8
status_of (Some save_fault) = 9

-- the line of the diagnostic, or nothing if all was done
abbrev pub line_of : Columns → Option Ending → List ℕ
line_of columns None = []
line_of columns (Some ending) = note columns ending
