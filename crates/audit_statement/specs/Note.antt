-- The diagnostic: the line that says why a run ended without a whole report. This project's formats. A line is a list
-- of texts, put together; the code writes one after another.
use Rattle.std.specs.Prelude.{ℕ, List, [], ◌∷◌, ◌++◌, codes, decimal, ◌==◌, cond}
use Rattle.hex.specs.Hex.{encode_lower}
use Rattle.audit_model.specs.declared.fault.CkptFault.{CkptFault}
use Rattle.audit_model.specs.declared.fault.CkptFault.TheVariants as ckpt
use Rattle.audit_model.specs.declared.fault.Column.{Column}
use Rattle.audit_model.specs.declared.fault.Column.TheVariants as column
use Rattle.audit_model.specs.declared.fault.GraphFault.{GraphFault}
use Rattle.audit_model.specs.declared.fault.GraphFault.TheVariants as graph
use Rattle.audit_model.specs.declared.fault.Part.{Part}
use Rattle.audit_model.specs.declared.fault.Part.TheVariants as part
use Rattle.audit_model.specs.declared.fault.PlanFault.{PlanFault}
use Rattle.audit_model.specs.declared.fault.PlanFault.TheVariants as plan
use Rattle.audit_model.specs.declared.fault.RegionFault.{RegionFault}
use Rattle.audit_model.specs.declared.fault.RegionFault.TheVariants as region
use Rattle.audit_model.specs.declared.fault.TableFault.{TableFault}
use Rattle.audit_model.specs.declared.fault.TableFault.TheVariants as table
use Rattle.audit_model.specs.declared.fault.WordFault.{WordFault}
use Rattle.audit_model.specs.declared.fault.WordFault.TheVariants as word
use Rattle.audit_model.specs.declared.setting.Columns.{Columns}
use Rattle.audit_model.specs.Names.{name_text}
use Rattle.audit_statement.specs.Slots.{Slot, absent, broken, other, ours}

-- the reason why a run ended; faults of regions carry their column, and faults of a table's plan its name
pub data Ending : Type 0 where
  bad_words : WordFault → Ending
  too_many_bytes : Ending
  bad_graph : GraphFault → Ending
  bad_regions : List ℕ → RegionFault → Ending
  bad_table : TableFault → Ending
  bad_plan : PlanFault → Ending
  bad_plan_named : List ℕ → PlanFault → Ending
  no_memory : Ending
  read_fault : Ending
  write_fault : Ending
  load_fault : Ending
  folder_taken : Ending
  stopped : ℕ → ℕ → Ending
  damaged : Slot → Slot → Ending
  other_job : List ℕ → List ℕ → Ending
  save_fault : Ending

-- the texts of a line in order: the message, and its names and numbers
abbrev pub word_note : WordFault → List (List ℕ)
word_note word.NoCommand = codes "no command" ∷ []
word_note (word.UnknownCommand w) = codes "unknown command " ∷ w ∷ []
word_note (word.UnknownName w) = codes "unknown name " ∷ w ∷ []
word_note (word.Twice name) = name_text name ∷ codes " is given twice" ∷ []
word_note (word.NoValue name) = codes "no value for " ∷ name_text name ∷ []
word_note (word.MissingName name) = name_text name ∷ codes " is missing" ∷ []
word_note (word.BadValue name) = codes "bad value for " ∷ name_text name ∷ []
word_note word.PairsNeedTwoWalks = codes "pairs need two walks" ∷ []
word_note word.Memory = codes "memory" ∷ []

-- the name of a part of the JSON
abbrev pub part_name : Part → List ℕ
part_name part.Root = codes "root"
part_name part.Nodes = codes "nodes"
part_name part.Adjacency = codes "adjacency"
part_name part.Directed = codes "directed"
part_name part.Multigraph = codes "multigraph"

-- the name of a column, as the arguments give it
abbrev pub column_name : Columns → Column → List ℕ
column_name columns column.Population = columns.population
column_name columns column.First = columns.first
column_name columns column.Second = columns.second
column_name columns column.District = columns.district
column_name columns column.Group = columns.group
column_name columns column.Whole = columns.whole
column_name columns column.Frozen = columns.frozen

-- the kind of value that is missing at a node, by column
abbrev pub no_value : Column → List ℕ
no_value column.Population = codes " has no whole number from 0 to 1000000000 in column "
no_value column.First = codes " has no whole number from 0 to 1000000000 in column "
no_value column.Second = codes " has no whole number from 0 to 1000000000 in column "
no_value column.District = codes " has no whole number from 0 to 1000000000 in column "
no_value column.Group = codes " has no whole number from 0 to 1000000000 in column "
no_value column.Whole = codes " has no whole number from 0 to 1000000000 in column "
no_value column.Frozen = codes " has no true, false or whole number from 0 to 1000000000 in column "

-- the message for a graph's fault
abbrev pub graph_note : Columns → GraphFault → List (List ℕ)
graph_note columns graph.NotJson = codes "not JSON" ∷ []
graph_note columns (graph.BadShape p) = codes "bad shape of " ∷ part_name p ∷ []
graph_note columns graph.Directed = codes "directed" ∷ []
graph_note columns (graph.LengthsDiffer nodes lists) = decimal nodes ∷ codes " nodes and " ∷ decimal lists ∷ codes " adjacency entries" ∷ []
graph_note columns (graph.TooManyUnits n) = decimal n ∷ codes " units, more than 100000" ∷ []
graph_note columns (graph.BadId i) = codes "node " ∷ decimal i ∷ codes " has no usable id" ∷ []
graph_note columns (graph.SameId i j) = codes "nodes " ∷ decimal i ∷ codes " and " ∷ decimal j ∷ codes " have the same id" ∷ []
graph_note columns (graph.BadNeighbour i j) = codes "neighbour " ∷ decimal j ∷ codes " of node " ∷ decimal i ∷ codes " has no usable id" ∷ []
graph_note columns (graph.UnknownNeighbour i j) = codes "neighbour " ∷ decimal j ∷ codes " of node " ∷ decimal i ∷ codes " is unknown" ∷ []
graph_note columns (graph.TooManyEdges n) = decimal n ∷ codes " edges, more than 400000" ∷ []
graph_note columns (graph.Missing i c) = codes "node " ∷ decimal i ∷ codes " has no column " ∷ column_name columns c ∷ []
graph_note columns (graph.BadNumber i c) = codes "node " ∷ decimal i ∷ no_value c ∷ column_name columns c ∷ []
graph_note columns (graph.BadLabel i) = codes "node " ∷ decimal i ∷ codes " has no usable label" ∷ []
graph_note columns (graph.DistrictCount n) = decimal n ∷ codes " districts, not 2 to 200" ∷ []
graph_note columns (graph.MissingLength i j) = codes "neighbour " ∷ decimal j ∷ codes " of node " ∷ decimal i ∷ codes " has no attribute " ∷ columns.length ∷ []
graph_note columns (graph.BadLength i j) =
    codes "neighbour " ∷ decimal j ∷ codes " of node " ∷ decimal i ∷ codes " has no whole number from 0 to 4294967295 in attribute " ∷ columns.length ∷ []
graph_note columns (graph.UnequalLengths i j) =
    codes "neighbour " ∷ decimal j ∷ codes " of node " ∷ decimal i ∷ codes " has another number in attribute " ∷ columns.length ∷ codes " than the same edge before" ∷ []
graph_note columns graph.Memory = codes "memory" ∷ []

-- the message for a fault of the regions
abbrev pub region_note : List ℕ → RegionFault → List (List ℕ)
region_note column (region.Missing i) = codes "node " ∷ decimal i ∷ codes " has no column " ∷ column ∷ []
region_note column (region.BadLabel i) = codes "node " ∷ decimal i ∷ codes " has no usable label in column " ∷ column ∷ []
region_note column (region.TooMany n) = decimal n ∷ codes " regions, more than 5000" ∷ []
region_note column region.Memory = codes "memory" ∷ []

-- the message for a table's fault
abbrev pub table_note : TableFault → List (List ℕ)
table_note (table.Unreadable r) = codes "record " ∷ decimal r ∷ codes " is unreadable" ∷ []
table_note table.NoHeader = codes "no header" ∷ []
table_note (table.TooManyPlans n) = decimal n ∷ codes " plans, more than 4096" ∷ []
table_note (table.BadName i) = codes "plan " ∷ decimal i ∷ codes " has no usable name" ∷ []
table_note (table.SharedId i j) = codes "units " ∷ decimal i ∷ codes " and " ∷ decimal j ∷ codes " share an id" ∷ []
table_note (table.UnknownId r) = codes "record " ∷ decimal r ∷ codes " names no unit" ∷ []
table_note (table.Twice r) = codes "record " ∷ decimal r ∷ codes " repeats a unit" ∷ []
table_note (table.MissingUnit u) = codes "unit " ∷ decimal u ∷ codes " is missing" ∷ []
table_note (table.DistrictCount i n) = codes "plan " ∷ decimal i ∷ codes " has " ∷ decimal n ∷ codes " districts, not 2 to 200" ∷ []
table_note table.Memory = codes "memory" ∷ []

-- the start of the message about a group's majorities, by the required share
abbrev pub majority_text : ℕ → List (List ℕ)
majority_text share =
    cond (share == 5000) (codes "the group has a majority in " ∷ []) (codes "the group has more than " ∷ decimal share ∷ codes " of 10000 in " ∷ [])

-- the message for a plan's fault
abbrev pub plan_note : PlanFault → List (List ℕ)
plan_note plan.NoVotes = codes "no votes" ∷ []
plan_note (plan.OutOfBounds d population low high) = codes "district " ∷ decimal d ∷ codes " has population " ∷ decimal population ∷ codes ", outside " ∷ decimal low ∷ codes " to " ∷ decimal high ∷ []
plan_note (plan.Disconnected d one far) = codes "district " ∷ decimal d ∷ codes " has no path from unit " ∷ decimal one ∷ codes " to unit " ∷ decimal far ∷ []
plan_note (plan.TooManyCut cut most) = decimal cut ∷ codes " cut edges, more than " ∷ decimal most ∷ []
plan_note (plan.TooManySplit q districts most) = codes "region " ∷ decimal q ∷ codes " lies in " ∷ decimal districts ∷ codes " districts, more than " ∷ decimal most ∷ []
plan_note (plan.TooManySplits splits most) = decimal splits ∷ codes " splits of regions, more than " ∷ decimal most ∷ []
plan_note (plan.TooManySplitRegions regions most) = decimal regions ∷ codes " regions lie in more than one district, more than " ∷ decimal most ∷ []
plan_note (plan.TooFewMajorities districts least share) = majority_text share ++ decimal districts ∷ codes " districts, fewer than " ∷ decimal least ∷ []
plan_note (plan.TooLong total most) = codes "cut edges of total length " ∷ decimal total ∷ codes ", more than " ∷ decimal most ∷ []
plan_note plan.Memory = codes "memory" ∷ []

-- the reason why a slot is no checkpoint, in a word or two
abbrev pub fault_name : CkptFault → List ℕ
fault_name (ckpt.TooLong n) = codes "too long"
fault_name (ckpt.TooShort n) = codes "too short"
fault_name ckpt.BadMagic = codes "bad magic"
fault_name (ckpt.BadVersion n) = codes "bad version"
fault_name (ckpt.BadGeneration n) = codes "bad generation"
fault_name (ckpt.BadCount n m) = codes "bad count"
fault_name (ckpt.BadOrder n) = codes "bad order"
fault_name (ckpt.BadDigest found computed) = codes "bad digest"
fault_name (ckpt.Unfit n) = codes "unfit"
fault_name ckpt.Memory = codes "memory"

-- a slot of a keeper that holds nothing valid
abbrev pub slot_name : Slot → List ℕ
slot_name absent = codes "absent"
slot_name (broken f) = fault_name f
slot_name (other digest generation) = []
slot_name (ours generation outcomes) = []

-- the pieces of the whole line
abbrev pub note_pieces : Columns → Ending → List (List ℕ)
note_pieces columns (bad_words f) = codes "words: " ∷ word_note f
note_pieces columns too_many_bytes = codes "graph: more than 67108864 bytes" ∷ []
note_pieces columns (bad_graph f) = codes "graph: " ∷ graph_note columns f
note_pieces columns (bad_regions column f) = codes "graph: " ∷ region_note column f
note_pieces columns (bad_table f) = codes "table: " ∷ table_note f
note_pieces columns (bad_plan f) = codes "plan: " ∷ plan_note f
note_pieces columns (bad_plan_named name f) = codes "plan " ∷ name ∷ codes ": " ∷ plan_note f
note_pieces columns no_memory = codes "memory" ∷ []
note_pieces columns read_fault = codes "read fault" ∷ []
note_pieces columns write_fault = codes "write fault" ∷ []
note_pieces columns load_fault = codes "checkpoint load fault" ∷ []
note_pieces columns folder_taken = codes "checkpoint: another run holds the folder" ∷ []
note_pieces columns (stopped done all) = codes "stopped: " ∷ decimal done ∷ codes " of " ∷ decimal all ∷ codes " done" ∷ []
note_pieces columns (damaged first second) = codes "checkpoint: slot 0 " ∷ slot_name first ∷ codes ", slot 1 " ∷ slot_name second ∷ []
note_pieces columns (other_job found wanted) = codes "checkpoint: other job " ∷ encode_lower found ∷ codes ", this job " ∷ encode_lower wanted ∷ []
note_pieces columns save_fault = codes "checkpoint save fault" ∷ []

-- the pieces one after another, and a line feed
abbrev pub as_line : List (List ℕ) → List ℕ
as_line [] = 10 ∷ []
as_line (piece ∷ pieces) = piece ++ as_line pieces

-- the line
abbrev pub note : Columns → Ending → List ℕ
note columns ending = as_line (note_pieces columns ending)
