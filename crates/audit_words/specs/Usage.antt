-- The usage of the auditor and of each of its commands.
-- The wording is this project's own.
use Rattle.std.specs.Prelude.{ℕ, List, [], ◌∷◌, ◌++◌, codes, flat_map, map}
use Rattle.audit_model.specs.declared.setting.Command.{Command}
use Rattle.audit_model.specs.declared.setting.Command.TheVariants.{Check, Run, Make, Plans, Trace}
use Rattle.audit_statement.specs.Words.{names_of}
use Rattle.audit_words.specs.Arguments.{argument_text, padded}

-- the spelling of a command
abbrev pub command_text : Command → List ℕ
command_text Check = codes "check"
command_text Run = codes "run"
command_text Make = codes "make"
command_text Plans = codes "plans"
command_text Trace = codes "trace"

-- the description of a command
abbrev pub description_of : Command → List ℕ
description_of Check = codes "checks that the plan of a graph is legal, and walks nothing"
description_of Run = codes "walks from the plan of a graph, and reports the outlier tests"
description_of Make = codes "does what run does on a grid that it makes; reads nothing"
description_of Plans = codes "reports on the plan of a graph and on those of a table behind it"
description_of Trace = codes "writes the plans of a run's trajectories at every N-th step"

-- the line of a command: its spelling and its description
abbrev pub command_line : Command → List ℕ
command_line command = codes "  " ++ padded 7 (command_text command) ++ description_of command

-- the usage of the program, line by line
abbrev pub usage_lines : List (List ℕ)
usage_lines =
    codes "usage: district-audit COMMAND NAME VALUE .."
    ∷ codes "       district-audit COMMAND --help"
    ∷ codes "       district-audit --help"
    ∷ codes "       district-audit --version"
    ∷ []
    ∷ codes "commands, whose --help tells the names and values that each takes:"
    ∷ command_line Check
    ∷ command_line Run
    ∷ command_line Make
    ∷ command_line Plans
    ∷ command_line Trace
    ∷ []
    ∷ codes "The graph is read from standard input. The text goes to standard output, and a"
    ∷ codes "line that says why the status is not 0 to standard error. Statuses:"
    ∷ codes "  0  done"
    ∷ codes "  1  the arguments are refused"
    ∷ codes "  2  the graph, the table or a plan is refused"
    ∷ codes "  3  out of memory"
    ∷ codes "  4  a read failed"
    ∷ codes "  5  a write failed"
    ∷ codes "  6  a checkpoint could not be loaded"
    ∷ codes "  7  stopped: trajectories are left to another run"
    ∷ codes "  8  no run can go on from these checkpoints"
    ∷ codes "  9  a checkpoint could not be saved"
    ∷ []

-- the scores and tails of a test
abbrev pub test_lines : List (List ℕ)
test_lines = [] ∷ codes "SCORE is seats, mean-median, gap, cut-edges or, with --length, cut-length; TAIL is low or high." ∷ []

-- the same for a grid that the program makes, whose edges have no lengths
abbrev pub grid_test_lines : List (List ℕ)
grid_test_lines = [] ∷ codes "SCORE is seats, mean-median, gap or cut-edges; TAIL is low or high." ∷ []

-- the lines before the arguments of a command
abbrev pub head_of : Command → List (List ℕ)
head_of command = (codes "usage: district-audit " ++ command_text command ++ codes " NAME VALUE ..") ∷ description_of command ∷ [] ∷ []

-- the lines after the arguments of a command: the syntax of a test
abbrev pub foot_of : Command → List (List ℕ)
foot_of Check = []
foot_of Run = test_lines
foot_of Make = grid_test_lines
foot_of Plans = test_lines
foot_of Trace = test_lines

-- the usage of a command, line by line, with one line for each of its arguments
abbrev pub command_lines : Command → List (List ℕ)
command_lines command = head_of command ++ map argument_text (names_of command) ++ foot_of command

-- ---- as texts

-- each text on its own line
abbrev pub on_lines : List (List ℕ) → List ℕ
on_lines texts = flat_map (λ text. text ++ 10 ∷ []) texts
