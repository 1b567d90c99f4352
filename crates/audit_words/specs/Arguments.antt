-- The line of an argument in the usage of a command: its name, its values, its default and its purpose.
-- The wording is this project's own. Names, defaults and limits are those by which arguments are parsed.
use Rattle.std.specs.Prelude.{ℕ, ◌-◌, List, [], ◌∷◌, ◌++◌, length, replicate, codes, decimal, Option, Some, None}
use Rattle.audit_model.specs.declared.fault.Name.{Name}
use Rattle.audit_model.specs.declared.fault.Name.TheVariants.{Pop, First, Second, District, Size, Slack, Key, Walks, Steps, Ends, HubSteps, Ask, Workers, Budget, Save, Resume, MaxCut, Shift, Stop, Serial, Region, MaxSplit, Parts, Part, MaxSplits, MaxSplitRegions, Group, GroupOf, GroupDistricts, Source, Ids, Thin, GroupShare, Freeze, Length, MaxLength, Pairs, CutWeight, Blind}
use Rattle.audit_model.specs.Limits.{most_trajectories, most_districts, most_regions, most_splits, most_steps, most_workers, most_edges, most_length}
use Rattle.audit_model.specs.Names.{name_text}
use Rattle.audit_statement.specs.Words.{default_of}

-- the kinds of values
pub data Kind : Type 0 where
  column : Kind
  between : ℕ → ℕ → Kind
  answer : Kind
  digits : Kind
  tests : Kind
  ids : Kind
  quarters : Kind

-- the kind of value that an argument takes
abbrev pub kind_of : Name → Kind
kind_of Pop = column
kind_of First = column
kind_of Second = column
kind_of District = column
kind_of Size = between 1 30
kind_of Slack = between 0 10000
kind_of Key = digits
kind_of Walks = between 0 most_trajectories
kind_of Steps = between 1 most_steps
kind_of Ends = between 0 most_trajectories
kind_of HubSteps = between 1 most_steps
kind_of Ask = tests
kind_of Workers = between 1 most_workers
kind_of Budget = between 0 most_trajectories
kind_of Save = between 0 most_trajectories
kind_of Resume = answer
kind_of MaxCut = between 0 most_edges
kind_of Shift = answer
kind_of Stop = between 0 most_trajectories
kind_of Serial = answer
kind_of Region = column
kind_of MaxSplit = between 1 most_districts
kind_of Parts = between 1 most_trajectories
kind_of Part = between 0 most_trajectories
kind_of MaxSplits = between 0 most_splits
kind_of MaxSplitRegions = between 0 most_regions
kind_of Group = column
kind_of GroupOf = column
kind_of GroupDistricts = between 0 most_districts
kind_of Source = answer
kind_of Ids = ids
kind_of Thin = between 1 most_steps
kind_of GroupShare = between 0 10000
kind_of Freeze = column
kind_of Length = column
kind_of MaxLength = between 0 most_length
kind_of Pairs = answer
kind_of CutWeight = quarters
kind_of Blind = answer

-- the purpose of each argument
abbrev pub purpose_of : Name → List ℕ
purpose_of Pop = codes "the column of populations"
purpose_of First = codes "the column of the first party's votes"
purpose_of Second = codes "the column of the second party's votes"
purpose_of District = codes "the column of districts: the plan"
purpose_of Size = codes "the size of the grid"
purpose_of Slack = codes "population slack, in hundredths of a percent"
purpose_of Key = codes "the key of all draws"
purpose_of Walks = codes "outlier trajectories"
purpose_of Steps = codes "steps of an outlier trajectory"
purpose_of Ends = codes "trajectories of the parallel test"
purpose_of HubSteps = codes "steps to the hub, and from it to an end"
purpose_of Ask = codes "1 to 4 tests, joined by commas"
purpose_of Workers = codes "threads that walk"
purpose_of Budget = codes "most trajectories that this run walks"
purpose_of Save = codes "trajectories between checkpoints; 0: none"
purpose_of Resume = codes "go on from the newest checkpoint"
purpose_of MaxCut = codes "most cut edges of a plan"
purpose_of Shift = codes "report how the visited plans' seats differ"
purpose_of Stop = codes "ends in the tail that stop a test; 0: never"
purpose_of Serial = codes "make the serial test too"
purpose_of Region = codes "the column of regions, as counties"
purpose_of MaxSplit = codes "most districts of a region"
purpose_of Parts = codes "parts into which trajectories are dealt"
purpose_of Part = codes "the part that this run walks"
purpose_of MaxSplits = codes "most splits of regions in all"
purpose_of MaxSplitRegions = codes "most regions in more than one district"
purpose_of Group = codes "the column of a group of people"
purpose_of GroupOf = codes "the column of the group's whole"
purpose_of GroupDistricts = codes "least districts where it is a majority"
purpose_of Source = codes "report the SHA-256 of what was read"
purpose_of Ids = codes "the trajectories that are shown"
purpose_of Thin = codes "steps between two plans that are shown"
purpose_of GroupShare = codes "share above which it is, in 1/100 percent"
purpose_of Freeze = codes "the column of units that stay where they are"
purpose_of Length = codes "the column of the edges' lengths"
purpose_of MaxLength = codes "most total length of cut edges"
purpose_of Pairs = codes "report the test by pairs of walks too"
purpose_of CutWeight = codes "weight of a cut edge, in 64ths by .25; 64: none"
purpose_of Blind = codes "report the moves of each walk, and no score"

-- the text for the values of a kind
abbrev pub values_text : Kind → List ℕ
values_text column = codes "COLUMN"
values_text (between low high) = decimal low ++ codes " to " ++ decimal high
values_text answer = codes "yes or no"
values_text digits = codes "64 hex digits"
values_text tests = codes "SCORE:TAIL,.."
values_text ids = codes "ID or ID-ID"
values_text quarters = codes "1 to 64"

-- the text for a default value; an argument without a default is required
abbrev pub default_text : Option (List ℕ) → List ℕ
default_text None = codes "required"
default_text (Some []) = codes "default none"
default_text (Some (c ∷ text)) = codes "default " ++ c ∷ text

-- a text, padded with spaces to this width, with one at least
abbrev pub padded : ℕ → List ℕ → List ℕ
padded width text = text ++ 32 ∷ replicate (width - 1 - length text) 32

-- the line of an argument, without its line feed
abbrev pub argument_text : Name → List ℕ
argument_text name =
    codes "  " ++ padded 20 (name_text name) ++ padded 16 (values_text (kind_of name)) ++ padded 15 (default_text (default_of name)) ++ purpose_of name
