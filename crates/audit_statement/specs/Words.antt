-- The setting that the arguments give, or their first fault. This project's grammar. The definition looks at the whole
-- list; the code reads from left to right.
use Rattle.std.specs.Prelude.{ℕ, zero, suc, ◌+◌, ◌-◌, ◌*◌, ◌/◌, ◌%◌, ◌==◌, ◌&&◌, ◌||◌, Bool, true, false, not, cond, nat_le, nat_lt, List, [], ◌∷◌, ◌++◌, length, find, fold, replicate, codes, decimal, bytes_eq, Option, Some, None, is_some, is_none, unwrap_or, option_map, option_and_then, Result, Ok, Err}
use Rattle.std.specs.Result.{result_ok}
use Rattle.std.specs.List.{list_any, slice_index_or, before_first, after_first}
use Rattle.std.specs.Option.{option_or}
use Rattle.hex.specs.Hex.{decode_sized}
use Rattle.audit_model.specs.declared.fault.Name.{Name}
use Rattle.audit_model.specs.declared.fault.Name.TheVariants.{Pop, First, Second, District, Size, Slack, Key, Walks, Steps, Ends, HubSteps, Ask, Workers, Budget, Save, Resume, MaxCut, Shift, Stop, Serial, Region, MaxSplit, Parts, Part, MaxSplits, MaxSplitRegions, Group, GroupOf, GroupDistricts, Source, Ids, Thin, GroupShare, Freeze, Length, MaxLength, Pairs, CutWeight, Blind}
use Rattle.audit_model.specs.declared.fault.WordFault.{WordFault}
use Rattle.audit_model.specs.declared.fault.WordFault.TheVariants.{NoCommand, UnknownCommand, UnknownName, Twice, NoValue, MissingName, BadValue, PairsNeedTwoWalks}
use Rattle.audit_model.specs.declared.setting.Ask.{Ask as AskOf}
use Rattle.audit_model.specs.declared.setting.Columns.{Columns}
use Rattle.audit_model.specs.declared.setting.Command.{Command}
use Rattle.audit_model.specs.declared.setting.Command.TheVariants.{Check, Run, Make, Plans, Trace}
use Rattle.audit_model.specs.declared.setting.Score.TheVariants.{Seats, MeanMedian, Gap, CutEdges, CutLength}
use Rattle.audit_model.specs.declared.setting.Setting.{Setting}
use Rattle.audit_model.specs.declared.setting.Tail.TheVariants.{Low, High}
use Rattle.audit_model.specs.Below.{any_below}
use Rattle.audit_model.specs.First.{first_below, first_some, first_some_below}
use Rattle.audit_model.specs.Graph.{has}
use Rattle.audit_model.specs.Names.{name_text}
use Rattle.audit_model.specs.Power.{is_power_of_two}
use Rattle.audit_statement.specs.Names.{score_name, tail_name}
use Rattle.audit_model.specs.Limits.{most_trajectories, most_districts, most_regions, most_splits, most_steps, most_workers, most_edges, most_length}

-- ---- the table of options

-- the options that a command takes, in the order of the table
abbrev pub names_of : Command → List Name
names_of Check =
    Pop ∷ First ∷ Second ∷ District ∷ Slack ∷ MaxCut ∷ Region ∷ MaxSplit
    ∷ MaxSplits ∷ MaxSplitRegions ∷ Group ∷ GroupOf ∷ GroupDistricts ∷ Source ∷ GroupShare ∷ Freeze ∷ Length ∷ MaxLength ∷ CutWeight ∷ []
names_of Run =
    Pop ∷ First ∷ Second ∷ District ∷ Slack ∷ Key ∷ Walks ∷ Steps ∷ Ends ∷ HubSteps ∷ Ask ∷ Workers ∷ Budget ∷ Save ∷ Resume ∷ MaxCut ∷ Shift ∷ Stop ∷ Serial ∷ Region ∷ MaxSplit ∷ Parts ∷ Part
    ∷ MaxSplits ∷ MaxSplitRegions ∷ Group ∷ GroupOf ∷ GroupDistricts ∷ Source ∷ GroupShare ∷ Freeze ∷ Length ∷ MaxLength ∷ Pairs ∷ CutWeight ∷ Blind ∷ []
names_of Make =
    Size ∷ Slack ∷ Key ∷ Walks ∷ Steps ∷ Ends ∷ HubSteps ∷ Ask ∷ Workers ∷ Budget ∷ Save ∷ Resume ∷ MaxCut ∷ Shift ∷ Stop ∷ Serial ∷ Parts ∷ Part
    ∷ Pairs ∷ CutWeight ∷ Blind ∷ []
names_of Plans =
    Pop ∷ First ∷ Second ∷ District ∷ Slack ∷ Key ∷ Walks ∷ Steps ∷ Ends ∷ HubSteps ∷ Ask ∷ Workers ∷ MaxCut ∷ Shift ∷ Stop ∷ Serial ∷ Region ∷ MaxSplit
    ∷ MaxSplits ∷ MaxSplitRegions ∷ Group ∷ GroupOf ∷ GroupDistricts ∷ Source ∷ GroupShare ∷ Freeze ∷ Length ∷ MaxLength ∷ Pairs ∷ CutWeight ∷ []
names_of Trace =
    Pop ∷ First ∷ Second ∷ District ∷ Slack ∷ Key ∷ Walks ∷ Steps ∷ Ends ∷ HubSteps ∷ Ask ∷ MaxCut ∷ Region ∷ MaxSplit
    ∷ MaxSplits ∷ MaxSplitRegions ∷ Group ∷ GroupOf ∷ GroupDistricts ∷ Source ∷ Ids ∷ Thin ∷ GroupShare ∷ Freeze ∷ Length ∷ MaxLength ∷ CutWeight ∷ []

-- the default of an option, if it may be left out
abbrev pub default_of : Name → Option (List ℕ)
default_of Pop = None
default_of First = None
default_of Second = None
default_of District = None
default_of Size = None
default_of Slack = Some (codes "500")
default_of Key = None
default_of Walks = Some (codes "1")
default_of Steps = Some (codes "1000")
default_of Ends = Some (codes "0")
default_of HubSteps = Some (codes "1000")
default_of Ask = None
default_of Workers = Some (codes "1")
default_of Budget = Some (codes "100000")
default_of Save = Some (codes "0")
default_of Resume = Some (codes "no")
default_of MaxCut = Some (codes "400000")
default_of Shift = Some (codes "no")
default_of Stop = Some (codes "0")
default_of Serial = Some (codes "no")
default_of Region = Some []
default_of MaxSplit = Some (codes "200")
default_of Parts = Some (codes "1")
default_of Part = Some (codes "0")
default_of MaxSplits = Some (codes "995000")
default_of MaxSplitRegions = Some (codes "5000")
default_of Group = Some []
default_of GroupOf = Some []
default_of GroupDistricts = Some (codes "0")
default_of Source = Some (codes "no")
default_of Ids = Some (codes "0")
default_of Thin = Some (codes "1000")
default_of GroupShare = Some (codes "5000")
default_of Freeze = Some []
default_of Length = Some []
default_of MaxLength = Some (codes "1717986918000000")
default_of Pairs = Some (codes "no")
default_of CutWeight = Some (codes "64")
default_of Blind = Some (codes "no")

-- ---- values

-- the number that a text of digits represents
abbrev pub digits_value : List ℕ → ℕ
digits_value text = fold (λ n c. 10 * n + (c - 48)) 0 text

-- a number as it is printed: digits with no sign and no leading zero
abbrev pub number_of : List ℕ → Option ℕ
number_of text = cond (bytes_eq (decimal (digits_value text)) text) (Some (digits_value text)) None

-- the text is a number within these bounds
abbrev pub is_number : ℕ → ℕ → List ℕ → Bool
is_number low high text = unwrap_or (option_map (λ n. nat_le low n && nat_le n high) (number_of text)) false

-- the digits behind the point of a number of quarters, if it is no whole number
abbrev pub quarter_digits : ℕ → List ℕ
quarter_digits zero = []
quarter_digits (suc zero) = codes ".25"
quarter_digits (suc (suc zero)) = codes ".5"
quarter_digits (suc (suc (suc n))) = codes ".75"

-- a number of quarters as it is printed: a whole number, and what is left of it behind a point
abbrev pub quarters : ℕ → List ℕ
quarters q = decimal (q / 4) ++ quarter_digits (q % 4)

-- the quarters, from 4 to 256, that a text spells as a weight on cut edges
abbrev pub weight_of : List ℕ → Option ℕ
weight_of text = first_below 257 (λ q. nat_le 4 q && bytes_eq (quarters q) text)

-- the text of the first id of a range: what stands before the first dash, or the whole text
abbrev pub first_of_range : List ℕ → List ℕ
first_of_range text = before_first (λ c. c == 45) text

-- the text of the last id of a range: what stands after the first dash, or the whole text if it has none
abbrev pub last_of_range : List ℕ → List ℕ
last_of_range text = cond (has text 45) (after_first (λ c. c == 45) text) text

-- the first of these parts with a byte before it
abbrev pub starts_with_byte : ℕ → List (List ℕ) → List (List ℕ)
starts_with_byte c [] = (c ∷ []) ∷ []
starts_with_byte c (part ∷ parts) = (c ∷ part) ∷ parts

-- the parts of a text between separators
abbrev pub parts_between : ℕ → List ℕ → List (List ℕ)
parts_between separator [] = [] ∷ []
parts_between separator (c ∷ rest) = cond (c == separator) ([] ∷ parts_between separator rest) (starts_with_byte c (parts_between separator rest))

-- every ask
abbrev pub all_asks : List AskOf
all_asks =
    record { score = Seats; tail = Low } ∷ record { score = Seats; tail = High }
    ∷ record { score = MeanMedian; tail = Low } ∷ record { score = MeanMedian; tail = High }
    ∷ record { score = Gap; tail = Low } ∷ record { score = Gap; tail = High }
    ∷ record { score = CutEdges; tail = Low } ∷ record { score = CutEdges; tail = High }
    ∷ record { score = CutLength; tail = Low } ∷ record { score = CutLength; tail = High } ∷ []

-- the spelling of an ask
abbrev pub ask_text : AskOf → List ℕ
ask_text ask = score_name ask.score ++ codes ":" ++ tail_name ask.tail

-- the ask that a text spells
abbrev pub ask_of : List ℕ → Option AskOf
ask_of text = find (λ ask. bytes_eq (ask_text ask) text) all_asks

-- one more ask, if all parts so far spell asks
abbrev pub with_ask : Option AskOf → Option (List AskOf) → Option (List AskOf)
with_ask None asks = None
with_ask (Some ask) None = None
with_ask (Some ask) (Some asks) = Some (ask ∷ asks)

-- the asks that these parts spell, if each does
abbrev pub asks_of : List (List ℕ) → Option (List AskOf)
asks_of [] = Some []
asks_of (part ∷ parts) = with_ask (ask_of part) (asks_of parts)

-- no two parts are equal
abbrev pub all_different : List (List ℕ) → Bool
all_different [] = true
all_different (part ∷ parts) = not (list_any (λ other. bytes_eq other part) parts) && all_different parts

-- the text has at most four asks between commas, all distinct
abbrev pub are_asks : List ℕ → Bool
are_asks text = is_some (asks_of (parts_between 44 text)) && nat_le (length (parts_between 44 text)) 4 && all_different (parts_between 44 text)

-- a part of the text asks for the length of the cut edges
abbrev pub asks_for_length : List ℕ → Bool
asks_for_length text =
    list_any (λ part. bytes_eq part (codes "cut-length:low")) (parts_between 44 text)
    || list_any (λ part. bytes_eq part (codes "cut-length:high")) (parts_between 44 text)

-- ---- pairs of an option and a value

-- an option, and its value if one follows
abbrev pub NameAndValue : Type 0
NameAndValue = List ℕ × Option (List ℕ)

-- the arguments as such pairs
abbrev pub pairs : List (List ℕ) → List NameAndValue
pairs [] = []
pairs (name ∷ []) = (name, None) ∷ []
pairs (name ∷ value ∷ rest) = (name, Some value) ∷ pairs rest

-- the command that a word spells
abbrev pub command_of : List ℕ → Option Command
command_of word =
    cond (bytes_eq word (codes "check")) (Some Check)
    (cond (bytes_eq word (codes "run")) (Some Run)
    (cond (bytes_eq word (codes "make")) (Some Make)
    (cond (bytes_eq word (codes "plans")) (Some Plans) (cond (bytes_eq word (codes "trace")) (Some Trace) None))))

-- the name of the district column fits on one line of the report of several plans
abbrev pub is_one_line : Command → List ℕ → Bool
is_one_line Check text = true
is_one_line Run text = true
is_one_line Make text = true
is_one_line Plans text = not (has text 10)
is_one_line Trace text = true

-- the column of a group's base population: the one named, or else the population; none without a group
abbrev pub whole_column : List ℕ → List ℕ → List ℕ → List ℕ
whole_column [] named population = []
whole_column (c ∷ group) [] population = population
whole_column (c ∷ group) (d ∷ named) population = d ∷ named

module _ (command : Command) (words : List NameAndValue) where
  -- the pair at a place
  abbrev pub word_pair : ℕ → NameAndValue
  word_pair k = slice_index_or words k ([], None)

  -- the option that a word spells
  abbrev pub name_of : List ℕ → Option Name
  name_of word = find (λ name. bytes_eq (name_text name) word) (names_of command)

  -- the word stood in an earlier pair
  abbrev pub is_repeated : ℕ → Bool
  is_repeated k = any_below k (λ j. bytes_eq (word_pair j).0 (word_pair k).0)

  -- the fault of a pair, by the option that its word spells
  abbrev pub known_fault : ℕ → Option Name → Option WordFault
  known_fault k None = Some (UnknownName (word_pair k).0)
  known_fault k (Some name) = cond (is_repeated k) (Some (Twice name)) (cond (is_none (word_pair k).1) (Some (NoValue name)) None)

  -- the fault of the pair at a place
  abbrev pub pair_fault : ℕ → Option WordFault
  pair_fault k = known_fault k (name_of (word_pair k).0)

  -- the value that the arguments give an option
  abbrev pub given : Name → Option (List ℕ)
  given name = option_and_then (λ pair. pair.1) (find (λ pair. bytes_eq pair.0 (name_text name)) words)

  -- the given value, or the default
  abbrev pub given_or_default : Name → Option (List ℕ)
  given_or_default name = option_or (given name) (default_of name)

  -- the value as a text
  abbrev pub text_of : Name → List ℕ
  text_of name = unwrap_or (given_or_default name) []

  -- the number that it spells
  abbrev pub number_named : Name → ℕ
  number_named name = unwrap_or (number_of (text_of name)) 0

  -- there is at least one trajectory, and there are not too many
  abbrev pub has_walks : Bool
  has_walks = nat_le 1 (number_named Walks + number_named Ends) && nat_le (number_named Walks + number_named Ends) most_trajectories

  -- a run that saves nothing has the budget for all of them
  abbrev pub covers_walks : Bool
  covers_walks = not (is_number 0 0 (text_of Save)) || nat_le (number_named Walks + number_named Ends) (number_named Budget)

  -- the value is `yes`
  abbrev pub is_yes : Name → Bool
  is_yes name = bytes_eq (text_of name) (codes "yes")

  -- the value is `yes` or `no`
  abbrev pub is_yes_or_no : Name → Bool
  is_yes_or_no name = is_yes name || bytes_eq (text_of name) (codes "no")

  -- tests that stop early have endpoint trajectories, and the run neither saves nor resumes
  abbrev pub stops_alone : Bool
  stops_alone = (number_named Stop == 0) || (nat_le 1 (number_named Ends) && (number_named Save == 0) && not (is_yes Resume))

  -- the serial test needs a number of plans that divides the draws evenly
  abbrev pub divides_draws : Bool
  divides_draws = not (is_yes Serial) || is_power_of_two (number_named Steps + 1)

  -- the value of an option is empty, as that of a column that is not named
  abbrev pub is_empty : Name → Bool
  is_empty name = length (text_of name) == 0

  -- a limit on districts per region needs regions
  abbrev pub has_split : Bool
  has_split = (number_named MaxSplit == most_districts) || not (is_empty Region)

  -- a limit on splits in all needs regions
  abbrev pub has_splits : Bool
  has_splits = (number_named MaxSplits == most_splits) || not (is_empty Region)

  -- a limit on split regions needs regions
  abbrev pub has_split_regions : Bool
  has_split_regions = (number_named MaxSplitRegions == most_regions) || not (is_empty Region)

  -- a base population needs a group
  abbrev pub has_group_of : Bool
  has_group_of = is_empty GroupOf || not (is_empty Group)

  -- required majorities need a group
  abbrev pub has_majority_group : Bool
  has_majority_group = (number_named GroupDistricts == 0) || not (is_empty Group)

  -- a share of a group is given only with a group
  abbrev pub has_share_group : Bool
  has_share_group = (number_named GroupShare == 5000) || not (is_empty Group)

  -- a limit on the length of the cut edges needs lengths
  abbrev pub has_length : Bool
  has_length = (number_named MaxLength == most_length) || not (is_empty Length)

  -- an ask for the length of the cut edges needs lengths
  abbrev pub has_asked_length : Bool
  has_asked_length = not (asks_for_length (text_of Ask)) || not (is_empty Length)

  -- a run of one of several parts saves
  abbrev pub saves_parts : Bool
  saves_parts = (number_named Parts == 1) || nat_le 1 (number_named Save)

  -- a run whose text has no score neither saves nor resumes
  abbrev pub is_blind_alone : Bool
  is_blind_alone = not (is_yes Blind) || (is_number 0 0 (text_of Save) && not (is_yes Resume))

  -- lines of pairs need two walks
  abbrev pub has_pairs : Bool
  has_pairs = not (is_yes Pairs) || is_number 2 most_trajectories (text_of Walks)

  -- the first id of the range that a trace shows
  abbrev pub first_id : ℕ
  first_id = unwrap_or (number_of (first_of_range (text_of Ids))) 0

  -- the last id of that range
  abbrev pub last_id : ℕ
  last_id = unwrap_or (number_of (last_of_range (text_of Ids))) 0

  -- both are numbers, the first is not above the last, and the last is the id of a trajectory
  abbrev pub has_ids : Bool
  has_ids =
      is_number 0 most_trajectories (first_of_range (text_of Ids)) && is_number 0 most_trajectories (last_of_range (text_of Ids))
      && nat_le first_id last_id && nat_lt last_id (number_named Walks + number_named Ends)

  -- the value of an option is one that it may have
  abbrev pub is_good : Name → Bool
  is_good Pop = true
  is_good First = true
  is_good Second = true
  is_good District = is_one_line command (text_of District)
  is_good Size = is_number 1 30 (text_of Size)
  is_good Slack = is_number 0 10000 (text_of Slack)
  is_good Key = is_some (result_ok (decode_sized (text_of Key) 32))
  is_good Walks = is_number 0 most_trajectories (text_of Walks)
  is_good Steps = is_number 1 most_steps (text_of Steps)
  is_good Ends = is_number 0 most_trajectories (text_of Ends) && has_walks
  is_good HubSteps = is_number 1 most_steps (text_of HubSteps)
  is_good Ask = are_asks (text_of Ask) && has_asked_length
  is_good Workers = is_number 1 most_workers (text_of Workers)
  is_good Budget = is_number 0 most_trajectories (text_of Budget) && covers_walks
  is_good Save = is_number 0 most_trajectories (text_of Save)
  is_good Resume = is_yes_or_no Resume
  is_good MaxCut = is_number 0 most_edges (text_of MaxCut)
  is_good Shift = is_yes_or_no Shift
  is_good Stop = is_number 0 most_trajectories (text_of Stop) && stops_alone
  is_good Serial = is_yes_or_no Serial && divides_draws
  is_good Region = true
  is_good MaxSplit = is_number 1 most_districts (text_of MaxSplit) && has_split
  is_good Parts = is_number 1 most_trajectories (text_of Parts) && saves_parts
  is_good Part = is_number 0 most_trajectories (text_of Part) && nat_lt (number_named Part) (number_named Parts)
  is_good MaxSplits = is_number 0 most_splits (text_of MaxSplits) && has_splits
  is_good MaxSplitRegions = is_number 0 most_regions (text_of MaxSplitRegions) && has_split_regions
  is_good Group = true
  is_good GroupOf = has_group_of
  is_good GroupDistricts = is_number 0 most_districts (text_of GroupDistricts) && has_majority_group
  is_good Source = is_yes_or_no Source
  is_good Ids = has_ids
  is_good Thin = is_number 1 most_steps (text_of Thin)
  is_good GroupShare = is_number 0 10000 (text_of GroupShare) && has_share_group
  is_good Freeze = true
  is_good Length = true
  is_good MaxLength = is_number 0 most_length (text_of MaxLength) && has_length
  is_good Pairs = is_yes_or_no Pairs
  is_good CutWeight = is_some (weight_of (text_of CutWeight))
  is_good Blind = is_yes_or_no Blind && is_blind_alone

  -- the first fault, in their order
  abbrev pub fault_of : Option WordFault
  fault_of = first_some (
      first_some_below (length words) pair_fault
      ∷ option_map MissingName (find (λ name. is_none (given_or_default name)) (names_of command))
      ∷ option_map BadValue (find (λ name. not (is_good name)) (names_of command))
      ∷ cond has_pairs None (Some PairsNeedTwoWalks)
      ∷ [])

  -- the columns that are named
  abbrev pub columns_named : Columns
  columns_named = record {
    population = text_of Pop;
    first = text_of First;
    second = text_of Second;
    district = text_of District;
    group = text_of Group;
    whole = whole_column (text_of Group) (text_of GroupOf) (text_of Pop);
    frozen = text_of Freeze;
    length = text_of Length;
  }

  -- the setting of a run with these values
  abbrev pub as_run : Setting
  as_run = record {
    command = command;
    columns = columns_named;
    slack = number_named Slack;
    key = unwrap_or (result_ok (decode_sized (text_of Key) 32)) [];
    walks = number_named Walks;
    steps = number_named Steps;
    ends = number_named Ends;
    hub_steps = number_named HubSteps;
    asks = unwrap_or (asks_of (parts_between 44 (text_of Ask))) [];
    workers = number_named Workers;
    budget = number_named Budget;
    save_every = number_named Save;
    resume = is_yes Resume;
    size = 0;
    max_cut = number_named MaxCut;
    shift = is_yes Shift;
    stop = number_named Stop;
    serial = is_yes Serial;
    region = text_of Region;
    max_split = number_named MaxSplit;
    parts = number_named Parts;
    part = number_named Part;
    max_splits = number_named MaxSplits;
    max_split_regions = number_named MaxSplitRegions;
    group_districts = number_named GroupDistricts;
    group_share = number_named GroupShare;
    source = is_yes Source;
    first_id = 0;
    last_id = 0;
    thin = 1;
    max_length = number_named MaxLength;
    cut_weight = unwrap_or (weight_of (text_of CutWeight)) 256;
    pairs = is_yes Pairs;
    blind = is_yes Blind;
  }

-- the setting, with the values that a command fixes
abbrev pub setting_for : Command → List NameAndValue → Setting
setting_for Check words = record {
  command = Check;
  columns = columns_named Check words;
  slack = number_named Check words Slack;
  key = replicate 32 0;
  walks = 0;
  steps = 0;
  ends = 0;
  hub_steps = 0;
  asks = [];
  workers = 1;
  budget = 0;
  save_every = 0;
  resume = false;
  size = 0;
  max_cut = number_named Check words MaxCut;
  shift = false;
  stop = 0;
  serial = false;
  region = text_of Check words Region;
  max_split = number_named Check words MaxSplit;
  parts = 1;
  part = 0;
  max_splits = number_named Check words MaxSplits;
  max_split_regions = number_named Check words MaxSplitRegions;
  group_districts = number_named Check words GroupDistricts;
  group_share = number_named Check words GroupShare;
  source = is_yes Check words Source;
  first_id = 0;
  last_id = 0;
  thin = 1;
  max_length = number_named Check words MaxLength;
  cut_weight = unwrap_or (weight_of (text_of Check words CutWeight)) 256;
  pairs = false;
  blind = false;
}
setting_for Run words = as_run Run words
setting_for Make words = record (as_run Make words) {
  columns = record {
    population = codes "pop";
    first = codes "a";
    second = codes "b";
    district = codes "district";
    group = [];
    whole = [];
    frozen = [];
    length = [];
  };
  size = number_named Make words Size;
  region = [];
  max_split = most_districts;
  max_splits = most_splits;
  max_split_regions = most_regions;
  group_districts = 0;
  group_share = 5000;
  source = false;
  max_length = most_length;
}
setting_for Plans words = as_run Plans words
setting_for Trace words = record (as_run Trace words) {
  first_id = first_id Trace words;
  last_id = last_id Trace words;
  thin = number_named Trace words Thin;
}

-- the setting, if there is no fault
abbrev pub setting_or : Command → List NameAndValue → Option WordFault → Result Setting WordFault
setting_or command words None = Ok (setting_for command words)
setting_or command words (Some fault) = Err fault

-- the setting for the command that the first word spells
abbrev pub of_command : List ℕ → List NameAndValue → Option Command → Result Setting WordFault
of_command word words None = Err (UnknownCommand word)
of_command word words (Some command) = setting_or command words (fault_of command words)

-- the setting, or the first fault
unfoldable pub setting_of : List (List ℕ) → Result Setting WordFault
setting_of [] = Err NoCommand
setting_of (word ∷ rest) = of_command word (pairs rest) (command_of word)
