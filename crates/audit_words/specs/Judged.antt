-- The faults of a command's arguments, and the values that the validity of another depends on.
use Rattle.std.specs.Prelude.{◌≡◌, true, not, cond, is_none, find, List, length, Option, Some, None, option_map}
use Rattle.audit_model.specs.First.{first_some_below}
use Rattle.audit_model.specs.declared.fault.Name.{Name}
use Rattle.audit_model.specs.declared.fault.Name.TheVariants.{Size, Slack, Key, Walks, Steps, Ends, HubSteps, Ask, Workers, Budget, Save, Resume, MaxCut, Shift, Stop, Serial, MaxSplit, Parts, Part, MaxSplits, MaxSplitRegions, GroupDistricts, GroupShare, Ids, Thin, MaxLength}
use Rattle.audit_model.specs.declared.fault.WordFault.{WordFault}
use Rattle.audit_model.specs.declared.fault.WordFault.TheVariants.{MissingName, BadValue, PairsNeedTwoWalks}
use Rattle.audit_model.specs.declared.setting.Command.{Command}
use Rattle.audit_model.specs.declared.setting.Command.TheVariants.{Check, Run, Make, Plans, Trace}
use Rattle.audit_statement.specs.Words.{NameAndValue, pair_fault, given_or_default, has_pairs, is_good, names_of}

-- the fault of the first pair that has one
abbrev pub fault_of_pairs : Command → List NameAndValue → Option WordFault
fault_of_pairs command words = first_some_below (length words) (pair_fault command words)

-- the first name that is missing
abbrev pub fault_of_names : Command → List NameAndValue → Option WordFault
fault_of_names command words = option_map MissingName (find (λ name. is_none (given_or_default command words name)) (names_of command))

-- the first name with an invalid value
abbrev pub fault_of_values : Command → List NameAndValue → Option WordFault
fault_of_values command words = option_map BadValue (find (λ name. not (is_good command words name)) (names_of command))

-- pairs of fewer than two walks
abbrev pub fault_of_walks : List NameAndValue → Option WordFault
fault_of_walks words = cond (has_pairs Check words) None (Some PairsNeedTwoWalks)

-- The values that the validity of this name depends on are valid. After an invalid one, the name is not tested.
abbrev pub DependenciesAreValid : List NameAndValue → Name → Type 0
DependenciesAreValid words Ends = is_good Check words Walks ≡ true
DependenciesAreValid words Budget = (is_good Check words Walks ≡ true) × (is_good Check words Ends ≡ true)
DependenciesAreValid words Stop = (is_good Check words Ends ≡ true) × (is_good Check words Save ≡ true)
DependenciesAreValid words Serial = is_good Check words Steps ≡ true
DependenciesAreValid words Parts = is_good Check words Save ≡ true
DependenciesAreValid words Part = is_good Check words Parts ≡ true
DependenciesAreValid words Ids = (is_good Check words Walks ≡ true) × (is_good Check words Ends ≡ true)
DependenciesAreValid words _ = Unit {0}

-- each value of a run on any graph, without the columns, is valid
pub record AreGood (words : List NameAndValue) : Type 0 where
  pub slack : is_good Check words Slack ≡ true
  pub key : is_good Check words Key ≡ true
  pub walks : is_good Check words Walks ≡ true
  pub steps : is_good Check words Steps ≡ true
  pub ends : is_good Check words Ends ≡ true
  pub hub_steps : is_good Check words HubSteps ≡ true
  pub ask : is_good Check words Ask ≡ true
  pub workers : is_good Check words Workers ≡ true
  pub budget : is_good Check words Budget ≡ true
  pub save : is_good Check words Save ≡ true
  pub resume : is_good Check words Resume ≡ true
  pub max_cut : is_good Check words MaxCut ≡ true
  pub shift : is_good Check words Shift ≡ true
  pub stop : is_good Check words Stop ≡ true
  pub serial : is_good Check words Serial ≡ true
  pub parts : is_good Check words Parts ≡ true
  pub part : is_good Check words Part ≡ true

-- each limit on regions, on a group and on lengths is valid
pub record AreGoodLimits (words : List NameAndValue) : Type 0 where
  pub max_split : is_good Check words MaxSplit ≡ true
  pub max_splits : is_good Check words MaxSplits ≡ true
  pub max_split_regions : is_good Check words MaxSplitRegions ≡ true
  pub group_districts : is_good Check words GroupDistricts ≡ true
  pub group_share : is_good Check words GroupShare ≡ true
  pub max_length : is_good Check words MaxLength ≡ true

-- the values from which the setting of a command is made are valid
abbrev pub AreReadable : Command → List NameAndValue → Type 0
AreReadable Check words = (is_good Check words Slack ≡ true) × (is_good Check words MaxCut ≡ true) × AreGoodLimits words
AreReadable Run words = AreGood words × AreGoodLimits words
AreReadable Make words = AreGood words × (is_good Make words Size ≡ true)
AreReadable Plans words = AreGood words × AreGoodLimits words
AreReadable Trace words = AreGood words × AreGoodLimits words × (is_good Check words Ids ≡ true) × (is_good Check words Thin ≡ true)
