-- Limits on a graph, its counts and regions, its start plan and a setting.
use Rattle.std.specs.Prelude.{◌≡◌, ◌≢◌, ◌⊎◌, ℕ, ◌+◌, ◌^◌, ◌<◌, ◌≤◌, true, List, [], length, slice_index}
use Rattle.std.specs.List.{All, AllPairs}
use Rattle.audit_model.specs.declared.outcome.Counts.{Counts}
use Rattle.audit_model.specs.declared.rules.Group.{Group}
use Rattle.audit_model.specs.declared.setting.Command.{Command}
use Rattle.audit_model.specs.declared.setting.Command.TheVariants.{Check, Run, Make, Plans, Trace}
use Rattle.audit_model.specs.declared.setting.Setting.{Setting}
use Rattle.audit_model.specs.Graph.{Graph, IsGraph, count_edges}
use Rattle.audit_model.specs.Job.{Job}
use Rattle.audit_model.specs.Length.{AreLengths}

-- the maximum number of units, edges, districts and regions of a graph
abbrev pub most_units : ℕ
most_units = 100000

abbrev pub most_edges : ℕ
most_edges = 400000

abbrev pub most_districts : ℕ
most_districts = 200

abbrev pub most_regions : ℕ
most_regions = 5000

-- the maximum number of splits in all, with each region in each district: 5,000 * 199
abbrev pub most_splits : ℕ
most_splits = 995000

-- the maximum population of a unit, and of a party's votes in it
abbrev pub most_people : ℕ
most_people = 10 ^ 9

-- the maximum number of trajectories, of steps of each, and of workers
abbrev pub most_trajectories : ℕ
most_trajectories = 100000

abbrev pub most_steps : ℕ
most_steps = 10 ^ 9

abbrev pub most_workers : ℕ
most_workers = 32

-- the maximum total length of the edges of a graph: each is below 2 ^ 32
abbrev pub most_length : ℕ
most_length = 1717986918000000

-- the maximum size of a saved checkpoint: 84 bytes, and 80 for each of 100,000 trajectories
abbrev pub most_saved_bytes : ℕ
most_saved_bytes = 8000084

-- one number per unit, each at most 10 ^ 9
pub record IsColumn (units : ℕ) (numbers : List ℕ) : Type 0 where
  pub width : length numbers ≡ units
  pub small : All (λ n. n ≤ most_people) numbers

-- at most 100,000 units, 400,000 edges and 200 districts, with counts and a district for each unit, and lengths for
-- each edge or for none
pub record AreWithin (graph : Graph) (counts : Counts) (start : List ℕ) (districts : ℕ) : Type 0 where
  pub simple : IsGraph graph
  pub units : graph.units ≤ most_units
  pub edges : count_edges graph (λ u v. true) ≤ most_edges
  pub two : 2 ≤ districts
  pub few : districts ≤ most_districts
  pub population : IsColumn graph.units counts.population
  pub first : IsColumn graph.units counts.first
  pub second : IsColumn graph.units counts.second
  pub complete : length start ≡ graph.units
  pub in_range : (u : ℕ) → u < graph.units → slice_index start u < districts
  pub lengths : AreLengths graph counts.lengths

-- the trajectories, asks and workers of a run are within their limits
pub record IsRunSetting (s : Setting) : Type 0 where
  pub some : 1 ≤ s.walks + s.ends
  pub few : s.walks + s.ends ≤ most_trajectories
  pub some_steps : 1 ≤ s.steps
  pub few_steps : s.steps ≤ most_steps
  pub some_hub_steps : 1 ≤ s.hub_steps
  pub few_hub_steps : s.hub_steps ≤ most_steps
  pub some_asks : 1 ≤ length s.asks
  pub few_asks : length s.asks ≤ 4
  pub apart : AllPairs (λ a b. a ≢ b) s.asks
  pub some_workers : 1 ≤ s.workers
  pub few_workers : s.workers ≤ most_workers

-- a check has no trajectories, asks, budget or saves
pub record IsCheckSetting (s : Setting) : Type 0 where
  pub no_walks : s.walks ≡ 0
  pub no_steps : s.steps ≡ 0
  pub no_ends : s.ends ≡ 0
  pub no_hub_steps : s.hub_steps ≡ 0
  pub no_asks : s.asks ≡ []
  pub no_budget : s.budget ≡ 0
  pub no_saves : s.save_every ≡ 0

-- a trace has the limits of a run, and a range of its trajectories, shown at every `thin`-th step
pub record IsTraceSetting (s : Setting) : Type 0 where
  pub run : IsRunSetting s
  pub in_order : s.first_id ≤ s.last_id
  pub within : s.last_id < s.walks + s.ends
  pub some_thin : 1 ≤ s.thin
  pub few_thin : s.thin ≤ most_steps

abbrev pub IsSettingOf : Command → Setting → Type 0
IsSettingOf Check s = IsCheckSetting s
IsSettingOf Run s = IsRunSetting s
IsSettingOf Make s = IsRunSetting s
IsSettingOf Plans s = IsRunSetting s
IsSettingOf Trace s = IsTraceSetting s

-- the part is one of the parts, and a run of one of several parts saves
pub record HasPart (s : Setting) : Type 0 where
  pub some : 1 ≤ s.parts
  pub few : s.parts ≤ most_trajectories
  pub one_of : s.part < s.parts
  pub saves : 2 ≤ s.parts → 1 ≤ s.save_every

-- a setting within its limits
pub record IsSetting (s : Setting) : Type 0 where
  pub slack : s.slack ≤ 10000
  pub key : length s.key ≡ 32
  pub max_cut : s.max_cut ≤ most_edges
  pub some_splits : 1 ≤ s.max_split
  pub few_splits : s.max_split ≤ most_districts
  pub few_in_all : s.max_splits ≤ most_splits
  pub few_split_regions : s.max_split_regions ≤ most_regions
  pub few_group_districts : s.group_districts ≤ most_districts
  pub few_shares : s.group_share ≤ 10000
  pub short : s.max_length ≤ most_length
  pub some_weight : 4 ≤ s.cut_weight
  pub most_weight : s.cut_weight ≤ 256
  pub part : HasPart s
  pub command : IsSettingOf s.command s

-- no regions, or one of at most 5,000 for each unit
pub record AreRegions (units : ℕ) (regions : List ℕ) : Type 0 where
  pub width : (regions ≡ []) ⊎ (length regions ≡ units)
  pub few : All (λ r. r < most_regions) regions

-- no group, or two numbers for each unit
abbrev pub IsGroup : ℕ → Group → Type 0
IsGroup units group = ((group.members ≡ []) × (group.whole ≡ [])) ⊎ (IsColumn units group.members × IsColumn units group.whole)

-- frozen has one number per unit or is empty
abbrev pub AreFrozen : ℕ → List ℕ → Type 0
AreFrozen units frozen = (frozen ≡ []) ⊎ (length frozen ≡ units)

-- all data of a job are within the limits
pub record IsWithinLimits (job : Job) : Type 0 where
  pub input : AreWithin job.graph job.counts job.start job.districts
  pub setting : IsSetting job.setting
  pub regions : AreRegions job.graph.units job.regions
  pub group : IsGroup job.graph.units job.group
  pub frozen : AreFrozen job.graph.units job.frozen
