-- Small jobs, for computed examples.
use Rattle.std.specs.Prelude.{ℕ, List, [], ◌∷◌, slice_index, replicate, true, false, pos, Some, None}
use Rattle.audit_model.specs.declared.outcome.Counts.{Counts}
use Rattle.audit_model.specs.declared.outcome.Outcome.{Outcome}
use Rattle.audit_model.specs.declared.rules.Group.{Group}
use Rattle.audit_model.specs.declared.rules.Rules.{Rules}
use Rattle.audit_model.specs.declared.setting.Ask.{Ask}
use Rattle.audit_model.specs.declared.setting.Columns.{Columns}
use Rattle.audit_model.specs.declared.setting.Command.TheVariants.{Run}
use Rattle.audit_model.specs.declared.setting.Setting.{Setting}
use Rattle.audit_model.specs.Graph.{Graph}
use Rattle.audit_model.specs.Job.{Job}
use Rattle.audit_model.specs.Trajectory.{empty_histogram}

-- the setting of a run with these numbers
abbrev pub run_of : ℕ → ℕ → ℕ → ℕ → ℕ → List Ask → Setting
run_of slack walks steps ends hub_steps asks = record {
  command = Run;
  columns = record { population = []; first = []; second = []; district = []; group = []; whole = []; frozen = []; length = [] };
  slack = slack;
  key = replicate 32 0;
  walks = walks;
  steps = steps;
  ends = ends;
  hub_steps = hub_steps;
  asks = asks;
  workers = 1;
  budget = 100000;
  save_every = 0;
  resume = false;
  size = 0;
  max_cut = 400000;
  shift = false;
  stop = 0;
  serial = false;
  region = [];
  max_split = 200;
  parts = 1;
  part = 0;
  max_splits = 995000;
  max_split_regions = 5000;
  group_districts = 0;
  group_share = 5000;
  source = false;
  first_id = 0;
  last_id = 0;
  thin = 1;
  max_length = 1717986918000000;
  cut_weight = 256;
  pairs = false;
  blind = false;
}

-- no group
abbrev pub no_group : Group
no_group = record { members = []; whole = [] }

-- rules that limit nothing
abbrev pub no_rules : Rules
no_rules = record {
  max_cut = 400000;
  regions = [];
  max_split = 200;
  max_splits = 995000;
  max_split_regions = 5000;
  group = no_group;
  group_districts = 0;
  group_share = 5000;
  frozen = [];
  home = [];
}

-- a group in four units with three of four people in the last two and one of two in the first two
abbrev pub group_of_four : Group
group_of_four = record { members = 1 ∷ 0 ∷ 2 ∷ 1 ∷ []; whole = 1 ∷ 1 ∷ 2 ∷ 2 ∷ [] }

-- four units in a row
abbrev pub path_of_four : Graph
path_of_four = record { units = 4; neighbours = (1 ∷ []) ∷ (0 ∷ 2 ∷ []) ∷ (1 ∷ 3 ∷ []) ∷ (2 ∷ []) ∷ [] }

-- four units around a square
abbrev pub cycle_of_four : Graph
cycle_of_four = record { units = 4; neighbours = (1 ∷ 3 ∷ []) ∷ (0 ∷ 2 ∷ []) ∷ (1 ∷ 3 ∷ []) ∷ (0 ∷ 2 ∷ []) ∷ [] }

-- three units in a row
abbrev pub path_of_three : Graph
path_of_three = record { units = 3; neighbours = (1 ∷ []) ∷ (0 ∷ 2 ∷ []) ∷ (1 ∷ []) ∷ [] }

-- one person in each unit
abbrev pub counts_of_votes : List ℕ → List ℕ → ℕ → Counts
counts_of_votes first second units = record { population = replicate units 1; first = first; second = second; lengths = [] }

-- the job of a graph of four units with two districts
abbrev pub job_of_four : Graph → Setting → Job
job_of_four graph setting = record {
  graph = graph;
  counts = counts_of_votes (3 ∷ 1 ∷ 1 ∷ 2 ∷ []) (1 ∷ 2 ∷ 2 ∷ 1 ∷ []) 4;
  start = 0 ∷ 0 ∷ 1 ∷ 1 ∷ [];
  districts = 2;
  setting = setting;
  regions = [];
  group = no_group;
  frozen = [];
  origin = None;
}

-- The job of four units in a row with two regions, each in both districts, and a group with one majority. It has these
-- limits on splits in all, split regions and majorities.
abbrev pub limited_job : ℕ → ℕ → ℕ → Job
limited_job max_splits max_split_regions group_districts = record (job_of_four path_of_four (record (run_of 5000 1 8 0 1000 []) {
  max_splits = max_splits;
  max_split_regions = max_split_regions;
  group_districts = group_districts;
})) { regions = 0 ∷ 1 ∷ 1 ∷ 0 ∷ []; group = group_of_four }

-- the job of four units in a row, with edges of the lengths 9, 7 and 5, under this limit on the length of cut edges
abbrev pub job_of_lengths : ℕ → List Ask → Job
job_of_lengths max_length asks = record (job_of_four path_of_four (record (run_of 5000 1 8 0 1000 asks) {
  columns = record { population = []; first = []; second = []; district = []; group = []; whole = []; frozen = []; length = 108 ∷ [] };
  max_length = max_length;
})) { counts = record (counts_of_votes (3 ∷ 1 ∷ 1 ∷ 2 ∷ []) (1 ∷ 2 ∷ 2 ∷ 1 ∷ []) 4) { lengths = 9 ∷ 9 ∷ 7 ∷ 7 ∷ 5 ∷ 5 ∷ [] } }

-- a triangle of units with a fourth unit at one of them
abbrev pub triangle_with_tail : Graph
triangle_with_tail = record { units = 4; neighbours = (1 ∷ 2 ∷ []) ∷ (0 ∷ 2 ∷ []) ∷ (0 ∷ 1 ∷ 3 ∷ []) ∷ (2 ∷ []) ∷ [] }

-- the job of this graph with this weight of each cut edge, in units of 1 / 256
abbrev pub weighted_job : ℕ → Job
weighted_job weight = job_of_four triangle_with_tail (record (run_of 5000 1 8 0 1000 []) { cut_weight = weight })

-- the first draws of stream 0 under the all-zero key
abbrev pub first_draws : List ℕ
first_draws =
    0x903df1a0ade0b876 ∷ 0x28bd8653e56a5d40 ∷ 0x1aed8da0b819d2bd ∷ 0xc70d778bccef36a8
    ∷ 0x8d4857517c5941da ∷ 0x374ad8b83fe02477 ∷ 0x1ca11815f4b8436a ∷ 0x8665eeb269b687c3 ∷ []

abbrev pub first_draws_alone : ℕ → ℕ → ℕ
first_draws_alone stream place = slice_index first_draws place

-- the job of three units in a row
abbrev pub job_of_three : Setting → Job
job_of_three setting = record {
  graph = path_of_three;
  counts = counts_of_votes (3 ∷ 1 ∷ 4 ∷ []) (1 ∷ 3 ∷ 0 ∷ []) 3;
  start = 0 ∷ 1 ∷ 1 ∷ [];
  districts = 2;
  setting = setting;
  regions = [];
  group = no_group;
  frozen = [];
  origin = None;
}

-- the job of four units in a row, in three districts
abbrev pub job_of_three_districts : Setting → Job
job_of_three_districts setting = record {
  graph = path_of_four;
  counts = counts_of_votes (6 ∷ 1 ∷ 5 ∷ 1 ∷ []) (4 ∷ 3 ∷ 5 ∷ 3 ∷ []) 4;
  start = 0 ∷ 0 ∷ 1 ∷ 2 ∷ [];
  districts = 3;
  setting = setting;
  regions = [];
  group = no_group;
  frozen = [];
  origin = None;
}

-- the job of two units in a row
abbrev pub job_of_two : Setting → Job
job_of_two setting = record {
  graph = record { units = 2; neighbours = (1 ∷ []) ∷ (0 ∷ []) ∷ [] };
  counts = counts_of_votes (1 ∷ 0 ∷ []) (0 ∷ 1 ∷ []) 2;
  start = 0 ∷ 1 ∷ [];
  districts = 2;
  setting = setting;
  regions = [];
  group = no_group;
  frozen = [];
  origin = None;
}

-- the job of two units, read by these columns and this column of regions, with an origin
abbrev pub observed_job : Columns → List ℕ → Job
observed_job columns region = record (job_of_two (record (run_of 5000 1 8 0 1000 []) { columns = columns; region = region; source = true })) {
  origin = Some (record { sha256 = replicate 32 171; bytes = 7 });
}

-- six units around a ring, and a unit beside the first
abbrev pub ring_of_six : Graph
ring_of_six = record {
  units = 7;
  neighbours = (1 ∷ 5 ∷ 6 ∷ []) ∷ (0 ∷ 2 ∷ []) ∷ (1 ∷ 3 ∷ []) ∷ (2 ∷ 4 ∷ []) ∷ (3 ∷ 5 ∷ []) ∷ (0 ∷ 4 ∷ []) ∷ (0 ∷ []) ∷ [];
}

-- three rows of three units
abbrev pub grid_of_nine : Graph
grid_of_nine = record {
  units = 9;
  neighbours =
      (1 ∷ 3 ∷ []) ∷ (0 ∷ 2 ∷ 4 ∷ []) ∷ (1 ∷ 5 ∷ [])
      ∷ (0 ∷ 4 ∷ 6 ∷ []) ∷ (1 ∷ 3 ∷ 5 ∷ 7 ∷ []) ∷ (2 ∷ 4 ∷ 8 ∷ [])
      ∷ (3 ∷ 7 ∷ []) ∷ (4 ∷ 6 ∷ 8 ∷ []) ∷ (5 ∷ 7 ∷ []) ∷ [];
}

-- a triangle, and a unit beside its first unit
abbrev pub triangle : Graph
triangle = record { units = 4; neighbours = (1 ∷ 2 ∷ 3 ∷ []) ∷ (0 ∷ 2 ∷ []) ∷ (0 ∷ 1 ∷ []) ∷ (0 ∷ []) ∷ [] }

-- four units around a square, and a diagonal edge
abbrev pub square_with_diagonal : Graph
square_with_diagonal = record { units = 4; neighbours = (1 ∷ 2 ∷ 3 ∷ []) ∷ (0 ∷ 2 ∷ []) ∷ (0 ∷ 1 ∷ 3 ∷ []) ∷ (0 ∷ 2 ∷ []) ∷ [] }

-- the outcome of some trajectory, without a histogram
abbrev pub found_once : Outcome
found_once = record { id = 0; moved = 3; values = pos 4 ∷ pos 8 ∷ pos 0 ∷ pos 0 ∷ []; bins = empty_histogram }
