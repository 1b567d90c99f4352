-- The report, the check text, and their lines, as lists of bytes. This project's formats. A text is one list of lines;
-- the code appends to a preallocated buffer.
use Rattle.std.specs.Prelude.{ℕ, zero, suc, ◌+◌, ◌-◌, ◌*◌, ◌/◌, ◌%◌, ◌^◌, ◌==◌, Bool, true, false, ◌||◌, cond, nat_lt, List, [], ◌∷◌, ◌++◌, length, map, replicate, slice_index, codes, decimal, flat_map, filter, zip, Option, Some, None, ℤ, unsigned_abs}
use Rattle.std.specs.Fmt.{signed_decimal}
use Rattle.hex.specs.Hex.{encode_lower}
use Rattle.json.specs.Print.{quoted}
use Rattle.audit_model.specs.declared.origin.Origin.{Origin}
use Rattle.audit_model.specs.declared.outcome.Outcome.{Outcome}
use Rattle.audit_model.specs.declared.setting.Ask.{Ask}
use Rattle.audit_model.specs.declared.setting.Columns.{Columns}
use Rattle.audit_model.specs.Graph.{count_edges}
use Rattle.audit_model.specs.Job.{Job, total_population, total_votes}
use Rattle.audit_model.specs.Length.{cut_length}
use Rattle.audit_model.specs.Meets.{region_count, majorities, frozen_count}
use Rattle.audit_model.specs.Plan.{least_population, greatest_population}
use Rattle.audit_model.specs.Score.{denominator}
use Rattle.audit_model.specs.Serially.{serial_observed}
use Rattle.audit_model.specs.Stopping.{placed_asks, stops_of}
use Rattle.audit_model.specs.Test.{bound, p_value}
use Rattle.audit_model.specs.Trajectory.{Draws, plan_value, rank, sequence, tally, value_at}
use Rattle.audit_model.specs.Weight.{largest_change}
use Rattle.audit_statement.specs.Names.{score_name, tail_name}
use Rattle.audit_statement.specs.Words.{quarters}
use Rattle.audit_model.specs.Limits.{most_edges, most_length, most_regions, most_splits}

-- the words with single spaces between them, and a line feed at the end
abbrev pub line : List (List ℕ) → List ℕ
line [] = 10 ∷ []
line (word ∷ []) = word ++ 10 ∷ []
line (word ∷ next ∷ words) = word ++ 32 ∷ line (next ∷ words)

-- nine digits, with leading zeros
abbrev pub nine_digits : ℕ → List ℕ
nine_digits n = replicate (9 - length (decimal n)) 48 ++ decimal n

-- a number of billionths: the whole part, a point and nine digits
abbrev pub billionths : ℕ → List ℕ
billionths n = decimal (n / 10 ^ 9) ++ 46 ∷ nine_digits (n % 10 ^ 9)

-- a numerator and a denominator
abbrev pub fraction : ℤ → ℕ → List ℕ
fraction top bottom = signed_decimal top ++ 47 ∷ decimal bottom

-- the numbers of units, edges and districts
abbrev pub graph_line : Job → List ℕ
graph_line job = line (
    codes "units" ∷ decimal job.graph.units ∷ codes "edges" ∷ decimal (count_edges job.graph (λ u v. true))
    ∷ codes "districts" ∷ decimal job.districts ∷ [])

-- the population and its bounds
abbrev pub population_line : Job → List ℕ
population_line job = line (
    codes "population" ∷ decimal (total_population job) ∷ codes "slack" ∷ decimal job.setting.slack
    ∷ codes "low" ∷ decimal (least_population job) ∷ codes "high" ∷ decimal (greatest_population job) ∷ [])

-- the limit on cut edges, if there is one
abbrev pub cut_line : Job → List ℕ
cut_line job = cond (nat_lt job.setting.max_cut most_edges) (line (codes "max-cut" ∷ decimal job.setting.max_cut ∷ [])) []

-- the limit on districts per region and the number of regions, if there are any
abbrev pub split_line : ℕ → List ℕ → List ℕ
split_line max_split [] = []
split_line max_split (r ∷ rest) = line (codes "max-split" ∷ decimal max_split ∷ codes "regions" ∷ decimal (region_count (r ∷ rest)) ∷ [])

-- the limits on splits in all and on split regions, if there are regions and one limit is set
abbrev pub splits_line : ℕ → ℕ → List ℕ → List ℕ
splits_line max_splits max_split_regions [] = []
splits_line max_splits max_split_regions (r ∷ rest) =
    cond (nat_lt max_splits most_splits || nat_lt max_split_regions most_regions)
    (line (codes "max-splits" ∷ decimal max_splits ∷ codes "max-split-regions" ∷ decimal max_split_regions ∷ [])) []

-- the required majorities and those of the start plan, if there is a group
abbrev pub group_line : ℕ → ℕ → List ℕ → List ℕ
group_line least there [] = []
group_line least there (n ∷ rest) = line (codes "group-districts" ∷ decimal least ∷ codes "of" ∷ decimal there ∷ [])

-- the share above which a group has a majority, in hundredths of a percent, if it is not one half
abbrev pub share_line : ℕ → List ℕ → List ℕ
share_line share [] = []
share_line share (n ∷ rest) = cond (share == 5000) [] (line (codes "group-share" ∷ decimal share ∷ []))

-- the number of frozen units, if a column of frozen units is named
abbrev pub frozen_line : List ℕ → List ℕ
frozen_line [] = []
frozen_line (f ∷ rest) = line (codes "frozen" ∷ decimal (frozen_count (f ∷ rest)) ∷ [])

-- the total length of the start plan's cut edges, if a column of lengths is named
abbrev pub cut_length_line : ℕ → List ℕ → List ℕ
cut_length_line there [] = []
cut_length_line there (c ∷ column) = line (codes "cut-length" ∷ decimal there ∷ [])

-- the limit on the total length of cut edges, if there is one
abbrev pub length_line : ℕ → List ℕ
length_line most = cond (nat_lt most most_length) (line (codes "max-length" ∷ decimal most ∷ [])) []

-- the line of the start plan's length, which is a score: a blind report has none
abbrev pub start_length_line : Bool → ℕ → List ℕ → List ℕ
start_length_line true there column = []
start_length_line false there column = cut_length_line there column

-- the lines of the lengths of edges
abbrev pub length_lines : Job → List ℕ
length_lines job =
    start_length_line job.setting.blind (cut_length job.graph job.counts.lengths job.start) job.setting.columns.length
    ++ length_line job.setting.max_length

-- the rules, if there are some
abbrev pub rule_lines : Job → List ℕ
rule_lines job =
    cut_line job
    ++ split_line job.setting.max_split job.regions
    ++ splits_line job.setting.max_splits job.setting.max_split_regions job.regions
    ++ group_line job.setting.group_districts (majorities job.setting.group_share job.group job.start) job.group.members
    ++ share_line job.setting.group_share job.group.members
    ++ frozen_line job.frozen
    ++ length_lines job

-- the weight on cut edges and the largest change of cut edges in one step, if there is a weight
abbrev pub weight_by : ℕ → ℕ → List ℕ
weight_by weight pieces =
    cond (nat_lt weight 256) (line (codes "cut-weight" ∷ quarters weight ∷ codes "of" ∷ codes "64" ∷ codes "pieces" ∷ decimal pieces ∷ [])) []

-- the weight of a job
abbrev pub weight_line : Job → List ℕ
weight_line job = weight_by job.setting.cut_weight (largest_change (job.graph.units * job.districts))

-- the numbers of trajectories and of their steps
abbrev pub setting_line : Job → List ℕ
setting_line job = line (
    codes "walks" ∷ decimal job.setting.walks ∷ codes "steps" ∷ decimal job.setting.steps
    ∷ codes "ends" ∷ decimal job.setting.ends ∷ codes "hub-steps" ∷ decimal job.setting.hub_steps ∷ [])

-- the ask, and the start plan's value of its score
abbrev pub ask_words : Job → Ask → List (List ℕ)
ask_words job ask =
    score_name ask.score ∷ tail_name ask.tail ∷ codes "start"
    ∷ fraction (plan_value job job.start ask.score) (denominator ask.score job.districts (total_votes job)) ∷ []

-- the line of a walk for the ask at this place
abbrev pub walk_line : Job → Outcome → ℕ × Ask → List ℕ
walk_line job found ask = line (
    (codes "walk" ∷ decimal found.id ∷ codes "moved" ∷ decimal found.moved ∷ []) ++ ask_words job ask.1
    ++ codes "count" ∷ signed_decimal (value_at found ask.0) ∷ codes "of" ∷ decimal (job.setting.steps + 1)
    ∷ codes "bound" ∷ billionths (bound (unsigned_abs (value_at found ask.0)) (job.setting.steps + 1)) ∷ [])

-- the line of the parallel test for the ask at this place
abbrev pub ends_line : Job → List Outcome → ℕ × Ask → List ℕ
ends_line job outcomes ask = line (
    (codes "ends" ∷ []) ++ ask_words job ask.1
    ++ codes "rank" ∷ decimal (rank job ask.1 ask.0 outcomes) ∷ codes "of" ∷ decimal (job.setting.ends + 1)
    ∷ codes "p" ∷ billionths (p_value (rank job ask.1 ask.0 outcomes) (job.setting.ends + 1)) ∷ [])

-- a line for each walk and each ask
abbrev pub walk_lines : Job → List Outcome → List ℕ
walk_lines job outcomes =
    flat_map (λ found. flat_map (walk_line job found) (placed_asks job)) (filter (λ o. nat_lt o.id job.setting.walks) outcomes)

-- a line for each ask, if there are endpoint trajectories
abbrev pub ends_lines : ℕ → Job → List Outcome → List ℕ
ends_lines zero job outcomes = []
ends_lines (suc ends) job outcomes = flat_map (ends_line job outcomes) (placed_asks job)

-- ---- pairs of walks: Chikina, Frieze, Mattingly and Pegden 2020

-- two outcomes in turn; an odd last one is in no pair
abbrev pub by_twos : List Outcome → List (Outcome × Outcome)
by_twos [] = []
by_twos (first ∷ []) = []
by_twos (first ∷ second ∷ rest) = (first, second) ∷ by_twos rest

-- the number of plans in the tail among those of two walks from one plan, which counts once
abbrev pub pair_count : Outcome × Outcome → ℕ → ℕ
pair_count pair place = unsigned_abs (value_at pair.0 place) + unsigned_abs (value_at pair.1 place) - 1

-- the line of a pair of walks for the ask at this place; the bound is the count by the number of plans of one walk
abbrev pub pair_line : Job → Outcome × Outcome → ℕ × Ask → List ℕ
pair_line job pair ask = line (
    (codes "pair" ∷ decimal pair.0.id ∷ decimal pair.1.id ∷ []) ++ ask_words job ask.1
    ++ codes "count" ∷ decimal (pair_count pair ask.0) ∷ codes "of" ∷ decimal (2 * (job.setting.steps + 1) - 1)
    ∷ codes "bound" ∷ billionths (p_value (pair_count pair ask.0) (job.setting.steps + 1)) ∷ [])

-- a line for each pair of walks and each ask, if they are asked for
abbrev pub pair_lines : Bool → Job → List Outcome → List ℕ
pair_lines true job outcomes =
    flat_map (λ pair. flat_map (pair_line job pair) (placed_asks job)) (by_twos (filter (λ o. nat_lt o.id job.setting.walks) outcomes))
pair_lines false job outcomes = []

-- ---- optional lines

-- the number of endpoints in the tail at which a test stops, if tests stop early
abbrev pub stop_line : ℕ → List ℕ
stop_line zero = []
stop_line (suc h) = line (codes "stop" ∷ decimal (suc h) ∷ [])

-- the title, whose version says if the report has a histogram
abbrev pub title_line : Bool → List ℕ
title_line true = line (codes "district-audit 2" ∷ [])
title_line false = line (codes "district-audit 1" ∷ [])

-- the title of a report, or of a blind one
abbrev pub title_by : Bool → Bool → List ℕ
title_by true shift = line (codes "walk-pilot 1" ∷ [])
title_by false shift = title_line shift

-- the summed histogram, if it is asked for
abbrev pub shift_line : Bool → List Outcome → List ℕ
shift_line true outcomes = line (codes "shift" ∷ map decimal (tally outcomes))
shift_line false outcomes = []

-- the stop of an ask's test: the place, and the numbers of its p-value
abbrev pub stopped_line : Job → Ask × List ℕ → List ℕ
stopped_line job stopped = line (
    (codes "stop" ∷ []) ++ ask_words job stopped.0
    ++ codes "place" ∷ decimal (slice_index stopped.1 0)
    ∷ codes "value" ∷ (decimal (slice_index stopped.1 1) ++ 47 ∷ decimal (slice_index stopped.1 2))
    ∷ codes "p" ∷ billionths (p_value (slice_index stopped.1 1) (slice_index stopped.1 2)) ∷ [])

-- a line for each ask: of all endpoints, or of those up to the stop
abbrev pub test_lines : ℕ → Job → List Outcome → List (List ℕ) → List ℕ
test_lines zero job outcomes stops = ends_lines job.setting.ends job outcomes
test_lines (suc h) job outcomes stops = flat_map (stopped_line job) (zip job.setting.asks stops)

-- the line of the serial test for the ask at a place: the start plan's position and rank
abbrev pub serial_line : Job → ℕ → List ℕ → ℕ × Ask → List ℕ
serial_line job place ranks ask = line (
    (codes "serial" ∷ []) ++ ask_words job ask.1
    ++ codes "place" ∷ decimal place
    ∷ codes "rank" ∷ decimal (slice_index ranks ask.0) ∷ codes "of" ∷ decimal (job.setting.steps + 1)
    ∷ codes "p" ∷ billionths (p_value (slice_index ranks ask.0) (job.setting.steps + 1)) ∷ [])

-- a line for each ask, if the serial test was made
abbrev pub serial_lines : Job → Option (ℕ × List ℕ) → List ℕ
serial_lines job None = []
serial_lines job (Some found) = flat_map (serial_line job found.0 found.1) (placed_asks job)

-- the column of the regions, if one is named
abbrev pub region_words : List ℕ → List (List ℕ)
region_words [] = []
region_words (c ∷ column) = codes "region" ∷ quoted (c ∷ column) ∷ []

-- the columns of a group, if one is named
abbrev pub group_words : List ℕ → List ℕ → List (List ℕ)
group_words [] whole = []
group_words (c ∷ column) whole = codes "group" ∷ quoted (c ∷ column) ∷ codes "of" ∷ quoted whole ∷ []

-- the column of frozen units, if one is named
abbrev pub frozen_words : List ℕ → List (List ℕ)
frozen_words [] = []
frozen_words (c ∷ column) = codes "freeze" ∷ quoted (c ∷ column) ∷ []

-- the column of the edges' lengths, if one is named
abbrev pub length_words : List ℕ → List (List ℕ)
length_words [] = []
length_words (c ∷ column) = codes "length" ∷ quoted (c ∷ column) ∷ []

-- the names of the columns as JSON texts: population, votes, districts, and optional ones
abbrev pub columns_line : Columns → List ℕ → List ℕ
columns_line columns region = line (
    (codes "columns" ∷ quoted columns.population ∷ quoted columns.first ∷ quoted columns.second ∷ quoted columns.district ∷ [])
    ++ region_words region ++ group_words columns.group columns.whole ++ frozen_words columns.frozen
    ++ length_words columns.length)

-- the digest of the source and its columns, if the job has an origin
abbrev pub origin_lines : Job → Option Origin → List ℕ
origin_lines job None = []
origin_lines job (Some origin) =
    line (codes "source" ∷ codes "sha256" ∷ encode_lower origin.sha256 ∷ codes "bytes" ∷ decimal origin.bytes ∷ [])
    ++ columns_line job.setting.columns job.setting.region

-- ---- whole texts

-- the lines before the findings
abbrev pub head_lines : Job → List ℕ
head_lines job =
    title_by job.setting.blind job.setting.shift
    ++ origin_lines job job.origin
    ++ line (codes "key" ∷ encode_lower job.setting.key ∷ [])
    ++ graph_line job
    ++ population_line job
    ++ rule_lines job
    ++ weight_line job
    ++ setting_line job
    ++ stop_line job.setting.stop

-- the report with all findings
abbrev pub open_report : Job → List Outcome → List (List ℕ) → Option (ℕ × List ℕ) → List ℕ
open_report job outcomes stops serial =
    head_lines job
    ++ walk_lines job outcomes
    ++ pair_lines job.setting.pairs job outcomes
    ++ shift_line job.setting.shift outcomes
    ++ test_lines job.setting.stop job outcomes stops
    ++ serial_lines job serial
    ++ line (codes "end" ∷ [])

-- the number of moves of a walk
abbrev pub moved_line : Outcome → List ℕ
moved_line found = line (codes "walk" ∷ decimal found.id ∷ codes "moved" ∷ decimal found.moved ∷ [])

-- a line with the moves of each walk
abbrev pub moved_lines : Job → List Outcome → List ℕ
moved_lines job outcomes = flat_map moved_line (filter (λ o. nat_lt o.id job.setting.walks) outcomes)

-- the report of a blind run, which has nothing of any score
abbrev pub blind_report : Job → List Outcome → List ℕ
blind_report job outcomes = head_lines job ++ moved_lines job outcomes ++ line (codes "end" ∷ [])

-- the report with all findings, or a blind one
abbrev pub report_by : Bool → Job → List Outcome → List (List ℕ) → Option (ℕ × List ℕ) → List ℕ
report_by true job outcomes stops serial = blind_report job outcomes
report_by false job outcomes stops serial = open_report job outcomes stops serial

-- the report on these outcomes, the stops of the asks' tests and the serial test
unfoldable pub report : Job → List Outcome → List (List ℕ) → Option (ℕ × List ℕ) → List ℕ
report job outcomes stops serial = report_by job.setting.blind job outcomes stops serial

-- the report on all outcomes, with their stops and the serial test
abbrev pub full_report : Job → Draws → List Outcome → List ℕ
full_report job draws outcomes = report job outcomes (stops_of job outcomes) (serial_observed job draws)

-- the report of one thread that walks each trajectory once
unfoldable pub thread_report : Job → Draws → List ℕ
thread_report job draws = full_report job draws (sequence job draws)

-- the text of a check
unfoldable pub check_text : Job → List ℕ
check_text job =
    line (codes "plan-check 1" ∷ [])
    ++ origin_lines job job.origin
    ++ graph_line job
    ++ population_line job
    ++ rule_lines job
    ++ weight_line job
    ++ line (codes "end" ∷ [])

-- the report of a plan under its name
abbrev pub plan_text : Draws → List ℕ × Job → List ℕ
plan_text draws plan = line (codes "plan" ∷ plan.0 ∷ []) ++ thread_report plan.1 draws

-- the reports of several plans on one graph, one after another
unfoldable pub plans_text : Draws → List (List ℕ × Job) → List ℕ
plans_text draws plans = flat_map (plan_text draws) plans
