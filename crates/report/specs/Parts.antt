-- Parts of the report.
use Rattle.std.specs.Prelude.{ℕ, List, [], ◌∷◌, ◌++◌, ◌+◌, length, get_or, codes, decimal, flat_map, Option}
use Rattle.hex.specs.Hex.{encode_lower}
use Rattle.json.specs.Print.{quoted}
use Rattle.audit_model.specs.declared.origin.Origin.{Origin}
use Rattle.audit_model.specs.declared.outcome.Outcome.{Outcome}
use Rattle.audit_model.specs.declared.setting.Ask.{Ask}
use Rattle.audit_model.specs.declared.setting.Columns.{Columns}
use Rattle.audit_model.specs.declared.setting.Score.TheVariants.{Seats}
use Rattle.audit_model.specs.declared.setting.Tail.TheVariants.{Low}
use Rattle.audit_model.specs.Job.{Job}
use Rattle.audit_model.specs.Test.{p_value}
use Rattle.audit_model.specs.Stopping.{placed_asks}
use Rattle.report.specs.Lines.{spaced}
use Rattle.audit_statement.specs.Report.{line, ask_words, billionths, frozen_words, graph_line, group_words, length_words, origin_lines, pair_line, pair_lines, population_line, region_words, rule_lines, serial_lines, setting_line, shift_line, stop_line, test_lines, title_by, walk_line, walk_lines, weight_line}

-- the line with the digest and the number of the bytes that were read
abbrev pub source_line : Origin → List ℕ
source_line origin = line (codes "source" ∷ codes "sha256" ∷ encode_lower origin.sha256 ∷ codes "bytes" ∷ decimal origin.bytes ∷ [])

-- the total number of bytes of the column names
abbrev pub names_length : Columns → List ℕ → ℕ
names_length columns region =
    length columns.population + length columns.first + length columns.second + length columns.district + length columns.group + length columns.whole
    + length columns.frozen + length columns.length + length region

-- the words of the line of the columns, each behind a space, up to those of a group
abbrev pub first_columns : Columns → List ℕ → List ℕ
first_columns columns region =
    codes "columns" ++ spaced (quoted columns.population ∷ quoted columns.first ∷ quoted columns.second ∷ quoted columns.district ∷ [])
    ++ spaced (region_words region) ++ spaced (group_words columns.group columns.whole)

-- those behind them
abbrev pub last_columns : Columns → List ℕ
last_columns columns = spaced (frozen_words columns.frozen) ++ spaced (length_words columns.length)

-- the line with the key
abbrev pub key_line : Job → List ℕ
key_line job = line (codes "key" ∷ encode_lower job.setting.key ∷ [])

-- the lines of the graph, of the population, of the rules and of the weight
abbrev pub plan_lines : Job → List ℕ
plan_lines job = graph_line job ++ population_line job ++ rule_lines job ++ weight_line job

-- the lines of a job that a report and a trace share
abbrev pub job_lines : Job → List ℕ
job_lines job = origin_lines job job.origin ++ key_line job ++ plan_lines job ++ setting_line job

-- the lines before those of the asks
abbrev pub head : Job → List ℕ
head job =
    title_by job.setting.blind job.setting.shift
    ++ origin_lines job job.origin
    ++ key_line job
    ++ graph_line job
    ++ population_line job
    ++ rule_lines job
    ++ weight_line job
    ++ setting_line job
    ++ stop_line job.setting.stop

-- the lines of an outlier walk, one for each ask
abbrev pub lines_of : Job → Outcome → List ℕ
lines_of job found = flat_map (walk_line job found) (placed_asks job)

-- the lines of a pair of walks, one for each ask
abbrev pub lines_of_pair : Job → Outcome × Outcome → List ℕ
lines_of_pair job pair = flat_map (pair_line job pair) (placed_asks job)

-- the ask at a place. Past the last ask it is this default.
abbrev pub ask_at : Job → ℕ → Ask
ask_at job place = get_or job.setting.asks place (record { score = Seats; tail = Low })

-- the line of an ask with this rank of the start plan's value
abbrev pub rank_line : Job → Ask → ℕ → List ℕ
rank_line job ask start_rank = line (
    (codes "ends" ∷ []) ++ ask_words job ask
    ++ codes "rank" ∷ decimal start_rank ∷ codes "of" ∷ decimal (job.setting.ends + 1)
    ∷ codes "p" ∷ billionths (p_value start_rank (job.setting.ends + 1)) ∷ [])

-- the line of an ask with this place of the start plan in the serial test's run, and this rank
abbrev pub place_line : Job → ℕ → Ask → ℕ → List ℕ
place_line job place ask rank = line (
    (codes "serial" ∷ []) ++ ask_words job ask
    ++ codes "place" ∷ decimal place
    ∷ codes "rank" ∷ decimal rank ∷ codes "of" ∷ decimal (job.setting.steps + 1)
    ∷ codes "p" ∷ billionths (p_value rank (job.setting.steps + 1)) ∷ [])

-- the report with all findings, part by part
abbrev pub report_by_parts : Job → List Outcome → List (List ℕ) → Option (ℕ × List ℕ) → List ℕ
report_by_parts job outcomes stops serial =
    head job
    ++ walk_lines job outcomes
    ++ pair_lines job.setting.pairs job outcomes
    ++ shift_line job.setting.shift outcomes
    ++ test_lines job.setting.stop job outcomes stops
    ++ serial_lines job serial
    ++ line (codes "end" ∷ [])
