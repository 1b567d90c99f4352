-- The text of a trace: the plans of a range of trajectories at every N-th step, each by its differences from the plan
-- of the line before. This project's format. Each line is defined by the plan at its step; the code walks each
-- trajectory once, from line to line.
use Rattle.std.specs.Prelude.{ℕ, zero, suc, ◌+◌, ◌-◌, ◌*◌, ◌==◌, not, min, List, [], ◌∷◌, ◌++◌, length, map, slice_index, codes, decimal, flat_map, ℤ}
use Rattle.std.specs.Fmt.{signed_decimal}
use Rattle.hex.specs.Hex.{encode_lower}
use Rattle.audit_model.specs.declared.setting.Ask.{Ask}
use Rattle.audit_model.specs.Below.{filter_below}
use Rattle.audit_model.specs.Job.{Job}
use Rattle.audit_model.specs.Rounded.{quotient_up}
use Rattle.audit_model.specs.Stopping.{placed_asks}
use Rattle.audit_model.specs.Trajectory.{Draws}
use Rattle.audit_statement.specs.Along.{ask_values, moves_after, own_steps, plan_after}
use Rattle.audit_statement.specs.Report.{ask_words, graph_line, line, origin_lines, population_line, rule_lines, setting_line, weight_line}

-- ---- the line of a plan

-- a unit and its district
abbrev pub change_word : List ℕ → ℕ → List ℕ
change_word plan u = decimal u ++ 58 ∷ decimal (slice_index plan u)

-- the units whose district differs from the plan before
abbrev pub changed : List ℕ → List ℕ → List ℕ
changed before plan = filter_below (length plan) (λ u. not (slice_index plan u == slice_index before u))

-- each of them with its district
abbrev pub change_words : List ℕ → List ℕ → List (List ℕ)
change_words before plan = map (change_word plan) (changed before plan)

-- the step, the moves so far, the numerators of the scores, and the changed units
abbrev pub plan_line : ℕ → ℕ → List ℤ → List ℕ → List ℕ → List ℕ
plan_line step moved values before plan = line (((decimal step ∷ decimal moved ∷ []) ++ map signed_decimal values) ++ change_words before plan)

-- ---- the lines of a trajectory

-- the step of the line at a place: this many strides, but at most all steps
abbrev pub shown : ℕ → ℕ → ℕ → ℕ
shown thin steps place = min (place * thin) steps

-- the number of lines: one for the first plan, and one for each stride, the last of which may be shorter
abbrev pub count_shown : ℕ → ℕ → ℕ
count_shown thin steps = quotient_up steps thin + 1

-- the plan of the line before; the first line is compared with the start plan
abbrev pub shown_before : Job → Draws → ℕ → ℕ → ℕ → List ℕ
shown_before job draws id thin zero = job.start
shown_before job draws id thin (suc place) = plan_after job draws id (shown thin (own_steps job id) place)

-- the line of the plan at a step
abbrev pub line_at : Job → Draws → ℕ → List ℕ → ℕ → List ℕ
line_at job draws id before step =
    plan_line step (moves_after job draws id step) (ask_values job (plan_after job draws id step)) before (plan_after job draws id step)

-- the line at a place
unfoldable pub trace_line : Job → Draws → ℕ → ℕ → ℕ → List ℕ
trace_line job draws id thin place = line_at job draws id (shown_before job draws id thin place) (shown thin (own_steps job id) place)

-- the first lines, up to this place
unfoldable pub first_lines : Job → Draws → ℕ → ℕ → ℕ → List ℕ
first_lines job draws id thin zero = []
first_lines job draws id thin (suc places) = first_lines job draws id thin places ++ trace_line job draws id thin places

-- ---- the lines of a range

-- the line that names a trajectory, its number of steps, and N
abbrev pub trace_id_line : Job → ℕ → ℕ → List ℕ
trace_id_line job id thin = line (
    codes "trace" ∷ codes "id" ∷ decimal id ∷ codes "steps" ∷ decimal (own_steps job id) ∷ codes "thin" ∷ decimal thin ∷ [])

-- the lines of one trajectory
unfoldable pub trajectory_lines : Job → Draws → ℕ → ℕ → List ℕ
trajectory_lines job draws thin id = trace_id_line job id thin ++ first_lines job draws id thin (count_shown thin (own_steps job id))

-- the lines of this many trajectories, by rising id from the first
unfoldable pub range_lines : Job → Draws → ℕ → ℕ → ℕ → List ℕ
range_lines job draws thin first zero = []
range_lines job draws thin first (suc count) = range_lines job draws thin first count ++ trajectory_lines job draws thin (first + count)

-- ---- the text

-- an ask, and the start plan's value of its score
abbrev pub ask_line : Job → ℕ × Ask → List ℕ
ask_line job ask = line (codes "ask" ∷ ask_words job ask.1)

-- the lines before the first trajectory
abbrev pub trace_head : Job → List ℕ
trace_head job =
    line (codes "district-trace 1" ∷ [])
    ++ origin_lines job job.origin
    ++ line (codes "key" ∷ encode_lower job.setting.key ∷ [])
    ++ graph_line job
    ++ population_line job
    ++ rule_lines job
    ++ weight_line job
    ++ setting_line job
    ++ flat_map (ask_line job) (placed_asks job)

-- the trace of the trajectories from the first id to the last, at every N-th step
unfoldable pub trace_text : Job → Draws → ℕ → ℕ → ℕ → List ℕ
trace_text job draws first last thin = trace_head job ++ range_lines job draws thin first (last + 1 - first) ++ line (codes "end" ∷ [])
