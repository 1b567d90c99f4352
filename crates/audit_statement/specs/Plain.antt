-- A plain run: its plans, its trajectories and its report. Chikina, Frieze and Pegden 2017 for the walks, Besag and
-- Clifford 1989 for the hub and the endpoints. The report is defined directly on the plans, without outcomes, workers
-- or checkpoints.
use Rattle.std.specs.Prelude.{◌↔◌, ℕ, zero, suc, ◌+◌, ◌*◌, ◌/◌, ◌%◌, ◌^◌, ◌==◌, ◌&&◌, Bool, IsTrue, cond, not, nat_lt, List, [], ◌∷◌, ◌++◌, length, slice_set, bytes_eq, codes, decimal, flat_map}
use Rattle.hex.specs.Hex.{encode_lower}
use Rattle.json.specs.Print.{quoted}
use Rattle.sha2.specs.Sha256.{sha256}
use Rattle.audit_model.specs.declared.setting.Ask.{Ask}
use Rattle.audit_model.specs.declared.setting.Columns.{Columns}
use Rattle.audit_model.specs.Below.{count_below}
use Rattle.audit_model.specs.Job.{Job}
use Rattle.audit_model.specs.Test.{bound, p_value}
use Rattle.audit_model.specs.Trajectory.{Draws, in_tail, plan_value}
use Rattle.audit_statement.specs.Valid.{IsValid}
use Rattle.audit_statement.specs.Report.{ask_words, billionths, graph_line, line, population_line, setting_line}

-- the test passes exactly the valid plans
abbrev pub Decides : Job → (List ℕ → Bool) → Type 0
Decides job valid = (plan : List ℕ) → IsTrue (valid plan) ↔ IsValid job plan

-- the texts of a function for the numbers below the bound, one after another
abbrev pub each_below : ℕ → (ℕ → List ℕ) → List ℕ
each_below zero text = []
each_below (suc n) text = each_below n text ++ text n

-- the digest and the number of the bytes that were read, and the names of the columns as JSON texts, if these lines are
-- asked for
abbrev pub source_lines : Bool → Columns → List ℕ → List ℕ
source_lines asked columns bytes = cond asked (
    line (codes "source" ∷ codes "sha256" ∷ encode_lower (sha256 bytes) ∷ codes "bytes" ∷ decimal (length bytes) ∷ [])
    ++ line (codes "columns" ∷ quoted columns.population ∷ quoted columns.first ∷ quoted columns.second ∷ quoted columns.district ∷ [])) []

-- a plan is at least as extreme as the start plan
abbrev pub is_extreme : Job → Ask → List ℕ → Bool
is_extreme job ask plan = in_tail ask.tail (plan_value job plan ask.score) (plan_value job job.start ask.score)

module _ (job : Job) (valid : List ℕ → Bool) where
  -- One step. A draw below the greatest multiple of the number of pairs of a unit and a district picks a pair. The plan
  -- with this unit in this district is taken if it is valid.
  unfoldable pub after_step : List ℕ → ℕ → List ℕ
  after_step plan draw =
      let pairs = job.graph.units * job.districts in
      let moved = slice_set plan (draw % pairs / job.districts) (draw % pairs % job.districts) in
      cond (nat_lt draw (2 ^ 64 / pairs * pairs) && valid moved) moved plan

  -- the plan after this many steps, each with the draw at its place
  unfoldable pub plan_after : (ℕ → ℕ) → List ℕ → ℕ → List ℕ
  plan_after draws plan zero = plan
  plan_after draws plan (suc i) = after_step (plan_after draws plan i) (draws i)

  -- the number of steps of a walk from the start plan that change the plan
  abbrev pub changes : (ℕ → ℕ) → ℕ
  changes draws =
      count_below job.setting.steps (λ i. not (bytes_eq (plan_after draws job.start i) (plan_after draws job.start (suc i))))

  -- the number of extreme plans among those that a walk visits, the start plan included
  abbrev pub extreme_visits : (ℕ → ℕ) → Ask → ℕ
  extreme_visits draws ask = count_below (job.setting.steps + 1) (λ i. is_extreme job ask (plan_after draws job.start i))

  module _ (draws : Draws) where
    -- the plan from which the endpoint trajectories begin
    abbrev pub hub : List ℕ
    hub = plan_after (draws 1) job.start job.setting.hub_steps

    -- the last plan of each endpoint trajectory
    abbrev pub end : ℕ → List ℕ
    end n = plan_after (draws (2 * n + 3)) hub job.setting.hub_steps

    -- the start plan's rank among these last plans
    abbrev pub start_rank : Ask → ℕ
    start_rank ask = 1 + count_below job.setting.ends (λ n. is_extreme job ask (end n))

    -- the line of a walk for an ask
    abbrev pub outlier_line : ℕ → Ask → List ℕ
    outlier_line n ask = line (
        (codes "walk" ∷ decimal n ∷ codes "moved" ∷ decimal (changes (draws (2 * n))) ∷ []) ++ ask_words job ask
        ++ codes "count" ∷ decimal (extreme_visits (draws (2 * n)) ask) ∷ codes "of" ∷ decimal (job.setting.steps + 1)
        ∷ codes "bound" ∷ billionths (bound (extreme_visits (draws (2 * n)) ask) (job.setting.steps + 1)) ∷ [])

    -- the line of the parallel test for an ask
    abbrev pub parallel_line : Ask → List ℕ
    parallel_line ask = line (
        (codes "ends" ∷ []) ++ ask_words job ask
        ++ codes "rank" ∷ decimal (start_rank ask) ∷ codes "of" ∷ decimal (job.setting.ends + 1)
        ∷ codes "p" ∷ billionths (p_value (start_rank ask) (job.setting.ends + 1)) ∷ [])

    -- the whole report on the bytes that were read
    unfoldable pub plain_report : List ℕ → List ℕ
    plain_report bytes =
        line (codes "district-audit 1" ∷ [])
        ++ source_lines job.setting.source job.setting.columns bytes
        ++ line (codes "key" ∷ encode_lower job.setting.key ∷ [])
        ++ graph_line job
        ++ population_line job
        ++ setting_line job
        ++ each_below job.setting.walks (λ n. flat_map (outlier_line n) job.setting.asks)
        ++ cond (job.setting.ends == 0) [] (flat_map parallel_line job.setting.asks)
        ++ line (codes "end" ∷ [])
