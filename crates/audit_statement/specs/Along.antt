-- The trajectories of a job by their ids: first plan, stream of draws, and visited plans. Chikina, Frieze and Pegden
-- 2017 for the walks, Besag and Clifford 1989 for the endpoint trajectories. The outcome of a trajectory is defined on
-- the same plans.
use Rattle.std.specs.Prelude.{◌≡◌, ℕ, ◌+◌, ◌-◌, ◌*◌, ◌<◌, ◌≤◌, Bool, true, false, nat_lt, List, map, ℤ, pos}
use Rattle.audit_model.specs.declared.setting.Ask.{Ask}
use Rattle.audit_model.specs.Below.{count_below}
use Rattle.audit_model.specs.Job.{Job}
use Rattle.audit_model.specs.Run.{steps_of}
use Rattle.audit_model.specs.Trajectory.{Draws, four_values, hub, in_tail, moves, plan_value, visit, whole}

-- the id is that of a walk; the others are endpoint trajectories of the parallel test
abbrev pub is_walk : Job → ℕ → Bool
is_walk job id = nat_lt id job.setting.walks

-- by cases, so that the prover computes only the one that is asked for
abbrev pub first_by : Bool → Job → Draws → List ℕ
first_by true job draws = job.start
first_by false job draws = hub job draws

abbrev pub stream_by : Bool → Job → ℕ → ℕ
stream_by true job id = 2 * id
stream_by false job id = 2 * (id - job.setting.walks) + 3

-- the first plan of a trajectory: the start plan or the hub
abbrev pub first_plan : Job → Draws → ℕ → List ℕ
first_plan job draws id = first_by (is_walk job id) job draws

-- the stream of its draws
abbrev pub stream_of : Job → ℕ → ℕ
stream_of job id = stream_by (is_walk job id) job id

-- the number of its steps
abbrev pub own_steps : Job → ℕ → ℕ
own_steps job id = steps_of (is_walk job id) job

-- its plan after this many steps
abbrev pub plan_after : Job → Draws → ℕ → ℕ → List ℕ
plan_after job draws id step = visit job (draws (stream_of job id)) (first_plan job draws id) step

-- the number of its first steps that change the plan
abbrev pub moves_after : Job → Draws → ℕ → ℕ → ℕ
moves_after job draws id step = moves job (draws (stream_of job id)) (first_plan job draws id) step

-- the numerator of each ask's score for a plan
abbrev pub ask_values : Job → List ℕ → List ℤ
ask_values job plan = map (λ ask. plan_value job plan ask.score) job.setting.asks

-- the number of its plans in the ask's tail, first and last included
abbrev pub plans_in_tail : Job → Draws → ℕ → Ask → ℕ
plans_in_tail job draws id ask =
    count_below (own_steps job id + 1)
    (λ step. in_tail ask.tail (plan_value job (plan_after job draws id step) ask.score) (plan_value job job.start ask.score))

-- the report on a trajectory follows from its plans: the moves, a walk's number of plans in each ask's tail, and the
-- scores of an endpoint trajectory's last plan
pub record EndsAsFound (job : Job) (draws : Draws) (id : ℕ) : Type 0 where
  pub moved : moves_after job draws id (own_steps job id) ≡ (whole job draws id).moved
  pub counts : id < job.setting.walks → four_values (map (λ ask. pos (plans_in_tail job draws id ask)) job.setting.asks) ≡ (whole job draws id).values
  pub values : job.setting.walks ≤ id → four_values (ask_values job (plan_after job draws id (own_steps job id))) ≡ (whole job draws id).values

-- for every trajectory of every job
abbrev pub TracesEndAsFound : Type 0
TracesEndAsFound = (job : Job) (draws : Draws) (id : ℕ) → EndsAsFound job draws id
