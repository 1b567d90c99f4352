-- The plans of a trajectory determine its outcome.
use Rattle.std.proofs.Common.{◌≡◌, ℕ, ◌+◌, ◌<◌, ◌≤◌, map, pos, Bool, true, false, refl, sym, subst}
use Rattle.std.proofs.lemmas.Bool.{le-ltb, lt-ltb}
use Rattle.audit_model.specs.Below.{count_below}
use Rattle.audit_model.specs.Job.{Job}
use Rattle.audit_model.specs.Run.{steps_of}
use Rattle.audit_model.specs.Trajectory.{Draws, four_values, in_tail, moves, outcome_by, plan_value, visit}
use Rattle.audit_statement.specs.Along.{EndsAsFound, TracesEndAsFound, ask_values, first_by, is_walk, stream_by}

module _ (job : Job) (draws : Draws) (id : ℕ) where
  moved_by : (b : Bool) → moves job (draws (stream_by b job id)) (first_by b job draws) (steps_of b job) ≡ (outcome_by b true job draws id).moved
  moved_by true = refl
  moved_by false = refl

  values_by : job.setting.walks ≤ id
      → four_values (ask_values job (visit job (draws (stream_by (is_walk job id) job id)) (first_by (is_walk job id) job draws) (steps_of (is_walk job id) job)))
      ≡ (outcome_by (is_walk job id) true job draws id).values
  values_by above =
      subst (λ (b : Bool). four_values (ask_values job (visit job (draws (stream_by b job id)) (first_by b job draws) (steps_of b job))) ≡ (outcome_by b true job draws id).values)
      (sym (le-ltb id job.setting.walks above)) refl

  counts_by : id < job.setting.walks
      → four_values (map (λ ask. pos (count_below (steps_of (is_walk job id) job + 1)
      (λ step. in_tail ask.tail (plan_value job (visit job (draws (stream_by (is_walk job id) job id)) (first_by (is_walk job id) job draws) step) ask.score) (plan_value job job.start ask.score)))) job.setting.asks)
      ≡ (outcome_by (is_walk job id) true job draws id).values
  counts_by below =
      subst (λ (b : Bool). four_values (map (λ ask. pos (count_below (steps_of b job + 1)
      (λ step. in_tail ask.tail (plan_value job (visit job (draws (stream_by b job id)) (first_by b job draws) step) ask.score) (plan_value job job.start ask.score)))) job.setting.asks)
      ≡ (outcome_by b true job draws id).values)
      (sym (lt-ltb id job.setting.walks below)) refl

  ends_as_found : EndsAsFound job draws id
  ends_as_found = record { moved = moved_by (is_walk job id); counts = counts_by; values = values_by }

-- the law for every trajectory of every job
pub traces_end_as_found : TracesEndAsFound
traces_end_as_found = ends_as_found
