-- The serial test: the start plan stands at a drawn position of one run, and its rank among the visited plans is taken.
-- Besag and Clifford 1989. Each count is over the visited plans; the code counts as it goes.
use Rattle.std.specs.Prelude.{ℕ, suc, ◌+◌, ◌-◌, ◌%◌, Bool, true, false, List, ◌++◌, map, take, replicate, Option, Some, None, pos}
use Rattle.audit_model.specs.declared.outcome.Outcome.{Outcome}
use Rattle.audit_model.specs.declared.outcome.Serial.{Serial}
use Rattle.audit_model.specs.declared.setting.Ask.{Ask}
use Rattle.audit_model.specs.Below.{count_below}
use Rattle.audit_model.specs.Job.{Job}
use Rattle.audit_model.specs.Trajectory.{Draws, four_values, in_tail, moves, empty_histogram, plan_value, visit, visits_in_tail}

-- the outcome of a walk of this many steps from the start plan along a stream
abbrev pub run_outcome : Job → Draws → ℕ → ℕ → Outcome
run_outcome job draws stream steps = record {
  id = 0;
  moved = moves job (draws stream) job.start steps;
  values = four_values (map (λ ask. pos (visits_in_tail job (draws stream) steps ask)) job.setting.asks);
  bins = empty_histogram;
}

-- the number of plans visited after the start plan that are in the ask's tail
abbrev pub later_visits_in_tail : Job → (ℕ → ℕ) → ℕ → Ask → ℕ
later_visits_in_tail job draws steps ask =
    count_below steps (λ i. in_tail ask.tail (plan_value job (visit job draws job.start (suc i)) ask.score) (plan_value job job.start ask.score))

-- Besag and Clifford's serial test: `place` steps forward and the rest backward, which are taken as forward steps since
-- the chain is reversible; the start plan counts once
abbrev pub serial_rank : Job → Draws → ℕ → Ask → ℕ
serial_rank job draws place ask =
    visits_in_tail job (draws 8589934593) place ask + later_visits_in_tail job (draws 8589934594) (job.setting.steps - place) ask

abbrev pub serial_at : Job → Draws → ℕ → Serial
serial_at job draws place = record {
  place = place;
  moved = moves job (draws 8589934593) job.start place + moves job (draws 8589934594) job.start (job.setting.steps - place);
  ranks = take 4 (map (serial_rank job draws place) job.setting.asks ++ replicate 4 0);
}

-- the position of a draw in a run of this many plans
abbrev pub serial_place : ℕ → ℕ → ℕ
serial_place draw plans = draw % plans

-- the result of the serial test of a job
unfoldable pub serial_of : Job → Draws → Serial
serial_of job draws = serial_at job draws (serial_place (draws 8589934592 0) (job.setting.steps + 1))

abbrev pub place_and_ranks : Serial → ℕ × List ℕ
place_and_ranks s = (s.place, s.ranks)

-- its position and ranks, if the test is asked for
abbrev pub serial_by : Bool → Job → Draws → Option (ℕ × List ℕ)
serial_by true job draws = Some (place_and_ranks (serial_of job draws))
serial_by false job draws = None

abbrev pub serial_observed : Job → Draws → Option (ℕ × List ℕ)
serial_observed job draws = serial_by job.setting.serial job draws
