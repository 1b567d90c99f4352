-- The parallel test that stops early, once enough endpoints are in the tail. Besag and Clifford 1991. It looks at a
-- list of all values; the code walks in rounds and asks after each.
use Rattle.std.specs.Prelude.{ℕ, zero, suc, ◌+◌, ◌==◌, ◌||◌, Bool, true, false, not, nat_le, List, [], ◌∷◌, length, map, take, filter, find, count_by, Option, Some, None, unwrap_or, option_map, ℤ, pos}
use Rattle.std.specs.List.{enumerate_from}
use Rattle.audit_model.specs.declared.outcome.Outcome.{Outcome}
use Rattle.audit_model.specs.declared.outcome.Stop.{Stop}
use Rattle.audit_model.specs.declared.setting.Ask.{Ask}
use Rattle.audit_model.specs.declared.setting.Tail.{Tail}
use Rattle.audit_model.specs.Below.{map_below}
use Rattle.audit_model.specs.First.{first_below}
use Rattle.audit_model.specs.Job.{Job}
use Rattle.audit_model.specs.Run.{has_id}
use Rattle.audit_model.specs.Trajectory.{in_tail, plan_value, value_at}

-- the number of values in the tail
abbrev pub count_in_tail : Tail → ℤ → List ℤ → ℕ
count_in_tail tail start values = count_by (λ v. in_tail tail v start) values

-- stopped at the first length with enough values in the tail, whose share is the p-value
abbrev pub stopped_at : ℕ → Tail → ℤ → List ℤ → Option ℕ → Stop
stopped_at enough tail start values (Some place) = record { place = place; top = enough; of = place }
stopped_at enough tail start values None =
    record { place = length values; top = count_in_tail tail start values + 1; of = length values + 1 }

-- Besag and Clifford's sequential p-value: values are drawn until enough of them are in the tail, or all are drawn
abbrev pub stop : Tail → ℤ → List ℤ → ℕ → Stop
stop tail start values enough =
    stopped_at enough tail start values (first_below (length values + 1) (λ n. count_in_tail tail start (take n values) == enough))

-- the asks with their places
abbrev pub placed_asks : Job → List (ℕ × Ask)
placed_asks job = enumerate_from 0 job.setting.asks

-- the stop of an ask, from the values of the endpoints in order
abbrev pub stop_of : Job → ℕ × Ask → List ℤ → ℕ → Stop
stop_of job ask values enough = stop ask.1.tail (plan_value job job.start ask.1.score) values enough

-- the values of the endpoints for the ask at a place
abbrev pub end_values : Job → ℕ → List Outcome → List ℤ
end_values job place outcomes = map (λ o. value_at o place) (filter (λ o. nat_le job.setting.walks o.id) outcomes)

abbrev pub three_numbers : Stop → List ℕ
three_numbers s = s.place ∷ s.top ∷ s.of ∷ []

-- the stop of each ask, if tests stop early
abbrev pub stops_by : ℕ → Job → List Outcome → List (List ℕ)
stops_by zero job outcomes = []
stops_by (suc h) job outcomes = map (λ ask. three_numbers (stop_of job ask (end_values job ask.0 outcomes) (suc h))) (placed_asks job)

abbrev pub stops_of : Job → List Outcome → List (List ℕ)
stops_of job outcomes = stops_by job.setting.stop job outcomes

-- ---- decided while endpoints are missing

-- the number of endpoints before the first missing one
abbrev pub ends_before_gap : Job → List Outcome → ℕ
ends_before_gap job outcomes =
    unwrap_or (first_below job.setting.ends (λ j. not (has_id outcomes (job.setting.walks + j)))) job.setting.ends

-- the value of the outcome with an id
abbrev pub value_with_id : ℕ → List Outcome → ℕ → ℤ
value_with_id place outcomes id = unwrap_or (option_map (λ o. value_at o place) (find (λ o. o.id == id) outcomes)) (pos 0)

-- the values of these endpoints by rising id
abbrev pub known_values : Job → ℕ → List Outcome → List ℤ
known_values job place outcomes = map_below (ends_before_gap job outcomes) (λ j. value_with_id place outcomes (job.setting.walks + j))

abbrev pub some_if : Bool → Stop → Option Stop
some_if true s = Some s
some_if false s = None

-- the stop, if enough of these values are in the tail or no endpoint is missing
abbrev pub stop_of_known_by : Job → ℕ × Ask → ℕ → List ℤ → Option Stop
stop_of_known_by job ask enough values = some_if
    (nat_le enough (count_in_tail ask.1.tail (plan_value job job.start ask.1.score) values) || (length values == job.setting.ends))
    (stop_of job ask values enough)

-- the stop that the outcomes decide for an ask and its place
abbrev pub stop_of_known : Job → ℕ × Ask → ℕ → List Outcome → Option Stop
stop_of_known job ask enough outcomes = stop_of_known_by job ask enough (known_values job ask.0 outcomes)
