-- The options of a run do not change the outcomes, and the chains of a job's runs.
use Rattle.std.proofs.Common.{◌≡◌, ℕ, zero, suc, ◌+◌, ◌-◌, ◌*◌, ◌==◌, ◌⊎◌, inl, inr, ◌&&◌, ◌||◌, not, Bool, true, false, List, [], ◌∷◌, ◌++◌, length, map, drop, take, replicate, get_or, Option, Some, None, refl, sym, ap, ◌∙◌, subst}
use Rattle.std.specs.Prelude.{bytes_eq, codes, int_le, nat_le, nat_lt, pos, slice_range}
use Rattle.std.specs.List.{list_all}
use Rattle.std.specs.Ordering.{int_eq}
use Rattle.std.specs.Io.KnownBytes.{Appends}
use Rattle.std.proofs.Math.Path.{fun_ext}
use Rattle.audit_model.specs.Faults.{Rose}
use Rattle.audit_model.specs.Pair.{Pair, Stored}
use Rattle.audit_model.specs.Attempts.{Try}
use Rattle.audit_model.specs.declared.outcome.Outcome.{Outcome}
use Rattle.audit_model.specs.declared.outcome.Serial.{Serial}
use Rattle.audit_model.specs.declared.origin.Origin.{Origin}
use Rattle.audit_model.specs.declared.setting.Ask.{Ask}
use Rattle.audit_model.specs.declared.fault.CkptFault.{CkptFault}
use Rattle.audit_model.specs.Below.{all_below, count_below, map_below}
use Rattle.audit_model.specs.First.{first_below}
use Rattle.audit_model.specs.Job.{Job}
use Rattle.audit_model.specs.Plan.{is_legal}
use Rattle.audit_model.specs.Run.{IsConsistent, histogram_fits, fits, steps_of, total}
use Rattle.audit_model.specs.Serially.{place_and_ranks, serial_by, serial_of, serial_place, serial_rank}
use Rattle.audit_model.specs.Step.{next}
use Rattle.audit_model.specs.Stopping.{stops_by, stops_of}
use Rattle.audit_model.specs.Weight.{is_taken}
use Rattle.audit_model.specs.Trajectory.{Draws, without_histogram, bin_of, four_values, in_tail, empty_histogram, outcome, outcome_by, outcome_with, plan_seats, plan_value, sequence, value_at, visit, whole}
use Rattle.audit_statement.specs.Checkpoint.{checkpoint_fault, job_digest, stated_count}
use Rattle.audit_statement.specs.Slots.{IsConsistentSlot, Slot, absent, broken, checkpoint_limit, other, ours, outcome_in, slot_of, slot_of_bytes, slot_of_checkpoint, slot_of_digest, slot_of_ours, IsNotOurs}
use Rattle.audit_statement.specs.Histories.{AreCarriedOut, stopped_in}
use Rattle.ckpt_store.specs.Laws.{ConsistentSlotsOpenRight, RightIsConsistent, SavesLeaveConsistentSlots, StopsLeaveConsistentSlots}
use Rattle.audit_statement.specs.Draw.{draw}
use Rattle.hex.specs.Hex.{encode_lower}
use Rattle.audit_statement.specs.Report.{ends_lines, graph_line, line, moved_lines, origin_lines, pair_lines, population_line, report, report_by, rule_lines, serial_lines, setting_line, shift_line, stop_line, test_lines, thread_report, title_by, walk_lines, weight_line}
use Rattle.audit_statement.specs.Chain.{AreConsistentOf, ResumesFromConsistent, AttemptsOver}
use Rattle.audit_model.specs.Observed.{IfBothObserved, IfObserved}
use Rattle.audit_statement.specs.Endings.{WritesReport}
use Rattle.audit_statement.specs.Headline.{StartsWith, WritesOneThreads}
use Rattle.audit_statement.specs.Rerun.{FindTheSame, ChainsWriteOneReport, Event, HasWritten, IsEvent, IsLink, IsRunOver, Link, RunOptions, RerunsAreAlike, WroteOneThreads, asking, job_in, ran, rerun, slots_after, stopped}
use Rattle.audit_laws.proofs.Halted.{stop_stays}
use Rattle.audit_laws.proofs.Starting.{initial_outcomes_observed}
use Rattle.audit_laws.proofs.Chained.{rises_or_not}
use Rattle.audit_laws.proofs.Statuses.{job_is, report_of}

-- ---- outcomes as a function of the visited plans

abbrev Visits : Type 0
Visits = (ℕ → ℕ) → List ℕ → ℕ → List ℕ

abbrev moves_by : Visits → (ℕ → ℕ) → List ℕ → ℕ → ℕ
moves_by v draws plan steps = count_below steps (λ i. not (bytes_eq (v draws plan i) (v draws plan (suc i))))

abbrev tail_by : Visits → Job → (ℕ → ℕ) → ℕ → Ask → ℕ
tail_by v job draws steps ask =
    count_below (steps + 1)
    (λ i. in_tail ask.tail (plan_value job (v draws job.start i) ask.score) (plan_value job job.start ask.score))

abbrev bin_by : Visits → Job → (ℕ → ℕ) → ℕ → ℕ
bin_by v job draws bin =
    count_below (job.setting.steps + 1) (λ i. bin_of (plan_seats job (v draws job.start i)) (plan_seats job job.start) == bin)

abbrev walk_with : Visits → Job → Draws → ℕ → Outcome
walk_with v job draws id = record {
  id = id;
  moved = moves_by v (draws (2 * id)) job.start job.setting.steps;
  values = four_values (map (λ ask. pos (tail_by v job (draws (2 * id)) job.setting.steps ask)) job.setting.asks);
  bins = map_below 9 (bin_by v job (draws (2 * id)));
}

abbrev walk_by : Visits → Job → Draws → ℕ → Outcome
walk_by v job draws id = record {
  id = id;
  moved = moves_by v (draws (2 * id)) job.start job.setting.steps;
  values = four_values (map (λ ask. pos (tail_by v job (draws (2 * id)) job.setting.steps ask)) job.setting.asks);
  bins = empty_histogram;
}

abbrev hub_by : Visits → Job → Draws → List ℕ
hub_by v job draws = v (draws 1) job.start job.setting.hub_steps

abbrev later_by : Visits → Job → (ℕ → ℕ) → ℕ → Ask → ℕ
later_by v job draws steps ask =
    count_below steps (λ i. in_tail ask.tail (plan_value job (v draws job.start (suc i)) ask.score) (plan_value job job.start ask.score))

abbrev rank_by : Visits → Job → Draws → ℕ → Ask → ℕ
rank_by v job draws place ask = tail_by v job (draws 8589934593) place ask + later_by v job (draws 8589934594) (job.setting.steps - place) ask

abbrev serial_with : Visits → Job → Draws → ℕ → (Ask → ℕ) → Serial
serial_with v job draws place ranks = record {
  place = place;
  moved = moves_by v (draws 8589934593) job.start place + moves_by v (draws 8589934594) job.start (job.setting.steps - place);
  ranks = take 4 (map ranks job.setting.asks ++ replicate 4 0);
}

abbrev end_by : Visits → Job → Draws → ℕ → Outcome
end_by v job draws id = record {
  id = id;
  moved = moves_by v (draws (2 * (id - job.setting.walks) + 3)) (hub_by v job draws) job.setting.hub_steps;
  values = four_values (map (λ ask. plan_value job (v (draws (2 * (id - job.setting.walks) + 3)) (hub_by v job draws) job.setting.hub_steps) ask.score) job.setting.asks);
  bins = empty_histogram;
}

-- ---- tests and lines that are defined by cases

abbrev fits_by : ℕ → Bool → Job → Outcome → Bool
fits_by steps binned job o =
    nat_lt o.id (total job)
    && nat_le o.moved steps
    && list_all (λ v. int_eq v (pos 0)) (drop (length job.setting.asks) o.values)
    && (not (nat_lt o.id job.setting.walks)
    || all_below (length job.setting.asks) (λ k. int_le (pos 1) (value_at o k) && int_le (value_at o k) (pos (job.setting.steps + 1))))
    && binned

module _ (job : Job) (options : RunOptions) where
  abbrev again : Job
  again = rerun job options

  next_same : (plan : List ℕ) (d : ℕ) → next again plan d ≡ next job plan d
  unfolding next is_legal is_taken
  next_same plan d = refl

  visit_at : (draws : ℕ → ℕ) (plan : List ℕ) (i : ℕ) → visit again draws plan i ≡ visit job draws plan i
  unfolding visit
  visit_at draws plan zero = refl
  visit_at draws plan (suc i) = ap (λ q. next again q (draws i)) (visit_at draws plan i) ∙ next_same (visit job draws plan i) (draws i)

  visit_same : visit again ≡ visit job
  visit_same = fun_ext (λ draws. fun_ext (λ plan. fun_ext (λ i. visit_at draws plan i)))

  by_same : (b bins : Bool) (draws : Draws) (id : ℕ) → outcome_by b bins again draws id ≡ outcome_by b bins job draws id
  by_same true true draws id = ap (λ (v : Visits). walk_with v job draws id) visit_same
  by_same true false draws id = ap (λ (v : Visits). walk_by v job draws id) visit_same
  by_same false bins draws id = ap (λ (v : Visits). end_by v job draws id) visit_same

  outcome_same : options.shift ≡ job.setting.shift → (draws : Draws) (id : ℕ) → outcome again draws id ≡ outcome job draws id
  outcome_same same draws id = by_same (nat_lt id job.setting.walks) options.shift draws id ∙ ap (λ (b : Bool). outcome_with b job draws id) same

  whole_same : (draws : Draws) (id : ℕ) → whole again draws id ≡ whole job draws id
  whole_same draws id = by_same (nat_lt id job.setting.walks) true draws id

  sequence_same : options.shift ≡ job.setting.shift → (draws : Draws) → sequence again draws ≡ sequence job draws
  unfolding sequence
  sequence_same same draws = ap (λ (f : ℕ → Outcome). map_below (job.setting.walks + job.setting.ends) f) (fun_ext (λ id. outcome_same same draws id))

  digest_same : job_digest again ≡ job_digest job
  unfolding job_digest
  digest_same = refl

  -- the job with this run's requests for the text
  abbrev asked : Job
  asked = record job {
    setting = record job.setting { shift = options.shift; pairs = options.pairs; blind = options.blind };
    origin = options.origin;
  }

  asked_origin : (origin : Option Origin) → origin_lines again origin ≡ origin_lines asked origin
  asked_origin None = refl
  asked_origin (Some origin) = refl

  asked_ends : (ends : ℕ) (outcomes : List Outcome) → ends_lines ends again outcomes ≡ ends_lines ends asked outcomes
  asked_ends zero outcomes = refl
  asked_ends (suc ends) outcomes = refl

  asked_tests : (enough : ℕ) (outcomes : List Outcome) (stops : List (List ℕ)) → test_lines enough again outcomes stops ≡ test_lines enough asked outcomes stops
  asked_tests zero outcomes stops = asked_ends job.setting.ends outcomes
  asked_tests (suc h) outcomes stops = refl

  asked_serial : (serial : Option (ℕ × List ℕ)) → serial_lines again serial ≡ serial_lines asked serial
  asked_serial None = refl
  asked_serial (Some found) = refl

  asked_pairs : (b : Bool) (outcomes : List Outcome) → pair_lines b again outcomes ≡ pair_lines b asked outcomes
  asked_pairs true outcomes = refl
  asked_pairs false outcomes = refl

  -- the head of the text behind its title, with these lines of the origin
  abbrev behind : List ℕ → List ℕ
  behind head =
      title_by options.blind options.shift
      ++ head
      ++ line (codes "key" ∷ encode_lower job.setting.key ∷ [])
      ++ graph_line asked
      ++ population_line asked
      ++ rule_lines asked
      ++ weight_line asked
      ++ setting_line asked
      ++ stop_line job.setting.stop

  -- the whole text with these lines of the origin, of pairs, of the tests and of the serial test
  abbrev found_by : List Outcome → List ℕ → List ℕ → List ℕ → List ℕ → List ℕ
  found_by outcomes head two tests rest = behind head ++ walk_lines asked outcomes ++ two ++ shift_line options.shift outcomes ++ tests ++ rest ++ line (codes "end" ∷ [])

  asked_by : (b : Bool) (outcomes : List Outcome) (stops : List (List ℕ)) (serial : Option (ℕ × List ℕ)) → report_by b again outcomes stops serial ≡ report_by b asked outcomes stops serial
  asked_by true outcomes stops serial = ap (λ (head : List ℕ). behind head ++ moved_lines asked outcomes ++ line (codes "end" ∷ [])) (asked_origin options.origin)
  asked_by false outcomes stops serial =
      ap (λ (head : List ℕ). found_by outcomes head (pair_lines options.pairs again outcomes) (test_lines job.setting.stop again outcomes stops) (serial_lines again serial)) (asked_origin options.origin)
      ∙ ap (λ (two : List ℕ). found_by outcomes (origin_lines asked options.origin) two (test_lines job.setting.stop again outcomes stops) (serial_lines again serial)) (asked_pairs options.pairs outcomes)
      ∙ ap (λ (tests : List ℕ). found_by outcomes (origin_lines asked options.origin) (pair_lines options.pairs asked outcomes) tests (serial_lines again serial)) (asked_tests job.setting.stop outcomes stops)
      ∙ ap (λ (rest : List ℕ). found_by outcomes (origin_lines asked options.origin) (pair_lines options.pairs asked outcomes) (test_lines job.setting.stop asked outcomes stops) rest) (asked_serial serial)

  -- the job with these requests
  abbrev requesting : Bool → Bool → Bool → Option Origin → Job
  requesting shift pairs blind origin = record job { setting = record job.setting { shift = shift; pairs = pairs; blind = blind }; origin = origin }

  report_same : options.shift ≡ job.setting.shift → options.origin ≡ job.origin → options.pairs ≡ job.setting.pairs → options.blind ≡ job.setting.blind
      → (outcomes : List Outcome) (stops : List (List ℕ)) (serial : Option (ℕ × List ℕ)) → report again outcomes stops serial ≡ report job outcomes stops serial
  unfolding report
  report_same same from two blind outcomes stops serial =
      asked_by options.blind outcomes stops serial
      ∙ ap (λ (b : Bool). report (requesting b options.pairs options.blind options.origin) outcomes stops serial) same
      ∙ ap (λ (o : Option Origin). report (requesting job.setting.shift options.pairs options.blind o) outcomes stops serial) from
      ∙ ap (λ (b : Bool). report (requesting job.setting.shift b options.blind job.origin) outcomes stops serial) two
      ∙ ap (λ (b : Bool). report (requesting job.setting.shift job.setting.pairs b job.origin) outcomes stops serial) blind

  rank_same : (draws : Draws) (place : ℕ) (ask : Ask) → serial_rank again draws place ask ≡ serial_rank job draws place ask
  rank_same draws place ask = ap (λ (v : Visits). rank_by v job draws place ask) visit_same

  serially_same : (draws : Draws) → serial_of again draws ≡ serial_of job draws
  unfolding serial_of
  serially_same draws =
      let place = serial_place (draws 8589934592 0) (job.setting.steps + 1) in
      ap (λ (v : Visits). serial_with v job draws place (serial_rank again draws place)) visit_same
      ∙ ap (λ (ranks : Ask → ℕ). serial_with (visit job) job draws place ranks) (fun_ext (rank_same draws place))

  observed_same : (b : Bool) (draws : Draws) → serial_by b again draws ≡ serial_by b job draws
  observed_same true draws = ap (λ (s : Serial). Some (place_and_ranks s)) (serially_same draws)
  observed_same false draws = refl

  stops_by_same : (enough : ℕ) (outcomes : List Outcome) → stops_by enough again outcomes ≡ stops_by enough job outcomes
  stops_by_same zero outcomes = refl
  stops_by_same (suc h) outcomes = refl

  stops_same : (outcomes : List Outcome) → stops_of again outcomes ≡ stops_of job outcomes
  stops_same outcomes = stops_by_same job.setting.stop outcomes

  -- the whole report, with the lines of the serial test exactly if this run requests them
  thread_report_is : options.shift ≡ job.setting.shift → options.origin ≡ job.origin → options.pairs ≡ job.setting.pairs → options.blind ≡ job.setting.blind → (draws : Draws)
      → thread_report again draws ≡ report job (sequence job draws) (stops_of job (sequence job draws)) (serial_by options.serial job draws)
  unfolding thread_report
  thread_report_is same from two blind draws =
      ap (λ (stops : List (List ℕ)). report again (sequence again draws) stops (serial_by options.serial again draws)) (stops_same (sequence again draws))
      ∙ report_same same from two blind (sequence again draws) (stops_of job (sequence again draws)) (serial_by options.serial again draws)
      ∙ ap (λ (os : List Outcome). report job os (stops_of job os) (serial_by options.serial again draws)) (sequence_same same draws)
      ∙ ap (λ (found : Option (ℕ × List ℕ)). report job (sequence job draws) (stops_of job (sequence job draws)) found) (observed_same options.serial draws)

  steps_same : (b : Bool) → steps_of b again ≡ steps_of b job
  steps_same true = refl
  steps_same false = refl

  histogram_same : (b : Bool) (o : Outcome) → histogram_fits b again o ≡ histogram_fits b job o
  histogram_same true o = refl
  histogram_same false o = refl

  fits_same : (o : Outcome) → fits again o ≡ fits job o
  fits_same o =
      ap (λ (n : ℕ). fits_by n (histogram_fits (nat_lt o.id job.setting.walks) again o) job o) (steps_same (nat_lt o.id job.setting.walks))
      ∙ ap (λ (b : Bool). fits_by (steps_of (nat_lt o.id job.setting.walks) job) b job o) (histogram_same (nat_lt o.id job.setting.walks) o)

  of_digest_same : (bytes : List ℕ) (b : Bool) → slot_of_digest again bytes b ≡ slot_of_digest job bytes b
  of_digest_same bytes false = refl
  of_digest_same bytes true =
      ap (λ (unfit : ℕ → Bool). slot_of_ours bytes (first_below (stated_count bytes) unfit)) (fun_ext (λ k. ap not (fits_same (outcome_in bytes k))))

  of_checkpoint_same : (digest bytes : List ℕ) (f : Option CkptFault) → slot_of_checkpoint again digest bytes f ≡ slot_of_checkpoint job digest bytes f
  of_checkpoint_same digest bytes (Some f) = refl
  of_checkpoint_same digest bytes None = of_digest_same bytes (bytes_eq (slice_range bytes 12 44) digest)

  of_bytes_same : (digest bytes : List ℕ) (b : Bool) → slot_of_bytes again digest bytes b ≡ slot_of_bytes job digest bytes b
  of_bytes_same digest bytes true = refl
  of_bytes_same digest bytes false = of_checkpoint_same digest bytes (checkpoint_fault bytes)

  stored_same : (digest : List ℕ) (s : Stored) → slot_of again digest s ≡ slot_of job digest s
  stored_same digest None = refl
  stored_same digest (Some bytes) = of_bytes_same digest bytes (nat_lt checkpoint_limit (length bytes))

  slot_same : (s : Stored) → slot_of again (job_digest again) s ≡ slot_of job (job_digest job) s
  slot_same s = ap (λ d. slot_of again d s) digest_same ∙ stored_same (job_digest job) s

  found_same : (draws : Draws) (o : Outcome) → (o ≡ whole job draws o.id) ⊎ (o ≡ without_histogram (whole job draws o.id))
      → (o ≡ whole again draws o.id) ⊎ (o ≡ without_histogram (whole again draws o.id))
  found_same draws o (inl e) = inl (e ∙ sym (whole_same draws o.id))
  found_same draws o (inr e) = inr (e ∙ ap without_histogram (sym (whole_same draws o.id)))

  runs_consistent : (draws : Draws) (outcomes : List Outcome) → IsConsistent job draws outcomes → IsConsistent again draws outcomes
  runs_consistent draws outcomes consistent = record {
    apart = consistent.apart;
    below = consistent.below;
    found = λ k d inside. found_same draws (get_or outcomes k d) (consistent.found k d inside);
  }

  consistent_slot : (draws : Draws) (s : Slot) → IsConsistentSlot job draws s → IsConsistentSlot again draws s
  consistent_slot draws absent h = tt
  consistent_slot draws (broken f) h = tt
  consistent_slot draws (other digest generation) h = tt
  consistent_slot draws (ours generation outcomes) h = runs_consistent draws outcomes h

  consistent_same : (p : Pair) → AreConsistentOf job p → AreConsistentOf again p
  consistent_same p h = record {
    zero_slot = subst (IsConsistentSlot again (draw job.setting.key)) (sym (slot_same p.zero_slot)) (consistent_slot (draw job.setting.key) _ h.zero_slot);
    one_slot = subst (IsConsistentSlot again (draw job.setting.key)) (sym (slot_same p.one_slot)) (consistent_slot (draw job.setting.key) _ h.one_slot);
  }

-- the law that the options of a run do not change the outcomes
pub reruns_are_alike : RerunsAreAlike
reruns_are_alike job options = record {
  same_digest = digest_same job options;
  same_whole = whole_same job options;
  same_fits = fits_same job options;
  same_serial = serially_same job options;
  same_consistent = consistent_same job options;
  same_outcome = outcome_same job options;
  same_sequence = sequence_same job options;
  same_stops = stops_same job options;
  same_report = report_same job options;
}

-- the job's own options
abbrev own : Job → RunOptions
own job = record {
  command = job.setting.command;
  workers = job.setting.workers;
  budget = job.setting.budget;
  save_every = job.setting.save_every;
  resume = job.setting.resume;
  shift = job.setting.shift;
  serial = job.setting.serial;
  parts = job.setting.parts;
  part = job.setting.part;
  source = job.setting.source;
  first_id = job.setting.first_id;
  last_id = job.setting.last_id;
  thin = job.setting.thin;
  pairs = job.setting.pairs;
  blind = job.setting.blind;
  origin = job.origin;
}

-- the job's own options, with another run's requests
abbrev requests : Job → RunOptions → RunOptions
requests job options = record (own job) { shift = options.shift; serial = options.serial; pairs = options.pairs; blind = options.blind; origin = options.origin }

-- the options of a run do not change the report
thread_report_same : (job : Job) (options : RunOptions) → options.shift ≡ job.setting.shift → options.origin ≡ job.origin → options.pairs ≡ job.setting.pairs
    → options.blind ≡ job.setting.blind → (draws : Draws) → thread_report (rerun job options) draws ≡ thread_report (asking job options) draws
thread_report_same job options same from two blind draws =
    thread_report_is job options same from two blind draws ∙ sym (thread_report_is job (requests job options) same from two blind draws)

-- ---- chains

-- the job is a rerun of its rerun
back_from : (job : Job) (options : RunOptions) → FindTheSame (rerun job options) job
back_from job options = reruns_are_alike (rerun job options) (own job)

back_again : (job : Job) (l : Link) → FindTheSame (job_in job l) job
back_again job l = reruns_are_alike (job_in job l) (own job)

-- all attempts as they ended
stopped_after : (attempts : List Try) → stopped_in (length attempts) attempts ≡ attempts
stopped_after [] = refl
stopped_after (t ∷ attempts) = ap (λ (ts : List Try). t ∷ ts) (stopped_after attempts)

module _ (law : SavesLeaveConsistentSlots) (job : Job) (p : Pair) (l : Link) (consistent : AreConsistentOf job p) where
  consistent_here : AreConsistentOf (job_in job l) p
  consistent_here = consistent_same job l.options p consistent

  resumes : (o : IsRunOver job p l) → ResumesFromConsistent (job_in job l) l.before
  resumes o = λ _. subst (λ (s : Option Pair). IfObserved s (AreConsistentOf (job_in job l))) (sym o.found) consistent_here

  attempts_of : (o : IsRunOver job p l) → AttemptsOver (job_in job l) l.before l.after p l.status o.observed o.now
  attempts_of o = both_observed l.before.keeper.attempted l.after.keeper.attempted o.observed o.now (AttemptsOver (job_in job l) l.before l.after p l.status) o.observed_is o.now_is (o.attempted (job_in job l) p o.the_job o.found)
    where
      both_observed : (a b : Option (List Try)) (x y : List Try) (P : List Try → List Try → Type 0) → a ≡ Some x → b ≡ Some y → IfBothObserved a b P → P x y
      both_observed a b x y P e f h = subst (λ (s : Option (List Try)). IfBothObserved s (Some y) P) e (subst (λ (s : Option (List Try)). IfBothObserved a s P) f h)

  stays_where : (o : IsRunOver job p l) (n : ℕ) (q : Pair)
      → AreCarriedOut IsNotOurs (job_in job l) (job_digest (job_in job l)) p (stopped_in n (attempts_of o).attempts) q → AreConsistentOf job q
  stays_where o n q out =
      (back_again job l).same_consistent q
      (law (job_in job l) (draw (job_in job l).setting.key) (job_digest (job_in job l)) p q (attempts_of o).attempts n ((attempts_of o).right (resumes o)) out consistent_here)

  link_stays : IsLink job p l → AreConsistentOf job l.slots
  link_stays link = by (rises_or_not l.before.keeper.save_faults l.after.keeper.save_faults)
    where
      by : Rose l.before.keeper.save_faults l.after.keeper.save_faults ⊎ (Rose l.before.keeper.save_faults l.after.keeper.save_faults → ⊥) → AreConsistentOf job l.slots
      by (inl rose) =
          let t = attempts_of link.over in
          stays_where link.over (length t.attempts) l.slots
          (subst (λ (ts : List Try). AreCarriedOut IsNotOurs (job_in job l) (job_digest (job_in job l)) p ts l.slots) (sym (stopped_after t.attempts)) (link.carried rose t))
      by (inr no_save_failed) =
          (back_again job l).same_consistent l.slots (link.promised.chain.stays (job_in job l) p l.slots link.over.the_job link.over.found link.left consistent_here no_save_failed)

  -- a link with status 0 has known initial outcomes
  link_started : IsLink job p l → l.status ≡ 0 → (outcomes : List Outcome) × StartsWith l.words l.before (job_in job l) outcomes
  link_started link z =
      let d = link.promised.causes.zero_only z in
      let same : d.job ≡ job_in job l = job_is l.words l.before l.after (job_in job l) d.job link.over.the_job d.prepared in
      let r : WritesReport true (job_in job l) l.before l.after = report_of l.words l.before l.after true (job_in job l) d.job link.walking same d.written in (
        r.outcomes,
        record {
          the_job = link.over.the_job;
          walking = link.walking;
          opened = initial_outcomes_observed (job_in job l) l.before.keeper.slots p r.outcomes link.over.found r.opened;
        },
      )

  asked_alike : IsLink job p l → WritesOneThreads (job_in job l) l.before l.after → WroteOneThreads job l
  asked_alike link wrote =
      subst (λ (text : List ℕ). Appends l.before.out.bytes l.after.out.bytes text)
      (thread_report_same (asking job l.options) l.options refl refl refl refl (draw job.setting.key))
      wrote

  link_wrote : IsLink job p l → HasWritten job (ran l)
  link_wrote link = record {
    done = λ z. let s = link_started link z in asked_alike link (link.promised.chain.one_thread (job_in job l) s.0 s.1 (resumes link.over) z);
    save_failed = λ outcomes s none z.
        asked_alike link (link.promised.written.save_failed (job_in job l) outcomes s (link.promised.chain.opens_right (job_in job l) outcomes s (resumes link.over)) z none);
  }

-- each event leaves consistent slots consistent
pub event_stays : ConsistentSlotsOpenRight → RightIsConsistent → StopsLeaveConsistentSlots → SavesLeaveConsistentSlots → (job : Job) (p : Pair) (e : Event) → AreConsistentOf job p → IsEvent job p e
    → AreConsistentOf job (slots_after e)
event_stays opens rights stops law job p (ran l) consistent is = link_stays law job p l consistent is
event_stays opens rights stops law job p (stopped options attempts q) consistent is =
    (back_from job options).same_consistent q (stop_stays opens rights stops (rerun job options) p q attempts is.so_far is.carried (consistent_same job options p consistent))

-- a run from consistent slots that ends well has written one thread's report
pub event_wrote : SavesLeaveConsistentSlots → (job : Job) (p : Pair) (e : Event) → AreConsistentOf job p → IsEvent job p e → HasWritten job e
event_wrote law job p (ran l) consistent is = link_wrote law job p l consistent is
event_wrote law job p (stopped options attempts q) consistent is = tt

-- each run of any chain has written one thread's report
pub chains_write_one_report : ConsistentSlotsOpenRight → RightIsConsistent → StopsLeaveConsistentSlots → SavesLeaveConsistentSlots → ChainsWriteOneReport
chains_write_one_report opens rights stops law job p [] consistent chain = tt
chains_write_one_report opens rights stops law job p (e ∷ events) consistent chain = (
  event_wrote law job p e consistent chain.0,
  chains_write_one_report opens rights stops law job (slots_after e) events (event_stays opens rights stops law job p e consistent chain.0) chain.1,
)
