-- Facts about runs.
use Rattle.std.proofs.Common.{◌≡◌, ◌⊎◌, inl, inr, ℕ, zero, suc, ◌+◌, ◌<◌, ◌≤◌, ◌||◌, not, Bool, true, false, List, [], ◌∷◌, ◌++◌, length, map, refl, sym, subst, ap, ◌∙◌, cond, length-append, get_or, Option, Some, None, All, AllPairs, arith}
use Rattle.std.specs.Prelude.{IsTrue, IsPermutation, ◌==◌, find}
use Rattle.std.specs.List.{list_all}
use Rattle.std.proofs.lemmas.Bool.{cases_order, eqb-true, le-ltb, lt-ltb, ltb-true, and_from, and_parts, ne_eqb}
use Rattle.std.proofs.lemmas.List.{get_or-map, map-append, length-map}
use Rattle.std.proofs.lemmas.List.Elements.{All-append, All-map}
use Rattle.std.proofs.lemmas.List.Sorted.{All-permutation, IsPermutation-sym, length_permutation}
use Rattle.audit_model.specs.Apart.{AllApart}
use Rattle.audit_model.specs.Below.{filter_below, map_below}
use Rattle.audit_model.specs.declared.outcome.Outcome.{Outcome}
use Rattle.audit_model.specs.declared.setting.Command.{Command}
use Rattle.audit_model.specs.declared.setting.Command.TheVariants.{Check, Run, Make, Plans, Trace}
use Rattle.audit_model.specs.declared.setting.Setting.{Setting}
use Rattle.audit_model.specs.Graph.{has}
use Rattle.audit_model.specs.Job.{Job}
use Rattle.audit_model.specs.Limits.{IsRunSetting, IsSettingOf}
use Rattle.audit_model.specs.Run.{total, has_id, run_ids, fits, kept_or, outcome_from, full}
use Rattle.audit_statement.specs.Checkpoint.{AreRising}
use Rattle.ckpt_store.specs.Fitting.{AreFit}
use Rattle.audit_model.proofs.Fitting as fitting
use Rattle.audit_model.proofs.Below.{length-filter_below}
use Rattle.audit_model.proofs.ListFacts.{find_passes}
use Rattle.audit_statement.specs.Draw.{draw}
use Rattle.outcome_book.specs.Booked.{AreApart}
use Rattle.report.specs.Outcomes.{AreOutcomesOf, AreStopsBy, AreStopsOf, reported, reported_by}
use Rattle.audit_statement.specs.Endings.{is_walking, leaves_work, pending, to_walk, full_of}
use Rattle.audit_laws.specs.Runs.{AcceptedJobsAreRuns, AreAll, IsRunJob}
use Rattle.claim_counter.specs.Walks.{found}
use Rattle.audit_laws.proofs.Counting.{few_run_ids, pending_rest, walks_all}
use Rattle.audit_laws.proofs.Starting.{every_id}
use Rattle.audit_laws.proofs.Words.{accepted_words_are_even, accepted_words_cover, accepted_words_stop_alone}

-- ---- facts about the job

-- the setting of a command that walks is that of a run
run_setting_by : (command : Command) (setting : Setting) → is_walking command ≡ true → IsSettingOf command setting → IsRunSetting setting
run_setting_by Check setting walking within = cc
run_setting_by Run setting walking within = within
run_setting_by Make setting walking within = within
run_setting_by Plans setting walking within = within
run_setting_by Trace setting walking within = cc

-- the setting of a run is within the limits of a run
pub run_setting : (job : Job) → IsRunJob job → IsRunSetting job.setting
run_setting job run = run_setting_by job.setting.command job.setting run.walking run.sound.within.setting.command

-- a job of accepted arguments that is walked is a run
pub accepted_jobs_are_runs : AcceptedJobsAreRuns
accepted_jobs_are_runs words job words_are sound walking =
    record {
      sound = sound;
      walking = walking;
      covered = accepted_words_cover words job.setting words_are walking;
      alone = accepted_words_stop_alone words job.setting words_are;
      even = accepted_words_are_even words job.setting words_are;
    }

-- no test stops early
pub no_stops : (job : Job) → job.setting.stop ≡ 0 → AreStopsOf job []
no_stops job plain = subst (λ (n : ℕ). AreStopsBy n job []) (sym plain) refl

-- without early stops, the report covers all trajectories
pub reports_all : (job : Job) → job.setting.stop ≡ 0 → reported job ≡ total job
reports_all job plain = ap (λ (n : ℕ). reported_by n job) plain

-- the ids walked are at most the trajectories
pub few_ids : (job : Job) (outcomes : List Outcome) (budget : ℕ) → length (run_ids job outcomes budget) ≤ total job
few_ids job outcomes budget = omega (arith, few_run_ids job outcomes budget, length-filter_below (total job) (λ id. not (has_id outcomes id)))

-- a run has at most 100000 ids to do
pub few_run_todo : (job : Job) → IsRunJob job → (ids : List ℕ) (outcomes : List Outcome) (budget : ℕ) → ids ≡ run_ids job outcomes budget → length ids ≤ 100000
few_run_todo job run ids outcomes budget same = omega (arith, ap length same, few_ids job outcomes budget, (run_setting job run).few)

-- a run that saves nothing has one part
pub one_part : (job : Job) → IsRunJob job → job.setting.save_every ≡ 0 → (job.setting.parts ≡ 1) × (job.setting.part ≡ 0)
one_part job run none = by (cases_order job.setting.parts 1)
  where
    by : (job.setting.parts ≡ 1) ⊎ ((job.setting.parts < 1) ⊎ (1 < job.setting.parts)) → (job.setting.parts ≡ 1) × (job.setting.part ≡ 0)
    by (inl one) = (one, omega (arith, one, run.sound.within.setting.part.one_of))
    by (inr (inl fewer)) = absurd (omega (arith, fewer, run.sound.within.setting.part.some))
    by (inr (inr more)) = absurd (omega (arith, none, run.sound.within.setting.part.saves (omega (arith, more))))

-- a run that saves nothing leaves nothing pending
pub leaves_none : (job : Job) (outcomes : List Outcome) → IsRunJob job → job.setting.save_every ≡ 0 → leaves_work job outcomes ≡ false
leaves_none job outcomes run none =
    let whole = one_part job run none in
    le-ltb (to_walk job outcomes) (pending job outcomes) (walks_all job outcomes job.setting.budget whole.0 whole.1 (run.covered none))

-- ---- plausible outcomes

-- in a rising list, all later numbers are above the first
pub rising_above : (x : ℕ) (ids : List ℕ) → AreRising (x ∷ ids) → All (λ y. x < y) ids
rising_above x [] rising k d inside = absurd (omega arith)
rising_above x (y ∷ ids) rising zero d inside = rising.0
rising_above x (y ∷ ids) rising (suc k) d inside = let above = rising_above y ids rising.1 k d (omega arith) in let first = rising.0 in omega arith

-- a rising list still rises after the first number is removed
pub rising_rest : (x : ℕ) (ids : List ℕ) → AreRising (x ∷ ids) → AreRising ids
rising_rest x [] rising = tt
rising_rest x (y ∷ ids) rising = rising.1

-- a list of numbers above a number does not contain it
has_none : (x : ℕ) (ids : List ℕ) → All (λ y. x < y) ids → has ids x ≡ false
has_none x [] above = refl
has_none x (y ∷ ids) above =
    let first = above 0 y (omega arith) in
    rw (ne_eqb y x (λ (e : y ≡ x). absurd (omega (arith, e, first)))) (has_none x ids (λ k d inside. above (suc k) d (omega arith)))

-- rising ids occur once each
pub rising_once : (ids : List ℕ) → AreRising ids → AllApart ids
rising_once [] rising = tt
rising_once (x ∷ ids) rising = (has_none x ids (rising_above x ids rising), rising_once ids (rising_rest x ids rising))

-- outcomes with rising ids have different ids
pub rising_apart : (outcomes : List Outcome) → AreRising (map (λ o. o.id) outcomes) → AreApart outcomes
rising_apart [] rising i j d before inside same = absurd (omega arith)
rising_apart (x ∷ xs) rising zero zero d before inside same = absurd (omega arith)
rising_apart (x ∷ xs) rising zero (suc j) d before inside same =
    let more : x.id < (get_or xs j d).id = subst (λ n. x.id < n) (get_or-map (λ (o : Outcome). o.id) xs j d 0 (omega arith))
    (rising_above x.id (map (λ o. o.id) xs) rising j 0 (omega (arith, inside, length-map xs (λ (o : Outcome). o.id)))) in
    absurd (omega (arith, more, same))
rising_apart (x ∷ xs) rising (suc i) zero d before inside same = absurd (omega arith)
rising_apart (x ∷ xs) rising (suc i) (suc j) d before inside same =
    rising_apart xs (rising_rest x.id (map (λ o. o.id) xs) rising) i j d (omega arith) (omega arith) same

-- a plausible outcome has an id of the job
pub fit_below : (job : Job) (o : Outcome) → fits job o ≡ true → o.id < total job
fit_below job o fit = ltb-true o.id (total job) (and_parts _ _ (and_parts _ _ (and_parts _ _ (and_parts _ _ fit).0).0).0).0

-- plausible outcomes have ids below the total
pub all_below_total : (job : Job) (outcomes : List Outcome) → All (λ o. IsTrue (fits job o)) outcomes → All (λ o. o.id < total job) outcomes
all_below_total job outcomes fit k d inside = fit_below job (get_or outcomes k d) (fit k d inside)

-- all outcomes are plausible, in both forms
pub fit_list : (job : Job) (outcomes : List Outcome) → All (λ o. IsTrue (fits job o)) outcomes → list_all (fits job) outcomes ≡ true
fit_list job [] fit = refl
fit_list job (x ∷ xs) fit = and_from (fits job x) (list_all (fits job) xs) (fit 0 x (omega arith)) (fit_list job xs (λ k d inside. fit (suc k) d (omega arith)))

-- ---- all outcomes

-- the initial outcomes and those found are plausible, in any order
pub found_fit : (job : Job) → IsRunJob job → (initial_outcomes : List Outcome) (todo : List ℕ) (outcomes : List Outcome) → AreFit job initial_outcomes → All (λ id. id < total job) todo
    → IsPermutation outcomes (initial_outcomes ++ map (found job) todo) → All (λ o. IsTrue (fits job o)) outcomes
unfolding found
found_fit job run initial_outcomes todo outcomes fit within moved =
    All-permutation (λ (o : Outcome). IsTrue (fits job o)) (initial_outcomes ++ map (found job) todo) outcomes
    (IsPermutation-sym outcomes (initial_outcomes ++ map (found job) todo) moved)
    (All-append (λ (o : Outcome). IsTrue (fits job o)) initial_outcomes (map (found job) todo) fit.fit
    (All-map (λ (o : Outcome). IsTrue (fits job o)) (found job) todo
    (λ k d inside. fitting.found_fits job (draw job.setting.key) job.setting.shift (run_setting job run).few_asks (get_or todo k d) (within k d inside))))

-- outcomes by rising id have rising ids
pairs_rise : (outcomes : List Outcome) → AllPairs (λ a b. a.id < b.id) outcomes → AreRising (map (λ o. o.id) outcomes)
pairs_rise [] rising = tt
pairs_rise (x ∷ []) rising = tt
pairs_rise (x ∷ y ∷ xs) rising =
    (rising 0 1 x (omega arith) (omega arith), pairs_rise (y ∷ xs) (λ i j d before inside. rising (suc i) (suc j) d (omega arith) (omega arith)))

-- the outcomes of a run by rising id are the initial and the walked ones
pub are_all : (job : Job) → IsRunJob job → (initial_outcomes kept : List Outcome) (todo : List ℕ) (sorted : List Outcome) → kept ≡ initial_outcomes → AreFit job initial_outcomes
    → todo ≡ run_ids job initial_outcomes job.setting.budget → All (λ id. id < total job) todo
    → ((budget : ℕ) → todo ≡ run_ids job kept budget → sorted ≡ full job (draw job.setting.key) kept budget)
    → IsPermutation sorted (kept ++ map (found job) todo) → AllPairs (λ a b. a.id < b.id) sorted → AreAll job initial_outcomes sorted
are_all job run initial_outcomes kept todo sorted same start ids within fullness moved rising =
    let here : IsPermutation sorted (initial_outcomes ++ map (found job) todo) = subst (λ os. IsPermutation sorted (os ++ map (found job) todo)) same moved in
    let counted : length sorted ≡ length initial_outcomes + length (run_ids job initial_outcomes job.setting.budget) =
    omega (arith, length_permutation sorted (initial_outcomes ++ map (found job) todo) here, length-append initial_outcomes (map (found job) todo), length-map todo (found job), ap length ids) in
    let rest : pending job initial_outcomes + length initial_outcomes ≡ total job = pending_rest job initial_outcomes (rising_apart initial_outcomes start.rising) (all_below_total job initial_outcomes start.fit) in
    let few : length (run_ids job initial_outcomes job.setting.budget) ≤ pending job initial_outcomes = few_run_ids job initial_outcomes job.setting.budget in
    let most = (run_setting job run).few in
    record {
      full = fullness job.setting.budget (ids ∙ ap (λ os. run_ids job os job.setting.budget) (sym same)) ∙ ap (λ os. full job (draw job.setting.key) os job.setting.budget) same;
      count = counted;
      few = omega (arith, counted, rest, few);
      fit = record {
        few = omega (arith, counted, rest, few, most);
        rising = pairs_rise sorted rising;
        fit = found_fit job run initial_outcomes todo sorted start within here;
      };
      start = start;
    }

module _ (job : Job) (initial_outcomes outcomes : List Outcome) (all : AreAll job initial_outcomes outcomes) where
  -- the pending and the initial outcomes add up to the total
  rest_is : pending job initial_outcomes + length initial_outcomes ≡ total job
  rest_is = pending_rest job initial_outcomes (rising_apart initial_outcomes all.start.rising) (all_below_total job initial_outcomes all.start.fit)

  -- with fewer outcomes than trajectories, some pending id was not walked
  pub short_leaves : length outcomes < total job → leaves_work job initial_outcomes ≡ true
  short_leaves short = lt-ltb (to_walk job initial_outcomes) (pending job initial_outcomes) (omega (arith, short, all.count, rest_is))

  -- with an outcome for each trajectory, all pending ids were walked
  pub whole_leaves : total job ≤ length outcomes → leaves_work job initial_outcomes ≡ false
  whole_leaves whole = le-ltb (to_walk job initial_outcomes) (pending job initial_outcomes) (omega (arith, whole, all.count, rest_is))

-- the outcome of an id, initial or found, has this id
pub kept_id : (job : Job) (initial_outcomes : List Outcome) (id : ℕ) → (outcome_from job (draw job.setting.key) initial_outcomes id).id ≡ id
kept_id job initial_outcomes id = by (find (λ o. o.id == id) initial_outcomes) refl
  where
    by : (o : Option Outcome) → find (λ o. o.id == id) initial_outcomes ≡ o → (kept_or job (draw job.setting.key) id o).id ≡ id
    by None e = fitting.found_id job (draw job.setting.key) job.setting.shift id
    by (Some o) e = eqb-true o.id id (find_passes (λ o. o.id == id) initial_outcomes o e)

-- if each number passes, the outcomes of those that pass are all outcomes
all_ids : (n : ℕ) (test : ℕ → Bool) (f : ℕ → Outcome) → ((k : ℕ) → k < n → test k ≡ true) → ((k : ℕ) → (f k).id ≡ k)
    → map (λ o. o.id) (map f (filter_below n test)) ≡ map_below n (λ id. id)
all_ids zero test f each same = refl
all_ids (suc n) test f each same =
    ap (λ xs. map (λ o. o.id) xs) (map-append f (filter_below n test) (cond (test n) (n ∷ []) []))
    ∙ map-append (λ (o : Outcome). o.id) (map f (filter_below n test)) (map f (cond (test n) (n ∷ []) []))
    ∙ ap (λ xs. xs ++ map (λ o. o.id) (map f (cond (test n) (n ∷ []) []))) (all_ids n test f (λ k l. each k (omega arith)) same)
    ∙ ap (λ b. map_below n (λ id. id) ++ map (λ o. o.id) (map f (cond b (n ∷ []) []))) (each n (omega arith))
    ∙ ap (λ id. map_below n (λ id. id) ++ id ∷ []) (same n)

-- if nothing is pending, the outcomes have all ids
full_ids : (job : Job) (initial_outcomes : List Outcome) → leaves_work job initial_outcomes ≡ false → map (λ o. o.id) (full_of job initial_outcomes) ≡ map_below (total job) (λ id. id)
unfolding full
full_ids job initial_outcomes none =
    all_ids (total job) (λ id. has_id initial_outcomes id || has (run_ids job initial_outcomes job.setting.budget) id) (outcome_from job (draw job.setting.key) initial_outcomes)
    (every_id job initial_outcomes none) (kept_id job initial_outcomes)

-- as many outcomes as trajectories are one outcome of each
pub whole_outcomes : (job : Job) → job.setting.stop ≡ 0 → (initial_outcomes outcomes : List Outcome) → AreAll job initial_outcomes outcomes → total job ≤ length outcomes → AreOutcomesOf job outcomes
whole_outcomes job plain initial_outcomes outcomes all whole = record {
  ids = ap (λ os. map (λ o. o.id) os) all.full ∙ full_ids job initial_outcomes (whole_leaves job initial_outcomes outcomes all whole)
      ∙ ap (λ n. map_below n (λ id. id)) (sym (reports_all job plain));
  fitting = fit_list job outcomes all.fit.fit;
}
