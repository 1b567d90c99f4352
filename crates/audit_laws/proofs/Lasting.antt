-- The newest slot holds what was saved, at whatever moment a run is stopped.
use Rattle.std.proofs.Common.{◌≡◌, inl, inr, ℕ, zero, suc, ◌+◌, ◌-◌, ◌*◌, ◌/◌, ◌%◌, ◌<◌, ◌≤◌, ◌==◌, ◌&&◌, not, nat_lt, Bool, true, false, cond, List, [], ◌∷◌, ◌++◌, take, get_or, length, map, Option, Some, None, refl, sym, ap, ◌∙◌, subst, append_assoc, All, Contains, IsPermutation, suc-mul, arith}
use Rattle.std.specs.Prelude.{IsTrue, bytes_eq, option_map, slice_range}
use Rattle.std.specs.List.{list_all}
use Rattle.std.proofs.lemmas.Bool.{and_from, true≢false}
use Rattle.std.proofs.lemmas.List.{map-append}
use Rattle.std.proofs.lemmas.List.Elements.{All-append, All-cons, All-contains_itself, All-filter, All-head, All-map, All-nil, All-tail, All-take, Contains-append_left}
use Rattle.std.proofs.lemmas.List.Sorted.{All-permutation, Contains-permutation, IsPermutation-sym}
use Rattle.std.proofs.lemmas.Option.{same_Some}
use Rattle.audit_model.specs.Pair.{Pair, Stored}
use Rattle.audit_model.specs.Attempts.{Try}
use Rattle.audit_model.specs.declared.fault.CkptFault.{CkptFault}
use Rattle.audit_model.specs.declared.outcome.Outcome.{Outcome}
use Rattle.audit_model.specs.declared.place.Place.{Place}
use Rattle.audit_model.specs.declared.setting.Command.{Command}
use Rattle.audit_model.specs.declared.setting.Command.TheVariants.{Check, Run, Make, Plans, Trace}
use Rattle.audit_model.specs.declared.setting.Setting.{Setting}
use Rattle.audit_model.specs.Below.{filter_below}
use Rattle.audit_model.specs.First.{first_below}
use Rattle.audit_model.specs.Job.{Job}
use Rattle.audit_model.specs.JobOf.{IsJob}
use Rattle.audit_model.specs.Limits.{IsSettingOf}
use Rattle.audit_model.specs.Run.{fits, has_id, has_no_histogram, is_in_part, run_ids, taken_up, total}
use Rattle.audit_model.specs.Trajectory.{without_histogram, outcome}
use Rattle.audit_model.proofs.Below.{length-map_below, get_or-map_below}
use Rattle.audit_model.proofs.Filtered.{each_passes}
use Rattle.audit_model.proofs.First.{first_below_none}
use Rattle.audit_model.proofs.Fitting as fitting
use Rattle.audit_statement.specs.Checkpoint.{IsCheckpoint, checkpoint_fault, digest_place, generation_place, job_digest, stated_count}
use Rattle.audit_statement.specs.Draw.{draw}
use Rattle.audit_statement.specs.Endings.{StartsFrom, first_place, initial_outcomes_from, place_of, saves}
use Rattle.audit_statement.specs.Histories.{AreCarriedOut, AreInTurn, HasFailed, IsNotValid, KeepsNewest, bytes_at, newest_bytes, stopped_in}
use Rattle.audit_statement.specs.Chain.{AreSavesWhere, has_walked}
use Rattle.audit_statement.specs.InOrder.{AreSavesFrom, IsSaveOfIds, last_succeeded_from, next_place, place_after, taken_in}
use Rattle.audit_statement.specs.Rerun.{AreAttemptsSoFar}
use Rattle.audit_statement.specs.Slots.{Slot, absent, broken, checkpoint_limit, newest, newest_for, outcomes_of_newest, other, ours, outcome_in, outcomes_in, outcomes_of_slot, slot_of, slot_of_bytes, slot_of_checkpoint, slot_of_digest, slot_of_ours}
use Rattle.ckpt_store.specs.Laws.{CheckpointsAreOurs, SavesKeepTheNewest}
use Rattle.audit_laws.specs.Lost.{EndsAreStops, HoldsAll, IsKeptIn, KeepsInitialOutcomes, LosesNothing, StopsKeepTheNewest, StopsLoseNothing}

-- an outcome that fits a job fits it without its histogram
abbrev pub FitsWithoutHistogram : Type 0
FitsWithoutHistogram = (job : Job) (o : Outcome) → IsTrue (fits job o) → IsTrue (fits job (without_histogram o))

-- ---- the outcomes of a slot fit the job

module _ (job : Job) where
  abbrev Fits : Outcome → Type 0
  Fits o = IsTrue (fits job o)

  -- the slot's outcomes, where it gives the job any, fit
  abbrev HasFit : Slot → Type 0
  HasFit absent = Unit {0}
  HasFit (broken fault) = Unit {0}
  HasFit (other digest generation) = Unit {0}
  HasFit (ours generation outcomes) = All Fits outcomes

  count_fit : (bytes : List ℕ) → first_below (stated_count bytes) (λ place. not (fits job (outcome_in bytes place))) ≡ None → All Fits (outcomes_in bytes)
  count_fit bytes none k d inside =
      let count = stated_count bytes in
      let below : k < count = omega (arith, inside, length-map_below count (outcome_in bytes)) in
      ap (fits job) (get_or-map_below count (outcome_in bytes) k d below)
      ∙ passes (fits job (outcome_in bytes k)) (first_below_none count (λ place. not (fits job (outcome_in bytes place))) k none below)
    where
      passes : (b : Bool) → not b ≡ false → b ≡ true
      passes true e = refl
      passes false e = cc

  ours_fit : (bytes : List ℕ) (unfit : Option ℕ) → first_below (stated_count bytes) (λ place. not (fits job (outcome_in bytes place))) ≡ unfit → HasFit (slot_of_ours bytes unfit)
  ours_fit bytes None none = count_fit bytes none
  ours_fit bytes (Some place) some = tt

  digest_fit : (bytes : List ℕ) (same : Bool) → HasFit (slot_of_digest job bytes same)
  digest_fit bytes false = tt
  digest_fit bytes true = ours_fit bytes (first_below (stated_count bytes) (λ place. not (fits job (outcome_in bytes place)))) refl

  checkpoint_fit : (digest bytes : List ℕ) (fault : Option CkptFault) → HasFit (slot_of_checkpoint job digest bytes fault)
  checkpoint_fit digest bytes (Some fault) = tt
  checkpoint_fit digest bytes None = digest_fit bytes (bytes_eq (slice_range bytes digest_place generation_place) digest)

  bytes_fit : (digest bytes : List ℕ) (many : Bool) → HasFit (slot_of_bytes job digest bytes many)
  bytes_fit digest bytes true = tt
  bytes_fit digest bytes false = checkpoint_fit digest bytes (checkpoint_fault bytes)

  slot_fits : (digest : List ℕ) (s : Stored) → HasFit (slot_of job digest s)
  slot_fits digest None = tt
  slot_fits digest (Some bytes) = bytes_fit digest bytes (nat_lt checkpoint_limit (length bytes))

  given_fit : (slot : Slot) (outcomes : List Outcome) → HasFit slot → outcomes_of_slot slot ≡ Some outcomes → All Fits outcomes
  given_fit absent outcomes fit e = (let same : [] ≡ outcomes = cc in subst (All Fits) same (All-nil Fits))
  given_fit (broken fault) outcomes fit e = cc
  given_fit (other digest generation) outcomes fit e = cc
  given_fit (ours generation kept_outcomes) outcomes fit e = (let same : kept_outcomes ≡ outcomes = cc in subst (All Fits) same fit)

  newest_fit : (first second : Slot) (n : Option ℕ) (outcomes : List Outcome) → HasFit first → HasFit second → outcomes_of_newest first second n ≡ Some outcomes → All Fits outcomes
  newest_fit first second (Some zero) outcomes one two e = given_fit first outcomes one e
  newest_fit first second (Some (suc n)) outcomes one two e = given_fit second outcomes two e
  newest_fit absent absent None outcomes one two e = (let same : [] ≡ outcomes = cc in subst (All Fits) same (All-nil Fits))
  newest_fit absent (broken f) None outcomes one two e = cc
  newest_fit absent (other d g) None outcomes one two e = cc
  newest_fit absent (ours g kept_outcomes) None outcomes one two e = cc
  newest_fit (broken f) second None outcomes one two e = cc
  newest_fit (other d g) second None outcomes one two e = cc
  newest_fit (ours g kept_outcomes) second None outcomes one two e = cc

  taken_fit : FitsWithoutHistogram → (shift : Bool) (walks : ℕ) (kept_outcomes : List Outcome) → All Fits kept_outcomes → All Fits (taken_up shift walks kept_outcomes)
  taken_fit fits_without_histogram false walks kept_outcomes fit = All-map Fits without_histogram kept_outcomes (λ k d inside. fits_without_histogram job (get_or kept_outcomes k d) (fit k d inside))
  taken_fit fits_without_histogram true walks kept_outcomes fit = All-filter (λ o. not (nat_lt o.id walks && has_no_histogram o)) Fits kept_outcomes fit

  resumed_fit : FitsWithoutHistogram → (kept_outcomes : Option (List Outcome)) (outcomes : List Outcome) → ((os : List Outcome) → kept_outcomes ≡ Some os → All Fits os)
      → option_map (taken_up job.setting.shift job.setting.walks) kept_outcomes ≡ Some outcomes → All Fits outcomes
  resumed_fit fits_without_histogram None outcomes fit e = cc
  resumed_fit fits_without_histogram (Some os) outcomes fit e =
      let same : taken_up job.setting.shift job.setting.walks os ≡ outcomes = cc in
      subst (All Fits) same (taken_fit fits_without_histogram job.setting.shift job.setting.walks os (fit os refl))

  -- what a run starts with fits
  initial_outcomes_fit : FitsWithoutHistogram → (resumes : Bool) (p : Pair) (outcomes : List Outcome) → initial_outcomes_from resumes job p ≡ Some outcomes → All Fits outcomes
  initial_outcomes_fit fits_without_histogram false p outcomes e = (let same : [] ≡ outcomes = cc in subst (All Fits) same (All-nil Fits))
  initial_outcomes_fit fits_without_histogram true p outcomes e =
      let first = slot_of job (job_digest job) p.zero_slot in
      let second = slot_of job (job_digest job) p.one_slot in
      resumed_fit fits_without_histogram (outcomes_of_newest first second (newest first second)) outcomes
      (λ os is. newest_fit first second (newest first second) os (slot_fits (job_digest job) p.zero_slot) (slot_fits (job_digest job) p.one_slot) is) e

  few_of : (command : Command) (s : Setting) → IsSettingOf command s → length s.asks ≤ 4
  few_of Check s is = (let none : length s.asks ≡ 0 = ap length is.no_asks in omega (arith, none))
  few_of Run s is = is.few_asks
  few_of Make s is = is.few_asks
  few_of Plans s is = is.few_asks
  few_of Trace s is = is.run.few_asks

  run_ids_below : (initial_outcomes : List Outcome) (budget : ℕ) → All (λ id. id < total job) (run_ids job initial_outcomes budget)
  run_ids_below initial_outcomes budget =
      let lies : ℕ → Bool = λ id. not (has_id initial_outcomes id) && is_in_part job.setting.parts job.setting.part id in
      All-take (λ (id : ℕ). id < total job) budget (filter_below (total job) lies) (λ k d inside. (each_passes (total job) lies k d inside).0)

-- ---- the saves so far of a run

-- of more items, the first ones are some and others
take_more : {A : Type 0} (a b : ℕ) (l : List A) → a ≤ b → (rest : List A) × (take b l ≡ take a l ++ rest)
take_more zero b l le = (take b l, refl)
take_more (suc a) zero l le = absurd (omega arith)
take_more (suc a) (suc b) [] le = ([], refl)
take_more (suc a) (suc b) (x ∷ l) le = let more = take_more a b l (omega arith) in (more.0, ap (λ xs. x ∷ xs) more.1)

-- more groups of a size have no fewer members
more_groups : (every n m : ℕ) → n ≤ m → n * every ≤ m * every
more_groups every zero m le = (let none : 0 * every ≡ 0 = omega arith in omega (arith, none))
more_groups every (suc n) zero le = absurd (omega arith)
more_groups every (suc n) (suc m) le = let rest = more_groups every n m (omega arith) in omega (arith, rest, suc-mul n every, suc-mul m every)

-- what holds of all holds of the one in the middle
at_middle : (P : Try → Type 0) (earlier later : List Try) (save : Try) → All P (earlier ++ save ∷ later) → P save
at_middle P [] later save all = All-head P save later all
at_middle P (e ∷ earlier) later save all = at_middle P earlier later save (All-tail P e (earlier ++ save ∷ later) all)

-- the later save is a checkpoint of the job, of outcomes that fit the job and are all that the earlier one holds, or more
record IsContained (job : Job) (earlier later : Try) : Type 0 where
  first : List Outcome
  first_generation : ℕ
  first_is : IsCheckpoint earlier.bytes 2 (job_digest job) first_generation first
  second : List Outcome
  second_generation : ℕ
  second_is : IsCheckpoint later.bytes 2 (job_digest job) second_generation second
  fit : IsTrue (list_all (fits job) second)
  kept_outcomes : All (Contains second) first

-- the save is a checkpoint of the job, of outcomes that fit the job and include all initial outcomes
record ContainsInitial (job : Job) (initial_outcomes : List Outcome) (t : Try) : Type 0 where
  generation : ℕ
  saved : List Outcome
  sound : IsCheckpoint t.bytes 2 (job_digest job) generation saved
  fit : IsTrue (list_all (fits job) saved)
  kept_outcomes : All (Contains saved) initial_outcomes

-- each fits, in both forms
fit_list : (job : Job) (outcomes : List Outcome) → All (Fits job) outcomes → list_all (fits job) outcomes ≡ true
fit_list job [] fit = refl
fit_list job (x ∷ xs) fit = and_from (fits job x) (list_all (fits job) xs) (fit 0 x (omega arith)) (fit_list job xs (λ k d inside. fit (suc k) d (omega arith)))

module _ (job : Job) (initial_outcomes : List Outcome) (every : ℕ) (walked : List ℕ) (few_asks : length job.setting.asks ≤ 4) (initial_outcomes_fitting : All (Fits job) initial_outcomes)
    (below : All (λ id. id < total job) walked) where
  abbrev f : ℕ → Outcome
  f = outcome job (draw job.setting.key)

  abbrev From : ℕ → Place → List Try → Type 0
  From n place ts = AreSavesFrom job initial_outcomes every walked n place ts

  abbrev ids_at : ℕ → List ℕ
  ids_at n = take (n * every) walked

  abbrev saved_at : ℕ → List Outcome
  saved_at n = taken_in job initial_outcomes (ids_at n)

  -- what a save holds fits the job
  save_fits : (n : ℕ) (place : Place) (t : Try) → IsSaveOfIds job initial_outcomes place (ids_at n) t → IsTrue (list_all (fits job) (saved_at n))
  save_fits n place t s =
      let within : All (λ id. id < total job) (ids_at n) = All-take (λ (id : ℕ). id < total job) (n * every) walked below in
      let found : All (Fits job) (map f (ids_at n)) =
      All-map (Fits job) f (ids_at n) (λ k d inside. fitting.found_fits job (draw job.setting.key) job.setting.shift few_asks (get_or (ids_at n) k d) (within k d inside)) in
      fit_list job (saved_at n) (All-permutation (Fits job) (initial_outcomes ++ map f (ids_at n)) (saved_at n) s.all (All-append (Fits job) initial_outcomes (map f (ids_at n)) initial_outcomes_fitting found))

  -- a later save holds all that an earlier one does
  later_holds : (n m : ℕ) (place at : Place) (t u : Try) → n ≤ m → IsSaveOfIds job initial_outcomes place (ids_at n) t → IsSaveOfIds job initial_outcomes at (ids_at m) u → IsContained job t u
  later_holds n m place at t u le first second =
      let split = take_more (n * every) (m * every) walked (more_groups every n m le) in
      let base = initial_outcomes ++ map f (ids_at n) in
      let whole : initial_outcomes ++ map f (ids_at m) ≡ base ++ map f split.0 =
      ap (λ l. initial_outcomes ++ map f l) split.1 ∙ ap (λ l. initial_outcomes ++ l) (map-append f (ids_at n) split.0) ∙ sym (append_assoc initial_outcomes (map f (ids_at n)) (map f split.0)) in
      let moved : IsPermutation (base ++ map f split.0) (saved_at m) = subst (λ l. IsPermutation l (saved_at m)) whole second.all in
      record {
        first = saved_at n;
        first_generation = place.generation;
        first_is = first.sound;
        second = saved_at m;
        second_generation = at.generation;
        second_is = second.sound;
        fit = save_fits m at u second;
        kept_outcomes = All-permutation (Contains (saved_at m)) base (saved_at n) first.all
            (λ k d inside. Contains-permutation (base ++ map f split.0) (saved_at m) _ moved (Contains-append_left base (map f split.0) _ (All-contains_itself base k d inside)));
      }

  each_later : (n m : ℕ) (place at : Place) (t : Try) (rest : List Try) → n ≤ m → IsSaveOfIds job initial_outcomes place (ids_at n) t → From m at rest → All (IsContained job t) rest
  each_later n m place at t [] le first goes = All-nil (IsContained job t)
  each_later n m place at t (u ∷ rest) le first goes =
      All-cons (IsContained job t) u rest (later_holds n m place at t u le first goes.0) (each_later n (suc m) place (place_after at u) t rest (omega arith) first goes.1)

  -- the last save that succeeded, or a later one that failed, holds all of each that succeeded
  contains_succeeded : (n : ℕ) (place : Place) (earlier later : List Try) (save : Try) → From n place (earlier ++ save ∷ later) → All HasFailed later
      → All (λ t. t.succeeded ≡ true → IsContained job t save) (earlier ++ save ∷ later)
  contains_succeeded n place [] later save goes failed =
      All-cons (λ (t : Try). t.succeeded ≡ true → IsContained job t save) save later (λ done. later_holds n n place place save save (omega arith) goes.0 goes.0)
      (λ k d inside done. absurd (true≢false (sym done ∙ failed k d inside)))
  contains_succeeded n place (t ∷ earlier) later save goes failed =
      All-cons (λ (t : Try). t.succeeded ≡ true → IsContained job t save) t (earlier ++ save ∷ later)
      (λ done. at_middle (IsContained job t) earlier later save (each_later n (suc n) place (place_after place t) t (earlier ++ save ∷ later) (omega arith) goes.0 goes.1))
      (contains_succeeded (suc n) (place_after place t) earlier later save goes.1 failed)

  -- each save holds all initial outcomes
  initial_outcomes_contained : (n : ℕ) (place : Place) (ts : List Try) → From n place ts → All (ContainsInitial job initial_outcomes) ts
  initial_outcomes_contained n place [] goes = All-nil (ContainsInitial job initial_outcomes)
  initial_outcomes_contained n place (t ∷ rest) goes =
      All-cons (ContainsInitial job initial_outcomes) t rest
      (record {
        generation = place.generation;
        saved = saved_at n;
        sound = goes.0.sound;
        fit = save_fits n place t goes.0;
        kept_outcomes = λ k d inside. Contains-permutation (initial_outcomes ++ map f (ids_at n)) (saved_at n) _ goes.0.all
            (Contains-append_left initial_outcomes (map f (ids_at n)) _ (All-contains_itself initial_outcomes k d inside));
      })
      (initial_outcomes_contained (suc n) (place_after place t) rest goes.1)

  abbrev InTurn : Place → List Try → Type 0
  InTurn place ts = AreInTurn job (job_digest job) place.slot place.generation ts

  turn_after : (done : Bool) (place : Place) (rest : List Try) → InTurn (cond done (next_place place) place) rest
      → AreInTurn job (job_digest job) (cond done (1 - place.slot) place.slot) (cond done ((place.generation + 1) % 3) place.generation) rest
  turn_after true place rest goes = goes
  turn_after false place rest goes = goes

  -- the saves are in turn
  in_turn : (n : ℕ) (place : Place) (ts : List Try) → From n place ts → InTurn place ts
  in_turn n place [] goes = tt
  in_turn n place (t ∷ rest) goes = (
    record {
      slot = goes.0.slot;
      version = 2;
      outcomes = saved_at n;
      bytes = goes.0.bytes;
      sound = subst (λ (b : List ℕ). IsCheckpoint b 2 (job_digest job) place.generation (saved_at n)) goes.0.bytes goes.0.sound;
      fit = save_fits n place t goes.0;
    },
    turn_after t.succeeded place rest (in_turn (suc n) (place_after place t) rest goes.1),
  )

-- ---- what the slots hold at the stop

-- a run that is stopped after these saves has them as they are
same_stopped : (attempts : List Try) → stopped_in (length attempts) attempts ≡ attempts
same_stopped [] = refl
same_stopped (t ∷ attempts) = ap (λ ts. t ∷ ts) (same_stopped attempts)

-- the newest slot, whose bytes are known, is what these bytes are
given_by : (job : Job) (q : Pair) (bytes : List ℕ) (generation : ℕ) (saved : List Outcome) (n : Option ℕ)
    → bytes_at q n ≡ Some bytes → slot_of job (job_digest job) (Some bytes) ≡ ours generation saved
    → outcomes_of_newest (slot_of job (job_digest job) q.zero_slot) (slot_of job (job_digest job) q.one_slot) n ≡ Some saved
given_by job q bytes generation saved None is read = cc
given_by job q bytes generation saved (Some zero) is read = ap (λ (s : Stored). outcomes_of_slot (slot_of job (job_digest job) s)) is ∙ ap outcomes_of_slot read
given_by job q bytes generation saved (Some (suc n)) is read = ap (λ (s : Stored). outcomes_of_slot (slot_of job (job_digest job) s)) is ∙ ap outcomes_of_slot read

-- a newest slot of these bytes holds these outcomes
holds_all : CheckpointsAreOurs → (job : Job) (q : Pair) (bytes : List ℕ) (generation : ℕ) (saved outcomes : List Outcome) → newest_bytes job (job_digest job) q ≡ Some bytes
    → IsCheckpoint bytes 2 (job_digest job) generation saved → IsTrue (list_all (fits job) saved) → All (Contains saved) outcomes → HoldsAll job q outcomes
holds_all ours_law job q bytes generation saved outcomes is sound fit kept_outcomes = record {
  bytes = bytes;
  is_newest = is;
  generation = generation;
  saved = saved;
  sound = sound;
  given = given_by job q bytes generation saved (newest_for job (job_digest job) q) is (ours_law job bytes 2 (job_digest job) generation saved sound fit);
  kept_outcomes = kept_outcomes;
}

module _ (newest_law : SavesKeepTheNewest) (fits_without_histogram : FitsWithoutHistogram) (job : Job) (sound : IsJob job) (p q : Pair) (attempts : List Try) where
  abbrev Out : Type 0
  Out = AreCarriedOut IsNotValid job (job_digest job) p attempts q

  abbrev Keeps : Type 0
  Keeps = KeepsNewest job (job_digest job) p attempts q

  few_asks : length job.setting.asks ≤ 4
  few_asks = few_of job job.setting.command job.setting sound.within.setting.command

  module _ (outcomes : List Outcome) (opens : initial_outcomes_from job.setting.resume job p ≡ Some outcomes) (walked : List ℕ)
      (all_walked : IsPermutation walked (run_ids job outcomes job.setting.budget)) (goes : AreSavesFrom job outcomes job.setting.save_every walked 1 (first_place job p) attempts) where
    run_initial_outcomes_fit : All (Fits job) outcomes
    run_initial_outcomes_fit = initial_outcomes_fit job fits_without_histogram job.setting.resume p outcomes opens

    run_below : All (λ id. id < total job) walked
    run_below =
        All-permutation (λ (id : ℕ). id < total job) (run_ids job outcomes job.setting.budget) walked (IsPermutation-sym walked (run_ids job outcomes job.setting.budget) all_walked)
        (run_ids_below job outcomes job.setting.budget)

    keeps_by : Out → Keeps
    keeps_by out =
        subst (λ (ts : List Try). KeepsNewest job (job_digest job) p ts q) (same_stopped attempts)
        (newest_law job (job_digest job) p q (place_of job p).0 (place_of job p).1 attempts (length attempts) refl
        (in_turn job outcomes job.setting.save_every walked few_asks run_initial_outcomes_fit run_below 1 (first_place job p) attempts goes)
        (subst (λ (ts : List Try). AreCarriedOut IsNotValid job (job_digest job) p ts q) (sym (same_stopped attempts)) out))

    saved_by : CheckpointsAreOurs → Keeps → All (λ save. save.succeeded ≡ true → IsKeptIn job q save) attempts
    saved_by ours_law (inl none) = λ k d inside done. absurd (true≢false (sym done ∙ none.0 k d inside))
    saved_by ours_law (inr (bytes, latest, is)) =
        let all = contains_succeeded job outcomes job.setting.save_every walked few_asks run_initial_outcomes_fit run_below 1 (first_place job p) latest.earlier latest.later latest.save
        (subst (λ (ts : List Try). AreSavesFrom job outcomes job.setting.save_every walked 1 (first_place job p) ts) latest.split goes) latest.failed in
        subst (λ (ts : List Try). All (λ save. save.succeeded ≡ true → IsKeptIn job q save) ts) (sym latest.split) (λ k d inside done. kept_as _ (all k d inside done))
      where
        kept_as : (t : Try) → IsContained job t latest.save → IsKeptIn job q t
        kept_as t h = record {
          generation = h.first_generation;
          outcomes = h.first;
          sound = h.first_is;
          kept = holds_all ours_law job q bytes h.second_generation h.second h.first is
              (subst (λ (b : List ℕ). IsCheckpoint b 2 (job_digest job) h.second_generation h.second) latest.same h.second_is) h.fit h.kept_outcomes;
        }

    opened_by : CheckpointsAreOurs → Keeps → KeepsInitialOutcomes job p q outcomes
    opened_by ours_law (inl none) = inl none.1
    opened_by ours_law (inr (bytes, latest, is)) =
        let all = initial_outcomes_contained job outcomes job.setting.save_every walked few_asks run_initial_outcomes_fit run_below 1 (first_place job p) attempts goes in
        let of = at_middle (ContainsInitial job outcomes) latest.earlier latest.later latest.save (subst (All (ContainsInitial job outcomes)) latest.split all) in
        inr (holds_all ours_law job q bytes of.generation of.saved outcomes is
        (subst (λ (b : List ℕ). IsCheckpoint b 2 (job_digest job) of.generation of.saved) latest.same of.sound) of.fit of.kept_outcomes)

  -- without an attempt all is as it was
  untouched : attempts ≡ [] → Out → q ≡ p
  untouched none out = subst (λ (ts : List Try). AreCarriedOut IsNotValid job (job_digest job) p ts q) none out

  pub stop_keeps : AreAttemptsSoFar job p attempts → Out → Keeps
  stop_keeps (inl none) out =
      inl (subst (All HasFailed) (sym none) (All-nil HasFailed), ap (newest_bytes job (job_digest job)) (untouched none out))
  stop_keeps (inr run) out = keeps_by run.0 run.1 run.2.walked run.2.all_walked run.2.first.each out

  pub stop_loses : CheckpointsAreOurs → AreAttemptsSoFar job p attempts → Out → LosesNothing job p q attempts
  stop_loses ours_law (inl none) out = record {
    saved = subst (All (λ (save : Try). save.succeeded ≡ true → IsKeptIn job q save)) (sym none) (All-nil (λ (save : Try). save.succeeded ≡ true → IsKeptIn job q save));
    opened = λ outcomes opens. inl (ap (newest_bytes job (job_digest job)) (untouched none out));
  }
  stop_loses ours_law (inr run) out =
      let keeps = keeps_by run.0 run.1 run.2.walked run.2.all_walked run.2.first.each out in
      record {
        saved = saved_by run.0 run.1 run.2.walked run.2.all_walked run.2.first.each ours_law keeps;
        opened = λ outcomes opens.
            let same : run.0 ≡ outcomes = same_Some run.0 outcomes (sym run.1 ∙ opens) in
            subst (KeepsInitialOutcomes job p q) same (opened_by run.0 run.1 run.2.walked run.2.all_walked run.2.first.each ours_law keeps);
      }

-- a stop keeps the newest slot, or leaves a newer one
pub stops_keep_the_newest : SavesKeepTheNewest → FitsWithoutHistogram → StopsKeepTheNewest
stops_keep_the_newest newest_law fits_without_histogram job p q attempts sound so_far out = stop_keeps newest_law fits_without_histogram job sound p q attempts so_far out

-- and loses nothing that was saved
pub stops_lose_nothing : SavesKeepTheNewest → CheckpointsAreOurs → FitsWithoutHistogram → StopsLoseNothing
stops_lose_nothing newest_law ours_law fits_without_histogram job p q attempts sound so_far out = stop_loses newest_law fits_without_histogram job sound p q attempts ours_law so_far out

-- ---- a run that ended, cut off anywhere

-- no more saves than without the cut
stopped_length : (n : ℕ) (attempts : List Try) → length (stopped_in n attempts) ≤ length attempts
stopped_length n [] = omega arith
stopped_length zero (t ∷ attempts) = omega arith
stopped_length (suc n) (t ∷ attempts) = let rest = stopped_length n attempts in omega (arith, rest)

-- no more saves than are due
stopped_few : (k n : ℕ) (whole last : Bool) (attempts : List Try) → length attempts ≡ k + cond {A = ℕ} (whole && last_succeeded_from last (take k attempts)) 0 1
    → length (stopped_in n attempts) ≤ k + cond {A = ℕ} (whole && last_succeeded_from last (take k (stopped_in n attempts))) 0 1
stopped_few k n whole last [] counted = omega arith
stopped_few zero n whole last (t ∷ rest) counted = (let fewer = stopped_length n (t ∷ rest) in omega (arith, counted, fewer))
stopped_few (suc k) zero whole last (t ∷ rest) counted = omega arith
stopped_few (suc k) (suc n) whole last (t ∷ rest) counted =
    let others = stopped_few k n whole t.succeeded rest (omega (arith, counted)) in omega (arith, others)

module _ (job : Job) (initial_outcomes : List Outcome) (every : ℕ) (walked : List ℕ) where
  -- the save that is cut off is the same save
  stopped_each : (n m : ℕ) (place : Place) (attempts : List Try) → AreSavesFrom job initial_outcomes every walked m place attempts → AreSavesFrom job initial_outcomes every walked m place (stopped_in n attempts)
  stopped_each n m place [] goes = tt
  stopped_each zero m place (t ∷ rest) goes = (record { slot = goes.0.slot; bytes = goes.0.bytes; sound = goes.0.sound; all = goes.0.all }, tt)
  stopped_each (suc n) m place (t ∷ rest) goes = (goes.0, stopped_each n (suc m) (place_after place t) rest goes.1)

-- known slots determine the initial outcomes
observed_by : (resumes : Bool) (job : Job) (slots : Option Pair) (p : Pair) (o : Option (List Outcome)) → slots ≡ Some p → initial_outcomes_from resumes job p ≡ o → StartsFrom resumes job slots o
observed_by false job slots p o was opens = opens
observed_by true job None p o was opens = cc
observed_by true job (Some x) p o was opens = (let same : x ≡ p = cc in ap (initial_outcomes_from true job) same ∙ opens)

-- the saves of a run that ended are saves so far, cut off anywhere
cut_saves : (walks : Bool) (job : Job) (p : Pair) (outcomes : List Outcome) (attempts : List Try) (n : ℕ) → initial_outcomes_from job.setting.resume job p ≡ Some outcomes
    → AreSavesWhere walks job outcomes p attempts → AreAttemptsSoFar job p (stopped_in n attempts)
cut_saves false job p outcomes attempts n opens none = inl (ap (stopped_in n) none)
cut_saves true job p outcomes attempts n opens run =
    let every = job.setting.save_every in
    inr (
      outcomes,
      opens,
      record {
        walked = run.walked;
        all_walked = run.all_walked;
        first = record {
          each = stopped_each job outcomes every run.walked n 1 (first_place job p) attempts run.exactly.each;
          few = stopped_few (length run.walked / every) n (length run.walked % every == 0) false attempts run.exactly.counted;
        };
      },
    )

-- a run that ended is one that was stopped
pub ends_are_stops : EndsAreStops
ends_are_stops job before after p status observed now t outcomes was opens n =
    cut_saves (saves job.setting && has_walked status) job p outcomes t.attempts n opens
    (t.exactly outcomes (observed_by job.setting.resume job before.keeper.slots p (Some outcomes) was opens))
