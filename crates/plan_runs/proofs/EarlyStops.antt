-- Runs whose tests stop early: their outcomes, and the part that the report covers.
use Rattle.std.proofs.Common.{◌≡◌, ◌∙◌, ℕ, zero, suc, ◌+◌, ◌<◌, ◌≤◌, ◌||◌, inl, inr, min, Bool, true, false, cond, List, [], ◌∷◌, ◌++◌, length, map, take, get_or, Option, refl, sym, ap, subst, append-nil, AllPairs, arith}
use Rattle.std.specs.Prelude.{IsPermutation, codes, decimal, filter, flat_map, nat_lt, replicate, slice_index, sum_by}
use Rattle.std.proofs.Math.Path.{fun_ext}
use Rattle.std.proofs.lemmas.Bool.{cases_lt, le-ltb, lt-ltb}
use Rattle.std.proofs.lemmas.List.{get_or_default, get_or-take, length-take, map-append, take-append-le, take_all}
use Rattle.std.proofs.lemmas.List.Elements.{filter-append}
use Rattle.std.proofs.lemmas.List.Sorted.{IsPermutation-refl}
use Rattle.std.proofs.lemmas.List.Sums.{sum_by-append}
use Rattle.audit_model.specs.declared.outcome.Outcome.{Outcome}
use Rattle.audit_model.specs.Below.{filter_below, map_below}
use Rattle.audit_model.specs.Graph.{has}
use Rattle.audit_model.specs.Job.{Job}
use Rattle.audit_model.specs.Run.{fits, full, has_id, part_ids, run_ids, total}
use Rattle.audit_model.specs.Stopping.{placed_asks}
use Rattle.audit_model.specs.Trajectory.{Draws, outcome, outcome_by, sequence, tally}
use Rattle.claim_counter.specs.Walks.{found}
use Rattle.audit_statement.specs.Draw.{draw}
use Rattle.audit_model.proofs.Fitting as fitting
use Rattle.audit_model.proofs.Parts.{only_part}
use Rattle.audit_model.proofs.Resumed.{full_is_sequence}
use Rattle.audit_model.proofs.Below.{length-map_below, get_or-map_below}
use Rattle.report.specs.Outcomes.{AreOutcomesOf, AreStopsBy, AreStopsOf, IsStopOf, reported_by}
use Rattle.sequential_test.specs.Rounds.{AreParts, StopsInTime, ends_after, found_below}
use Rattle.audit_statement.specs.Report.{by_twos, head_lines, line, moved_line, pair_line, pair_lines, report, report_by, serial_lines, shift_line, test_lines, walk_line, walk_lines}
use Rattle.audit_laws.specs.Runs.{AreAll, IsRunJob}
use Rattle.audit_laws.proofs.Starting.{every_id, none_right, none_fit}
use Rattle.audit_laws.proofs.Running.{are_all, fit_list, leaves_none, one_part, run_setting}

-- ---- lists by place

-- mapping over a table is the table of the composed function
map-below : {A B : Type 0} (n : ℕ) (g : A → B) (f : ℕ → A) → map g (map_below n f) ≡ map_below n (λ k. g (f k))
map-below zero g f = refl
map-below (suc n) g f = map-append g (map_below n f) (f n ∷ []) ∙ ap (λ xs. xs ++ g (f n) ∷ []) (map-below n g f)

-- a prefix of a table is the shorter table
take-below : {A : Type 0} (w n : ℕ) (f : ℕ → A) → take w (map_below (w + n) f) ≡ map_below w f
take-below w zero f =
    ap (λ k. take w (map_below k f)) (let e : w + zero ≡ w = omega arith in e)
    ∙ take_all w (map_below w f) (omega (arith, length-map_below w f))
take-below w (suc n) f =
    ap (λ k. take w (map_below k f)) (let e : w + suc n ≡ suc (w + n) = omega arith in e)
    ∙ take-append-le w (map_below (w + n) f) (f (w + n) ∷ []) (omega (arith, length-map_below (w + n) f))
    ∙ take-below w n f

-- ---- endpoints add nothing to a report with early stops

-- the histogram of an endpoint is zero
zeros : (n bin : ℕ) → get_or {A = ℕ} (replicate n 0) bin 0 ≡ 0
zeros zero bin = refl
zeros (suc n) zero = refl
zeros (suc n) (suc bin) = zeros n bin

module _ (job : Job) (draws : Draws) where
  abbrev f : ℕ → Outcome
  f = outcome job draws

  same_id : (id : ℕ) → (f id).id ≡ id
  same_id id = fitting.found_id job draws job.setting.shift id

  kept_walks : (n : ℕ) → filter (λ o. nat_lt o.id job.setting.walks) (map_below n f) ≡ map_below (min n job.setting.walks) f
  kept_walks zero = ap (λ k. map_below k f) (let e : zero ≡ min zero job.setting.walks = omega arith in e)
  kept_walks (suc n) =
      filter-append (λ (o : Outcome). nat_lt o.id job.setting.walks) (map_below n f) (f n ∷ [])
      ∙ ap (λ xs. xs ++ filter (λ o. nat_lt o.id job.setting.walks) (f n ∷ [])) (kept_walks n)
      ∙ elim (cases_lt n job.setting.walks) [
        | inl l ↦
            ap (λ b. map_below (min n job.setting.walks) f ++ cond b (f n ∷ []) []) (lt-ltb (f n).id job.setting.walks (omega (arith, same_id n, l)))
            ∙ ap (λ k. map_below k f ++ f n ∷ []) (let e : min n job.setting.walks ≡ n = omega (arith, l) in e)
            ∙ ap (λ k. map_below k f) (let e : suc n ≡ min (suc n) job.setting.walks = omega (arith, l) in e)
        | inr past ↦
            ap (λ b. map_below (min n job.setting.walks) f ++ cond b (f n ∷ []) []) (le-ltb (f n).id job.setting.walks (omega (arith, same_id n, past)))
            ∙ append-nil (map_below (min n job.setting.walks) f)
            ∙ ap (λ k. map_below k f) (let e : min n job.setting.walks ≡ min (suc n) job.setting.walks = omega (arith, past) in e)
      ]

  walks_kept : (n : ℕ) → job.setting.walks ≤ n → filter (λ o. nat_lt o.id job.setting.walks) (map_below n f) ≡ map_below job.setting.walks f
  walks_kept n enough = kept_walks n ∙ ap (λ k. map_below k f) (let e : min n job.setting.walks ≡ job.setting.walks = omega (arith, enough) in e)

  no_histogram_of_ends : (id bin : ℕ) → job.setting.walks ≤ id → slice_index (f id).bins bin ≡ 0
  no_histogram_of_ends id bin past = ap (λ b. slice_index (outcome_by b job.setting.shift job draws id).bins bin) (le-ltb id job.setting.walks past) ∙ zeros 9 bin

  bin_of_walks : (bin n : ℕ) → sum_by (λ o. slice_index o.bins bin) (map_below (job.setting.walks + n) f) ≡ sum_by (λ o. slice_index o.bins bin) (map_below job.setting.walks f)
  bin_of_walks bin zero = ap (λ k. sum_by (λ o. slice_index o.bins bin) (map_below k f)) (let e : job.setting.walks + zero ≡ job.setting.walks = omega arith in e)
  bin_of_walks bin (suc n) =
      ap (λ k. sum_by (λ o. slice_index o.bins bin) (map_below k f)) (let e : job.setting.walks + suc n ≡ suc (job.setting.walks + n) = omega arith in e)
      ∙ sum_by-append (λ (o : Outcome). slice_index o.bins bin) (map_below (job.setting.walks + n) f) (f (job.setting.walks + n) ∷ [])
      ∙ (let none = no_histogram_of_ends (job.setting.walks + n) bin (omega arith) in
      let before = bin_of_walks bin n in
      omega (arith, none, before))

  tally_of_walks : (n : ℕ) → tally (map_below (job.setting.walks + n) f) ≡ tally (map_below job.setting.walks f)
  tally_of_walks n = ap (λ (g : ℕ → ℕ). map_below 9 g) (fun_ext (λ bin. bin_of_walks bin n))

  shift_of_walks : (b : Bool) (n : ℕ) → shift_line b (map_below (job.setting.walks + n) f) ≡ shift_line b (map_below job.setting.walks f)
  shift_of_walks true n = ap (λ (counts : List ℕ). line (codes "shift" ∷ map decimal counts)) (tally_of_walks n)
  shift_of_walks false n = refl

  tests_alike : (h : ℕ) → 1 ≤ h → (os ps : List Outcome) (stops : List (List ℕ)) → test_lines h job os stops ≡ test_lines h job ps stops
  tests_alike zero some os ps stops = absurd (omega (arith, some))
  tests_alike (suc h) some os ps stops = refl

  -- the outlier walks alone
  abbrev alone : List Outcome
  alone = map_below job.setting.walks f

  -- all outcomes
  abbrev all : List Outcome
  all = map_below (job.setting.walks + job.setting.ends) f

  same_walks : filter (λ o. nat_lt o.id job.setting.walks) alone ≡ filter (λ o. nat_lt o.id job.setting.walks) all
  same_walks = walks_kept job.setting.walks (omega arith) ∙ sym (walks_kept (job.setting.walks + job.setting.ends) (omega arith))

  pairs_alike : (b : Bool) → pair_lines b job alone ≡ pair_lines b job all
  pairs_alike true = ap (λ (os : List Outcome). flat_map (λ pair. flat_map (pair_line job pair) (placed_asks job)) (by_twos os)) same_walks
  pairs_alike false = refl

  -- the report with these lines of the walks, of pairs, of the histogram and of the tests
  abbrev with_lines : Option (ℕ × List ℕ) → List ℕ → List ℕ → List ℕ → List ℕ → List ℕ
  with_lines serial walks two shift tests = head_lines job ++ walks ++ two ++ shift ++ tests ++ serial_lines job serial ++ line (codes "end" ∷ [])

  reports_alike : (b : Bool) → 1 ≤ job.setting.stop → (stops : List (List ℕ)) (serial : Option (ℕ × List ℕ)) → report_by b job alone stops serial ≡ report_by b job all stops serial
  reports_alike true some stops serial = ap (λ (os : List Outcome). head_lines job ++ flat_map moved_line os ++ line (codes "end" ∷ [])) same_walks
  reports_alike false some stops serial =
      ap (λ (os : List Outcome). with_lines serial (flat_map (λ found. flat_map (walk_line job found) (placed_asks job)) os) (pair_lines job.setting.pairs job alone)
      (shift_line job.setting.shift alone) (test_lines job.setting.stop job alone stops)) same_walks
      ∙ ap (λ (two : List ℕ). with_lines serial (walk_lines job all) two (shift_line job.setting.shift alone) (test_lines job.setting.stop job alone stops)) (pairs_alike job.setting.pairs)
      ∙ ap (λ (shift : List ℕ). with_lines serial (walk_lines job all) (pair_lines job.setting.pairs job all) shift (test_lines job.setting.stop job alone stops))
      (sym (shift_of_walks job.setting.shift job.setting.ends))
      ∙ ap (λ (tests : List ℕ). with_lines serial (walk_lines job all) (pair_lines job.setting.pairs job all) (shift_line job.setting.shift all) tests)
      (tests_alike job.setting.stop some alone all stops)

  -- the report on the outlier walks alone is the report on all outcomes
  pub walks_determine_all : 1 ≤ job.setting.stop → (stops : List (List ℕ)) (serial : Option (ℕ × List ℕ))
      → report job (map_below job.setting.walks f) stops serial ≡ report job (sequence job draws) stops serial
  unfolding report sequence
  walks_determine_all some stops serial = reports_alike job.setting.blind some stops serial

-- ---- the outcomes of one thread

-- a filter that all numbers pass keeps all
all_below-filter : (n : ℕ) → filter_below n (λ id. true) ≡ map_below n (λ id. id)
all_below-filter zero = refl
all_below-filter (suc n) = ap (λ xs. xs ++ n ∷ []) (all_below-filter n)

-- without initial outcomes, with one part and a budget for all, every id is walked
all_ids_walked : (job : Job) → job.setting.parts ≡ 1 → job.setting.part ≡ 0 → total job ≤ job.setting.budget → run_ids job [] job.setting.budget ≡ map_below (total job) (λ id. id)
all_ids_walked job one first enough =
    ap (λ n. part_ids n job.setting.part job [] job.setting.budget) one
    ∙ ap (λ k. part_ids 1 k job [] job.setting.budget) first
    ∙ only_part job [] job.setting.budget
    ∙ ap (take job.setting.budget) (all_below-filter (total job))
    ∙ take_all job.setting.budget (map_below (total job) (λ id. id)) (omega (arith, length-map_below (total job) (λ id. id), enough))

module _ (job : Job) (run : IsRunJob job) (some : 1 ≤ job.setting.stop) where
  pub covered : total job ≤ job.setting.budget
  covered = run.covered (run.alone some).no_saves

  pub all_walked : run_ids job [] job.setting.budget ≡ map_below (total job) (λ id. id)
  all_walked = let whole = one_part job run (run.alone some).no_saves in all_ids_walked job whole.0 whole.1 covered

  found_by_one : map (found job) (map_below (total job) (λ id. id)) ≡ sequence job (draw job.setting.key)
  unfolding found sequence
  found_by_one = map-below (total job) (found job) (λ id. id)

  one_rises : AllPairs (λ a b. a.id < b.id) (sequence job (draw job.setting.key))
  unfolding sequence
  one_rises i j d before inside =
      let long = length-map_below (total job) (outcome job (draw job.setting.key)) in
      let first = ap (λ (o : Outcome). o.id) (get_or-map_below (total job) (outcome job (draw job.setting.key)) i d (omega (arith, before, inside, long))) in
      let second = ap (λ (o : Outcome). o.id) (get_or-map_below (total job) (outcome job (draw job.setting.key)) j d (omega (arith, inside, long))) in
      omega (arith, first, second, same_id job (draw job.setting.key) i, same_id job (draw job.setting.key) j, before)

  one_is_full : (budget : ℕ) → map_below (total job) (λ id. id) ≡ run_ids job [] budget → sequence job (draw job.setting.key) ≡ full job (draw job.setting.key) [] budget
  one_is_full budget ids = sym (full_is_sequence job (draw job.setting.key) [] (none_right job (draw job.setting.key)) budget (λ id inside.
      subst (λ (xs : List ℕ). (has_id [] id || has xs id) ≡ true) (all_walked ∙ ids)
      (every_id job [] (leaves_none job [] run (run.alone some).no_saves) id inside)))

  -- the outcomes of one thread are all outcomes of a run without initial outcomes
  pub one_finds_all : AreAll job [] (sequence job (draw job.setting.key))
  one_finds_all =
      are_all job run [] [] (map_below (total job) (λ id. id)) (sequence job (draw job.setting.key)) refl (none_fit job)
      (sym all_walked)
      (λ k d inside. let long = length-map_below (total job) (λ id. id) in let at = get_or-map_below (total job) (λ id. id) k d (omega (arith, inside, long)) in omega (arith, inside, long, at))
      one_is_full
      (subst (λ (os : List Outcome). IsPermutation (sequence job (draw job.setting.key)) os) (sym found_by_one) (IsPermutation-refl (sequence job (draw job.setting.key))))
      one_rises

  pub one_is_whole : total job ≤ length (sequence job (draw job.setting.key))
  unfolding sequence
  one_is_whole = omega (arith, length-map_below (total job) (outcome job (draw job.setting.key)))

  -- ---- the part that the report covers

  pub reports_walks : reported_by job.setting.stop job ≡ job.setting.walks
  reports_walks = by job.setting.stop some
    where
      by : (h : ℕ) → 1 ≤ h → reported_by h job ≡ job.setting.walks
      by zero few = absurd (omega (arith, few))
      by (suc h) few = refl

  -- the report covers the outlier walks
  pub walks_fit : (outcomes : List Outcome) → outcomes ≡ map_below job.setting.walks (outcome job (draw job.setting.key)) → AreOutcomesOf job outcomes
  walks_fit outcomes is = subst (AreOutcomesOf job) (sym is) (record {
    ids = map-below job.setting.walks (λ (o : Outcome). o.id) (outcome job (draw job.setting.key))
        ∙ ap (λ (g : ℕ → ℕ). map_below job.setting.walks g) (fun_ext (same_id job (draw job.setting.key)))
        ∙ ap (λ (n : ℕ). map_below n (λ id. id)) (sym reports_walks);
    fitting = fit_list job (map_below job.setting.walks (outcome job (draw job.setting.key))) (λ k d inside.
        let long = length-map_below job.setting.walks (outcome job (draw job.setting.key)) in
        subst (λ (o : Outcome). fits job o ≡ true) (sym (get_or-map_below job.setting.walks (outcome job (draw job.setting.key)) k d (omega (arith, inside, long))))
        (fitting.found_fits job (draw job.setting.key) job.setting.shift (run_setting job run).few_asks k (omega (arith, inside, long))));
  })

  -- the stops are in the form that a report needs
  pub stops_observed : (stops : List (List ℕ)) → length job.setting.asks ≤ length stops → AreParts job.setting.ends (length job.setting.asks) stops
      → AreStopsOf job (take (length job.setting.asks) stops)
  stops_observed stops enough parts = by job.setting.stop some
    where
      by : (h : ℕ) → 1 ≤ h → AreStopsBy h job (take (length job.setting.asks) stops)
      by zero few = absurd (omega (arith, few))
      by (suc h) few = record {
        count = omega (arith, length-take (length job.setting.asks) stops, enough);
        each = λ k d inside.
            let within : k < length job.setting.asks = omega (arith, inside, length-take (length job.setting.asks) stops) in
            let p = parts k within in
            subst (IsStopOf job.setting.ends)
            (sym (get_or-take (length job.setting.asks) stops k d within ∙ get_or_default stops k d [] (omega (arith, within, enough))))
            (record { place = p.place; some = p.some; part = p.part; of = p.of });
      }

  -- the first outcomes are those of the outlier walks
  pub walks_first : (outcomes : List Outcome) → StopsInTime job outcomes
      → (job.setting.walks ≤ length outcomes) × (take job.setting.walks outcomes ≡ map_below job.setting.walks (outcome job (draw job.setting.key)))
  unfolding found_below
  walks_first outcomes time =
      let count : ℕ = job.setting.walks + ends_after job.setting.ends time.rounds in
      let long = length-map_below count (outcome job (draw job.setting.key)) in (
        omega (arith, ap length time.found_are, long),
        ap (take job.setting.walks) time.found_are ∙ take-below job.setting.walks (ends_after job.setting.ends time.rounds) (outcome job (draw job.setting.key)),
      )
