-- The plain report is the report of one thread.
use Rattle.std.proofs.Common.{◌≡◌, ℕ, zero, suc, ◌+◌, ◌-◌, ◌*◌, ◌<◌, ◌≤◌, Bool, true, false, cond, not, ◌&&◌, List, [], ◌∷◌, ◌++◌, length, map, refl, sym, ap, ◌∙◌, arith, append-nil}
use Rattle.std.specs.Prelude.{◌==◌, ◌/◌, ◌%◌, nat_lt, nat_le, slice_set, if◌then◌else◌, Some, None, filter, flat_map, count_by, ℤ, pos, decimal, codes, bytes_eq, unsigned_abs}
use Rattle.std.specs.Fmt.{signed_decimal}
use Rattle.std.specs.List.{slice_index_or, enumerate_from}
use Rattle.hex.specs.Hex.{encode_lower}
use Rattle.json.specs.Print.{quoted}
use Rattle.sha2.specs.Sha256.{sha256}
use Rattle.std.proofs.Math.Path.{fun_ext}
use Rattle.std.proofs.lemmas.Bool.{cond-true, cond-false, lt-ltb, le-ltb, le-leb, lt-leb, ne_eqb}
use Rattle.std.proofs.lemmas.Grind.{flat_map-append}
use Rattle.std.proofs.lemmas.List.Elements.{filter-append}
use Rattle.std.proofs.lemmas.List.Sums.{sum_by-append, sum_by-cons}
use Rattle.audit_model.specs.declared.outcome.Outcome.{Outcome}
use Rattle.audit_model.specs.declared.setting.Ask.{Ask}
use Rattle.audit_model.specs.Below.{count_below, map_below}
use Rattle.audit_model.specs.Graph.{count_edges}
use Rattle.audit_model.specs.Job.{Job}
use Rattle.audit_model.specs.Length.{cut_length}
use Rattle.audit_model.specs.Limits.{most_edges, most_length}
use Rattle.audit_model.specs.Meets.{majorities}
use Rattle.audit_model.specs.Plan.{IsLegal, is_legal}
use Rattle.audit_model.specs.Proposal.{proposal, counted_draws}
use Rattle.audit_model.specs.Serially.{serial_by}
use Rattle.audit_model.specs.Step.{changed, next}
use Rattle.audit_model.specs.Stopping.{placed_asks, stops_of}
use Rattle.audit_model.specs.Test.{bound, p_value}
use Rattle.audit_model.specs.Weight.{largest_change}
use Rattle.audit_model.specs.Trajectory.{Draws, visit, four_values, in_tail, moves, outcome, outcome_by, plan_value, rank, sequence, value_at, visits_in_tail, walk_outcome}
use Rattle.audit_model.proofs.Below.{count_below_same}
use Rattle.audit_model.proofs.Bools.{same_bool}
use Rattle.audit_model.proofs.Legal.{legal_passes, passes_legal}
use Rattle.audit_model.proofs.Meeting.{default_meets}
use Rattle.audit_model.proofs.Weighing.{even_next}
use Rattle.audit_laws.proofs.Lengthless.{cut_length_none}
use Rattle.audit_statement.specs.Origin.{origin_if, origin_of}
use Rattle.audit_statement.specs.Report.{ask_words, billionths, columns_line, cut_length_line, ends_line, ends_lines, frozen_line, frozen_words, graph_line, group_line, group_words, length_line, length_lines, length_words, line, origin_lines, pair_lines, population_line, region_words, report, report_by, rule_lines, serial_lines, setting_line, share_line, shift_line, split_line, splits_line, start_length_line, stop_line, test_lines, thread_report, title_by, title_line, walk_line, walk_lines, weight_by, weight_line}
use Rattle.audit_statement.specs.Valid.{IsValid}
use Rattle.audit_statement.specs.Plain.{Decides, after_step, plan_after, each_below, is_extreme, end, start_rank, outlier_line, parallel_line, plain_report, source_lines}

-- a job without rules beyond legality: all edges may be cut, there are no regions, no majorities are required, no unit
-- is frozen, edges have no lengths, and cut edges have no weight
pub record HasNoRules (job : Job) : Type 0 where
  pub enough : count_edges job.graph (λ u v. true) ≤ job.setting.max_cut
  pub none : job.regions ≡ []
  pub none_due : job.setting.group_districts ≡ 0
  pub none_frozen : job.frozen ≡ []
  pub none_long : job.counts.lengths ≡ []
  pub no_weight : job.setting.cut_weight ≡ 256

-- ---- valid plans are legal

-- a legal plan is valid
pub legal_is_valid : (job : Job) (plan : List ℕ) → IsLegal job plan → IsValid job plan
legal_is_valid job plan h = record { complete = h.complete; in_range = h.in_range; connected = h.connected; balanced = h.balanced }

-- for a job without rules, a valid plan is legal
pub valid_is_legal : (job : Job) (plan : List ℕ) → HasNoRules job → IsValid job plan → IsLegal job plan
valid_is_legal job plan free h = record {
  complete = h.complete;
  in_range = h.in_range;
  connected = h.connected;
  balanced = h.balanced;
  meeting = default_meets job plan free.enough free.none free.none_due free.none_frozen;
  short = let none = cut_length_none job.graph job.counts.lengths plan free.none_long in omega (arith, none);
}

-- ---- the same plans are visited

-- a choice between a plan and itself is that plan
unmoved : (b : Bool) (plan : List ℕ) → cond b plan plan ≡ plan
unmoved true plan = refl
unmoved false plan = refl

-- a step moves to the proposed plan if there is a proposal and it passes
step_by : (test : List ℕ → Bool) (plan : List ℕ) (b : Bool) (u d : ℕ)
    → cond (test (changed plan (if b then Some (u, d) else None))) (changed plan (if b then Some (u, d) else None)) plan
    ≡ cond (b && test (slice_set plan u d)) (slice_set plan u d) plan
step_by test plan true u d = refl
step_by test plan false u d = unmoved (test plan) plan

-- the visited plan, by draws, start plan and step
abbrev pub Visits : Type 0
Visits = (ℕ → ℕ) → List ℕ → ℕ → List ℕ

module _ (job : Job) (free : HasNoRules job) (valid : List ℕ → Bool) (decides : Decides job valid) where
  answers : (plan : List ℕ) → is_legal job plan ≡ valid plan
  answers plan = same_bool (is_legal job plan) (valid plan)
      (λ h. (decides plan).1 (legal_is_valid job plan (passes_legal job plan h)))
      (λ h. legal_passes job plan (valid_is_legal job plan free ((decides plan).0 h)))

  next_is : (plan : List ℕ) (draw : ℕ) → next job plan draw ≡ after_step job valid plan draw
  unfolding next after_step
  next_is plan draw =
      even_next job plan draw free.no_weight
      ∙ ap (λ (test : List ℕ → Bool).
      cond (test (changed plan (proposal job.graph.units job.districts draw))) (changed plan (proposal job.graph.units job.districts draw)) plan)
      (fun_ext answers)
      ∙ step_by valid plan (nat_lt draw (counted_draws job.graph.units job.districts))
      (draw % (job.graph.units * job.districts) / job.districts) (draw % (job.graph.units * job.districts) % job.districts)

  pub visit_is : (draws : ℕ → ℕ) (plan : List ℕ) (i : ℕ) → visit job draws plan i ≡ plan_after job valid draws plan i
  unfolding visit plan_after
  visit_is draws plan zero = refl
  visit_is draws plan (suc i) =
      next_is (visit job draws plan i) (draws i) ∙ ap (λ p. after_step job valid p (draws i)) (visit_is draws plan i)

  pub visits_are : visit job ≡ plan_after job valid
  visits_are = fun_ext (λ draws. fun_ext (λ plan. fun_ext (λ i. visit_is draws plan i)))

-- ---- lists by rising number

-- functions that agree below a bound give the same texts
each_below_same : (n : ℕ) (f g : ℕ → List ℕ) → ((k : ℕ) → k < n → f k ≡ g k) → each_below n f ≡ each_below n g
each_below_same zero f g same = refl
each_below_same (suc n) f g same =
    ap (λ xs. xs ++ f n) (each_below_same n f g (λ k l. same k (omega (arith, l)))) ∙ ap (λ xs. each_below n g ++ xs) (same n (omega arith))

-- one more outcome counts if it passes
count_more : (test : Outcome → Bool) (os : List Outcome) (o : Outcome) → count_by test (os ++ o ∷ []) ≡ count_by test os + cond (test o) 1 0
count_more test os o =
    let last = sum_by-cons (λ x. cond {A = ℕ} (test x) 1 0) o [] in
    omega (arith, sum_by-append (λ x. cond {A = ℕ} (test x) 1 0) os (o ∷ []), last)

-- the texts of the outcomes with ids below a bound are those of the first numbers, and the rest is dropped
module _ (most : ℕ) (found : ℕ → Outcome) (ids : (n : ℕ) → (found n).id ≡ n) where
  front : (n : ℕ) (text : Outcome → List ℕ) → n ≤ most
      → flat_map text (filter (λ o. nat_lt o.id most) (map_below n found)) ≡ each_below n (λ id. text (found id))
  front zero text l = refl
  front (suc n) text l =
      let below : nat_lt (found n).id most ≡ true = lt-ltb (found n).id most (omega (arith, l, ids n)) in
      let last : filter (λ o. nat_lt o.id most) (found n ∷ []) ≡ found n ∷ [] =
      cond-true {A = List Outcome} (nat_lt (found n).id most) (found n ∷ []) [] below in
      ap (flat_map text) (filter-append (λ o. nat_lt o.id most) (map_below n found) (found n ∷ [])
      ∙ ap (λ os. filter (λ o. nat_lt o.id most) (map_below n found) ++ os) last)
      ∙ flat_map-append text (filter (λ o. nat_lt o.id most) (map_below n found)) (found n ∷ [])
      ∙ ap (λ xs. xs ++ (text (found n) ++ [])) (front n text (omega (arith, l)))
      ∙ ap (λ xs. each_below n (λ id. text (found id)) ++ xs) (append-nil (text (found n)))

  front_alone : (more : ℕ) → filter (λ o. nat_lt o.id most) (map_below (most + more) found) ≡ filter (λ o. nat_lt o.id most) (map_below most found)
  front_alone zero = let e : most + 0 ≡ most = omega arith in ap (λ n. filter (λ o. nat_lt o.id most) (map_below n found)) e
  front_alone (suc more) =
      let e : most + suc more ≡ suc (most + more) = omega arith in
      let above : nat_lt (found (most + more)).id most ≡ false = le-ltb (found (most + more)).id most (omega (arith, ids (most + more))) in
      let last : filter (λ o. nat_lt o.id most) (found (most + more) ∷ []) ≡ [] =
      cond-false {A = List Outcome} (nat_lt (found (most + more)).id most) (found (most + more) ∷ []) [] above in
      ap (λ n. filter (λ o. nat_lt o.id most) (map_below n found)) e
      ∙ filter-append (λ o. nat_lt o.id most) (map_below (most + more) found) (found (most + more) ∷ [])
      ∙ ap (λ os. filter (λ o. nat_lt o.id most) (map_below (most + more) found) ++ os) last
      ∙ append-nil (filter (λ o. nat_lt o.id most) (map_below (most + more) found))
      ∙ front_alone more

  pub texts_below : (more : ℕ) (text : Outcome → List ℕ)
      → flat_map text (filter (λ o. nat_lt o.id most) (map_below (most + more) found)) ≡ each_below most (λ id. text (found id))
  texts_below more text = ap (flat_map text) (front_alone more) ∙ front most text (omega arith)

  none_yet : (n : ℕ) → n ≤ most → filter (λ o. nat_le most o.id) (map_below n found) ≡ []
  none_yet zero l = refl
  none_yet (suc n) l =
      let below : nat_le most (found n).id ≡ false = lt-leb most (found n).id (omega (arith, l, ids n)) in
      filter-append (λ o. nat_le most o.id) (map_below n found) (found n ∷ [])
      ∙ ap (λ os. os ++ filter (λ o. nat_le most o.id) (found n ∷ [])) (none_yet n (omega (arith, l)))
      ∙ cond-false {A = List Outcome} (nat_le most (found n).id) (found n ∷ []) [] below

  pub counted_from : (test : Outcome → Bool) (more : ℕ)
      → count_by test (filter (λ o. nat_le most o.id) (map_below (most + more) found)) ≡ count_below more (λ n. test (found (most + n)))
  unfolding count_below
  counted_from test zero =
      let e : most + 0 ≡ most = omega arith in
      ap (λ n. count_by test (filter (λ o. nat_le most o.id) (map_below n found))) e ∙ ap (count_by test) (none_yet most (omega arith))
  counted_from test (suc more) =
      let e : most + suc more ≡ suc (most + more) = omega arith in
      let above : nat_le most (found (most + more)).id ≡ true = le-leb most (found (most + more)).id (omega (arith, ids (most + more))) in
      let last : filter (λ o. nat_le most o.id) (found (most + more) ∷ []) ≡ found (most + more) ∷ [] =
      cond-true {A = List Outcome} (nat_le most (found (most + more)).id) (found (most + more) ∷ []) [] above in
      ap (λ n. count_by test (filter (λ o. nat_le most o.id) (map_below n found))) e
      ∙ ap (count_by test) (filter-append (λ o. nat_le most o.id) (map_below (most + more) found) (found (most + more) ∷ [])
      ∙ ap (λ os. filter (λ o. nat_le most o.id) (map_below (most + more) found) ++ os) last)
      ∙ count_more test (filter (λ o. nat_le most o.id) (map_below (most + more) found)) (found (most + more))
      ∙ ap (λ n. n + cond (test (found (most + more))) 1 0) (counted_from test more)

-- ---- asks by their places

-- the value at a place is that of the ask at the place
IsAt : List Ask → ℕ → Ask → Type 0
IsAt asks place ask = (values : Ask → ℤ) → slice_index_or (four_values (map values asks)) place (pos 0) ≡ values ask

-- a text by places is the text by asks
over_asks : (asks : List Ask) (by_place : ℕ × Ask → List ℕ) (text : Ask → List ℕ) → length asks ≤ 4
    → ((place : ℕ) (ask : Ask) → IsAt asks place ask → by_place (place, ask) ≡ text ask)
    → flat_map by_place (enumerate_from 0 asks) ≡ flat_map text asks
unfolding IsAt
over_asks [] by_place text few same = refl
over_asks (a ∷ []) by_place text few same =
    let one = same 0 a (λ values. refl) in
    cc
over_asks (a ∷ b ∷ []) by_place text few same =
    let one = same 0 a (λ values. refl) in
    let two = same 1 b (λ values. refl) in
    cc
over_asks (a ∷ b ∷ c ∷ []) by_place text few same =
    let one = same 0 a (λ values. refl) in
    let two = same 1 b (λ values. refl) in
    let three = same 2 c (λ values. refl) in
    cc
over_asks (a ∷ b ∷ c ∷ d ∷ []) by_place text few same =
    let one = same 0 a (λ values. refl) in
    let two = same 1 b (λ values. refl) in
    let three = same 2 c (λ values. refl) in
    let four = same 3 d (λ values. refl) in
    cc
over_asks (a ∷ b ∷ c ∷ d ∷ e ∷ rest) by_place text few same = absurd (omega arith)

-- ---- the lines

-- the settings of a job without optional features, and its origin in the bytes
pub record AsksPlainly (job : Job) (bytes : List ℕ) : Type 0 where
  pub no_stop : job.setting.stop ≡ 0
  pub no_serial : job.setting.serial ≡ false
  pub no_shift : job.setting.shift ≡ false
  pub any_cut : job.setting.max_cut ≡ most_edges
  pub no_group : job.group.members ≡ []
  pub no_lengths : job.setting.columns.length ≡ []
  pub any_length : job.setting.max_length ≡ most_length
  pub no_weight : job.setting.cut_weight ≡ 256
  pub no_pairs : job.setting.pairs ≡ false
  pub not_blind : job.setting.blind ≡ false
  pub no_regions : job.setting.region ≡ []
  pub no_members : job.setting.columns.group ≡ []
  pub no_frozen : job.setting.columns.frozen ≡ []
  pub origin : job.origin ≡ origin_of job.setting bytes
  pub few_asks : length job.setting.asks ≤ 4

-- the line of an outlier walk, by its numbers
abbrev walk_line_by : Job → ℕ → Ask → ℕ → ℤ → List ℕ
walk_line_by job n ask moved count = line (
    (codes "walk" ∷ decimal n ∷ codes "moved" ∷ decimal moved ∷ []) ++ ask_words job ask
    ++ codes "count" ∷ signed_decimal count ∷ codes "of" ∷ decimal (job.setting.steps + 1)
    ∷ codes "bound" ∷ billionths (bound (unsigned_abs count) (job.setting.steps + 1)) ∷ [])

abbrev ends_line_by : Job → Ask → ℕ → List ℕ
ends_line_by job ask place = line (
    (codes "ends" ∷ []) ++ ask_words job ask
    ++ codes "rank" ∷ decimal place ∷ codes "of" ∷ decimal (job.setting.ends + 1)
    ∷ codes "p" ∷ billionths (p_value place (job.setting.ends + 1)) ∷ [])

-- the number of moves along the visited plans
abbrev moved_by : Visits → Job → (ℕ → ℕ) → ℕ
moved_by v job draws = count_below job.setting.steps (λ i. not (bytes_eq (v draws job.start i) (v draws job.start (suc i))))

abbrev extreme_by : Visits → Job → (ℕ → ℕ) → Ask → ℕ
extreme_by v job draws ask =
    count_below (job.setting.steps + 1) (λ i. in_tail ask.tail (plan_value job (v draws job.start i) ask.score) (plan_value job job.start ask.score))

abbrev end_by : Visits → Job → Draws → ℕ → List ℕ
end_by v job draws n = v (draws (2 * n + 3)) (v (draws 1) job.start job.setting.hub_steps) job.setting.hub_steps

abbrev end_is_extreme : Visits → Job → Draws → Ask → ℕ → Bool
end_is_extreme v job draws ask n = in_tail ask.tail (plan_value job (end_by v job draws n) ask.score) (plan_value job job.start ask.score)

-- the report on the job's outcomes, by its optional parts
abbrev parts_by : Job → Draws → List ℕ → List ℕ → List ℕ → List ℕ → ℕ → List ℕ → List ℕ → Bool → List (List ℕ) → Bool → List ℕ
parts_by job draws title origin rules weight stop walks two shift stops serial =
    title
    ++ origin
    ++ line (codes "key" ∷ encode_lower job.setting.key ∷ [])
    ++ graph_line job
    ++ population_line job
    ++ rules
    ++ weight
    ++ setting_line job
    ++ stop_line stop
    ++ walks
    ++ two
    ++ shift_line shift (sequence job draws)
    ++ test_lines stop job (sequence job draws) stops
    ++ serial_lines job (serial_by serial job draws)
    ++ line (codes "end" ∷ [])

abbrev plain_by : Job → List ℕ → List ℕ → List ℕ → List ℕ
plain_by job origin walks ends =
    line (codes "district-audit 1" ∷ [])
    ++ origin
    ++ line (codes "key" ∷ encode_lower job.setting.key ∷ [])
    ++ graph_line job
    ++ population_line job
    ++ setting_line job
    ++ walks
    ++ ends
    ++ line (codes "end" ∷ [])

module _ (job : Job) (free : HasNoRules job) (bytes : List ℕ) (plain : AsksPlainly job bytes) (valid : List ℕ → Bool) (decides : Decides job valid) (draws : Draws) where
  visits : visit job ≡ plan_after job valid
  visits = visits_are job free valid decides

  outlier_line_is : (n place : ℕ) (ask : Ask) → IsAt job.setting.asks place ask
      → walk_line job (walk_outcome false job draws n) (place, ask) ≡ outlier_line job valid draws n ask
  unfolding IsAt
  outlier_line_is n place ask at =
      ap (walk_line_by job n ask (moves job (draws (2 * n)) job.start job.setting.steps))
      (at (λ a. pos (visits_in_tail job (draws (2 * n)) job.setting.steps a)))
      ∙ ap (λ (v : Visits). walk_line_by job n ask (moved_by v job (draws (2 * n))) (pos (extreme_by v job (draws (2 * n)) ask))) visits

  found : ℕ → Outcome
  found id = outcome job draws id

  ids : (n : ℕ) → (found n).id ≡ n
  unfolding found
  ids n = by_kind (nat_lt n job.setting.walks)
    where
      by_kind : (b : Bool) → (outcome_by b job.setting.shift job draws n).id ≡ n
      by_kind true = refl
      by_kind false = refl

  walk_lines_are : walk_lines job (sequence job draws) ≡ each_below job.setting.walks (λ n. flat_map (outlier_line job valid draws n) job.setting.asks)
  unfolding sequence found
  walk_lines_are =
      texts_below job.setting.walks found ids job.setting.ends (λ o. flat_map (walk_line job o) (placed_asks job))
      ∙ each_below_same job.setting.walks (λ id. flat_map (walk_line job (found id)) (placed_asks job))
      (λ n. flat_map (outlier_line job valid draws n) job.setting.asks)
      (λ n l.
      ap (λ (b : Bool). flat_map (walk_line job (outcome_by b job.setting.shift job draws n)) (placed_asks job)) (lt-ltb n job.setting.walks l)
      ∙ ap (λ (b : Bool). flat_map (walk_line job (walk_outcome b job draws n)) (placed_asks job)) plain.no_shift
      ∙ over_asks job.setting.asks (walk_line job (walk_outcome false job draws n)) (outlier_line job valid draws n) plain.few_asks
      (λ place ask at. outlier_line_is n place ask at))

  end_is : (place : ℕ) (ask : Ask) (n : ℕ) → IsAt job.setting.asks place ask
      → in_tail ask.tail (value_at (found (job.setting.walks + n)) place) (plan_value job job.start ask.score) ≡ is_extreme job ask (end job valid draws n)
  unfolding IsAt found
  end_is place ask n at =
      let k : job.setting.walks + n - job.setting.walks ≡ n = omega arith in
      let above : nat_lt (job.setting.walks + n) job.setting.walks ≡ false = le-ltb (job.setting.walks + n) job.setting.walks (omega arith) in
      ap (λ (b : Bool). in_tail ask.tail (value_at (outcome_by b job.setting.shift job draws (job.setting.walks + n)) place) (plan_value job job.start ask.score)) above
      ∙ ap (λ (x : ℤ). in_tail ask.tail x (plan_value job job.start ask.score))
      (at (λ a. plan_value job (end_by (visit job) job draws (job.setting.walks + n - job.setting.walks)) a.score))
      ∙ ap (end_is_extreme (visit job) job draws ask) k
      ∙ ap (λ (v : Visits). end_is_extreme v job draws ask n) visits

  rank_is : (place : ℕ) (ask : Ask) → IsAt job.setting.asks place ask → rank job ask place (sequence job draws) ≡ start_rank job valid draws ask
  unfolding sequence found
  rank_is place ask at =
      ap (λ n. 1 + n) (counted_from job.setting.walks found ids
      (λ o. in_tail ask.tail (value_at o place) (plan_value job job.start ask.score)) job.setting.ends
      ∙ count_below_same job.setting.ends
      (λ n. in_tail ask.tail (value_at (found (job.setting.walks + n)) place) (plan_value job job.start ask.score))
      (λ n. is_extreme job ask (end job valid draws n)) (λ n l. end_is place ask n at))

  ends_lines_are : (ends : ℕ) → ends_lines ends job (sequence job draws) ≡ cond (ends == 0) [] (flat_map (parallel_line job valid draws) job.setting.asks)
  ends_lines_are zero = refl
  ends_lines_are (suc ends) =
      over_asks job.setting.asks (ends_line job (sequence job draws)) (parallel_line job valid draws) plain.few_asks
      (λ place ask at. ap (ends_line_by job ask) (rank_is place ask at))
      ∙ sym (cond-false {A = List ℕ} (suc ends == 0) [] (flat_map (parallel_line job valid draws) job.setting.asks)
      (ne_eqb (suc ends) 0 (λ e. omega (arith, e))))

  rule_lines_are : rule_lines job ≡ []
  rule_lines_are =
      ap (λ (most : ℕ). cond (nat_lt most most_edges) (line (codes "max-cut" ∷ decimal most ∷ [])) []
      ++ region_line job.regions ++ all_line job.regions ++ majority_line job.group.members ++ part_line job.group.members ++ frozen_line job.frozen ++ length_lines job) plain.any_cut
      ∙ ap (λ (regions : List ℕ). region_line regions ++ all_line regions ++ majority_line job.group.members ++ part_line job.group.members ++ frozen_line job.frozen ++ length_lines job) free.none
      ∙ ap (λ (members : List ℕ). majority_line members ++ part_line members ++ frozen_line job.frozen ++ length_lines job) plain.no_group
      ∙ ap (λ (frozen : List ℕ). frozen_line frozen ++ length_lines job) free.none_frozen
      ∙ ap (λ (b : Bool). start_length_line b (cut_length job.graph job.counts.lengths job.start) job.setting.columns.length ++ length_line job.setting.max_length) plain.not_blind
      ∙ ap (λ (column : List ℕ). cut_length_line (cut_length job.graph job.counts.lengths job.start) column ++ length_line job.setting.max_length) plain.no_lengths
      ∙ ap (λ (most : ℕ). length_line most) plain.any_length
    where
      region_line : List ℕ → List ℕ
      region_line regions = split_line job.setting.max_split regions

      all_line : List ℕ → List ℕ
      all_line regions = splits_line job.setting.max_splits job.setting.max_split_regions regions

      majority_line : List ℕ → List ℕ
      majority_line members = group_line job.setting.group_districts (majorities job.setting.group_share job.group job.start) members

      part_line : List ℕ → List ℕ
      part_line members = share_line job.setting.group_share members

  columns_are : columns_line job.setting.columns job.setting.region
      ≡ line (codes "columns" ∷ quoted job.setting.columns.population ∷ quoted job.setting.columns.first ∷ quoted job.setting.columns.second ∷ quoted job.setting.columns.district ∷ [])
  columns_are =
      let cs = job.setting.columns in
      let names = codes "columns" ∷ quoted cs.population ∷ quoted cs.first ∷ quoted cs.second ∷ quoted cs.district ∷ [] in
      ap (λ (region : List ℕ). line (names ++ region_words region ++ group_words cs.group cs.whole ++ frozen_words cs.frozen ++ length_words cs.length)) plain.no_regions
      ∙ ap (λ (group : List ℕ). line (names ++ group_words group cs.whole ++ frozen_words cs.frozen ++ length_words cs.length)) plain.no_members
      ∙ ap (λ (frozen : List ℕ). line (names ++ frozen_words frozen ++ length_words cs.length)) plain.no_frozen
      ∙ ap (λ (length : List ℕ). line (names ++ length_words length)) plain.no_lengths

  origin_lines_are : origin_lines job job.origin ≡ source_lines job.setting.source job.setting.columns bytes
  origin_lines_are = ap (origin_lines job) plain.origin ∙ by job.setting.source
    where
      by : (asked : Bool) → origin_lines job (origin_if asked bytes) ≡ source_lines asked job.setting.columns bytes
      by true = ap (λ (columns : List ℕ). line (codes "source" ∷ codes "sha256" ∷ encode_lower (sha256 bytes) ∷ codes "bytes" ∷ decimal (length bytes) ∷ []) ++ columns) columns_are
      by false = refl

  weight_line_is : weight_line job ≡ []
  weight_line_is = ap (λ (weight : ℕ). weight_by weight (largest_change (job.graph.units * job.districts))) plain.no_weight

  title_is : title_by job.setting.blind job.setting.shift ≡ line (codes "district-audit 1" ∷ [])
  title_is = ap (λ (b : Bool). title_by b job.setting.shift) plain.not_blind ∙ ap (λ (b : Bool). title_line b) plain.no_shift

  emptied : (origin walks : List ℕ) (stops : List (List ℕ))
      → parts_by job draws (line (codes "district-audit 1" ∷ [])) origin [] [] 0 walks [] false stops false ≡ plain_by job origin walks (ends_lines job.setting.ends job (sequence job draws))
  emptied origin walks stops =
      let head = line (codes "district-audit 1" ∷ []) ++ origin ++ line (codes "key" ∷ encode_lower job.setting.key ∷ []) ++ graph_line job ++ population_line job in
      let ends = ends_lines job.setting.ends job (sequence job draws) in
      let last = line (codes "end" ∷ []) in
      ap (λ (xs : List ℕ). xs ++ [] ++ setting_line job ++ [] ++ walks ++ [] ++ [] ++ ends ++ [] ++ last) (append-nil head)
      ∙ ap (λ (xs : List ℕ). xs ++ setting_line job ++ [] ++ walks ++ [] ++ [] ++ ends ++ [] ++ last) (append-nil head)
      ∙ ap (λ (xs : List ℕ). xs ++ walks ++ [] ++ [] ++ ends ++ [] ++ last) (append-nil (head ++ setting_line job))
      ∙ ap (λ (xs : List ℕ). xs ++ [] ++ ends ++ [] ++ last) (append-nil (head ++ setting_line job ++ walks))
      ∙ ap (λ (xs : List ℕ). xs ++ ends ++ [] ++ last) (append-nil (head ++ setting_line job ++ walks))
      ∙ ap (λ (xs : List ℕ). xs ++ last) (append-nil (head ++ setting_line job ++ walks ++ ends))

  pub plain_report_is : thread_report job draws ≡ plain_report job valid draws bytes
  unfolding thread_report report plain_report
  plain_report_is =
      let outcomes = sequence job draws in
      let title = title_by job.setting.blind job.setting.shift in
      let first = line (codes "district-audit 1" ∷ []) in
      let origin = origin_lines job job.origin in
      let asked = source_lines job.setting.source job.setting.columns bytes in
      let rules = rule_lines job in
      let weight = weight_line job in
      let walks = walk_lines job outcomes in
      let two = pair_lines job.setting.pairs job outcomes in
      let stops = stops_of job outcomes in
      let each = each_below job.setting.walks (λ n. flat_map (outlier_line job valid draws n) job.setting.asks) in
      ap (λ (b : Bool). report_by b job outcomes stops (serial_by job.setting.serial job draws)) plain.not_blind
      ∙ ap (λ (t : List ℕ). parts_by job draws t origin rules weight job.setting.stop walks two job.setting.shift stops job.setting.serial) title_is
      ∙ ap (λ (b : Bool). parts_by job draws first origin rules weight job.setting.stop walks two b stops job.setting.serial) plain.no_shift
      ∙ ap (λ (t : List ℕ). parts_by job draws first t rules weight job.setting.stop walks two false stops job.setting.serial) origin_lines_are
      ∙ ap (λ (t : List ℕ). parts_by job draws first asked t weight job.setting.stop walks two false stops job.setting.serial) rule_lines_are
      ∙ ap (λ (t : List ℕ). parts_by job draws first asked [] t job.setting.stop walks two false stops job.setting.serial) weight_line_is
      ∙ ap (λ (n : ℕ). parts_by job draws first asked [] [] n walks two false stops job.setting.serial) plain.no_stop
      ∙ ap (λ (b : Bool). parts_by job draws first asked [] [] 0 walks two false stops b) plain.no_serial
      ∙ ap (λ (b : Bool). parts_by job draws first asked [] [] 0 walks (pair_lines b job outcomes) false stops false) plain.no_pairs
      ∙ ap (λ (t : List ℕ). parts_by job draws first asked [] [] 0 t [] false stops false) walk_lines_are
      ∙ emptied asked each stops
      ∙ ap (plain_by job asked each) (ends_lines_are job.setting.ends)
