-- Arguments and JSON determine one report.
use Rattle.std.proofs.Common.{◌≡◌, ℕ, zero, suc, ◌+◌, ◌-◌, ◌*◌, ◌<◌, ◌≤◌, Bool, true, cond, not, ◌&&◌, List, [], ◌∷◌, ◌++◌, length, Result, Ok, refl, sym, ap, ◌∙◌, subst, arith}
use Rattle.std.specs.Prelude.{◌==◌, ◌/◌, ◌%◌, ◌^◌, nat_lt, slice_index, slice_set, flat_map, ℤ, decimal, codes, bytes_eq, sum, unwrap_or}
use Rattle.std.proofs.Math.Path.{fun_ext}
use Rattle.std.proofs.lemmas.Fmt.{decimal_injective}
use Rattle.serde_json.specs.Data.{Data}
use Rattle.hex.specs.Hex.{encode_lower}
use Rattle.json.specs.Print.{quoted}
use Rattle.sha2.specs.Sha256.{sha256}
use Rattle.audit_model.specs.declared.outcome.Counts.{Counts}
use Rattle.audit_model.specs.declared.setting.Ask.{Ask}
use Rattle.audit_model.specs.declared.setting.Score.{Score}
use Rattle.audit_model.specs.declared.setting.Score.TheVariants.{Seats, MeanMedian, Gap, CutEdges, CutLength}
use Rattle.audit_model.specs.declared.setting.Setting.{Setting}
use Rattle.audit_model.specs.declared.setting.Tail.{Tail}
use Rattle.audit_model.specs.declared.setting.Tail.TheVariants.{Low, High}
use Rattle.audit_model.specs.Below.{count_below, map_below}
use Rattle.audit_model.specs.Graph.{count_edges}
use Rattle.audit_model.specs.Job.{Job}
use Rattle.audit_model.specs.District.{district_sum, in_district}
use Rattle.audit_model.specs.Length.{cut_length}
use Rattle.audit_model.specs.Plan.{cut_edges}
use Rattle.audit_model.specs.Score.{denominator, sums_of, value}
use Rattle.audit_model.specs.Rounded.{quotient_up}
use Rattle.audit_model.specs.Test.{bound, p_value}
use Rattle.audit_model.specs.Trajectory.{Draws, in_tail, plan_value}
use Rattle.audit_statement.specs.Draw.{draw}
use Rattle.audit_model.proofs.Bools.{same_bool}
use Rattle.audit_laws.proofs.Determining.{given_jobs_are_of_one_graph, same_lists}
use Rattle.audit_laws.proofs.Lengthless.{cut_length_none}
use Rattle.audit_laws.proofs.Sound.{count_edges_same}
use Rattle.audit_laws.proofs.Taking.{connected_same}
use Rattle.audit_laws.specs.Determined.{AreOfOneGraph, ReadAlike}
use Rattle.audit_statement.specs.Valid.{IsValid}
use Rattle.audit_laws.specs.One.{IsSuch, ReportsAreOne}
use Rattle.audit_statement.specs.Plain.{each_below, plain_report, plan_after, after_step, source_lines}
use Rattle.audit_statement.specs.PlainArguments.{SettingMatches, IsNotGiven, IsSpelled}
use Rattle.audit_statement.specs.Names.{score_name, tail_name}
use Rattle.audit_statement.specs.Report.{billionths, fraction, line}
use Rattle.audit_statement.specs.Words.{ask_of, ask_text}

-- ---- arguments determine one setting

-- digits spell one number
same_number : (text : List ℕ) (m n : ℕ) → IsSpelled text m → IsSpelled text n → m ≡ n
same_number text m n p q = decimal_injective m n p.1 q.1 (p.0 ∙ sym q.0)

-- the text of an ask has one reading
spelled_back : (score : Score) (tail : Tail)
    → unwrap_or (ask_of (ask_text (record { score = score; tail = tail }))) (record { score = Seats; tail = Low }) ≡ record { score = score; tail = tail }
spelled_back Seats Low = refl
spelled_back Seats High = refl
spelled_back MeanMedian Low = refl
spelled_back MeanMedian High = refl
spelled_back Gap Low = refl
spelled_back Gap High = refl
spelled_back CutEdges Low = refl
spelled_back CutEdges High = refl
spelled_back CutLength Low = refl
spelled_back CutLength High = refl

-- the text of an ask is read back as this ask
ask_back : (ask : Ask) → unwrap_or (ask_of (ask_text ask)) (record { score = Seats; tail = Low }) ≡ ask
ask_back ask = spelled_back ask.score ask.tail

-- a reading gives one key
same_key : {E : Type 0} (r : Result (List ℕ) E) (a b : List ℕ) → r ≡ Ok a → r ≡ Ok b → a ≡ b
same_key r a b p q = cc

module _ (words : List (List ℕ)) (a b : Setting) (s : SettingMatches words a) (t : SettingMatches words b) (silent : IsNotGiven words (codes "--length")) where
  same_columns : ReadAlike a.columns b.columns
  same_columns = record {
    population = s.population ∙ sym t.population;
    first = s.first ∙ sym t.first;
    second = s.second ∙ sym t.second;
    district = s.district ∙ sym t.district;
    no_lengths = (s.length ∙ silent [], t.length ∙ silent []);
  }

  same_asks : a.asks ≡ b.asks
  same_asks = same_lists ask_text (λ (text : List ℕ). unwrap_or (ask_of text) (record { score = Seats; tail = Low })) ask_back a.asks b.asks
      (s.asks ∙ sym t.asks)

-- ---- the inputs of the report

-- the visited plan, by draws, start plan and step
abbrev Visits : Type 0
Visits = (ℕ → ℕ) → List ℕ → ℕ → List ℕ

module _ (origin : List ℕ) (edges units districts : ℕ) (counts : Counts) (slack : ℕ) (key : List ℕ) (walks steps ends hub_steps : ℕ) (asks : List Ask)
    (start : List ℕ) (score : List ℕ → Score → ℤ) (visits : Visits) (draws : Draws) where
  abbrev ask_said : Ask → List (List ℕ)
  ask_said ask =
      score_name ask.score ∷ tail_name ask.tail ∷ codes "start"
      ∷ fraction (score start ask.score) (denominator ask.score districts (sum counts.first + sum counts.second)) ∷ []

  abbrev extreme : Ask → List ℕ → Bool
  extreme ask plan = in_tail ask.tail (score plan ask.score) (score start ask.score)

  abbrev counted : ℕ → Ask → ℕ
  counted n ask = count_below (steps + 1) (λ i. extreme ask (visits (draws (2 * n)) start i))

  abbrev rank : Ask → ℕ
  rank ask = 1 + count_below ends (λ n. extreme ask (visits (draws (2 * n + 3)) (visits (draws 1) start hub_steps) hub_steps))

  whole : List ℕ
  whole =
      line (codes "district-audit 1" ∷ [])
      ++ origin
      ++ line (codes "key" ∷ encode_lower key ∷ [])
      ++ line (codes "units" ∷ decimal units ∷ codes "edges" ∷ decimal edges ∷ codes "districts" ∷ decimal districts ∷ [])
      ++ line (codes "population" ∷ decimal (sum counts.population) ∷ codes "slack" ∷ decimal slack
      ∷ codes "low" ∷ decimal (quotient_up ((10000 - slack) * sum counts.population) (10000 * districts))
      ∷ codes "high" ∷ decimal ((10000 + slack) * sum counts.population / (10000 * districts)) ∷ [])
      ++ line (codes "walks" ∷ decimal walks ∷ codes "steps" ∷ decimal steps ∷ codes "ends" ∷ decimal ends ∷ codes "hub-steps" ∷ decimal hub_steps ∷ [])
      ++ each_below walks (λ n. flat_map (λ ask. line (
      (codes "walk" ∷ decimal n ∷ codes "moved"
      ∷ decimal (count_below steps (λ i. not (bytes_eq (visits (draws (2 * n)) start i) (visits (draws (2 * n)) start (suc i))))) ∷ []) ++ ask_said ask
      ++ codes "count" ∷ decimal (counted n ask) ∷ codes "of" ∷ decimal (steps + 1)
      ∷ codes "bound" ∷ billionths (bound (counted n ask) (steps + 1)) ∷ [])) asks)
      ++ cond (ends == 0) [] (flat_map (λ ask. line (
      (codes "ends" ∷ []) ++ ask_said ask
      ++ codes "rank" ∷ decimal (rank ask) ∷ codes "of" ∷ decimal (ends + 1)
      ∷ codes "p" ∷ billionths (p_value (rank ask) (ends + 1)) ∷ [])) asks)
      ++ line (codes "end" ∷ [])

-- the plain report of a job is a function of its graph, its counts, its setting and the lines on its source
report_is : (job : Job) (valid : List ℕ → Bool) (draws : Draws) (bytes : List ℕ) → plain_report job valid draws bytes
    ≡ whole (source_lines job.setting.source job.setting.columns bytes) (count_edges job.graph (λ u v. true)) job.graph.units job.districts job.counts job.setting.slack job.setting.key job.setting.walks job.setting.steps
    job.setting.ends job.setting.hub_steps job.setting.asks job.start (plan_value job) (plan_after job valid) draws
unfolding plain_report whole
report_is job valid draws bytes = refl

-- ---- one graph and one setting

-- a step as a function of its inputs
abbrev step_by : ℕ → ℕ → (List ℕ → Bool) → List ℕ → ℕ → List ℕ
step_by units districts valid plan n =
    let pairs = units * districts in
    let moved = slice_set plan (n % pairs / districts) (n % pairs % districts) in
    cond (nat_lt n (2 ^ 64 / pairs * pairs) && valid moved) moved plan

-- the bounds on a district as a function of their inputs
abbrev WithinBounds : ℕ → ℕ → Counts → List ℕ → ℕ → Type 0
WithinBounds slack districts counts plan d =
    ((10000 - slack) * sum counts.population ≤ 10000 * districts * district_sum counts.population plan d)
    × (10000 * districts * district_sum counts.population plan d ≤ (10000 + slack) * sum counts.population)

-- a plan that is valid for a job is valid for another with the same graph and slack
valid_there : (a b : Job) → AreOfOneGraph a b → a.setting.slack ≡ b.setting.slack → (plan : List ℕ) → IsValid a plan → IsValid b plan
valid_there a b one slack plan h =
    let fewer : (d : ℕ) → d < b.districts → d < a.districts = λ d l. omega (arith, l, one.districts) in
    record {
      complete = h.complete ∙ one.units;
      in_range = λ u l. let below = h.in_range u (omega (arith, l, one.units)) in omega (arith, below, one.districts);
      connected = λ d l. connected_same a.graph b.graph (in_district plan d) one.units one.edges (h.connected d (fewer d l));
      balanced = λ d l.
          subst (λ (s : ℕ). WithinBounds s b.districts b.counts plan d) slack
          (subst (λ (k : ℕ). WithinBounds a.setting.slack k b.counts plan d) one.districts
          (subst (λ (c : Counts). WithinBounds a.setting.slack a.districts c plan d) one.counts (h.balanced d (fewer d l))));
    }

-- having one graph is symmetric
back : (a b : Job) → AreOfOneGraph a b → AreOfOneGraph b a
back a b one = record {
  units = sym one.units;
  edges = λ u v l m. sym (one.edges u v (omega (arith, l, one.units)) (omega (arith, m, one.units)));
  counts = sym one.counts;
  districts = sym one.districts;
  start = sym one.start;
}

module _ (words : List (List ℕ)) (root : Data) (a b : Job) (p q : List ℕ → Bool) (s : IsSuch words root a p) (t : IsSuch words root b q) where
  one : AreOfOneGraph a b
  one = given_jobs_are_of_one_graph root a b (same_columns words a.setting b.setting s.set t.set s.no_lengths) s.given t.given s.start t.start

  same_slack : a.setting.slack ≡ b.setting.slack
  same_slack = same_number _ a.setting.slack b.setting.slack s.set.slack t.set.slack

  same_tests : (plan : List ℕ) → p plan ≡ q plan
  same_tests plan = same_bool (p plan) (q plan)
      (λ h. (t.decides plan).1 (valid_there a b one same_slack plan ((s.decides plan).0 h)))
      (λ h. (s.decides plan).1 (valid_there b a (back a b one) (sym same_slack) plan ((t.decides plan).0 h)))

  same_step : (plan : List ℕ) (n : ℕ) → after_step a p plan n ≡ after_step b q plan n
  unfolding after_step
  same_step plan n =
      ap (λ (units : ℕ). step_by units a.districts p plan n) one.units
      ∙ ap (λ (districts : ℕ). step_by b.graph.units districts p plan n) one.districts
      ∙ ap (λ (test : List ℕ → Bool). step_by b.graph.units b.districts test plan n) (fun_ext same_tests)

  same_plan : (draws : ℕ → ℕ) (plan : List ℕ) (i : ℕ) → plan_after a p draws plan i ≡ plan_after b q draws plan i
  unfolding plan_after
  same_plan draws plan zero = refl
  same_plan draws plan (suc i) =
      same_step (plan_after a p draws plan i) (draws i) ∙ ap (λ (x : List ℕ). after_step b q x (draws i)) (same_plan draws plan i)

  same_visits : plan_after a p ≡ plan_after b q
  same_visits = fun_ext (λ draws. fun_ext (λ plan. fun_ext (λ i. same_plan draws plan i)))

  same_score : (plan : List ℕ) (score : Score) → plan_value a plan score ≡ plan_value b plan score
  same_score plan score =
      let none = s.given.no_lengths (s.set.length ∙ s.no_lengths []) in
      ap (λ (cut : ℕ). value score (record {
        population = map_below a.districts (district_sum a.counts.population plan);
        first = map_below a.districts (district_sum a.counts.first plan);
        second = map_below a.districts (district_sum a.counts.second plan);
        cut = cut;
        length = cut_length a.graph a.counts.lengths plan;
      })) (count_edges_same a.graph b.graph (λ u v. not (slice_index plan u == slice_index plan v)) one.units one.edges)
      ∙ ap (λ (length : ℕ). value score (record {
        population = map_below a.districts (district_sum a.counts.population plan);
        first = map_below a.districts (district_sum a.counts.first plan);
        second = map_below a.districts (district_sum a.counts.second plan);
        cut = cut_edges b.graph plan;
        length = length;
      })) (cut_length_none a.graph a.counts.lengths plan none ∙ sym (cut_length_none b.graph a.counts.lengths plan none))
      ∙ ap (λ (counts : Counts). value score (sums_of b.graph counts a.districts plan)) one.counts
      ∙ ap (λ (districts : ℕ). value score (sums_of b.graph b.counts districts plan)) one.districts

  same_scores : plan_value a ≡ plan_value b
  same_scores = fun_ext (λ plan. fun_ext (λ score. same_score plan score))

  same_key_said : a.setting.key ≡ b.setting.key
  same_key_said = same_key _ a.setting.key b.setting.key s.set.key t.set.key

  -- the same words ask for the same lines on the source
  same_source : (bytes : List ℕ) → source_lines a.setting.source a.setting.columns bytes ≡ source_lines b.setting.source b.setting.columns bytes
  same_source bytes =
      let asked = s.set.source ∙ sym t.set.source in
      let population = s.set.population ∙ sym t.set.population in
      let first = s.set.first ∙ sym t.set.first in
      let second = s.set.second ∙ sym t.set.second in
      let district = s.set.district ∙ sym t.set.district in
      ap (λ (b : Bool). said b a.setting.columns.population a.setting.columns.first a.setting.columns.second a.setting.columns.district) asked
      ∙ ap (λ (x : List ℕ). said b.setting.source x a.setting.columns.first a.setting.columns.second a.setting.columns.district) population
      ∙ ap (λ (x : List ℕ). said b.setting.source b.setting.columns.population x a.setting.columns.second a.setting.columns.district) first
      ∙ ap (λ (x : List ℕ). said b.setting.source b.setting.columns.population b.setting.columns.first x a.setting.columns.district) second
      ∙ ap (λ (x : List ℕ). said b.setting.source b.setting.columns.population b.setting.columns.first b.setting.columns.second x) district
    where
      said : Bool → List ℕ → List ℕ → List ℕ → List ℕ → List ℕ
      said asked population first second district = cond asked (
          line (codes "source" ∷ codes "sha256" ∷ encode_lower (sha256 bytes) ∷ codes "bytes" ∷ decimal (length bytes) ∷ [])
          ++ line (codes "columns" ∷ quoted population ∷ quoted first ∷ quoted second ∷ quoted district ∷ [])) []

  same_report : (bytes : List ℕ) → plain_report a p (draw a.setting.key) bytes ≡ plain_report b q (draw b.setting.key) bytes
  same_report bytes =
      let origin = same_source bytes in
      let edges = count_edges_same a.graph b.graph (λ u v. true) one.units one.edges in
      let units = one.units in
      let districts = one.districts in
      let counts = one.counts in
      let start = one.start in
      let slack = same_slack in
      let key = same_key_said in
      let walks = same_number _ a.setting.walks b.setting.walks s.set.walks t.set.walks in
      let steps = same_number _ a.setting.steps b.setting.steps s.set.steps t.set.steps in
      let ends = same_number _ a.setting.ends b.setting.ends s.set.ends t.set.ends in
      let hub_steps = same_number _ a.setting.hub_steps b.setting.hub_steps s.set.hub_steps t.set.hub_steps in
      let asks = same_asks words a.setting b.setting s.set t.set s.no_lengths in
      let scores = same_scores in
      let visits = same_visits in
      let draws : draw a.setting.key ≡ draw b.setting.key = ap draw key in
      let first = report_is a p (draw a.setting.key) bytes in
      let second = report_is b q (draw b.setting.key) bytes in
      cc

-- two jobs of one graph and one setting have the same plain report
pub reports_are_one : ReportsAreOne
reports_are_one words root a b p q s t bytes = same_report words root a b p q s t bytes
