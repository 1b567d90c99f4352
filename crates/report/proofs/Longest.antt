-- The greatest length of a report.
use Rattle.std.proofs.Common.{◌≡◌, ℕ, zero, suc, ◌+◌, ◌-◌, ◌*◌, ◌/◌, ◌%◌, ◌^◌, ◌<◌, ◌≤◌, inl, inr, true, List, [], ◌∷◌, ◌++◌, length, flat_map, filter, refl, ap, sym, ◌∙◌, subst, arith, length-append, codes, decimal, get_or, take, zero-add, ℤ, pos, negsuc, unsigned_abs}
use Rattle.std.specs.Prelude.{◌==◌, ◌||◌, nat_lt, nat_le, slice_index, sum_by, zip, Bool, false, Option, Some, None}
use Rattle.std.specs.Fmt.{signed_decimal}
use Rattle.std.specs.List.{All}
use Rattle.std.specs.Option.{IfSome, SomeIff}
use Rattle.std.proofs.Math.Facts.{leb_yes}
use Rattle.std.proofs.Math.Nat.{div-le_self}
use Rattle.std.proofs.lemmas.Bool.{cases_Bool, cond_both, le-leb, lt-ltb}
use Rattle.std.proofs.lemmas.Fmt.{length-decimal-le}
use Rattle.std.proofs.lemmas.List.{length-take-le, get_or-take}
use Rattle.std.proofs.lemmas.List.FromFn.{length-enumerate_from, get_or-enumerate_from}
use Rattle.std.proofs.lemmas.List.Sums.{count_by-le-length}
use Rattle.std.proofs.lemmas.Nat.{mul-le}
use Rattle.std.proofs.lemmas.Slice.Zip.{get_or-zip, length-zip}
use Rattle.hex.specs.Hex.{encode_lower, lower_digits}
use Rattle.hex.proofs.HexLemmas.{length-encode_with}
use Rattle.json.specs.Print.{quoted}
use Rattle.audit_model.specs.declared.origin.Origin.{Origin}
use Rattle.audit_model.specs.declared.outcome.Outcome.{Outcome}
use Rattle.audit_model.specs.declared.setting.Ask.{Ask}
use Rattle.audit_model.specs.declared.setting.Columns.{Columns}
use Rattle.audit_model.specs.declared.setting.Score.{Score}
use Rattle.audit_model.specs.declared.setting.Score.TheVariants.{Seats, MeanMedian, Gap, CutEdges, CutLength}
use Rattle.audit_model.specs.declared.setting.Tail.{Tail}
use Rattle.audit_model.specs.declared.setting.Tail.TheVariants.{Low, High}
use Rattle.audit_model.specs.Graph.{count_edges}
use Rattle.audit_model.specs.Job.{Job, total_population, total_votes}
use Rattle.audit_model.specs.JobOf.{IsJob}
use Rattle.audit_model.specs.Length.{cut_length}
use Rattle.audit_model.specs.Meets.{frozen_count, majorities, region_count}
use Rattle.audit_model.specs.Plan.{least_population, greatest_population}
use Rattle.audit_model.specs.Run.{steps_of}
use Rattle.audit_model.specs.Score.{denominator}
use Rattle.audit_model.specs.Test.{bound, p_value}
use Rattle.audit_model.specs.Trajectory.{in_tail, plan_value, rank, value_at}
use Rattle.audit_model.proofs.Least.{bound_is_least, quotient_up_is_least}
use Rattle.audit_statement.specs.Names.{score_name, tail_name}
use Rattle.audit_model.specs.Stopping.{placed_asks}
use Rattle.audit_statement.specs.Report.{line, fraction, billionths, graph_line, population_line, columns_line, blind_report, by_twos, cut_length_line, cut_line, frozen_line, frozen_words, group_line, group_words, length_line, length_lines, length_words, moved_line, moved_lines, origin_lines, pair_count, pair_line, pair_lines, region_words, share_line, split_line, splits_line, rule_lines, setting_line, walk_line, walk_lines, ends_line, ends_lines, start_length_line, stop_line, title_by, weight_line, shift_line, stopped_line, test_lines, serial_line, serial_lines, report}
use Rattle.report.specs.Outcomes.{AreOutcomesOf, AreStops, AreStopsBy, AreStopsOf, HasCounts, IsCount, IsRank, IsSerialBy, IsSerialOf, IsStopOf}
use Rattle.report.specs.Parts.{head, key_line, lines_of, lines_of_pair, names_length, report_by_parts, source_line}
use Rattle.report.proofs.Pieces.{get_or-by_twos, length-by_twos}
use Rattle.report.proofs.Wholly.{report_is_blind, report_is_whole}
use Rattle.audit_statement.specs.Words.{quarter_digits, quarters}
use Rattle.audit_model.specs.Weight.{largest_change}
use Rattle.report.proofs.Escapes.{length-quoted}
use Rattle.report.proofs.Limits.{small, votes}
use Rattle.report.proofs.Sorted.{fit_at, id_at, walks_first, walks_within, ends_last, ends_sound}
use Rattle.report.proofs.Widths.{length-decimal_any, length-fraction, length-billionths, length-line, length-flat_map-le, width, width-append}

-- ---- the words of an ask

-- no score's name is longer than 11 bytes
length-score : (score : Score) → length (score_name score) ≤ 11
length-score Seats = omega arith
length-score MeanMedian = omega arith
length-score Gap = omega arith
length-score CutEdges = omega arith
length-score CutLength = omega arith

-- no tail's name is longer than 4 bytes
length-tail : (tail : Tail) → length (tail_name tail) ≤ 4
length-tail Low = omega arith
length-tail High = omega arith

-- no score's denominator is 10 ^ 15 or more
denominator-lt : (score : Score) (districts all : ℕ) → districts ≤ 200 → all ≤ 2 * 10 ^ 14 → denominator score districts all < 10 ^ 15
denominator-lt Seats districts all few less = omega arith
denominator-lt MeanMedian districts all few less = omega arith
denominator-lt Gap districts all few less = omega arith
denominator-lt CutEdges districts all few less = omega arith
denominator-lt CutLength districts all few less = omega arith

-- the start plan's value over its denominator
abbrev pub start_fraction : Job → Score → List ℕ
start_fraction job score = fraction (plan_value job job.start score) (denominator score job.districts (total_votes job))

-- the start's score takes at most 81 bytes
length-start : (job : Job) (score : Score) → IsJob job → length (start_fraction job score) ≤ 81
length-start job score h =
    length-fraction (plan_value job job.start score) (denominator score job.districts (total_votes job))
    (denominator-lt score job.districts (total_votes job) h.within.input.few (votes job h))

-- ---- a line of an outlier trajectory

-- a count of visits is at most the number of steps plus one
count-le : (steps : ℕ) (v : ℤ) → IsCount steps v → unsigned_abs v ≤ steps + 1
count-le steps (pos n) h = leb_yes h.few.le
count-le steps (negsuc n) h = absurd (h.some.le)

-- a count of visits takes at most 10 bytes
length-count : (steps : ℕ) (v : ℤ) → steps ≤ 10 ^ 9 → IsCount steps v → length (signed_decimal v) ≤ 10
length-count steps (pos n) few h =
    let most : n ≤ steps + 1 = leb_yes h.few.le in
    length-decimal-le 10 n (omega arith) (omega arith) (omega arith)
length-count steps (negsuc n) few h = absurd (h.some.le)

-- a bound is less than 10 ^ 18 billionths
bound-lt : (n all : ℕ) → n ≤ all → bound n all < 10 ^ 18
bound-lt n all l =
    let least = (bound_is_least n all l).least 2000000000 (le-leb (2 * n * 10 ^ 18) (2000000000 * 2000000000 * all) (omega arith)) in
    omega (arith, least)

-- the bounds that keep a walk's line short
record IsShort (job : Job) (found : Outcome) : Type 0 where
  id : found.id < 100000
  moved : found.moved ≤ 10 ^ 9
  counts : HasCounts job found

-- the line of an outlier trajectory is at most 200 bytes long
walk_line-le : (job : Job) (found : Outcome) (place : ℕ) (ask : Ask) → IsJob job → IsShort job found → place < length job.setting.asks
    → length (walk_line job found (place, ask)) ≤ 200
walk_line-le job found place ask h o l =
    let all = job.setting.steps + 1 in
    let limits = small job h in
    let found_count : IsCount job.setting.steps (value_at found place) = o.counts place l in
    let n = unsigned_abs (value_at found place) in
    let whole = length-line (codes "walk") (
    decimal found.id ∷ codes "moved" ∷ decimal found.moved ∷ score_name ask.score ∷ tail_name ask.tail ∷ codes "start"
    ∷ start_fraction job ask.score
    ∷ codes "count" ∷ signed_decimal (value_at found place) ∷ codes "of" ∷ decimal all ∷ codes "bound" ∷ billionths (bound n all) ∷ []) in
    let id = length-decimal-le 5 found.id (omega arith) (omega (arith, o.id)) (omega (arith, o.id)) in
    let moved = length-decimal-le 10 found.moved (omega arith) (omega (arith, o.moved)) (omega (arith, o.moved)) in
    let score = length-score ask.score in
    let tail = length-tail ask.tail in
    let start = length-start job ask.score h in
    let counted = length-count job.setting.steps (value_at found place) limits.few_steps found_count in
    let of = length-decimal-le 10 all (omega arith) (omega (arith, limits.few_steps)) (omega (arith, limits.few_steps)) in
    let billionth = length-billionths (bound n all) (bound-lt n all (count-le job.setting.steps (value_at found place) found_count)) in
    omega (arith, whole, id, moved, score, tail, start, counted, of, billionth)

-- ---- a line of the parallel test

-- a p-value is less than 10 ^ 18 billionths
p_value-lt : (r all : ℕ) → r ≤ 100001 → all ≤ 100001 → p_value r all < 10 ^ 18
p_value-lt r all few most = let quotient = div-le_self (r * 10 ^ 9 + all - 1) all in omega (arith, quotient)

-- a rank is at most the number of endpoints plus one
rank-le : (job : Job) (os : List Outcome) (place : ℕ) (ask : Ask) → job.setting.stop ≡ 0 → AreOutcomesOf job os → rank job ask place os ≤ job.setting.ends + 1
rank-le job os place ask none h =
    let ends = filter (λ o. nat_le job.setting.walks o.id) os in
    let among = count_by-le-length (λ o. in_tail ask.tail (value_at o place) (plan_value job job.start ask.score)) ends in
    let all : length ends ≡ job.setting.ends = ap length (ends_last job os h) ∙ (ends_sound job os none h).count in
    omega (arith, among, all)

-- the line of the parallel test is at most 200 bytes long
ends_line-le : (job : Job) (os : List Outcome) (place : ℕ) (ask : Ask) → IsJob job → job.setting.stop ≡ 0 → AreOutcomesOf job os → length (ends_line job os (place, ask)) ≤ 200
ends_line-le job os place ask h none all_of =
    let all = job.setting.ends + 1 in
    let r = rank job ask place os in
    let limits = small job h in
    let most : all ≤ 100001 = omega (arith, limits.few) in
    let within : r ≤ all = rank-le job os place ask none all_of in
    let whole = length-line (codes "ends") (
    score_name ask.score ∷ tail_name ask.tail ∷ codes "start" ∷ start_fraction job ask.score
    ∷ codes "rank" ∷ decimal r ∷ codes "of" ∷ decimal all ∷ codes "p" ∷ billionths (p_value r all) ∷ []) in
    let score = length-score ask.score in
    let tail = length-tail ask.tail in
    let start = length-start job ask.score h in
    let ranked = length-decimal-le 6 r (omega arith) (omega arith) (omega arith) in
    let of = length-decimal-le 6 all (omega arith) (omega arith) (omega arith) in
    let billionth = length-billionths (p_value r all) (p_value-lt r all (omega arith) most) in
    omega (arith, whole, score, tail, start, ranked, of, billionth)

-- ---- all lines

-- a property of each ask at its place holds for all placed asks
each_placed : (job : Job) (P : ℕ → Ask → Type 0) → ((k : ℕ) (ask : Ask) → k < length job.setting.asks → P k ask) → All (λ a. P a.0 a.1) (placed_asks job)
each_placed job P each k d l =
    let within : k < length job.setting.asks = omega (arith, length-enumerate_from 0 job.setting.asks) in
    subst (λ (a : ℕ × Ask). P a.0 a.1) (sym (get_or-enumerate_from 0 job.setting.asks k d within))
    (subst (λ (n : ℕ). P n (get_or job.setting.asks k d.1)) (sym (zero-add k)) (each k (get_or job.setting.asks k d.1) within))

-- the lines of an outlier trajectory have at most 200 bytes for each ask
lines_of-le : (job : Job) (found : Outcome) → IsJob job → IsShort job found → length (lines_of job found) ≤ length job.setting.asks * 200
lines_of-le job found h o =
    let many = length-flat_map-le (walk_line job found) 200 (placed_asks job)
    (each_placed job (λ k ask. length (walk_line job found (k, ask)) ≤ 200) (λ k ask l. walk_line-le job found k ask h o l)) in
    subst (λ (n : ℕ). length (lines_of job found) ≤ n * 200) (length-enumerate_from 0 job.setting.asks) many

-- each outlier walk has a short id and short counts
short : (job : Job) (os : List Outcome) (k : ℕ) (d : Outcome) → IsJob job → AreOutcomesOf job os → k < length (take job.setting.walks os)
    → IsShort job (get_or (take job.setting.walks os) k d)
short job os k d h all_of l =
    let limits = small job h in
    let within = walks_within job os all_of in
    let width : length (take job.setting.walks os) ≡ job.setting.walks = length-take-le job.setting.walks os within in
    let below : k < job.setting.walks = omega arith in
    let o = get_or os k d in
    let fits = fit_at job os k d all_of (omega arith) in
    let first : nat_lt o.id job.setting.walks ≡ true = lt-ltb o.id job.setting.walks (omega (arith, id_at job os k d all_of (omega arith))) in
    subst (IsShort job) (sym (get_or-take job.setting.walks os k d below)) (record {
      id = omega (arith, fits.id, limits.few);
      moved = let steps : o.moved ≤ steps_of true job = subst (λ b. o.moved ≤ steps_of b job) first fits.moved in omega (arith, limits.few_steps);
      counts = fits.counts first;
    })

-- the lines of all outlier trajectories have at most 200 bytes for each of them and each ask
walk_lines-le : (job : Job) (os : List Outcome) → IsJob job → AreOutcomesOf job os → length (walk_lines job os) ≤ job.setting.walks * (length job.setting.asks * 200)
walk_lines-le job os h all_of =
    let firsts = take job.setting.walks os in
    let width : length firsts ≡ job.setting.walks = length-take-le job.setting.walks os (walks_within job os all_of) in
    let many = length-flat_map-le (lines_of job) (length job.setting.asks * 200) firsts
    (λ k d l. lines_of-le job (get_or firsts k d) h (short job os k d h all_of l)) in
    let same : length (walk_lines job os) ≡ length (flat_map (lines_of job) firsts) = ap (λ xs. length (flat_map (lines_of job) xs)) (walks_first job os all_of) in
    subst (λ (n : ℕ). length (walk_lines job os) ≤ n * (length job.setting.asks * 200)) width (omega (arith, same, many))

-- the line of a pair of walks is at most 200 bytes long
pair_line-le : (job : Job) (first second : Outcome) (place : ℕ) (ask : Ask) → IsJob job → IsShort job first → IsShort job second → place < length job.setting.asks
    → length (pair_line job (first, second) (place, ask)) ≤ 200
pair_line-le job first second place ask h one two l =
    let all = job.setting.steps + 1 in
    let limits = small job h in
    let n = pair_count (first, second) place in
    let whole = length-line (codes "pair") (
    decimal first.id ∷ decimal second.id ∷ score_name ask.score ∷ tail_name ask.tail ∷ codes "start"
    ∷ start_fraction job ask.score
    ∷ codes "count" ∷ decimal n ∷ codes "of" ∷ decimal (2 * all - 1) ∷ codes "bound" ∷ billionths (p_value n all) ∷ []) in
    let id = length-decimal-le 5 first.id (omega arith) (omega (arith, one.id)) (omega (arith, one.id)) in
    let other = length-decimal-le 5 second.id (omega arith) (omega (arith, two.id)) (omega (arith, two.id)) in
    let score = length-score ask.score in
    let tail = length-tail ask.tail in
    let start = length-start job ask.score h in
    let most = count-le job.setting.steps (value_at first place) (one.counts place l) in
    let more = count-le job.setting.steps (value_at second place) (two.counts place l) in
    let counted = length-decimal-le 10 n (omega arith) (omega (arith, most, more, limits.few_steps)) (omega (arith, most, more, limits.few_steps)) in
    let of = length-decimal-le 10 (2 * all - 1) (omega arith) (omega (arith, limits.few_steps)) (omega (arith, limits.few_steps)) in
    let billionth = length-billionths (p_value n all) (pair-lt n all (omega arith) (omega (arith, most, more))) in
    omega (arith, whole, id, other, score, tail, start, counted, of, billionth)
  where
    pair-lt : (n all : ℕ) → 1 ≤ all → n ≤ 2 * all → p_value n all < 10 ^ 18
    pair-lt n all some within =
        let least = (quotient_up_is_least (n * 10 ^ 9) all (omega (arith, some))).least (2 * 10 ^ 9) (le-leb (n * 10 ^ 9) (2 * 10 ^ 9 * all) (omega (arith, within))) in
        omega (arith, least)

-- the lines of a pair have at most 200 bytes for each ask
lines_of_pair-le : (job : Job) (first second : Outcome) → IsJob job → IsShort job first → IsShort job second → length (lines_of_pair job (first, second)) ≤ length job.setting.asks * 200
lines_of_pair-le job first second h one two =
    let many = length-flat_map-le (pair_line job (first, second)) 200 (placed_asks job)
    (each_placed job (λ k ask. length (pair_line job (first, second) (k, ask)) ≤ 200) (λ k ask l. pair_line-le job first second k ask h one two l)) in
    subst (λ (n : ℕ). length (lines_of_pair job (first, second)) ≤ n * 200) (length-enumerate_from 0 job.setting.asks) many

-- the lines of all pairs have at most 200 bytes for each two walks and each ask
pair_lines-le : (b : Bool) (job : Job) (os : List Outcome) → IsJob job → AreOutcomesOf job os → length (pair_lines b job os) ≤ job.setting.walks / 2 * (length job.setting.asks * 200)
pair_lines-le false job os h all_of = omega arith
pair_lines-le true job os h all_of =
    let firsts = take job.setting.walks os in
    let width : length firsts ≡ job.setting.walks = length-take-le job.setting.walks os (walks_within job os all_of) in
    let many = length-flat_map-le (lines_of_pair job) (length job.setting.asks * 200) (by_twos firsts) (each_pair firsts (λ k d l. short job os k d h all_of l)) in
    let same : length (pair_lines true job os) ≡ length (flat_map (lines_of_pair job) (by_twos firsts)) = ap (λ xs. length (flat_map (lines_of_pair job) (by_twos xs))) (walks_first job os all_of) in
    let half : length (by_twos firsts) ≡ job.setting.walks / 2 = length-by_twos firsts ∙ ap (λ n. n / 2) width in
    subst (λ (n : ℕ). length (pair_lines true job os) ≤ n * (length job.setting.asks * 200)) half (omega (arith, same, many))
  where
    each_pair : (firsts : List Outcome) → ((k : ℕ) (d : Outcome) → k < length firsts → IsShort job (get_or firsts k d))
        → All (λ pair. length (lines_of_pair job pair) ≤ length job.setting.asks * 200) (by_twos firsts)
    each_pair firsts shorts k d l =
        let count = length-by_twos firsts in
        subst (λ (pair : Outcome × Outcome). length (lines_of_pair job pair) ≤ length job.setting.asks * 200)
        (sym (get_or-by_twos firsts k d l))
        (lines_of_pair-le job (get_or firsts (2 * k) d.0) (get_or firsts (2 * k + 1) d.1) h (shorts (2 * k) d.0 (omega (arith, count, l))) (shorts (2 * k + 1) d.1 (omega (arith, count, l))))

-- the line of a walk's moves is at most 200 bytes long
moved_line-le : (found : Outcome) → length (moved_line found) ≤ 200
moved_line-le found =
    let whole = length-line (codes "walk") (decimal found.id ∷ codes "moved" ∷ decimal found.moved ∷ []) in
    omega (arith, whole, length-decimal_any found.id, length-decimal_any found.moved)

-- the lines of the walks' moves have at most 200 bytes for each walk
moved_lines-le : (job : Job) (os : List Outcome) → AreOutcomesOf job os → length (moved_lines job os) ≤ job.setting.walks * 200
moved_lines-le job os all_of =
    let firsts = take job.setting.walks os in
    let width : length firsts ≡ job.setting.walks = length-take-le job.setting.walks os (walks_within job os all_of) in
    let many = length-flat_map-le moved_line 200 firsts (λ k d l. moved_line-le (get_or firsts k d)) in
    let same : length (moved_lines job os) ≡ length (flat_map moved_line firsts) = ap (λ xs. length (flat_map moved_line xs)) (walks_first job os all_of) in
    subst (λ (n : ℕ). length (moved_lines job os) ≤ n * 200) width (omega (arith, same, many))

-- the lines of the parallel test have at most 200 bytes for each ask
ends_lines-le : (n : ℕ) (job : Job) (os : List Outcome) → IsJob job → job.setting.stop ≡ 0 → AreOutcomesOf job os → length (ends_lines n job os) ≤ length job.setting.asks * 200
ends_lines-le zero job os h none all_of = omega arith
ends_lines-le (suc n) job os h none all_of =
    let many = length-flat_map-le (ends_line job os) 200 (placed_asks job)
    (each_placed job (λ k ask. length (ends_line job os (k, ask)) ≤ 200) (λ k ask l. ends_line-le job os k ask h none all_of)) in
    subst (λ (n : ℕ). length (flat_map (ends_line job os) (placed_asks job)) ≤ n * 200) (length-enumerate_from 0 job.setting.asks) many

-- ---- a line of a test that stops

-- the line of a test that stops early is at most 200 bytes long
stopped_line-le : (job : Job) (ask : Ask) (stop : List ℕ) → IsJob job → IsStopOf job.setting.ends stop → length (stopped_line job (ask, stop)) ≤ 200
stopped_line-le job ask stop h is =
    let place = slice_index stop 0 in
    let top = slice_index stop 1 in
    let of = slice_index stop 2 in
    let limits = small job h in
    let part = decimal top ++ 47 ∷ decimal of in
    let whole = length-line (codes "stop") (
    score_name ask.score ∷ tail_name ask.tail ∷ codes "start" ∷ start_fraction job ask.score
    ∷ codes "place" ∷ decimal place ∷ codes "value" ∷ part ∷ codes "p" ∷ billionths (p_value top of) ∷ []) in
    let score = length-score ask.score in
    let tail = length-tail ask.tail in
    let start = length-start job ask.score h in
    let placed = length-decimal-le 6 place (omega arith) (omega (arith, is.place, limits.few)) (omega arith) in
    let above = length-decimal-le 6 top (omega arith) (omega (arith, is.part, is.of, limits.few)) (omega arith) in
    let below = length-decimal-le 6 of (omega arith) (omega (arith, is.of, limits.few)) (omega arith) in
    let both = length-append (decimal top) (47 ∷ decimal of) in
    let billionth = length-billionths (p_value top of) (p_value-lt top of (omega (arith, is.part, is.of, limits.few)) (omega (arith, is.of, limits.few))) in
    omega (arith, whole, score, tail, start, placed, above, below, both, billionth)

-- the lines of tests that stop early have at most 200 bytes for each ask
stopped_lines-le : (job : Job) (stops : List (List ℕ)) → IsJob job → AreStops job stops
    → length (flat_map (stopped_line job) (zip job.setting.asks stops)) ≤ length job.setting.asks * 200
stopped_lines-le job stops h are =
    let asks = job.setting.asks in
    let count : length (zip asks stops) ≡ length asks = length-zip asks stops ∙ omega (arith, are.count) in
    let many = length-flat_map-le (stopped_line job) 200 (zip asks stops) (λ k d l.
    let inside : k < length asks = omega (arith, l, count) in
    let within : k < length stops = omega (arith, inside, are.count) in
    subst (λ (a : Ask × List ℕ). length (stopped_line job a) ≤ 200) (sym (get_or-zip asks stops k d inside within))
    (stopped_line-le job (get_or asks k d.0) (get_or stops k d.1) h (are.each k d.1 within))) in
    subst (λ (n : ℕ). length (flat_map (stopped_line job) (zip asks stops)) ≤ n * 200) count many

-- the lines of the tests have at most 200 bytes for each ask, with or without an early stop
test_lines-le : (n : ℕ) (job : Job) (os : List Outcome) (stops : List (List ℕ)) → IsJob job → job.setting.stop ≡ n → AreOutcomesOf job os → AreStopsBy n job stops
    → length (test_lines n job os stops) ≤ length job.setting.asks * 200
test_lines-le zero job os stops h is all_of none = ends_lines-le job.setting.ends job os h is all_of
test_lines-le (suc n) job os stops h is all_of are = stopped_lines-le job stops h are

-- ---- a line of the serial test

-- a p-value is at most 1
p_value-small : (r all : ℕ) → 1 ≤ all → r ≤ all → p_value r all < 10 ^ 18
p_value-small r all some within =
    let least = (quotient_up_is_least (r * 10 ^ 9) all (omega (arith, some))).least (10 ^ 9) (le-leb (r * 10 ^ 9) (10 ^ 9 * all) (omega (arith, within))) in
    omega (arith, least)

-- the line of the serial test is at most 200 bytes long
serial_line-le : (job : Job) (place : ℕ) (ranks : List ℕ) (k : ℕ) (ask : Ask) → IsJob job → place ≤ job.setting.steps → IsRank job.setting.steps (slice_index ranks k)
    → length (serial_line job place ranks (k, ask)) ≤ 200
serial_line-le job place ranks k ask h within is =
    let all = job.setting.steps + 1 in
    let r = slice_index ranks k in
    let limits = small job h in
    let whole = length-line (codes "serial") (
    score_name ask.score ∷ tail_name ask.tail ∷ codes "start" ∷ start_fraction job ask.score
    ∷ codes "place" ∷ decimal place ∷ codes "rank" ∷ decimal r ∷ codes "of" ∷ decimal all ∷ codes "p" ∷ billionths (p_value r all) ∷ []) in
    let score = length-score ask.score in
    let tail = length-tail ask.tail in
    let start = length-start job ask.score h in
    let placed = length-decimal-le 10 place (omega arith) (omega (arith, within, limits.few_steps)) (omega arith) in
    let ranked = length-decimal-le 10 r (omega arith) (omega (arith, is.few, limits.few_steps)) (omega arith) in
    let of = length-decimal-le 10 all (omega arith) (omega (arith, limits.few_steps)) (omega arith) in
    let billionth = length-billionths (p_value r all) (p_value-small r all (omega arith) is.few) in
    omega (arith, whole, score, tail, start, placed, ranked, of, billionth)

-- the lines of the serial test have at most 200 bytes for each ask
serial_lines-le : (b : Bool) (job : Job) (serial : Option (ℕ × List ℕ)) → IsJob job → IsSerialBy b job serial → length (serial_lines job serial) ≤ length job.setting.asks * 200
serial_lines-le false job None h is = omega arith
serial_lines-le false job (Some found) h is = absurd is
serial_lines-le true job None h is = absurd is
serial_lines-le true job (Some found) h is =
    let many = length-flat_map-le (serial_line job found.0 found.1) 200 (placed_asks job)
    (each_placed job (λ k ask. length (serial_line job found.0 found.1 (k, ask)) ≤ 200) (λ k ask l. serial_line-le job found.0 found.1 k ask h is.0 (is.1 k l))) in
    subst (λ (n : ℕ). length (flat_map (serial_line job found.0 found.1) (placed_asks job)) ≤ n * 200) (length-enumerate_from 0 job.setting.asks) many

-- ---- the other lines

-- the line of the key is at most 69 bytes long
length-key_line : (job : Job) → IsJob job → length (key_line job) ≤ 69
length-key_line job h =
    let whole = length-line (codes "key") (encode_lower job.setting.key ∷ []) in
    let digits = length-encode_with lower_digits job.setting.key in
    omega (arith, whole, digits, h.within.setting.key)

-- the line of the graph is at most 217 bytes long
length-graph_line : (job : Job) → length (graph_line job) ≤ 217
length-graph_line job =
    let edges = count_edges job.graph (λ u v. true) in
    let whole = length-line (codes "units") (decimal job.graph.units ∷ codes "edges" ∷ decimal edges ∷ codes "districts" ∷ decimal job.districts ∷ []) in
    omega (arith, whole, length-decimal_any job.graph.units, length-decimal_any edges, length-decimal_any job.districts)

-- the line of the population is at most 290 bytes long
length-population_line : (job : Job) → length (population_line job) ≤ 290
length-population_line job =
    let whole = length-line (codes "population") (
    decimal (total_population job) ∷ codes "slack" ∷ decimal job.setting.slack
    ∷ codes "low" ∷ decimal (least_population job) ∷ codes "high" ∷ decimal (greatest_population job) ∷ []) in
    omega (arith, whole, length-decimal_any (total_population job), length-decimal_any job.setting.slack, length-decimal_any (least_population job), length-decimal_any (greatest_population job))

-- the line of the setting is at most 290 bytes long
length-setting_line : (job : Job) → length (setting_line job) ≤ 290
length-setting_line job =
    let whole = length-line (codes "walks") (
    decimal job.setting.walks ∷ codes "steps" ∷ decimal job.setting.steps
    ∷ codes "ends" ∷ decimal job.setting.ends ∷ codes "hub-steps" ∷ decimal job.setting.hub_steps ∷ []) in
    omega (arith, whole, length-decimal_any job.setting.walks, length-decimal_any job.setting.steps, length-decimal_any job.setting.ends, length-decimal_any job.setting.hub_steps)

-- the first line is at most 17 bytes long
length-title_by : (blind shift : Bool) → length (title_by blind shift) ≤ 17
length-title_by true shift = omega arith
length-title_by false true = omega arith
length-title_by false false = omega arith

-- the line of the most cut edges is at most 73 bytes long
length-cut_line : (job : Job) → length (cut_line job) ≤ 73
length-cut_line job =
    let whole = length-line (codes "max-cut") (decimal job.setting.max_cut ∷ []) in
    let most = length-decimal_any job.setting.max_cut in
    cond_both {A = List ℕ} (nat_lt job.setting.max_cut 400000) (line (codes "max-cut" ∷ decimal job.setting.max_cut ∷ [])) [] (λ t. length t ≤ 73)
    (λ _. omega (arith, whole, most)) (λ _. omega arith)

-- the line of the regions is at most 148 bytes long
length-split_line : (most : ℕ) (regions : List ℕ) → length (split_line most regions) ≤ 148
length-split_line most [] = omega arith
length-split_line most (r ∷ rest) =
    let count = region_count (r ∷ rest) in
    let whole = length-line (codes "max-split") (decimal most ∷ codes "regions" ∷ decimal count ∷ []) in
    omega (arith, whole, length-decimal_any most, length-decimal_any count)

-- the line of splits in all is at most 159 bytes long
length-splits_line : (splits most : ℕ) (regions : List ℕ) → length (splits_line splits most regions) ≤ 159
length-splits_line splits most [] = omega arith
length-splits_line splits most (r ∷ rest) =
    let text = line (codes "max-splits" ∷ decimal splits ∷ codes "max-split-regions" ∷ decimal most ∷ []) in
    let whole = length-line (codes "max-splits") (decimal splits ∷ codes "max-split-regions" ∷ decimal most ∷ []) in
    cond_both {A = List ℕ} (nat_lt splits 995000 || nat_lt most 5000) text [] (λ t. length t ≤ 159)
    (λ _. omega (arith, whole, length-decimal_any splits, length-decimal_any most)) (λ _. omega arith)

-- the line of the group is at most 149 bytes long
length-group_line : (least there : ℕ) (members : List ℕ) → length (group_line least there members) ≤ 149
length-group_line least there [] = omega arith
length-group_line least there (n ∷ rest) =
    let whole = length-line (codes "group-districts") (decimal least ∷ codes "of" ∷ decimal there ∷ []) in
    omega (arith, whole, length-decimal_any least, length-decimal_any there)

-- the line of the share is at most 77 bytes long
length-share_line : (share : ℕ) (members : List ℕ) → length (share_line share members) ≤ 77
length-share_line share [] = omega arith
length-share_line share (n ∷ rest) =
    let text = line (codes "group-share" ∷ decimal share ∷ []) in
    let whole = length-line (codes "group-share") (decimal share ∷ []) in
    cond_both {A = List ℕ} (share == 5000) [] text (λ t. length t ≤ 77) (λ _. omega arith) (λ _. omega (arith, whole, length-decimal_any share))

-- the line of frozen units is at most 72 bytes long
length-frozen_line : (frozen : List ℕ) → length (frozen_line frozen) ≤ 72
length-frozen_line [] = omega arith
length-frozen_line (f ∷ rest) =
    let count = frozen_count (f ∷ rest) in
    let whole = length-line (codes "frozen") (decimal count ∷ []) in
    omega (arith, whole, length-decimal_any count)

-- the line of the length of cut edges is at most 76 bytes long
length-cut_length_line : (there : ℕ) (column : List ℕ) → length (cut_length_line there column) ≤ 76
length-cut_length_line there [] = omega arith
length-cut_length_line there (c ∷ column) =
    let whole = length-line (codes "cut-length") (decimal there ∷ []) in
    omega (arith, whole, length-decimal_any there)

-- so it is in a report that may be blind
length-start_length_line : (blind : Bool) (there : ℕ) (column : List ℕ) → length (start_length_line blind there column) ≤ 76
length-start_length_line true there column = omega arith
length-start_length_line false there column = length-cut_length_line there column

-- the line of its limit is at most 76 bytes long
length-length_line : (most : ℕ) → length (length_line most) ≤ 76
length-length_line most =
    let whole = length-line (codes "max-length") (decimal most ∷ []) in
    cond_both {A = List ℕ} (nat_lt most 1717986918000000) (line (codes "max-length" ∷ decimal most ∷ [])) [] (λ t. length t ≤ 76)
    (λ _. omega (arith, whole, length-decimal_any most)) (λ _. omega arith)

-- both are at most 152 bytes long
length-length_lines : (job : Job) → length (length_lines job) ≤ 152
length-length_lines job =
    let there = cut_length job.graph job.counts.lengths job.start in
    let both = length-append (start_length_line job.setting.blind there job.setting.columns.length) (length_line job.setting.max_length) in
    omega (arith, both, length-start_length_line job.setting.blind there job.setting.columns.length, length-length_line job.setting.max_length)

-- the lines of the rules are at most 830 bytes long
length-rule_lines : (job : Job) → length (rule_lines job) ≤ 830
length-rule_lines job =
    let there = majorities job.setting.group_share job.group job.start in
    let splits = splits_line job.setting.max_splits job.setting.max_split_regions job.regions in
    let group = group_line job.setting.group_districts there job.group.members in
    seven-le (cut_line job) (split_line job.setting.max_split job.regions) splits group
    (share_line job.setting.group_share job.group.members) (frozen_line job.frozen) (length_lines job) 830
    (omega (
      arith,
      length-cut_line job,
      length-split_line job.setting.max_split job.regions,
      length-splits_line job.setting.max_splits job.setting.max_split_regions job.regions,
      length-group_line job.setting.group_districts there job.group.members,
      length-share_line job.setting.group_share job.group.members,
      length-frozen_line job.frozen,
      length-length_lines job,
    ))
  where
    seven-le : (a b c d e f g : List ℕ) (n : ℕ) → length a + length b + length c + length d + length e + length f + length g ≤ n → length (a ++ b ++ c ++ d ++ e ++ f ++ g) ≤ n
    seven-le a b c d e f g n h = simp length-append h

-- the line of the weight is at most 170 bytes long
length-weight_line : (job : Job) → length (weight_line job) ≤ 170
length-weight_line job =
    let pieces = largest_change (job.graph.units * job.districts) in
    let weight = job.setting.cut_weight in
    let whole = length-line (codes "cut-weight") (quarters weight ∷ codes "of" ∷ codes "64" ∷ codes "pieces" ∷ decimal pieces ∷ []) in
    let both = length-append (decimal (weight / 4)) (quarter_digits (weight % 4)) in
    cond_both {A = List ℕ} (nat_lt weight 256) (line (codes "cut-weight" ∷ quarters weight ∷ codes "of" ∷ codes "64" ∷ codes "pieces" ∷ decimal pieces ∷ [])) [] (λ t. length t ≤ 170)
    (λ _. omega (arith, whole, both, length-decimal_any (weight / 4), length-quarter_digits (weight % 4), length-decimal_any pieces)) (λ _. omega arith)
  where
    length-quarter_digits : (n : ℕ) → length (quarter_digits n) ≤ 3
    length-quarter_digits zero = omega arith
    length-quarter_digits (suc zero) = omega arith
    length-quarter_digits (suc (suc zero)) = omega arith
    length-quarter_digits (suc (suc (suc n))) = omega arith

-- the line of early stopping is at most 70 bytes long
length-stop_line : (n : ℕ) → length (stop_line n) ≤ 70
length-stop_line zero = omega arith
length-stop_line (suc n) = let whole = length-line (codes "stop") (decimal (suc n) ∷ []) in omega (arith, whole, length-decimal_any (suc n))

-- the line of the histogram is at most 591 bytes long
length-shift_line : (b : Bool) (os : List Outcome) → length (shift_line b os) ≤ 591
length-shift_line false os = omega arith
length-shift_line true os =
    let bin : ℕ → ℕ = λ k. sum_by (λ o. slice_index o.bins k) os in
    let whole = length-line (codes "shift") (
    decimal (bin 0) ∷ decimal (bin 1) ∷ decimal (bin 2) ∷ decimal (bin 3) ∷ decimal (bin 4) ∷ decimal (bin 5) ∷ decimal (bin 6) ∷ decimal (bin 7) ∷ decimal (bin 8) ∷ []) in
    omega (
      arith,
      whole,
      length-decimal_any (bin 0),
      length-decimal_any (bin 1),
      length-decimal_any (bin 2),
      length-decimal_any (bin 3),
      length-decimal_any (bin 4),
      length-decimal_any (bin 5),
      length-decimal_any (bin 6),
      length-decimal_any (bin 7),
      length-decimal_any (bin 8),
    )

-- ---- the lines of an origin

-- the source line has at most 86 bytes, and two for each byte of the digest
pub length-source_line : (origin : Origin) → length (source_line origin) ≤ 86 + 2 * length origin.sha256
length-source_line origin =
    let whole = length-line (codes "source") (codes "sha256" ∷ encode_lower origin.sha256 ∷ codes "bytes" ∷ decimal origin.bytes ∷ []) in
    let digits = length-encode_with lower_digits origin.sha256 in
    omega (arith, whole, digits, length-decimal_any origin.bytes)

-- the words of the regions' column are at most 10 bytes wide, and 6 for each byte of its name
region_words-le : (region : List ℕ) → width (region_words region) ≤ 10 + length region * 6
region_words-le [] = omega arith
region_words-le (c ∷ column) = let name = length-quoted (c ∷ column) in omega (arith, name)

-- the words of a group's columns are at most 15 bytes wide, and 6 for each byte of their names
group_words-le : (group whole : List ℕ) → width (group_words group whole) ≤ 15 + (length group + length whole) * 6
group_words-le [] whole = omega arith
group_words-le (c ∷ column) whole =
    let name = length-quoted (c ∷ column) in
    let other = length-quoted whole in
    omega (arith, name, other)

-- the words of the column of frozen units have at most 10 bytes, and 6 for each byte of its name
frozen_words-le : (frozen : List ℕ) → width (frozen_words frozen) ≤ 10 + length frozen * 6
frozen_words-le [] = omega arith
frozen_words-le (c ∷ column) = let name = length-quoted (c ∷ column) in omega (arith, name)

-- the words of the column of lengths have at most 10 bytes, and 6 for each byte of its name
length_words-le : (column : List ℕ) → width (length_words column) ≤ 10 + length column * 6
length_words-le [] = omega arith
length_words-le (c ∷ column) = let name = length-quoted (c ∷ column) in omega (arith, name)

-- the line of the columns has at most 65 bytes, and 6 for each byte of their names
pub length-columns_line : (columns : Columns) (region : List ℕ) → length (columns_line columns region) ≤ 65 + names_length columns region * 6
length-columns_line columns region =
    let more = region_words region ++ group_words columns.group columns.whole ++ frozen_words columns.frozen ++ length_words columns.length in
    let whole = length-line (codes "columns") (quoted columns.population ∷ quoted columns.first ∷ quoted columns.second ∷ quoted columns.district ∷ more) in
    let both = width-append (region_words region) (group_words columns.group columns.whole) in
    let rest = width-append (region_words region ++ group_words columns.group columns.whole) (frozen_words columns.frozen) in
    let all = width-append (region_words region ++ group_words columns.group columns.whole ++ frozen_words columns.frozen) (length_words columns.length) in
    omega (
      arith,
      whole,
      both,
      rest,
      all,
      region_words-le region,
      group_words-le columns.group columns.whole,
      frozen_words-le columns.frozen,
      length_words-le columns.length,
      length-quoted columns.population,
      length-quoted columns.first,
      length-quoted columns.second,
      length-quoted columns.district,
    )

-- nine texts with a bounded total length are joined within that bound
joined-le : (a b c d e f g h i : List ℕ) (n : ℕ) → length a + length b + length c + length d + length e + length f + length g + length h + length i ≤ n → length (a ++ b ++ c ++ d ++ e ++ f ++ g ++ h ++ i) ≤ n
joined-le a b c d e f g h i n few = simp length-append few

-- the head is at most 1979 bytes long, without the lines of the origin
length-head : (job : Job) → IsJob job → length (head job) ≤ 1979 + length (origin_lines job job.origin)
length-head job h =
    joined-le (title_by job.setting.blind job.setting.shift) (origin_lines job job.origin) (key_line job) (graph_line job) (population_line job) (rule_lines job) (weight_line job) (setting_line job) (stop_line job.setting.stop)
    (1979 + length (origin_lines job job.origin))
    (omega (
      arith,
      length-title_by job.setting.blind job.setting.shift,
      length-key_line job h,
      length-graph_line job,
      length-population_line job,
      length-rule_lines job,
      length-weight_line job,
      length-setting_line job,
      length-stop_line job.setting.stop,
    ))

-- ---- all of it

-- a text that is no longer than a sum has capacity if the sum does not overflow
pub observed : (text : List ℕ) (sum : ℕ) (fits : Type 0) (answer : Option ℕ) → length text ≤ sum → SomeIff answer fits sum → IfSome answer (λ room. length text ≤ room)
observed text sum fits None short is = tt
observed text sum fits (Some room) short is = omega (arith, short, is.1)

-- two texts have capacity if the sum of their lengths does not overflow
pub both_observed : (first second : List ℕ) (one two : ℕ) (fits : Type 0) (answer : Option ℕ) → length first ≤ one → length second ≤ two → SomeIff answer fits (two + one)
    → IfSome answer (λ room. length (first ++ second) ≤ room)
both_observed first second one two fits answer short brief is = observed (first ++ second) (two + one) fits answer (omega (arith, short, brief, length-append first second)) is

-- the parts of a report, each within its bound, are joined within the sum
parts-le : (a b p c d e f : List ℕ) (h l t m n k : ℕ) → length a ≤ 1979 + h → length b ≤ l → length p ≤ t → length c ≤ 591 → length d ≤ m → length e ≤ n → length f ≤ 4 → 2574 + h + l + t + m + n ≤ k
    → length (a ++ b ++ p ++ c ++ d ++ e ++ f) ≤ k
parts-le a b p c d e f h l t m n k la lb lp lc ld le lf most = simp length-append (omega arith)

-- the parts of a blind report are joined within the sum of their bounds
blind_parts-le : (a b c : List ℕ) (h l k : ℕ) → length a ≤ 1979 + h → length b ≤ l → length c ≤ 4 → 1983 + h + l ≤ k → length (a ++ b ++ c) ≤ k
blind_parts-le a b c h l k la lb lc most = simp length-append (omega arith)

-- the bound on a report
abbrev most_bytes : Job → ℕ
most_bytes job = 3000 + (job.setting.walks + job.setting.walks / 2 + 2) * length job.setting.asks * 200 + length (origin_lines job job.origin)

-- a blind report is within the bound
blind-le : (job : Job) (os : List Outcome) → IsJob job → AreOutcomesOf job os → length (blind_report job os) ≤ most_bytes job
blind-le job os h all_of =
    let origin = length (origin_lines job job.origin) in
    let walks = job.setting.walks in
    let asks = length job.setting.asks in
    blind_parts-le (head job) (moved_lines job os) (line (codes "end" ∷ [])) origin (walks * 200) (most_bytes job)
    (length-head job h) (moved_lines-le job os all_of) (omega arith) (products walks (walks / 2) asks origin (small job h).asked)
  where
    products : (w t a h : ℕ) → w ≤ w * a → 1983 + h + w * 200 ≤ 3000 + (w + t + 2) * a * 200 + h
    products w t a h asked = grind (arith, asked)

-- a report with all findings is within the bound
open-le : (job : Job) (os : List Outcome) (stops : List (List ℕ)) (serial : Option (ℕ × List ℕ)) → IsJob job → AreOutcomesOf job os → AreStopsOf job stops → IsSerialOf job serial
    → length (report_by_parts job os stops serial) ≤ most_bytes job
open-le job os stops serial h all_of stopped found =
    let asks = length job.setting.asks in
    let walks = job.setting.walks in
    let origin = length (origin_lines job job.origin) in
    parts-le (head job) (walk_lines job os) (pair_lines job.setting.pairs job os) (shift_line job.setting.shift os) (test_lines job.setting.stop job os stops) (serial_lines job serial) (line (codes "end" ∷ []))
    origin (walks * (asks * 200)) (walks / 2 * (asks * 200)) (asks * 200) (asks * 200) (most_bytes job)
    (length-head job h) (walk_lines-le job os h all_of) (pair_lines-le job.setting.pairs job os h all_of) (length-shift_line job.setting.shift os) (test_lines-le job.setting.stop job os stops h refl all_of stopped)
    (serial_lines-le job.setting.serial job serial h found) (omega arith) (products walks (walks / 2) asks origin)
  where
    products : (w t a h : ℕ) → 2574 + h + w * (a * 200) + t * (a * 200) + a * 200 + a * 200 ≤ 3000 + (w + t + 2) * a * 200 + h
    products w t a h = grind arith

-- a report has at most 3000 bytes, 200 for each ask of each walk, of each pair of walks and of two tests, and the lines of
-- its origin
pub report-le : (job : Job) (os : List Outcome) (stops : List (List ℕ)) (serial : Option (ℕ × List ℕ)) → IsJob job → AreOutcomesOf job os → AreStopsOf job stops → IsSerialOf job serial
    → length (report job os stops serial) ≤ 3000 + (job.setting.walks + job.setting.walks / 2 + 2) * length job.setting.asks * 200 + length (origin_lines job job.origin)
report-le job os stops serial h all_of stopped found = elim (cases_Bool job.setting.blind) [
  | inl blind ↦ subst (λ (t : List ℕ). length t ≤ most_bytes job) (report_is_blind job os stops serial blind) (blind-le job os h all_of)
  | inr open_one ↦ subst (λ (t : List ℕ). length t ≤ most_bytes job) (report_is_whole job os stops serial open_one) (open-le job os stops serial h all_of stopped found)
]

-- the bound without the origin is below 130 million bytes
pub enough-le : (walks asks : ℕ) → walks ≤ 100000 → asks ≤ 4 → 3000 + (walks + walks / 2 + 2) * asks * 200 ≤ 130000000
enough-le walks asks few four =
    let product = mul-le (walks + walks / 2 + 2) asks 150002 4 (omega arith) four in
    omega (arith, product)
