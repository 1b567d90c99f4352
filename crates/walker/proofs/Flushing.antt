-- Counting visits, and a trail after one more step.
use Rattle.std.proofs.Common.{◌≡◌, ℕ, zero, suc, ◌+◌, ◌-◌, ◌*◌, ◌<◌, ◌≤◌, ◌^◌, Bool, true, false, cond, eqb, not, List, [], ◌∷◌, length, get_or, slice_index, Option, refl, sym, ap, ◌∙◌, subst, inl, inr, arith}
use Rattle.std.specs.Prelude.{◌↔◌, bytes_eq, IsTrue, IsFalse}
use Rattle.std.specs.List.{slice_get}
use Rattle.std.proofs.lemmas.Bool.{both_ways, cases_lt, not-false}
use Rattle.std.proofs.lemmas.List.{ext_get_or}
use Rattle.std.proofs.lemmas.Slice.Eq.{bytes_eq-Decides}
use Rattle.audit_model.specs.declared.setting.Ask.{Ask}
use Rattle.audit_model.specs.Below.{count_below, map_below}
use Rattle.audit_model.specs.Job.{Job}
use Rattle.audit_model.specs.Step.{next}
use Rattle.audit_model.specs.Trajectory.{empty_histogram, plan_seats, visit}
use Rattle.audit_model.proofs.Below.{count_below_le, length-map_below, get_or-map_below}
use Rattle.chacha_draws.specs.DrawPlace.{DrawPlace}
use Rattle.audit_statement.specs.Draw.{draw}
use Rattle.walker.specs.Asked.{each, asked_value, four_more, inside, visits_inside}
use Rattle.walker.specs.Binned.{histogram_of_visits, plan_bin, visits_binned}
use Rattle.walker.specs.Track.{IsOnTrack}
use Rattle.walker.specs.Trail.{IsCounted, IsTested, IsTrail}
use Rattle.walker.specs.declared.trail.Trail.{Trail}
use Rattle.walker.proofs.Asking.{each_same, visits_inside_le, visits_inside_none}
use Rattle.walker.proofs.Stepping.{moves_le, moves_more, moves_none, visit_more, visit_none}
use Rattle.walker.proofs.Still.{inside_still, binned_still}

-- at most all visited plans are in a bin
visits_binned_le : (job : Job) (draws : ℕ → ℕ) (visits bin : ℕ) → visits_binned job draws visits bin ≤ visits
unfolding visits_binned
visits_binned_le job draws visits bin = count_below_le visits (λ i. eqb (plan_bin job (visit job draws job.start i)) bin)

module _ (job : Job) (draws : ℕ → ℕ) (place : ℕ) (t : Trail) (trail : IsTrail job draws place t) where
  counts_at : (k : ℕ) → get_or t.tally.counts k 0 ≡ get_or (each (visits_inside job draws t.visits) job.setting.asks) k 0
  counts_at k = ap (λ (xs : List ℕ). get_or xs k 0) trail.counted.counts

  tests_at : (k : ℕ) → get_or t.tally.inside k 0 ≡ get_or (each (inside job (visit job draws job.start place)) job.setting.asks) k 0
  tests_at k = ap (λ (xs : List ℕ). get_or xs k 0) trail.tested.inside

  tail_at : (k : ℕ) (o : Option Ask) → get_or t.tally.counts k 0 ≡ visits_inside job draws t.visits o
      → get_or t.tally.inside k 0 ≡ inside job (visit job draws job.start place) o
      → get_or t.tally.counts k 0 + (place + 1 - t.visits) * get_or t.tally.inside k 0 ≡ visits_inside job draws (place + 1) o
  tail_at k o counts tests =
      ap (λ (n : ℕ). n + (place + 1 - t.visits) * get_or t.tally.inside k 0) counts
      ∙ ap (λ (n : ℕ). visits_inside job draws t.visits o + (place + 1 - t.visits) * n) tests
      ∙ sym (inside_still job draws t.visits place trail.still o)

  tail_fits : (k : ℕ) (o : Option Ask) → place ≤ 10 ^ 9 → get_or t.tally.counts k 0 ≡ visits_inside job draws t.visits o
      → get_or t.tally.inside k 0 ≡ inside job (visit job draws job.start place) o
      → get_or t.tally.counts k 0 + (place + 1 - t.visits) * get_or t.tally.inside k 0 < 2 ^ 32
  tail_fits k o few counts tests = omega (arith, tail_at k o counts tests, visits_inside_le job draws (place + 1) o, few)

  pub tails_fit : place ≤ 10 ^ 9 → (k : ℕ) → k < 4 → get_or t.tally.counts k 0 + (place + 1 - t.visits) * get_or t.tally.inside k 0 < 2 ^ 32
  tails_fit few zero l = tail_fits 0 (slice_get job.setting.asks 0) few (counts_at 0) (tests_at 0)
  tails_fit few (suc zero) l = tail_fits 1 (slice_get job.setting.asks 1) few (counts_at 1) (tests_at 1)
  tails_fit few (suc (suc zero)) l = tail_fits 2 (slice_get job.setting.asks 2) few (counts_at 2) (tests_at 2)
  tails_fit few (suc (suc (suc zero))) l = tail_fits 3 (slice_get job.setting.asks 3) few (counts_at 3) (tests_at 3)
  tails_fit few (suc (suc (suc (suc k)))) l = absurd (omega (arith, l))

  histogram_at : IsTrue t.bins.asked → (k : ℕ) → k < 9 → get_or t.bins.counts k 0 ≡ visits_binned job draws t.visits k
  histogram_at asked k l =
      ap (λ (xs : List ℕ). get_or xs k 0) (trail.counted.bins ∙ ap (λ (b : Bool). histogram_of_visits b job draws t.visits) asked)
      ∙ get_or-map_below 9 (visits_binned job draws t.visits) k 0 l

  pub histogram_fits : place ≤ 10 ^ 9 → IsTrue t.bins.asked → get_or t.bins.counts t.bins.bin 0 + (place + 1 - t.visits) < 2 ^ 32
  histogram_fits few asked =
      let at = histogram_at asked t.bins.bin trail.tested.small in
      omega (arith, at, visits_binned_le job draws t.visits t.bins.bin, trail.still.order, few)

  -- the current plan is counted for its visits up to a number
  module _ (later : Trail) (visits times : ℕ) (upto : visits ≡ place + 1) (all : times ≡ visits - t.visits)
      (counts : later.tally.counts ≡ four_more t.tally.counts times t.tally.inside) (same : later.bins.asked ≡ t.bins.asked)
      (nine : length later.bins.counts ≡ 9)
      (binned : IsTrue t.bins.asked → (k : ℕ) → k < 9 → get_or later.bins.counts k 0 ≡ get_or t.bins.counts k 0 + times * cond (eqb t.bins.bin k) 1 0)
      (none : IsFalse t.bins.asked → later.bins.counts ≡ t.bins.counts) where
    times_is : times ≡ place + 1 - t.visits
    times_is = omega (arith, all, upto)

    tails_flushed : later.tally.counts ≡ each (visits_inside job draws visits) job.setting.asks
    tails_flushed =
        let plan = visit job draws job.start place in
        counts ∙ ap (λ (xs : List ℕ). four_more xs times t.tally.inside) trail.counted.counts
        ∙ ap (λ (xs : List ℕ). four_more (each (visits_inside job draws t.visits) job.setting.asks) times xs) trail.tested.inside
        ∙ ap (λ (n : ℕ). each (λ o. visits_inside job draws t.visits o + n * inside job plan o) job.setting.asks) times_is
        ∙ each_same (λ o. visits_inside job draws t.visits o + (place + 1 - t.visits) * inside job plan o) (visits_inside job draws (place + 1)) job.setting.asks
        (λ o. sym (inside_still job draws t.visits place trail.still o))
        ∙ ap (λ (n : ℕ). each (visits_inside job draws n) job.setting.asks) (sym upto)

    bin_flushed : IsTrue t.bins.asked → (k : ℕ) → k < 9 → get_or later.bins.counts k 0 ≡ visits_binned job draws visits k
    bin_flushed asked k l =
        let plan = visit job draws job.start place in
        binned asked k l
        ∙ ap (λ (n : ℕ). n + times * cond {A = ℕ} (eqb t.bins.bin k) 1 0) (histogram_at asked k l)
        ∙ ap (λ (n : ℕ). visits_binned job draws t.visits k + times * cond {A = ℕ} (eqb n k) 1 0) (trail.tested.bin asked)
        ∙ ap (λ (n : ℕ). visits_binned job draws t.visits k + n * cond {A = ℕ} (eqb (plan_bin job plan) k) 1 0) times_is
        ∙ sym (binned_still job draws t.visits place trail.still k)
        ∙ ap (λ (n : ℕ). visits_binned job draws n k) (sym upto)

    histogram_flushed : (asked : Bool) → t.bins.asked ≡ asked → later.bins.counts ≡ histogram_of_visits asked job draws visits
    histogram_flushed true e =
        ext_get_or 0 later.bins.counts (map_below 9 (visits_binned job draws visits)) (nine ∙ sym (length-map_below 9 (visits_binned job draws visits)))
        (λ k l. bin_flushed e k (omega (arith, l, nine)) ∙ sym (get_or-map_below 9 (visits_binned job draws visits) k 0 (omega (arith, l, nine))))
    histogram_flushed false e = none e ∙ trail.counted.bins ∙ ap (λ (b : Bool). histogram_of_visits b job draws t.visits) e

    pub flushed : IsCounted job draws visits later
    flushed = record {
      counts = tails_flushed;
      bins = histogram_flushed t.bins.asked refl ∙ ap (λ (b : Bool). histogram_of_visits b job draws visits) (sym same);
    }

  pub moved_le : t.moved ≤ place
  moved_le = omega (arith, trail.moved, moves_le job draws job.start place)

  -- after a step without a move, the trail is as before
  pub stayed : not (bytes_eq (visit job draws job.start place) (visit job draws job.start (place + 1))) ≡ false → IsTrail job draws (place + 1) t
  stayed test =
      let one = ap (λ (b : Bool). cond {A = ℕ} b 1 0) test in
      let unchanged = (bytes_eq-Decides (visit job draws job.start place) (visit job draws job.start (place + 1))).0
      (not-false (bytes_eq (visit job draws job.start place) (visit job draws job.start (place + 1))) test) in
      record {
        moved = omega (arith, trail.moved, moves_more job draws job.start place, one);
        still = record {
          order = omega (arith, trail.still.order);
          same = λ i a b. elim (cases_lt i (place + 1)) [
            | inl l ↦ trail.still.same i a (omega (arith, l)) ∙ unchanged
            | inr l ↦ ap (λ (n : ℕ). visit job draws job.start n) (let e : i ≡ place + 1 = omega (arith, l, b) in e)
          ];
        };
        tested = subst (λ (p : List ℕ). IsTested job p t) unchanged trail.tested;
        counted = trail.counted;
      }

  -- after a move, the trail counts the visits before it
  pub went : (later : Trail) → not (bytes_eq (visit job draws job.start place) (visit job draws job.start (place + 1))) ≡ true
      → later.moved ≡ t.moved + 1 → later.visits ≡ place + 1 → IsTested job (visit job draws job.start (place + 1)) later
      → IsCounted job draws (place + 1) later → IsTrail job draws (place + 1) later
  went later test moved visits tested counted =
      let one = ap (λ (b : Bool). cond {A = ℕ} b 1 0) test in
      record {
        moved = omega (arith, moved, trail.moved, moves_more job draws job.start place, one);
        still = record {
          order = omega (arith, visits);
          same = λ i a b. ap (λ (n : ℕ). visit job draws job.start n) (let e : i ≡ place + 1 = omega (arith, visits, a, b) in e);
        };
        tested = tested;
        counted = subst (λ (n : ℕ). IsCounted job draws n later) (sym visits) counted;
      }

module _ (job : Job) (draws : ℕ → ℕ) where
  four_none : each (visits_inside job draws 0) job.setting.asks ≡ 0 ∷ 0 ∷ 0 ∷ 0 ∷ []
  four_none = each_same (visits_inside job draws 0) (λ o. 0) job.setting.asks (visits_inside_none job draws)

  no_visits_counted : (asked : Bool) → histogram_of_visits asked job draws 0 ≡ empty_histogram
  unfolding visits_binned count_below
  no_visits_counted true = refl
  no_visits_counted false = refl

  -- at the start plan, nothing is counted
  pub trail_none : (t : Trail) → t.moved ≡ 0 → t.visits ≡ 0 → IsTested job job.start t → t.tally.counts ≡ 0 ∷ 0 ∷ 0 ∷ 0 ∷ [] → t.bins.counts ≡ empty_histogram
      → IsTrail job draws 0 t
  trail_none t moved visits tested counts bins = record {
    moved = moved ∙ sym (moves_none job draws job.start);
    still = record {
      order = omega (arith, visits);
      same = λ i a b. ap (λ (n : ℕ). visit job draws job.start n) (let e : i ≡ 0 = omega (arith, b) in e);
    };
    tested = subst (λ (p : List ℕ). IsTested job p t) (sym (visit_none job draws job.start)) tested;
    counted = subst (λ (n : ℕ). IsCounted job draws n t) (sym visits) (record {
      counts = counts ∙ sym four_none;
      bins = bins ∙ sym (no_visits_counted t.bins.asked);
    });
  }

  -- the plan after one more step, and the test for a move
  module _ (place at : ℕ) (before after : List ℕ) (here : at ≡ place) (visited : before ≡ visit job draws job.start place)
      (stepped : after ≡ next job before (draws at)) where
    pub visited_after : after ≡ visit job draws job.start (place + 1)
    visited_after =
        stepped ∙ ap (λ (n : ℕ). next job before (draws n)) here ∙ ap (λ (p : List ℕ). next job p (draws place)) visited
        ∙ sym (visit_more job draws job.start place)

    pub test_after : (moved value : Bool) → moved ≡ not (bytes_eq before after) → moved ≡ value
        → not (bytes_eq (visit job draws job.start place) (visit job draws job.start (place + 1))) ≡ value
    test_after moved value is observed =
        sym (ap (λ (p : List ℕ). not (bytes_eq p after)) visited ∙ ap (λ (p : List ℕ). not (bytes_eq (visit job draws job.start place) p)) visited_after)
        ∙ sym is ∙ observed

-- steps that leave the plan leave the trail, too
pub passed : (job : Job) (along : ℕ → ℕ) (plan : List ℕ) (from n : ℕ) (t : Trail) → plan ≡ visit job along job.start from → IsTrail job along from t
    → ((k : ℕ) → k < n → next job plan (along (from + k)) ≡ plan) → (plan ≡ visit job along job.start (from + n)) × IsTrail job along (from + n) t
passed job along plan from zero t visited trail still =
    subst (λ (m : ℕ). (plan ≡ visit job along job.start m) × IsTrail job along m t) (let e : from ≡ from + 0 = omega arith in e) (visited, trail)
passed job along plan from (suc n) t visited trail still =
    let before = passed job along plan from n t visited trail (λ k l. still k (omega (arith, l))) in
    let last = sym (still n (omega arith)) in
    let same : false ≡ not (bytes_eq plan plan) = sym (ap not ((bytes_eq-Decides plan plan).1 refl)) in
    subst (λ (m : ℕ). (plan ≡ visit job along job.start m) × IsTrail job along m t) (let e : from + n + 1 ≡ from + suc n = omega arith in e) (
      visited_after job along (from + n) (from + n) plan plan refl before.0 last,
      stayed job along (from + n) t before.1 (test_after job along (from + n) (from + n) plan plan refl before.0 last false false same refl),
    )

-- a Boolean that is false exactly if two plans are equal
changed_by : (changed same : Bool) (old new : List ℕ) → same ≡ bytes_eq old new → (IsFalse changed ↔ (new ≡ old)) → changed ≡ not (bytes_eq old new)
changed_by true true old new e h = absurd (both_ways true (h.1 (sym ((bytes_eq-Decides old new).0 (sym e)))) refl)
changed_by true false old new e h = ap not e
changed_by false true old new e h = ap not e
changed_by false false old new e h = absurd (both_ways (bytes_eq old new) (sym e) ((bytes_eq-Decides old new).1 (sym (h.0 refl))))

pub changed_is : (changed : Bool) (old new : List ℕ) → (IsFalse changed ↔ (new ≡ old)) → changed ≡ not (bytes_eq old new)
changed_is changed old new h = changed_by changed (bytes_eq old new) old new refl h

-- steps with ready draws, of which only the last may change the plan
module _ (job : Job) (along : ℕ → ℕ) (ready plan new : List ℕ) (p from after : ℕ) (t : Trail) (some : from < after) (most : after ≤ length ready)
    (these : (k : ℕ) → k < length ready → slice_index ready k ≡ along (p + k))
    (visited : plan ≡ visit job along job.start (p + from)) (trail : IsTrail job along (p + from) t)
    (closed : (k : ℕ) → from ≤ k → k + 1 < after → next job plan (slice_index ready k) ≡ plan)
    (stepped : new ≡ next job plan (slice_index ready (after - 1))) where
  along_is : (k : ℕ) → k < after - 1 - from → along (p + from + k) ≡ slice_index ready (from + k)
  along_is k l = ap along (let e : p + from + k ≡ p + (from + k) = omega arith in e) ∙ sym (these (from + k) (omega (arith, l, most)))

  pub before_last : (plan ≡ visit job along job.start (p + (after - 1))) × IsTrail job along (p + (after - 1)) t
  before_last =
      subst (λ (m : ℕ). (plan ≡ visit job along job.start m) × IsTrail job along m t)
      (let e : p + from + (after - 1 - from) ≡ p + (after - 1) = omega (arith, some) in e)
      (passed job along plan (p + from) (after - 1 - from) t visited trail
      (λ k l. ap (λ (d : ℕ). next job plan d) (along_is k l) ∙ closed (from + k) (omega arith) (omega (arith, l, some))))

  upto : p + (after - 1) + 1 ≡ p + after
  upto = omega (arith, some)

  stepped_at : new ≡ next job plan (along (p + (after - 1)))
  stepped_at = stepped ∙ ap (λ (d : ℕ). next job plan d) (these (after - 1) (omega (arith, some, most)))

  visited_last : new ≡ visit job along job.start (p + (after - 1) + 1)
  visited_last = visited_after job along (p + (after - 1)) (p + (after - 1)) plan new refl before_last.0 stepped_at

  pub visited_new : new ≡ visit job along job.start (p + after)
  visited_new = visited_last ∙ ap (λ (n : ℕ). visit job along job.start n) upto

  test_last : (changed value : Bool) → changed ≡ not (bytes_eq plan new) → changed ≡ value
      → not (bytes_eq (visit job along job.start (p + (after - 1))) (visit job along job.start (p + (after - 1) + 1))) ≡ value
  test_last changed value is e = test_after job along (p + (after - 1)) (p + (after - 1)) plan new refl before_last.0 stepped_at changed value is e

  pub stayed_last : (changed : Bool) → changed ≡ not (bytes_eq plan new) → changed ≡ false → IsTrail job along (p + after) t
  stayed_last changed is e =
      subst (λ (n : ℕ). IsTrail job along n t) upto (stayed job along (p + (after - 1)) t before_last.1 (test_last changed false is e))

  pub went_last : (later : Trail) (changed : Bool) → changed ≡ not (bytes_eq plan new) → changed ≡ true → later.moved ≡ t.moved + 1 → later.visits ≡ p + after
      → IsTested job new later → IsCounted job along (p + after) later → IsTrail job along (p + after) later
  went_last later changed is e moved visits tested counted =
      subst (λ (n : ℕ). IsTrail job along n later) upto
      (went job along (p + (after - 1)) t before_last.1 later (test_last changed true is e) moved (visits ∙ sym upto)
      (subst (λ (q : List ℕ). IsTested job q later) visited_last tested) (subst (λ (n : ℕ). IsCounted job along n later) (sym upto) counted))

-- a plan scored through the state is scored
pub tested_of : (job current : Job) (plan : List ℕ) (asks : List Ask) (t : Trail) → current ≡ job → asks ≡ job.setting.asks
    → t.tally.start ≡ each (asked_value job job.start) job.setting.asks → t.tally.inside ≡ each (inside current plan) asks
    → (IsTrue t.bins.asked → t.bins.start ≡ plan_seats job job.start) → (IsTrue t.bins.asked → t.bins.bin ≡ plan_bin current plan) → t.bins.bin < 9
    → IsTested job plan t
tested_of job current plan asks t same these start tests seats bin small = record {
  start = start;
  inside = tests ∙ ap (λ (j : Job). each (inside j plan) asks) same ∙ ap (λ (a : List Ask). each (inside job plan) a) these;
  seats = seats;
  bin = λ asked. bin asked ∙ ap (λ (j : Job). plan_bin j plan) same;
  small = small;
}

-- the start plan scored through the state is scored
pub tested_first : (job current : Job) (plan : List ℕ) (asks : List Ask) (t : Trail) → current ≡ job → plan ≡ job.start → asks ≡ job.setting.asks
    → t.tally.start ≡ each (asked_value current current.start) asks → t.tally.inside ≡ each (inside current plan) asks
    → (IsTrue t.bins.asked → t.bins.start ≡ plan_seats current current.start) → (IsTrue t.bins.asked → t.bins.bin ≡ plan_bin current plan) → t.bins.bin < 9
    → IsTested job job.start t
tested_first job current plan asks t same at these start tests seats bin small =
    subst (λ (p : List ℕ). IsTested job p t) at
    (tested_of job current plan asks t same these
    (start ∙ ap (λ (j : Job). each (asked_value j j.start) asks) same ∙ ap (λ (a : List Ask). each (asked_value job job.start) a) these)
    tests (λ asked. seats asked ∙ ap (λ (j : Job). plan_seats j j.start) same) bin small)

-- a trail along a stream
pub arrived : (job : Job) (key : List ℕ) (stream place steps : ℕ) (d : DrawPlace) (t : Trail) → d.key ≡ key → d.stream ≡ stream → place ≡ steps
    → IsTrail job (draw d.key d.stream) place t → IsTrail job (draw key stream) steps t
arrived job key stream place steps d t k s e trail =
    subst (λ (n : ℕ). IsTrail job (draw key stream) n t) e
    (subst (λ (n : ℕ). IsTrail job (draw key n) place t) s (subst (λ (n : List ℕ). IsTrail job (draw n d.stream) place t) k trail))

-- a walk in progress after more draws
pub on_track_by : (job : Job) (plan : List ℕ) (n : ℕ) (before after : DrawPlace) (t : Trail)
    → after ≡ record { key = before.key; stream = before.stream; place = before.place + n }
    → plan ≡ visit job (draw before.key before.stream) job.start (before.place + n) → IsTrail job (draw before.key before.stream) (before.place + n) t
    → IsOnTrack job plan (before.place + n) (record { draws = after; trail = t })
on_track_by job plan n before after t drawn visited trail = record {
  at = ap (λ (d : DrawPlace). d.place) drawn;
  visited = subst (λ (d : DrawPlace). plan ≡ visit job (draw d.key d.stream) job.start (before.place + n)) (sym drawn) visited;
  trail = subst (λ (d : DrawPlace). IsTrail job (draw d.key d.stream) (before.place + n) t) (sym drawn) trail;
}
