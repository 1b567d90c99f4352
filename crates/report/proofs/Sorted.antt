-- Outcomes by rising id, whose ids are the numbers from 0 on.
use Rattle.std.proofs.Common.{◌≡◌, ℕ, zero, suc, ◌+◌, ◌-◌, ◌<◌, ◌≤◌, Bool, true, false, ◌&&◌, ◌||◌, not, List, [], ◌∷◌, ◌++◌, length, map, take, drop, refl, ap, sym, ◌∙◌, subst, inl, inr, arith, add-one, zero-add, get_or, length-drop, ℤ, pos}
use Rattle.std.proofs.Math.Nat.{sub-zero}
use Rattle.std.specs.Prelude.{nat_lt, nat_le, filter, int_le}
use Rattle.std.specs.Int.Signed.{le_z_yes}
use Rattle.std.specs.List.{list_all, range_with_len, All}
use Rattle.std.specs.Ordering.{int_eq}
use Rattle.std.proofs.lemmas.Bool.{and_parts, or_cases, cases_lt, cond-true, cond-false, lt-ltb, le-ltb, le-leb, lt-leb, ltb-true, leb-true, not-true, both_ways}
use Rattle.std.proofs.lemmas.List.{length-map, take_all, drop_all, map-id, get_or-map, get_or-take, get_or-drop, length-take-le}
use Rattle.std.proofs.lemmas.List.FromFn.{map-range_with_len_more, length-range_with_len, get_or-range_with_len}
use Rattle.std.proofs.lemmas.List.Sums.{AllPass-from_list_all}
use Rattle.std.proofs.lemmas.Float.{T_from_true}
use Rattle.audit_model.specs.declared.outcome.Outcome.{Outcome}
use Rattle.audit_model.specs.Below.{all_below, map_below}
use Rattle.audit_model.specs.Job.{Job}
use Rattle.audit_model.specs.Run.{total, histogram_fits, fits, steps_of}
use Rattle.audit_model.specs.Trajectory.{value_at}
use Rattle.audit_model.proofs.Below.{all_below_at}
use Rattle.report.specs.Outcomes.{AreOutcomesOf, HasCounts, IsCount, AreEndsOf, reported, reported_by}

-- the numbers below a bound are those from 0 on
pub map_below-is : (n : ℕ) → map_below n (λ id. id) ≡ range_with_len 0 n
map_below-is zero = refl
map_below-is (suc n) =
    let more = map-range_with_len_more (λ (m : ℕ). m) 0 n n (omega arith) in
    ap (λ ids. ids ++ n ∷ []) (map_below-is n ∙ sym (map-id (range_with_len 0 n)))
    ∙ sym more ∙ map-id (range_with_len 0 (n + 1)) ∙ ap (range_with_len 0) (add-one n)

-- an outcome that passes a test is kept
filter_yes : (p : Outcome → Bool) (o : Outcome) (os : List Outcome) → p o ≡ true → filter p (o ∷ os) ≡ o ∷ filter p os
filter_yes p o os e = cond-true {A = List Outcome} (p o) (o ∷ filter p os) (filter p os) e

-- an outcome that fails a test is dropped
filter_no : (p : Outcome → Bool) (o : Outcome) (os : List Outcome) → p o ≡ false → filter p (o ∷ os) ≡ filter p os
filter_no p o os e = cond-false {A = List Outcome} (p o) (o ∷ filter p os) (filter p os) e

-- if the ids are the numbers from a on, those below w come first
pub firsts : (w a n : ℕ) (os : List Outcome) → map (λ o. o.id) os ≡ range_with_len a n → filter (λ o. nat_lt o.id w) os ≡ take (w - a) os
firsts w a n [] e = sym (take_all {A = Outcome} (w - a) [] (omega arith))
firsts w a zero (o ∷ os) e = absurd (cc)
firsts w a (suc n) (o ∷ os) e =
    let id : o.id ≡ a = cc in
    let rest : map (λ o. o.id) os ≡ range_with_len (a + 1) n = cc in
    let later = firsts w (a + 1) n os rest in
    elim (cases_lt a w) [
      | inl below ↦
          let count : w - a ≡ suc (w - (a + 1)) = omega arith in
          filter_yes (λ o. nat_lt o.id w) o os (lt-ltb o.id w (omega (arith, id))) ∙ ap (λ t. o ∷ t) later ∙ ap (λ k. take k (o ∷ os)) (sym count)
      | inr above ↦
          let none : w - a ≡ 0 = omega arith in
          let none_later : w - (a + 1) ≡ 0 = omega arith in
          filter_no (λ o. nat_lt o.id w) o os (le-ltb o.id w (omega (arith, id))) ∙ later ∙ ap (λ k. take k os) none_later ∙ ap (λ k. take k (o ∷ os)) (sym none)
    ]

-- if the ids are the numbers from a on, those from w on come last
pub lasts : (w a n : ℕ) (os : List Outcome) → map (λ o. o.id) os ≡ range_with_len a n → filter (λ o. nat_le w o.id) os ≡ drop (w - a) os
lasts w a n [] e = sym (drop_all {X = Outcome} (w - a) [] (omega arith))
lasts w a zero (o ∷ os) e = absurd (cc)
lasts w a (suc n) (o ∷ os) e =
    let id : o.id ≡ a = cc in
    let rest : map (λ o. o.id) os ≡ range_with_len (a + 1) n = cc in
    let later = lasts w (a + 1) n os rest in
    elim (cases_lt a w) [
      | inl below ↦
          let count : w - a ≡ suc (w - (a + 1)) = omega arith in
          filter_no (λ o. nat_le w o.id) o os (lt-leb w o.id (omega (arith, id))) ∙ later ∙ ap (λ k. drop k (o ∷ os)) (sym count)
      | inr above ↦
          let none : w - a ≡ 0 = omega arith in
          let none_later : w - (a + 1) ≡ 0 = omega arith in
          filter_yes (λ o. nat_le w o.id) o os (le-leb w o.id (omega (arith, id))) ∙ ap (λ t. o ∷ t) later
          ∙ ap (λ k. o ∷ drop k os) none_later ∙ ap (λ k. drop k (o ∷ os)) (sym none)
    ]

-- the outlier walks are among the reported trajectories
walks_reported : (h : ℕ) (job : Job) → job.setting.walks ≤ reported_by h job
walks_reported zero job = omega arith
walks_reported (suc h) job = omega arith

-- no more trajectories are reported than there are
reported_within : (h : ℕ) (job : Job) → reported_by h job ≤ total job
reported_within zero job = omega arith
reported_within (suc h) job = omega arith

-- the outcomes of a job have the ids from 0 on
ids : (job : Job) (os : List Outcome) → AreOutcomesOf job os → map (λ o. o.id) os ≡ range_with_len 0 (reported job)
ids job os h = h.ids ∙ map_below-is (reported job)

-- there is one outcome for each reported trajectory
count : (job : Job) (os : List Outcome) → AreOutcomesOf job os → length os ≡ reported job
count job os h = sym (length-map os (λ (o : Outcome). o.id)) ∙ ap length (ids job os h) ∙ length-range_with_len 0 (reported job)

-- there are no more outcomes than trajectories
pub few : (job : Job) (os : List Outcome) → AreOutcomesOf job os → length os ≤ total job
few job os h = let all = count job os h in omega (arith, all, reported_within job.setting.stop job)

-- the outcome at a place has the place as its id
pub id_at : (job : Job) (os : List Outcome) (k : ℕ) (d : Outcome) → AreOutcomesOf job os → k < length os → (get_or os k d).id ≡ k
id_at job os k d h l =
    let mapped = get_or-map (λ o. o.id) os k d 0 l in
    let numbered = get_or-range_with_len 0 (reported job) k 0 (subst (λ n. k < n) (count job os h) l) in
    sym mapped ∙ ap (λ ids. get_or ids k 0) (ids job os h) ∙ numbered ∙ zero-add k

-- the outlier walks stand first
pub walks_first : (job : Job) (os : List Outcome) → AreOutcomesOf job os → filter (λ o. nat_lt o.id job.setting.walks) os ≡ take job.setting.walks os
walks_first job os h = firsts job.setting.walks 0 (reported job) os (ids job os h) ∙ ap (λ k. take k os) (sub-zero job.setting.walks)

-- the endpoint trajectories stand last
pub ends_last : (job : Job) (os : List Outcome) → AreOutcomesOf job os → filter (λ o. nat_le job.setting.walks o.id) os ≡ drop job.setting.walks os
ends_last job os h = lasts job.setting.walks 0 (reported job) os (ids job os h) ∙ ap (λ k. drop k os) (sub-zero job.setting.walks)

-- there is at least one outcome for each outlier walk
pub walks_within : (job : Job) (os : List Outcome) → AreOutcomesOf job os → job.setting.walks ≤ length os
walks_within job os h = let all = count job os h in omega (arith, all, walks_reported job.setting.stop job)

-- a plausible value is a number of visits
is_count : (steps : ℕ) (v : ℤ) → (int_le (pos 1) v && int_le v (pos (steps + 1))) ≡ true → IsCount steps v
is_count steps v h =
    let parts = and_parts (int_le (pos 1) v) (int_le v (pos (steps + 1))) h in
    record { some = le_z_yes (T_from_true (int_le (pos 1) v) parts.0); few = le_z_yes (T_from_true (int_le v (pos (steps + 1))) parts.1) }

-- the parts of a plausible outcome
pub record Fits (job : Job) (o : Outcome) : Type 0 where
  pub id : o.id < total job
  pub moved : o.moved ≤ steps_of (nat_lt o.id job.setting.walks) job
  pub counts : nat_lt o.id job.setting.walks ≡ true → HasCounts job o

-- a plausible outcome meets each part of the test
pub fits_parts : (job : Job) (o : Outcome) → fits job o ≡ true → Fits job o
fits_parts job o h =
    let is_walk = nat_lt o.id job.setting.walks in
    let asks = length job.setting.asks in
    let counted : ℕ → Bool = λ k. int_le (pos 1) (value_at o k) && int_le (value_at o k) (pos (job.setting.steps + 1)) in
    let counts = not is_walk || all_below asks counted in
    let zeros = list_all (λ v. int_eq v (pos 0)) (drop asks o.values) in
    let few = nat_le o.moved (steps_of is_walk job) in
    let whole = and_parts (nat_lt o.id (total job) && few && zeros && counts) (histogram_fits is_walk job o) h in
    let last = and_parts (nat_lt o.id (total job) && few && zeros) counts whole.0 in
    let third = and_parts (nat_lt o.id (total job) && few) zeros last.0 in
    let second = and_parts (nat_lt o.id (total job)) few third.0 in
    record {
      id = ltb-true o.id (total job) second.0;
      moved = leb-true o.moved (steps_of is_walk job) second.1;
      counts = λ walk place l. elim (or_cases (not is_walk) (all_below asks counted) last.1) [
        | inl off ↦ absurd (both_ways is_walk (not-true is_walk off) walk)
        | inr each ↦ is_count job.setting.steps (value_at o place) (all_below_at asks counted place each l)
      ];
    }

-- each outcome is plausible
pub fit_at : (job : Job) (os : List Outcome) (k : ℕ) (d : Outcome) → AreOutcomesOf job os → k < length os → Fits job (get_or os k d)
fit_at job os k d h l = fits_parts job (get_or os k d) (AllPass-from_list_all (fits job) os h.fitting k d l)

-- each outlier walk has numbers of visits
pub walks_counted : (job : Job) (os : List Outcome) → AreOutcomesOf job os → All (HasCounts job) (take job.setting.walks os)
walks_counted job os h k d l =
    let all = walks_within job os h in
    let short : length (take job.setting.walks os) ≡ job.setting.walks = length-take-le job.setting.walks os all in
    let below : k < job.setting.walks = omega arith in
    let is : (get_or os k d).id ≡ k = id_at job os k d h (omega arith) in
    subst (HasCounts job) (sym (get_or-take job.setting.walks os k d below))
    ((fit_at job os k d h (omega arith)).counts (lt-ltb (get_or os k d).id job.setting.walks (omega arith)))

-- without an early stop, the last outcomes are all those of the parallel test
pub ends_sound : (job : Job) (os : List Outcome) → job.setting.stop ≡ 0 → AreOutcomesOf job os → AreEndsOf job (drop job.setting.walks os)
ends_sound job os none h =
    let all : length os ≡ total job = count job os h ∙ ap (λ n. reported_by n job) none in
    record {
      count = omega (arith, length-drop job.setting.walks os);
      ids = λ k d l.
          let within : job.setting.walks + k < length os = omega (arith, length-drop job.setting.walks os) in
          let is : (get_or os (job.setting.walks + k) d).id ≡ job.setting.walks + k = id_at job os (job.setting.walks + k) d h within in
          let moved : get_or (drop job.setting.walks os) k d ≡ get_or os (job.setting.walks + k) d = get_or-drop job.setting.walks os k d in
          subst (λ (o : Outcome). job.setting.walks ≤ o.id) (sym moved) (omega arith);
    }

-- no endpoint is left out
pub ends_all : (w : ℕ) (os : List Outcome) → All (λ o. w ≤ o.id) os → filter (λ o. nat_le w o.id) os ≡ os
ends_all w [] h = refl
ends_all w (o ∷ os) h =
    filter_yes (λ o. nat_le w o.id) o os (le-leb w o.id (h 0 o (omega arith)))
    ∙ ap (λ t. o ∷ t) (ends_all w os (λ k d l. h (suc k) d (omega arith)))
