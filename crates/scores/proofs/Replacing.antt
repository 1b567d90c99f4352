-- The votes of one district replaced: its share, and each sum over the districts.
use Rattle.std.proofs.Common.{◌≡◌, ◌≢◌, ◌∙◌, ℕ, zero, suc, ◌+◌, ◌-◌, ◌*◌, ◌^◌, ◌<◌, ◌≤◌, Bool, List, length, get_or, set, sum, take, cond, pos, ℤ, ◌-ℤ◌, ◌+ℤ◌, ◌≤ℤ◌, neg_ℤ, to_z, of_z, w64, FitsSigned, refl, sym, ap, subst, arith, inl, inr, length-set}
use Rattle.std.proofs.lemmas.Bool.{cases_eq, cases_lt, le-ltb, lt-ltb}
use Rattle.std.proofs.lemmas.Nat.{mul-le}
use Rattle.std.proofs.lemmas.List.Elements.{All-set}
use Rattle.std.proofs.lemmas.Int.{ints}
use Rattle.std.proofs.lemmas.List.{ext_get_or, get_or-set_same, get_or-set_other, get_or-take, length-take-le}
use Rattle.std.proofs.Math.Seq.{take-set-lt}
use Rattle.std.proofs.lemmas.List.Sums.{get_or-le-sum_by, sum_by-le, sum_by-set}
use Rattle.audit_model.specs.Below.{count_below, sum_below, map_below}
use Rattle.audit_model.specs.Score.{efficiency_gap, first_wins, seats, share, shares}
use Rattle.audit_model.proofs.Below.{count_below_le, get_or-map_below, length-map_below}
use Rattle.scores.proofs.Shares.{shares_small}
use Rattle.scores.specs.Known.{KnownVotes, lost_by_first, lost_by_second, margin, seat, sums_with}
use Rattle.scores.specs.Votes.{AreShares}
use Rattle.scores.specs.LastPlan.{AreScores, IsScored, known}
use Rattle.scores.specs.declared.last_plan.LastPlan.TheInside.{Inside}

-- a count as a sum
count_is : (n : ℕ) (test : ℕ → Bool) → count_below n test ≡ sum_below n (λ k. cond (test k) 1 0)
unfolding count_below
count_is zero test = refl
count_is (suc n) test = ap (λ (m : ℕ). m + cond {A = ℕ} (test n) 1 0) (count_is n test)

-- functions that agree below the bound have equal sums
sum_below_same : (n : ℕ) (f g : ℕ → ℕ) → ((k : ℕ) → k < n → f k ≡ g k) → sum_below n f ≡ sum_below n g
sum_below_same zero f g same = refl
sum_below_same (suc n) f g same = omega (arith, sum_below_same n f g (λ k l. same k (omega (arith, l))), same n (omega arith))

-- the sums of functions that agree but at one number differ as these do there
sum_below_change : (n d : ℕ) (f g : ℕ → ℕ) → d < n → ((k : ℕ) → k ≢ d → f k ≡ g k) → sum_below n f + g d ≡ sum_below n g + f d
sum_below_change zero d f g l same = absurd (omega (arith, l))
sum_below_change (suc n) d f g l same = elim (cases_eq d n) [
  | inl e ↦
      let rest = sum_below_same n f g (λ k m. same k (λ h. omega (arith, h, e, m))) in
      omega (arith, rest, ap f e, ap g e)
  | inr off ↦
      let rest = sum_below_change n d f g (omega (arith, l, off)) same in
      omega (arith, rest, same n (λ h. omega (arith, h, off)))
]

-- a difference of two sums changes by the difference of their terms
differences : (a b p q r s c d : ℕ) → c + s ≡ a + q → d + r ≡ b + p → pos a -ℤ pos b +ℤ (pos q -ℤ pos p) -ℤ (pos s -ℤ pos r) ≡ pos c -ℤ pos d
differences a b p q r s c d e f = omega (arith, ints, e, f)

module _ (first second : List ℕ) (d a b : ℕ) (in_first : d < length first) (in_second : d < length second) where
  -- a sum over districts changes by the district's term
  pub sum_replaced : (h : ℕ → ℕ → ℕ)
      → sum_below (length first) (λ k. h (get_or (set first d a) k 0) (get_or (set second d b) k 0)) + h (get_or first d 0) (get_or second d 0)
      ≡ sum_below (length first) (λ k. h (get_or first k 0) (get_or second k 0)) + h a b
  sum_replaced h =
      let new : h (get_or (set first d a) d 0) (get_or (set second d b) d 0) ≡ h a b =
      ap (λ (x : ℕ). h x (get_or (set second d b) d 0)) (get_or-set_same first d a 0 in_first) ∙ ap (λ (y : ℕ). h a y) (get_or-set_same second d b 0 in_second) in
      sum_below_change (length first) d (λ k. h (get_or (set first d a) k 0) (get_or (set second d b) k 0)) (λ k. h (get_or first k 0) (get_or second k 0)) in_first
      (λ k off. ap (λ (x : ℕ). h x (get_or (set second d b) k 0)) (get_or-set_other first d k a 0 off) ∙ ap (λ (y : ℕ). h (get_or first k 0) y) (get_or-set_other second d k b 0 off))
      ∙ ap (λ (n : ℕ). sum_below (length first) (λ k. h (get_or first k 0) (get_or second k 0)) + n) new

  -- the shares change at the district
  pub shares_replaced : set (shares (sums_with first second)) d (share a b) ≡ shares (sums_with (set first d a) (set second d b))
  shares_replaced =
      let old = λ (k : ℕ). share (get_or first k 0) (get_or second k 0) in
      let new = λ (k : ℕ). share (get_or (set first d a) k 0) (get_or (set second d b) k 0) in
      let width : length (map_below (length first) old) ≡ length first = length-map_below (length first) old in
      let long : length (set (map_below (length first) old) d (share a b)) ≡ length first = length-set (map_below (length first) old) d (share a b) ∙ width in
      ext_get_or 0 (set (map_below (length first) old) d (share a b)) (map_below (length (set first d a)) new)
      (long ∙ sym (length-set first d a) ∙ sym (length-map_below (length (set first d a)) new))
      (λ k l. elim (cases_eq k d) [
        | inl e ↦
            let there : get_or (set (map_below (length first) old) d (share a b)) d 0 ≡ share a b = get_or-set_same (map_below (length first) old) d (share a b) 0 (omega (arith, width, in_first)) in
            ap (λ (j : ℕ). get_or (set (map_below (length first) old) d (share a b)) j 0) e ∙ there
            ∙ ap (λ (x : ℕ). share x b) (sym (get_or-set_same first d a 0 in_first))
            ∙ ap (λ (y : ℕ). share (get_or (set first d a) d 0) y) (sym (get_or-set_same second d b 0 in_second))
            ∙ ap new (sym e)
            ∙ sym (get_or-map_below (length (set first d a)) new k 0 (omega (arith, l, long, length-set first d a)))
        | inr off ↦
            get_or-set_other (map_below (length first) old) d k (share a b) 0 off
            ∙ get_or-map_below (length first) old k 0 (omega (arith, l, long))
            ∙ ap (λ (x : ℕ). share x (get_or second k 0)) (sym (get_or-set_other first d k a 0 off))
            ∙ ap (λ (y : ℕ). share (get_or (set first d a) k 0) y) (sym (get_or-set_other second d k b 0 off))
            ∙ sym (get_or-map_below (length (set first d a)) new k 0 (omega (arith, l, long, length-set first d a)))
      ])

  -- the seats change by the district's seat
  pub seats_replaced : seats (sums_with (set first d a) (set second d b)) + seat (get_or first d 0) (get_or second d 0) ≡ seats (sums_with first second) + seat a b
  seats_replaced =
      let old = λ (k : ℕ). seat (get_or first k 0) (get_or second k 0) in
      let new = λ (k : ℕ). seat (get_or (set first d a) k 0) (get_or (set second d b) k 0) in
      let before : seats (sums_with first second) ≡ sum_below (length first) old = count_is (length first) (first_wins (sums_with first second)) in
      let after : seats (sums_with (set first d a) (set second d b)) ≡ sum_below (length first) new =
      count_is (length (set first d a)) (first_wins (sums_with (set first d a) (set second d b))) ∙ ap (λ (n : ℕ). sum_below n new) (length-set first d a) in
      omega (arith, before, after, sum_replaced seat)

  -- the difference of wasted votes changes by the district's margin
  pub gap_replaced : efficiency_gap (sums_with first second) +ℤ margin a b -ℤ margin (get_or first d 0) (get_or second d 0) ≡ efficiency_gap (sums_with (set first d a) (set second d b))
  gap_replaced =
      let mine = sum_replaced lost_by_first in
      let theirs = sum_replaced lost_by_second in
      let more_mine = λ (k : ℕ). lost_by_first (get_or (set first d a) k 0) (get_or (set second d b) k 0) in
      let more_theirs = λ (k : ℕ). lost_by_second (get_or (set first d a) k 0) (get_or (set second d b) k 0) in
      let width_mine : sum_below (length (set first d a)) more_mine ≡ sum_below (length first) more_mine = ap (λ (n : ℕ). sum_below n more_mine) (length-set first d a) in
      let width_theirs : sum_below (length (set first d a)) more_theirs ≡ sum_below (length first) more_theirs = ap (λ (n : ℕ). sum_below n more_theirs) (length-set first d a) in
      differences (sum_below (length first) (λ k. lost_by_second (get_or first k 0) (get_or second k 0))) (sum_below (length first) (λ k. lost_by_first (get_or first k 0) (get_or second k 0)))
      (lost_by_first a b) (lost_by_second a b) (lost_by_first (get_or first d 0) (get_or second d 0)) (lost_by_second (get_or first d 0) (get_or second d 0))
      (sum_below (length (set first d a)) more_theirs) (sum_below (length (set first d a)) more_mine) (omega (arith, theirs, width_theirs)) (omega (arith, mine, width_mine))

-- a sum of small terms is small
sum_below_few : (n m : ℕ) (f : ℕ → ℕ) → ((k : ℕ) → k < n → f k ≤ m) → sum_below n f ≤ n * m
sum_below_few zero m f small = omega arith
sum_below_few (suc n) m f small =
    let rest = sum_below_few n m f (λ k l. small k (omega (arith, l))) in
    omega (arith, rest, small n (omega arith))

-- wasted votes are few where votes are
lost_few : (a b : ℕ) → a ≤ 10 ^ 14 → b ≤ 10 ^ 14 → (lost_by_first a b ≤ 2 * 10 ^ 14) × (lost_by_second a b ≤ 2 * 10 ^ 14)
lost_few a b l m = elim (cases_lt b a) [
  | inl wins ↦ rw (lt-ltb b a wins) (omega arith, omega arith)
  | inr loses ↦ rw (le-ltb b a loses) (omega arith, omega arith)
]

-- a number is between a bound and its negative
abbrev pub IsWithin : ℕ → ℤ → Type 0
IsWithin most z = (neg_ℤ (pos most) ≤ℤ z) × (z ≤ℤ pos most)

-- a difference of small numbers is small
few_apart : (a b : ℕ) (gap : ℤ) → a ≤ 200 * (2 * 10 ^ 14) → b ≤ 200 * (2 * 10 ^ 14) → gap ≡ pos a -ℤ pos b → IsWithin (4 * 10 ^ 16) gap
few_apart a b gap l m is = (omega (arith, ints, is), omega (arith, ints, is))

few_apart_by : (a b : ℕ) (gap : ℤ) → a ≤ 2 * 10 ^ 14 → b ≤ 2 * 10 ^ 14 → gap ≡ pos a -ℤ pos b → IsWithin (2 * 10 ^ 14) gap
few_apart_by a b gap l m is = (omega (arith, ints, is), omega (arith, ints, is))

-- facts that bound the sums of 1 to 200 districts
module _ (first second all : List ℕ) (total won : ℕ) (gap : ℤ) (is : AreScores first second all total won gap) (few : length first ≤ 200) where
  votes_at : (k : ℕ) → k < length first → (get_or first k 0 ≤ 10 ^ 14) × (get_or second k 0 ≤ 10 ^ 14)
  votes_at k l = (is.small_first k 0 l, is.small_second k 0 (omega (arith, l, is.as_many)))

  lost_in_all : (sum_below (length first) (λ k. lost_by_second (get_or first k 0) (get_or second k 0)) ≤ 200 * (2 * 10 ^ 14))
      × (sum_below (length first) (λ k. lost_by_first (get_or first k 0) (get_or second k 0)) ≤ 200 * (2 * 10 ^ 14))
  lost_in_all =
      let theirs = sum_below_few (length first) (2 * 10 ^ 14) (λ k. lost_by_second (get_or first k 0) (get_or second k 0)) (λ k l. (lost_few _ _ (votes_at k l).0 (votes_at k l).1).1) in
      let mine = sum_below_few (length first) (2 * 10 ^ 14) (λ k. lost_by_first (get_or first k 0) (get_or second k 0)) (λ k l. (lost_few _ _ (votes_at k l).0 (votes_at k l).1).0) in
      let most : length first * (2 * 10 ^ 14) ≤ 200 * (2 * 10 ^ 14) = mul-le _ _ 200 (2 * 10 ^ 14) few (omega arith) in
      (omega (arith, theirs, most), omega (arith, mine, most))

  pub gap_few : IsWithin (4 * 10 ^ 16) gap
  gap_few = few_apart _ _ gap lost_in_all.0 lost_in_all.1 is.gap_is

  pub won_few : won ≤ 200
  won_few = omega (arith, is.won_is, few, count_below_le (length first) (first_wins (sums_with first second)))

  pub total_few : total ≤ 200 * 10 ^ 9
  total_few =
      let width : length (shares (sums_with first second)) ≡ length first = length-map_below (length first) (λ k. share (get_or first k 0) (get_or second k 0)) in
      let part = sum_by-le (λ x. x) (10 ^ 9) (shares (sums_with first second)) (shares_small (sums_with first second)) in
      let most = mul-le (length (shares (sums_with first second))) (10 ^ 9) 200 (10 ^ 9) (omega (arith, width, few)) (omega arith) in
      omega (arith, is.total_is, ap sum is.shares_are, part, most)

  pub all_shares : 1 ≤ length first → AreShares all
  all_shares some =
      let width : length (shares (sums_with first second)) ≡ length first = length-map_below (length first) (λ k. share (get_or first k 0) (get_or second k 0)) in
      subst (λ (xs : List ℕ). AreShares xs) (sym is.shares_are) (record {
        some = omega (arith, width, some);
        few = omega (arith, width, few);
        small = shares_small (sums_with first second);
      })

-- the margin in a district is small
pub margin_few : (a b : ℕ) → a ≤ 10 ^ 14 → b ≤ 10 ^ 14 → IsWithin (2 * 10 ^ 14) (margin a b)
margin_few a b l m = few_apart_by _ _ (margin a b) (lost_few a b l m).1 (lost_few a b l m).0 refl

-- a seat is one at most
pub seat_few : (a b : ℕ) → seat a b ≤ 1
seat_few a b = elim (cases_lt b a) [
  | inl wins ↦ rw (lt-ltb b a wins) (omega arith)
  | inr loses ↦ rw (le-ltb b a loses) (omega arith)
]

-- the scores after the votes of a district are replaced
pub scores_replaced : (first second all : List ℕ) (total won : ℕ) (gap : ℤ) (d a b : ℕ) → AreScores first second all total won gap → d < length first
    → a ≤ 10 ^ 14 → b ≤ 10 ^ 14 → AreScores (set first d a) (set second d b) (set all d (share a b)) (total + share a b - get_or all d 0)
    (won + seat a b - seat (get_or first d 0) (get_or second d 0)) (gap +ℤ margin a b -ℤ margin (get_or first d 0) (get_or second d 0))
scores_replaced first second all total won gap d a b is l m n =
    let in_second : d < length second = omega (arith, l, is.as_many) in
    let width : length all ≡ length first = ap (λ (xs : List ℕ). length xs) is.shares_are ∙ length-map_below (length first) (λ k. share (get_or first k 0) (get_or second k 0)) in
    record {
      as_many = length-set second d b ∙ is.as_many ∙ sym (length-set first d a);
      small_first = All-set (λ n. n ≤ 10 ^ 14) first d a m is.small_first;
      small_second = All-set (λ n. n ≤ 10 ^ 14) second d b n is.small_second;
      shares_are = ap (λ (xs : List ℕ). set xs d (share a b)) is.shares_are ∙ shares_replaced first second d a b l in_second;
      total_is = omega (arith, is.total_is, sum_by-set (λ x. x) all d (share a b) 0 (omega (arith, width, l)));
      won_is = omega (arith, is.won_is, seats_replaced first second d a b l in_second);
      gap_is = ap (λ (g : ℤ). g +ℤ margin a b -ℤ margin (get_or first d 0) (get_or second d 0)) is.gap_is ∙ gap_replaced first second d a b l in_second;
    }

-- the gap and two margins are far below the bounds of their type
add_fits : (gap more : ℤ) → IsWithin (4 * 10 ^ 16) gap → IsWithin (2 * 10 ^ 14) more → FitsSigned w64 (to_z w64 (of_z w64 gap) +ℤ to_z w64 (of_z w64 more))
add_fits gap more l m = omega (arith, ints)

sub_fits : (gap more less : ℤ) → IsWithin (4 * 10 ^ 16) gap → IsWithin (2 * 10 ^ 14) more → IsWithin (2 * 10 ^ 14) less
    → FitsSigned w64 (to_z w64 (of_z w64 (to_z w64 (of_z w64 gap) +ℤ to_z w64 (of_z w64 more))) -ℤ to_z w64 (of_z w64 less))
sub_fits gap more less l m n = omega (arith, ints)

sum_is : (gap more less : ℤ) → IsWithin (4 * 10 ^ 16) gap → IsWithin (2 * 10 ^ 14) more → IsWithin (2 * 10 ^ 14) less
    → to_z w64 (of_z w64 (to_z w64 (of_z w64 (to_z w64 (of_z w64 gap) +ℤ to_z w64 (of_z w64 more))) -ℤ to_z w64 (of_z w64 less))) ≡ gap +ℤ more -ℤ less
sum_is gap more less l m n = omega (arith, ints)

-- the votes of a district of the last plan are replaced
module _ (p : Inside) (votes : KnownVotes) (seen : known p ≡ votes) (scored : IsScored p) (long : length p.first ≡ 200) (d a b : ℕ)
    (inside : d < length votes.first) (small_first : a ≤ 10 ^ 14) (small_second : b ≤ 10 ^ 14) where
  abbrev first : List ℕ
  first = take p.districts p.first

  abbrev second : List ℕ
  second = take p.districts p.second

  is : AreScores first second (take p.districts p.shares) p.total p.seats p.gap
  is = scored.scores

  width : length first ≡ p.districts
  width = length-take-le p.districts p.first (omega (arith, long, scored.few))

  below : d < p.districts
  below = omega (arith, inside, ap (λ (v : KnownVotes). length v.first) seen, width)

  in_first : d < length first
  in_first = omega (arith, below, width)

  in_second : d < length second
  in_second = omega (arith, in_first, is.as_many)

  few : length first ≤ 200
  few = omega (arith, width, scored.few)

  first_at : get_or first d 0 ≡ get_or p.first d 0
  first_at = get_or-take p.districts p.first d 0 below

  second_at : get_or second d 0 ≡ get_or p.second d 0
  second_at = get_or-take p.districts p.second d 0 below

  in_shares : d < length (take p.districts p.shares)
  in_shares = omega (
    arith,
    in_first,
    ap (λ (xs : List ℕ). length xs) is.shares_are ∙ length-map_below (length first) (λ k. share (get_or first k 0) (get_or second k 0)),
  )

  pub old_first : get_or p.first d 0 ≤ 10 ^ 14
  old_first = omega (arith, is.small_first d 0 in_first, first_at)

  pub old_second : get_or p.second d 0 ≤ 10 ^ 14
  old_second = omega (arith, is.small_second d 0 in_second, second_at)

  pub old_share : get_or p.shares d 0 ≤ p.total
  old_share = omega (arith, is.total_is, get_or-le-sum_by (λ x. x) (take p.districts p.shares) d 0 in_shares, get_or-take p.districts p.shares d 0 below)

  pub old_total : p.total ≤ 200 * 10 ^ 9
  old_total = total_few first second (take p.districts p.shares) p.total p.seats p.gap is few

  pub old_seats : p.seats ≤ 200
  old_seats = won_few first second (take p.districts p.shares) p.total p.seats p.gap is few

  old_gap : IsWithin (4 * 10 ^ 16) p.gap
  old_gap = gap_few first second (take p.districts p.shares) p.total p.seats p.gap is few

  pub old_seat : seat (get_or p.first d 0) (get_or p.second d 0) ≤ p.seats + seat a b
  old_seat = omega (
    arith,
    is.won_is,
    seats_replaced first second d a b in_first in_second,
    ap (λ (x : ℕ). seat x (get_or second d 0)) first_at,
    ap (λ (y : ℕ). seat (get_or p.first d 0) y) second_at,
  )

  pub gap_add_fits : (more : ℤ) → more ≡ margin a b → FitsSigned w64 (to_z w64 (of_z w64 p.gap) +ℤ to_z w64 (of_z w64 more))
  gap_add_fits more e = rw e (add_fits p.gap (margin a b) old_gap (margin_few a b small_first small_second))

  old_margin : IsWithin (2 * 10 ^ 14) (margin (get_or p.first d 0) (get_or p.second d 0))
  old_margin = margin_few (get_or p.first d 0) (get_or p.second d 0) old_first old_second

  pub gap_sub_fits : (more less : ℤ) → more ≡ margin a b → less ≡ margin (get_or p.first d 0) (get_or p.second d 0)
      → FitsSigned w64 (to_z w64 (of_z w64 (to_z w64 (of_z w64 p.gap) +ℤ to_z w64 (of_z w64 more))) -ℤ to_z w64 (of_z w64 less))
  gap_sub_fits more less e f =
      rw (e, f) (sub_fits p.gap (margin a b) (margin (get_or p.first d 0) (get_or p.second d 0)) old_gap (margin_few a b small_first small_second) old_margin)

  pub first_after : take p.districts (set p.first d a) ≡ set votes.first d a
  first_after = take-set-lt p.districts p.first d a below ∙ ap (λ (v : KnownVotes). set v.first d a) seen

  pub second_after : take p.districts (set p.second d b) ≡ set votes.second d b
  second_after = take-set-lt p.districts p.second d b below ∙ ap (λ (v : KnownVotes). set v.second d b) seen

  pub scored_after : (billionths won old_won : ℕ) (more less : ℤ) → billionths ≡ share a b → won ≡ seat a b → old_won ≡ seat (get_or p.first d 0) (get_or p.second d 0)
      → more ≡ margin a b → less ≡ margin (get_or p.first d 0) (get_or p.second d 0)
      → IsScored (record p {
        first = set p.first d a;
        second = set p.second d b;
        shares = set p.shares d billionths;
        total = p.total + billionths - get_or p.shares d 0;
        seats = p.seats + won - old_won;
        gap = to_z w64 (of_z w64 (to_z w64 (of_z w64 (to_z w64 (of_z w64 p.gap) +ℤ to_z w64 (of_z w64 more))) -ℤ to_z w64 (of_z w64 less)));
      })
  scored_after billionths won old_won more less s t u v w = record {
    few = scored.few;
    scores =
        rw (
          s,
          t,
          u,
          v,
          w,
          sum_is p.gap (margin a b) (margin (get_or p.first d 0) (get_or p.second d 0)) old_gap (margin_few a b small_first small_second) old_margin,
          take-set-lt p.districts p.first d a below,
          take-set-lt p.districts p.second d b below,
          take-set-lt p.districts p.shares d (share a b) below,
          ← get_or-take p.districts p.shares d 0 below,
          ← first_at,
          ← second_at,
        ) (scores_replaced first second (take p.districts p.shares) p.total p.seats p.gap d a b is in_first small_first small_second);
    low = scored.low;
    high = scored.high;
  }
