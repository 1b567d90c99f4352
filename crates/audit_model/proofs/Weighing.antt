-- Ways between legal plans, by the weight on cut edges.
use Rattle.std.proofs.Common.{◌≡◌, ℕ, zero, suc, ◌+◌, ◌-◌, ◌*◌, ◌/◌, ◌%◌, ◌^◌, ◌<◌, ◌≤◌, Bool, true, false, cond, ◌&&◌, List, set, get_or, length, Some, refl, sym, ap, ◌∙◌, subst, inl, inr, arith}
use Rattle.std.specs.Prelude.{◌==◌, ◌||◌, ◌⊎◌, nat_lt, nat_le, bytes_eq}
use Rattle.std.proofs.Math.Nat.{div-mul-le_self, mul-le-mul_right, mul_assoc, mul-le-mul, pow-suc}
use Rattle.std.proofs.lemmas.Bool.{cases_Bool, cases_eq, cond-true, lt-ltb, ltb-true, le-leb, lt-leb, leb-false, leb-true, eq-eqb, eqb-true, ne_eqb, and_parts, and_from, and_right, both_ways, false_from_ne_true, false≢true}
use Rattle.std.proofs.lemmas.List.{set-set, set-get_or, get_or-set_same, get_or-set_other}
use Rattle.std.proofs.lemmas.Nat.{div-add-mod', div-mul-add, mod-mul-add, div_below, le-div, pow-add, mod_below}
use Rattle.std.proofs.lemmas.Slice.Eq.{bytes_eq-Decides}
use Rattle.audit_model.specs.Below.{count_below, any_below}
use Rattle.audit_model.specs.Graph.{count_edges}
use Rattle.audit_model.specs.Job.{Job}
use Rattle.audit_model.specs.Plan.{IsLegal, cut_edges, is_legal}
use Rattle.audit_model.specs.Proposal.{counted_draws, proposal}
use Rattle.audit_model.specs.Step.{CanReturn, changed, mirrored, next, ways}
use Rattle.audit_model.specs.Weight.{factor, factors, is_taken, largest_change, passes, weighed_draws, weight}
use Rattle.audit_model.proofs.Below.{any_below_from, any_below_some, count_below_none, count_below_same}
use Rattle.audit_model.proofs.Blocks.{count_all, count_below_cut, count_digits, count_places}
use Rattle.audit_model.proofs.Bools.{same_bool}
use Rattle.audit_model.proofs.Legal.{legal_passes}
use Rattle.audit_model.proofs.Meeting.{cut_edges_few}
use Rattle.audit_model.proofs.Mirror.{cases_next, next_at, proposal_some, unit_of, district_of, second_above_zero, even_takes, back, back_place, back_place_below, mirrored_is_back, same_block_below, size, size_above_zero}
use Rattle.audit_model.proofs.Numbers.{place_below}

-- ---- tests in another order

none_pass : (counts few_added few_removed small : Bool) → (few_added && few_removed) ≡ false → (counts && (few_added && few_removed && small)) ≡ false
none_pass false a r e h = refl
none_pass true true true e h = absurd (false≢true (sym h))
none_pass true true false e h = refl
none_pass true false r e h = refl

few_pass : (here counts few_added few_removed small : Bool) → few_added ≡ true → few_removed ≡ true
    → (here && (counts && (few_added && few_removed && small))) ≡ (counts && (here && small))
few_pass here counts a r small ha hr =
    ap (λ (b : Bool). here && (counts && (b && r && small))) ha ∙ ap (λ (b : Bool). here && (counts && (true && b && small))) hr ∙ turned here counts small
  where
    turned : (here counts small : Bool) → (here && (counts && (true && true && small))) ≡ (counts && (here && small))
    turned true true small = refl
    turned true false small = refl
    turned false true small = refl
    turned false false small = refl

nothing : (a b : ℕ) → 0 * a ≡ 0 * b
nothing a b = omega arith

balanced : (blocks most d limit one : ℕ) → d ≤ most → one ≡ 1 → blocks * 64 ^ (most - d) * limit * 64 ^ d ≡ blocks * 64 ^ (most - 0) * one * limit
balanced blocks most d limit one few is =
    let together : most - d + d ≡ most - 0 = omega (arith, few) in
    let power : 64 ^ (most - 0) ≡ 64 ^ (most - d) * 64 ^ d = ap (λ (k : ℕ). 64 ^ k) (sym together) ∙ pow-add 64 (most - d) d in
    turned blocks (64 ^ (most - d)) limit (64 ^ d) ∙ ap (λ (n : ℕ). blocks * n * 1 * limit) (sym power)
    ∙ ap (λ (n : ℕ). blocks * 64 ^ (most - 0) * n * limit) (sym is)
  where
    turned : (a b c e : ℕ) → a * b * c * e ≡ a * (b * e) * 1 * c
    turned a b c e = omega arith

-- ---- products of factors

factors_none : (q cut : ℕ) → factors q cut 0 ≡ 1
unfolding factors
factors_none q cut = refl

-- each factor is at most 64
factors_small : (q cut added : ℕ) → q ≤ 256 → factors q cut added ≤ 64 ^ added
unfolding factors
factors_small q cut zero l = omega arith
factors_small q cut (suc added) l =
    let below : factor q (cut + added) < 65 = div_below (q + 3 - (cut + added) % 4) 4 65 (omega arith) (omega (arith, l)) in
    let one : factor q (cut + added) ≤ 64 = omega (arith, below) in
    let power : 64 ^ suc added ≡ 64 ^ added * 64 = pow-suc 64 added in
    omega (arith, power, mul-le-mul (factors_small q cut added l) one)

-- without a weight, each factor is 64
factors_even : (cut added : ℕ) → factors 256 cut added ≡ 64 ^ added
unfolding factors
factors_even cut zero = refl
factors_even cut (suc added) =
    let few : (cut + added) % 4 < 4 = mod_below (cut + added) 4 (omega arith) in
    let sum : 256 + 3 - (cut + added) % 4 ≡ 64 * 4 + (3 - (cut + added) % 4) = omega (arith, few) in
    let one : factor 256 (cut + added) ≡ 64 =
    ap (λ (n : ℕ). n / 4) sum ∙ div-mul-add 64 4 (3 - (cut + added) % 4) (omega arith) in
    ap (λ (n : ℕ). n * factor 256 (cut + added)) (factors_even cut added) ∙ ap (λ (n : ℕ). 64 ^ added * n) one ∙ sym (pow-suc 64 added)

-- the factors of more cut edges are those of the first, and then those of the others
factors_split : (q cut added : ℕ) → factors q 0 (cut + added) ≡ factors q 0 cut * factors q cut added
unfolding factors
factors_split q cut zero = let e : cut + zero ≡ cut = omega arith in omega (arith, ap (factors q 0) e)
factors_split q cut (suc added) =
    let e : cut + suc added ≡ suc (cut + added) = omega arith in
    let at : 0 + (cut + added) ≡ cut + added = omega arith in
    ap (factors q 0) e ∙ ap (λ (n : ℕ). factors q 0 (cut + added) * factor q n) at
    ∙ ap (λ (n : ℕ). n * factor q (cut + added)) (factors_split q cut added)
    ∙ mul_assoc (factors q 0 cut) (factors q cut added) (factor q (cut + added))

blocks_again : (blocks size power : ℕ) → blocks * power * size ≡ blocks * (size * power)
blocks_again blocks size power = omega arith

-- ---- without a weight

pub even_next : (job : Job) (plan : List ℕ) (draw : ℕ) → job.setting.cut_weight ≡ 256
    → next job plan draw ≡ (let proposed = changed plan (proposal job.graph.units job.districts draw) in cond (is_legal job proposed) proposed plan)
unfolding next
even_next job plan draw even =
    ap (λ (b : Bool). cond (b && is_legal job (changed plan (proposal job.graph.units job.districts draw))) (changed plan (proposal job.graph.units job.districts draw)) plan)
    (even_takes job plan (changed plan (proposal job.graph.units job.districts draw)) draw even)

-- ---- the way back

pass_parts : (a c d e : Bool) → (a && (c && d && e)) ≡ true → (a ≡ true) × (c ≡ true) × (d ≡ true) × (e ≡ true)
pass_parts true true true true h = (refl, refl, refl, refl)
pass_parts true true true false h = absurd (false≢true h)
pass_parts true true false e h = absurd (false≢true h)
pass_parts true false d e h = absurd (false≢true h)
pass_parts false c d e h = absurd (false≢true h)

pass_from : (a c d e : Bool) → a ≡ true → c ≡ true → d ≡ true → e ≡ true → (a && (c && d && e)) ≡ true
pass_from true true true true ha hc hd he = refl
pass_from true true true false ha hc hd he = he
pass_from true true false e ha hc hd he = hd
pass_from true false d e ha hc hd he = hc
pass_from false c d e ha hc hd he = ha

-- if a change that adds cut edges passes, another draw of the block passes for the change back
passes_back : (limit one pairs most draw added place : ℕ) → one ≡ 1 → 0 < pairs → place < pairs → passes limit pairs most draw added 0 ≡ true
    → passes one pairs most (draw / pairs * pairs + place) 0 added ≡ true
passes_back limit one pairs most draw added place is some below h =
    let blocks : ℕ = 2 ^ 64 / (pairs * 64 ^ most) in
    let parts = pass_parts (nat_lt draw (weighed_draws pairs most)) (nat_le added most) (nat_le 0 most) (nat_lt (draw / pairs % 64 ^ added) limit) h in
    let other : blocks * 64 ^ most * pairs ≡ weighed_draws pairs most = blocks_again blocks pairs (64 ^ most) in
    let counts : draw < blocks * 64 ^ most * pairs = subst (λ (n : ℕ). draw < n) (sym other) (ltb-true draw (weighed_draws pairs most) parts.0) in
    let counts_back : draw / pairs * pairs + place < weighed_draws pairs most =
    subst (λ (n : ℕ). draw / pairs * pairs + place < n) other (same_block_below draw pairs (blocks * 64 ^ most) place some counts below) in
    let small : (draw / pairs * pairs + place) / pairs % 64 ^ 0 < one =
    subst (λ (n : ℕ). (draw / pairs * pairs + place) / pairs % 64 ^ 0 < n) (sym is) (mod_below ((draw / pairs * pairs + place) / pairs) 1 (omega arith)) in
    pass_from (nat_lt (draw / pairs * pairs + place) (weighed_draws pairs most)) (nat_le 0 most) (nat_le added most)
    (nat_lt ((draw / pairs * pairs + place) / pairs % 64 ^ 0) one)
    (lt-ltb (draw / pairs * pairs + place) (weighed_draws pairs most) counts_back) parts.2 parts.1 (lt-ltb ((draw / pairs * pairs + place) / pairs % 64 ^ 0) one small)

-- if a draw takes a change that takes no cut edges away, another draw of the block takes the change back
taken_back : (job : Job) (from to : List ℕ) (draw place : ℕ) → 0 < job.graph.units * job.districts → place < job.graph.units * job.districts
    → cut_edges job.graph from ≤ cut_edges job.graph to → is_taken job from to draw ≡ true
    → is_taken job to from (draw / (job.graph.units * job.districts) * (job.graph.units * job.districts) + place) ≡ true
unfolding is_taken
taken_back job from to draw place some below rises h = elim (cases_eq job.setting.cut_weight 256) [
  | inl even ↦ even_takes job to from (draw / (job.graph.units * job.districts) * (job.graph.units * job.districts) + place) even
  | inr weighed ↦
      let pairs : ℕ = job.graph.units * job.districts in
      let cut : ℕ = cut_edges job.graph from in
      let more : ℕ = cut_edges job.graph to in
      let q : ℕ = job.setting.cut_weight in
      let none : cut - more ≡ 0 = omega (arith, rises) in
      let off : (q == 256) ≡ false = ne_eqb q 256 weighed in
      let forth : passes (factors q cut (more - cut)) pairs (largest_change pairs) draw (more - cut) 0 ≡ true =
      ap (λ (r : ℕ). passes (factors q cut (more - cut)) pairs (largest_change pairs) draw (more - cut) r) (sym none)
      ∙ ap (λ (b : Bool). b || passes (factors q cut (more - cut)) pairs (largest_change pairs) draw (more - cut) (cut - more)) (sym off) ∙ h in
      ap (λ (b : Bool). b || passes (factors q more (cut - more)) pairs (largest_change pairs) (draw / pairs * pairs + place) (cut - more) (more - cut)) off
      ∙ ap (λ (a : ℕ). passes (factors q more a) pairs (largest_change pairs) (draw / pairs * pairs + place) a (more - cut)) none
      ∙ passes_back (factors q cut (more - cut)) (factors q more 0) pairs (largest_change pairs) draw (more - cut) place (factors_none q more) some below forth
]

pub can_return : (job : Job) (plan : List ℕ) (draw : ℕ) → IsLegal job plan → CanReturn job plan draw → bytes_eq (next job plan draw) plan ≡ false
    → is_taken job (next job plan draw) plan (mirrored job plan draw) ≡ true
unfolding back back_place size
can_return job plan draw legal can changes = elim can [
  | inl even ↦ even_takes job (next job plan draw) plan (mirrored job plan draw) even
  | inr rises ↦ elim (cases_next job plan draw) [
    | inl same ↦ absurd (both_ways (bytes_eq (next job plan draw) plan) changes ((bytes_eq-Decides (next job plan draw) plan).1 same))
    | inr move ↦
        subst (λ (w : ℕ). is_taken job (next job plan draw) plan w ≡ true) (sym (mirrored_is_back job plan draw legal move changes))
        (taken_back job plan (next job plan draw) draw (back_place job plan draw legal move) (size_above_zero job plan draw legal move)
        (back_place_below job plan draw legal move) rises (subst (λ (p : List ℕ). is_taken job plan p draw ≡ true) (sym move.after) move.taken))
  ]
]

-- one plan with the pair at this place is the other
record IsFlip (job : Job) (from to : List ℕ) (place : ℕ) : Type 0 where
  within : place < job.graph.units * job.districts
  gives : set from (place / job.districts) (place % job.districts) ≡ to

-- ---- draws that lead from one plan to the other

module _ (job : Job) (from to : List ℕ) (legal_from : IsLegal job from) (legal_to : IsLegal job to) (apart : from ≡ to → ⊥) (place : ℕ) (flip : IsFlip job from to place) where
  some_pairs : 0 < job.graph.units * job.districts
  some_pairs = omega (arith, flip.within)

  some_districts : 0 < job.districts
  some_districts = second_above_zero job.graph.units job.districts some_pairs

  unit_below : place / job.districts < job.graph.units
  unit_below = div_below place job.districts job.graph.units some_districts flip.within

  inside : place / job.districts < length from
  inside = omega (arith, unit_below, legal_from.complete)

  joined : get_or to (place / job.districts) 0 ≡ place % job.districts
  joined = ap (λ (p : List ℕ). get_or p (place / job.districts) 0) (sym flip.gives) ∙ get_or-set_same from (place / job.districts) (place % job.districts) 0 inside

  elsewhere : get_or from (place / job.districts) 0 ≡ place % job.districts → ⊥
  elsewhere e = apart (sym (set-get_or from (place / job.districts) 0) ∙ ap (λ (d : ℕ). set from (place / job.districts) d) e ∙ flip.gives)

  -- no other pair gives the plan
  one_place : (other : ℕ) → set from (other / job.districts) (other % job.districts) ≡ to → other ≡ place
  one_place other gives = elim (cases_eq (place / job.districts) (other / job.districts)) [
    | inl same ↦
        let same_district : other % job.districts ≡ place % job.districts =
        sym (get_or-set_same from (other / job.districts) (other % job.districts) 0 (subst (λ (u : ℕ). u < length from) same inside))
        ∙ ap (λ (p : List ℕ). get_or p (other / job.districts) 0) gives ∙ ap (λ (u : ℕ). get_or to u 0) (sym same) ∙ joined in
        sym (div-add-mod' other job.districts) ∙ ap (λ (u : ℕ). u * job.districts + other % job.districts) (sym same)
        ∙ ap (λ (d : ℕ). place / job.districts * job.districts + d) same_district ∙ div-add-mod' place job.districts
    | inr off ↦ absurd (elsewhere (sym (get_or-set_other from (other / job.districts) (place / job.districts) (other % job.districts) 0 off)
        ∙ ap (λ (p : List ℕ). get_or p (place / job.districts) 0) gives ∙ joined))
  ]

  abbrev leading : ℕ → Bool
  leading draw = nat_lt draw (counted_draws job.graph.units job.districts) && ((draw % (job.graph.units * job.districts) == place) && is_taken job from to draw)

  leads_forth : (draw : ℕ) → bytes_eq (next job from draw) to ≡ true → leading draw ≡ true
  unfolding unit_of district_of
  leads_forth draw h =
      let is : next job from draw ≡ to = (bytes_eq-Decides (next job from draw) to).0 h in
      elim (cases_next job from draw) [
        | inl same ↦ absurd (apart (sym same ∙ is))
        | inr move ↦
            let gives : set from (unit_of job draw) (district_of job draw) ≡ to = sym move.after ∙ is in
            and_from (nat_lt draw (counted_draws job.graph.units job.districts)) ((draw % (job.graph.units * job.districts) == place) && is_taken job from to draw)
            (lt-ltb draw (counted_draws job.graph.units job.districts) move.counted)
            (and_from (draw % (job.graph.units * job.districts) == place) (is_taken job from to draw)
            (eq-eqb (draw % (job.graph.units * job.districts)) place (one_place (draw % (job.graph.units * job.districts)) gives))
            (subst (λ (p : List ℕ). is_taken job from p draw ≡ true) gives move.taken))
      ]

  leads_back : (draw : ℕ) → leading draw ≡ true → bytes_eq (next job from draw) to ≡ true
  leads_back draw h =
      let first = and_parts (nat_lt draw (counted_draws job.graph.units job.districts)) ((draw % (job.graph.units * job.districts) == place) && is_taken job from to draw) h in
      let second = and_parts (draw % (job.graph.units * job.districts) == place) (is_taken job from to draw) first.1 in
      let below : draw < counted_draws job.graph.units job.districts = ltb-true draw (counted_draws job.graph.units job.districts) first.0 in
      let at : draw % (job.graph.units * job.districts) ≡ place = eqb-true (draw % (job.graph.units * job.districts)) place second.0 in
      let gives : set from (draw % (job.graph.units * job.districts) / job.districts) (draw % (job.graph.units * job.districts) % job.districts) ≡ to =
      ap (λ (r : ℕ). set from (r / job.districts) (r % job.districts)) at ∙ flip.gives in
      let is : next job from draw ≡ to =
      next_at job from draw (Some (draw % (job.graph.units * job.districts) / job.districts, draw % (job.graph.units * job.districts) % job.districts))
      (proposal_some job.graph.units job.districts draw below)
      ∙ cond-true _ _ _ (subst (λ (p : List ℕ). (is_taken job from p draw && is_legal job p) ≡ true) (sym gives)
      (and_from (is_taken job from to draw) (is_legal job to) second.1 (legal_passes job to legal_to)))
      ∙ gives in
      (bytes_eq-Decides (next job from draw) to).1 is

  counted_ways : ways job from to
      ≡ count_below (counted_draws job.graph.units job.districts) (λ draw. (draw % (job.graph.units * job.districts) == place) && is_taken job from to draw)
  unfolding ways
  counted_ways =
      count_below_same (2 ^ 64) (λ draw. bytes_eq (next job from draw) to) leading
      (λ draw below. same_bool (bytes_eq (next job from draw) to) (leading draw) (leads_forth draw) (leads_back draw))
      ∙ count_below_cut (counted_draws job.graph.units job.districts) (2 ^ 64) (λ draw. (draw % (job.graph.units * job.districts) == place) && is_taken job from to draw)
      (div-mul-le_self (2 ^ 64) (job.graph.units * job.districts))

  -- without a weight, one draw of each block
  even_ways : job.setting.cut_weight ≡ 256 → ways job from to ≡ 2 ^ 64 / (job.graph.units * job.districts)
  even_ways even =
      counted_ways
      ∙ count_below_same (counted_draws job.graph.units job.districts) (λ draw. (draw % (job.graph.units * job.districts) == place) && is_taken job from to draw)
      (λ draw. (draw % (job.graph.units * job.districts) == place) && true)
      (λ draw below. ap (λ (b : Bool). (draw % (job.graph.units * job.districts) == place) && b) (even_takes job from to draw even))
      ∙ count_places (job.graph.units * job.districts) place (2 ^ 64 / (job.graph.units * job.districts)) (λ _. true) flip.within
      ∙ count_all (2 ^ 64 / (job.graph.units * job.districts))

  m : ℕ
  m = largest_change (job.graph.units * job.districts)

  -- with a weight, the change must pass
  module _ (weighed : job.setting.cut_weight ≡ 256 → ⊥) (added removed : ℕ) (adds : cut_edges job.graph to - cut_edges job.graph from ≡ added)
      (removes : cut_edges job.graph from - cut_edges job.graph to ≡ removed) where
    taken_is : (draw : ℕ) → is_taken job from to draw ≡ passes (factors job.setting.cut_weight (cut_edges job.graph from) added) (job.graph.units * job.districts) m draw added removed
    unfolding is_taken m
    taken_is draw =
        ap (λ (b : Bool). b || passes (factors job.setting.cut_weight (cut_edges job.graph from) (cut_edges job.graph to - cut_edges job.graph from)) (job.graph.units * job.districts) m draw (cut_edges job.graph to - cut_edges job.graph from)
        (cut_edges job.graph from - cut_edges job.graph to)) (ne_eqb job.setting.cut_weight 256 weighed)
        ∙ ap (λ (a : ℕ). passes (factors job.setting.cut_weight (cut_edges job.graph from) a) (job.graph.units * job.districts) m draw a (cut_edges job.graph from - cut_edges job.graph to)) adds
        ∙ ap (λ (r : ℕ). passes (factors job.setting.cut_weight (cut_edges job.graph from) added) (job.graph.units * job.districts) m draw added r) removes

    -- a change that is too large has no ways
    far_ways : (nat_le added m && nat_le removed m) ≡ false → ways job from to ≡ 0
    far_ways beyond =
        counted_ways
        ∙ count_below_none (counted_draws job.graph.units job.districts) (λ draw. (draw % (job.graph.units * job.districts) == place) && is_taken job from to draw)
        (λ draw below. and_right (draw % (job.graph.units * job.districts) == place) (is_taken job from to draw)
        (taken_is draw ∙ none_pass (nat_lt draw (weighed_draws (job.graph.units * job.districts) m)) (nat_le added m) (nat_le removed m)
        (nat_lt (draw / (job.graph.units * job.districts) % 64 ^ added) (factors job.setting.cut_weight (cut_edges job.graph from) added)) beyond))

    weighed_fewer : weighed_draws (job.graph.units * job.districts) m ≤ counted_draws job.graph.units job.districts
    weighed_fewer =
        let whole : 2 ^ 64 / (job.graph.units * job.districts * 64 ^ m) * (job.graph.units * job.districts * 64 ^ m) ≤ 2 ^ 64 =
        div-mul-le_self (2 ^ 64) (job.graph.units * job.districts * 64 ^ m) in
        let other : 2 ^ 64 / (job.graph.units * job.districts * 64 ^ m) * 64 ^ m * (job.graph.units * job.districts)
        ≡ 2 ^ 64 / (job.graph.units * job.districts * 64 ^ m) * (job.graph.units * job.districts * 64 ^ m) =
        blocks_again (2 ^ 64 / (job.graph.units * job.districts * 64 ^ m)) (job.graph.units * job.districts) (64 ^ m) in
        let fewer : 2 ^ 64 / (job.graph.units * job.districts * 64 ^ m) * 64 ^ m ≤ 2 ^ 64 / (job.graph.units * job.districts) =
        le-div (2 ^ 64 / (job.graph.units * job.districts * 64 ^ m) * 64 ^ m) (2 ^ 64) (job.graph.units * job.districts) some_pairs
        (subst (λ (n : ℕ). n ≤ 2 ^ 64) (sym other) whole) in
        subst (λ (n : ℕ). n ≤ counted_draws job.graph.units job.districts) other (mul-le-mul_right (job.graph.units * job.districts) fewer)

    -- a change that is not too large has one way for each draw whose last digits are small enough
    near_ways : nat_le added m ≡ true → nat_le removed m ≡ true → job.setting.cut_weight ≤ 256
        → ways job from to ≡ 2 ^ 64 / (job.graph.units * job.districts * 64 ^ m) * 64 ^ (m - added) * factors job.setting.cut_weight (cut_edges job.graph from) added
    near_ways few_added few_removed small =
        counted_ways
        ∙ count_below_same (counted_draws job.graph.units job.districts) (λ draw. (draw % (job.graph.units * job.districts) == place) && is_taken job from to draw)
        (λ draw. nat_lt draw (weighed_draws (job.graph.units * job.districts) m)
        && ((draw % (job.graph.units * job.districts) == place) && nat_lt (draw / (job.graph.units * job.districts) % 64 ^ added) (factors job.setting.cut_weight (cut_edges job.graph from) added)))
        (λ draw below. ap (λ (b : Bool). (draw % (job.graph.units * job.districts) == place) && b) (taken_is draw)
        ∙ few_pass (draw % (job.graph.units * job.districts) == place) (nat_lt draw (weighed_draws (job.graph.units * job.districts) m)) (nat_le added m) (nat_le removed m)
        (nat_lt (draw / (job.graph.units * job.districts) % 64 ^ added) (factors job.setting.cut_weight (cut_edges job.graph from) added)) few_added few_removed)
        ∙ count_below_cut (weighed_draws (job.graph.units * job.districts) m) (counted_draws job.graph.units job.districts)
        (λ draw. (draw % (job.graph.units * job.districts) == place) && nat_lt (draw / (job.graph.units * job.districts) % 64 ^ added) (factors job.setting.cut_weight (cut_edges job.graph from) added))
        weighed_fewer
        ∙ count_digits 64 (factors job.setting.cut_weight (cut_edges job.graph from) added) (job.graph.units * job.districts) place (2 ^ 64 / (job.graph.units * job.districts * 64 ^ m)) m added
        flip.within (leb-true added m few_added) (factors_small job.setting.cut_weight (cut_edges job.graph from) added small)

  -- the flip that leads back
  return_place : ℕ
  return_place = place / job.districts * job.districts + get_or from (place / job.districts) 0

  flip_back : IsFlip job to from return_place
  unfolding return_place
  flip_back =
      let old : ℕ = get_or from (place / job.districts) 0 in
      let old_below : old < job.districts = legal_from.in_range (place / job.districts) unit_below in
      record {
        within = place_below (place / job.districts) old job.graph.units job.districts unit_below old_below;
        gives =
            ap (λ (u : ℕ). set to u ((place / job.districts * job.districts + old) % job.districts)) (div-mul-add (place / job.districts) job.districts old old_below)
            ∙ ap (λ (d : ℕ). set to (place / job.districts) d) (mod-mul-add (place / job.districts) job.districts old old_below)
            ∙ ap (λ (p : List ℕ). set p (place / job.districts) old) (sym flip.gives)
            ∙ set-set from (place / job.districts) (place % job.districts) old
            ∙ set-get_or from (place / job.districts) 0;
      }

-- ---- plans that differ in more than one unit

-- some pair turns the one plan into the other
abbrev can_flip : Job → List ℕ → List ℕ → Bool
can_flip job from to = any_below (job.graph.units * job.districts) (λ place. bytes_eq (set from (place / job.districts) (place % job.districts)) to)

flip_found : (job : Job) (from to : List ℕ) → can_flip job from to ≡ true → (place : ℕ) × IsFlip job from to place
flip_found job from to can =
    let found = any_below_some (job.graph.units * job.districts) (λ place. bytes_eq (set from (place / job.districts) (place % job.districts)) to) can in
    (found.0, record { within = found.1; gives = (bytes_eq-Decides (set from (found.0 / job.districts) (found.0 % job.districts)) to).0 found.2 })

flip_can : (job : Job) (from to : List ℕ) (place : ℕ) → IsFlip job from to place → can_flip job from to ≡ true
flip_can job from to place flip =
    any_below_from (job.graph.units * job.districts) (λ place. bytes_eq (set from (place / job.districts) (place % job.districts)) to) place flip.within
    ((bytes_eq-Decides (set from (place / job.districts) (place % job.districts)) to).1 flip.gives)

no_ways : (job : Job) (from to : List ℕ) → (from ≡ to → ⊥) → can_flip job from to ≡ false → ways job from to ≡ 0
unfolding ways unit_of district_of
no_ways job from to apart cannot =
    count_below_none (2 ^ 64) (λ draw. bytes_eq (next job from draw) to)
    (λ draw below. false_from_ne_true (bytes_eq (next job from draw) to) (λ h. leads draw ((bytes_eq-Decides (next job from draw) to).0 h)))
  where
    leads : (draw : ℕ) → next job from draw ≡ to → ⊥
    leads draw is = elim (cases_next job from draw) [
      | inl same ↦ apart (sym same ∙ is)
      | inr move ↦
          let some : 0 < job.graph.units * job.districts =
          second_above_zero (2 ^ 64 / (job.graph.units * job.districts)) (job.graph.units * job.districts) (omega (arith, move.counted)) in
          both_ways (can_flip job from to) cannot
          (flip_can job from to (draw % (job.graph.units * job.districts)) (record { within = mod_below draw (job.graph.units * job.districts) some; gives = sym move.after ∙ is }))
    ]

-- two plans differ in one unit, or no draw leads from one to the other
cases_flip : (job : Job) (from to : List ℕ) → IsLegal job from → IsLegal job to → (from ≡ to → ⊥)
    → ((place : ℕ) × IsFlip job from to place) ⊎ ((ways job from to ≡ 0) × (ways job to from ≡ 0))
cases_flip job from to legal_from legal_to apart = elim (cases_Bool (can_flip job from to)) [
  | inl can ↦ inl (flip_found job from to can)
  | inr cannot ↦ elim (cases_Bool (can_flip job to from)) [
    | inr cannot_back ↦ inr (no_ways job from to apart cannot, no_ways job to from (λ e. apart (sym e)) cannot_back)
    | inl can_back ↦
        let found = flip_found job to from can_back in
        absurd (both_ways (can_flip job from to) cannot
        (flip_can job from to (return_place job to from legal_to legal_from (λ e. apart (sym e)) found.0 found.1)
        (flip_back job to from legal_to legal_from (λ e. apart (sym e)) found.0 found.1)))
  ]
]

-- ---- the law

module _ (job : Job) (from to : List ℕ) (d : ℕ) (legal_from : IsLegal job from) (legal_to : IsLegal job to)
    (rise : cut_edges job.graph to ≡ cut_edges job.graph from + d) where
  added_forth : cut_edges job.graph to - cut_edges job.graph from ≡ d
  added_forth = omega (arith, rise)

  removed_forth : cut_edges job.graph from - cut_edges job.graph to ≡ 0
  removed_forth = omega (arith, rise)

  far_pair : (apart : from ≡ to → ⊥) (place : ℕ) → IsFlip job from to place → (job.setting.cut_weight ≡ 256 → ⊥) → largest_change (job.graph.units * job.districts) < d
      → (ways job from to ≡ 0) × (ways job to from ≡ 0)
  unfolding m
  far_pair apart place flip weighed beyond =
      let large : nat_le d (largest_change (job.graph.units * job.districts)) ≡ false = lt-leb d (largest_change (job.graph.units * job.districts)) beyond in (
        far_ways job from to legal_from legal_to apart place flip weighed d 0 added_forth removed_forth
            (ap (λ (b : Bool). b && nat_le 0 (largest_change (job.graph.units * job.districts))) large),
        far_ways job to from legal_to legal_from (λ e. apart (sym e)) (return_place job from to legal_from legal_to apart place flip)
            (flip_back job from to legal_from legal_to apart place flip) weighed 0 d removed_forth added_forth
            (and_right (nat_le 0 (largest_change (job.graph.units * job.districts))) (nat_le d (largest_change (job.graph.units * job.districts))) large),
      )

  pub far : job.setting.cut_weight < 256 → largest_change (job.graph.units * job.districts) < d → (ways job from to ≡ 0) × (ways job to from ≡ 0)
  far small beyond =
      let apart : from ≡ to → ⊥ = λ e. omega (arith, rise, ap (cut_edges job.graph) e, beyond) in
      elim (cases_flip job from to legal_from legal_to apart) [
        | inr none ↦ none
        | inl found ↦ far_pair apart found.0 found.1 (λ e. omega (arith, e, small)) beyond
      ]

  near_pair : (apart : from ≡ to → ⊥) (place : ℕ) → IsFlip job from to place → (job.setting.cut_weight ≡ 256 → ⊥) → nat_le d (largest_change (job.graph.units * job.districts)) ≡ true
      → job.setting.cut_weight ≤ 256 → ways job from to * 64 ^ d ≡ ways job to from * factors job.setting.cut_weight (cut_edges job.graph from) d
  unfolding m
  near_pair apart place flip weighed few small =
      let most : ℕ = largest_change (job.graph.units * job.districts) in
      let blocks : ℕ = 2 ^ 64 / (job.graph.units * job.districts * 64 ^ most) in
      let none : nat_le 0 most ≡ true = le-leb 0 most (omega arith) in
      let forth : ways job from to ≡ blocks * 64 ^ (most - d) * factors job.setting.cut_weight (cut_edges job.graph from) d =
      near_ways job from to legal_from legal_to apart place flip weighed d 0 added_forth removed_forth few none small in
      let back : ways job to from ≡ blocks * 64 ^ (most - 0) * factors job.setting.cut_weight (cut_edges job.graph to) 0 =
      near_ways job to from legal_to legal_from (λ e. apart (sym e)) (return_place job from to legal_from legal_to apart place flip)
      (flip_back job from to legal_from legal_to apart place flip) weighed 0 d removed_forth added_forth none few small in
      ap (λ (n : ℕ). n * 64 ^ d) forth ∙ balanced blocks most d (factors job.setting.cut_weight (cut_edges job.graph from) d) (factors job.setting.cut_weight (cut_edges job.graph to) 0) (leb-true d most few) (factors_none job.setting.cut_weight (cut_edges job.graph to)) ∙ ap (λ (n : ℕ). n * factors job.setting.cut_weight (cut_edges job.graph from) d) (sym back)

  even_pair : (apart : from ≡ to → ⊥) (place : ℕ) → IsFlip job from to place → job.setting.cut_weight ≡ 256 → ways job from to * 64 ^ d ≡ ways job to from * factors job.setting.cut_weight (cut_edges job.graph from) d
  even_pair apart place flip even =
      ap (λ (n : ℕ). n * 64 ^ d)
      (even_ways job from to legal_from legal_to apart place flip even
      ∙ sym (even_ways job to from legal_to legal_from (λ e. apart (sym e)) (return_place job from to legal_from legal_to apart place flip)
      (flip_back job from to legal_from legal_to apart place flip) even))
      ∙ ap (λ (n : ℕ). ways job to from * n) (sym (ap (λ (q : ℕ). factors q (cut_edges job.graph from) d) even ∙ factors_even (cut_edges job.graph from) d))

  apart_ratio : (from ≡ to → ⊥) → job.setting.cut_weight ≤ 256 → ways job from to * 64 ^ d ≡ ways job to from * factors job.setting.cut_weight (cut_edges job.graph from) d
  apart_ratio apart small = elim (cases_flip job from to legal_from legal_to apart) [
    | inr none ↦ ap (λ (n : ℕ). n * 64 ^ d) none.0 ∙ nothing (64 ^ d) (factors job.setting.cut_weight (cut_edges job.graph from) d) ∙ ap (λ (n : ℕ). n * factors job.setting.cut_weight (cut_edges job.graph from) d) (sym none.1)
    | inl found ↦ elim (cases_eq job.setting.cut_weight 256) [
      | inl even ↦ even_pair apart found.0 found.1 even
      | inr weighed ↦ elim (cases_Bool (nat_le d (largest_change (job.graph.units * job.districts)))) [
        | inl few ↦ near_pair apart found.0 found.1 weighed few small
        | inr many ↦
            let none = far_pair apart found.0 found.1 weighed (leb-false d (largest_change (job.graph.units * job.districts)) many) in
            ap (λ (n : ℕ). n * 64 ^ d) none.0 ∙ nothing (64 ^ d) (factors job.setting.cut_weight (cut_edges job.graph from) d) ∙ ap (λ (n : ℕ). n * factors job.setting.cut_weight (cut_edges job.graph from) d) (sym none.1)
      ]
    ]
  ]

  same_ratio : from ≡ to → ways job from to * 64 ^ d ≡ ways job to from * factors job.setting.cut_weight (cut_edges job.graph from) d
  same_ratio e =
      let none : d ≡ 0 = omega (arith, rise, ap (cut_edges job.graph) e) in
      let ones : 64 ^ d ≡ factors job.setting.cut_weight (cut_edges job.graph from) d =
      ap (λ (k : ℕ). 64 ^ k) none ∙ sym (ap (λ (k : ℕ). factors job.setting.cut_weight (cut_edges job.graph from) k) none ∙ factors_none job.setting.cut_weight (cut_edges job.graph from)) in
      let same : ways job from to ≡ ways job to from = ap (λ (p : List ℕ). ways job p to) e ∙ ap (λ (p : List ℕ). ways job to p) (sym e) in
      ap (λ (n : ℕ). n * 64 ^ d) same ∙ ap (λ (n : ℕ). ways job to from * n) ones

  pub ratio : job.setting.cut_weight ≤ 256 → ways job from to * 64 ^ d ≡ ways job to from * factors job.setting.cut_weight (cut_edges job.graph from) d
  ratio small = elim (cases_Bool (bytes_eq from to)) [
    | inl same ↦ same_ratio ((bytes_eq-Decides from to).0 same)
    | inr differ ↦ apart_ratio (λ e. both_ways (bytes_eq from to) differ ((bytes_eq-Decides from to).1 e)) small
  ]

  -- the weights of both plans, by the rise
  pub rising_balance : job.setting.cut_weight ≤ 256 → weight job from * ways job from to ≡ weight job to * ways job to from
  rising_balance small =
      let edges : ℕ = count_edges job.graph (λ u v. true) in
      let cut : ℕ = cut_edges job.graph from in
      let more : ℕ = cut_edges job.graph to in
      let t : ℕ = job.setting.cut_weight in
      let fit : more ≤ edges = cut_edges_few job.graph to in
      let rest : edges - cut ≡ edges - more + d = omega (arith, rise, fit) in
      let from_power : 64 ^ (edges - cut) ≡ 64 ^ (edges - more) * 64 ^ d = ap (λ (k : ℕ). 64 ^ k) rest ∙ pow-add 64 (edges - more) d in
      let to_power : factors t 0 more ≡ factors t 0 cut * factors t cut d = ap (λ (k : ℕ). factors t 0 k) rise ∙ factors_split t cut d in
      ap (λ (n : ℕ). factors t 0 cut * n * ways job from to) from_power ∙ regroup (factors t 0 cut) (64 ^ (edges - more)) (64 ^ d) (ways job from to)
      ∙ ap (λ (n : ℕ). factors t 0 cut * 64 ^ (edges - more) * n) (ratio small)
      ∙ ungroup (factors t 0 cut) (64 ^ (edges - more)) (factors t cut d) (ways job to from) ∙ ap (λ (n : ℕ). n * 64 ^ (edges - more) * ways job to from) (sym to_power)
    where
      regroup : (a b c w : ℕ) → a * (b * c) * w ≡ a * b * (w * c)
      regroup a b c w = omega arith

      ungroup : (a b c w : ℕ) → a * b * (w * c) ≡ a * c * b * w
      ungroup a b c w = omega arith

-- the weight of each plan times the ways from it to the other is the same for both
pub balance : (job : Job) (from to : List ℕ) → job.setting.cut_weight ≤ 256 → IsLegal job from → IsLegal job to
    → weight job from * ways job from to ≡ weight job to * ways job to from
balance job from to small legal_from legal_to = elim (cases_Bool (nat_le (cut_edges job.graph from) (cut_edges job.graph to))) [
  | inl rises ↦
      let l : cut_edges job.graph from ≤ cut_edges job.graph to = leb-true (cut_edges job.graph from) (cut_edges job.graph to) rises in
      rising_balance job from to (cut_edges job.graph to - cut_edges job.graph from) legal_from legal_to (omega (arith, l)) small
  | inr falls ↦
      let l : cut_edges job.graph to < cut_edges job.graph from = leb-false (cut_edges job.graph from) (cut_edges job.graph to) falls in
      sym (rising_balance job to from (cut_edges job.graph from - cut_edges job.graph to) legal_to legal_from (omega (arith, l)) small)
]
