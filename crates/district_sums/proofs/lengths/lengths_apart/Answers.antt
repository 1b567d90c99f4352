use Rattle.std.proofs.Common.{◌≡◌, ℕ, ◌+◌, ◌-◌, ◌<◌, ◌≤◌, Bool, ◌==◌, ◌&&◌, cond, not, List, [], length, get_or, take, sym, ap, ◌∙◌, subst, inl, inr, arith}
use Rattle.std.specs.Prelude.{nat_lt}
use Rattle.std.proofs.lemmas.Bool.{cases_Bool, cond-true, cond-false}
use Rattle.audit_model.specs.Below.{sum_below}
use Rattle.audit_model.specs.Graph.{Graph, IsGraph}
use Rattle.audit_model.specs.Length.{degree, edge_length}
use Rattle.audit_model.proofs.Lengths.{degree_few}
use Rattle.district_sums.proofs.Measured.{among_all, among_more, among_none, apart_among, length_read, length_there}
use Rattle.district_sums.proofs.lengths.lengths_apart.Goals as goal

-- the place of the length is within the list
inside : (g : Graph) (lengths row : List ℕ) (u begin place : ℕ) → IsGraph g → u < g.units → row ≡ get_or g.neighbours u [] → begin ≡ sum_below u (degree g)
    → place < length row → length lengths ≡ sum_below g.units (degree g) → begin + place < length lengths
inside g lengths row u begin place sound within is_row is l long = let there = length_there g lengths u place row sound within is_row l long in omega (arith, there, is)

-- a length or nothing is at most 2 ^ 32 - 1
at_most : (b : Bool) (n : ℕ) → n ≤ 4294967295 → cond {A = ℕ} b n 0 ≤ 4294967295
at_most b n l = elim (cases_Bool b) [
  | inl e ↦ let is = cond-true {A = ℕ} b n 0 e in omega (arith, is, l)
  | inr e ↦ let is = cond-false {A = ℕ} b n 0 e in omega (arith, is)
]

-- one more neighbor
module _ (g : Graph) (lengths plan row : List ℕ) (u bound district begin place total added : ℕ) (sound : IsGraph g) (within : u < g.units) (is_row : row ≡ get_or g.neighbours u [])
    (begins : begin ≡ sum_below u (degree g)) (l : place < length row) (long : length lengths ≡ sum_below g.units (degree g))
    (so_far : total ≡ apart_among g lengths plan u bound district (take place row))
    (adds : added ≡ cond {A = ℕ} (nat_lt (get_or row place 0) bound && not (get_or plan (get_or row place 0) 0 == district)) (get_or lengths (begin + place) 0) 0) where
  one_more : total + added ≡ apart_among g lengths plan u bound district (take (place + 1) row)
  one_more =
      let more = among_more g lengths plan u bound district place row sound is_row l in
      let test : Bool = nat_lt (get_or row place 0) bound && not (get_or plan (get_or row place 0) 0 == district) in
      let read : cond {A = ℕ} test (get_or lengths (begin + place) 0) 0 ≡ cond {A = ℕ} test (edge_length g lengths u (get_or row place 0)) 0 =
      ap (λ (k : ℕ). cond {A = ℕ} test (get_or lengths (k + place) 0) 0) begins
      ∙ ap (λ (n : ℕ). cond {A = ℕ} test n 0) (length_read g lengths u place row sound within is_row l long) in
      omega (arith, more, read, adds, so_far)

pub loop-place-init : goal.loop-place-init
loop-place-init c =
    let m = c.args.member in record {
      first = sym (among_none m.graph.now c.args.lengths.now m.plan.now m.unit c.args.bound c.args.one);
      second = sym (among_none m.graph.now c.args.lengths.now m.plan.now m.unit c.args.bound c.args.other);
      small_first = omega arith;
      small_second = omega arith;
    }

pub length_at-length-requires : goal.length_at-length-requires
length_at-length-requires c = inside c.args.member.graph.now c.args.lengths.now c.neighbours-row.result.now c.args.member.unit c.arcs_before-begin.result c.loop-place.place c.args.member.sound c.args.member.within
    c.neighbours-row.ensures.list c.arcs_before-begin.ensures (omega (arith, c.loop-place-test.true)) c.requires.long

pub overflow_add-first : goal.overflow_add-first
overflow_add-first c =
    let row : length c.neighbours-row.result.now ≡ degree c.args.member.graph.now c.args.member.unit = ap length c.neighbours-row.ensures.list in
    let small : c.length_if-first.result ≤ 4294967295 = subst (λ (k : ℕ). k ≤ 4294967295) (sym c.length_if-first.ensures) (at_most _ _ c.length_at-length.ensures.small) in
    omega (arith, c.loop-place.invariant.small_first, small, degree_few c.args.member.graph.now c.args.member.unit c.args.member.sound, row, c.args.member.few, c.loop-place-test.true)

pub overflow_add-second : goal.overflow_add-second
overflow_add-second c =
    let row : length c.neighbours-row.result.now ≡ degree c.args.member.graph.now c.args.member.unit = ap length c.neighbours-row.ensures.list in
    let small : c.length_if-second.result ≤ 4294967295 = subst (λ (k : ℕ). k ≤ 4294967295) (sym c.length_if-second.ensures) (at_most _ _ c.length_at-length.ensures.small) in
    omega (arith, c.loop-place.invariant.small_second, small, degree_few c.args.member.graph.now c.args.member.unit c.args.member.sound, row, c.args.member.few, c.loop-place-test.true)

pub loop-place-preserved : goal.loop-place-preserved
loop-place-preserved c =
    let m = c.args.member in
    let g : Graph = m.graph.now in
    let lengths : List ℕ = c.args.lengths.now in
    let plan : List ℕ = m.plan.now in
    let row : List ℕ = c.neighbours-row.result.now in
    let place : ℕ = c.loop-place.place in
    let below : Bool = nat_lt (get_or row place 0) c.args.bound in
    let here : ℕ = get_or plan (get_or row place 0) 0 in
    let first : c.length_if-first.result ≤ 4294967295 = subst (λ (k : ℕ). k ≤ 4294967295) (sym c.length_if-first.ensures) (at_most _ _ c.length_at-length.ensures.small) in
    let second : c.length_if-second.result ≤ 4294967295 = subst (λ (k : ℕ). k ≤ 4294967295) (sym c.length_if-second.ensures) (at_most _ _ c.length_at-length.ensures.small) in
    record {
      first = one_more g lengths plan row m.unit c.args.bound c.args.one c.arcs_before-begin.result place c.loop-place.first c.length_if-first.result m.sound m.within
          c.neighbours-row.ensures.list c.arcs_before-begin.ensures c.loop-place-test.true c.requires.long c.loop-place.invariant.first
          (c.length_if-first.ensures ∙ ap (λ (n : ℕ). cond {A = ℕ} (below && not (here == c.args.one)) n 0) c.length_at-length.ensures.value);
      second = one_more g lengths plan row m.unit c.args.bound c.args.other c.arcs_before-begin.result place c.loop-place.second c.length_if-second.result m.sound m.within
          c.neighbours-row.ensures.list c.arcs_before-begin.ensures c.loop-place-test.true c.requires.long c.loop-place.invariant.second
          (c.length_if-second.ensures ∙ ap (λ (n : ℕ). cond {A = ℕ} (below && not (here == c.args.other)) n 0) c.length_at-length.ensures.value);
      small_first = omega (arith, c.loop-place.invariant.small_first, first);
      small_second = omega (arith, c.loop-place.invariant.small_second, second);
    }

pub returns-clause-one : goal.returns-clause-one
returns-clause-one c = c.loop-place.invariant.first ∙ among_all c.args.member.graph.now c.args.lengths.now c.args.member.plan.now c.args.member.unit c.args.bound c.args.one c.loop-place.place
    c.neighbours-row.result.now c.neighbours-row.ensures.list (omega (arith, c.loop-place-test.false))

pub returns-clause-other : goal.returns-clause-other
returns-clause-other c = c.loop-place.invariant.second ∙ among_all c.args.member.graph.now c.args.lengths.now c.args.member.plan.now c.args.member.unit c.args.bound c.args.other c.loop-place.place
    c.neighbours-row.result.now c.neighbours-row.ensures.list (omega (arith, c.loop-place-test.false))
