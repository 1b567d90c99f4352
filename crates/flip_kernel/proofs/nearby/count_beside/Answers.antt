use Rattle.std.proofs.Common.{◌≡◌, ℕ, ◌*◌, ◌^◌, ◌<◌, ◌≤◌, List, length, get_or, take, refl, ap, ◌∙◌, subst, arith, take_all}
use Rattle.std.proofs.lemmas.List.Elements.{All-get_or}
use Rattle.std.proofs.lemmas.Nat.{mul-le}
use Rattle.flip_kernel.specs.Nearby.{HasCounted}
use Rattle.flip_kernel.proofs.NearPairs.{counting_none, counting_more, counting_fits}
use Rattle.flip_kernel.proofs.Tables.{place_within}
use Rattle.flip_kernel.proofs.nearby.count_beside.Goals as goal

-- the place of a unit's first number is small
small_begin : (unit districts : ℕ) → unit ≤ 100000 → districts ≤ 2 ^ 32 → unit * districts ≤ 100000 * 2 ^ 32
small_begin unit districts few numbers = mul-le unit districts 100000 (2 ^ 32) few numbers

pub overflow_mul-begin : goal.overflow_mul-begin
overflow_mul-begin c =
    omega (arith, small_begin c.args.member.unit c.args.districts (omega (arith, c.args.member.within, c.args.member.few)) (omega arith))

pub overflow_add-place : goal.overflow_add-place
overflow_add-place c =
    let row : List ℕ = c.neighbours-other-items.result.now in
    let below = All-get_or (λ v. v < c.args.member.graph.now.units) row c.loop-other.other-index 0 c.loop-other-test.true c.neighbours-other-items.ensures.below in
    omega (
      arith,
      small_begin c.args.member.unit c.args.districts (omega (arith, c.args.member.within, c.args.member.few)) (omega arith),
      c.requires.in_range (get_or row c.loop-other.other-index 0) below,
    )

pub overflow_add-own : goal.overflow_add-own
overflow_add-own c =
    omega (
      arith,
      small_begin c.args.member.unit c.args.districts (omega (arith, c.args.member.within, c.args.member.few)) (omega arith),
      c.requires.in_range c.args.member.unit c.args.member.within,
    )

pub bounds-table-own : goal.bounds-table-own
bounds-table-own c =
    place_within c.args.member.graph.now.units c.args.districts c.args.member.unit (get_or c.args.member.plan.now c.args.member.unit 0) (length c.args.table.now)
    c.args.member.within (c.requires.in_range c.args.member.unit c.args.member.within) c.requires.width

pub overflow_add-table : goal.overflow_add-table
overflow_add-table c =
    let plan : List ℕ = c.args.member.plan.now in
    let row : List ℕ = c.neighbours-other-items.result.now in
    let i : ℕ = c.loop-other.other-index in
    let there : get_or plan (get_or row i 0) 0 < c.args.districts =
    c.requires.in_range (get_or row i 0) (All-get_or (λ v. v < c.args.member.graph.now.units) row i 0 c.loop-other-test.true c.neighbours-other-items.ensures.below) in
    let short : length row ≤ 127 = omega (arith, ap (length {A = ℕ}) c.neighbours-other-items.ensures.list, c.requires.short c.args.member.unit c.args.member.within) in
    omega (
      arith,
      counting_fits plan c.args.districts c.args.member.unit (get_or plan (get_or row i 0) 0) row i c.args.table.now c.loop-other.table c.loop-other-test.true short there
          c.loop-other.invariant,
    )

pub loop-other-preserved : goal.loop-other-preserved
loop-other-preserved c =
    let plan : List ℕ = c.args.member.plan.now in
    let row : List ℕ = c.neighbours-other-items.result.now in
    let i : ℕ = c.loop-other.other-index in
    let units : ℕ = c.args.member.graph.now.units in
    let there : get_or plan (get_or row i 0) 0 < c.args.districts =
    c.requires.in_range (get_or row i 0) (All-get_or (λ v. v < units) row i 0 c.loop-other-test.true c.neighbours-other-items.ensures.below) in
    let wide : units * c.args.districts ≤ length c.loop-other.table = omega (arith, c.requires.width, c.loop-other.invariant.width) in
    counting_more plan c.args.districts c.args.member.unit _ row i c.args.table.now c.loop-other.table c.loop-other-test.true there refl
    (place_within units c.args.districts c.args.member.unit (get_or plan (get_or row i 0) 0) (length c.loop-other.table) c.args.member.within there wide)
    c.loop-other.invariant

pub bounds-table-place : goal.bounds-table-place
bounds-table-place c =
    let plan : List ℕ = c.args.member.plan.now in
    let row : List ℕ = c.neighbours-other-items.result.now in
    let i : ℕ = c.loop-other.other-index in
    let units : ℕ = c.args.member.graph.now.units in
    let there : get_or plan (get_or row i 0) 0 < c.args.districts =
    c.requires.in_range (get_or row i 0) (All-get_or (λ v. v < units) row i 0 c.loop-other-test.true c.neighbours-other-items.ensures.below) in
    place_within units c.args.districts c.args.member.unit (get_or plan (get_or row i 0) 0) (length c.loop-other.table) c.args.member.within there
    (omega (arith, c.requires.width, c.loop-other.invariant.width))

pub loop-other-init : goal.loop-other-init
loop-other-init c =
    let plan : List ℕ = c.args.member.plan.now in
    let home = c.requires.in_range c.args.member.unit c.args.member.within in
    counting_none plan c.args.districts c.args.member.unit _ c.args.table.now home refl
    (place_within c.args.member.graph.now.units c.args.districts c.args.member.unit (get_or plan c.args.member.unit 0) (length c.args.table.now) c.args.member.within home c.requires.width)
    c.requires.zeros

pub bounds-member-other : goal.bounds-member-other
bounds-member-other c =
    let row : List ℕ = c.neighbours-other-items.result.now in
    let below = All-get_or (λ v. v < c.args.member.graph.now.units) row c.loop-other.other-index 0 c.loop-other-test.true c.neighbours-other-items.ensures.below in
    omega (arith, below, c.args.member.complete)

pub returns : goal.returns
returns c =
    let row : List ℕ = c.neighbours-other-items.result.now in
    let all : take c.loop-other.other-index row ≡ row = take_all c.loop-other.other-index row c.loop-other-test.false in
    subst (λ (xs : List ℕ). HasCounted c.args.member.plan.now c.args.districts c.args.member.unit xs c.args.table.now c.loop-other.table)
    (all ∙ c.neighbours-other-items.ensures.list) c.loop-other.invariant
