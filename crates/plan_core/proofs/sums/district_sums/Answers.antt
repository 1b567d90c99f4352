use Rattle.std.proofs.Common.{◌≡◌, ℕ, ◌+◌, ◌<◌, ◌≤◌, List, length, get_or, replicate, ◌∙◌, arith, length-set}
use Rattle.std.proofs.lemmas.List.{get_or-replicate, length-replicate}
use Rattle.std.proofs.lemmas.List.Elements.{All-get_or}
use Rattle.plan_core.proofs.Bounded.{sums_more, sums_stay_small}
use Rattle.plan_core.proofs.sums.district_sums.Goals as goal

zero_at : (d : ℕ) → d < 200 → get_or (replicate {A = ℕ} 200 0) d 0 ≡ 0
zero_at d l = get_or-replicate {A = ℕ} 200 d 0 0 l

pub loop-unit-init : goal.loop-unit-init
loop-unit-init c = record {
  width = length-replicate {A = ℕ} 200 0;
  sums = λ d l. zero_at d l;
  small = λ d l. omega (arith, zero_at d l);
}

pub loop-unit-preserved : goal.loop-unit-preserved
loop-unit-preserved c =
    let plan : List ℕ = c.args.plan.now in
    let column : List ℕ = c.args.column.now in
    let sums : List ℕ = c.loop-unit.sums in
    let unit : ℕ = c.loop-unit.unit in
    let lt : unit < length plan = c.loop-unit-test.true in
    let below : get_or plan unit 0 < 200 = c.requires.districts unit lt in
    let one : get_or column unit 0 ≤ 1000000000 = All-get_or (λ n. n ≤ 1000000000) column unit 0 (omega (arith, lt, c.requires.column.width)) c.requires.column.small in
    record {
      width = length-set sums (get_or plan unit 0) (get_or sums (get_or plan unit 0) 0 + get_or column unit 0) ∙ c.loop-unit.invariant.width;
      sums = λ d l. sums_more plan column sums unit d c.loop-unit.invariant.width below (c.loop-unit.invariant.sums d l);
      small = λ d l. sums_stay_small column sums unit (get_or plan unit 0) d c.loop-unit.invariant.width below one c.loop-unit.invariant.small l;
    }
