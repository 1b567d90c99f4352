use Rattle.std.proofs.Common.{◌≡◌, ℕ, ◌≤◌, ◌==◌, ◌&&◌, Bool, not, List, [], length, take, get_or, ap, ◌∙◌, arith, take_all}
use Rattle.std.specs.Prelude.{nat_lt, count_by}
use Rattle.audit_model.specs.Below.{count_below}
use Rattle.audit_model.specs.Graph.{Graph, IsGraph, adjacent}
use Rattle.audit_model.proofs.Below.{count_below_le}
use Rattle.district_sums.proofs.scratch.others_below.Goals as goal
use Rattle.district_sums.proofs.Counting.{count_neighbours}

-- at the end of the row, the count covers the units below the bound
row_counted : (g : Graph) (unit bound others i : ℕ) (test : ℕ → Bool) (row : List ℕ) → IsGraph g → row ≡ get_or g.neighbours unit [] → length row ≤ i
    → others ≡ count_by (λ v. nat_lt v bound && test v) (take i row) → others ≡ count_below bound (λ v. adjacent g v unit && test v)
row_counted g unit bound others i test row sound is end counted =
    counted
    ∙ ap (count_by (λ v. nat_lt v bound && test v)) (take_all i row end ∙ is)
    ∙ count_neighbours g unit bound test sound

pub overflow_cast-result : goal.overflow_cast-result
overflow_cast-result c =
    let test : ℕ → Bool = λ v. not (get_or c.args.member.plan.now v 0 == get_or c.args.member.plan.now c.args.member.unit 0) in
    let is = row_counted c.args.member.graph.now c.args.member.unit c.args.bound c.loop-other.others c.loop-other.other-index test c.neighbours-other-items.result.now
    c.args.member.sound c.neighbours-other-items.ensures.list c.loop-other-test.false c.loop-other.invariant in
    let small = count_below_le c.args.bound (λ v. adjacent c.args.member.graph.now v c.args.member.unit && test v) in
    omega (arith, is, small, c.ranges.bound)

pub returns : goal.returns
returns c =
    row_counted c.args.member.graph.now c.args.member.unit c.args.bound c.loop-other.others c.loop-other.other-index
    (λ v. not (get_or c.args.member.plan.now v 0 == get_or c.args.member.plan.now c.args.member.unit 0)) c.neighbours-other-items.result.now
    c.args.member.sound c.neighbours-other-items.ensures.list c.loop-other-test.false c.loop-other.invariant
