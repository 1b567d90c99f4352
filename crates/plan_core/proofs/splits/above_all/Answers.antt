use Rattle.std.proofs.Common.{ℕ, ◌≡◌, ◌+◌, max, get_or, ap, ◌∙◌, take, arith}
use Rattle.std.proofs.lemmas.List.{take_more}
use Rattle.audit_model.specs.Below.{above_all}
use Rattle.audit_model.proofs.ListFacts.{above_all_more}
use Rattle.plan_core.proofs.splits.above_all.Goals as goal
use Rattle.plan_core.proofs.splits.above_all.Goals.{then-above-number, else-above-number}

pub loop-number-preserved : goal.loop-number-preserved
loop-number-preserved c =
    let i : ℕ = c.loop-number.number-index in
    let x : ℕ = get_or c.args.numbers.now i 0 in
    let more : above_all (take (i + 1) c.args.numbers.now) ≡ max (above_all (take i c.args.numbers.now)) (x + 1) =
    ap above_all (take_more c.args.numbers.now i 0 c.loop-number-test.true) ∙ above_all_more (take i c.args.numbers.now) x in
    elim c.if-above-number.branch [
      | then-above-number w ↦ omega (arith, w.above-is, w.if-above-number.true, more, c.loop-number.invariant)
      | else-above-number w ↦ omega (arith, w.above-is, w.if-above-number.false, more, c.loop-number.invariant)
    ]
