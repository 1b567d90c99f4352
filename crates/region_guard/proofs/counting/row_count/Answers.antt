use Rattle.std.proofs.Common.{ℕ, List, take, get_or, ap, ◌∙◌, arith}
use Rattle.std.proofs.lemmas.List.{take_more}
use Rattle.audit_model.specs.Below.{above_all}
use Rattle.audit_model.proofs.ListFacts.{above_all_more}
use Rattle.region_guard.proofs.counting.row_count.Goals as goal
use Rattle.region_guard.proofs.counting.row_count.Goals.{then-region-rows, else-region-rows}

pub loop-region-preserved : goal.loop-region-preserved
loop-region-preserved c =
    let xs : List ℕ = c.args.regions.now in
    let i : ℕ = c.loop-region.region-index in
    let more = ap above_all (take_more xs i 0 c.loop-region-test.true) ∙ above_all_more (take i xs) (get_or xs i 0) in
    elim c.if-region-rows.branch [
      | then-region-rows w ↦ omega (arith, more, w.rows-is, w.if-region-rows.true, c.loop-region.invariant)
      | else-region-rows w ↦ omega (arith, more, w.rows-is, w.if-region-rows.false, c.loop-region.invariant)
    ]
