use Rattle.std.proofs.Common.{◌≡◌, List, ℕ, ap, ◌∙◌, arith}
use Rattle.std.specs.List.{sum}
use Rattle.plan_core.proofs.Bounded.{sum_small}
use Rattle.plan_core.proofs.sums.sum_votes.Goals as goal

pub overflow_add-result : goal.overflow_add-result
overflow_add-result c =
    let counts = c.args.counts.now in
    let one : c.sum_of.result ≡ sum counts.first = c.sum_of.ensures ∙ ap (λ (xs : List ℕ). sum xs) c.as_slice.ensures in
    let other : c.sum_of-2.result ≡ sum counts.second = c.sum_of-2.ensures ∙ ap (λ (xs : List ℕ). sum xs) c.as_slice-2.ensures in
    omega (
      arith,
      one,
      other,
      sum_small counts.first c.requires.first.0 c.requires.first.1,
      sum_small counts.second c.requires.second.0 c.requires.second.1,
    )
