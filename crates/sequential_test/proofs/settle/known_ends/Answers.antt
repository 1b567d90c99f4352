use Rattle.std.proofs.Common.{true, ◌∙◌, arith}
use Rattle.sequential_test.proofs.Ranks.{ends_ranked, ranked_none}
use Rattle.sequential_test.proofs.settle.known_ends.Goals as goal

pub loop-short-init : goal.loop-short-init
loop-short-init c = record {
  below = omega arith;
  within = omega arith;
  known = ends_ranked c.args.span.walks c.args.posted.now 0 ∙ ranked_none c.args.span.walks (λ o. true) c.args.posted.now;
  short = λ l. absurd (omega (arith, l));
}
