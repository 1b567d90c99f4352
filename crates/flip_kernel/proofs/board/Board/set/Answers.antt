use Rattle.std.proofs.Common.{ℕ, List, ap}
use Rattle.flip_kernel.proofs.board.Board.set.Goals as goal

pub returns-else-not-has_plan : goal.returns-else-not-has_plan
returns-else-not-has_plan c = ap (λ (p : List ℕ). record c.args.self.now { plan = p }) (c.has_plan.ensures c.if-not-has_plan.false)
