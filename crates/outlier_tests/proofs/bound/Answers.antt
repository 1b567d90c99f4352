use Rattle.std.proofs.Common.{◌-◌, ◌*◌, ◌/◌, ◌^◌, subst, sym}
use Rattle.std.specs.Prelude.{nat_le}
use Rattle.audit_model.specs.Least.{IsLeast}
use Rattle.audit_model.proofs.Least.{bound_is_least}
use Rattle.outlier_tests.proofs.bound.Goals as goal
use Rattle.outlier_tests.proofs.Roots.{bound_from_root}

pub returns-clause-value : goal.returns-clause-value
returns-clause-value c =
    bound_from_root c.args.count c.args.of ((2 * c.from.result * 10 ^ 18 - 1) / c.from-2.result) c.isqrt.result
    c.requires.count.0 c.requires.count.1 (cc) c.isqrt.ensures.square_le c.isqrt.ensures.next_square_gt

pub returns-clause-least : goal.returns-clause-least
returns-clause-least c =
    subst (λ n. IsLeast (λ r. nat_le (2 * c.args.count * 10 ^ 18) (r * r * c.args.of)) n) (sym (returns-clause-value c)) (bound_is_least c.args.count c.args.of c.requires.count.1)
