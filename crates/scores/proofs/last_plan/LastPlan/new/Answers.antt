use Rattle.std.proofs.Common.{refl, arith}
use Rattle.audit_model.proofs.Below.{counted_none}
use Rattle.scores.proofs.last_plan.LastPlan.new.Goals as goal

pub invariant_of-result : goal.invariant_of-result
invariant_of-result c = record {
  few = omega arith;
  scores = record {
    as_many = refl;
    small_first = λ k d l. absurd (omega (arith, l));
    small_second = λ k d l. absurd (omega (arith, l));
    shares_are = refl;
    total_is = refl;
    won_is = counted_none _;
    gap_is = refl;
  };
  low = λ some. absurd (omega (arith, some));
  high = λ some. absurd (omega (arith, some));
}
