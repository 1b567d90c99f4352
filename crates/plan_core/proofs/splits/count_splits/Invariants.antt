use Rattle.std.proofs.Common.{◌≡◌, ◌-◌, ◌*◌, ◌≤◌, None}
use Rattle.std.specs.Prelude.{nat_lt}
use Rattle.audit_model.specs.Below.{count_below, sum_below}
use Rattle.audit_model.specs.First.{first_below}
use Rattle.audit_model.specs.Meets.{split_of}
use Rattle.plan_core.specs.Splits.{is_split}
use Rattle.plan_core.proofs.splits.count_splits.Given as goal

abbrev pub invariant-loop-region : goal.invariant-loop-region
invariant-loop-region l = record {
  none : first_below l.region (is_split l.regions l.plan l.most) ≡ None;
  splits : l.splits ≡ sum_below l.region (λ region. split_of l.regions l.plan region - 1);
  few_splits : l.splits ≤ 200 * l.region;
  split : l.split ≡ count_below l.region (λ region. nat_lt 1 (split_of l.regions l.plan region));
  few_split : l.split ≤ l.region;
}
