use Rattle.std.proofs.Common.{ℕ, Bool, ◌≡◌, ◌+◌, ◌-◌, ◌<◌, ◌≤◌, Some, refl, sym, ap, ◌∙◌, arith, add-one}
use Rattle.std.specs.Prelude.{nat_lt, option_map}
use Rattle.std.proofs.lemmas.Bool.{le-ltb, lt-ltb}
use Rattle.audit_model.specs.declared.fault.PlanFault.TheVariants.{TooManySplit}
use Rattle.audit_model.specs.Below.{above_all, sum_below}
use Rattle.audit_model.specs.Meets.{split_of}
use Rattle.audit_model.proofs.Below.{counted_none, counted_on, counted_off}
use Rattle.audit_model.proofs.First.{first_below_here, first_below_more}
use Rattle.plan_core.specs.Splits.{is_split, split}
use Rattle.plan_core.proofs.Splitting.{above_all_most}
use Rattle.plan_core.proofs.splits.count_splits.Goals as goal
use Rattle.plan_core.proofs.splits.count_splits.Goals.{then-districts-gt1, else-districts-gt1}

pub loop-region-init : goal.loop-region-init
loop-region-init c = record {
  none = refl;
  splits = refl;
  few_splits = omega arith;
  split = counted_none (λ region. nat_lt 1 (split_of c.args.regions.now c.args.plan.now region));
  few_split = omega arith;
}

pub returns-then-most-districts : goal.returns-then-most-districts
returns-then-most-districts c =
    let regions = c.args.regions.now in
    let plan = c.args.plan.now in
    let most = c.args.most in
    let region = c.loop-region.region in
    let is : c.split_of-districts.result ≡ split_of regions plan region = c.split_of-districts.ensures.split in
    let inside : region < above_all regions = omega (arith, c.loop-region-test.true, c.above_all-region-end.ensures) in
    let more : most < split_of regions plan region = omega (arith, c.if-most-districts.true, is) in
    ap (option_map (split regions plan most)) (first_below_here (above_all regions) region (is_split regions plan most) c.loop-region.invariant.none inside (lt-ltb most (split_of regions plan region) more))
    ∙ ap (λ (n : ℕ). Some (TooManySplit region n most)) (sym is)

pub overflow_add-splits : goal.overflow_add-splits
overflow_add-splits c =
    let few : above_all c.args.regions.now ≤ 5000 = above_all_most c.args.regions.now 5000 (λ u l. c.requires.few u 0 l) in
    omega (arith, few, c.loop-region-test.true, c.above_all-region-end.ensures, c.loop-region.invariant.few_splits, c.split_of-districts.ensures.few)

pub loop-region-preserved : goal.loop-region-preserved
loop-region-preserved c =
    let region : ℕ = c.loop-region.region in
    let split : ℕ → ℕ = split_of c.args.regions.now c.args.plan.now in
    let test : ℕ → Bool = λ region. nat_lt 1 (split region) in
    let f : ℕ → ℕ = λ region. split region - 1 in
    let so_far = c.loop-region.invariant in
    let is : c.split_of-districts.result ≡ split region = c.split_of-districts.ensures.split in
    let few : split region ≤ 200 = omega (arith, is, c.split_of-districts.ensures.few) in
    let last : sum_below (region + 1) f ≡ sum_below region f + f region = rw add-one refl in
    let none = first_below_more region (is_split c.args.regions.now c.args.plan.now c.args.most) so_far.none
    (le-ltb c.args.most (split region) (omega (arith, is, c.if-most-districts.false))) in
    elim c.if-districts-gt1.branch [
      | then-districts-gt1 w ↦ record {
        none = none;
        splits = omega (arith, w.splits-is, so_far.splits, is, last, w.if-districts-gt1.true);
        few_splits = omega (arith, w.splits-is, so_far.few_splits, is, few);
        split = w.split-is ∙ counted_on region c.loop-region.split test so_far.split (lt-ltb 1 (split region) (omega (arith, is, w.if-districts-gt1.true)));
        few_split = omega (arith, w.split-is, so_far.few_split);
      }
      | else-districts-gt1 w ↦ record {
        none = none;
        splits = omega (arith, w.splits-is, so_far.splits, is, last, w.if-districts-gt1.false);
        few_splits = omega (arith, w.splits-is, so_far.few_splits);
        split = w.split-is ∙ counted_off region c.loop-region.split test so_far.split (le-ltb 1 (split region) (omega (arith, is, w.if-districts-gt1.false)));
        few_split = omega (arith, w.split-is, so_far.few_split);
      }
    ]
