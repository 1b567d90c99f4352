use Rattle.std.proofs.Common.{ℕ, Bool, false, ◌≡◌, ◌&&◌, length, subst, ◌∙◌, arith}
use Rattle.std.specs.Prelude.{◌==◌, slice_index}
use Rattle.std.specs.List.{slice_index_or}
use Rattle.std.proofs.lemmas.List.{get_or-replicate, length-replicate}
use Rattle.audit_model.specs.Below.{any_below}
use Rattle.audit_model.specs.Meets.{lies_in}
use Rattle.audit_model.proofs.Below.{count_below_le, count_below_same}
use Rattle.plan_core.proofs.Splitting.{split_is}
use Rattle.plan_core.proofs.splits.split_of.Goals as goal

pub loop-unit-init : goal.loop-unit-init
loop-unit-init c = record {
  width = length-replicate {A = Bool} 200 false;
  seen = λ d l. get_or-replicate {A = Bool} 200 d false false l;
}

pub returns-clause-split : goal.returns-clause-split
returns-clause-split c =
    let regions = c.args.regions.now in
    let plan = c.args.plan.now in
    let all : c.loop-unit.unit ≡ length regions = omega (arith, c.loop-unit-test.false, c.loop-unit.auto.unit-end) in
    c.count_marked.ensures
    ∙ count_below_same 200 (λ d. slice_index_or c.loop-unit.seen d false) (lies_in regions plan c.args.region)
    (λ d l. subst (λ (n : ℕ). slice_index_or c.loop-unit.seen d false ≡ any_below n (λ u. (slice_index regions u == c.args.region) && (slice_index plan u == d))) all (c.loop-unit.invariant.seen d l))
    ∙ split_is regions plan c.args.region c.requires.lengths c.requires.districts

pub returns-clause-few : goal.returns-clause-few
returns-clause-few c =
    omega (arith, c.count_marked.ensures, count_below_le 200 (λ d. slice_index_or c.loop-unit.seen d false))
