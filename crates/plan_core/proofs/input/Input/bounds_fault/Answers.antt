use Rattle.std.proofs.Common.{◌≡◌, ℕ, List, ap, ◌∙◌, arith}
use Rattle.audit_model.specs.Job.{Job}
use Rattle.audit_model.specs.District.{district_sum}
use Rattle.plan_core.specs.Input.{with_start}
use Rattle.plan_core.specs.Outside.{first_outside}
use Rattle.plan_core.proofs.Bounded.{outside_is_fault}
use Rattle.plan_core.proofs.input.Input.bounds_fault.Goals as goal

pub returns : goal.returns
returns c =
    let job : Job = c.args.self.now in
    let plan : List ℕ = c.args.plan.now in
    let sums : List ℕ = c.district_sums-populations.result in
    let input = c.self.invariant.within.input in
    let same : c.self.inside.districts ≡ job.districts = ap (λ (j : Job). j.districts) c.self.view_is in
    let column : c.as_slice.result.now ≡ job.counts.population = c.as_slice.ensures ∙ ap (λ (j : Job). j.counts.population) c.self.view_is in
    c.first_outside.ensures
    ∙ ap (λ (n : ℕ). first_outside sums n c.limits-low.result.0 c.limits-low.result.1) same
    ∙ ap (λ (pair : ℕ × ℕ). first_outside sums job.districts pair.0 pair.1) c.limits-low.ensures
    ∙ outside_is_fault (with_start job plan) sums (omega (arith, same, input.two))
    (λ d l. c.district_sums-populations.ensures.sums d (omega (arith, l, same, input.few)) ∙ ap (λ (xs : List ℕ). district_sum xs plan d) column)
