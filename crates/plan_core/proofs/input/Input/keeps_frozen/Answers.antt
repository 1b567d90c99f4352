use Rattle.std.proofs.Common.{ℕ, ◌≤◌, List, length, sym, ap, ◌∙◌, subst, arith}
use Rattle.audit_model.specs.declared.rules.Rules.{Rules}
use Rattle.audit_model.specs.Job.{Job, home_of}
use Rattle.audit_model.specs.Meets.{keeps_frozen}
use Rattle.plan_core.proofs.Freezing.{frozen_few, frozen_home}
use Rattle.plan_core.proofs.input.Input.keeps_frozen.Goals as goal

pub keeps_frozen-requires-clause-homes : goal.keeps_frozen-requires-clause-homes
keeps_frozen-requires-clause-homes c =
    subst (λ (r : Rules). length r.frozen ≤ length r.home) (sym c.self.invariant.ruled) (frozen_home _ c.self.invariant.within)

pub keeps_frozen-requires-clause-entries : goal.keeps_frozen-requires-clause-entries
keeps_frozen-requires-clause-entries c =
    let units = ap (λ (j : Job). j.graph.units) c.self.view_is in
    let few = frozen_few _ _ c.self.invariant.within.frozen in
    omega (arith, units, few, c.requires)

pub returns : goal.returns
returns c =
    let plan : List ℕ = c.args.plan.now in
    c.keeps_frozen.ensures ∙ ap (λ (r : Rules). keeps_frozen r.frozen r.home plan) c.self.invariant.ruled
    ∙ ap (λ (j : Job). keeps_frozen j.frozen (home_of j.frozen j.start) plan) c.self.view_is
