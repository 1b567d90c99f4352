use Rattle.std.proofs.Common.{◌≡◌, ℕ, List, subst, sym, ◌∙◌}
use Rattle.audit_model.specs.Job.{Job, home_of}
use Rattle.audit_model.specs.Meets.{keeps_frozen}
use Rattle.plan_core.proofs.Judged.{strayed_decides, strayed_same}
use Rattle.plan_core.proofs.job.Job.legal.Goals as goal

pub is_unrefused-requires-clause-keeps : goal.is_unrefused-requires-clause-keeps
is_unrefused-requires-clause-keeps c =
    let plan : List ℕ = c.args.plan.now in
    sym (subst (λ (j : Job). c.keeps_frozen.result ≡ keeps_frozen j.frozen (home_of j.frozen j.start) plan) c.self.view_is c.keeps_frozen.ensures)
    ∙ c.if-not-keeps_frozen.false

pub returns-then-not-keeps_frozen-clause-value : goal.returns-then-not-keeps_frozen-clause-value
returns-then-not-keeps_frozen-clause-value c =
    let plan : List ℕ = c.args.plan.now in
    strayed_same c.args.self.now plan
    (sym (subst (λ (j : Job). c.keeps_frozen.result ≡ keeps_frozen j.frozen (home_of j.frozen j.start) plan) c.self.view_is c.keeps_frozen.ensures)
    ∙ c.if-not-keeps_frozen.true)

pub returns-then-not-keeps_frozen-clause-decides : goal.returns-then-not-keeps_frozen-clause-decides
returns-then-not-keeps_frozen-clause-decides c =
    let plan : List ℕ = c.args.plan.now in
    strayed_decides c.args.self.now plan
    (sym (subst (λ (j : Job). c.keeps_frozen.result ≡ keeps_frozen j.frozen (home_of j.frozen j.start) plan) c.self.view_is c.keeps_frozen.ensures)
    ∙ c.if-not-keeps_frozen.true)
