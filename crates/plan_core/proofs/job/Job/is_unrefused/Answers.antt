use Rattle.std.proofs.Common.{◌≡◌, ℕ, List, subst}
use Rattle.audit_model.specs.Job.{Job}
use Rattle.audit_model.specs.JobOf.{bounds_fault}
use Rattle.plan_core.specs.Input.{with_start, shape_fault}
use Rattle.plan_core.proofs.Judged.{keeps_of, refused_decides, refused_same, attempted_decides, attempted_same}
use Rattle.plan_core.proofs.job.Job.is_unrefused.Goals as goal

pub returns-then-is_none-clause-value : goal.returns-then-is_none-clause-value
returns-then-is_none-clause-value c =
    let job : Job = c.args.self.now in
    let plan : List ℕ = c.args.plan.now in
    let bounds : c.bounds_fault.result ≡ bounds_fault (with_start job plan) = subst (λ (j : Job). c.bounds_fault.result ≡ bounds_fault (with_start j plan)) c.self.view_is c.bounds_fault.ensures in
    let paths : c.shape_fault.result ≡ shape_fault (with_start job plan) = subst (λ (j : Job). c.shape_fault.result ≡ shape_fault (with_start j plan)) c.self.view_is c.shape_fault.ensures.fault in
    attempted_same job plan c.requires.complete c.requires.in_range (keeps_of job plan c.requires.keeps) c.bounds_fault.result bounds c.is_none.result c.is_none.ensures c.if-is_none.true
    c.shape_fault.result paths c.is_none-then-is_none.result c.is_none-then-is_none.ensures

pub returns-then-is_none-clause-decides : goal.returns-then-is_none-clause-decides
returns-then-is_none-clause-decides c =
    let job : Job = c.args.self.now in
    let plan : List ℕ = c.args.plan.now in
    let bounds : c.bounds_fault.result ≡ bounds_fault (with_start job plan) = subst (λ (j : Job). c.bounds_fault.result ≡ bounds_fault (with_start j plan)) c.self.view_is c.bounds_fault.ensures in
    let paths : c.shape_fault.result ≡ shape_fault (with_start job plan) = subst (λ (j : Job). c.shape_fault.result ≡ shape_fault (with_start j plan)) c.self.view_is c.shape_fault.ensures.fault in
    attempted_decides job plan c.requires.complete c.requires.in_range (keeps_of job plan c.requires.keeps) c.bounds_fault.result bounds c.is_none.result c.is_none.ensures c.if-is_none.true
    c.shape_fault.result paths c.is_none-then-is_none.result c.is_none-then-is_none.ensures

pub returns-else-is_none-clause-value : goal.returns-else-is_none-clause-value
returns-else-is_none-clause-value c =
    let job : Job = c.args.self.now in
    let plan : List ℕ = c.args.plan.now in
    let bounds : c.bounds_fault.result ≡ bounds_fault (with_start job plan) = subst (λ (j : Job). c.bounds_fault.result ≡ bounds_fault (with_start j plan)) c.self.view_is c.bounds_fault.ensures in
    refused_same job plan c.requires.complete c.requires.in_range (keeps_of job plan c.requires.keeps) c.bounds_fault.result bounds c.is_none.result c.is_none.ensures c.if-is_none.false

pub returns-else-is_none-clause-decides : goal.returns-else-is_none-clause-decides
returns-else-is_none-clause-decides c =
    let job : Job = c.args.self.now in
    let plan : List ℕ = c.args.plan.now in
    let bounds : c.bounds_fault.result ≡ bounds_fault (with_start job plan) = subst (λ (j : Job). c.bounds_fault.result ≡ bounds_fault (with_start j plan)) c.self.view_is c.bounds_fault.ensures in
    refused_decides job plan c.requires.complete c.requires.in_range (keeps_of job plan c.requires.keeps) c.bounds_fault.result bounds c.is_none.result c.is_none.ensures c.if-is_none.false
