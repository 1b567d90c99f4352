use Rattle.std.proofs.Common.{◌≡◌, ℕ, List, true, sym, subst}
use Rattle.std.specs.Prelude.{◌↔◌, slice_index}
use Rattle.audit_model.specs.Graph.{Graph}
use Rattle.audit_model.specs.District.{in_district}
use Rattle.audit_model.specs.Local.{IsLocal, MayLeave}
use Rattle.audit_model.specs.Path.{IsConnected}
use Rattle.contig.proofs.leave.may_leave.Goals as goal

pub returns-clause-leaves : goal.returns-clause-leaves
returns-clause-leaves g c =
    let may : Graph → List ℕ → ℕ → Type 0 =
    λ h p v. IsConnected h (in_district p (slice_index p v)) → (c.can_leave.result ≡ true) ↔ MayLeave h p v in
    let m = c.member.result in
    subst (λ (h : Graph). may h c.args.plan.now c.args.unit) c.member.ensures.graph
    (subst (λ (p : List ℕ). may m.graph.now p c.args.unit) c.member.ensures.plan (subst (λ (v : ℕ). may m.graph.now m.plan.now v) c.member.ensures.unit c.can_leave.ensures.leaves))

pub returns-clause-local : goal.returns-clause-local
returns-clause-local g c local =
    let m = c.member.result in
    c.can_leave.ensures.local (subst (λ (h : Graph). IsLocal h m.plan.now m.unit) (sym c.member.ensures.graph)
    (subst (λ (p : List ℕ). IsLocal c.args.graph.now p m.unit) (sym c.member.ensures.plan) (subst (λ (v : ℕ). IsLocal c.args.graph.now c.args.plan.now v) (sym c.member.ensures.unit) local)))
