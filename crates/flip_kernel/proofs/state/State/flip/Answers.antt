use Rattle.std.proofs.Common.{◌≡◌, ℕ, false, List, ap, ◌∙◌, subst}
use Rattle.std.specs.Prelude.{◌↔◌, IsTrue}
use Rattle.std.proofs.lemmas.Bool.{false≢true}
use Rattle.audit_model.specs.Job.{Job}
use Rattle.audit_model.specs.JobOf.{IsJob}
use Rattle.audit_model.specs.Plan.{IsLegal}
use Rattle.flip_kernel.specs.ChainState.{ChainState, IsMove}
use Rattle.flip_kernel.specs.OpenPairs.{is_open}
use Rattle.flip_kernel.proofs.Beside.{open_elsewhere}
use Rattle.flip_kernel.proofs.Moves.{not_kept}
use Rattle.flip_kernel.proofs.state.State.flip.Goals as goal

pub returns-then-not-keeps_bounds-clause-moves : goal.returns-then-not-keeps_bounds-clause-moves
returns-then-not-keeps_bounds-clause-moves g c =
    let flip = c.args.flip in
    let job = flip.job.now in
    let old : ChainState = c.self.inside.board in
    let plan : List ℕ = old.plan in
    let made : old.job ≡ job = ap (λ (h : ChainState). h.job) c.self.view_is ∙ c.requires.made in
    let same = ap (λ (h : ChainState). h.plan) c.self.view_is in
    let no : IsTrue false ↔ IsMove job c.args.self.now.plan flip.unit flip.district = subst (λ (p : List ℕ). IsTrue false ↔ IsMove job p flip.unit flip.district) same
    (not_kept job plan flip.unit flip.district (subst IsJob made c.keeps_bounds.ensures.sound)
    (subst (λ (j : Job). IsLegal j plan) made c.keeps_bounds.ensures.legal) flip.unit_below flip.district_below
    (open_elsewhere job.graph plan flip.unit flip.district (ap (λ (p : List ℕ). is_open job.graph p flip.unit flip.district) same ∙ c.requires.beside))
    c.keeps_bounds.result c.if-not-keeps_bounds.true c.keeps_bounds.ensures.value) in
    (λ yes. absurd (false≢true yes), λ step. no.1 step.move)
