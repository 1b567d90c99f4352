use Rattle.std.proofs.Common.{◌≡◌, ℕ, false, List, sym, ap, ◌∙◌, subst}
use Rattle.std.specs.Prelude.{◌↔◌, IsTrue}
use Rattle.std.proofs.lemmas.Bool.{false≢true}
use Rattle.audit_model.specs.Job.{Job}
use Rattle.audit_model.specs.JobOf.{IsJob}
use Rattle.audit_model.specs.Local.{IsLocal}
use Rattle.audit_model.specs.Plan.{IsLegal}
use Rattle.flip_kernel.specs.ChainState.{ChainState, IsMove, IsStep}
use Rattle.flip_kernel.specs.Judged.{HasConstraintAt}
use Rattle.flip_kernel.specs.OpenPairs.{is_open}
use Rattle.flip_kernel.proofs.Beside.{open_elsewhere}
use Rattle.flip_kernel.proofs.Moves.{not_kept}
use Rattle.flip_kernel.proofs.state.State.may_move.Goals as goal

pub returns-then-not-keeps_bounds-clause-moves : goal.returns-then-not-keeps_bounds-clause-moves
returns-then-not-keeps_bounds-clause-moves g c =
    let flip = c.args.flip in
    let job = flip.job.now in
    let old : ChainState = c.self.inside.board in
    let plan : List ℕ = old.plan in
    let made : old.job ≡ job = ap (λ (h : ChainState). h.job) c.self.view_is ∙ c.requires.made in
    let same = ap (λ (h : ChainState). h.plan) c.self.view_is in
    let no : IsTrue false ↔ IsMove job c.args.self.now.plan flip.unit flip.district = subst (λ (p : List ℕ). IsTrue false ↔ IsMove job p flip.unit flip.district) same
    (not_kept job plan flip.unit flip.district (subst IsJob made c.keeps_bounds.ensures.sound)
    (subst (λ (j : Job). IsLegal j plan) made c.keeps_bounds.ensures.legal) flip.unit_below flip.district_below
    (open_elsewhere job.graph plan flip.unit flip.district (ap (λ (p : List ℕ). is_open job.graph p flip.unit flip.district) same ∙ c.requires.beside))
    c.keeps_bounds.result c.if-not-keeps_bounds.true c.keeps_bounds.ensures.value) in
    (λ yes. absurd (false≢true yes), λ step. no.1 step.move)

pub keeps_bounds-requires-clause-made : goal.keeps_bounds-requires-clause-made
keeps_bounds-requires-clause-made g c = ap (λ (h : ChainState). h.job) c.self.view_is ∙ c.requires.made

pub keeps_bounds-requires-clause-elsewhere : goal.keeps_bounds-requires-clause-elsewhere
keeps_bounds-requires-clause-elsewhere g c =
    let flip = c.args.flip in
    let job = flip.job.now in
    let plan : List ℕ = c.self.inside.board.plan in
    let same = ap (λ (h : ChainState). h.plan) c.self.view_is in
    open_elsewhere job.graph plan flip.unit flip.district (ap (λ (p : List ℕ). is_open job.graph p flip.unit flip.district) same ∙ c.requires.beside)

pub may_move_within-requires-clause-made : goal.may_move_within-requires-clause-made
may_move_within-requires-clause-made g c = ap (λ (h : ChainState). h.job) c.self.view_is ∙ c.requires.made

pub may_move_within-requires-clause-judge : goal.may_move_within-requires-clause-judge
may_move_within-requires-clause-judge g c =
    subst (λ (j : Job). HasConstraintAt j c.self.inside.board.plan (g.J.Judge.judging c.self.inside.judge)) (ap (λ (h : ChainState). h.job) c.self.view_is ∙ c.requires.made) c.self.invariant

pub may_move_within-requires-clause-beside : goal.may_move_within-requires-clause-beside
may_move_within-requires-clause-beside g c =
    let flip = c.args.flip in
    ap (λ (p : List ℕ). is_open flip.job.now.graph p flip.unit flip.district) (ap (λ (h : ChainState). h.plan) c.self.view_is) ∙ c.requires.beside

pub may_move_within-requires-clause-kept : goal.may_move_within-requires-clause-kept
may_move_within-requires-clause-kept g c = c.keeps_bounds.ensures.value.0 c.if-not-keeps_bounds.false

pub invariant_of-self : goal.invariant_of-self
invariant_of-self g c =
    subst (λ (h : ChainState). HasConstraintAt h.job h.plan (g.J.Judge.judging c.self.inside.judge)) (sym c.may_move_within.ensures.same) c.self.invariant

pub returns-clause-moves : goal.returns-clause-moves
returns-clause-moves g c =
    let flip = c.args.flip in
    subst (λ (p : List ℕ). IsTrue c.may_move_within.result ↔ IsStep flip.job.now p c.args.draw flip.unit flip.district) (ap (λ (h : ChainState). h.plan) c.self.view_is) c.may_move_within.ensures.moves

pub returns-clause-same : goal.returns-clause-same
returns-clause-same g c = c.may_move_within.ensures.same ∙ c.self.view_is

pub returns-clause-searches : goal.returns-clause-searches
returns-clause-searches g c = c.may_move_within.ensures.searches

pub returns-clause-local : goal.returns-clause-local
returns-clause-local g c = λ close.
    let flip = c.args.flip in
    c.may_move_within.ensures.local (subst (λ (p : List ℕ). IsLocal flip.job.now.graph p flip.unit) (sym (ap (λ (h : ChainState). h.plan) c.self.view_is)) close)
