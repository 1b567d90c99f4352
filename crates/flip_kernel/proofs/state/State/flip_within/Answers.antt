use Rattle.std.proofs.Common.{ℕ, Bool, List, set, sym, ap, ◌∙◌, subst}
use Rattle.std.specs.Prelude.{◌↔◌, IsTrue}
use Rattle.audit_model.specs.Job.{Job}
use Rattle.audit_model.specs.Local.{IsLocal}
use Rattle.flip_kernel.specs.ChainState.{ChainState, IsMove, IsStep, KeepsBoundsIn}
use Rattle.flip_kernel.specs.Judged.{HasConstraintAt}
use Rattle.flip_kernel.specs.OpenPairs.{is_open}
use Rattle.flip_kernel.proofs.state.State.flip_within.Goals as goal

pub may_move_within-requires-clause-made : goal.may_move_within-requires-clause-made
may_move_within-requires-clause-made g c = ap (λ (h : ChainState). h.job) c.self.view_is ∙ c.requires.made

pub may_move_within-requires-clause-judge : goal.may_move_within-requires-clause-judge
may_move_within-requires-clause-judge g c =
    subst (λ (j : Job). HasConstraintAt j c.self.inside.board.plan (g.J.Judge.judging c.self.inside.judge)) (ap (λ (h : ChainState). h.job) c.self.view_is ∙ c.requires.made) c.self.invariant

pub may_move_within-requires-clause-beside : goal.may_move_within-requires-clause-beside
may_move_within-requires-clause-beside g c =
    let flip = c.args.flip in
    ap (λ (p : List ℕ). is_open flip.job.now.graph p flip.unit flip.district) (ap (λ (h : ChainState). h.plan) c.self.view_is) ∙ c.requires.beside

pub may_move_within-requires-clause-kept : goal.may_move_within-requires-clause-kept
may_move_within-requires-clause-kept g c =
    let flip = c.args.flip in
    subst (λ (p : List ℕ). KeepsBoundsIn flip.job.now p flip.unit flip.district) (sym (ap (λ (h : ChainState). h.plan) c.self.view_is)) c.requires.kept

pub invariant_of-self : goal.invariant_of-self
invariant_of-self g c =
    subst (λ (h : ChainState). HasConstraintAt h.job h.plan (g.J.Judge.judging c.self.inside.judge)) (sym c.may_move_within.ensures.same) c.self.invariant

pub returns-then-not-may_move_within-clause-moves : goal.returns-then-not-may_move_within-clause-moves
returns-then-not-may_move_within-clause-moves g c =
    let flip = c.args.flip in
    subst (λ (b : Bool). IsTrue b ↔ IsStep flip.job.now c.args.self.now.plan c.args.draw flip.unit flip.district) c.if-not-may_move_within.true
    (subst (λ (p : List ℕ). IsTrue c.may_move_within.result ↔ IsStep flip.job.now p c.args.draw flip.unit flip.district) (ap (λ (h : ChainState). h.plan) c.self.view_is) c.may_move_within.ensures.moves)

pub returns-then-not-may_move_within-clause-unchanged : goal.returns-then-not-may_move_within-clause-unchanged
returns-then-not-may_move_within-clause-unchanged g c = λ no. c.may_move_within.ensures.same ∙ c.self.view_is

pub returns-then-not-may_move_within-clause-searches : goal.returns-then-not-may_move_within-clause-searches
returns-then-not-may_move_within-clause-searches g c = c.may_move_within.ensures.searches

pub returns-then-not-may_move_within-clause-local : goal.returns-then-not-may_move_within-clause-local
returns-then-not-may_move_within-clause-local g c = λ close.
    let flip = c.args.flip in
    c.may_move_within.ensures.local (subst (λ (p : List ℕ). IsLocal flip.job.now.graph p flip.unit) (sym (ap (λ (h : ChainState). h.plan) c.self.view_is)) close)

pub invariant_of-self-2 : goal.invariant_of-self-2
invariant_of-self-2 g c =
    subst (λ (h : ChainState). HasConstraintAt h.job h.plan (g.J.Judge.judging c.self.inside.judge)) (sym c.may_move_within.ensures.same) c.self.invariant

pub make_move-requires-clause-made : goal.make_move-requires-clause-made
make_move-requires-clause-made g c = ap (λ (h : ChainState). h.job) (c.may_move_within.ensures.same ∙ c.self.view_is) ∙ c.requires.made

pub make_move-requires-clause-allowed : goal.make_move-requires-clause-allowed
make_move-requires-clause-allowed g c =
    let flip = c.args.flip in
    subst (λ (h : ChainState). IsMove flip.job.now h.plan flip.unit flip.district) (sym c.may_move_within.ensures.same)
    (c.may_move_within.ensures.moves.0 c.if-not-may_move_within.false).move

pub returns-clause-moves : goal.returns-clause-moves
returns-clause-moves g c =
    let flip = c.args.flip in
    subst (λ (b : Bool). IsTrue b ↔ IsStep flip.job.now c.args.self.now.plan c.args.draw flip.unit flip.district) c.if-not-may_move_within.false
    (subst (λ (p : List ℕ). IsTrue c.may_move_within.result ↔ IsStep flip.job.now p c.args.draw flip.unit flip.district) (ap (λ (h : ChainState). h.plan) c.self.view_is) c.may_move_within.ensures.moves)

pub returns-clause-moved : goal.returns-clause-moved
returns-clause-moved g c = λ yes.
    let flip = c.args.flip in
    c.make_move.ensures.unchanged
    ∙ ap (λ (h : ChainState). (let m : ChainState = record { job = h.job; plan = set h.plan flip.unit flip.district } in m)) (c.may_move_within.ensures.same ∙ c.self.view_is)

pub returns-clause-searches : goal.returns-clause-searches
returns-clause-searches g c = c.may_move_within.ensures.searches

pub returns-clause-local : goal.returns-clause-local
returns-clause-local g c = λ close.
    let flip = c.args.flip in
    c.may_move_within.ensures.local (subst (λ (p : List ℕ). IsLocal flip.job.now.graph p flip.unit) (sym (ap (λ (h : ChainState). h.plan) c.self.view_is)) close)
