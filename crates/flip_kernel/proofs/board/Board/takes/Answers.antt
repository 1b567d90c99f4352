use Rattle.std.proofs.Common.{◌≡◌, ℕ, ◌*◌, List, set, sym, ap, ◌∙◌, subst}
use Rattle.audit_model.specs.declared.setting.Setting.{Setting}
use Rattle.audit_model.specs.Job.{Job}
use Rattle.audit_model.specs.JobOf.{IsJob}
use Rattle.audit_model.specs.Weight.{is_taken}
use Rattle.audit_model.proofs.Mirror.{even_takes}
use Rattle.flip_kernel.specs.ChainState.{ChainState, IsSummed}
use Rattle.flip_kernel.specs.Nearby.{CountsNeighbors}
use Rattle.flip_kernel.proofs.board.Board.takes.Goals as goal

pub returns-then-setting-eq256 : goal.returns-then-setting-eq256
returns-then-setting-eq256 c =
    let job = c.args.flip.job.now in
    let plan : List ℕ = c.args.self.now.plan in
    let even : job.setting.cut_weight ≡ 256 = ap (λ (s : Setting). s.cut_weight) (sym c.setting.ensures.value) ∙ c.if-setting-eq256.true in
    sym (even_takes job plan (set plan c.args.flip.unit c.args.flip.district) c.args.draw even)

pub is_taken_by-requires-clause-sound : goal.is_taken_by-requires-clause-sound
is_taken_by-requires-clause-sound c = subst IsJob (ap (λ (h : ChainState). h.job) c.self.view_is ∙ c.requires.made) c.self.invariant.numbers.sound

pub is_taken_by-requires-clause-blocks : goal.is_taken_by-requires-clause-blocks
is_taken_by-requires-clause-blocks c = c.self.invariant.numbers.blocks

pub is_taken_by-requires-clause-count : goal.is_taken_by-requires-clause-count
is_taken_by-requires-clause-count c =
    c.self.invariant.numbers.count ∙ ap (λ (j : Job). j.graph.units * j.districts) (ap (λ (h : ChainState). h.job) c.self.view_is ∙ c.requires.made)

pub is_taken_by-requires-clause-summed : goal.is_taken_by-requires-clause-summed
is_taken_by-requires-clause-summed c =
    let s = c.self.inside in
    subst (λ (j : Job). IsSummed j s.plan s.sums) (ap (λ (h : ChainState). h.job) c.self.view_is ∙ c.requires.made) c.self.invariant.summed

pub is_taken_by-requires-clause-near : goal.is_taken_by-requires-clause-near
is_taken_by-requires-clause-near c =
    let s = c.self.inside in
    subst (λ (j : Job). CountsNeighbors j.graph s.plan j.districts s.near) (ap (λ (h : ChainState). h.job) c.self.view_is ∙ c.requires.made) c.self.invariant.near

pub is_taken_by-requires-clause-weighted : goal.is_taken_by-requires-clause-weighted
is_taken_by-requires-clause-weighted c = λ even. c.if-setting-eq256.false (ap (λ (s : Setting). s.cut_weight) c.setting.ensures.value ∙ even)

pub returns : goal.returns
returns c =
    let job = c.args.flip.job.now in
    c.is_taken_by.ensures
    ∙ ap (λ (p : List ℕ). is_taken job p (set p c.args.flip.unit c.args.flip.district) c.args.draw) (ap (λ (h : ChainState). h.plan) c.self.view_is)
