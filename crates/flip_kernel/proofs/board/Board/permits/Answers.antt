use Rattle.std.proofs.Common.{◌≡◌, ℕ, true, List, set, sym, ap, ◌∙◌, subst, arith}
use Rattle.audit_model.specs.declared.rules.Rules.{Rules}
use Rattle.audit_model.specs.Job.{Job}
use Rattle.audit_model.specs.JobOf.{IsJob}
use Rattle.audit_model.specs.Meets.{meets_rules}
use Rattle.audit_model.specs.Plan.{cut_edges}
use Rattle.audit_model.proofs.Meeting.{cut_edges_few}
use Rattle.district_sums.specs.Following.{Following}
use Rattle.flip_kernel.specs.ChainState.{ChainState, IsSummed, IsUpToDate}
use Rattle.flip_kernel.specs.Judged.{HasConstraintAt}
use Rattle.flip_kernel.specs.Nearby.{CountsNeighbors}
use Rattle.flip_kernel.proofs.board.Board.permits.Goals as goal

pub returns-then-limits_nothing-clause-meets : goal.returns-then-limits_nothing-clause-meets
returns-then-limits_nothing-clause-meets g c =
    let job = c.args.flip.job.now in
    let after : List ℕ = set c.args.self.now.plan c.args.flip.unit c.args.flip.district in
    let sound = subst IsJob (ap (λ (h : ChainState). h.job) c.self.view_is ∙ c.requires.made) c.self.invariant.numbers.sound in
    let cut : ℕ = cut_edges job.graph after in
    sym (subst (λ (r : Rules). meets_rules r cut after ≡ true) c.requires.judge.fit.ruled
    (c.limits_nothing.ensures.meets c.if-limits_nothing.true cut after (omega (arith, cut_edges_few job.graph after, sound.within.input.edges))))

pub is_permitted-requires-clause-summed : goal.is_permitted-requires-clause-summed
is_permitted-requires-clause-summed g c =
    let s = c.self.inside in
    subst (λ (j : Job). IsSummed j s.plan s.sums) (ap (λ (h : ChainState). h.job) c.self.view_is ∙ c.requires.made) c.self.invariant.summed

pub is_permitted-requires-clause-near : goal.is_permitted-requires-clause-near
is_permitted-requires-clause-near g c =
    let s = c.self.inside in
    subst (λ (j : Job). CountsNeighbors j.graph s.plan j.districts s.near) (ap (λ (h : ChainState). h.job) c.self.view_is ∙ c.requires.made) c.self.invariant.near

pub is_permitted-requires-clause-judge : goal.is_permitted-requires-clause-judge
is_permitted-requires-clause-judge g c =
    subst (λ (p : List ℕ). HasConstraintAt c.args.flip.job.now p (g.J.Judge.judging c.args.judge.now)) (sym (ap (λ (h : ChainState). h.plan) c.self.view_is)) c.requires.judge

pub invariant_of-self : goal.invariant_of-self
invariant_of-self g c =
    let s = c.self.inside in
    subst (λ (p : List ℕ). IsUpToDate s.job.value p c.is_permitted.new.sums s.marks.units s.open_pairs s.pairs s.low s.high s.faces s.counts s.near) (sym c.is_permitted.ensures.plan)
    (subst (λ (t : Following). IsUpToDate s.job.value s.plan t s.marks.units s.open_pairs s.pairs s.low s.high s.faces s.counts s.near) (sym c.is_permitted.ensures.sums) c.self.invariant)
