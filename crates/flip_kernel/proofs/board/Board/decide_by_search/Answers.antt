use Rattle.std.proofs.Common.{ℕ, List, ap, ◌∙◌}
use Rattle.flip_kernel.specs.ChainState.{ChainState}
use Rattle.flip_kernel.proofs.Holding.{up_to_date_for}
use Rattle.flip_kernel.proofs.Leaving.{home_connected, leaves_of}
use Rattle.flip_kernel.proofs.board.Board.decide_by_search.Goals as goal

pub returns-clause-leaves : goal.returns-clause-leaves
returns-clause-leaves g c =
    let s = c.self.inside in
    let job = c.args.job.now in
    let plan : List ℕ = c.args.self.now.plan in
    let at = ap (λ (h : ChainState). h.plan) c.self.view_is in
    let current = up_to_date_for s.job.value job s.plan plan s.sums s.marks.units s.open_pairs s.pairs s.low s.high s.faces s.counts s.near
    (ap (λ (h : ChainState). h.job) c.self.view_is ∙ c.requires.made) at c.self.invariant in
    leaves_of c.may_leave.result c.graph.result.now job.graph c.as_slice.result.now plan c.args.unit c.graph.ensures.value (c.as_slice.ensures ∙ at)
    (c.may_leave.ensures.leaves
    (home_connected job c.graph.result.now plan c.as_slice.result.now c.args.unit c.graph.ensures.value (c.as_slice.ensures ∙ at) current.summed.legal c.requires.unit))
