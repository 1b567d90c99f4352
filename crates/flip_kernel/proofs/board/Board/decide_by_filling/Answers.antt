use Rattle.std.proofs.Common.{ℕ, List, length, refl, sym, ap, ◌∙◌, subst, arith}
use Rattle.std.specs.Prelude.{◌↔◌, ⊤, IsTrue, MatchOption}
use Rattle.audit_model.specs.Graph.{Graph}
use Rattle.audit_model.specs.Job.{Job}
use Rattle.audit_model.specs.Local.{MayLeave}
use Rattle.flip_kernel.specs.ChainState.{ChainState}
use Rattle.flip_kernel.proofs.Holding.{up_to_date_for}
use Rattle.flip_kernel.proofs.Leaving.{home_connected}
use Rattle.flip_kernel.proofs.Reading.{counts_for}
use Rattle.flip_kernel.proofs.board.Board.decide_by_filling.Goals as goal

pub fill_holes-decided-requires-clause-made : goal.fill_holes-decided-requires-clause-made
fill_holes-decided-requires-clause-made c =
    c.self.invariant.made ∙ ap (λ (j : Job). j.graph) (ap (λ (h : ChainState). h.job) c.self.view_is ∙ c.requires.made) ∙ sym c.graph.ensures.value

pub fill_holes-decided-requires-clause-counts : goal.fill_holes-decided-requires-clause-counts
fill_holes-decided-requires-clause-counts c =
    let s = c.self.inside in
    let job = c.args.job.now in
    let current = up_to_date_for s.job.value job s.plan s.plan s.sums s.marks.units s.open_pairs s.pairs s.low s.high s.faces s.counts s.near
    (ap (λ (h : ChainState). h.job) c.self.view_is ∙ c.requires.made) refl c.self.invariant in
    counts_for job.graph c.graph.result.now s.plan s.plan job.districts (length s.counts.edges) c.graph.ensures.value refl
    current.counts.edge_places s.faces.faces s.counts current.counts

pub fill_holes-decided-requires-clause-district : goal.fill_holes-decided-requires-clause-district
fill_holes-decided-requires-clause-district c =
    let s = c.self.inside in
    let job = c.args.job.now in
    let current = up_to_date_for s.job.value job s.plan s.plan s.sums s.marks.units s.open_pairs s.pairs s.low s.high s.faces s.counts s.near
    (ap (λ (h : ChainState). h.job) c.self.view_is ∙ c.requires.made) refl c.self.invariant in
    omega (arith, current.counts.edge_places, current.summed.legal.in_range c.args.unit c.requires.unit)

pub fill_holes-decided-requires-clause-connected : goal.fill_holes-decided-requires-clause-connected
fill_holes-decided-requires-clause-connected c =
    let s = c.self.inside in
    let job = c.args.job.now in
    let current = up_to_date_for s.job.value job s.plan s.plan s.sums s.marks.units s.open_pairs s.pairs s.low s.high s.faces s.counts s.near
    (ap (λ (h : ChainState). h.job) c.self.view_is ∙ c.requires.made) refl c.self.invariant in
    home_connected job c.graph.result.now s.plan s.plan c.args.unit c.graph.ensures.value refl current.summed.legal c.requires.unit

pub returns-clause-observed : goal.returns-clause-observed
returns-clause-observed c =
    let plan : List ℕ = c.args.self.now.plan in
    let at = ap (λ (h : ChainState). h.plan) c.self.view_is in
    subst (λ (g : Graph). MatchOption c.fill_holes-decided.result ⊤ (λ may. IsTrue may ↔ MayLeave g plan c.args.unit)) c.graph.ensures.value
    (subst (λ (p : List ℕ). MatchOption c.fill_holes-decided.result ⊤ (λ may. IsTrue may ↔ MayLeave c.graph.result.now p c.args.unit)) at c.fill_holes-decided.ensures.observed)

pub invariant_of-self : goal.invariant_of-self
invariant_of-self c =
    let s = c.self.inside in
    up_to_date_for s.job.value s.job.value s.plan c.fill_holes-decided.new.plan s.sums s.marks.units s.open_pairs s.pairs s.low s.high s.faces s.counts s.near refl
    (sym c.fill_holes-decided.ensures.plan) c.self.invariant
