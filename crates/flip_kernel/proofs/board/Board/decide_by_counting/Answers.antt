use Rattle.std.proofs.Common.{◌<◌, ℕ, true, false, List, length, get_or, refl, sym, ap, ◌∙◌, subst, arith}
use Rattle.std.proofs.lemmas.Bool.{false≢true}
use Rattle.std.specs.Prelude.{◌↔◌, ⊤, IsTrue, MatchOption}
use Rattle.audit_model.specs.Graph.{Graph, IsGraph}
use Rattle.audit_model.specs.Job.{Job}
use Rattle.audit_model.specs.Local.{MayLeave}
use Rattle.flip_kernel.specs.ChainState.{ChainState}
use Rattle.flip_kernel.proofs.Holding.{up_to_date_for}
use Rattle.flip_kernel.proofs.Leaving.{home_connected, leaves_of}
use Rattle.flip_kernel.proofs.LoneMate.{lone_stays}
use Rattle.flip_kernel.proofs.OneMate.{one_leaves}
use Rattle.flip_kernel.proofs.Reading.{near_for, counts_for}
use Rattle.flip_kernel.proofs.board.Board.decide_by_counting.Goals as goal

pub returns-then-has_one_mate-clause-observed : goal.returns-then-has_one_mate-clause-observed
returns-then-has_one_mate-clause-observed c =
    let s = c.self.inside in
    let job = c.args.job.now in
    let plan : List ℕ = c.args.self.now.plan in
    let u : ℕ = c.args.unit in
    let at = ap (λ (h : ChainState). h.plan) c.self.view_is in
    let current = up_to_date_for s.job.value job s.plan plan s.sums s.marks.units s.open_pairs s.pairs s.low s.high s.faces s.counts s.near
    (ap (λ (h : ChainState). h.job) c.self.view_is ∙ c.requires.made) at c.self.invariant in
    let connected = home_connected job c.graph-graph.result.now plan c.as_slice.result.now u c.graph-graph.ensures.value (c.as_slice.ensures ∙ at) current.summed.legal c.requires.unit in
    let inside = subst (λ (g : Graph). u < g.units) (sym c.graph-graph.ensures.value) c.requires.unit in
    let simple = subst IsGraph (sym c.graph-graph.ensures.value) c.graph-graph.ensures.sound.within.input.simple in
    let may = one_leaves c.graph-graph.result.now c.as_slice.result.now u simple inside connected (c.has_one_mate.ensures c.if-has_one_mate.true) in
    leaves_of true c.graph-graph.result.now job.graph c.as_slice.result.now plan u c.graph-graph.ensures.value (c.as_slice.ensures ∙ at) ((λ _. may), (λ _. refl))

pub decide_by_counting-decided-requires-clause-connected : goal.decide_by_counting-decided-requires-clause-connected
decide_by_counting-decided-requires-clause-connected c =
    let s = c.self.inside in
    let job = c.args.job.now in
    let plan : List ℕ = c.args.self.now.plan in
    let at = ap (λ (h : ChainState). h.plan) c.self.view_is in
    let current = up_to_date_for s.job.value job s.plan plan s.sums s.marks.units s.open_pairs s.pairs s.low s.high s.faces s.counts s.near
    (ap (λ (h : ChainState). h.job) c.self.view_is ∙ c.requires.made) at c.self.invariant in
    home_connected job c.graph-graph.result.now plan c.as_slice.result.now c.args.unit c.graph-graph.ensures.value (c.as_slice.ensures ∙ at) current.summed.legal c.requires.unit

pub has_one_mate-requires-clause-home : goal.has_one_mate-requires-clause-home
has_one_mate-requires-clause-home c =
    let s = c.self.inside in
    let job = c.args.job.now in
    let plan : List ℕ = c.args.self.now.plan in
    let at = ap (λ (h : ChainState). h.plan) c.self.view_is in
    let current = up_to_date_for s.job.value job s.plan plan s.sums s.marks.units s.open_pairs s.pairs s.low s.high s.faces s.counts s.near
    (ap (λ (h : ChainState). h.job) c.self.view_is ∙ c.requires.made) at c.self.invariant in
    let home = ap (λ (p : List ℕ). get_or p c.args.unit 0) (c.as_slice.ensures ∙ at) in
    omega (arith, home, current.numbers.districts, current.summed.legal.in_range c.args.unit c.requires.unit)

pub has_one_mate-requires-clause-table : goal.has_one_mate-requires-clause-table
has_one_mate-requires-clause-table c =
    let s = c.self.inside in
    let job = c.args.job.now in
    let plan : List ℕ = c.args.self.now.plan in
    let at = ap (λ (h : ChainState). h.plan) c.self.view_is in
    let current = up_to_date_for s.job.value job s.plan plan s.sums s.marks.units s.open_pairs s.pairs s.low s.high s.faces s.counts s.near
    (ap (λ (h : ChainState). h.job) c.self.view_is ∙ c.requires.made) at c.self.invariant in
    near_for job.graph c.graph-graph.result.now plan c.as_slice.result.now job.districts s.pairs.districts c.graph-graph.ensures.value (c.as_slice.ensures ∙ at) current.numbers.districts
    s.near current.near

pub decide_by_counting-decided-requires-clause-made : goal.decide_by_counting-decided-requires-clause-made
decide_by_counting-decided-requires-clause-made c =
    let s = c.self.inside in
    c.self.invariant.made ∙ ap (λ (j : Job). j.graph) (ap (λ (h : ChainState). h.job) c.self.view_is ∙ c.requires.made) ∙ sym c.graph-graph.ensures.value

pub decide_by_counting-decided-requires-clause-counts : goal.decide_by_counting-decided-requires-clause-counts
decide_by_counting-decided-requires-clause-counts c =
    let s = c.self.inside in
    let job = c.args.job.now in
    let plan : List ℕ = c.args.self.now.plan in
    let at = ap (λ (h : ChainState). h.plan) c.self.view_is in
    let current = up_to_date_for s.job.value job s.plan plan s.sums s.marks.units s.open_pairs s.pairs s.low s.high s.faces s.counts s.near
    (ap (λ (h : ChainState). h.job) c.self.view_is ∙ c.requires.made) at c.self.invariant in
    counts_for job.graph c.graph-graph.result.now plan c.as_slice.result.now job.districts (length s.counts.edges) c.graph-graph.ensures.value (c.as_slice.ensures ∙ at)
    current.counts.edge_places s.faces.faces s.counts current.counts

pub decide_by_counting-decided-requires-clause-district : goal.decide_by_counting-decided-requires-clause-district
decide_by_counting-decided-requires-clause-district c =
    let s = c.self.inside in
    let job = c.args.job.now in
    let plan : List ℕ = c.args.self.now.plan in
    let at = ap (λ (h : ChainState). h.plan) c.self.view_is in
    let current = up_to_date_for s.job.value job s.plan plan s.sums s.marks.units s.open_pairs s.pairs s.low s.high s.faces s.counts s.near
    (ap (λ (h : ChainState). h.job) c.self.view_is ∙ c.requires.made) at c.self.invariant in
    let home = ap (λ (p : List ℕ). get_or p c.args.unit 0) (c.as_slice.ensures ∙ at) in
    omega (arith, home, current.counts.edge_places, current.summed.legal.in_range c.args.unit c.requires.unit)

pub returns-then-is_some-clause-observed : goal.returns-then-is_some-clause-observed
returns-then-is_some-clause-observed c =
    let job = c.args.job.now in
    let plan : List ℕ = c.args.self.now.plan in
    let at = ap (λ (h : ChainState). h.plan) c.self.view_is in
    subst (λ (g : Graph). MatchOption c.decide_by_counting-decided.result ⊤ (λ may. IsTrue may ↔ MayLeave g plan c.args.unit)) c.graph-graph.ensures.value
    (subst (λ (p : List ℕ). MatchOption c.decide_by_counting-decided.result ⊤ (λ may. IsTrue may ↔ MayLeave c.graph-graph.result.now p c.args.unit)) (c.as_slice.ensures ∙ at) c.decide_by_counting-decided.ensures.observed)

pub returns-clause-observed : goal.returns-clause-observed
returns-clause-observed c =
    let s = c.self.inside in
    let g = c.graph-graph.result.now in
    let p : List ℕ = c.as_slice.result.now in
    let u : ℕ = c.args.unit in
    let at = ap (λ (h : ChainState). h.plan) c.self.view_is in
    let inside = subst (λ (g : Graph). u < g.units) (sym c.graph-graph.ensures.value) c.requires.unit in
    let simple = subst IsGraph (sym c.graph-graph.ensures.value) c.graph-graph.ensures.sound.within.input.simple in
    let stays = lone_stays g p u simple inside (c.has_lone_mate.ensures c.if-not-has_lone_mate.false) in
    leaves_of false g c.args.job.now.graph p c.args.self.now.plan u c.graph-graph.ensures.value (c.as_slice.ensures ∙ at)
    ((λ never. absurd (false≢true never)), (λ may. absurd (stays may)))

pub has_lone_mate-requires-clause-home : goal.has_lone_mate-requires-clause-home
has_lone_mate-requires-clause-home c =
    let s = c.self.inside in
    let job = c.args.job.now in
    let plan : List ℕ = c.args.self.now.plan in
    let at = ap (λ (h : ChainState). h.plan) c.self.view_is in
    let current = up_to_date_for s.job.value job s.plan plan s.sums s.marks.units s.open_pairs s.pairs s.low s.high s.faces s.counts s.near
    (ap (λ (h : ChainState). h.job) c.self.view_is ∙ c.requires.made) at c.self.invariant in
    let home = ap (λ (p : List ℕ). get_or p c.args.unit 0) (c.as_slice.ensures ∙ at) in
    omega (arith, home, current.numbers.districts, current.summed.legal.in_range c.args.unit c.requires.unit)

pub has_lone_mate-requires-clause-table : goal.has_lone_mate-requires-clause-table
has_lone_mate-requires-clause-table c =
    let s = c.self.inside in
    let job = c.args.job.now in
    let plan : List ℕ = c.args.self.now.plan in
    let at = ap (λ (h : ChainState). h.plan) c.self.view_is in
    let current = up_to_date_for s.job.value job s.plan plan s.sums s.marks.units s.open_pairs s.pairs s.low s.high s.faces s.counts s.near
    (ap (λ (h : ChainState). h.job) c.self.view_is ∙ c.requires.made) at c.self.invariant in
    near_for job.graph c.graph-graph.result.now plan c.as_slice.result.now job.districts s.pairs.districts c.graph-graph.ensures.value (c.as_slice.ensures ∙ at) current.numbers.districts
    s.near current.near
