use Rattle.std.proofs.Common.{◌≡◌, ℕ, ◌<◌, Bool, List, length, get_or, set, sym, ap, ◌∙◌, subst, arith}
use Rattle.audit_model.specs.Graph.{Graph}
use Rattle.audit_model.specs.Job.{Job}
use Rattle.district_sums.specs.Following.{StandsFor, count_near}
use Rattle.flip_kernel.specs.ChainState.{ChainState, IsSummed}
use Rattle.flip_kernel.specs.OpenPairs.{is_open, MarksOpenPairs}
use Rattle.flip_kernel.proofs.Holding.{up_to_date_for, put_back}
use Rattle.flip_kernel.proofs.Moves.{left_is_open}
use Rattle.flip_kernel.proofs.Reading.{near_for, counts_for, opened_for}
use Rattle.flip_kernel.proofs.board.Board.make_move.Goals as goal

-- equal graphs, plans and numbers of districts share a table
table_of : (g h : Graph) (p q : List ℕ) (m n : ℕ) (table : List Bool) → g ≡ h → p ≡ q → m ≡ n → MarksOpenPairs g p m table → MarksOpenPairs h q n table
table_of g h p q m n table eg ep em is =
    subst (λ (x : Graph). MarksOpenPairs x q n table) eg (subst (λ (x : List ℕ). MarksOpenPairs g x n table) ep (subst (λ (x : ℕ). MarksOpenPairs g p x table) em is))

pub update-requires-clause-table : goal.update-requires-clause-table
update-requires-clause-table c = λ empty.
    let s = c.self.inside in
    let same : s.job.value ≡ c.args.flip.job.now = ap (λ (h : ChainState). h.job) c.self.view_is ∙ c.requires.made in
    let back = put_back s.plan c.as_slice-3.result.now c.args.flip.unit c.args.flip.district _ (c.as_slice-3.ensures ∙ c.shift.ensures.plan) (ap (λ (p : List ℕ). get_or p c.args.flip.unit 0) c.as_slice.ensures) in
    table_of s.job.value.graph c.graph-graph.result.now s.plan _ s.job.value.districts s.pairs.districts s.open_pairs
    (ap (λ (j : Job). j.graph) same ∙ sym c.graph-graph.ensures.value) (sym back) (sym c.self.invariant.numbers.districts)
    (c.self.invariant.opened (sym c.follow-2.ensures.width ∙ empty))

pub update-requires-clause-beside : goal.update-requires-clause-beside
update-requires-clause-beside c =
    let s = c.self.inside in
    let flip = c.args.flip in
    let job = flip.job.now in
    let plan : List ℕ = c.args.self.now.plan in
    let at = ap (λ (h : ChainState). h.plan) c.self.view_is in
    let current = up_to_date_for s.job.value job s.plan plan s.sums s.marks.units s.open_pairs s.pairs s.low s.high s.faces s.counts s.near
    (ap (λ (h : ChainState). h.job) c.self.view_is ∙ c.requires.made) at c.self.invariant in
    ap (λ (g : Graph). is_open g c.as_slice-3.result.now flip.unit (get_or c.as_slice.result.now flip.unit 0)) c.graph-graph.ensures.value
    ∙ ap (λ (p : List ℕ). is_open job.graph p flip.unit (get_or c.as_slice.result.now flip.unit 0))
    (c.as_slice-3.ensures ∙ c.shift.ensures.plan ∙ ap (λ (p : List ℕ). set p flip.unit flip.district) at)
    ∙ ap (λ (p : List ℕ). is_open job.graph (set plan flip.unit flip.district) flip.unit (get_or p flip.unit 0)) (c.as_slice.ensures ∙ at)
    ∙ left_is_open job plan flip.unit flip.district current.numbers.sound current.summed.legal flip.unit_below flip.district_below c.requires.allowed

pub mates-mates-requires-clause-one : goal.mates-mates-requires-clause-one
mates-mates-requires-clause-one c =
    let s = c.self.inside in
    let flip = c.args.flip in
    let job = flip.job.now in
    let plan : List ℕ = c.args.self.now.plan in
    let at = ap (λ (h : ChainState). h.plan) c.self.view_is in
    let current = up_to_date_for s.job.value job s.plan plan s.sums s.marks.units s.open_pairs s.pairs s.low s.high s.faces s.counts s.near
    (ap (λ (h : ChainState). h.job) c.self.view_is ∙ c.requires.made) at c.self.invariant in
    let home = ap (λ (p : List ℕ). get_or p flip.unit 0) (c.as_slice.ensures ∙ at) in
    omega (arith, home, current.numbers.districts, current.summed.legal.in_range flip.unit flip.unit_below)

pub mates-mates-requires-clause-table : goal.mates-mates-requires-clause-table
mates-mates-requires-clause-table c =
    let s = c.self.inside in
    let flip = c.args.flip in
    let job = flip.job.now in
    let plan : List ℕ = c.args.self.now.plan in
    let at = ap (λ (h : ChainState). h.plan) c.self.view_is in
    let current = up_to_date_for s.job.value job s.plan plan s.sums s.marks.units s.open_pairs s.pairs s.low s.high s.faces s.counts s.near
    (ap (λ (h : ChainState). h.job) c.self.view_is ∙ c.requires.made) at c.self.invariant in
    near_for job.graph c.graph-graph.result.now plan c.as_slice-2.result.now job.districts s.pairs.districts c.graph-graph.ensures.value (c.as_slice-2.ensures ∙ at)
    current.numbers.districts s.near current.near

pub follow-requires-clause-home : goal.follow-requires-clause-home
follow-requires-clause-home c =
    let s = c.self.inside in
    let flip = c.args.flip in
    let job = flip.job.now in
    let plan : List ℕ = c.args.self.now.plan in
    let at = ap (λ (h : ChainState). h.plan) c.self.view_is in
    let current = up_to_date_for s.job.value job s.plan plan s.sums s.marks.units s.open_pairs s.pairs s.low s.high s.faces s.counts s.near
    (ap (λ (h : ChainState). h.job) c.self.view_is ∙ c.requires.made) at c.self.invariant in
    let home = ap (λ (p : List ℕ). get_or p flip.unit 0) (c.as_slice-2.ensures ∙ at) in
    omega (arith, home, current.counts.edge_places, current.summed.legal.in_range flip.unit flip.unit_below)

pub follow-requires-clause-home_mates : goal.follow-requires-clause-home_mates
follow-requires-clause-home_mates c =
    let flip = c.args.flip in
    c.mates-mates.ensures.one
    ∙ ap (λ (d : ℕ). count_near c.graph-graph.result.now c.as_slice-2.result.now flip.unit d) (ap (λ (p : List ℕ). get_or p flip.unit 0) (c.as_slice.ensures ∙ sym c.as_slice-2.ensures))

pub follow-requires-clause-counts : goal.follow-requires-clause-counts
follow-requires-clause-counts c =
    let s = c.self.inside in
    let flip = c.args.flip in
    let job = flip.job.now in
    let plan : List ℕ = c.args.self.now.plan in
    let at = ap (λ (h : ChainState). h.plan) c.self.view_is in
    let current = up_to_date_for s.job.value job s.plan plan s.sums s.marks.units s.open_pairs s.pairs s.low s.high s.faces s.counts s.near
    (ap (λ (h : ChainState). h.job) c.self.view_is ∙ c.requires.made) at c.self.invariant in
    counts_for job.graph c.graph-graph.result.now plan c.as_slice-2.result.now job.districts (length s.counts.edges) c.graph-graph.ensures.value (c.as_slice-2.ensures ∙ at)
    current.counts.edge_places s.faces.faces s.counts current.counts

pub follow-requires-2-clause-in_range : goal.follow-requires-2-clause-in_range
follow-requires-2-clause-in_range c =
    let s = c.self.inside in
    let flip = c.args.flip in
    let job = flip.job.now in
    let plan : List ℕ = c.args.self.now.plan in
    let at = ap (λ (h : ChainState). h.plan) c.self.view_is in
    let current = up_to_date_for s.job.value job s.plan plan s.sums s.marks.units s.open_pairs s.pairs s.low s.high s.faces s.counts s.near
    (ap (λ (h : ChainState). h.job) c.self.view_is ∙ c.requires.made) at c.self.invariant in
    λ v l.
    let here = ap (λ (p : List ℕ). get_or p v 0) (c.as_slice-2.ensures ∙ at) in
    omega (arith, here, current.numbers.districts, current.summed.legal.in_range v (subst (λ (g : Graph). v < g.units) c.graph-graph.ensures.value l))

pub follow-requires-2-clause-table : goal.follow-requires-2-clause-table
follow-requires-2-clause-table c =
    let s = c.self.inside in
    let flip = c.args.flip in
    let job = flip.job.now in
    let plan : List ℕ = c.args.self.now.plan in
    let at = ap (λ (h : ChainState). h.plan) c.self.view_is in
    let current = up_to_date_for s.job.value job s.plan plan s.sums s.marks.units s.open_pairs s.pairs s.low s.high s.faces s.counts s.near
    (ap (λ (h : ChainState). h.job) c.self.view_is ∙ c.requires.made) at c.self.invariant in
    near_for job.graph c.graph-graph.result.now plan c.as_slice-2.result.now job.districts s.pairs.districts c.graph-graph.ensures.value (c.as_slice-2.ensures ∙ at)
    current.numbers.districts s.near current.near

pub shift-requires-clause-summed : goal.shift-requires-clause-summed
shift-requires-clause-summed c =
    let s = c.self.inside in
    subst (λ (j : Job). IsSummed j s.plan s.sums) (ap (λ (h : ChainState). h.job) c.self.view_is ∙ c.requires.made) c.self.invariant.summed

pub shift-requires-clause-home_mates : goal.shift-requires-clause-home_mates
shift-requires-clause-home_mates c =
    let s = c.self.inside in
    let u : ℕ = c.args.flip.unit in
    let p : List ℕ = c.as_slice-2.result.now in
    c.mates-mates.ensures.one
    ∙ ap (λ (d : ℕ). count_near c.graph-graph.result.now p u d) (ap (λ (x : List ℕ). get_or x u 0) c.as_slice.ensures)
    ∙ ap (λ (g : Graph). count_near g p u (get_or s.plan u 0)) c.graph-graph.ensures.value
    ∙ ap (λ (x : List ℕ). count_near c.args.flip.job.now.graph x u (get_or s.plan u 0)) c.as_slice-2.ensures

pub shift-requires-clause-other_mates : goal.shift-requires-clause-other_mates
shift-requires-clause-other_mates c =
    let flip = c.args.flip in
    c.mates-mates.ensures.other
    ∙ ap (λ (g : Graph). count_near g c.as_slice-2.result.now flip.unit flip.district) c.graph-graph.ensures.value
    ∙ ap (λ (x : List ℕ). count_near flip.job.now.graph x flip.unit flip.district) c.as_slice-2.ensures

pub update-requires-clause-in_range : goal.update-requires-clause-in_range
update-requires-clause-in_range c =
    let s = c.self.inside in
    let flip = c.args.flip in
    let job = flip.job.now in
    let plan : List ℕ = c.args.self.now.plan in
    let at = ap (λ (h : ChainState). h.plan) c.self.view_is in
    let current = up_to_date_for s.job.value job s.plan plan s.sums s.marks.units s.open_pairs s.pairs s.low s.high s.faces s.counts s.near
    (ap (λ (h : ChainState). h.job) c.self.view_is ∙ c.requires.made) at c.self.invariant in
    λ v l.
    let here = ap (λ (p : List ℕ). get_or p v 0) (c.as_slice-3.ensures ∙ c.shift.ensures.plan ∙ ap (λ (p : List ℕ). set p flip.unit flip.district) at) in
    omega (arith, here, current.numbers.districts, c.requires.allowed.legal.in_range v (subst (λ (g : Graph). v < g.units) c.graph-graph.ensures.value l))

pub update-requires-clause-home : goal.update-requires-clause-home
update-requires-clause-home c =
    let s = c.self.inside in
    let flip = c.args.flip in
    let job = flip.job.now in
    let plan : List ℕ = c.args.self.now.plan in
    let at = ap (λ (h : ChainState). h.plan) c.self.view_is in
    let current = up_to_date_for s.job.value job s.plan plan s.sums s.marks.units s.open_pairs s.pairs s.low s.high s.faces s.counts s.near
    (ap (λ (h : ChainState). h.job) c.self.view_is ∙ c.requires.made) at c.self.invariant in
    let home = ap (λ (p : List ℕ). get_or p flip.unit 0) (c.as_slice.ensures ∙ at) in
    omega (arith, home, current.numbers.districts, current.summed.legal.in_range flip.unit flip.unit_below)

pub invariant_of-self : goal.invariant_of-self
invariant_of-self c =
    let s = c.self.inside in
    let flip = c.args.flip in
    let job = flip.job.now in
    let plan : List ℕ = c.args.self.now.plan in
    let at = ap (λ (h : ChainState). h.plan) c.self.view_is in
    let current = up_to_date_for s.job.value job s.plan plan s.sums s.marks.units s.open_pairs s.pairs s.low s.high s.faces s.counts s.near
    (ap (λ (h : ChainState). h.job) c.self.view_is ∙ c.requires.made) at c.self.invariant in
    let after : List ℕ = set plan flip.unit flip.district in
    let g = c.graph-graph.result.now in
    let graphs : job.graph ≡ g = sym c.graph-graph.ensures.value in
    let left : List ℕ = set c.as_slice-2.result.now flip.unit flip.district in
    let lefts : after ≡ left = ap (λ (p : List ℕ). set p flip.unit flip.district) (sym (c.as_slice-2.ensures ∙ at)) in
    let put : c.shift.new.plan ≡ after = c.shift.ensures.plan ∙ ap (λ (p : List ℕ). set p flip.unit flip.district) at in
    up_to_date_for job s.job.value after c.shift.new.plan c.shift.new.sums s.marks.units c.update.new.self s.pairs s.low s.high s.faces c.follow.new.self c.follow-2.new.self
    (sym (ap (λ (h : ChainState). h.job) c.self.view_is ∙ c.requires.made)) (sym put)
    (record {
      summed = record {
        legal = c.requires.allowed.legal;
        places = c.shift.ensures.places;
        stands = subst (λ (p : List ℕ). StandsFor job.graph job.counts p c.shift.new.sums) put c.shift.ensures.stands;
      };
      marked = current.marked;
      opened = λ empty.
          opened_for g job.graph c.as_slice-3.result.now after s.pairs.districts job.districts graphs (sym (c.as_slice-3.ensures ∙ put)) (sym current.numbers.districts)
          c.update.new.self (c.update.ensures empty);
      numbers = current.numbers;
      made = current.made;
      counts = counts_for g job.graph left after (length s.counts.edges) job.districts graphs lefts (sym current.counts.edge_places) s.faces.faces c.follow.new.self c.follow.ensures;
      near = near_for g job.graph left after s.pairs.districts job.districts graphs lefts (sym current.numbers.districts) c.follow-2.new.self c.follow-2.ensures.counts;
    })
