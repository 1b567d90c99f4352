use Rattle.std.proofs.Common.{◌*◌, ◌<◌, sym, ap, subst, arith}
use Rattle.flip_kernel.specs.ChainState.{ChainState}
use Rattle.flip_kernel.proofs.Holding.{up_to_date_for}
use Rattle.flip_kernel.proofs.board.Board.has_open.Goals as goal

pub has-requires-clause-entry : goal.has-requires-clause-entry
has-requires-clause-entry c = λ stored.
    let s = c.self.inside in
    let inside = subst (λ (h : ChainState). c.args.place < h.job.graph.units * h.job.districts) (sym c.self.view_is) c.requires in
    omega (arith, inside, (c.self.invariant.near stored).width)

pub has-requires-clause-bit : goal.has-requires-clause-bit
has-requires-clause-bit c = λ empty.
    let s = c.self.inside in
    let inside = subst (λ (h : ChainState). c.args.place < h.job.graph.units * h.job.districts) (sym c.self.view_is) c.requires in
    omega (arith, inside, (c.self.invariant.opened empty).width)

pub returns : goal.returns
returns c = λ u d lu ld at.
    let s = c.self.inside in
    let now = c.args.self.now in
    let current = up_to_date_for s.job.value now.job s.plan now.plan s.sums s.marks.units s.open_pairs s.pairs s.low s.high s.faces s.counts s.near
    (ap (λ (h : ChainState). h.job) c.self.view_is) (ap (λ (h : ChainState). h.plan) c.self.view_is) c.self.invariant in
    c.has.ensures now.job.graph now.plan now.job.districts u d current.numbers.sound.within.input.simple lu ld at current.near current.opened
