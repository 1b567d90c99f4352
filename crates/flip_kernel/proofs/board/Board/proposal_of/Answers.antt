use Rattle.std.proofs.Common.{ℕ, sym, ap, ◌∙◌, subst}
use Rattle.std.proofs.lemmas.Bool.{cond-true, cond-false}
use Rattle.flip_kernel.specs.ChainState.{ProposesOpen, ChainState}
use Rattle.flip_kernel.proofs.Holding.{up_to_date_for}
use Rattle.flip_kernel.proofs.Proposing.{still_rejected, closed_stays, is_proposed}
use Rattle.flip_kernel.proofs.board.Board.proposal_of.Goals.{then-not-has_open-via-then-not-has_open, then-not-has_open-via-else-not-has_open+then-is_past}
use Rattle.flip_kernel.proofs.board.Board.proposal_of.Goals as goal

pub returns-then-not-has_open : goal.returns-then-not-has_open
returns-then-not-has_open c =
    let s = c.self.inside in
    let now = c.args.self.now in
    let current = up_to_date_for s.job.value now.job s.plan now.plan s.sums s.marks.units s.open_pairs s.pairs s.low s.high s.faces s.counts s.near
    (ap (λ (h : ChainState). h.job) c.self.view_is) (ap (λ (h : ChainState). h.plan) c.self.view_is) c.self.invariant in
    elim c.then-not-has_open.branch [
      | then-not-has_open-via-then-not-has_open w ↦
          closed_stays now.job now.plan s.sums s.marks.units s.open_pairs s.pairs s.low s.high s.faces s.counts s.near current c.args.draw c.rest-place.result c.has_open.result
          c.has_open.ensures
          c.rest-place.ensures w.if-not-has_open.true
      | then-not-has_open-via-else-not-has_open+then-is_past w ↦
          still_rejected now.job now.plan s.sums s.marks.units s.open_pairs s.pairs s.low s.high s.faces s.counts s.near current c.args.draw
          (sym (w.is_past.ensures ∙ cond-true _ _ _ w.if-is_past.true))
    ]

pub returns : goal.returns
returns c =
    let s = c.self.inside in
    let now = c.args.self.now in
    let current = up_to_date_for s.job.value now.job s.plan now.plan s.sums s.marks.units s.open_pairs s.pairs s.low s.high s.faces s.counts s.near
    (ap (λ (h : ChainState). h.job) c.self.view_is) (ap (λ (h : ChainState). h.plan) c.self.view_is) c.self.invariant in
    subst (λ (pair : ℕ × ℕ). ProposesOpen now.job now.plan c.args.draw pair.0 pair.1) (sym c.at.ensures)
    (is_proposed now.job now.plan s.sums s.marks.units s.open_pairs s.pairs s.low s.high s.faces s.counts s.near current c.args.draw c.rest-place.result c.has_open.result
    c.has_open.ensures
    (sym (c.is_past.ensures ∙ cond-false _ _ _ c.if-is_past.false))
    s.pairs.districts current.numbers.districts c.if-not-has_open.false)
