use Rattle.std.proofs.Common.{ℕ, List, length, get_or, ap, ◌∙◌, arith}
use Rattle.audit_model.specs.declared.outcome.Counts.{Counts}
use Rattle.audit_model.specs.declared.outcome.SumsView.{SumsView}
use Rattle.flip_kernel.specs.ChainState.{ChainState}
use Rattle.flip_kernel.proofs.Holding.{up_to_date_for, population_at, keeps_same, greatest_small}
use Rattle.flip_kernel.proofs.Moves.{people_fit}
use Rattle.flip_kernel.proofs.board.Board.keeps_bounds.Goals as goal

pub are_kept-requires : goal.are_kept-requires
are_kept-requires c =
    let s = c.self.inside in
    let job = c.args.flip.job.now in
    let plan : List ℕ = c.args.self.now.plan in
    let populations : List ℕ = c.as_slice-populations.result.now in
    let at = ap (λ (h : ChainState). h.plan) c.self.view_is in
    let current = up_to_date_for s.job.value job s.plan plan s.sums s.marks.units s.open_pairs s.pairs s.low s.high s.faces s.counts s.near
    (ap (λ (h : ChainState). h.job) c.self.view_is ∙ c.requires.made) at c.self.invariant in
    let people = ap (λ (xs : List ℕ). get_or xs c.args.flip.unit 0) (c.as_slice.ensures ∙ ap (λ (k : Counts). k.population) c.counts.ensures.value) in
    let home = ap (λ (p : List ℕ). get_or p c.args.flip.unit 0) (c.as_slice-2.ensures ∙ at) in
    let from = population_at job plan s.sums s.marks.units s.open_pairs s.pairs s.low s.high s.faces s.counts s.near current c.view.result.now populations (get_or plan c.args.flip.unit 0)
    c.view.ensures c.as_slice-populations.ensures (current.summed.legal.in_range c.args.flip.unit c.args.flip.unit_below) in
    let to = population_at job plan s.sums s.marks.units s.open_pairs s.pairs s.low s.high s.faces s.counts s.near current c.view.result.now populations
    c.args.flip.district c.view.ensures c.as_slice-populations.ensures c.args.flip.district_below in
    let fit = people_fit job plan c.args.flip.unit c.args.flip.district current.numbers.sound current.summed.legal c.args.flip.unit_below c.args.flip.district_below c.requires.elsewhere in
    let from_home = ap (λ (e : ℕ). get_or populations e 0) home in
    let numbers = current.numbers in
    record {
      people = omega (arith, people, from_home, from, fit.0);
      from = (omega (arith, from_home, from, fit.1.0, numbers.least), omega (arith, from_home, from, fit.1.1, numbers.greatest));
      to = omega (arith, to, fit.2, numbers.greatest);
      high = omega (arith, numbers.greatest, greatest_small job numbers.sound);
    }

pub returns-clause-value : goal.returns-clause-value
returns-clause-value c =
    let s = c.self.inside in
    let job = c.args.flip.job.now in
    let plan : List ℕ = c.args.self.now.plan in
    let populations : List ℕ = c.as_slice-populations.result.now in
    let at = ap (λ (h : ChainState). h.plan) c.self.view_is in
    let current = up_to_date_for s.job.value job s.plan plan s.sums s.marks.units s.open_pairs s.pairs s.low s.high s.faces s.counts s.near
    (ap (λ (h : ChainState). h.job) c.self.view_is ∙ c.requires.made) at c.self.invariant in
    let people = ap (λ (xs : List ℕ). get_or xs c.args.flip.unit 0) (c.as_slice.ensures ∙ ap (λ (k : Counts). k.population) c.counts.ensures.value) in
    let home = ap (λ (p : List ℕ). get_or p c.args.flip.unit 0) (c.as_slice-2.ensures ∙ at) in
    let from = population_at job plan s.sums s.marks.units s.open_pairs s.pairs s.low s.high s.faces s.counts s.near current c.view.result.now populations (get_or plan c.args.flip.unit 0)
    c.view.ensures c.as_slice-populations.ensures (current.summed.legal.in_range c.args.flip.unit c.args.flip.unit_below) in
    let to = population_at job plan s.sums s.marks.units s.open_pairs s.pairs s.low s.high s.faces s.counts s.near current c.view.result.now populations c.args.flip.district
    c.view.ensures c.as_slice-populations.ensures c.args.flip.district_below in
    keeps_same c.are_kept.result s.low s.high _ _ _ _ _ _ _ _ current.numbers.least current.numbers.greatest people (ap (λ (e : ℕ). get_or populations e 0) home ∙ from) to c.are_kept.ensures

pub bounds-populations-home : goal.bounds-populations-home
bounds-populations-home c =
    let s = c.self.inside in
    let job = c.args.flip.job.now in
    let plan : List ℕ = c.args.self.now.plan in
    let at = ap (λ (h : ChainState). h.plan) c.self.view_is in
    let current = up_to_date_for s.job.value job s.plan plan s.sums s.marks.units s.open_pairs s.pairs s.low s.high s.faces s.counts s.near
    (ap (λ (h : ChainState). h.job) c.self.view_is ∙ c.requires.made) at c.self.invariant in
    let places = ap (length {A = ℕ}) (c.as_slice-populations.ensures ∙ ap (λ (v : SumsView). v.population) c.view.ensures) ∙ current.summed.places in
    let home = ap (λ (p : List ℕ). get_or p c.args.flip.unit 0) (c.as_slice-2.ensures ∙ at) in
    omega (arith, places, home, current.summed.legal.in_range c.args.flip.unit c.args.flip.unit_below)

pub bounds-populations-flip : goal.bounds-populations-flip
bounds-populations-flip c =
    let s = c.self.inside in
    let job = c.args.flip.job.now in
    let plan : List ℕ = c.args.self.now.plan in
    let at = ap (λ (h : ChainState). h.plan) c.self.view_is in
    let current = up_to_date_for s.job.value job s.plan plan s.sums s.marks.units s.open_pairs s.pairs s.low s.high s.faces s.counts s.near
    (ap (λ (h : ChainState). h.job) c.self.view_is ∙ c.requires.made) at c.self.invariant in
    let places = ap (length {A = ℕ}) (c.as_slice-populations.ensures ∙ ap (λ (v : SumsView). v.population) c.view.ensures) ∙ current.summed.places in
    omega (arith, places, c.args.flip.district_below)
