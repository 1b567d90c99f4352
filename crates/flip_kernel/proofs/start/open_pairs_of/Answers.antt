use Rattle.std.proofs.Common.{ℕ, ◌*◌, ◌<◌, ◌≤◌, Bool, List, length, get_or, sym, ap, ◌∙◌, subst, arith}
use Rattle.audit_model.specs.Graph.{Graph}
use Rattle.flip_kernel.proofs.Reading.{opened_for}
use Rattle.flip_kernel.proofs.start.open_pairs_of.Goals as goal

pub returns : goal.returns
returns c = λ empty.
    let job = c.args.job.now in
    opened_for c.graph.result.now job.graph c.as_slice.result.now job.start c.districts-districts.result job.districts (sym c.graph.ensures.value)
    (sym (c.as_slice.ensures ∙ c.start.ensures.value)) (sym c.districts-districts.ensures.value) c.refill.new.self (c.refill.ensures empty)

pub refill-requires-clause-plan : goal.refill-requires-clause-plan
refill-requires-clause-plan c =
    ap (length {A = ℕ}) (c.as_slice.ensures ∙ c.start.ensures.value) ∙ c.graph.ensures.sound.legal.complete ∙ ap (λ (g : Graph). g.units) (sym c.graph.ensures.value)

pub refill-requires-clause-in_range : goal.refill-requires-clause-in_range
refill-requires-clause-in_range c = λ v l.
    let here = ap (λ (p : List ℕ). get_or p v 0) (c.as_slice.ensures ∙ c.start.ensures.value) in
    omega (arith, here, c.districts-districts.ensures.value, c.graph.ensures.sound.legal.in_range v (subst (λ (g : Graph). v < g.units) c.graph.ensures.value l))

pub refill-requires-clause-width : goal.refill-requires-clause-width
refill-requires-clause-width c = λ empty.
    subst (λ (k : ℕ). k * c.districts-districts.result ≤ length {A = Bool} c.in_ok-open_pairs.open_pairs)
    (c.units.ensures.units ∙ ap (λ (g : Graph). g.units) (sym c.graph.ensures.value)) (c.in_ok-open_pairs.ensures empty)
