use Rattle.std.proofs.Common.{ℕ, ◌<◌, List, length, get_or, sym, ap, ◌∙◌, subst, arith}
use Rattle.audit_model.specs.Graph.{Graph}
use Rattle.flip_kernel.specs.Nearby.{HasPlaces}
use Rattle.flip_kernel.proofs.Reading.{near_for}
use Rattle.flip_kernel.proofs.start.neighbors_of.Goals as goal

pub returns : goal.returns
returns c =
    let job = c.args.job.now in
    near_for c.graph-2.result.now job.graph c.as_slice.result.now job.start c.districts-districts.result job.districts (sym c.graph-2.ensures.value)
    (sym (c.as_slice.ensures ∙ c.start.ensures.value)) (sym c.districts-districts.ensures.value) c.refill.new.self c.refill.ensures.counts

pub refill-requires-clause-plan : goal.refill-requires-clause-plan
refill-requires-clause-plan c =
    ap (length {A = ℕ}) (c.as_slice.ensures ∙ c.start.ensures.value) ∙ c.graph-2.ensures.sound.legal.complete ∙ ap (λ (g : Graph). g.units) (sym c.graph-2.ensures.value)

pub refill-requires-clause-in_range : goal.refill-requires-clause-in_range
refill-requires-clause-in_range c = λ v l.
    let here = ap (λ (p : List ℕ). get_or p v 0) (c.as_slice.ensures ∙ c.start.ensures.value) in
    omega (arith, here, c.districts-districts.ensures.value, c.graph-2.ensures.sound.legal.in_range v (subst (λ (g : Graph). v < g.units) c.graph-2.ensures.value l))

pub refill-requires-clause-pairs : goal.refill-requires-clause-pairs
refill-requires-clause-pairs c = λ some.
    subst (λ (g : Graph). HasPlaces g c.districts-districts.result c.in_ok-near.near) (c.graph.ensures.value ∙ sym c.graph-2.ensures.value) (c.in_ok-near.ensures some)
