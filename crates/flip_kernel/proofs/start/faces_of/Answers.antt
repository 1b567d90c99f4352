use Rattle.std.proofs.Common.{ℕ, ◌<◌, List, length, get_or, sym, ap, ◌∙◌, subst, arith}
use Rattle.audit_model.specs.Graph.{Graph}
use Rattle.flip_kernel.proofs.Reading.{counts_for}
use Rattle.flip_kernel.proofs.start.faces_of.Goals as goal

pub new-requires-clause-made : goal.new-requires-clause-made
new-requires-clause-made c = c.in_ok-faces.ensures

pub new-requires-clause-plan : goal.new-requires-clause-plan
new-requires-clause-plan c =
    ap (length {A = ℕ}) (c.as_slice-plan.ensures ∙ c.start.ensures.value) ∙ c.graph-graph.ensures.sound.legal.complete ∙ ap (λ (g : Graph). g.units) (sym c.graph-graph.ensures.value)

pub new-requires-clause-in_range : goal.new-requires-clause-in_range
new-requires-clause-in_range c = λ v l.
    let here = ap (λ (p : List ℕ). get_or p v 0) (c.as_slice-plan.ensures ∙ c.start.ensures.value) in
    omega (arith, here, c.districts.ensures.value, c.graph-graph.ensures.sound.legal.in_range v (subst (λ (g : Graph). v < g.units) c.graph-graph.ensures.value l))

pub returns-in-Ok-clause-counts : goal.returns-in-Ok-clause-counts
returns-in-Ok-clause-counts c =
    let job = c.args.job.now in
    counts_for c.graph-graph.result.now job.graph c.as_slice-plan.result.now job.start c.districts.result job.districts (sym c.graph-graph.ensures.value)
    (sym (c.as_slice-plan.ensures ∙ c.start.ensures.value)) (sym c.districts.ensures.value) c.in_ok-faces.faces.faces c.in-Ok.counts c.in-Ok.ensures
