use Rattle.std.proofs.Common.{◌≡◌, ℕ, true, get_or, List, ap, sym, subst, ◌∙◌, arith}
use Rattle.std.proofs.lemmas.Bool.{and_parts, eqb-true}
use Rattle.std.specs.Prelude.{slice_index}
use Rattle.audit_model.specs.Graph.{has, adjacent}
use Rattle.audit_model.specs.District.{in_district}
use Rattle.audit_model.proofs.ListFacts.{has_at}
use Rattle.contig.proofs.links.first_mate.Goals as goal

pub returns : goal.returns
returns c v i =
    let parts = and_parts (adjacent c.args.leaving.graph.now c.args.leaving.unit v) (in_district c.args.leaving.plan.now (slice_index c.args.leaving.plan.now c.args.leaving.unit) v) i.1 in
    let row : List ℕ = c.neighbours-row.result.now in
    let place = has_at row v (subst (λ (xs : List ℕ). has xs v ≡ true) (sym c.neighbours-row.ensures.list) parts.0) in
    c.loop-place.invariant place.0 (omega (arith, place.1, c.loop-place-test.false, c.loop-place.auto.place-end))
    (ap (λ t. get_or c.args.leaving.plan.now t 0) place.2 ∙ eqb-true (get_or c.args.leaving.plan.now v 0) (get_or c.args.leaving.plan.now c.args.leaving.unit 0) parts.1)
