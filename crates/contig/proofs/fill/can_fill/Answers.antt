use Rattle.std.proofs.Common.{◌≡◌, ℕ, true, List, get_or, not, subst}
use Rattle.std.specs.Prelude.{◌==◌, slice_index}
use Rattle.std.proofs.lemmas.Bool.{and_from, eq-eqb, ne_eqb, not_from_false}
use Rattle.audit_model.specs.District.{in_district}
use Rattle.audit_model.specs.Graph.{has, adjacent}
use Rattle.audit_model.proofs.ListFacts.{at_has}
use Rattle.contig.proofs.fill.can_fill.Goals as goal

pub returns-then-plan-other-clause-beside : goal.returns-then-plan-other-clause-beside
returns-then-plan-other-clause-beside c _ =
    let g = c.args.graph.now in
    let plan : List ℕ = c.args.plan.now in
    let u : ℕ = c.args.unit in
    let row : List ℕ = c.neighbours-other-items.result.now in
    let m : ℕ = get_or row c.loop-other.other-index 0 in
    let near : adjacent g c.args.filler m ≡ true =
    subst (λ (t : List ℕ). has t m ≡ true) c.neighbours-other-items.ensures.list (at_has row c.loop-other.other-index c.loop-other-test.true) in
    let here : in_district plan (slice_index plan u) m ≡ true = eq-eqb (get_or plan m 0) (get_or plan u 0) c.if-plan-other.true in (
      m,
      (
        c.neighbours-other-items.ensures.sound.below c.args.filler m near,
        and_from (in_district plan (slice_index plan u) m) (not (m == u)) here (not_from_false (m == u) (ne_eqb m u c.if-other-unit.true)),
      ),
      near,
    )
