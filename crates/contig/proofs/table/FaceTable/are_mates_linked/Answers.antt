use Rattle.std.proofs.Common.{◌≡◌, ℕ, ◌<◌, List, [], length, map, refl, sym, ◌∙◌, subst, arith}
use Rattle.std.specs.List.{slice_index_or}
use Rattle.std.proofs.lemmas.Bool.{both_ways, eqb-false, false≢true}
use Rattle.audit_model.specs.Graph.{Graph}
use Rattle.contig.specs.Corners.{spares_at, units_of}
use Rattle.contig.specs.Faces.{AreFaces, AreLinked, chosen, own_rings}
use Rattle.contig.specs.Order.{AreSectors}
use Rattle.contig.specs.declared.corner.Corner.{Corner}
use Rattle.contig.proofs.Choosing.{own_are_rings, own_shared}
use Rattle.contig.proofs.Merging.{home}
use Rattle.contig.proofs.SpareLinks.{linked_as, only_rings}
use Rattle.contig.proofs.table.FaceTable.are_mates_linked.Goals as goal

-- the facts of a table's graph are those of the unit's
seen_as : (g h : Graph) (u : ℕ) (corners : List Corner) (cs : List (ℕ × ℕ × ℕ × ℕ)) → g ≡ h
    → map (units_of (slice_index_or g.neighbours u [])) corners ≡ cs → map (units_of (slice_index_or h.neighbours u [])) corners ≡ cs
seen_as g h u corners cs is seen = subst (λ (t : Graph). map (units_of (slice_index_or t.neighbours u [])) corners ≡ cs) is seen

pub sectors_at-sectors-requires : goal.sectors_at-sectors-requires
sectors_at-sectors-requires c = subst (λ (t : Graph). c.args.leaving.unit < t.units) (sym c.requires.made) c.args.leaving.within

pub spares_at-spares-requires : goal.spares_at-spares-requires
spares_at-spares-requires c = subst (λ (t : Graph). c.args.leaving.unit < t.units) (sym c.requires.made) c.args.leaving.within

pub returns-then-are_linked_in_order-clause-linked : goal.returns-then-are_linked_in_order-clause-linked
returns-then-are_linked_in_order-clause-linked c =
    let g = c.args.leaving.graph.now in
    let plan : List ℕ = c.args.leaving.plan.now in
    let u : ℕ = c.args.leaving.unit in
    let faces = c.args.self.now.faces in
    let off = eqb-false (length c.sectors_at-sectors.result.now) 0 (sym c.is_empty.ensures ∙ c.if-is_empty.false) in
    let are = subst (λ (t : Graph). AreFaces t faces) c.requires.made c.sectors_at-sectors.ensures.faces in
    let order = subst (λ (t : Graph). AreSectors t (own_rings faces) u c.sectors_at-sectors.result.now) c.requires.made (c.sectors_at-sectors.ensures.order (omega (arith, off))) in
    let linked = (c.are_linked_in_order.ensures (own_rings faces) (own_are_rings g faces are) order).0 c.if-are_linked_in_order.true in
    (λ _. linked_as g plan u (own_rings faces) (chosen (home plan u) faces) (λ x y. own_shared (home plan u) u x y faces) linked, λ _. refl)

pub returns-then-not-has_active-clause-linked : goal.returns-then-not-has_active-clause-linked
returns-then-not-has_active-clause-linked c =
    let g = c.args.leaving.graph.now in
    let plan : List ℕ = c.args.leaving.plan.now in
    let u : ℕ = c.args.leaving.unit in
    let faces = c.args.self.now.faces in
    let spares = c.spares_at-spares.result.now in
    let off = eqb-false (length c.sectors_at-sectors.result.now) 0 (sym c.is_empty.ensures ∙ c.if-is_empty.false) in
    let are = subst (λ (t : Graph). AreFaces t faces) c.requires.made c.spares_at-spares.ensures.faces in
    let order = subst (λ (t : Graph). AreSectors t (own_rings faces) u c.sectors_at-sectors.result.now) c.requires.made (c.sectors_at-sectors.ensures.order (omega (arith, off))) in
    let of_spares = seen_as c.args.self.now.graph g u spares (spares_at u faces) c.requires.made c.spares_at-spares.ensures.seen in
    let parted = λ (linked : AreLinked g faces plan u).
    (c.are_linked_in_order.ensures (own_rings faces) (own_are_rings g faces are) order).1
    (linked_as g plan u (chosen (home plan u) faces) (own_rings faces) (only_rings g plan u faces are spares of_spares (c.has_active.ensures.none c.if-not-has_active.true)) linked) in
    (λ h. absurd (false≢true h), λ linked. absurd (both_ways c.are_linked_in_order.result c.if-are_linked_in_order.false (parted linked)))
