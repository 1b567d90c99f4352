use Rattle.std.proofs.Common.{ℕ, ◌+◌, ◌<◌, List, length, get_or, refl, sym, ap, subst, ◌∙◌, arith, length-set}
use Rattle.std.proofs.lemmas.List.{length-replicate}
use Rattle.audit_model.specs.Graph.{Graph}
use Rattle.audit_model.specs.District.{in_district}
use Rattle.contig.specs.Faces.{AreFaces, own_rings}
use Rattle.contig.specs.Counts.{AreSpareCounts, is_before}
use Rattle.contig.proofs.Changing.{edges_few, filled_few}
use Rattle.contig.proofs.Choosing.{own_are_rings, own_length}
use Rattle.contig.proofs.Shifting.{coming, none_spared, shift_few, shift_fits, shifted, spared_alike}
use Rattle.contig.proofs.Raising.{all_counts, counts_alike, counts_kept, raised, raised_edges, raised_filled, none_counted, before_none, before_all, before_here, before_itself, before_next, zeros_at}
use Rattle.contig.proofs.counts.FaceCounts.reset.Goals as goal

pub loop-unit-init : goal.loop-unit-init
loop-unit-init c =
    let are = subst (λ (t : Graph). AreFaces t c.args.table.now.faces) c.requires.made c.units-units.ensures.faces in (
      none_counted c.args.graph.now c.units-unit-end.ensures.sound (own_rings c.args.table.now.faces) (own_are_rings c.args.graph.now c.args.table.now.faces are)
          (is_before c.args.plan.now 0) (length c.args.self.now.edges) c.clear.new.self (before_none c.args.plan.now)
          (ap (length {A = ℕ}) c.clear.ensures.edges ∙ length-replicate (length c.args.self.now.edges) 0)
          (ap (length {A = ℕ}) c.clear.ensures.filled ∙ length-replicate (length c.args.self.now.edges) 0)
          (λ d. ap (λ (t : List ℕ). get_or t d 0) c.clear.ensures.edges ∙ zeros_at (length c.args.self.now.edges) d)
          (λ d. ap (λ (t : List ℕ). get_or t d 0) c.clear.ensures.filled ∙ zeros_at (length c.args.self.now.edges) d),
      none_spared c.args.graph.now c.args.table.now.faces (is_before c.args.plan.now 0) (length c.args.self.now.edges) c.clear.new.self.spared are (before_none c.args.plan.now)
          (ap (length {A = ℕ}) c.clear.ensures.spared ∙ length-replicate (length c.args.self.now.edges) 0)
          (λ d. ap (λ (t : List ℕ). get_or t d 0) c.clear.ensures.spared ∙ zeros_at (length c.args.self.now.edges) d),
    )

pub raise-requires-clause-edges : goal.raise-requires-clause-edges
raise-requires-clause-edges c =
    let g = c.args.graph.now in
    let plan : List ℕ = c.args.plan.now in
    let u : ℕ = c.loop-unit.unit in
    let lu : u < g.units = omega (arith, c.loop-unit-test.true, c.units-unit-end.ensures.units, c.loop-unit.auto.unit-end) in
    let sum = raised_edges g c.units-unit-end.ensures.sound (own_rings c.args.table.now.faces) (own_are_rings c.args.graph.now c.args.table.now.faces (subst (λ (t : Graph). AreFaces t c.args.table.now.faces) c.requires.made c.units-units.ensures.faces))
    (is_before plan u) (is_before plan (u + 1)) (get_or plan u 0) u (length c.args.self.now.edges)
    c.mates_in-mates.result c.corners_in-corners.result (is_before plan u (get_or plan u 0)) c.loop-unit.self lu (c.requires.in_range u lu)
    (λ x v l other. before_next plan u x v other) (λ v l off. refl) c.mates_in-mates.ensures c.corners_in-corners.ensures c.loop-unit.invariant.0
    (before_here plan u) (before_itself plan u (get_or plan u 0)) in
    let few = edges_few g (is_before plan (u + 1) (get_or plan u 0)) in
    omega (arith, sum, few, c.units-unit-end.ensures.few_edges)

pub raise-requires-clause-filled : goal.raise-requires-clause-filled
raise-requires-clause-filled c =
    let g = c.args.graph.now in
    let plan : List ℕ = c.args.plan.now in
    let u : ℕ = c.loop-unit.unit in
    let lu : u < g.units = omega (arith, c.loop-unit-test.true, c.units-unit-end.ensures.units, c.loop-unit.auto.unit-end) in
    let sum = raised_filled g c.units-unit-end.ensures.sound (own_rings c.args.table.now.faces) (own_are_rings c.args.graph.now c.args.table.now.faces (subst (λ (t : Graph). AreFaces t c.args.table.now.faces) c.requires.made c.units-units.ensures.faces))
    (is_before plan u) (is_before plan (u + 1)) (get_or plan u 0) u (length c.args.self.now.edges)
    c.mates_in-mates.result c.corners_in-corners.result (is_before plan u (get_or plan u 0)) c.loop-unit.self lu (c.requires.in_range u lu)
    (λ x v l other. before_next plan u x v other) (λ v l off. refl) c.mates_in-mates.ensures c.corners_in-corners.ensures c.loop-unit.invariant.0
    (before_here plan u) (before_itself plan u (get_or plan u 0)) in
    let few = filled_few g (is_before plan (u + 1) (get_or plan u 0)) (own_rings c.args.table.now.faces) in
    omega (arith, sum, few, own_length c.args.table.now.faces, c.units-units.ensures.few, c.units-unit-end.ensures.few)

pub shift-requires-clause-district : goal.shift-requires-clause-district
shift-requires-clause-district c =
    let u : ℕ = c.loop-unit.unit in
    let lu : u < c.args.graph.now.units = omega (arith, c.loop-unit-test.true, c.units-unit-end.ensures.units, c.loop-unit.auto.unit-end) in
    let long = ap (length {A = ℕ}) c.raise.ensures.edges ∙ length-set c.loop-unit.self.edges (get_or c.args.plan.now u 0) _ ∙ c.loop-unit.invariant.0.edge_places in
    subst (λ t. get_or c.args.plan.now u 0 < t) (sym long) (c.requires.in_range u lu)

pub shift-requires-clause-ending : goal.shift-requires-clause-ending
shift-requires-clause-ending c =
    let g = c.args.graph.now in
    let plan : List ℕ = c.args.plan.now in
    let u : ℕ = c.loop-unit.unit in
    let faces = c.args.table.now.faces in
    let lu : u < g.units = omega (arith, c.loop-unit-test.true, c.units-unit-end.ensures.units, c.loop-unit.auto.unit-end) in
    let are = subst (λ (t : Graph). AreFaces t faces) c.requires.made c.units-units.ensures.faces in
    let change = coming g faces are (is_before plan u) (is_before plan (u + 1)) (get_or plan u 0) u c.spares_in-starting.result.0 c.spares_in-starting.result.1 (is_before plan u (get_or plan u 0))
    (λ v l off. before_next plan u (get_or plan u 0) v (λ e f. off f)) (λ v l off. refl) c.spares_in-starting.ensures.ending c.spares_in-starting.ensures.starting
    (before_here plan u) (before_itself plan u (get_or plan u 0)) in
    let old = subst (λ (t : List ℕ). AreSpareCounts faces (is_before plan u) (length c.args.self.now.edges) t) (sym c.raise.ensures.spared) c.loop-unit.invariant.1 in
    shift_fits g faces are (is_before plan u) (is_before plan (u + 1)) (get_or plan u 0) (length c.args.self.now.edges) c.raise.new.self.spared (c.requires.in_range u lu)
    (λ x v l off. before_next plan u x v (λ e f. off e)) old c.spares_in-starting.result.1 c.spares_in-starting.result.0 change

pub shift-requires-clause-starting : goal.shift-requires-clause-starting
shift-requires-clause-starting c =
    let g = c.args.graph.now in
    let plan : List ℕ = c.args.plan.now in
    let u : ℕ = c.loop-unit.unit in
    let faces = c.args.table.now.faces in
    let lu : u < g.units = omega (arith, c.loop-unit-test.true, c.units-unit-end.ensures.units, c.loop-unit.auto.unit-end) in
    let are = subst (λ (t : Graph). AreFaces t faces) c.requires.made c.units-units.ensures.faces in
    let change = coming g faces are (is_before plan u) (is_before plan (u + 1)) (get_or plan u 0) u c.spares_in-starting.result.0 c.spares_in-starting.result.1 (is_before plan u (get_or plan u 0))
    (λ v l off. before_next plan u (get_or plan u 0) v (λ e f. off f)) (λ v l off. refl) c.spares_in-starting.ensures.ending c.spares_in-starting.ensures.starting
    (before_here plan u) (before_itself plan u (get_or plan u 0)) in
    let old = subst (λ (t : List ℕ). AreSpareCounts faces (is_before plan u) (length c.args.self.now.edges) t) (sym c.raise.ensures.spared) c.loop-unit.invariant.1 in
    let few = shift_few g faces are (is_before plan u) (is_before plan (u + 1)) (get_or plan u 0) (length c.args.self.now.edges) c.raise.new.self.spared (c.requires.in_range u lu)
    (λ x v l off. before_next plan u x v (λ e f. off e)) old c.spares_in-starting.result.1 c.spares_in-starting.result.0 change in
    omega (arith, few, c.units-units.ensures.few)

pub loop-unit-preserved : goal.loop-unit-preserved
loop-unit-preserved c =
    let g = c.args.graph.now in
    let plan : List ℕ = c.args.plan.now in
    let u : ℕ = c.loop-unit.unit in
    let lu : u < g.units = omega (arith, c.loop-unit-test.true, c.units-unit-end.ensures.units, c.loop-unit.auto.unit-end) in
    let counts = raised g c.units-unit-end.ensures.sound (own_rings c.args.table.now.faces) (own_are_rings c.args.graph.now c.args.table.now.faces (subst (λ (t : Graph). AreFaces t c.args.table.now.faces) c.requires.made c.units-units.ensures.faces))
    (is_before plan u) (is_before plan (u + 1)) (get_or plan u 0) u (length c.args.self.now.edges)
    c.mates_in-mates.result c.corners_in-corners.result (is_before plan u (get_or plan u 0)) c.loop-unit.self lu (c.requires.in_range u lu)
    (λ x v l other. before_next plan u x v other) (λ v l off. refl) c.mates_in-mates.ensures c.corners_in-corners.ensures c.loop-unit.invariant.0
    (before_here plan u) (before_itself plan u (get_or plan u 0)) c.raise.new.self c.raise.ensures.edges c.raise.ensures.filled in
    let faces = c.args.table.now.faces in
    let are = subst (λ (t : Graph). AreFaces t faces) c.requires.made c.units-units.ensures.faces in
    let change = coming g faces are (is_before plan u) (is_before plan (u + 1)) (get_or plan u 0) u c.spares_in-starting.result.0 c.spares_in-starting.result.1 (is_before plan u (get_or plan u 0))
    (λ v l off. before_next plan u (get_or plan u 0) v (λ e f. off f)) (λ v l off. refl) c.spares_in-starting.ensures.ending c.spares_in-starting.ensures.starting
    (before_here plan u) (before_itself plan u (get_or plan u 0)) in
    let old = subst (λ (t : List ℕ). AreSpareCounts faces (is_before plan u) (length c.args.self.now.edges) t) (sym c.raise.ensures.spared) c.loop-unit.invariant.1 in (
      counts_kept g (own_rings faces) (is_before plan (u + 1)) (length c.args.self.now.edges) c.raise.new.self c.shift.new.self c.shift.ensures.edges c.shift.ensures.filled counts,
      shifted g faces are (is_before plan u) (is_before plan (u + 1)) (get_or plan u 0) (length c.args.self.now.edges) c.raise.new.self.spared (c.requires.in_range u lu)
          (λ x v l off. before_next plan u x v (λ e f. off e)) old c.spares_in-starting.result.1 c.spares_in-starting.result.0 change c.shift.new.self.spared c.shift.ensures.spared,
    )

pub returns : goal.returns
returns c =
    let g = c.args.graph.now in
    let plan : List ℕ = c.args.plan.now in
    let faces = c.args.table.now.faces in
    let n : ℕ = length c.args.self.now.edges in
    let end : ℕ = c.loop-unit.unit in
    let are = subst (λ (t : Graph). AreFaces t faces) c.requires.made c.units-units.ensures.faces in
    let same = λ (x v : ℕ) (l : v < g.units). before_all plan end x v (omega (arith, l, c.loop-unit-test.false, c.units-unit-end.ensures.units)) in
    all_counts g faces (in_district plan) n c.loop-unit.self
    (counts_alike g c.units-unit-end.ensures.sound (own_rings faces) (own_are_rings g faces are) (is_before plan end) (in_district plan) n c.loop-unit.self same c.loop-unit.invariant.0)
    (spared_alike g faces (is_before plan end) (in_district plan) n c.loop-unit.self.spared are same c.loop-unit.invariant.1)
