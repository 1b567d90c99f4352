use Rattle.std.proofs.Common.{◌≡◌, ℕ, ◌<◌, List, length, get_or, set, refl, sym, ap, ◌∙◌, subst, arith, length-set}
use Rattle.audit_model.specs.Graph.{Graph}
use Rattle.audit_model.specs.District.{in_district}
use Rattle.std.proofs.lemmas.Bool.{eq-eqb}
use Rattle.contig.specs.Faces.{AreFaces, AreRings, own_rings}
use Rattle.contig.specs.Counts.{AreSpareCounts}
use Rattle.contig.proofs.Choosing.{own_are_rings, own_length}
use Rattle.contig.proofs.Changing.{edges_few, filled_few}
use Rattle.contig.proofs.Raising.{AreRingCounts, all_counts, counts_kept, ring_counts, spare_counts, raised, raised_edges, raised_filled, lowered, lowered_edges, lowered_filled, between, between_itself, left_out, put_in, put_there, tests_between}
use Rattle.contig.proofs.counts.FaceCounts.follow.Goals as goal

pub lower-requires-clause-edges : goal.lower-requires-clause-edges
lower-requires-clause-edges c =
    let g = c.args.leaving.graph.now in
    let plan : List ℕ = c.args.leaving.plan.now in
    let u : ℕ = c.args.leaving.unit in
    let home : ℕ = get_or plan u 0 in
    let n : ℕ = length c.args.self.now.edges in
    let faces = own_rings c.args.table.now.faces in
    let are : AreRings g faces = own_are_rings g c.args.table.now.faces (subst (λ (t : Graph). AreFaces t c.args.table.now.faces) c.requires.made c.corners_of-corners.ensures.faces) in
    let before = ring_counts g c.args.table.now.faces (in_district plan) n c.args.self.now c.requires.counts in
    let sum = lowered_edges g c.args.leaving.sound faces are
    (in_district plan) (between plan u) home u n c.args.mates.0 c.corners_of-corners.result.0 (in_district plan home) c.args.self.now c.args.leaving.within c.requires.home
    (λ x v l other. left_out plan u x v other) (λ v l off. refl)
    c.requires.home_mates c.corners_of-corners.ensures.one before (eq-eqb home home refl) (between_itself plan u home) in
    omega (arith, sum)

pub lower-requires-clause-filled : goal.lower-requires-clause-filled
lower-requires-clause-filled c =
    let g = c.args.leaving.graph.now in
    let plan : List ℕ = c.args.leaving.plan.now in
    let u : ℕ = c.args.leaving.unit in
    let home : ℕ = get_or plan u 0 in
    let n : ℕ = length c.args.self.now.edges in
    let faces = own_rings c.args.table.now.faces in
    let are : AreRings g faces = own_are_rings g c.args.table.now.faces (subst (λ (t : Graph). AreFaces t c.args.table.now.faces) c.requires.made c.corners_of-corners.ensures.faces) in
    let before = ring_counts g c.args.table.now.faces (in_district plan) n c.args.self.now c.requires.counts in
    let sum = lowered_filled g c.args.leaving.sound faces are
    (in_district plan) (between plan u) home u n c.args.mates.0 c.corners_of-corners.result.0 (in_district plan home) c.args.self.now c.args.leaving.within c.requires.home
    (λ x v l other. left_out plan u x v other) (λ v l off. refl)
    c.requires.home_mates c.corners_of-corners.ensures.one before (eq-eqb home home refl) (between_itself plan u home) in
    omega (arith, sum)

pub raise-requires-clause-edges : goal.raise-requires-clause-edges
raise-requires-clause-edges c =
    let g = c.args.leaving.graph.now in
    let plan : List ℕ = c.args.leaving.plan.now in
    let u : ℕ = c.args.leaving.unit in
    let home : ℕ = get_or plan u 0 in
    let n : ℕ = length c.args.self.now.edges in
    let faces = own_rings c.args.table.now.faces in
    let are : AreRings g faces = own_are_rings g c.args.table.now.faces (subst (λ (t : Graph). AreFaces t c.args.table.now.faces) c.requires.made c.corners_of-corners.ensures.faces) in
    let before = ring_counts g c.args.table.now.faces (in_district plan) n c.args.self.now c.requires.counts in
    let between_counts : AreRingCounts g faces (between plan u) n c.lower.new.self = lowered g c.args.leaving.sound faces are
    (in_district plan) (between plan u) home u n c.args.mates.0 c.corners_of-corners.result.0 (in_district plan home) c.args.self.now c.args.leaving.within c.requires.home
    (λ x v l other. left_out plan u x v other) (λ v l off. refl)
    c.requires.home_mates c.corners_of-corners.ensures.one before (eq-eqb home home refl) (between_itself plan u home) c.lower.new.self c.lower.ensures.edges c.lower.ensures.filled in
    let inside : u < length plan = subst (λ t. u < t) (sym c.args.leaving.complete) c.args.leaving.within in
    let sum = raised_edges g c.args.leaving.sound faces are
    (between plan u) (in_district (set plan u c.args.district)) c.args.district u n c.args.mates.1 c.corners_of-corners.result.1 (in_district plan c.args.district)
    c.lower.new.self c.args.leaving.within c.requires.district
    (λ x v l other. put_in plan u c.args.district x v inside other)
    (λ v l off. tests_between plan u c.args.district v off)
    c.requires.other_mates c.corners_of-corners.ensures.other between_counts (put_there plan u c.args.district inside) (between_itself plan u c.args.district) in
    omega (arith, sum, edges_few g (in_district (set plan u c.args.district) c.args.district), c.args.leaving.few_edges)

pub raise-requires-clause-filled : goal.raise-requires-clause-filled
raise-requires-clause-filled c =
    let g = c.args.leaving.graph.now in
    let plan : List ℕ = c.args.leaving.plan.now in
    let u : ℕ = c.args.leaving.unit in
    let home : ℕ = get_or plan u 0 in
    let n : ℕ = length c.args.self.now.edges in
    let faces = own_rings c.args.table.now.faces in
    let are : AreRings g faces = own_are_rings g c.args.table.now.faces (subst (λ (t : Graph). AreFaces t c.args.table.now.faces) c.requires.made c.corners_of-corners.ensures.faces) in
    let before = ring_counts g c.args.table.now.faces (in_district plan) n c.args.self.now c.requires.counts in
    let between_counts : AreRingCounts g faces (between plan u) n c.lower.new.self = lowered g c.args.leaving.sound faces are
    (in_district plan) (between plan u) home u n c.args.mates.0 c.corners_of-corners.result.0 (in_district plan home) c.args.self.now c.args.leaving.within c.requires.home
    (λ x v l other. left_out plan u x v other) (λ v l off. refl)
    c.requires.home_mates c.corners_of-corners.ensures.one before (eq-eqb home home refl) (between_itself plan u home) c.lower.new.self c.lower.ensures.edges c.lower.ensures.filled in
    let inside : u < length plan = subst (λ t. u < t) (sym c.args.leaving.complete) c.args.leaving.within in
    let sum = raised_filled g c.args.leaving.sound faces are
    (between plan u) (in_district (set plan u c.args.district)) c.args.district u n c.args.mates.1 c.corners_of-corners.result.1 (in_district plan c.args.district)
    c.lower.new.self c.args.leaving.within c.requires.district
    (λ x v l other. put_in plan u c.args.district x v inside other)
    (λ v l off. tests_between plan u c.args.district v off)
    c.requires.other_mates c.corners_of-corners.ensures.other between_counts (put_there plan u c.args.district inside) (between_itself plan u c.args.district) in
    omega (arith, sum, filled_few g (in_district (set plan u c.args.district) c.args.district) faces, own_length c.args.table.now.faces, c.corners_of-corners.ensures.few, c.args.leaving.few)

-- the number of districts stays the same
as_many : (old_edges low_edges high_edges : List ℕ) (home district mates more n : ℕ) → n ≡ length old_edges → low_edges ≡ set old_edges home mates → high_edges ≡ set low_edges district more
    → length high_edges ≡ n
as_many old_edges low_edges high_edges home district mates more n all low high =
    ap (length {A = ℕ}) high ∙ length-set low_edges district more ∙ ap (length {A = ℕ}) low ∙ length-set old_edges home mates ∙ sym all

pub follow_spares-requires-clause-home : goal.follow_spares-requires-clause-home
follow_spares-requires-clause-home c =
    subst (λ t. get_or c.args.leaving.plan.now c.args.leaving.unit 0 < t)
    (sym (as_many c.args.self.now.edges c.lower.new.self.edges c.raise.new.self.edges _ _ _ _ (length c.args.self.now.edges) refl c.lower.ensures.edges c.raise.ensures.edges)) c.requires.home

pub follow_spares-requires-clause-district : goal.follow_spares-requires-clause-district
follow_spares-requires-clause-district c =
    subst (λ t. c.args.district < t)
    (sym (as_many c.args.self.now.edges c.lower.new.self.edges c.raise.new.self.edges _ _ _ _ (length c.args.self.now.edges) refl c.lower.ensures.edges c.raise.ensures.edges)) c.requires.district

pub follow_spares-requires-clause-spared : goal.follow_spares-requires-clause-spared
follow_spares-requires-clause-spared c =
    let plan : List ℕ = c.args.leaving.plan.now in
    let faces = c.args.table.now.faces in
    subst (λ (t : ℕ). AreSpareCounts faces (in_district plan) t c.raise.new.self.spared)
    (sym (as_many c.args.self.now.edges c.lower.new.self.edges c.raise.new.self.edges _ _ _ _ (length c.args.self.now.edges) refl c.lower.ensures.edges c.raise.ensures.edges))
    (subst (λ (t : List ℕ). AreSpareCounts faces (in_district plan) (length c.args.self.now.edges) t) (sym (c.raise.ensures.spared ∙ c.lower.ensures.spared))
    (spare_counts c.args.leaving.graph.now faces (in_district plan) (length c.args.self.now.edges) c.args.self.now c.requires.counts))

pub returns : goal.returns
returns c =
    let g = c.args.leaving.graph.now in
    let plan : List ℕ = c.args.leaving.plan.now in
    let u : ℕ = c.args.leaving.unit in
    let home : ℕ = get_or plan u 0 in
    let n : ℕ = length c.args.self.now.edges in
    let faces = own_rings c.args.table.now.faces in
    let are : AreRings g faces = own_are_rings g c.args.table.now.faces (subst (λ (t : Graph). AreFaces t c.args.table.now.faces) c.requires.made c.corners_of-corners.ensures.faces) in
    let before = ring_counts g c.args.table.now.faces (in_district plan) n c.args.self.now c.requires.counts in
    let between_counts : AreRingCounts g faces (between plan u) n c.lower.new.self = lowered g c.args.leaving.sound faces are
    (in_district plan) (between plan u) home u n c.args.mates.0 c.corners_of-corners.result.0 (in_district plan home) c.args.self.now c.args.leaving.within c.requires.home
    (λ x v l other. left_out plan u x v other) (λ v l off. refl)
    c.requires.home_mates c.corners_of-corners.ensures.one before (eq-eqb home home refl) (between_itself plan u home) c.lower.new.self c.lower.ensures.edges c.lower.ensures.filled in
    let inside : u < length plan = subst (λ t. u < t) (sym c.args.leaving.complete) c.args.leaving.within in
    let after = raised g c.args.leaving.sound faces are
    (between plan u) (in_district (set plan u c.args.district)) c.args.district u n c.args.mates.1 c.corners_of-corners.result.1 (in_district plan c.args.district)
    c.lower.new.self c.args.leaving.within c.requires.district
    (λ x v l other. put_in plan u c.args.district x v inside other)
    (λ v l off. tests_between plan u c.args.district v off)
    c.requires.other_mates c.corners_of-corners.ensures.other between_counts (put_there plan u c.args.district inside) (between_itself plan u c.args.district) c.raise.new.self c.raise.ensures.edges c.raise.ensures.filled in
    let long = ap (length {A = ℕ}) c.raise.ensures.edges ∙ length-set c.lower.new.self.edges c.args.district _ ∙ between_counts.edge_places in
    all_counts g c.args.table.now.faces (in_district (set plan u c.args.district)) n c.follow_spares.new.self
    (counts_kept g faces (in_district (set plan u c.args.district)) n c.raise.new.self c.follow_spares.new.self c.follow_spares.ensures.edges c.follow_spares.ensures.filled after)
    (subst (λ (t : ℕ). AreSpareCounts c.args.table.now.faces (in_district (set plan u c.args.district)) t c.follow_spares.new.self.spared) long c.follow_spares.ensures.spared)
