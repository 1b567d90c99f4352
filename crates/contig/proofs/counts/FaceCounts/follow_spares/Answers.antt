use Rattle.std.proofs.Common.{◌≡◌, ℕ, ◌<◌, List, [], length, get_or, set, map, refl, sym, ap, ◌∙◌, subst}
use Rattle.std.specs.Prelude.{count_by}
use Rattle.std.specs.List.{slice_index_or}
use Rattle.std.proofs.lemmas.Bool.{eq-eqb, eqb-true}
use Rattle.std.proofs.lemmas.List.{nil_from_length}
use Rattle.audit_model.specs.Graph.{Graph}
use Rattle.audit_model.specs.District.{in_district}
use Rattle.contig.specs.Corners.{is_ending, is_starting, spares_at, units_of}
use Rattle.contig.specs.Faces.{AreFaces}
use Rattle.contig.proofs.Raising.{between, between_itself, left_out, put_in, put_there, tests_between}
use Rattle.contig.proofs.Shifting.{coming, going, unchanged}
use Rattle.contig.proofs.counts.FaceCounts.follow_spares.Goals as goal

pub returns-then-is_empty-clause-spared : goal.returns-then-is_empty-clause-spared
returns-then-is_empty-clause-spared c =
    let g = c.args.leaving.graph.now in
    let plan : List ℕ = c.args.leaving.plan.now in
    let u : ℕ = c.args.leaving.unit in
    let home : ℕ = get_or plan u 0 in
    let n : ℕ = length c.args.self.now.edges in
    let faces = c.args.table.now.faces in
    let are : AreFaces g faces = subst (λ (t : Graph). AreFaces t faces) c.requires.made c.spares_at.ensures.faces in
    let inside : u < length plan = subst (λ t. u < t) (sym c.args.leaving.complete) c.args.leaving.within in
    let nothing = nil_from_length c.spares_at.result.now (eqb-true (length c.spares_at.result.now) 0 (sym c.is_empty.ensures ∙ c.if-is_empty.true)) in
    let none : spares_at u faces ≡ [] = sym c.spares_at.ensures.seen ∙ ap (map (units_of (slice_index_or c.args.table.now.graph.neighbours u []))) nothing in
    let gone = going g faces are (in_district plan) (between plan u) home u 0 0 (in_district plan home)
    (λ v l off. left_out plan u home v (λ e f. off f)) (λ v l off. refl)
    (ap (count_by (is_ending (in_district plan home) u)) (sym none)) (ap (count_by (is_starting (in_district plan home) u)) (sym none))
    (eq-eqb home home refl) (between_itself plan u home) in
    let middle = unchanged g faces are (in_district plan) (between plan u) home n c.args.self.now.spared c.requires.home (λ x v l off. left_out plan u x v (λ e f. off e)) c.requires.spared gone in
    let come = coming g faces are (between plan u) (in_district (set plan u c.args.district)) c.args.district u 0 0 (in_district plan c.args.district)
    (λ v l off. put_in plan u c.args.district c.args.district v inside (λ e f. off f)) (λ v l off. tests_between plan u c.args.district v off)
    (ap (count_by (is_ending (in_district plan c.args.district) u)) (sym none)) (ap (count_by (is_starting (in_district plan c.args.district) u)) (sym none))
    (put_there plan u c.args.district inside) (between_itself plan u c.args.district) in
    unchanged g faces are (between plan u) (in_district (set plan u c.args.district)) c.args.district n c.args.self.now.spared c.requires.district
    (λ x v l off. put_in plan u c.args.district x v inside (λ e f. off e)) middle come
