use Rattle.std.proofs.Common.{ℕ, ◌<◌, List, length, get_or, set, refl, sym, ap, ◌∙◌, subst, arith}
use Rattle.std.proofs.lemmas.Bool.{eq-eqb}
use Rattle.audit_model.specs.Graph.{Graph}
use Rattle.audit_model.specs.District.{in_district}
use Rattle.contig.specs.Faces.{AreFaces}
use Rattle.contig.specs.Counts.{is_before}
use Rattle.contig.proofs.Raising.{between, between_itself, before_all, left_out, put_in, put_there, tests_between}
use Rattle.contig.proofs.Shifting.{coming, going, shift_few, shift_fits, shifted}
use Rattle.contig.proofs.counts.FaceCounts.move_spares.Goals as goal

pub shift-requires-clause-ending : goal.shift-requires-clause-ending
shift-requires-clause-ending c =
    let g = c.args.leaving.graph.now in
    let plan : List ℕ = c.args.leaving.plan.now in
    let u : ℕ = c.args.leaving.unit in
    let home : ℕ = get_or plan u 0 in
    let n : ℕ = length c.args.self.now.edges in
    let faces = c.args.table.now.faces in
    let end : ℕ = c.units-end.result in
    let below : (v : ℕ) → v < g.units → v < end = λ v l. omega (arith, l, c.units-end.ensures.units) in
    let are : AreFaces g faces = subst (λ (t : Graph). AreFaces t faces) c.requires.made c.spares_in-gone.ensures.faces in
    let gone = going g faces are (in_district plan) (between plan u) home u c.spares_in-gone.result.0 c.spares_in-gone.result.1 (is_before plan end home)
    (λ v l off. left_out plan u home v (λ e f. off f)) (λ v l off. before_all plan end home v (below v l)) c.spares_in-gone.ensures.ending c.spares_in-gone.ensures.starting
    (eq-eqb home home refl) (between_itself plan u home) in
    shift_fits g faces are (in_district plan) (between plan u) home n c.args.self.now.spared c.requires.home (λ x v l off. left_out plan u x v (λ e f. off e)) c.requires.spared
    c.spares_in-gone.result.0 c.spares_in-gone.result.1 gone

pub shift-requires-clause-starting : goal.shift-requires-clause-starting
shift-requires-clause-starting c =
    let g = c.args.leaving.graph.now in
    let plan : List ℕ = c.args.leaving.plan.now in
    let u : ℕ = c.args.leaving.unit in
    let home : ℕ = get_or plan u 0 in
    let n : ℕ = length c.args.self.now.edges in
    let faces = c.args.table.now.faces in
    let end : ℕ = c.units-end.result in
    let below : (v : ℕ) → v < g.units → v < end = λ v l. omega (arith, l, c.units-end.ensures.units) in
    let are : AreFaces g faces = subst (λ (t : Graph). AreFaces t faces) c.requires.made c.spares_in-gone.ensures.faces in
    let gone = going g faces are (in_district plan) (between plan u) home u c.spares_in-gone.result.0 c.spares_in-gone.result.1 (is_before plan end home)
    (λ v l off. left_out plan u home v (λ e f. off f)) (λ v l off. before_all plan end home v (below v l)) c.spares_in-gone.ensures.ending c.spares_in-gone.ensures.starting
    (eq-eqb home home refl) (between_itself plan u home) in
    let few = shift_few g faces are (in_district plan) (between plan u) home n c.args.self.now.spared c.requires.home (λ x v l off. left_out plan u x v (λ e f. off e)) c.requires.spared
    c.spares_in-gone.result.0 c.spares_in-gone.result.1 gone in
    omega (arith, few, c.spares_in-gone.ensures.few)

pub shift-requires-2-clause-district : goal.shift-requires-2-clause-district
shift-requires-2-clause-district c =
    subst (λ t. c.args.district < t) (sym (ap (length {A = ℕ}) c.shift.ensures.edges)) c.requires.district

pub shift-requires-2-clause-ending : goal.shift-requires-2-clause-ending
shift-requires-2-clause-ending c =
    let g = c.args.leaving.graph.now in
    let plan : List ℕ = c.args.leaving.plan.now in
    let u : ℕ = c.args.leaving.unit in
    let home : ℕ = get_or plan u 0 in
    let n : ℕ = length c.args.self.now.edges in
    let faces = c.args.table.now.faces in
    let end : ℕ = c.units-end.result in
    let below : (v : ℕ) → v < g.units → v < end = λ v l. omega (arith, l, c.units-end.ensures.units) in
    let are : AreFaces g faces = subst (λ (t : Graph). AreFaces t faces) c.requires.made c.spares_in-gone.ensures.faces in
    let gone = going g faces are (in_district plan) (between plan u) home u c.spares_in-gone.result.0 c.spares_in-gone.result.1 (is_before plan end home)
    (λ v l off. left_out plan u home v (λ e f. off f)) (λ v l off. before_all plan end home v (below v l)) c.spares_in-gone.ensures.ending c.spares_in-gone.ensures.starting
    (eq-eqb home home refl) (between_itself plan u home) in
    let inside : u < length plan = subst (λ t. u < t) (sym c.args.leaving.complete) c.args.leaving.within in
    let middle = shifted g faces are (in_district plan) (between plan u) home n c.args.self.now.spared c.requires.home (λ x v l off. left_out plan u x v (λ e f. off e)) c.requires.spared
    c.spares_in-gone.result.0 c.spares_in-gone.result.1 gone c.shift.new.self.spared c.shift.ensures.spared in
    let come = coming g faces are (between plan u) (in_district (set plan u c.args.district)) c.args.district u c.spares_in-come.result.0 c.spares_in-come.result.1 (is_before plan end c.args.district)
    (λ v l off. put_in plan u c.args.district c.args.district v inside (λ e f. off f))
    (λ v l off. before_all plan end c.args.district v (below v l) ∙ tests_between plan u c.args.district v off)
    c.spares_in-come.ensures.ending c.spares_in-come.ensures.starting (put_there plan u c.args.district inside) (between_itself plan u c.args.district) in
    shift_fits g faces are (between plan u) (in_district (set plan u c.args.district)) c.args.district n c.shift.new.self.spared c.requires.district
    (λ x v l off. put_in plan u c.args.district x v inside (λ e f. off e)) middle c.spares_in-come.result.1 c.spares_in-come.result.0 come

pub shift-requires-2-clause-starting : goal.shift-requires-2-clause-starting
shift-requires-2-clause-starting c =
    let g = c.args.leaving.graph.now in
    let plan : List ℕ = c.args.leaving.plan.now in
    let u : ℕ = c.args.leaving.unit in
    let home : ℕ = get_or plan u 0 in
    let n : ℕ = length c.args.self.now.edges in
    let faces = c.args.table.now.faces in
    let end : ℕ = c.units-end.result in
    let below : (v : ℕ) → v < g.units → v < end = λ v l. omega (arith, l, c.units-end.ensures.units) in
    let are : AreFaces g faces = subst (λ (t : Graph). AreFaces t faces) c.requires.made c.spares_in-gone.ensures.faces in
    let gone = going g faces are (in_district plan) (between plan u) home u c.spares_in-gone.result.0 c.spares_in-gone.result.1 (is_before plan end home)
    (λ v l off. left_out plan u home v (λ e f. off f)) (λ v l off. before_all plan end home v (below v l)) c.spares_in-gone.ensures.ending c.spares_in-gone.ensures.starting
    (eq-eqb home home refl) (between_itself plan u home) in
    let inside : u < length plan = subst (λ t. u < t) (sym c.args.leaving.complete) c.args.leaving.within in
    let middle = shifted g faces are (in_district plan) (between plan u) home n c.args.self.now.spared c.requires.home (λ x v l off. left_out plan u x v (λ e f. off e)) c.requires.spared
    c.spares_in-gone.result.0 c.spares_in-gone.result.1 gone c.shift.new.self.spared c.shift.ensures.spared in
    let come = coming g faces are (between plan u) (in_district (set plan u c.args.district)) c.args.district u c.spares_in-come.result.0 c.spares_in-come.result.1 (is_before plan end c.args.district)
    (λ v l off. put_in plan u c.args.district c.args.district v inside (λ e f. off f))
    (λ v l off. before_all plan end c.args.district v (below v l) ∙ tests_between plan u c.args.district v off)
    c.spares_in-come.ensures.ending c.spares_in-come.ensures.starting (put_there plan u c.args.district inside) (between_itself plan u c.args.district) in
    let few = shift_few g faces are (between plan u) (in_district (set plan u c.args.district)) c.args.district n c.shift.new.self.spared c.requires.district
    (λ x v l off. put_in plan u c.args.district x v inside (λ e f. off e)) middle c.spares_in-come.result.1 c.spares_in-come.result.0 come in
    omega (arith, few, c.spares_in-gone.ensures.few)

pub returns-clause-spared : goal.returns-clause-spared
returns-clause-spared c =
    let g = c.args.leaving.graph.now in
    let plan : List ℕ = c.args.leaving.plan.now in
    let u : ℕ = c.args.leaving.unit in
    let home : ℕ = get_or plan u 0 in
    let n : ℕ = length c.args.self.now.edges in
    let faces = c.args.table.now.faces in
    let end : ℕ = c.units-end.result in
    let below : (v : ℕ) → v < g.units → v < end = λ v l. omega (arith, l, c.units-end.ensures.units) in
    let are : AreFaces g faces = subst (λ (t : Graph). AreFaces t faces) c.requires.made c.spares_in-gone.ensures.faces in
    let gone = going g faces are (in_district plan) (between plan u) home u c.spares_in-gone.result.0 c.spares_in-gone.result.1 (is_before plan end home)
    (λ v l off. left_out plan u home v (λ e f. off f)) (λ v l off. before_all plan end home v (below v l)) c.spares_in-gone.ensures.ending c.spares_in-gone.ensures.starting
    (eq-eqb home home refl) (between_itself plan u home) in
    let inside : u < length plan = subst (λ t. u < t) (sym c.args.leaving.complete) c.args.leaving.within in
    let middle = shifted g faces are (in_district plan) (between plan u) home n c.args.self.now.spared c.requires.home (λ x v l off. left_out plan u x v (λ e f. off e)) c.requires.spared
    c.spares_in-gone.result.0 c.spares_in-gone.result.1 gone c.shift.new.self.spared c.shift.ensures.spared in
    let come = coming g faces are (between plan u) (in_district (set plan u c.args.district)) c.args.district u c.spares_in-come.result.0 c.spares_in-come.result.1 (is_before plan end c.args.district)
    (λ v l off. put_in plan u c.args.district c.args.district v inside (λ e f. off f))
    (λ v l off. before_all plan end c.args.district v (below v l) ∙ tests_between plan u c.args.district v off)
    c.spares_in-come.ensures.ending c.spares_in-come.ensures.starting (put_there plan u c.args.district inside) (between_itself plan u c.args.district) in
    shifted g faces are (between plan u) (in_district (set plan u c.args.district)) c.args.district n c.shift.new.self.spared c.requires.district
    (λ x v l off. put_in plan u c.args.district x v inside (λ e f. off e)) middle c.spares_in-come.result.1 c.spares_in-come.result.0 come c.shift-2.new.self.spared c.shift-2.ensures.spared

pub returns-clause-edges : goal.returns-clause-edges
returns-clause-edges c =
    c.shift-2.ensures.edges ∙ c.shift.ensures.edges

pub returns-clause-filled : goal.returns-clause-filled
returns-clause-filled c =
    c.shift-2.ensures.filled ∙ c.shift.ensures.filled
