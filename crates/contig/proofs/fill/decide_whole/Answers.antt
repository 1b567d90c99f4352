use Rattle.std.proofs.Common.{◌+◌, ◌≤◌, ℕ, List, get_or, subst, arith}
use Rattle.std.proofs.lemmas.Bool.{both_ways, false≢true}
use Rattle.audit_model.specs.District.{in_district}
use Rattle.audit_model.specs.Graph.{Graph}
use Rattle.audit_model.proofs.Local.{simple}
use Rattle.contig.specs.Counts.{filled_of, missing_faces}
use Rattle.contig.specs.Faces.{AreCycles, AreFaces, AreLinked, count_inner_edges, count_inner_faces}
use Rattle.contig.proofs.LongFaces.{closed_may_not}
use Rattle.contig.proofs.fill.decide_whole.Goals.{else-missing-gt0-via-then-missing-gt0+else-not-closes_holes, else-missing-gt0-via-else-missing-gt0}
use Rattle.contig.proofs.fill.decide_whole.Goals as goal

pub returns : goal.returns
returns c =
    let m = c.args.leaving in
    let g = m.graph.now in
    let plan : List ℕ = m.plan.now in
    let home : ℕ = get_or plan m.unit 0 in
    let table = c.args.table.now in
    let missing = c.requires.missing in (
      λ h. absurd (false≢true h),
      λ may. elim c.else-missing-gt0.branch [
        | else-missing-gt0-via-then-missing-gt0+else-not-closes_holes w ↦
            let off = λ (linked : AreLinked g table.faces plan m.unit). both_ways c.links_mates.result c.if-links_mates.false (c.links_mates.ensures.linked.1 linked) in
            let closed = w.closes_holes.ensures.closed w.if-not-closes_holes.false in
            let enough : missing_faces g table.faces (in_district plan home) ≤ count_inner_faces (in_district plan home) table.long = omega (arith, missing, closed.0) in
            absurd (closed_may_not g table.faces table.long plan m.unit (simple g m.sound) (subst (λ (t : Graph). AreFaces t table.faces) c.requires.made w.closes_holes.ensures.faces)
            w.closes_holes.ensures.clear (subst (λ (t : Graph). AreCycles t table.long) c.requires.made w.closes_holes.ensures.cycles) m.within c.requires.connected enough closed.1 off may)
        | else-missing-gt0-via-else-missing-gt0 w ↦
            let whole : count_inner_edges g (in_district plan home) + 1 ≤ filled_of g table.faces (in_district plan home) = omega (arith, missing, w.if-missing-gt0.false) in
            absurd (c.links_mates.ensures.may_not c.if-links_mates.false c.requires.connected whole may)
      ],
    )
