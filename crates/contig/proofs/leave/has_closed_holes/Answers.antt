use Rattle.std.proofs.Common.{◌≤◌, ℕ, List, length, get_or, sym, ◌∙◌, subst, arith}
use Rattle.audit_model.specs.District.{in_district}
use Rattle.audit_model.specs.Graph.{Graph}
use Rattle.audit_model.specs.Limits.{most_edges}
use Rattle.audit_model.proofs.Local.{simple}
use Rattle.contig.specs.Counts.{missing_faces}
use Rattle.contig.specs.Faces.{AreCycles, AreFaces, count_inner_faces}
use Rattle.contig.proofs.Changing.{edges_few}
use Rattle.contig.proofs.Joining.{missing_counted}
use Rattle.contig.proofs.LongFaces.{closed_may_not}
use Rattle.contig.proofs.leave.has_closed_holes.Goals as goal

pub returns : goal.returns
returns c h connected off may =
    let m = c.args.leaving in
    let g = m.graph.now in
    let plan : List ℕ = m.plan.now in
    let home : ℕ = get_or plan m.unit 0 in
    let table = c.args.table.now in
    let counted = c.args.counts.now in
    let few : get_or counted.edges home 0 ≤ most_edges = omega (arith, c.requires.counts.edges home c.requires.district, edges_few g (in_district plan home), m.few_edges) in
    let exact = c.missing.ensures.exact c.requires.district few
    ∙ sym (missing_counted g table.faces plan (length counted.edges) home counted c.requires.counts c.requires.district) in
    let closed = c.closes_holes.ensures.closed h in
    let enough : missing_faces g table.faces (in_district plan home) ≤ count_inner_faces (in_district plan home) table.long = omega (arith, exact, closed.0) in
    closed_may_not g table.faces table.long plan m.unit (simple g m.sound) (subst (λ (t : Graph). AreFaces t table.faces) c.requires.made c.closes_holes.ensures.faces)
    c.closes_holes.ensures.clear (subst (λ (t : Graph). AreCycles t table.long) c.requires.made c.closes_holes.ensures.cycles) m.within connected enough closed.1 off may
