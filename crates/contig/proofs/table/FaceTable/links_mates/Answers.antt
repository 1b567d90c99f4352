use Rattle.std.proofs.Common.{subst}
use Rattle.std.proofs.lemmas.Bool.{both_ways}
use Rattle.audit_model.specs.Graph.{Graph}
use Rattle.audit_model.proofs.Local.{simple}
use Rattle.contig.specs.Faces.{AreFaces, chosen}
use Rattle.contig.proofs.Around.{linked_may_leave}
use Rattle.contig.proofs.Choosing.{chosen_are_rings}
use Rattle.contig.proofs.Merging.{home}
use Rattle.contig.proofs.RingLinks.{leaving_is_linked}
use Rattle.contig.proofs.Rings.{rings_are_cycles}
use Rattle.contig.proofs.table.FaceTable.links_mates.Goals as goal

pub returns-clause-may : goal.returns-clause-may
returns-clause-may c h connected =
    let g = c.args.leaving.graph.now in
    let inside = home c.args.leaving.plan.now c.args.leaving.unit in
    let faces = c.args.self.now.faces in
    linked_may_leave g (chosen inside faces) c.args.leaving.plan.now c.args.leaving.unit (simple g c.args.leaving.sound)
    (chosen_are_rings g inside faces (subst (λ (t : Graph). AreFaces t faces) c.requires.made c.are_mates_linked.ensures.faces)) (c.are_mates_linked.ensures.linked.0 h) connected

pub returns-clause-may_not : goal.returns-clause-may_not
returns-clause-may_not c h connected holes may =
    let g = c.args.leaving.graph.now in
    let inside = home c.args.leaving.plan.now c.args.leaving.unit in
    let faces = c.args.self.now.faces in
    both_ways c.are_mates_linked.result h (c.are_mates_linked.ensures.linked.1
    (leaving_is_linked g (chosen inside faces) c.args.leaving.plan.now c.args.leaving.unit (simple g c.args.leaving.sound)
    (rings_are_cycles g (chosen inside faces) (chosen_are_rings g inside faces (subst (λ (t : Graph). AreFaces t faces) c.requires.made c.are_mates_linked.ensures.faces)))
    c.args.leaving.within connected holes may))
