use Rattle.std.proofs.Common.{◌≤◌, ◌+◌, ◌∙◌, subst, arith}
use Rattle.audit_model.specs.Graph.{Graph}
use Rattle.contig.specs.Faces.{AreFaces}
use Rattle.contig.proofs.Joining.{joined_few, joined_missing}
use Rattle.contig.proofs.missing.missing_with.Goals as goal

-- the bounds on what comes and goes
few : (c : goal.After-spares_in-starting)
    → (c.args.missing + c.mates_in-mates.result + c.spares_in-starting.result.1 ≤ 5000000) × (1 + c.corners_with-corners.result + c.spares_in-starting.result.0 ≤ 9000000)
few c =
    let m = c.args.joining in
    let faces = c.args.table.now.faces in
    let are : AreFaces m.graph.now faces = subst (λ (t : Graph). AreFaces t faces) c.requires.made c.corners_with-corners.ensures.faces in
    joined_few m.graph.now m.sound faces are m.plan.now m.unit c.args.district c.units-end.result c.mates_in-mates.result c.corners_with-corners.result
    c.spares_in-starting.result.0 c.spares_in-starting.result.1 c.args.missing m.within m.complete c.units-end.ensures.units c.requires.elsewhere c.mates_in-mates.ensures
    c.corners_with-corners.ensures.count c.spares_in-starting.ensures.ending c.spares_in-starting.ensures.starting c.requires.missing m.few_edges c.corners_with-corners.ensures.few m.few

pub overflow_add-missing : goal.overflow_add-missing
overflow_add-missing c = let bounds = few c in omega (arith, bounds.0)

pub overflow_add-missing-2 : goal.overflow_add-missing-2
overflow_add-missing-2 c = let bounds = few c in omega (arith, bounds.0)

pub overflow_add-corners : goal.overflow_add-corners
overflow_add-corners c = let bounds = few c in omega (arith, bounds.1)

pub overflow_add-corners-2 : goal.overflow_add-corners-2
overflow_add-corners-2 c = let bounds = few c in omega (arith, bounds.1)

pub returns : goal.returns
returns c =
    let m = c.args.joining in
    let faces = c.args.table.now.faces in
    let are : AreFaces m.graph.now faces = subst (λ (t : Graph). AreFaces t faces) c.requires.made c.corners_with-corners.ensures.faces in
    c.saturating_sub.ensures
    ∙ joined_missing m.graph.now m.sound faces are m.plan.now m.unit c.args.district c.units-end.result c.mates_in-mates.result c.corners_with-corners.result
    c.spares_in-starting.result.0 c.spares_in-starting.result.1 c.args.missing m.within m.complete c.units-end.ensures.units c.requires.elsewhere c.mates_in-mates.ensures
    c.corners_with-corners.ensures.count c.spares_in-starting.ensures.ending c.spares_in-starting.ensures.starting c.requires.missing c.requires.some
