use Rattle.std.proofs.Common.{ℕ, List, get_or, arith}
use Rattle.std.proofs.lemmas.Bool.{both_ways, false≢true}
use Rattle.audit_model.specs.District.{in_district}
use Rattle.contig.specs.Faces.{AreLinked}
use Rattle.contig.proofs.Choosing.{chosen_counted}
use Rattle.contig.proofs.leave.decide_by_counting.Goals as goal

pub returns-then-has_no_hole-clause-observed : goal.returns-then-has_no_hole-clause-observed
returns-then-has_no_hole-clause-observed c =
    let plan : List ℕ = c.args.leaving.plan.now in
    let district : ℕ = get_or plan c.args.leaving.unit 0 in
    let faces = c.args.table.now.faces in
    let none = c.has_no_hole.ensures.0 c.if-has_no_hole.true in
    let edges = c.requires.counts.edges district c.requires.district in
    let filled = c.requires.counts.filled district c.requires.district in
    let spared = c.requires.counts.spared district c.requires.district in
    let more = chosen_counted (in_district plan district) faces in
    (λ h. absurd (false≢true h), λ may. absurd (c.links_mates.ensures.may_not c.if-links_mates.false c.requires.connected (omega (arith, none, edges, filled, spared, more)) may))

pub returns-then-has_closed_holes-clause-observed : goal.returns-then-has_closed_holes-clause-observed
returns-then-has_closed_holes-clause-observed c =
    let m = c.args.leaving in
    let off = λ (linked : AreLinked m.graph.now c.args.table.now.faces m.plan.now m.unit). both_ways c.links_mates.result c.if-links_mates.false (c.links_mates.ensures.linked.1 linked) in
    (λ h. absurd (false≢true h), λ may. absurd (c.has_closed_holes.ensures c.if-has_closed_holes.true c.requires.connected off may))
