use Rattle.std.proofs.Common.{ℕ, ◌&&◌, List, get_or, arith}
use Rattle.std.proofs.Math.ListN.{set}
use Rattle.audit_model.specs.Graph.{adjacent}
use Rattle.audit_model.specs.District.{in_district}
use Rattle.audit_model.proofs.Below.{count_below_le}
use Rattle.audit_model.proofs.Meeting.{cut_edges_few}
use Rattle.district_sums.proofs.Shifted.{moved_cut}
use Rattle.district_sums.proofs.shifting.cut_with.Goals as goal

pub overflow_add-result : goal.overflow_add-result
overflow_add-result c =
    let g = c.args.member.graph.now in
    let plan : List ℕ = c.args.member.plan.now in
    let u : ℕ = c.args.member.unit in
    omega (arith, c.requires.home_mates, count_below_le g.units (λ v. adjacent g u v && in_district plan (get_or plan u 0) v), c.args.member.few)

pub overflow_sub-result : goal.overflow_sub-result
overflow_sub-result c =
    let plan : List ℕ = c.args.member.plan.now in
    let u : ℕ = c.args.member.unit in
    let moved = moved_cut plan u c.args.district (omega (arith, c.args.member.within, c.args.member.complete)) c.args.member.graph.now c.args.member.sound c.args.member.within in
    omega (arith, moved, c.requires.before, c.requires.home_mates, c.requires.other_mates)

pub overflow_cast-result : goal.overflow_cast-result
overflow_cast-result c =
    let g = c.args.member.graph.now in
    let plan : List ℕ = c.args.member.plan.now in
    let u : ℕ = c.args.member.unit in
    let moved = moved_cut plan u c.args.district (omega (arith, c.args.member.within, c.args.member.complete)) g c.args.member.sound c.args.member.within in
    omega (arith, moved, c.requires.before, c.requires.home_mates, c.requires.other_mates, cut_edges_few g (set plan u c.args.district), c.args.member.few_edges)

pub returns : goal.returns
returns c =
    let plan : List ℕ = c.args.member.plan.now in
    let u : ℕ = c.args.member.unit in
    let moved = moved_cut plan u c.args.district (omega (arith, c.args.member.within, c.args.member.complete)) c.args.member.graph.now c.args.member.sound c.args.member.within in
    omega (arith, moved, c.requires.before, c.requires.home_mates, c.requires.other_mates)
