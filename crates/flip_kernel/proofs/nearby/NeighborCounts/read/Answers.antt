use Rattle.std.proofs.Common.{ℕ, ◌+◌, ◌*◌, List, length, get_or, ap, ◌∙◌, arith}
use Rattle.std.proofs.lemmas.List.{get_or_default}
use Rattle.flip_kernel.proofs.NearPairs.{near_few}
use Rattle.flip_kernel.proofs.Tables.{place_within}
use Rattle.flip_kernel.proofs.nearby.NeighborCounts.read.Goals as goal

pub index-requires : goal.index-requires
index-requires c =
    let inside = place_within c.args.member.graph.now.units c.args.districts c.args.member.unit c.args.district (length c.args.self.now) c.args.member.within
    c.requires.district (c.requires.table c.requires.stored).width in
    omega (arith, inside, ap (length {A = ℕ}) c.self.view_is, c.self.inside.table.ok.0)

pub returns-clause-value : goal.returns-clause-value
returns-clause-value c =
    let near = c.requires.table c.requires.stored in
    let place : ℕ = c.args.member.unit * c.args.districts + c.args.district in
    let inside = place_within c.args.member.graph.now.units c.args.districts c.args.member.unit c.args.district (length c.args.self.now) c.args.member.within
    c.requires.district near.width in
    c.index.ensures
    ∙ get_or_default c.self.inside.table.items place c.index.result.now 0 (omega (arith, inside, ap (length {A = ℕ}) c.self.view_is))
    ∙ ap (λ (xs : List ℕ). get_or xs place 0) c.self.view_is
    ∙ near.each c.args.member.unit c.args.district c.args.member.within c.requires.district

pub returns-clause-few : goal.returns-clause-few
returns-clause-few c =
    let member = c.args.member in
    omega (
      arith,
      near_few member.graph.now member.plan.now member.unit c.args.district member.sound,
      (c.requires.table c.requires.stored).short member.unit member.within,
    )
