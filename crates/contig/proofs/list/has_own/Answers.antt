use Rattle.std.proofs.Common.{◌<◌, ℕ, sym, subst}
use Rattle.contig.proofs.Indexing.{first_near}
use Rattle.contig.proofs.Turning.{ring_fits}
use Rattle.contig.proofs.list.has_own.Goals as goal

pub index_of-requires-clause-units : goal.index_of-requires-clause-units
index_of-requires-clause-units c =
    let near = first_near c.args.graph.now c.args.face (ring_fits c.args.graph.now c.args.face c.requires.ring) in
    subst (λ (p : ℕ × ℕ). (p.0 < c.args.graph.now.units) × (p.1 < c.args.graph.now.units)) (sym c.first_two-x.ensures) (near.0, near.1)
