use Rattle.std.proofs.Common.{◌≡◌, ℕ, length, replicate, ap, ◌∙◌, arith}
use Rattle.std.specs.Vec.{vec_len}
use Rattle.contig.specs.Counts.{Counted}
use Rattle.contig.proofs.counts.FaceCounts.clear.Goals as goal

pub returns-clause-edges : goal.returns-clause-edges
returns-clause-edges c =
    let all : vec_len c.self.inside.edges ≡ length c.self.inside.edges.items = omega (arith, c.self.inside.edges.ok.0) in
    c.fill.ensures.items (λ y e. e) ∙ ap (λ (n : ℕ). replicate {A = ℕ} n 0) all ∙ ap (λ (v : Counted). replicate {A = ℕ} (length v.edges) 0) c.self.view_is

pub returns-clause-filled : goal.returns-clause-filled
returns-clause-filled c =
    let all : vec_len c.self.inside.filled ≡ length c.self.inside.edges.items = omega (arith, c.self.inside.filled.ok.0, c.self.invariant) in
    c.fill-2.ensures.items (λ y e. e) ∙ ap (λ (n : ℕ). replicate {A = ℕ} n 0) all ∙ ap (λ (v : Counted). replicate {A = ℕ} (length v.edges) 0) c.self.view_is
