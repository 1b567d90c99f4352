use Rattle.std.proofs.Common.{sym, subst, ◌∙◌, ◌≡◌, true}
use Rattle.contig.specs.Faces.{IsRing, has_side}
use Rattle.contig.specs.Rings.{ring_of}
use Rattle.contig.specs.declared.face.Face.{Face}
use Rattle.contig.proofs.Listing.{bare_spare}
use Rattle.contig.proofs.list.mark_face.Goals as goal

pub mark_sides-requires-then-is_some-clause-ring : goal.mark_sides-requires-then-is_some-clause-ring
mark_sides-requires-then-is_some-clause-ring c = subst (λ (r : Face). IsRing c.args.graph.now (ring_of r)) (sym c.spare_ring.ensures) c.requires.spare

pub returns-else-is_some-clause-spare : goal.returns-else-is_some-clause-spare
returns-else-is_some-clause-spare c = λ x y h.
    c.mark_sides.ensures.there x y (subst (λ (r : Face). has_side (ring_of r) x y ≡ true) (bare_spare c.args.face.ring c.args.face.spare (sym c.is_some.ensures ∙ c.if-is_some.false)) h)
