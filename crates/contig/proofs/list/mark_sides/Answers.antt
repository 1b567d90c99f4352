use Rattle.std.proofs.Common.{◌≡◌, true, subst}
use Rattle.contig.specs.Faces.{has_side}
use Rattle.contig.specs.Rings.{ring_of}
use Rattle.contig.specs.declared.face.Face.{Face}
use Rattle.contig.proofs.list.mark_sides.Goals as goal

pub returns-in-Triangle-clause-there : goal.returns-in-Triangle-clause-there
returns-in-Triangle-clause-there c x y h = c.mark_triangle.ensures.there x y (subst (λ (f : Face). has_side (ring_of f) x y ≡ true) c.in-Triangle.is h)

pub returns-in-Square-clause-there : goal.returns-in-Square-clause-there
returns-in-Square-clause-there c x y h = c.mark_square.ensures.there x y (subst (λ (f : Face). has_side (ring_of f) x y ≡ true) c.in-Square.is h)

pub returns-in-Pentagon-clause-there : goal.returns-in-Pentagon-clause-there
returns-in-Pentagon-clause-there c x y h = c.mark_pentagon.ensures.there x y (subst (λ (f : Face). has_side (ring_of f) x y ≡ true) c.in-Pentagon.is h)
