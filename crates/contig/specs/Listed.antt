-- Lists of faces, and their sides.
use Rattle.std.specs.Prelude.{◌≡◌, ℕ, ◌+◌, ◌==◌, Bool, false, cond, nat_lt, IsTrue, List, [], ◌∷◌, ◌++◌, length}
use Rattle.std.specs.List.{list_any, position_or_len, slice_index_or}
use Rattle.audit_model.specs.Below.{sum_below}
use Rattle.audit_model.specs.Graph.{Graph}
use Rattle.audit_model.specs.Length.{degree}
use Rattle.contig.specs.declared.face.Candidate.{Candidate}
use Rattle.contig.specs.declared.face.Face.{Face}
use Rattle.contig.specs.declared.face.Face.TheVariants.{Triangle, Square, Pentagon}
use Rattle.contig.specs.Faces.{SparedFace, has_side, both_rings, AreFaces, AreClear}
use Rattle.contig.specs.Rings.{face_of}

-- the faces of candidates, the last one first
abbrev pub listed : List Candidate → List SparedFace
listed [] = []
listed (candidate ∷ later) = listed later ++ face_of candidate ∷ []

-- x and y as a pair, smaller unit first
abbrev pub side : ℕ → ℕ → ℕ × ℕ
side x y = cond {A = ℕ × ℕ} (nat_lt x y) (x, y) (y, x)

-- the first two units of a face
abbrev pub first_pair : Face → ℕ × ℕ
first_pair (Triangle a b c) = (a, b)
first_pair (Square a b c d) = (a, b)
first_pair (Pentagon a b c d e) = (a, b)

-- the own side of a face
abbrev pub own_side : Face → ℕ × ℕ
own_side face = side (first_pair face).0 (first_pair face).1

-- the index of the directed edge from u to v, in a list of all by their first units
abbrev pub arc_index : Graph → ℕ → ℕ → ℕ
arc_index g u v = sum_below u (degree g) + position_or_len (λ m. m == v) (slice_index_or g.neighbours u [])

-- a side is marked, at the index of the directed edge from its smaller unit
abbrev pub is_marked : Graph → List Bool → ℕ × ℕ → Bool
is_marked g marks side = slice_index_or marks (arc_index g side.0 side.1) false

-- these are faces whose own sides belong to none of the long rings, and all sides of the long rings, of the faces' rings and
-- of their spare rings are marked
pub record AreListed (g : Graph) (long : List (List ℕ)) (faces : List SparedFace) (marks : List Bool) : Type 0 where
  pub are : AreFaces g faces
  pub clear : AreClear faces long
  pub width : length marks ≡ sum_below g.units (degree g)
  pub marked : (x y : ℕ) → IsTrue (list_any (λ ring. has_side ring x y) (both_rings faces)) → IsTrue (is_marked g marks (side x y))
  pub long_marked : (x y : ℕ) → IsTrue (list_any (λ ring. has_side ring x y) long) → IsTrue (is_marked g marks (side x y))
