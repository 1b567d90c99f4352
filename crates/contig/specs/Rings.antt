-- The rings that faces of the program represent.
use Rattle.std.specs.Prelude.{ℕ, Bool, not, cond, Option, Some, None, ◌&&◌, ◌==◌, nat_lt, List, [], ◌∷◌}
use Rattle.audit_model.specs.Graph.{Graph, adjacent}
use Rattle.contig.specs.Faces.{SparedFace, WithoutSpare, WithSpare}
use Rattle.contig.specs.declared.face.Candidate.{Candidate}
use Rattle.contig.specs.declared.face.Face.{Face}
use Rattle.contig.specs.declared.face.Face.TheVariants.{Triangle, Square, Pentagon}

-- the units of a face, in order
abbrev pub ring_of : Face → List ℕ
ring_of (Triangle a b c) = a ∷ b ∷ c ∷ []
ring_of (Square a b c d) = a ∷ b ∷ c ∷ d ∷ []
ring_of (Pentagon a b c d e) = a ∷ b ∷ c ∷ d ∷ e ∷ []

-- the spare ring of a triangle and a fourth unit, or the ring if there is none
abbrev pub spare_by : Face → Option ℕ → Face
spare_by (Triangle a b c) (Some d) = Triangle a b d
spare_by (Triangle a b c) None = Triangle a b c
spare_by (Square a b c d) spare = Square a b c d
spare_by (Pentagon a b c d e) spare = Pentagon a b c d e

-- the face of a ring and a fourth unit
abbrev pub face_by : Face → Option ℕ → SparedFace
face_by (Triangle a b c) (Some d) = WithSpare a b c d
face_by (Triangle a b c) None = WithoutSpare (a ∷ b ∷ c ∷ [])
face_by (Square a b c d) spare = WithoutSpare (a ∷ b ∷ c ∷ d ∷ [])
face_by (Pentagon a b c d e) spare = WithoutSpare (a ∷ b ∷ c ∷ d ∷ e ∷ [])

-- the face of a candidate
abbrev pub face_of : Candidate → SparedFace
face_of candidate = face_by candidate.ring candidate.spare

-- five units are distinct
abbrev pub differ : ℕ → ℕ → ℕ → ℕ → ℕ → Bool
differ a b c d e =
    not (a == b) && (not (a == c) && (not (a == d) && (not (a == e) && (not (b == c) && (not (b == d) && (not (b == e) && (not (c == d) && (not (c == e) && not (d == e)))))))))

-- each of five units is adjacent to the next, and the last to the first
abbrev pub follow : Graph → ℕ → ℕ → ℕ → ℕ → ℕ → Bool
follow g a b c d e = adjacent g a b && (adjacent g b c && (adjacent g c d && (adjacent g d e && adjacent g e a)))

-- the units are distinct units of the graph, each adjacent to the next and the last to the first
abbrev pub goes_round : Graph → Face → Bool
goes_round g (Triangle a b c) =
    nat_lt a g.units && (nat_lt b g.units && (nat_lt c g.units && (not (a == b) && (not (a == c) && (not (b == c)
    && (adjacent g a b && (adjacent g b c && adjacent g c a)))))))
goes_round g (Square a b c d) =
    nat_lt a g.units && (nat_lt b g.units && (nat_lt c g.units && (nat_lt d g.units
    && (not (a == b) && (not (a == c) && (not (a == d) && (not (b == c) && (not (b == d) && (not (c == d)
    && (adjacent g a b && (adjacent g b c && (adjacent g c d && adjacent g d a))))))))))))
goes_round g (Pentagon a b c d e) =
    nat_lt a g.units && (nat_lt b g.units && (nat_lt c g.units && (nat_lt d g.units && (nat_lt e g.units && (differ a b c d e && follow g a b c d e)))))

-- the face of a ring and a fourth unit, without a spare if the spare ring is no other ring of the graph
abbrev pub fit_by : Graph → Face → Option ℕ → SparedFace
fit_by g (Triangle a b c) (Some d) = cond {A = SparedFace} (not (c == d) && goes_round g (Triangle a b d)) (WithSpare a b c d) (WithoutSpare (a ∷ b ∷ c ∷ []))
fit_by g (Triangle a b c) None = WithoutSpare (a ∷ b ∷ c ∷ [])
fit_by g (Square a b c d) spare = WithoutSpare (a ∷ b ∷ c ∷ d ∷ [])
fit_by g (Pentagon a b c d e) spare = WithoutSpare (a ∷ b ∷ c ∷ d ∷ e ∷ [])

-- the ring, rotated to begin with its second unit
abbrev pub turned : Face → Face
turned (Triangle a b c) = Triangle b c a
turned (Square a b c d) = Square b c d a
turned (Pentagon a b c d e) = Pentagon b c d e a
